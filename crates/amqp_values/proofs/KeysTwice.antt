-- Pairs that were read have other keys, or the key of one is that of a pair before it.
use Rattle.std.proofs.Common.{◌≡◌, ◌≤◌, ℕ, Bool, true, false, None, List, [], ◌∷◌, ◌++◌, length, refl, sym, ◌∙◌, subst, arith}
use Rattle.std.proofs.lemmas.List.{append-nil, append_assoc}
use Rattle.amqp_codec.specs.EqualKeys.{is_among_keys, has_equal_keys}
use Rattle.amqp_decoder.specs.State.{State}
use Rattle.amqp_codec.specs.MapReading.{Pairs}
use Rattle.amqp_codec.specs.laws.MapReading.{others_more, pairs_still}
use Rattle.amqp_codec.specs.Pairs.{HaveOtherKeys}
use Rattle.amqp_codec.specs.TreeType.{SameTree}
use Rattle.amqp_codec.proofs.MapSteps.{KeyTwice}
use Rattle.amqp_kinds.specs.laws.TreeMeanings.{keys_differ, differ_keys, turns_canons}
use Rattle.amqp_values.specs.declared.value.Value.{Value}
use Rattle.amqp_values.specs.Equality.{turn_terms}
use Rattle.amqp_values.specs.Levels.{value_in}
use Rattle.amqp_values.specs.Values.{value_term}
use Rattle.amqp_values.specs.laws.Values.{values_are_trees}
use Rattle.amqp_values.proofs.ValueSteps.{key_new, key_known}

abbrev Others : List (Value × Value) → Type 0
Others = HaveOtherKeys (SameTree value_term values_are_trees)

pub keys_apart : (ps : List (Value × Value)) → false ≡ has_equal_keys (turn_terms ps) → Others ps
keys_apart ps e =
    differ_keys value_term values_are_trees ps
    (subst (λ ts. has_equal_keys ts ≡ false) (turns_canons value_term values_are_trees ps) (sym e))

not_apart : (ps : List (Value × Value)) → true ≡ has_equal_keys (turn_terms ps) → Others ps → ⊥
not_apart ps e o =
    let d : has_equal_keys (turn_terms ps) ≡ false =
    subst (λ ts. has_equal_keys ts ≡ false) (sym (turns_canons value_term values_are_trees ps)) (keys_differ value_term values_are_trees ps o) in
    cc

module _ (levels : ℕ) where
  abbrev Twice : List (Value × Value) → Type 0
  Twice = KeyTwice (value_in levels) (value_in levels)

  -- the next key is one of those before it, or goes to them
  next_key : (qs : List (Value × Value)) (p : Value × Value) (rest : List (Value × Value)) → Others qs → (Others (qs ++ p ∷ rest) → ⊥)
      → (Others (qs ++ p ∷ []) → (Others ((qs ++ p ∷ []) ++ rest) → ⊥) → Twice ((qs ++ p ∷ []) ++ rest)) → (b : Bool)
      → b ≡ is_among_keys (value_term p.0) (turn_terms qs) → Twice (qs ++ p ∷ rest)
  next_key qs p rest o n further true e =
      record { before = qs; pair = p; behind = rest; is = refl; others = o; known = key_known p.0 qs true refl e }
  next_key qs p rest o n further false e =
      let next = append_assoc qs (p ∷ []) rest in
      subst Twice next
      (further (others_more (value_in levels) (value_in levels) qs p.0 p.1 o (key_new p.0 qs false refl e)) (λ h. n (subst Others next h)))

  found : (qs rest : List (Value × Value)) → Others qs → (Others (qs ++ rest) → ⊥) → Twice (qs ++ rest)
  found qs [] o n = absurd (n (subst Others (sym (append-nil qs)) o))
  found qs (p ∷ rest) o n = next_key qs p rest o n (found (qs ++ p ∷ []) rest) (is_among_keys (value_term p.0) (turn_terms qs)) refl

  pub key_twice : (ps : List (Value × Value)) → true ≡ has_equal_keys (turn_terms ps) → Twice ps
  key_twice ps e = found [] ps tt (not_apart ps e)

  -- behind some pairs nothing was refused
  pub pairs_going : (st : State) (ps : List (Value × Value)) (b : State) → (length ps ≤ 8 → false ≡ true)
      → Pairs (value_in levels) (value_in levels) st ps b → b.error ≡ None
  pairs_going st [] b l h = let none : 0 ≤ 8 = omega arith in let e = l none in cc
  pairs_going st (p ∷ ps) b l h = (pairs_still (value_in levels) (value_in levels) st (p ∷ ps) b h).0 ∙ h.2.stands.going
