-- How values that hold others are written.
use Rattle.std.proofs.Common.{◌≡◌, ◌⊎◌, Bool, true, false, List, [], ◌∷◌, ap, ◌∙◌, cond, inl, inr, refl, sym}
use Rattle.std.specs.Prelude.{Result, Ok, Err}
use Rattle.std.specs.List.{flat_map}
use Rattle.amqp_model.specs.Term.{duplicate_key, map, Term, container, barred}
use Rattle.amqp_model.specs.Items.{terms_of}
use Rattle.amqp_wire.specs.declared.error.Error.{Error}
use Rattle.amqp_wire.specs.declared.error.Error.TheVariants.{DuplicateKey, Memory}
use Rattle.amqp_encoder.specs.State.{Encoder}
use Rattle.amqp_encoder.specs.Passes.{row_tokens}
use Rattle.amqp_encoder.specs.State.{Pass, Measuring, Filling, Stopped}
use Rattle.amqp_encoder.specs.Tokens.{Token, refuse}
use Rattle.amqp_encoder.specs.Values.{descriptor_of as written_descriptor}
use Rattle.amqp_lookahead.specs.Members.{descriptor_of}
use Rattle.amqp_wire.specs.declared.descriptor.Descriptor.{Descriptor as DescriptorValue}
use Rattle.amqp_wire.specs.declared.descriptor.Descriptor.TheVariants.{Name, Code}
use Rattle.amqp_encoder.specs.Writes.{Writes, Fills, Runs, AnyMayRunOut, steps, outcome, pass_of}
use Rattle.amqp_encoder.proofs.Joined.{steps_stopped}
use Rattle.amqp_codec.specs.EqualKeys.{has_equal_keys}
use Rattle.amqp_codec.specs.Written.{WritesTerms}
use Rattle.amqp_values.specs.declared.map.ValueMap.{ValueMap}
use Rattle.amqp_values.specs.declared.value.Value.{Map as MapOf}
use Rattle.amqp_values.specs.Values.{pairs_of}
use Rattle.amqp_values.specs.Canon.{value_canon, pair_canon}
use Rattle.amqp_values.specs.laws.Canon.{map_canon}
use Rattle.amqp_values.specs.Equality.{turn_terms}

-- a map without equal keys
pub open_map : (m : ValueMap) → has_equal_keys (turn_terms (pairs_of m)) ≡ false
    → value_canon (MapOf m) ≡ container map (terms_of (flat_map pair_canon (pairs_of m)))
open_map m e = map_canon m ∙ ap (λ b. cond b (barred duplicate_key) (container map (terms_of (flat_map pair_canon (pairs_of m))))) e

-- one with equal keys is refused
pub shut_map : (m : ValueMap) → has_equal_keys (turn_terms (pairs_of m)) ≡ true → value_canon (MapOf m) ≡ barred duplicate_key
shut_map m e = map_canon m ∙ ap (λ b. cond b (barred duplicate_key) (container map (terms_of (flat_map pair_canon (pairs_of m))))) e

pub found_equal : (m : ValueMap) (fills : Type 0) (found : Bool) → found ≡ true
    → (found ≡ has_equal_keys (turn_terms (pairs_of m))) ⊎ ((found ≡ false) × fills) → has_equal_keys (turn_terms (pairs_of m)) ≡ true
found_equal m fills found t (inl e) = sym e ∙ t
found_equal m fills found t (inr k) = let no = k.0 in cc

pub barred_written : (a b : Encoder) (r : Result (Unit {0}) Error) → Writes a (refuse DuplicateKey ∷ []) r b
    → WritesTerms (barred duplicate_key ∷ []) a r b
barred_written a b r w = record { calls = λ deep k f. inl w }

-- of one that is filled it is known that no two keys are equal
by_keys : (m : ValueMap) (a b : Encoder) (r : Result (Unit {0}) Error) (found : Bool) → found ≡ has_equal_keys (turn_terms (pairs_of m))
    → (found ≡ false) ⊎ Fills (pass_of a)
    → WritesTerms (container map (terms_of (flat_map pair_canon (pairs_of m))) ∷ []) a r b → WritesTerms (value_canon (MapOf m) ∷ []) a r b
by_keys m a b r false e known w = rw (open_map m (sym e)) w
by_keys m a b r true e (inl known) w = cc
by_keys m a b r true e (inr fills) w =
    rw (shut_map m (sym e)) (record { calls = λ deep k f. absurd (f fills duplicate_key (inl (inl refl))) })

pub map_written : (m : ValueMap) (a b : Encoder) (r : Result (Unit {0}) Error)
    → (false ≡ has_equal_keys (turn_terms (pairs_of m))) ⊎ ((false ≡ false) × Fills (pass_of a))
    → WritesTerms (container map (terms_of (flat_map pair_canon (pairs_of m))) ∷ []) a r b → WritesTerms (value_canon (MapOf m) ∷ []) a r b
map_written m a b r (inl e) w = by_keys m a b r false e (inl refl) w
map_written m a b r (inr k) w = by_keys m a b r (has_equal_keys (turn_terms (pairs_of m))) refl (inr k.1) w

-- the encoder's word and the decoder's are one
pub as_read : (d : DescriptorValue) → written_descriptor d ≡ descriptor_of d
as_read (Name s) = refl
as_read (Code n) = refl

-- a type that ran out of memory of its own
by_pass : (s t : Pass) (r : Result (Unit {0}) Error) (ts : List Token) → (Fills s → ⊥) → Runs s (refuse Memory ∷ []) r t
    → Runs s ts r t ⊎ ((outcome s ≡ Ok tt) × (r ≡ Err Memory) × (t ≡ Stopped Memory))
unfolding steps AnyMayRunOut
by_pass (Measuring m) t r ts n w =
    let stopped : t ≡ Stopped Memory = elim w.state [ inl e ↦ e | inr o ↦ o.1 ] in inr (refl, w.answer ∙ ap outcome stopped, stopped)
by_pass (Filling f) t r ts n w = absurd (n tt)
by_pass (Stopped e) t r ts n w =
    let stopped : t ≡ Stopped e = elim w.state [ inl e ↦ e | inr o ↦ absurd (elim o.0 [ inl x ↦ x | inr x ↦ x ]) ] in
    inl (record { answer = w.answer; state = inl (stopped ∙ sym (steps_stopped e ts)) })

pub gave_up : (ts : List Term) (a b : Encoder) (r : Result (Unit {0}) Error) → (Fills (pass_of a) → ⊥) → Writes a (refuse Memory ∷ []) r b
    → WritesTerms ts a r b
gave_up ts a b r not_filled w = record {
  calls = λ deep k f.
      elim (by_pass (pass_of a) (pass_of b) r (row_tokens deep ts) not_filled w.runs) [
        | inl runs ↦ inl (record { runs = runs; kept = w.kept })
        | inr (going, answer, stopped) ↦ inr (record { was_going = going; not_filled = not_filled; answer = answer; state = stopped; kept = w.kept })
      ];
}
