-- Rows of values, and of keys and values in turn, are compared one by one.
use Rattle.std.proofs.Common.{◌≡◌, ℕ, suc, Bool, true, false, ◌&&◌, List, [], ◌∷◌, length, drop}
use Rattle.std.proofs.Common.{map as map_list, refl, ap, ◌∙◌}
use Rattle.amqp_model.specs.Term.{Term, Terms}
use Rattle.amqp_model.specs.Items.{terms_of}
use Rattle.amqp_codec.specs.EqualKeys.{same_terms, is_among_keys, has_equal_keys}
use Rattle.amqp_values.specs.declared.value.Value.{Value}
use Rattle.amqp_values.specs.Values.{value_term}
use Rattle.amqp_values.specs.Equality.{value_eq, turn_terms}

and_no : (b c : Bool) → c ≡ false → b && c ≡ false
and_no true c e = e
and_no false c e = refl

and_both : (a b c : Bool) → a && (b && c) ≡ (a && b) && c
and_both true b c = refl
and_both false b c = refl

-- How rows of things are compared, whose terms are these.
pub record Compared {A : Type 0} (terms : List A → Terms) (eq : A → A → Bool) : Type 0 where
  pub none_left : same_terms (terms []) (terms []) ≡ true
  pub longer : (x : A) (xs : List A) → same_terms (terms (x ∷ xs)) (terms []) ≡ false
  pub shorter : (y : A) (ys : List A) → same_terms (terms []) (terms (y ∷ ys)) ≡ false
  pub one_more : (x y : A) (xs ys : List A)
      → same_terms (terms (x ∷ xs)) (terms (y ∷ ys)) ≡ eq x y && same_terms (terms xs) (terms ys)

module _ {A : Type 0} {terms : List A → Terms} {eq : A → A → Bool} (c : Compared terms eq) where
  pub other_length : (xs ys : List A) → (length xs ≡ length ys → ⊥) → same_terms (terms xs) (terms ys) ≡ false
  other_length [] [] n = absurd (n refl)
  other_length (x ∷ xs) [] n = c.longer x xs
  other_length [] (y ∷ ys) n = c.shorter y ys
  other_length (x ∷ xs) (y ∷ ys) n =
      c.one_more x y xs ys ∙ and_no (eq x y) _ (other_length xs ys (λ e. n (ap suc e)))

  -- those from a place on are compared as all are
  abbrev pub AsFrom : ℕ → List A → List A → Type 0
  AsFrom i xs ys = same_terms (terms (drop i xs)) (terms (drop i ys)) ≡ same_terms (terms xs) (terms ys)

pub values_compared : Compared (λ vs. terms_of (map_list value_term vs)) value_eq
values_compared = record { none_left = refl; longer = λ x xs. refl; shorter = λ y ys. refl; one_more = λ x y xs ys. refl }

abbrev pub pair_eq : Value × Value → Value × Value → Bool
pair_eq p q = value_eq p.0 q.0 && value_eq p.1 q.1

pub pairs_compared : Compared turn_terms pair_eq
pairs_compared = record {
  none_left = refl;
  longer = λ x xs. refl;
  shorter = λ y ys. refl;
  one_more = λ x y xs ys. and_both (value_eq x.0 y.0) (value_eq x.1 y.1) (same_terms (turn_terms xs) (turn_terms ys));
}

-- a key is looked for among those of pairs
abbrev pub AmongFrom : Term → ℕ → ℕ → List (Value × Value) → Type 0
AmongFrom k i j ps = is_among_keys k (turn_terms (drop i ps)) ≡ is_among_keys k (turn_terms (drop j ps))

-- equal keys are looked for from each pair on
abbrev pub EqualFrom : ℕ → List (Value × Value) → Type 0
EqualFrom i ps = has_equal_keys (turn_terms (drop i ps)) ≡ has_equal_keys (turn_terms ps)
