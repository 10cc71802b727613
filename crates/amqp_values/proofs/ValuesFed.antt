-- A value that holds others is fed as its label, and then what it holds, or the first of that.
use Rattle.std.proofs.Common.{◌≡◌, ◌++◌, ◌+◌, List, [], ◌∷◌, ℕ, zero, suc, map as map_list, take, sym, refl, ap, ◌∙◌, arith}
use Rattle.std.specs.List.{fold}
use Rattle.std.specs.Hash.{fed_then, fed_along}
use Rattle.amqp_model.specs.Term.{Container, Term, Terms, container, more}
use Rattle.amqp_model.specs.Items.{terms_of}
use Rattle.amqp_values.specs.Labels.{Label, label_of, label_fed}
use Rattle.amqp_values.specs.declared.value.Value.{Value}
use Rattle.amqp_values.specs.Digests.{leaf_fed, leaves_fed, first_terms, seen, shallow_fed}
use Rattle.amqp_values.specs.Equality.{turn_terms}
use Rattle.amqp_values.specs.Hashed.{fed_term, fed_terms}
use Rattle.amqp_values.specs.Values.{value_term}

pub first_values : (n : ℕ) (vs : List Value) → terms_of (map_list value_term (take n vs)) ≡ first_terms n (terms_of (map_list value_term vs))
first_values zero vs = refl
first_values (suc n) [] = refl
first_values (suc n) (v ∷ vs) = ap (more (value_term v)) (first_values n vs)

one_pair_more : (n : ℕ) (ps : List (Value × Value)) → ((qs : List (Value × Value)) → turn_terms (take n qs) ≡ first_terms (n + n) (turn_terms qs))
    → turn_terms (take (suc n) ps) ≡ first_terms (suc (suc (n + n))) (turn_terms ps)
one_pair_more n [] f = refl
one_pair_more n (p ∷ ps) f = ap (λ ts. more (value_term p.0) (more (value_term p.1) ts)) (f ps)

pub first_pairs : (n : ℕ) (ps : List (Value × Value)) → turn_terms (take n ps) ≡ first_terms (n + n) (turn_terms ps)
first_pairs zero ps = refl
first_pairs (suc n) ps = let twice : suc n + suc n ≡ suc (suc (n + n)) = omega arith in rw twice (one_pair_more n ps (first_pairs n))

module _ {S : Type 0} (write : S → List ℕ → S) where
  pub container_fed : (first mid last : S) (l : Label) (k : Container) (ts : Terms) (t : Term) → t ≡ container k ts → l ≡ label_of t
      → mid ≡ fold write first (label_fed l) → last ≡ fold write mid (fed_terms ts) → last ≡ fold write first (fed_term t)
  container_fed first mid last l k ts t e f g h =
      fed_along write first last
      (ap (λ m. label_fed m ++ fed_terms ts) (f ∙ ap label_of e) ∙ ap fed_term (sym e))
      (fed_then write first mid last (label_fed l) (fed_terms ts) g h)

  pub seen_fed : (first mid last : S) (l : Label) (k : Container) (ts us : Terms) (t : Term) → t ≡ container k ts → l ≡ label_of t
      → us ≡ first_terms (seen k) ts → mid ≡ fold write first (leaf_fed l) → last ≡ fold write mid (leaves_fed us)
      → last ≡ fold write first (shallow_fed t)
  seen_fed first mid last l k ts us t e f s g h =
      fed_along write first last
      (ap (λ m. leaf_fed m ++ leaves_fed us) (f ∙ ap label_of e)
      ∙ (ap (λ ws. leaf_fed (label_of (container k ts)) ++ leaves_fed ws) s ∙ ap shallow_fed (sym e)))
      (fed_then write first mid last (leaf_fed l) (leaves_fed us) g h)
