-- Composites with different descriptors have terms of different forms.
use Rattle.std.proofs.Common.{◌≡◌, ℕ, Bool, true, false, ◌&&◌, not, eqb, eq-eqb, List, [], ◌∷◌, Option, Some, None, refl, sym, ap}
use Rattle.std.proofs.Common.{◌∙◌, subst, get_or}
use Rattle.amqp_model.specs.Term.{list, Descriptor, name, code, Terms, container, described}
use Rattle.amqp_model.specs.Text.{form}
use Rattle.amqp_model.specs.Composite.{Describes}
use Rattle.amqp_model.specs.laws.Item.{clash}
use Rattle.amqp_model.specs.laws.Composite.{by_cases}
use Rattle.amqp_codec.specs.Composite.{Table, table_of, composite}
use Rattle.amqp_codec.specs.EitherMeaning.{FormsApart}

-- two texts are one
abbrev pub same_text : List ℕ → List ℕ → Bool
same_text [] [] = true
same_text [] (y ∷ ys) = false
same_text (x ∷ xs) [] = false
same_text (x ∷ xs) (y ∷ ys) = eqb x y && same_text xs ys

-- neither the codes nor the names are one
abbrev pub differ : {V W : Type 0} → Table V → Table W → Bool
differ c d = not (eqb c.code d.code) && not (same_text c.name d.name)

text_is_itself : (xs : List ℕ) → same_text xs xs ≡ true
text_is_itself [] = refl
text_is_itself (x ∷ xs) = rw (eq-eqb x x refl, text_is_itself xs) refl

both_hold : (a b : Bool) → (not a && not b) ≡ true → (a ≡ false) × (b ≡ false)
both_hold true b h = absurd (clash h refl)
both_hold false true h = absurd (clash h refl)
both_hold false false h = (refl, refl)

module _ {V W : Type 0} (c : Table V) (d : Table W) (h : differ c d ≡ true) where
  -- no descriptor describes both
  pub one_table : (x : Descriptor) → Describes (table_of c) x → Describes (table_of d) x → ⊥
  one_table (code n) p q = clash (eq-eqb c.code d.code (sym p ∙ q)) (both_hold (eqb c.code d.code) (same_text c.name d.name) h).0
  one_table (name s) p q =
      clash (subst (λ z. same_text c.name z ≡ true) (sym p ∙ q) (text_is_itself c.name))
      (both_hold (eqb c.code d.code) (same_text c.name d.name) h).1

  first_of : Descriptor → Option (List Descriptor × ℕ) → Descriptor
  first_of x None = x
  first_of x (Some f) = get_or f.0 0 x

  lists_apart : (x y : Descriptor) (ts us : Terms) → Describes (table_of c) x → Describes (table_of d) y
      → form (described x (container list ts)) ≡ form (described y (container list us)) → ⊥
  unfolding first_of
  lists_apart x y ts us p q e = one_table x p (subst (Describes (table_of d)) (sym (ap (first_of x) e)) q)

  pub composites_apart : FormsApart (composite c) (composite d)
  composites_apart s z t r a b m n =
      by_cases (table_of c) (λ t. form t ≡ form r → ⊥) t a
      (λ x ts p f. by_cases (table_of d) (λ r. form (described x (container list ts)) ≡ form r
      → ⊥) r b (λ y us q g. lists_apart x y ts us p q) n)
      m
