-- A value with a descriptor of its own (Part 1, section 1.2): which terms mean it, over a type of descriptors.
use Rattle.std.proofs.Common.{◌≡◌, ℕ, ◌≤◌, Bool, false, List, [], ◌∷◌, length, refl, sym, ◌∙◌, subst}
use Rattle.amqp_model.specs.Term.{Descriptor, Term, leaf, container, described, kept, barred}
use Rattle.amqp_model.specs.Spelling.{IsValid, Names, descriptor_value}
use Rattle.amqp_model.specs.Standing.{Standing, Parts}
use Rattle.amqp_model.specs.Text.{shortest, spell}
use Rattle.amqp_model.specs.Ranges.{IsBytes, IsInRange}
use Rattle.amqp_model.specs.FieldType.{Norm, unchanged, by_norm}
use Rattle.amqp_model.proofs.Least.{descriptor_least}

-- A type of descriptors: which of them mean its values, and which one is canonical.
pub record DescriptorType (D : Type 0) : Type 1 where
  pub is_value : D → Type 0
  pub means : Descriptor → D → Type 0
  pub canon : D → Descriptor
  -- the laws: a descriptor means one value at most, and what is meant is a value
  pub one : (d : Descriptor) (v w : D) → means d v → means d w → v ≡ w
  pub value : (d : Descriptor) (v : D) → means d v → is_value v
  -- the canonical one means the value, and no other takes fewer bytes
  pub canon_means : (v : D) → is_value v → means (canon v) v
  pub in_range : (v : D) → is_value v → IsInRange (descriptor_value (canon v))
  pub valid : (d : Descriptor) (v : D) → means d v → IsValid (descriptor_value d) → IsValid (descriptor_value (canon v))
  pub least : (d : Descriptor) (v : D) (b : List ℕ) → means d v → Names d b → IsBytes b
      → length (spell (shortest (descriptor_value (canon v)))) ≤ length b

-- Any descriptor: a symbol or a ulong (Part 1, section 1.5).
abbrev pub any_descriptor : DescriptorType Descriptor
any_descriptor = record {
  is_value = λ d. IsInRange (descriptor_value d);
  means = λ d v. (d ≡ v) × IsInRange (descriptor_value v);
  canon = λ v. v;
  one = λ d v w h k. sym h.0 ∙ k.0;
  value = λ d v h. h.1;
  canon_means = λ v i. (refl, i);
  in_range = λ v i. i;
  valid = λ d v h i. subst (λ e. IsValid (descriptor_value e)) h.0 i;
  least = λ d v b h named bytes. descriptor_least v d b (sym h.0) named bytes;
}

-- The descriptor means the first, and what it describes the second, as it stands in the whole. A type that doesn't look at that takes
-- it anyhow.
abbrev pub MeansPair : {D T : Type 0} → (Descriptor → D → Type 0) → Bool → (Standing → Term → T → Type 0) → Standing → Term → D × T
    → Type 0
MeansPair describes ignores_standing means s (described d t) v =
    describes d v.0 × (z : Standing) × (ignores_standing ≡ false → Parts s (described d t) (z ∷ [])) × means z t v.1
MeansPair describes ignores_standing means s (leaf p) v = ⊥
MeansPair describes ignores_standing means s (container k ts) v = ⊥
MeansPair describes ignores_standing means s (kept b) v = ⊥
MeansPair describes ignores_standing means s (barred r) v = ⊥

abbrev pub norm_second : {D T : Type 0} → Norm T → Norm (D × T)
norm_second unchanged = unchanged
norm_second (by_norm f) = by_norm (λ v. (v.0, f v.1))
