-- Tables of fields, and the lists of items that fit them (Part 1, section 1.4).
use Rattle.std.specs.Prelude.{◌≡◌, List, [], ◌∷◌}
use Rattle.amqp_model.specs.Term.{null, Term, leaf}
use Rattle.amqp_model.specs.Items.{without_last_nulls}
use Rattle.amqp_model.specs.FieldType.{normal}
use Rattle.amqp_model.specs.Slot.{Slot}
use Rattle.amqp_model.specs.declared.tables.FieldRule.{FieldRule}

-- A table of the fields of V in their order: for each, how it is got from the value, and what terms mean in it.
pub data Fields (V : Type 0) : Type 1 where
  none : Fields V
  field : {T : Type 0} → (V → T) → Slot T → Fields V → Fields V

abbrev pub rules_of : {V : Type 0} → Fields V → List FieldRule
rules_of none = []
rules_of (field get s fs) = s.rule ∷ rules_of fs

-- The items are the value: each means what its field holds, a missing one is as null, and there are no more than fields.
unfoldable pub Fits : {V : Type 0} → Fields V → List Term → V → Type 0
Fits none [] v = Unit {0}
Fits none (t ∷ ts) v = ⊥
Fits (field get s fs) [] v = s.meaning.means (leaf null) (get v) × Fits fs [] v
Fits (field get s fs) (t ∷ ts) v = s.meaning.means t (get v) × Fits fs ts v

-- the canonical term of each field
abbrev pub canonical_terms : {V : Type 0} → Fields V → V → List Term
canonical_terms none v = []
canonical_terms (field get s fs) v = s.meaning.canon (get v) ∷ canonical_terms fs v

-- the canonical items of the value: nulls at the end are left out
unfoldable pub canonical_items : {V : Type 0} → Fields V → V → List Term
canonical_items fs v = without_last_nulls (canonical_terms fs v)

-- each field holds a value of its type
abbrev pub AreValues : {V : Type 0} → Fields V → V → Type 0
AreValues none v = Unit {0}
AreValues (field get s fs) v = s.meaning.is_value (get v) × AreValues fs v

-- w is v with each field normalised
abbrev pub IsNormal : {V : Type 0} → Fields V → V → V → Type 0
IsNormal none v w = Unit {0}
IsNormal (field get s fs) v w = (get w ≡ normal s.meaning.norm (get v)) × IsNormal fs v w

-- the two hold the same in each field
unfoldable pub Same : {V : Type 0} → Fields V → V → V → Type 0
Same none v w = Unit {0}
Same (field get s fs) v w = s.meaning.same (get v) (get w) × Same fs v w
