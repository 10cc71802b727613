-- Composite values: described lists whose items fit a table of fields (Part 1, sections 1.4 and 1.5).
use Rattle.std.specs.Prelude.{◌≡◌, ℕ, List}
use Rattle.amqp_model.specs.Term.{Descriptor, name, code, list, Term, container, described}
use Rattle.amqp_model.specs.Items.{terms_of, items_of}
use Rattle.amqp_model.specs.FieldType.{Norm, normal}
use Rattle.amqp_model.specs.Fields.{Fields, Fits, canonical_items, IsNormal}

-- The table of a composite type: the code and the name that describe it, and its fields.
pub record Table (V : Type 0) : Type 1 where
  pub code : ℕ
  pub name : List ℕ
  pub fields : Fields V
  -- how a value is normalised, field by field
  pub norm : Norm V
  pub norm_is : (v : V) → IsNormal fields v (normal norm v)

-- Part 1, section 1.5: the descriptor is the table's code or its name
abbrev pub Describes : {V : Type 0} → Table V → Descriptor → Type 0
Describes c (code n) = n ≡ c.code
Describes c (name s) = s ≡ c.name

-- The term is a list of items that fit.
abbrev pub MeansList : {V : Type 0} → Fields V → Term → V → Type 0
MeansList fs (container list ts) v = Fits fs (items_of ts) v
MeansList fs _ v = ⊥

-- the canonical list of a value
abbrev pub canonical_list : {V : Type 0} → Fields V → V → Term
canonical_list fs v = container list (terms_of (canonical_items fs v))

-- Part 1, section 1.5: the term is described by one of the descriptors, and what it describes means the value.
abbrev pub MeansDescribed : {V : Type 0} → (Descriptor → Type 0) → (Term → V → Type 0) → Term → V → Type 0
MeansDescribed describes means (described d t) v = describes d × means t v
MeansDescribed describes means _ v = ⊥

-- The term is a described list of items that fit.
abbrev pub MeansComposite : {V : Type 0} → Table V → Term → V → Type 0
MeansComposite c = MeansDescribed (Describes c) (MeansList c.fields)

-- the canonical term has the code
abbrev pub canonical_term : {V : Type 0} → Table V → V → Term
canonical_term c v = described (code c.code) (canonical_list c.fields v)
