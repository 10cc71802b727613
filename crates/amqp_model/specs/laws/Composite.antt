-- A composite type is a type of fields itself.
use Rattle.std.proofs.Common.{refl}
use Rattle.amqp_model.specs.Term.{Descriptor, list, Term, Terms, container, described}
use Rattle.amqp_model.specs.Items.{items_of}
use Rattle.amqp_model.specs.FieldType.{FieldType}
use Rattle.amqp_model.specs.Fields.{Fits}
use Rattle.amqp_model.specs.Composite.{Table, Describes, MeansList, MeansComposite}
use Rattle.amqp_model.specs.laws.List.{list_cases, list_of_fields}
use Rattle.amqp_model.specs.laws.Described.{described_cases, described_type}

-- what holds of each described list that fits, holds of all that is meant
pub by_cases : {V : Type 0} (c : Table V) (P : Term → Type 0) (t : Term) (v : V)
    → ((d : Descriptor) (ts : Terms) → Describes c d → Fits c.fields (items_of ts) v → P (described d (container list ts)))
    → MeansComposite c t v → P t
by_cases c P t v f =
    described_cases (Describes c) (MeansList c.fields) P t v (λ d u e. list_cases c.fields (λ u. P (described d u)) u v (λ ts. f d ts e))

-- The composite type of a table.
abbrev pub composite : {V : Type 0} → Table V → FieldType V
composite c = described_type (Describes c) c.code refl (list_of_fields c.fields c.norm c.norm_is).meaning
