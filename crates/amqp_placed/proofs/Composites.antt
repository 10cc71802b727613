-- A fault of a composite is shown by bytes, where those of its fields are (Part 1, section 1.4).
use Rattle.amqp_wire.specs.declared.error.Error.{Error}
use Rattle.amqp_codec.specs.Composite.{Table, composite, composite_members}
use Rattle.amqp_codec.specs.laws.Composite.{composite_is_sum}
use Rattle.amqp_placed.specs.Facing.{AreShown}
use Rattle.amqp_placed.specs.Shown.{FieldsShown}
use Rattle.amqp_placed.proofs.Fields.{fields_shown}
use Rattle.amqp_placed.proofs.Formers.{member_shown}

pub composite_shown : {V : Type 0} (e : Error) (c : Table V) → FieldsShown e c.fields
    → AreShown e (composite c).faults.fault
composite_shown e c shown =
    member_shown e (composite_members c)
    (λ i inner v last h. (let r = (composite_is_sum c).to_term i inner v last h in (
      r.term,
      r.taken,
    ))) (λ i. fields_shown e c.fields shown)
