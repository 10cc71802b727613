use Rattle.std.proofs.Common.{false, rules}
use Rattle.amqp_model.specs.Term.{null}
use Rattle.amqp_lookahead.specs.Kinds.{nulls}
use Rattle.amqp_decoder.specs.Primitives.{ReadsValue, Means, PrimitiveFault}
use Rattle.amqp_codec.proofs.PrimitiveReads.{kind_read}
use Rattle.amqp_codec.proofs.primitives.UnitDeserializeTerm.read_value.Goals as goal
use Rattle.amqp_decoder.proofs.Places.{answered_here}

pub returns-clause-read : goal.returns-clause-read
returns-clause-read g c tells = kind_read false (λ _. null) (λ _. Unit {0}) nulls _ _ _ (search rules)
    (answered_here false (ReadsValue (Means (λ (_ : Unit {0}). null))) (PrimitiveFault nulls) c.args.decoder.now c.read_null.result
    c.read_null.new.self (c.read_null.ensures.read tells) c.read_null.ensures.place)
