use Rattle.std.proofs.Common.{refl, rules}
use Rattle.std.proofs.lemmas.Result.{err_from_is_err_and}
use Rattle.amqp_codec.specs.PrimitiveTypes.{uuid_base}
use Rattle.amqp_primitives.proofs.NewtypeReads.{newtype_read, newtype_refused}
use Rattle.amqp_primitives.proofs.uuid.UuidDeserializeTerm.read_value.Goals as goal

pub returns-in_err-read_uuid-clause-read : goal.returns-in_err-read_uuid-clause-read
returns-in_err-read_uuid-clause-read g c tells =
    let p = err_from_is_err_and c.from_residual.result c.from_residual.ensures.1 in
    rw (p.1, p.2) (newtype_refused uuid_base (λ b. b) (λ v. v.0) _ _ _ (c.in_err-read_uuid.ensures.read tells) c.in_err-read_uuid.ensures.place)

pub returns-clause-read : goal.returns-clause-read
returns-clause-read g c tells =
    newtype_read uuid_base (λ b. b) (λ v. v.0) _ _ _ _ (c.in_ok-read_uuid.ensures.read tells) refl (search rules)
