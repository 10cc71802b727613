use Rattle.std.proofs.Common.{rules}
use Rattle.std.proofs.lemmas.Result.{err_from_is_err_and}
use Rattle.amqp_codec.specs.PrimitiveTypes.{uint_base}
use Rattle.amqp_primitives.proofs.NewtypeReads.{newtype_read, newtype_refused}
use Rattle.amqp_user_types.proofs.port.PortDeserializeTerm.read_value.Goals as goal

pub returns-in_err-read_uint-clause-read : goal.returns-in_err-read_uint-clause-read
returns-in_err-read_uint-clause-read g c tells =
    let p = err_from_is_err_and c.from_residual.result c.from_residual.ensures.1 in
    rw (p.1, p.2) (newtype_refused uint_base (λ n. n) (λ p. p.0) _ _ _ (c.in_err-read_uint.ensures.read tells) c.in_err-read_uint.ensures.place)

pub returns-clause-read : goal.returns-clause-read
returns-clause-read g c tells =
    newtype_read uint_base (λ n. n) (λ p. p.0) _ _ _ _ (c.in_ok-read_uint.ensures.read tells) (search rules) (search rules)
