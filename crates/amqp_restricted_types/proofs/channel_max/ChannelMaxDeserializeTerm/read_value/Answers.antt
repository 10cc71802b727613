use Rattle.std.proofs.lemmas.Result.{err_from_is_err_and}
use Rattle.amqp_codec.specs.PrimitiveTypes.{ushort_base}
use Rattle.amqp_primitives.proofs.NewtypeReads.{newtype_refused}
use Rattle.amqp_restricted_types.proofs.channel_max.ChannelMaxDeserializeTerm.read_value.Goals as goal

pub returns-in_err-read_ushort-clause-read : goal.returns-in_err-read_ushort-clause-read
returns-in_err-read_ushort-clause-read g c tells =
    let p = err_from_is_err_and c.from_residual.result c.from_residual.ensures.1 in
    rw (p.1, p.2) (newtype_refused ushort_base (λ n. n) (λ v. v.0) _ _ _ (c.in_err-read_ushort.ensures.read tells) c.in_err-read_ushort.ensures.place)
