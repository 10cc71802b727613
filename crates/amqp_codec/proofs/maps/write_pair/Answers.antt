use Rattle.std.proofs.lemmas.Result.{err_from_is_err_and}
use Rattle.amqp_codec.proofs.PairsWritten.{value_written, key_refused}
use Rattle.amqp_codec.proofs.maps.write_pair.Goals as goal

pub returns-in_err-serialize : goal.returns-in_err-serialize
returns-in_err-serialize g c =
    key_refused g.K.Serialize.writing g.V.Serialize.writing c.args.key.now c.args.value.now g.met.K.SerializeTerm.is_term
    g.met.V.SerializeTerm.is_term _ _ _ _ _ c.in_err-serialize.was
    (err_from_is_err_and c.from_residual.result c.from_residual.ensures.1) c.serialize.ensures

pub returns : goal.returns
returns g c =
    value_written g.K.Serialize.writing g.V.Serialize.writing c.args.key.now c.args.value.now g.met.K.SerializeTerm.is_term
    g.met.V.SerializeTerm.is_term _ _ _ _ _ c.in_ok-serialize.was c.serialize.ensures c.serialize-2.ensures
