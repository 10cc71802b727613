use Rattle.std.proofs.lemmas.Result.{err_from_is_err_and}
use Rattle.amqp_codec.proofs.Joining.{terms_join, terms_cut}
use Rattle.amqp_messages.proofs.WriteSteps.{last_terms}
use Rattle.amqp_messages.proofs.write.MessageSerialize.serialize.Goals as goal

pub returns-in_err-write_some : goal.returns-in_err-write_some
returns-in_err-write_some g c =
    let p = err_from_is_err_and c.from_residual.result c.from_residual.ensures.1 in
    terms_cut _ _ _ _ _ _ _ c.in_err-write_some.was p c.write_some.ensures

pub returns-in_err-write_some-2 : goal.returns-in_err-write_some-2
returns-in_err-write_some-2 g c =
    let p = err_from_is_err_and c.from_residual-in_err-write_some-2.result c.from_residual-in_err-write_some-2.ensures.1 in
    terms_join _ _ _ _ _ _ _ c.in_ok-write_some.was c.write_some.ensures
    (terms_cut _ _ _ _ _ _ _ c.in_err-write_some-2.was p c.write_some-2.ensures)

pub returns-in_err-write_some-3 : goal.returns-in_err-write_some-3
returns-in_err-write_some-3 g c =
    let p = err_from_is_err_and c.from_residual-in_err-write_some-3.result c.from_residual-in_err-write_some-3.ensures.1 in
    terms_join _ _ _ _ _ _ _ c.in_ok-write_some.was c.write_some.ensures
    (terms_join _ _ _ _ _ _ _ c.in_ok-write_some-2.was c.write_some-2.ensures
    (terms_cut _ _ _ _ _ _ _ c.in_err-write_some-3.was p c.write_some-3.ensures))

pub returns-in_err-write_some-4 : goal.returns-in_err-write_some-4
returns-in_err-write_some-4 g c =
    let p = err_from_is_err_and c.from_residual-in_err-write_some-4.result c.from_residual-in_err-write_some-4.ensures.1 in
    terms_join _ _ _ _ _ _ _ c.in_ok-write_some.was c.write_some.ensures
    (terms_join _ _ _ _ _ _ _ c.in_ok-write_some-2.was c.write_some-2.ensures
    (terms_join _ _ _ _ _ _ _ c.in_ok-write_some-3.was c.write_some-3.ensures
    (terms_cut _ _ _ _ _ _ _ c.in_err-write_some-4.was p c.write_some-4.ensures)))

pub returns-in_err-write_some-5 : goal.returns-in_err-write_some-5
returns-in_err-write_some-5 g c =
    let p = err_from_is_err_and c.from_residual-in_err-write_some-5.result c.from_residual-in_err-write_some-5.ensures.1 in
    terms_join _ _ _ _ _ _ _ c.in_ok-write_some.was c.write_some.ensures
    (terms_join _ _ _ _ _ _ _ c.in_ok-write_some-2.was c.write_some-2.ensures
    (terms_join _ _ _ _ _ _ _ c.in_ok-write_some-3.was c.write_some-3.ensures
    (terms_join _ _ _ _ _ _ _ c.in_ok-write_some-4.was c.write_some-4.ensures
    (terms_cut _ _ _ _ _ _ _ c.in_err-write_some-5.was p c.write_some-5.ensures))))

pub returns-in_err-serialize : goal.returns-in_err-serialize
returns-in_err-serialize g c =
    let p = err_from_is_err_and c.from_residual-in_err-serialize.result c.from_residual-in_err-serialize.ensures.1 in
    terms_join _ _ _ _ _ _ _ c.in_ok-write_some.was c.write_some.ensures
    (terms_join _ _ _ _ _ _ _ c.in_ok-write_some-2.was c.write_some-2.ensures
    (terms_join _ _ _ _ _ _ _ c.in_ok-write_some-3.was c.write_some-3.ensures
    (terms_join _ _ _ _ _ _ _ c.in_ok-write_some-4.was c.write_some-4.ensures
    (terms_join _ _ _ _ _ _ _ c.in_ok-write_some-5.was c.write_some-5.ensures
    (terms_cut _ _ _ _ _ _ _ c.in_err-serialize.was p c.serialize.ensures)))))

pub returns : goal.returns
returns g c =
    terms_join _ _ _ _ _ _ _ c.in_ok-write_some.was c.write_some.ensures
    (terms_join _ _ _ _ _ _ _ c.in_ok-write_some-2.was c.write_some-2.ensures
    (terms_join _ _ _ _ _ _ _ c.in_ok-write_some-3.was c.write_some-3.ensures
    (terms_join _ _ _ _ _ _ _ c.in_ok-write_some-4.was c.write_some-4.ensures
    (terms_join _ _ _ _ _ _ _ c.in_ok-write_some-5.was c.write_some-5.ensures
    (terms_join _ _ _ _ _ _ _ c.in_ok-serialize.was c.serialize.ensures
    (last_terms c.write_some-6.ensures))))))
