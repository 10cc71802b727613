use Rattle.std.proofs.lemmas.Result.{err_from_is_err_and}
use Rattle.amqp_codec.specs.FieldWriting.{IsPending}
use Rattle.amqp_codec.proofs.fields.write_sixteen.Goals as goal

pub returns-in_err-write_four-3-clause-written : goal.returns-in_err-write_four-3-clause-written
returns-in_err-write_four-3-clause-written g c start p =
    let e = err_from_is_err_and c.from_residual-in_err-write_four-3.result c.from_residual-in_err-write_four-3.ensures.1 in
    let none : IsPending g.L.FieldList.list.fields c.args.value.now 0 c.args.nulls.now start c.args.encoder.now = rw c.requires.nulls p in
    rw (e.1, e.2) (c.in_err-write_four-3.ensures.written start
    (c.in_ok-write_four-2.ensures.written start (c.in_ok-write_four.ensures.written start none)))

pub returns-clause-written : goal.returns-clause-written
returns-clause-written g c start p =
    let none : IsPending g.L.FieldList.list.fields c.args.value.now 0 c.args.nulls.now start c.args.encoder.now = rw c.requires.nulls p in
    c.write_four-4.ensures.written start (c.in_ok-write_four-3.ensures.written start
    (c.in_ok-write_four-2.ensures.written start (c.in_ok-write_four.ensures.written start none)))
