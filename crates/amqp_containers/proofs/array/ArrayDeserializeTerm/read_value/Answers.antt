use Rattle.std.proofs.Common.{false, true, refl}
use Rattle.std.proofs.lemmas.Result.{err_from_is_err_and}
use Rattle.amqp_decoder.proofs.Places.{refused_here}
use Rattle.amqp_codec.proofs.ItemsSteps.{open_refused, row_refused, end_refused, all_read}
use Rattle.amqp_containers.specs.ArrayType.{array_opening}
use Rattle.amqp_codec.proofs.Tries.{taking_some, began_passed, refused_more, refused_behind}
use Rattle.amqp_containers.proofs.array.ArrayDeserializeTerm.read_value.Goals as goal

pub returns-in_err-count-clause-read : goal.returns-in_err-count-clause-read
returns-in_err-count-clause-read g c tells =
    let p = err_from_is_err_and c.from_residual.result c.from_residual.ensures.1 in
    rw (p.1, p.2)
    (open_refused array_opening g.T.DeserializeTerm.term (λ v. v.0.items) _ _ _ c.begin_array.ensures.room
    (c.in_err-count.ensures.opened tells))

pub returns-in_err-items-clause-read : goal.returns-in_err-items-clause-read
returns-in_err-items-clause-read g c tells =
    let p = err_from_is_err_and c.from_residual-in_err-items.result c.from_residual-in_err-items.ensures.1 in
    rw (p.1, p.2)
    (row_refused array_opening g.T.DeserializeTerm.term (λ v. v.0.items) (λ v. v.items) (λ v. v.0) (λ v. refl) _ _ _ _ _
    c.begin_array.ensures.room
    (c.in_ok-count.ensures.opened tells) (c.in_err-items.ensures.read tells))

pub returns-in_err-end_array-clause-read : goal.returns-in_err-end_array-clause-read
returns-in_err-end_array-clause-read g c tells =
    let p = err_from_is_err_and c.from_residual-in_err-end_array.result c.from_residual-in_err-end_array.ensures.1 in
    rw (p.1, p.2)
    (end_refused array_opening g.T.DeserializeTerm.term (λ v. v.0.items) _ _ _ (record { 0 = c.in_ok-items.items }) _ _ _
    c.begin_array.ensures.room (c.in_ok-count.ensures.opened tells) (c.in_ok-items.ensures.read tells)
    (refused_here (c.in_err-end_array.ensures.read tells) c.in_err-end_array.ensures.place))

pub returns-clause-read : goal.returns-clause-read
returns-clause-read g c tells =
    all_read array_opening g.T.DeserializeTerm.term (λ v. v.0.items) _ _ _ (record { 0 = c.in_ok-items.items }) _ _
    (c.in_ok-count.ensures.opened tells) (c.in_ok-items.ensures.read tells) (c.in_ok-end_array.ensures.read tells)

pub returns-in_err-count-clause-tries : goal.returns-in_err-count-clause-tries
returns-in_err-count-clause-tries g c =
    let p = err_from_is_err_and c.from_residual.result c.from_residual.ensures.1 in
    rw (p.1, p.2)
    (refused_more true true c.args.decoder.now _ _ (taking_some _) c.in_err-count.ensures.tries)

pub returns-in_err-items-clause-tries : goal.returns-in_err-items-clause-tries
returns-in_err-items-clause-tries g c =
    let p = err_from_is_err_and c.from_residual-in_err-items.result c.from_residual-in_err-items.ensures.1 in
    rw (p.1, p.2)
    (refused_behind true true c.args.decoder.now c.begin_array.new.self _ _ (taking_some _) c.in_ok-count.ensures.tries c.in_err-items.ensures.tries)

pub returns-in_err-end_array-clause-tries : goal.returns-in_err-end_array-clause-tries
returns-in_err-end_array-clause-tries g c =
    let p = err_from_is_err_and c.from_residual-in_err-end_array.result c.from_residual-in_err-end_array.ensures.1 in
    rw (p.1, p.2)
    (refused_behind false true c.args.decoder.now c.read_each.new.decoder _ _ (taking_some _)
    (began_passed c.args.decoder.now c.begin_array.new.self c.read_each.new.decoder c.in_ok-count.ensures.tries c.in_ok-items.ensures.tries) c.in_err-end_array.ensures.tries)
