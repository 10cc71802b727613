use Rattle.std.proofs.Common.{false, true, refl}
use Rattle.std.proofs.lemmas.Result.{err_from_is_err_and}
use Rattle.amqp_codec.specs.VecType.{list_opening}
use Rattle.amqp_codec.proofs.ItemsSteps.{open_refused, row_refused, end_refused, all_read}
use Rattle.amqp_codec.proofs.Tries.{taking_some, began_passed, refused_behind}
use Rattle.amqp_codec.proofs.lists.VecDeserializeTerm.read_value.Goals as goal
use Rattle.amqp_decoder.proofs.Places.{refused_here}

pub returns-in_err-count-clause-read : goal.returns-in_err-count-clause-read
returns-in_err-count-clause-read g c tells =
    let p = err_from_is_err_and c.from_residual.result c.from_residual.ensures.1 in
    rw (p.1, p.2) (open_refused list_opening g.T.DeserializeTerm.term (λ v. v.items) _ _ _ tt
    (refused_here (c.in_err-count.ensures.read tells) c.in_err-count.ensures.place))

pub returns-in_err-values-clause-read : goal.returns-in_err-values-clause-read
returns-in_err-values-clause-read g c tells =
    let p = err_from_is_err_and c.from_residual-in_err-values.result c.from_residual-in_err-values.ensures.1 in
    rw (p.1, p.2)
    (row_refused list_opening g.T.DeserializeTerm.term (λ v. v.items) (λ v. v.items) (λ v. v) (λ v. refl) _ _ _ _ _ tt
    (c.in_ok-count.ensures.read tells)
    (c.in_err-values.ensures.read tells))

pub returns-in_err-end_list-clause-read : goal.returns-in_err-end_list-clause-read
returns-in_err-end_list-clause-read g c tells =
    let p = err_from_is_err_and c.from_residual-in_err-end_list.result c.from_residual-in_err-end_list.ensures.1 in
    rw (p.1, p.2)
    (end_refused list_opening g.T.DeserializeTerm.term (λ v. v.items) _ _ _ c.in_ok-values.values _ _ _ tt (c.in_ok-count.ensures.read tells)
    (c.in_ok-values.ensures.read tells) (refused_here (c.in_err-end_list.ensures.read tells) c.in_err-end_list.ensures.place))

pub returns-clause-read : goal.returns-clause-read
returns-clause-read g c tells =
    all_read list_opening g.T.DeserializeTerm.term (λ v. v.items) _ _ _ c.in_ok-values.values _ _ (c.in_ok-count.ensures.read tells)
    (c.in_ok-values.ensures.read tells)
    (c.in_ok-end_list.ensures.read tells)

pub returns-in_err-values-clause-tries : goal.returns-in_err-values-clause-tries
returns-in_err-values-clause-tries g c =
    let p = err_from_is_err_and c.from_residual-in_err-values.result c.from_residual-in_err-values.ensures.1 in
    rw (p.1, p.2) (refused_behind true true c.args.decoder.now c.begin_list.new.self _ _ (taking_some _) c.in_ok-count.ensures.tries c.in_err-values.ensures.tries)

pub returns-in_err-end_list-clause-tries : goal.returns-in_err-end_list-clause-tries
returns-in_err-end_list-clause-tries g c =
    let p = err_from_is_err_and c.from_residual-in_err-end_list.result c.from_residual-in_err-end_list.ensures.1 in
    rw (p.1, p.2) (refused_behind false true c.args.decoder.now c.read_each.new.decoder _ _ (taking_some _)
    (began_passed c.args.decoder.now c.begin_list.new.self c.read_each.new.decoder c.in_ok-count.ensures.tries c.in_ok-values.ensures.tries) c.in_err-end_list.ensures.tries)
