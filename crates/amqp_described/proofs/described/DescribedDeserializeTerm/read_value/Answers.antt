use Rattle.std.proofs.Common.{false, true}
use Rattle.std.proofs.lemmas.Result.{err_from_is_err_and}
use Rattle.amqp_described.proofs.DescribedReads.{open_refused, value_refused, end_refused, whole_read}
use Rattle.amqp_codec.proofs.Tries.{taking_some, began_then, refused_more, refused_behind}
use Rattle.amqp_described.proofs.described.DescribedDeserializeTerm.read_value.Goals as goal
use Rattle.amqp_decoder.proofs.Places.{refused_here}

pub returns-in_err-descriptor-clause-read : goal.returns-in_err-descriptor-clause-read
returns-in_err-descriptor-clause-read g c tells =
    let p = err_from_is_err_and c.from_residual.result c.from_residual.ensures.1 in
    rw (p.1, p.2)
    (open_refused g.T.DeserializeTerm.term _ _ _ c.begin_described.ensures.nesting (c.in_err-descriptor.ensures.opened tells))

pub returns-in_err-value-clause-read : goal.returns-in_err-value-clause-read
returns-in_err-value-clause-read g c tells =
    let p = err_from_is_err_and c.from_residual-in_err-value.result c.from_residual-in_err-value.ensures.1 in
    rw (p.1, p.2)
    (value_refused g.T.DeserializeTerm.term _ _ _ c.begin_described.ensures.nesting (c.in_ok-descriptor.ensures.opened tells) _ _
    (c.in_err-value.ensures.read tells))

pub returns-in_err-end_described-clause-read : goal.returns-in_err-end_described-clause-read
returns-in_err-end_described-clause-read g c tells =
    let p = err_from_is_err_and c.from_residual-in_err-end_described.result c.from_residual-in_err-end_described.ensures.1 in
    rw (p.1, p.2)
    (end_refused g.T.DeserializeTerm.term _ _ _ c.begin_described.ensures.nesting (c.in_ok-descriptor.ensures.opened tells) _ _ _ _
    (c.in_ok-value.ensures.read tells)
    (refused_here c.in_err-end_described.ensures.read c.in_err-end_described.ensures.place))

pub returns-clause-read : goal.returns-clause-read
returns-clause-read g c tells =
    whole_read g.T.DeserializeTerm.term _ _ _ _ (record { descriptor = c.in_ok-descriptor.descriptor; value = c.in_ok-value.value })
    c.begin_described.ensures.nesting (c.in_ok-descriptor.ensures.opened tells) c.in_range.ensures (c.in_ok-value.ensures.read tells)
    c.in_ok-end_described.ensures.read

pub returns-in_err-descriptor-clause-tries : goal.returns-in_err-descriptor-clause-tries
returns-in_err-descriptor-clause-tries g c =
    let p = err_from_is_err_and c.from_residual.result c.from_residual.ensures.1 in
    rw (p.1, p.2)
    (refused_more true true c.args.decoder.now _ _ (taking_some _) c.in_err-descriptor.ensures.tries)

pub returns-in_err-value-clause-tries : goal.returns-in_err-value-clause-tries
returns-in_err-value-clause-tries g c =
    let p = err_from_is_err_and c.from_residual-in_err-value.result c.from_residual-in_err-value.ensures.1 in
    rw (p.1, p.2)
    (refused_behind _ true c.args.decoder.now c.begin_described.new.self _ _ (taking_some _) c.in_ok-descriptor.ensures.tries c.in_err-value.ensures.tries)

pub returns-in_err-end_described-clause-tries : goal.returns-in_err-end_described-clause-tries
returns-in_err-end_described-clause-tries g c =
    let p = err_from_is_err_and c.from_residual-in_err-end_described.result c.from_residual-in_err-end_described.ensures.1 in
    rw (p.1, p.2)
    (refused_behind false true c.args.decoder.now c.read_value.new.decoder _ _ (taking_some _)
    (began_then c.args.decoder.now c.begin_described.new.self c.read_value.new.decoder c.in_ok-descriptor.ensures.tries c.in_ok-value.ensures.tries) c.in_err-end_described.ensures.tries)
