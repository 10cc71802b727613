use Rattle.std.proofs.Common.{false, true}
use Rattle.std.proofs.lemmas.Result.{err_from_is_err_and}
use Rattle.amqp_kinds.proofs.KindSumReads.{peek_refused, answers}
use Rattle.amqp_codec.proofs.Tries.{taking_some, refused_more, tries_behind}
use Rattle.amqp_kinds.proofs.sums.read_kind_sum.Goals as goal

pub returns-in_err-code-clause-read : goal.returns-in_err-code-clause-read
returns-in_err-code-clause-read g c tells =
    let p = err_from_is_err_and c.from_residual.result c.from_residual.ensures.1 in
    rw (p.1, p.2) (peek_refused g.S.KindSum.sum _ _ _ (c.in_err-code.ensures.read tells) c.in_err-code.ensures.place)

pub returns-clause-read : goal.returns-clause-read
returns-clause-read g c tells =
    answers g.S.KindSum.sum _ _ _ (c.in_ok-code.ensures.read tells) _ _ (rw c.kind_of.ensures at (c.read_member.ensures.read tells))

pub returns-in_err-code-clause-tries : goal.returns-in_err-code-clause-tries
returns-in_err-code-clause-tries g c =
    let p = err_from_is_err_and c.from_residual.result c.from_residual.ensures.1 in
    rw (p.1, p.2)
    (refused_more false true c.args.decoder.now _ _ (taking_some _) c.in_err-code.ensures.tries)

pub returns-clause-tries : goal.returns-clause-tries
returns-clause-tries g c =
    tries_behind _ true c.args.decoder.now c.peek_code.new.self _ _ (taking_some _) c.in_ok-code.ensures.tries c.read_member.ensures.tries
