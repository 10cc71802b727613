use Rattle.std.proofs.Common.{◌≤◌, ◌<◌, true, false, subst}
use Rattle.std.proofs.lemmas.Result.{err_from_is_err_and}
use Rattle.amqp_codec.proofs.Tries.{taking_some, refused_more}
use Rattle.amqp_messages.proofs.NextSteps.{peek_refused, section_found, misplaced_refused, not_section_refused}
use Rattle.amqp_messages.proofs.next.next_section.Goals as goal

pub returns-in_err-code-clause-read : goal.returns-in_err-code-clause-read
returns-in_err-code-clause-read g c tells =
    let p = err_from_is_err_and c.from_residual.result c.from_residual.ensures.1 in
    rw (p.1, p.2)
    (peek_refused c.args.order c.args.left _ _ _ (c.is_full-full.ensures.open c.if-full.false) (c.in_err-code.ensures.read tells))

pub returns-in_err-code-clause-tries : goal.returns-in_err-code-clause-tries
returns-in_err-code-clause-tries g c =
    let p = err_from_is_err_and c.from_residual.result c.from_residual.ensures.1 in
    rw (p.1, p.2) (refused_more false true c.args.decoder.now _ _ (taking_some _) c.in_err-code.ensures.tries)

pub returns-in_default-clause-read : goal.returns-in_default-clause-read
returns-in_default-clause-read g c tells =
    not_section_refused c.args.order c.args.left _ _ _ (c.is_full-full.ensures.open c.if-full.false) (c.in_ok-code.ensures.read tells)
    c.in_default.is _ _ (c.in_ok-ended.ensures.read tells) _ _ c.if-ended.false (c.no_section.ensures.read tells)

pub returns-then-further-left-clause-read : goal.returns-then-further-left-clause-read
returns-then-further-left-clause-read g c tells =
    misplaced_refused c.args.order c.args.left _ _ _ (c.is_full-full.ensures.open c.if-full.false) (c.in_ok-code.ensures.read tells)
    c.in-Some.code _ _ c.in-Some.is (subst (λ z. c.args.left ≤ z) c.further.ensures c.if-further-left.true) c.refuse.ensures.first
    c.refuse.ensures.place

pub returns-clause-read : goal.returns-clause-read
returns-clause-read g c tells =
    section_found c.args.order c.args.left _ _ _ (c.is_full-full.ensures.open c.if-full.false) (c.in_ok-code.ensures.read tells)
    c.in-Some.code c.in-Some.is (subst (λ z. z < c.args.left) c.further.ensures c.if-further-left.false)
