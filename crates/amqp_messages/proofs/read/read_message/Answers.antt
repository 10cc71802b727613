use Rattle.std.proofs.Common.{inr, true}
use Rattle.std.proofs.lemmas.Result.{err_from_is_err_and}
use Rattle.amqp_codec.proofs.Tries.{taking_some, refused_later, passed_then}
use Rattle.amqp_batches.proofs.Exits.{began_later, refused_at}
use Rattle.amqp_messages.specs.Messages.{fields_in}
use Rattle.amqp_messages.proofs.MessageSteps.{next_refused, found_there, group_refused, group_next, found_none, message_made}
use Rattle.amqp_messages.proofs.MessageSteps.{next_there, message_refused, found_as, nothing_found, passed_on, all_began}
use Rattle.amqp_messages.proofs.read.read_message.Goals as goal

pub returns-in_err-code-clause-read : goal.returns-in_err-code-clause-read
returns-in_err-code-clause-read g c tells =
    refused_at c.from_residual.result c.from_residual.ensures.1
    (next_refused c.args.order g.B.FromBody.made _ _ _ _ _ (c.loop-groups.invariant.so_far tells)
    (c.in_err-code.ensures.read tells))

pub returns-in_err-code-clause-tries : goal.returns-in_err-code-clause-tries
returns-in_err-code-clause-tries g c =
    let p = err_from_is_err_and c.from_residual.result c.from_residual.ensures.1 in
    rw (p.1, p.2)
    (refused_later true true c.args.decoder.now c.loop-groups.decoder _ _ (taking_some _) c.loop-groups.invariant.passed
    c.in_err-code.ensures.tries)

pub returns-in_err-read_group-clause-read : goal.returns-in_err-read_group-clause-read
returns-in_err-read_group-clause-read g c tells =
    let made = g.B.FromBody.made in
    let there = found_there c.args.order made _ _ c.in-Some.code _
    (found_as c.args.order _ _ _ c.in-Some.is (c.in_ok-code.ensures.read tells)) in
    refused_at c.from_residual-in_err-read_group.result c.from_residual-in_err-read_group.ensures.1
    (group_refused c.args.order made _ _ _ c.in-Some.code _ _ _ (c.loop-groups.invariant.so_far tells) there
    (c.in_err-read_group.ensures.read tells (next_there c.args.order made _ _ _ _ there)))

pub returns-in_err-read_group-clause-tries : goal.returns-in_err-read_group-clause-tries
returns-in_err-read_group-clause-tries g c =
    let p = err_from_is_err_and c.from_residual-in_err-read_group.result c.from_residual-in_err-read_group.ensures.1 in
    rw (p.1, p.2)
    (refused_later true true c.args.decoder.now c.next_section.new.decoder _ _ (taking_some _)
    (passed_on c.args.decoder.now c.loop-groups.decoder c.next_section.new.decoder c.loop-groups.invariant.passed c.in_ok-code.ensures.tries)
    c.in_err-read_group.ensures.tries)

pub loop-groups-preserved : goal.loop-groups-preserved
loop-groups-preserved g c =
    let made = g.B.FromBody.made in
    let before = passed_on c.args.decoder.now c.loop-groups.decoder c.next_section.new.decoder c.loop-groups.invariant.passed
    c.in_ok-code.ensures.tries in
    record {
      so_far = λ tells.
          (let there = found_there c.args.order made _ _ c.in-Some.code _
          (found_as c.args.order _ _ _ c.in-Some.is (c.in_ok-code.ensures.read tells)) in
          group_next c.args.order made _ _ (record { left = c.further-left.result; part = fields_in c.read_group.new.self }) _ c.in-Some.code _ _
          (c.loop-groups.invariant.so_far tells) there c.further-left.ensures (c.in_ok-read_group.ensures.read tells (next_there c.args.order made _ _ _ _ there)));
      passed = passed_then c.args.decoder.now c.next_section.new.decoder c.read_group.new.decoder before c.in_ok-read_group.ensures.tries;
      began = inr (began_later c.args.decoder.now c.next_section.new.decoder c.read_group.new.decoder before c.in_ok-read_group.ensures.tries);
    }

pub returns-in-Ok-clause-read : goal.returns-in-Ok-clause-read
returns-in-Ok-clause-read g c tells =
    let made = g.B.FromBody.made in
    let h = c.loop-groups.invariant.so_far tells in
    message_made c.args.order made _ _ _ _ _ h
    (found_none c.args.order made _ _ _ _ h (nothing_found c.args.order _ _ c.in_default.not-Some (c.in_ok-code.ensures.read tells)))
    c.in-Ok.ensures.made

pub returns-in-Ok-clause-tries : goal.returns-in-Ok-clause-tries
returns-in-Ok-clause-tries g c =
    all_began c.args.order c.loop-groups.left _ _ _ c.loop-groups.invariant.passed c.loop-groups.invariant.began c.in_ok-code.ensures.tries
    c.in_ok-code.ensures.began

pub returns-in-Err-clause-read : goal.returns-in-Err-clause-read
returns-in-Err-clause-read g c tells =
    let made = g.B.FromBody.made in
    let h = c.loop-groups.invariant.so_far tells in
    message_refused c.args.order made _ _ _ _ _ _ _ h
    (found_none c.args.order made _ _ _ _ h (nothing_found c.args.order _ _ c.in_default.not-Some (c.in_ok-code.ensures.read tells)))
    c.in-Err.ensures.refused c.refuse.ensures.first c.refuse.ensures.place
