use Rattle.std.proofs.Common.{arith, ◌≡◌, length}
use Rattle.amqp_lookahead.proofs.SectionLooks.{looks_once, front_all}
use Rattle.amqp_lookahead.proofs.SectionsAhead.{large_shown}
use Rattle.amqp_lookahead.proofs.input.Input.section_of_ulong.Goals as goal

pub returns-clause-ok : goal.returns-clause-ok
returns-clause-ok g c = λ told.
    let l = c.peek.new.buffer in
    let whole : length l ≡ 10 = c.peek.auto.buffer in
    let few = c.in_ok-peek.ensures.fits in
    let front = c.in_ok-peek.ensures.bytes told in (
      looks_once c.in_ok-peek.field-0 _ _ l (omega (arith, few)) (omega (arith, few, whole)) front (c.in_ok-peek.ensures.new told),
      large_shown c.args.self.now c.in_ok-peek.field-0 _ l _ (front_all c.in_ok-peek.field-0 l _ (omega (arith, whole, c.if-branch-lt10.false)) front)
          (omega (arith, whole)) c.from_be_bytes-code.ensures c.section_of_code.ensures,
    )
