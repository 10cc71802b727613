use Rattle.std.proofs.Common.{arith, ◌≡◌, ◌-◌, length, refl}
use Rattle.amqp_wire.proofs.Sources.{consumed_known}
use Rattle.amqp_lookahead.proofs.Looks.{ready_there, ready_bytes, ready_rest, seen_less, size_behind, moved_is}
use Rattle.amqp_lookahead.proofs.input.Input.pull_ready_behind.Goals as goal

pub returns-clause-bytes : goal.returns-clause-bytes
returns-clause-bytes g c =
    let none : c.self.inside.end - c.self.inside.start ≡ 0 = omega (arith, c.if-self.false) in
    rw (← c.self.view_is) (λ told yes.
    ready_bytes _ _ _ _ _ c.pull_ready.new.buffer _ none (omega (arith, c.pull_ready.auto.buffer))
    (consumed_known _ _ _ (told _) (c.if-not-pull_ready.ensures.taken yes)))

pub returns-clause-new : goal.returns-clause-new
returns-clause-new g c =
    let none : c.self.inside.end - c.self.inside.start ≡ 0 = omega (arith, c.if-self.false) in
    rw (← c.self.view_is) (λ told yes.
    let s = c.pull_ready.new.buffer in
    let front = consumed_known _ _ _ (told _) (c.if-not-pull_ready.ensures.taken yes) in
    let long : length s ≡ length c.args.buffer.now = omega (arith, c.pull_ready.auto.buffer) in
    moved_is _ _ _ _ _ _ _ (ready_rest _ _ _ _ _ s _ none long front) (seen_less _ _ _ s _ _ _ none long front)
    c.pull_ready.ensures.named
    (size_behind _ _ (length s) _ _ c.requires (ready_rest _ _ _ _ _ s _ none refl front) (ready_there _ _ _ s _ refl front))
    c.pull_ready.ensures.kept)
