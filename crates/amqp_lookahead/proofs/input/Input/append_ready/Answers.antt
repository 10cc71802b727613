use Rattle.std.proofs.Common.{arith, ◌≡◌, ◌-◌, ◌++◌, ◌∙◌, Ok, ap, refl, sym, take}
use Rattle.std.proofs.lemmas.List.{take_at}
use Rattle.amqp_wire.proofs.Sources.{consumed_known}
use Rattle.amqp_lookahead.proofs.Looks.{ready_there, ready_bytes, ready_rest, seen_less, counted_is, whole_at_hand}
use Rattle.amqp_lookahead.proofs.input.Input.append_ready.Goals.{else-is_none-via-then-is_none+else-self, else-is_none-via-else-is_none}
use Rattle.amqp_lookahead.proofs.input.Input.append_ready.Goals as goal

pub returns-clause-there : goal.returns-clause-there
returns-clause-there g c = rw (← c.self.view_is) (λ told yes.
    let added = c.in_ok-append_ready.ensures.taken (ap Ok c.if-not-branch.false) in
    ready_there _ _ _ added.0 _ added.1 (consumed_known _ _ _ (told _) added.3))

pub returns-clause-bytes : goal.returns-clause-bytes
returns-clause-bytes g c =
    let none : c.self.inside.end - c.self.inside.start ≡ 0 = elim c.else-is_none.branch [
      | else-is_none-via-then-is_none+else-self w ↦ omega (arith, w.if-self.false)
      | else-is_none-via-else-is_none w ↦ omega (arith, c.self.invariant.2 (whole_at_hand _ _ _ w.if-is_none.ensures c.at_hand.ensures))
    ] in
    rw (← c.self.view_is) (λ told yes.
    let added = c.in_ok-append_ready.ensures.taken (ap Ok c.if-not-branch.false) in
    let front = ready_bytes _ _ _ _ _ added.0 _ none added.1 (consumed_known _ _ _ (told _) added.3) in
    added.2 ∙ ap (λ x. c.args.bytes.now.items ++ x) (sym (ap (take c.args.count) front ∙ take_at added.0 _ _ added.1)))

pub returns-clause-new : goal.returns-clause-new
returns-clause-new g c =
    let none : c.self.inside.end - c.self.inside.start ≡ 0 = elim c.else-is_none.branch [
      | else-is_none-via-then-is_none+else-self w ↦ omega (arith, w.if-self.false)
      | else-is_none-via-else-is_none w ↦ omega (arith, c.self.invariant.2 (whole_at_hand _ _ _ w.if-is_none.ensures c.at_hand.ensures))
    ] in
    rw (← c.self.view_is) (λ told yes.
    let added = c.in_ok-append_ready.ensures.taken (ap Ok c.if-not-branch.false) in
    let front = consumed_known _ _ _ (told _) added.3 in
    counted_is _ _ _ _ _ _ _ _ _ c.count_taken.ensures.whole c.count_taken.ensures.other refl
    (ready_there _ _ _ added.0 _ added.1 front) (ready_rest _ _ _ _ _ added.0 _ none added.1 front)
    (seen_less _ _ _ added.0 _ _ _ none added.1 front) c.append_ready.ensures.named c.append_ready.ensures.kept)
