use Rattle.std.proofs.Common.{ap, ◌∙◌}
use Rattle.amqp_decoder.specs.State.{State}
use Rattle.amqp_decoder.proofs.Steps.{answered_later, answered, has_item, tried_third}
use Rattle.amqp_decoder.proofs.Peeks.{nothing_there, byte_there, is_counted, peeked_shared_if, peeked_own_if, peek_size, peek_cut}
use Rattle.amqp_decoder.proofs.decoder.Decoder.peek_any.Goals as goal

pub returns-in-Some-clause-read : goal.returns-in-Some-clause-read
returns-in-Some-clause-read g c = λ told.
    let left = c.in_ok-check_item.ensures.read in
    peeked_shared_if _ _ _ _ left.going left.item (rw left.kept at c.in-Some.ensures)
    (rw left.kept at (is_counted _ _ _ _ c.check_count.ensures.ok c.check_count.ensures.err))

pub returns-then-is_spent-clause-read : goal.returns-then-is_spent-clause-read
returns-then-is_spent-clause-read g c = λ told.
    let left = c.in_ok-check_item.ensures.read in
    peek_size _ _ _ left.going left.item (rw left.kept at c.in_default.ensures)
    (rw left.kept at (c.is_spent.ensures.0 c.if-is_spent.true))
    (rw left.kept at (c.refuse_size.ensures.refused told))

pub returns-in-None-clause-read : goal.returns-in-None-clause-read
returns-in-None-clause-read g c = λ told.
    let left = c.in_ok-check_item.ensures.read in
    peek_cut _ _ _ left.going left.item (rw left.kept at c.in_default.ensures)
    (λ x. let h = c.is_spent.ensures.1 (ap (λ (st : State). st.top.left) left.kept ∙ x) in absurd (cc))
    (rw left.kept at (nothing_there _ _ c.in-None.is (c.in_ok-code.ensures.found told))) c.stop.ensures.answer
    (answered_later (ap (λ (st : State). st.failed) (c.in_ok-code.ensures.new told) ∙ ap (λ (st : State). st.failed) left.kept)
    (answered c.look_next.new.self _ _ _ c.stop.ensures.kept c.stop.ensures.answer))

pub returns-in-Some-2-clause-read : goal.returns-in-Some-2-clause-read
returns-in-Some-2-clause-read g c = λ told.
    let left = c.in_ok-check_item.ensures.read in
    peeked_own_if _ _ _ _ _ left.going left.item (rw left.kept at c.in_default.ensures)
    (has_item _ (λ x. let h = c.is_spent.ensures.1 (ap (λ (st : State). st.top.left) left.kept ∙ x) in absurd (cc)))
    (rw left.kept at (c.in_ok-code.ensures.new told)) (rw left.kept at (byte_there _ _ _ c.in-Some-2.is (c.in_ok-code.ensures.found told)))
    (is_counted _ _ _ _ c.check_count-in-Some-2.ensures.ok c.check_count-in-Some-2.ensures.err)

pub returns-in-Some-2-clause-tries : goal.returns-in-Some-2-clause-tries
returns-in-Some-2-clause-tries g c =
    tried_third _ c.args.self.now c.check_item.new.self c.look_next.new.self _ _ c.in_ok-check_item.ensures.tries c.in_ok-code.ensures.goes
    c.check_count-in-Some-2.ensures.goes
