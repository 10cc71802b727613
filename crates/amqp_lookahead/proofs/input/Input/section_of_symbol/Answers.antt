use Rattle.std.proofs.Common.{arith, ◌≡◌, length}
use Rattle.amqp_lookahead.proofs.SectionLooks.{looks_once, front_all}
use Rattle.amqp_lookahead.proofs.SectionsAhead.{size_shown, ahead_map}
use Rattle.amqp_lookahead.proofs.input.Input.section_of_symbol.Goals as goal

pub returns-clause-ok : goal.returns-clause-ok
returns-clause-ok g c = λ told.
    let n = c.in_ok-peek.field-0 in
    let l = c.peek.new.buffer in
    let whole : length l ≡ 6 = c.peek.auto.buffer in
    let few = c.in_ok-peek.ensures.fits in
    let front = c.in_ok-peek.ensures.bytes told in
    let is = c.in_ok-peek.ensures.new told in
    ahead_map c.section_named.result _ _ _ _ _ (looks_once n _ _ l (omega (arith, few)) (omega (arith, few, whole)) front is)
    (size_shown _ _ n _ l is (front_all n l _ (omega (arith, whole, c.if-branch-lt6.false)) front) (omega (arith, whole))
    c.text_size.ensures.fits c.text_size.ensures.value) (c.section_named.ensures.ok told)
