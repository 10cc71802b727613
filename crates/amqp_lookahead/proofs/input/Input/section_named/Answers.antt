use Rattle.std.proofs.Common.{arith, ◌≡◌, ◌≤◌, ◌+◌, ◌∙◌, refl, length}
use Rattle.std.proofs.lemmas.List.{length-take-le}
use Rattle.amqp_lookahead.proofs.SectionLooks.{looks_once, front_all}
use Rattle.amqp_lookahead.proofs.SectionsAhead.{named_front}
use Rattle.amqp_lookahead.proofs.input.Input.section_named.Goals as goal

pub returns-clause-ok : goal.returns-clause-ok
returns-clause-ok g c = λ told.
    let n = c.in_ok-peek.field-0 in
    let l = c.peek.new.buffer in
    let within : c.args.start + c.args.len ≤ 64 = omega (arith, c.if-len-start.false, c.requires) in
    let whole : length l ≡ c.args.start + c.args.len = c.peek.auto.buffer ∙ length-take-le _ _ within in
    let few : n ≤ length l = omega (arith, c.in_ok-peek.ensures.fits, c.peek.auto.buffer) in
    let front = c.in_ok-peek.ensures.bytes told in (
      looks_once n _ _ l (omega (arith, few, whole, within)) few front (c.in_ok-peek.ensures.new told),
      named_front c.args.self.now n c.args.start c.args.len l _ _ (front_all n l _ (omega (arith, c.if-branch-front.false, c.peek.auto.buffer)) front) within whole refl
          c.section_of_name.ensures,
    )
