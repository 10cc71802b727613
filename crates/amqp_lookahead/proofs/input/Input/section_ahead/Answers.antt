use Rattle.std.proofs.Common.{rules, arith, ◌≡◌, ◌↔◌, Some, refl, sym, subst}
use Rattle.amqp_model.specs.Term.{code}
use Rattle.amqp_lookahead.specs.Sections.{IsOfSection, IsNameAhead, IsSectionAhead}
use Rattle.amqp_lookahead.proofs.SectionsAhead.{looked_first, small_code, large_code, short_name, long_name, none_ahead, through, ahead_map}
use Rattle.amqp_lookahead.proofs.input.Input.section_ahead.Goals as goal

pub returns-in-83-clause-ok : goal.returns-in-83-clause-ok
returns-in-83-clause-ok g c = λ told.
    let f = looked_first _ _ c.in_ok-peek.field-0 83 c.peek.new.buffer c.peek.auto.buffer c.in_ok-peek.ensures.fits
    (omega (arith, c.if-branch-lt3.false)) (c.in_ok-peek.ensures.bytes told) (c.in_ok-peek.ensures.new told)
    c.if-first-ne-DESCRIBED.false c.in-83.is in (
      f.0,
      λ k. through (small_code _ _ _ k f.1)
          (subst (λ n. (c.section_of_code.result ≡ Some k) ↔ IsOfSection k (code n)) c.from.ensures (c.section_of_code.ensures k)),
    )

pub returns-in-128-clause-ok : goal.returns-in-128-clause-ok
returns-in-128-clause-ok g c = λ told.
    let f = looked_first _ _ c.in_ok-peek.field-0 128 c.peek.new.buffer c.peek.auto.buffer c.in_ok-peek.ensures.fits
    (omega (arith, c.if-branch-lt3.false)) (c.in_ok-peek.ensures.bytes told) (c.in_ok-peek.ensures.new told)
    c.if-first-ne-DESCRIBED.false c.in-128.is in
    ahead_map c.section_of_ulong.result _ _ _ _ _ f.0 (λ k. large_code _ _ _ k f.1) (c.section_of_ulong.ensures.ok told)

pub returns-in-163-clause-ok : goal.returns-in-163-clause-ok
returns-in-163-clause-ok g c = λ told.
    let f = looked_first _ _ c.in_ok-peek.field-0 163 c.peek.new.buffer c.peek.auto.buffer c.in_ok-peek.ensures.fits
    (omega (arith, c.if-branch-lt3.false)) (c.in_ok-peek.ensures.bytes told) (c.in_ok-peek.ensures.new told)
    c.if-first-ne-DESCRIBED.false c.in-163.is in
    ahead_map c.section_named.result _ _ _ _ _ f.0
    (λ k. subst (λ n. IsNameAhead 3 n c.peek.new.self.rest k ↔ IsSectionAhead c.args.self.now.rest k) (sym c.from-in-163.ensures)
    (short_name _ _ _ k f.1)) (c.section_named.ensures.ok told)

pub returns-in-179-clause-ok : goal.returns-in-179-clause-ok
returns-in-179-clause-ok g c = λ told.
    let f = looked_first _ _ c.in_ok-peek.field-0 179 c.peek.new.buffer c.peek.auto.buffer c.in_ok-peek.ensures.fits
    (omega (arith, c.if-branch-lt3.false)) (c.in_ok-peek.ensures.bytes told) (c.in_ok-peek.ensures.new told)
    c.if-first-ne-DESCRIBED.false c.in-179.is in
    ahead_map c.section_of_symbol.result _ _ _ _ _ f.0 (λ k. long_name _ _ _ k f.1) (c.section_of_symbol.ensures.ok told)

pub returns-in_default-clause-ok : goal.returns-in_default-clause-ok
returns-in_default-clause-ok g c = λ told.
    let f = looked_first _ _ c.in_ok-peek.field-0 _ c.peek.new.buffer c.peek.auto.buffer c.in_ok-peek.ensures.fits
    (omega (arith, c.if-branch-lt3.false)) (c.in_ok-peek.ensures.bytes told) (c.in_ok-peek.ensures.new told)
    c.if-first-ne-DESCRIBED.false refl in
    (f.0, λ k. (λ e. absurd (cc), λ a. absurd (none_ahead _ _ _ _ k (search rules) (search rules) (search rules) (search rules) f.1 a)))
