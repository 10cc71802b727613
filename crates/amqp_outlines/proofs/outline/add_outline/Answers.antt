use Rattle.std.proofs.Common.{ℕ, ◌≤◌, ◌<◌, length, sym, subst, refl, arith, IfOk, IfSome}
use Rattle.amqp_outlines.specs.Spans.{IsOutline}
use Rattle.amqp_outlines.proofs.OutlineLemmas.{longer_outline}
use Rattle.amqp_outlines.proofs.outline.add_outline.Goals as goal

pub returns-in-None-clause-outline : goal.returns-in-None-clause-outline
returns-in-None-clause-outline c = λ le l low h. longer_outline l c.args.at (length c.args.input.now) c.args.entries.now.items h le

pub returns-in-Some-clause-outline : goal.returns-in-Some-clause-outline
returns-in-Some-clause-outline c = λ le l low h.
    c.add_root.ensures.outline c.in-Some.ensures.within l (subst (λ (k : ℕ). l ≤ k) (sym c.in-Some.ensures.from) low)
    (subst (λ (k : ℕ). IsOutline l k c.args.entries.now.items) (sym c.in-Some.ensures.from) h)

pub returns-in-Some-clause-ends : goal.returns-in-Some-clause-ends
returns-in-Some-clause-ends c =
    subst (λ (k : ℕ). IfOk c.add_root.result (λ found. IfSome found (λ end. (k < end) × (end ≤ length c.args.input.now))))
    c.in-Some.ensures.from (c.add_root.ensures.ends (omega (arith, c.in-Some.ensures.from, c.in-Some.ensures.moves refl)) c.in-Some.ensures.within)
