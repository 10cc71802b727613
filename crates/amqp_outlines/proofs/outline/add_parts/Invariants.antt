use Rattle.std.proofs.Common.{ℕ}
use Rattle.amqp_outlines.specs.Outlines.{Grows}
use Rattle.amqp_outlines.proofs.outline.add_parts.Given as goal

abbrev pub invariant-values : goal.invariant-values
invariant-values t = (l n : ℕ) → Grows l n t.fn.entries.items t.fn.opened.items → Grows l n t.entries.items t.opened.items
