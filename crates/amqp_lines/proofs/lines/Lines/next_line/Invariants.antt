use Rattle.std.specs.Io.KnownBytes.{Consumes}
use Rattle.amqp_lines.specs.Lines.{HasNo}
use Rattle.amqp_lines.proofs.lines.Lines.next_line.Given as goal

abbrev pub invariant-loop : goal.invariant-loop
invariant-loop g l = HasNo 10 l.line.items × Consumes l.initial.self l.self l.line.items
