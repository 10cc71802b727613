-- The values so far were written, the first behind the opening and each other behind a comma.
use Rattle.std.proofs.Common.{◌≡◌, [], Some, Ok, cond, ltb, take, codes}
use Rattle.std.specs.Fmt.{DisplaysOnOk, ◌++?◌, comma_space, debug_items}
use denote.Text.{Utf8}
use denote.Shadow.{shadow}
use Rattle.amqp_sections.proofs.shown.AmqpSequenceDisplay.fmt.Given as goal

abbrev pub invariant-loop-value : goal.invariant-loop-value
invariant-loop-value g l = shadow (Utf8 l.separator) × (l.separator ≡ cond (ltb 0 l.value-index) comma_space [])
    × DisplaysOnOk g.W.Write.write_str_gives l.fn.f (Ok tt)
    (Some (codes "AmqpSequence([") ++? debug_items g.T.Display.output [] (take l.value-index l.value-items)) l.f
