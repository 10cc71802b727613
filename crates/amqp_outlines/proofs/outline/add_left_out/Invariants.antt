use Rattle.std.proofs.Common.{ℕ, List, [], ◌∷◌, ◌++◌}
use Rattle.amqp_outlines.specs.declared.outline.Open.{Open}
use Rattle.amqp_outlines.specs.Outlines.{Grows}
use Rattle.amqp_outlines.proofs.outline.add_left_out.Given as goal

abbrev pub invariant-omitted : goal.invariant-omitted
invariant-omitted t = (l n : ℕ) (opened : List Open) → Grows l n t.fn.entries.items (opened ++ t.around ∷ [])
    → Grows l n t.entries.items (opened ++ t.around ∷ [])
