-- In which order the groups of a message may stand (Part 3, section 3.2).
use Rattle.std.specs.Prelude.{◌≡◌, ℕ, ◌-◌}
use Rattle.amqp_messages.specs.declared.order.Order.{Order}
use Rattle.amqp_messages.specs.declared.order.Order.TheVariants.{Any, Written}

-- How many groups there may still be behind one of a kind that so many kinds come after, where there could be so many before it. In any
-- order seven may stand, whatever they are.
abbrev pub further : Order → ℕ → ℕ → ℕ
further Any left behind = left - 1
further Written left behind = behind

-- No further group is looked for: in any order the rest is left after the seventh.
abbrev pub IsFull : Order → ℕ → Type 0
IsFull Any left = left ≡ 0
IsFull Written left = ⊥
