-- Limits of the caller.
use Rattle.std.specs.Prelude.{ℕ, Option}
use Rattle.amqp_decoder.specs.State.{State}

-- The same state within other limits: values nest so deep at most, so many bytes are left, and so many values may begin.
abbrev pub limited : ℕ → Option ℕ → Option ℕ → State → State
limited nesting left quota st = record st { nesting = nesting; top = record st.top { left = left }; quota = quota }
