-- The format codes of kinds.
use Rattle.std.specs.Prelude.{ℕ}
use Rattle.amqp_model.specs.Term.{Term, leaf, container}
use Rattle.amqp_model.specs.Text.{wide, wide_code}

-- Part 1, sections 1.2.4 and 1.6: the code of the term's kind among the items of an array, and 0x00 where no kind has one.
abbrev pub format_code : Term → ℕ
format_code (leaf p) = (wide p).0
format_code (container k ts) = wide_code k
format_code t = 0x00
