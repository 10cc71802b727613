use Rattle.std.proofs.Common.{subst, sym, arith}
use Rattle.std.specs.Fmt.{decimal}
use Rattle.std.specs.Str.{IsUtf8}
use Rattle.std.proofs.lemmas.Fmt.{IsAscii-decimal}
use Rattle.std.proofs.lemmas.Str.{IsUtf8-from_ascii}
use Rattle.amqp_lines.proofs.limits.number.Goals as goal

pub returns-in-Err : goal.returns-in-Err
returns-in-Err c n (digits, small) =
    c.in-Err.ensures.cases.0 (subst IsUtf8 (sym digits) (IsUtf8-from_ascii (decimal n) (IsAscii-decimal n (omega (arith, small)))))
