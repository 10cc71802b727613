use Rattle.std.proofs.Common.{◌≡◌, true, false, sym, ap, ◌∙◌, arith}
use Rattle.std.specs.Fmt.{decimal}
use Rattle.std.specs.Str.{bytes_eq}
use Rattle.std.proofs.lemmas.Fmt.{parse-decimal}
use Rattle.std.proofs.lemmas.Slice.Eq.{bytes_eq-Decides}
use Rattle.amqp_lines.proofs.limits.number_of_text.Goals as goal

pub returns-in_default : goal.returns-in_default
returns-in_default c n (digits, small) =
    cc (parse-decimal 64 n c.args.text.now _ (omega (arith, small)) (omega (arith, small)) digits c.parse.ensures.value.0)

pub returns-then-n-ge-TOO_LONG : goal.returns-then-n-ge-TOO_LONG
returns-then-n-ge-TOO_LONG c n (digits, small) =
    let same : c.in-Ok.n ≡ n =
    cc (parse-decimal 64 n c.args.text.now _ (omega (arith, small)) (omega (arith, small)) digits c.parse.ensures.value.0) in
    omega (arith, same, small)

pub returns-else-eq : goal.returns-else-eq
returns-else-eq c n (digits, small) =
    let same : c.in-Ok.n ≡ n =
    cc (parse-decimal 64 n c.args.text.now _ (omega (arith, small)) (omega (arith, small)) digits c.parse.ensures.value.0) in
    let again : c.format.result.now ≡ c.args.text.now = c.format.ensures.text ∙ (ap decimal same ∙ sym digits) in
    let equal : bytes_eq c.format.result.now c.args.text.now ≡ true = (bytes_eq-Decides c.format.result.now c.args.text.now).1 again in
    let both : true ≡ false = sym equal ∙ (sym c.eq.ensures ∙ c.if-eq.false) in
    absurd (cc both)
