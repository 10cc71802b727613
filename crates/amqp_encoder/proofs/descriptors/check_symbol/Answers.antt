use Rattle.std.proofs.lemmas.Bool.{lt-ltb, le-ltb}
use Rattle.std.specs.Prelude.{length}
use Rattle.amqp_encoder.proofs.Texts.{ascii_tested, non_ascii_tested}
use Rattle.amqp_encoder.proofs.descriptors.check_symbol.Goals as goal

pub returns-then-not-is_ascii : goal.returns-then-not-is_ascii
returns-then-not-is_ascii c = rw (non_ascii_tested c.args.text.now c.if-not-is_ascii.ensures.cases)

pub returns-then-text-gt4294967295 : goal.returns-then-text-gt4294967295
returns-then-text-gt4294967295 c =
    rw (
      ascii_tested c.args.text.now c.if-not-is_ascii.ensures.cases,
      lt-ltb 0xffff_ffff (length c.args.text.now) c.if-text-gt4294967295.true,
    )

pub returns : goal.returns
returns c = rw (
  ascii_tested c.args.text.now c.if-not-is_ascii.ensures.cases,
  le-ltb 0xffff_ffff (length c.args.text.now) c.if-text-gt4294967295.false,
)
