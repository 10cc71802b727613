use Rattle.std.proofs.Common.{refl}
use Rattle.amqp_outlines.proofs.OutlineLemmas.{inside_of}
use Rattle.amqp_outlines.proofs.outline.listed.Goals as goal

pub returns : goal.returns
returns c =
    inside_of c.args.input.now c.args.at c.args.met.now c.in_ok-value.value c.new.result _ c.requires.met c.requires.behind
    c.in_ok-value.ensures c.new.ensures refl refl
