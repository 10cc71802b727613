use Rattle.std.proofs.Common.{rules}
use Rattle.amqp_lengths.specs.Pieces.{IsDescriptorCode}
use Rattle.amqp_paths.proofs.Named.{name_answered, unnamed}
use Rattle.amqp_paths.proofs.descriptors.descriptor_len.Goals as goal

pub returns-in-68 : goal.returns-in-68
returns-in-68 c =
    name_answered c.args.input.now c.in_ok-code.code.now c.in_ok-code.field-0-1.now c.term_len.result c.ok.result c.in_ok-code.ensures.cases.0 c.in-68.is
    c.term_len.ensures.found c.term_len.ensures.none c.ok.ensures.value

pub returns-in_default : goal.returns-in_default
returns-in_default c =
    let other : IsDescriptorCode c.in_ok-code.code.now → ⊥ = search rules in
    unnamed c.args.input.now c.in_ok-code.code.now c.in_ok-code.field-0-1.now c.in_ok-code.ensures.cases.0 other
