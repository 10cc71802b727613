use Rattle.std.proofs.Common.{arith}
use Rattle.std.proofs.lemmas.List.{length-take-le}
use Rattle.amqp_model.proofs.Lengths.{spelling_length}
use Rattle.amqp_section_slices.proofs.sections.split_section.Goals as goal

pub returns-clause-shorter : goal.returns-clause-shorter
returns-clause-shorter c =
    let found = c.in_ok-len.ensures.found in
    let (t, spelled, deep) = found.spelled in
    let some = spelling_length _ t spelled in
    omega (arith, some, found.within, length-take-le c.in_ok-len.len c.args.input.now found.within, c.split_at.ensures.back_len)
