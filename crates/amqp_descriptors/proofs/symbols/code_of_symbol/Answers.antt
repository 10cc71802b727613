use Rattle.std.proofs.Common.{sym, ◌∙◌}
use Rattle.amqp_descriptors.proofs.DescriptorList.{none_has, some_has}
use Rattle.amqp_descriptors.proofs.symbols.code_of_symbol.Goals as goal

pub returns-in_err-place : goal.returns-in_err-place
returns-in_err-place c = rw c.from_residual.ensures (none_has c.descriptors-members.result.now c.descriptors-members.ensures c.args.symbol.now
    (sym c.place_of_name.ensures ∙ c.in_err-place.was))

pub returns : goal.returns
returns c = some_has c.descriptors-members.result.now c.descriptors-members.ensures c.args.symbol.now _ _
    (sym c.place_of_name.ensures ∙ c.in_ok-place.was)
