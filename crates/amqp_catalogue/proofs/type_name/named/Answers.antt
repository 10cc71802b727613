use Rattle.std.proofs.Common.{sym, ◌∙◌}
use Rattle.amqp_catalogue.specs.NamedTypes.{type_name}
use Rattle.amqp_catalogue.specs.contracts.type_name.TypeName.{the_type}
use Rattle.amqp_catalogue.proofs.Rows.{row_named, not_named}
use Rattle.amqp_catalogue.proofs.type_name.named.Goals as goal

pub returns-in_err-place : goal.returns-in_err-place
returns-in_err-place c = rw c.from_residual.ensures
    (not_named the_type tt type_name c.args.rows.now c.args.name.now (sym c.place_of.ensures ∙ c.in_err-place.was) c.requires)

pub returns : goal.returns
returns c = row_named the_type tt type_name c.args.rows.now _ c.args.name.now _ (sym c.place_of.ensures ∙ c.in_ok-place.was) c.requires
