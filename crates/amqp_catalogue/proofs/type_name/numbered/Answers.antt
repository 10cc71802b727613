use Rattle.std.proofs.Common.{arith, []}
use Rattle.amqp_catalogue.specs.NamedTypes.{type_name}
use Rattle.amqp_catalogue.specs.contracts.type_name.TypeName.{the_type}
use Rattle.amqp_catalogue.specs.declared.type_name.TypeName.TheVariants.{Accepted}
use Rattle.amqp_catalogue.proofs.Rows.{at_place, each_listed}
use Rattle.amqp_catalogue.proofs.type_name.numbered.Goals as goal

pub returns-then-before-rows : goal.returns-then-before-rows
returns-then-before-rows c =
    let (least, place) = c.in_ok-before.ensures in
    let at = (at_place the_type tt type_name c.in_ok-before.field-0 0 c.args.rows.now (record { ref_ptr = (0, 0); now = [] }, Accepted)
    c.requires c.if-before-rows.true).0 in omega (arith, at, least, place)

pub returns-else-before-rows : goal.returns-else-before-rows
returns-else-before-rows c named is =
    let (least, place) = c.in_ok-before.ensures in
    let within = (each_listed the_type tt type_name c.args.rows.now (record { ref_ptr = (0, 0); now = [] }, Accepted) c.requires named).0 in
    let past = c.if-before-rows.false in omega (arith, is, within, past, least, place)
