use Rattle.amqp_decoder.proofs.RowParts.{joined-set}
use Rattle.amqp_decoder.proofs.row.Row.set.Goals as goal

pub returns : goal.returns
returns c =
    let r = c.self.inside in
    let put = joined-set r.items r.left r.kinds r.codes r.first r.last c.args.at c.args.container in
    rw (← c.self.view_is, c.unwrap_or.ensures, c.of.ensures, c.is_some.ensures) put
