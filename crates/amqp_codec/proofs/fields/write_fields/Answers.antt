use Rattle.amqp_codec.proofs.Pending.{pending_none}
use Rattle.amqp_codec.proofs.fields.write_fields.Goals as goal

pub returns-in-Ok : goal.returns-in-Ok
returns-in-Ok g c =
    c.write_others.ensures _ (c.in-Ok.ensures.written _ (pending_none g.L.FieldList.list.fields c.args.value.now _ c.requires.going))

pub returns-in-Err : goal.returns-in-Err
returns-in-Err g c =
    c.in-Err.ensures.written _ (pending_none g.L.FieldList.list.fields c.args.value.now _ c.requires.going)
