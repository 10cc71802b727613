use Rattle.amqp_c.proofs.Codes.{mark_answered}
use Rattle.amqp_c.proofs.path.descriptor_code.Goals as goal

pub returns : goal.returns
returns c = mark_answered _ _ _ c.ulong.result c.in_ok-mark.ensures.cases.0 c.if-mark-ne-DESCRIBED.false c.ulong.ensures
