use Rattle.std.proofs.Common.{refl}
use Rattle.amqp_attach.specs.declared.performative.Performative.TheVariants as performative
use Rattle.amqp_attach.proofs.performative.PerformativeSerialize.serialize.Goals as goal

pub returns-in-Open : goal.returns-in-Open
returns-in-Open g c = c.write_as.ensures.written (performative.Open c.in-Open.opening) c.in-Open.is refl

pub returns-in-Begin : goal.returns-in-Begin
returns-in-Begin g c = c.write_as-in-Begin.ensures.written (performative.Begin c.in-Begin.begin) c.in-Begin.is refl

pub returns-in-Attach : goal.returns-in-Attach
returns-in-Attach g c = c.write_as-in-Attach.ensures.written (performative.Attach c.in-Attach.attach) c.in-Attach.is refl

pub returns-in-Flow : goal.returns-in-Flow
returns-in-Flow g c = c.write_as-in-Flow.ensures.written (performative.Flow c.in-Flow.flow) c.in-Flow.is refl

pub returns-in-Transfer : goal.returns-in-Transfer
returns-in-Transfer g c = c.write_as-in-Transfer.ensures.written (performative.Transfer c.in-Transfer.transfer) c.in-Transfer.is refl

pub returns-in-Disposition : goal.returns-in-Disposition
returns-in-Disposition g c = c.write_as-in-Disposition.ensures.written (performative.Disposition c.in-Disposition.disposition) c.in-Disposition.is refl

pub returns-in-Detach : goal.returns-in-Detach
returns-in-Detach g c = c.write_as-in-Detach.ensures.written (performative.Detach c.in-Detach.detach) c.in-Detach.is refl

pub returns-in-End : goal.returns-in-End
returns-in-End g c = c.write_as-in-End.ensures.written (performative.End c.in-End.end) c.in-End.is refl

pub returns-in-Close : goal.returns-in-Close
returns-in-Close g c = c.write_as-in-Close.ensures.written (performative.Close c.in-Close.close) c.in-Close.is refl
