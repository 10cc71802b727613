use Rattle.amqp_attach.proofs.performative.PerformativeSerialize.in_type.Goals as goal

pub returns-in-Open : goal.returns-in-Open
returns-in-Open c = rw c.in-Open.is c.in_type.ensures

pub returns-in-Begin : goal.returns-in-Begin
returns-in-Begin c = rw c.in-Begin.is c.in_type-in-Begin.ensures

pub returns-in-Attach : goal.returns-in-Attach
returns-in-Attach c = rw c.in-Attach.is c.in_type-in-Attach.ensures

pub returns-in-Flow : goal.returns-in-Flow
returns-in-Flow c = rw c.in-Flow.is c.in_type-in-Flow.ensures

pub returns-in-Transfer : goal.returns-in-Transfer
returns-in-Transfer c = rw c.in-Transfer.is c.in_type-in-Transfer.ensures

pub returns-in-Disposition : goal.returns-in-Disposition
returns-in-Disposition c = rw c.in-Disposition.is c.in_type-in-Disposition.ensures

pub returns-in-Detach : goal.returns-in-Detach
returns-in-Detach c = rw c.in-Detach.is c.in_type-in-Detach.ensures

pub returns-in-End : goal.returns-in-End
returns-in-End c = rw c.in-End.is c.in_type-in-End.ensures

pub returns-in-Close : goal.returns-in-Close
returns-in-Close c = rw c.in-Close.is c.in_type-in-Close.ensures
