use Rattle.amqp_frames.proofs.deliveries.Deliveries.add.Goals as goal

pub begin-requires : goal.begin-requires
begin-requires c = rw c.in-None.is at c.requires

pub returns-in-Some-clause-ok : goal.returns-in-Some-clause-ok
returns-in-Some-clause-ok c = rw c.in-Some.is c.add.ensures.ok

pub returns-in_ok-delivery-in-None-clause-ok : goal.returns-in_ok-delivery-in-None-clause-ok
returns-in_ok-delivery-in-None-clause-ok c = rw (c.in-None.is, c.replace.ensures.after) c.in_ok-delivery-in-None.ensures.ok
