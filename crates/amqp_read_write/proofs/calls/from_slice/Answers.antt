use Rattle.amqp_read_write.proofs.calls.from_slice.Goals as goal

pub returns-clause-one : goal.returns-clause-one
returns-clause-one g c v w n m h k = (c.in_ok-value.ensures.one v w n m h k).0

pub returns-in_err-value-clause-one : goal.returns-in_err-value-clause-one
returns-in_err-value-clause-one g c = λ v w n m h k. (c.from_slice_counted.ensures.one v w n m h k).0
