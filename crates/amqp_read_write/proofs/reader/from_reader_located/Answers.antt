use Rattle.amqp_read_write.proofs.reader.from_reader_located.Goals as goal

pub returns-in-Ok-clause-one : goal.returns-in-Ok-clause-one
returns-in-Ok-clause-one g c = λ told. rw c.in-Ok.is at (c.read_placed-read.ensures.one told)

pub returns-in-Ok-clause-behind : goal.returns-in-Ok-clause-behind
returns-in-Ok-clause-behind g c = λ told own. rw c.in-Ok.is at (c.read_placed-read.ensures.behind told own)
