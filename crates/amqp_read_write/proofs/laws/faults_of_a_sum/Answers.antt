use Rattle.amqp_codec.specs.laws.EitherType.{first_fault, second_fault}
use Rattle.amqp_read_write.proofs.laws.faults_of_a_sum.Goals as goal

pub returns-clause-first : goal.returns-clause-first
returns-clause-first g c is_first = first_fault is_first g.A.DeserializeTerm.term.faults g.B.DeserializeTerm.term.faults

pub returns-clause-second : goal.returns-clause-second
returns-clause-second g c is_first = second_fault is_first g.A.DeserializeTerm.term.faults g.B.DeserializeTerm.term.faults
