use Rattle.amqp_decoder.specs.laws.OtherSource.{array_fault, open_described_fault, term_fault}
use Rattle.amqp_decoder.proofs.NotOutside.{array_not_outside, open_described_not_outside, term_not_outside}
use Rattle.amqp_decoder.proofs.laws.faults.Goals as goal

pub returns-clause-arrays : goal.returns-clause-arrays
returns-clause-arrays c s st e = array_fault s

pub returns-clause-described : goal.returns-clause-described
returns-clause-described c s st e = open_described_fault s

pub returns-clause-terms : goal.returns-clause-terms
returns-clause-terms c s st e = term_fault s

pub returns-clause-no_array : goal.returns-clause-no_array
returns-clause-no_array c = λ st e out. array_not_outside out st

pub returns-clause-no_described : goal.returns-clause-no_described
returns-clause-no_described c = λ st e out. open_described_not_outside out st

pub returns-clause-no_term : goal.returns-clause-no_term
returns-clause-no_term c = λ st e out. term_not_outside out st
