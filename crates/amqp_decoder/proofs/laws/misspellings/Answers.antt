use Rattle.amqp_model.specs.Term.{list, map}
use Rattle.amqp_decoder.proofs.Misspelled.{primitive_misspelled, open_misspelled, array_misspelled, described_misspelled, one_of_misspelled}
use Rattle.amqp_decoder.proofs.Misspelled.{term_misspelled}
use Rattle.amqp_decoder.proofs.NothingInside.{nothing_in_array, nothing_at_array_end, nothing_described}
use Rattle.amqp_decoder.proofs.laws.misspellings.Goals as goal

pub returns-clause-primitives : goal.returns-clause-primitives
returns-clause-primitives c = primitive_misspelled

pub returns-clause-lists : goal.returns-clause-lists
returns-clause-lists c = open_misspelled list tt

pub returns-clause-maps : goal.returns-clause-maps
returns-clause-maps c = open_misspelled map tt

pub returns-clause-arrays : goal.returns-clause-arrays
returns-clause-arrays c = array_misspelled

pub returns-clause-described : goal.returns-clause-described
returns-clause-described c = described_misspelled

pub returns-clause-members : goal.returns-clause-members
returns-clause-members c = one_of_misspelled

pub returns-clause-terms : goal.returns-clause-terms
returns-clause-terms c = term_misspelled

pub returns-clause-in_array : goal.returns-clause-in_array
returns-clause-in_array c st first mid n ts b = nothing_in_array st n first mid ts b

pub returns-clause-at_array_end : goal.returns-clause-at_array_end
returns-clause-at_array_end c place st first last n ts b e = nothing_at_array_end place st n first last ts b e

pub returns-clause-in_described : goal.returns-clause-in_described
returns-clause-in_described c st inner d = nothing_described st d inner
