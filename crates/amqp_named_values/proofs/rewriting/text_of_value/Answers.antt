use Rattle.amqp_named_values.proofs.rewriting.text_of_value.Goals as goal

pub returns-in-Attach-types-clause-refused : goal.returns-in-Attach-types-clause-refused
returns-in-Attach-types-clause-refused c = rw c.in-Attach-types.is c.types-text_within-6.ensures.refused

pub returns-in-Flow-types-clause-refused : goal.returns-in-Flow-types-clause-refused
returns-in-Flow-types-clause-refused c = rw c.in-Flow-types.is c.types-text_within-29.ensures.refused

pub returns-in-Open-types-clause-refused : goal.returns-in-Open-types-clause-refused
returns-in-Open-types-clause-refused c = rw c.in-Open-types.is c.types-text_within-40.ensures.refused

pub returns-in-Properties-types-clause-refused : goal.returns-in-Properties-types-clause-refused
returns-in-Properties-types-clause-refused c = rw c.in-Properties-types.is c.types-text_within-43.ensures.refused

pub returns-in-Source-types-clause-refused : goal.returns-in-Source-types-clause-refused
returns-in-Source-types-clause-refused c = rw c.in-Source-types.is c.types-text_within-53.ensures.refused

pub returns-in-Transfer-types-clause-refused : goal.returns-in-Transfer-types-clause-refused
returns-in-Transfer-types-clause-refused c = rw c.in-Transfer-types.is c.types-text_within-61.ensures.refused

pub returns-in-BatchData-types-clause-text : goal.returns-in-BatchData-types-clause-text
returns-in-BatchData-types-clause-text c = rw c.in-BatchData-types.is c.types-text_within-7.ensures.text

pub returns-in-BatchSequence-types-clause-text : goal.returns-in-BatchSequence-types-clause-text
returns-in-BatchSequence-types-clause-text c = rw c.in-BatchSequence-types.is c.types-text_within-8.ensures.text
