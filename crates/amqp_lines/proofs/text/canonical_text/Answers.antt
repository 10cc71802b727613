use Rattle.amqp_lines.proofs.text.canonical_text.Goals as goal

pub returns-in-Attach-types-clause-refused : goal.returns-in-Attach-types-clause-refused
returns-in-Attach-types-clause-refused c = rw c.in-Attach-types.is c.types-text_within-6.ensures.refused

pub returns-in-Flow-types-clause-refused : goal.returns-in-Flow-types-clause-refused
returns-in-Flow-types-clause-refused c = rw c.in-Flow-types.is c.types-text_within-29.ensures.refused

pub returns-in-Open-types-clause-refused : goal.returns-in-Open-types-clause-refused
returns-in-Open-types-clause-refused c = rw c.in-Open-types.is c.types-text_within-40.ensures.refused

pub returns-in-Properties-types-clause-refused : goal.returns-in-Properties-types-clause-refused
returns-in-Properties-types-clause-refused c = rw c.in-Properties-types.is c.types-text_within-43.ensures.refused

pub returns-in-Source-types-clause-refused : goal.returns-in-Source-types-clause-refused
returns-in-Source-types-clause-refused c = rw c.in-Source-types.is c.types-text_within-53.ensures.refused

pub returns-in-Transfer-types-clause-refused : goal.returns-in-Transfer-types-clause-refused
returns-in-Transfer-types-clause-refused c = rw c.in-Transfer-types.is c.types-text_within-61.ensures.refused
