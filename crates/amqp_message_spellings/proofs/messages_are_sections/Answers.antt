use Rattle.amqp_message_spellings.proofs.Sections.{body_of_sections, message_sections, strict_sections, next_section}
use Rattle.amqp_message_spellings.proofs.messages_are_sections.Goals as goal

pub returns-clause-any : goal.returns-clause-any
returns-clause-any g c b v more h = message_sections _ _ (body_of_sections _ _ _) b v more h

pub returns-clause-strict : goal.returns-clause-strict
returns-clause-strict g c b v more h = strict_sections _ _ (body_of_sections _ _ _) b v more h

pub returns-clause-next : goal.returns-clause-next
returns-clause-next g c b code cs more kind bytes rest are begins = next_section b code cs more kind bytes rest are begins
