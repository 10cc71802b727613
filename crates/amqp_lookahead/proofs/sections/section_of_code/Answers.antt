use Rattle.amqp_model.specs.Term.{code}
use Rattle.amqp_lookahead.proofs.SectionsAhead.{section_is}
use Rattle.amqp_lookahead.proofs.sections.section_of_code.Goals as goal

pub returns : goal.returns
returns c = section_is _ c.section_members.ensures (code c.args.code) _ _ c.place_of_code.ensures c.section_at.ensures
