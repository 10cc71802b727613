use Rattle.amqp_model.specs.Term.{name}
use Rattle.amqp_lookahead.proofs.SectionsAhead.{section_is}
use Rattle.amqp_lookahead.proofs.sections.section_of_name.Goals as goal

pub returns : goal.returns
returns c = section_is _ c.section_members.ensures (name c.args.name.now) _ _ c.place_of_name.ensures c.section_at.ensures
