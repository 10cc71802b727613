use Rattle.amqp_model.specs.Term.{list}
use Rattle.amqp_decoder.proofs.ContainerTerms.{whole, whole_with_parts, parts}
use Rattle.amqp_decoder.proofs.laws.lists.Goals as goal

pub returns : goal.returns
returns c = record {
  taken = λ st after items. (whole list tt st items after, parts list tt st items after);
  stands = λ st after items. whole_with_parts list tt st items after;
}
