use Rattle.amqp_model.specs.Term.{map}
use Rattle.amqp_decoder.proofs.ContainerTerms.{whole, whole_with_parts, parts}
use Rattle.amqp_decoder.proofs.laws.maps.Goals as goal

pub returns : goal.returns
returns c = record {
  taken = λ st after items. (whole map tt st items after, parts map tt st items after);
  stands = λ st after items. whole_with_parts map tt st items after;
}
