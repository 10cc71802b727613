use Rattle.amqp_codec.specs.laws.Key.{texts_compared}
use Rattle.amqp_read_write.proofs.laws.keys_are_compared_by_their_texts.Goals as goal

pub returns-clause-values : goal.returns-clause-values
returns-clause-values g c = g.met.K.MapKey.is_key.decides

pub returns-clause-texts : goal.returns-clause-texts
returns-clause-texts g c = texts_compared g.K.DeserializeTerm.term g.K.PartialEq.eq g.met.K.MapKey.is_key
