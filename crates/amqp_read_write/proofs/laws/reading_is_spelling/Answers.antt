use Rattle.std.proofs.Common.{refl}
use Rattle.amqp_codec.specs.laws.Spelling.{read_spelled, spelled_read}
use Rattle.amqp_read_write.proofs.laws.reading_is_spelling.Goals as goal

pub returns-clause-spelled : goal.returns-clause-spelled
returns-clause-spelled g c = read_spelled g.T.DeserializeTerm.term

pub returns-clause-read : goal.returns-clause-read
returns-clause-read g c = spelled_read g.T.DeserializeTerm.term

pub returns-clause-no_more : goal.returns-clause-no_more
returns-clause-no_more g c = refl

pub returns-clause-one_term : goal.returns-clause-one_term
returns-clause-one_term g c = refl
