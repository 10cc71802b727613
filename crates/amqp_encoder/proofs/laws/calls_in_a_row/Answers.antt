use Rattle.std.proofs.Common.{refl}
use Rattle.std.specs.Prelude.{Ok, Err}
use Rattle.amqp_encoder.proofs.Joined.{join, cut}
use Rattle.amqp_encoder.proofs.laws.calls_in_a_row.Goals as goal

pub returns-clause-joined : goal.returns-clause-joined
returns-clause-joined c a b d xs ys r h k = join a xs (Ok tt) b ys r d refl h k

pub returns-clause-cut : goal.returns-clause-cut
returns-clause-cut c a b xs ys e h = cut a xs (Err e) b ys (Err e) e e refl refl refl h
