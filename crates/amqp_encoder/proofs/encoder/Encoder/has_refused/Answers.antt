use Rattle.std.proofs.Common.{refl}
use Rattle.amqp_encoder.proofs.Settled.{refused_before}
use Rattle.amqp_encoder.proofs.encoder.Encoder.has_refused.Goals as goal

pub returns-in-Refused-clause-refused : goal.returns-in-Refused-clause-refused
returns-in-Refused-clause-refused g c calls = refused_before _ c.self.inside.error calls (rw (← c.self.view_is, c.in-Refused.is) refl)
