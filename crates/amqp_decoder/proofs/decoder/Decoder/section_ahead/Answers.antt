use Rattle.amqp_decoder.proofs.decoder.Decoder.section_ahead.Goals as goal

pub returns-in-Ok-clause-ok : goal.returns-in-Ok-clause-ok
returns-in-Ok-clause-ok g c = rw (← c.self.view_is) (λ told. (c.in-Ok.ensures.ok told).1)
