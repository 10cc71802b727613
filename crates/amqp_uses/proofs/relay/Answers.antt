use Rattle.amqp_uses.proofs.relay.Goals as goal

pub returns-clause-same_value : goal.returns-clause-same_value
returns-clause-same_value g c =
    let read_again = c.in_ok-sent.ensures.read_again in
    let laws = c.terms_are_read_again.ensures in
    λ value more read. (_, read_again.read value more read (laws.lasts value) (laws.follows more), read_again.itself value read (laws.kept value))
