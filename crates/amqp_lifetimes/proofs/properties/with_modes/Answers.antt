use Rattle.amqp_lifetimes.proofs.Inserted.{inserted_under}
use Rattle.amqp_lifetimes.proofs.properties.with_modes.Goals as goal

pub returns-clause-properties : goal.returns-clause-properties
returns-clause-properties c =
    inserted_under c.args.properties c.in_ok-key.key c.in_ok-into_value.field-0 _ _ c.inserted.result c.in_ok-key.ensures.text
    c.in_ok-into_value.ensures.value c.inserted.ensures.pairs
