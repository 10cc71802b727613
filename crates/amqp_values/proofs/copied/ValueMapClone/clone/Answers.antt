use Rattle.amqp_values.proofs.CopiesMade.{pairs_copied}
use Rattle.amqp_values.specs.Values.{pairs_of}
use Rattle.amqp_values.proofs.copied.ValueMapClone.clone.Goals as goal

pub returns : goal.returns
returns c =
    record { cases = pairs_copied (pairs_of c.args.self.now) c.in_ok-copy_pairs.field-0.items c.in_ok-copy_pairs.ensures }
