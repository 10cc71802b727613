use Rattle.std.proofs.Common.{rules}
use Rattle.amqp_decoder.proofs.Quick.{quick_looks}
use Rattle.amqp_decoder.proofs.decoder.Decoder.peek_value.Goals as goal

pub returns-clause-read : goal.returns-clause-read
returns-clause-read g c =
    quick_looks _ _ _ (c.is_plain.ensures (search rules)) (λ x. let h = c.is_spent.ensures.1 x in absurd (search rules)) c.look_at_hand.ensures.next
