use Rattle.std.proofs.Common.{refl}
use Rattle.amqp_codec.specs.laws.Refusal.{refused_first}
use Rattle.amqp_messages.proofs.read.put_body.Goals as goal

pub returns-in-Ok-clause-read : goal.returns-in-Ok-clause-read
returns-in-Ok-clause-read g c tells next =
    let same = g.met.B.FromBody.group_is in
    (c.in-Ok.body, (same.reads _ c.in-Ok.body _).1 (c.in-Ok.ensures.read tells next), refl)

pub returns-in-Err-clause-read : goal.returns-in-Err-clause-read
returns-in-Err-clause-read g c tells next =
    let same = g.met.B.FromBody.group_is in
    refused_first _ _ _ _ _ _ _ (λ _. refl) (λ f h. (same.fault _ f).1 h) (λ n v b h. n v b ((same.reads _ v b).0 h)) (c.in-Err.ensures.read tells next)
