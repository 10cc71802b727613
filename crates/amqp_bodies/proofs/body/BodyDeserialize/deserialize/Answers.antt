use Rattle.std.proofs.Common.{true, false, Err, refl}
use Rattle.std.proofs.lemmas.Result.{err_from_is_err_and}
use Rattle.amqp_codec.proofs.Tries.{taking_some, refused_more, tries_behind}
use Rattle.amqp_batches.proofs.Exits.{refused_at}
use Rattle.amqp_batches.proofs.WalkSteps.{peeked_top, peeked_alike}
use Rattle.amqp_batches.specs.NoSections.{NoSection}
use Rattle.amqp_bodies.specs.BodyReading.{not_top, not_section}
use Rattle.amqp_bodies.proofs.PeekSteps.{peek_refused, refused_here, behind, next_here, no_section_here}
use Rattle.amqp_bodies.proofs.BodyKinds.{values, datas, sequences, bodies}
use Rattle.amqp_bodies.proofs.BodySteps.{body_top, no_body}
use Rattle.amqp_bodies.proofs.body.BodyDeserialize.deserialize.Goals as goal

pub returns-in_err-code-clause-read : goal.returns-in_err-code-clause-read
returns-in_err-code-clause-read g c tells =
    let u = g.T.DeserializeTerm.term in
    refused_at c.from_residual.result c.from_residual.ensures.1
    (peek_refused (bodies u) _ _ _ (λ x n. not_top n) (body_top (values u) datas (sequences u)) (c.in_err-code.ensures.read tells))

pub returns-in_err-code-clause-tries : goal.returns-in_err-code-clause-tries
returns-in_err-code-clause-tries g c =
    let p = err_from_is_err_and c.from_residual.result c.from_residual.ensures.1 in
    rw (p.1, p.2) (refused_more false true c.args.decoder.now _ _ (taking_some _) c.in_err-code.ensures.tries)

pub returns-in-Some-clause-read : goal.returns-in-Some-clause-read
returns-in-Some-clause-read g c tells =
    let k = c.in_ok-code.ensures.read tells in
    behind (bodies g.T.DeserializeTerm.term) _ _ c.read_group.result _ (peeked_top _ _ _ k) (peeked_alike _ _ _ k)
    (c.read_group.ensures.read tells (next_here _ _ _ c.in-Some.code k c.in-Some.is))

pub returns-in-Some-clause-tries : goal.returns-in-Some-clause-tries
returns-in-Some-clause-tries g c =
    tries_behind true true c.args.decoder.now c.peek_section.new.self c.read_group.result _ (taking_some _) c.in_ok-code.ensures.tries
    c.read_group.ensures.tries

pub returns-in-None-clause-read : goal.returns-in-None-clause-read
returns-in-None-clause-read g c tells =
    let u = g.T.DeserializeTerm.term in
    let k = c.in_ok-code.ensures.read tells in
    let none = no_section_here _ _ _ k c.in-None.is in
    behind (bodies u) _ _ (Err c.no_section.result) _ (peeked_top _ _ _ k) (peeked_alike _ _ _ k)
    (refused_here (bodies u) (λ st (none : Unit {0}) b. ⊥) NoSection _ _ _ (λ _. refl) (λ x f. not_section none f)
    (λ _. no_body (values u) datas (sequences u) _ (none 0x75) (none 0x76) (none 0x77)) (c.no_section.ensures.read tells))
