use Rattle.std.proofs.Common.{true, subst, rules}
use Rattle.std.proofs.lemmas.Result.{err_from_is_err_and}
use Rattle.amqp_codec.proofs.Tries.{taking_some, refused_more}
use Rattle.amqp_batches.specs.Walk.{IsNext}
use Rattle.amqp_batches.proofs.Exits.{refused_at}
use Rattle.amqp_bodies.proofs.BodyKinds.{values, datas, sequences}
use Rattle.amqp_bodies.proofs.BodySteps.{value_refused, data_read, data_refused, sequence_read, sequence_refused, other_refused}
use Rattle.amqp_bodies.proofs.body.BodyDeserializableBody.read_group.Goals as goal

pub returns-in_err-read_group-in-117-clause-read : goal.returns-in_err-read_group-in-117-clause-read
returns-in_err-read_group-in-117-clause-read g c tells next =
    let u = g.T.DeserializeTerm.term in
    let n : IsNext 0x75 c.args.decoder.now = subst (λ k. IsNext k c.args.decoder.now) c.in-117.is next in
    refused_at c.from_residual.result c.from_residual.ensures.1
    (data_refused (values u) datas (sequences u) _ _ _ n (c.in_err-read_group-in-117.ensures.read tells next))

pub returns-in_err-read_group-in-118-clause-read : goal.returns-in_err-read_group-in-118-clause-read
returns-in_err-read_group-in-118-clause-read g c tells next =
    let u = g.T.DeserializeTerm.term in
    let n : IsNext 0x76 c.args.decoder.now = subst (λ k. IsNext k c.args.decoder.now) c.in-118.is next in
    refused_at c.from_residual-in_err-read_group-in-118.result c.from_residual-in_err-read_group-in-118.ensures.1
    (sequence_refused (values u) datas (sequences u) _ _ _ n (c.in_err-read_group-in-118.ensures.read tells next))

pub returns-in_err-read_value-in-119-clause-read : goal.returns-in_err-read_value-in-119-clause-read
returns-in_err-read_value-in-119-clause-read g c tells next =
    let u = g.T.DeserializeTerm.term in
    let n : IsNext 0x77 c.args.decoder.now = subst (λ k. IsNext k c.args.decoder.now) c.in-119.is next in
    refused_at c.from_residual-in_err-read_value-in-119.result c.from_residual-in_err-read_value-in-119.ensures.1
    (value_refused (values u) datas (sequences u) _ _ _ n (c.in_err-read_value-in-119.ensures.read tells))

pub returns-in_err-read_value-in-119-clause-tries : goal.returns-in_err-read_value-in-119-clause-tries
returns-in_err-read_value-in-119-clause-tries g c =
    let p =
    err_from_is_err_and c.from_residual-in_err-read_value-in-119.result c.from_residual-in_err-read_value-in-119.ensures.1 in
    rw (p.1, p.2) (refused_more _ true c.args.decoder.now _ _ (taking_some _) c.in_err-read_value-in-119.ensures.tries)

pub returns-in_ok-read_group-in-117-clause-read : goal.returns-in_ok-read_group-in-117-clause-read
returns-in_ok-read_group-in-117-clause-read g c tells next =
    let u = g.T.DeserializeTerm.term in
    let n : IsNext 0x75 c.args.decoder.now = subst (λ k. IsNext k c.args.decoder.now) c.in-117.is next in
    data_read (values u) datas (sequences u) _ _ _ n (c.in_ok-read_group-in-117.ensures.read tells next)

pub returns-in_ok-read_group-in-118-clause-read : goal.returns-in_ok-read_group-in-118-clause-read
returns-in_ok-read_group-in-118-clause-read g c tells next =
    let u = g.T.DeserializeTerm.term in
    let n : IsNext 0x76 c.args.decoder.now = subst (λ k. IsNext k c.args.decoder.now) c.in-118.is next in
    sequence_read (values u) datas (sequences u) _ _ _ n (c.in_ok-read_group-in-118.ensures.read tells next)

pub returns-in_default-clause-read : goal.returns-in_default-clause-read
returns-in_default-clause-read g c tells next =
    let u = g.T.DeserializeTerm.term in
    other_refused (values u) datas (sequences u) _ c.args.code _ _ next (search rules) (search rules) (search rules) c.refuse.ensures.first
    c.refuse.ensures.place
