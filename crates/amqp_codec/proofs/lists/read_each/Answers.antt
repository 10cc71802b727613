use Rattle.std.proofs.Common.{true, rules, ap, ◌∙◌, arith, length, length-append, [], ◌∷◌}
use Rattle.std.proofs.lemmas.Result.{err_from_is_err_and}
use Rattle.amqp_codec.specs.laws.ItemsReading.{each_more}
use Rattle.amqp_codec.specs.laws.Refusal.{some_reserved}
use Rattle.amqp_codec.proofs.ItemsSteps.{pushed, value_refused, none_reserved, no_room}
use Rattle.amqp_codec.proofs.Tries.{taking_some, refused_later}
use Rattle.amqp_codec.proofs.lists.read_each.Goals as goal

pub returns-in_err-value-clause-read : goal.returns-in_err-value-clause-read
returns-in_err-value-clause-read g c tells =
    let u = g.T.DeserializeTerm.term in
    let p = err_from_is_err_and c.from_residual.result c.from_residual.ensures.1 in
    rw (p.1, p.2)
    (value_refused c.args.count u.means u.faults.fault (λ v. v.items) _ _ _ _ _ (omega (arith, c.loop-test.true, c.loop.invariant.long))
    (c.loop.invariant.each tells) (c.in_err-value.ensures.read tells))

pub returns-then-is_err-clause-read : goal.returns-then-is_err-clause-read
returns-then-is_err-clause-read g c tells =
    let u = g.T.DeserializeTerm.term in
    no_room c.args.count u.means u.faults.fault (λ v. v.items) _ _ _ _ _ _ c.refuse-then-is_err.ensures.first
    (each_more u.means _ _ _ _ _ (c.loop.invariant.each tells) (c.in_ok-value.ensures.read tells))

pub loop-preserved : goal.loop-preserved
loop-preserved g c =
    let u = g.T.DeserializeTerm.term in
    let e = pushed c.push.result c.is_err.result c.push.new.self.items _ _ c.if-is_err.false c.is_err.ensures.value c.push.ensures.items in
    record {
      long = ap length e ∙ length-append c.loop.values.items (c.in_ok-value.value ∷ []) ∙ omega (arith, c.loop.invariant.long);
      each = λ tells. rw e (each_more u.means _ _ _ _ _ (c.loop.invariant.each tells) (c.in_ok-value.ensures.read tells));
      passed = search rules;
    }

pub returns-in_err-value-clause-tries : goal.returns-in_err-value-clause-tries
returns-in_err-value-clause-tries g c =
    let p = err_from_is_err_and c.from_residual.result c.from_residual.ensures.1 in
    rw (p.1, p.2) (refused_later _ true c.args.decoder.now c.loop.decoder _ _ (taking_some _) c.loop.invariant.passed c.in_err-value.ensures.tries)

pub returns-in_default-clause-read : goal.returns-in_default-clause-read
returns-in_default-clause-read g c tells =
    let u = g.T.DeserializeTerm.term in
    let some = some_reserved c.args.count c.reservable_items.result c.reservable_items.ensures.few c.in_default.ensures.succeeds in
    none_reserved c.args.count u.means u.faults.fault (λ v. v.items) _ _ _ some (rw c.reservable_items.ensures.kept at c.refuse.ensures.first)
    (rw c.reservable_items.ensures.kept at c.refuse.ensures.again)
