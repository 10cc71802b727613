use Rattle.std.proofs.Common.{arith, ◌≡◌, ◌≤◌, ◌-◌, ◌+◌, ◌++◌, ◌∙◌, length, take, drop, ap, refl, sym, subst, min}
use Rattle.amqp_wire.specs.Sources.{known}
use Rattle.amqp_lookahead.specs.State.{seen_of}
use Rattle.amqp_lookahead.proofs.Looks.{pending_none, copied_whole, looked_is, seen_more}
use Rattle.amqp_lookahead.proofs.input.Input.peek_whole.Goals as goal

pub returns-clause-whole : goal.returns-clause-whole
returns-clause-whole g c =
    let is = c.in_ok-bytes.ensures in
    let K = known (g.R.ByteSource.remaining c.self.inside.source) in
    let n = c.copy_front-count.result in
    let a = c.self.inside.end - c.self.inside.start in
    let none : a ≡ 0 = omega (arith, c.self.invariant.2 is.0) in
    let bytes : K ≡ c.in_ok-bytes.bytes.now = ap known is.1 in
    let count = c.copy_front-count.ensures.count in
    let few : n ≤ length K = omega (arith, ap length bytes, count) in
    let less : c.min-self-inside.result ≡ min c.self.inside.unseen (length K - n) =
    c.min-self-inside.ensures ∙ ap (λ k. min c.self.inside.unseen (k - n)) (sym (ap length bytes)) in
    let front : c.copy_front-count.new.buffer ≡ take n K ++ drop n c.args.buffer.now =
    subst (λ x. c.copy_front-count.new.buffer ≡ take n x ++ drop n c.args.buffer.now) (sym bytes) c.copy_front-count.ensures.front in
    rw (← c.self.view_is) (
      omega (arith, count),
      copied_whole _ _ n c.self.inside.looked K c.copy_front-count.new.buffer _ (c.self.invariant.2 is.0) few front,
      λ h. ap (λ x. length (x ++ K)) (pending_none _ _ c.self.inside.looked none) ∙ omega (arith, h, count, ap length bytes),
      looked_is _ _ _ _ _ _ n refl
          (ap (λ u. a + seen_of g.R.ByteSource.is_whole K u) less ∙ seen_more g.R.ByteSource.is_whole K a c.self.inside.unseen n is.0 none few)
          refl refl refl,
    )
