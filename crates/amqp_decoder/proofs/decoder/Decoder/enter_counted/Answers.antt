use Rattle.std.proofs.Common.{rules, arith, ◌≡◌, ◌≤◌, ◌<◌, length, ap, sym, ◌∙◌, inl}
use Rattle.amqp_decoder.specs.State.{State}
use Rattle.amqp_decoder.proofs.Rows.{length-stack}
use Rattle.amqp_decoder.proofs.ReadPrimitives.{ok_map}
use Rattle.amqp_decoder.proofs.decoder.Decoder.enter_counted.Goals as goal

pub returns-then-self-clause-err : goal.returns-then-self-clause-err
returns-then-self-clause-err g c =
    let deep : length c.args.self.now.saved ≡ c.self.inside.depth =
    ap (λ (st : State). length st.saved) (sym c.self.view_is) ∙ length-stack _ _ _ _ in
    let limit : c.args.self.now.nesting ≡ c.self.inside.nesting = ap (λ (st : State). st.nesting) (sym c.self.view_is) in
    let at : c.self.inside.nesting ≤ c.self.inside.depth = search rules in
    (c.refuse_depth.ensures.answer, omega (arith, deep, limit, at), c.refuse_depth.ensures.kept)

pub enter-requires-clause-room : goal.enter-requires-clause-room
enter-requires-clause-room g c =
    let deep : length c.args.self.now.saved ≡ c.self.inside.depth =
    ap (λ (st : State). length st.saved) (sym c.self.view_is) ∙ length-stack _ _ _ _ in
    let limit : c.args.self.now.nesting ≡ c.self.inside.nesting = ap (λ (st : State). st.nesting) (sym c.self.view_is) in
    let below : c.self.inside.depth < c.self.inside.nesting = search rules in
    inl (omega (arith, deep, limit, below))

pub returns-clause-ok : goal.returns-clause-ok
returns-clause-ok g c =
    let deep : length c.args.self.now.saved ≡ c.self.inside.depth =
    ap (λ (st : State). length st.saved) (sym c.self.view_is) ∙ length-stack _ _ _ _ in
    let limit : c.args.self.now.nesting ≡ c.self.inside.nesting = ap (λ (st : State). st.nesting) (sym c.self.view_is) in
    let below : c.self.inside.depth < c.self.inside.nesting = search rules in
    ok_map c.enter.result _ _ (λ x h. (omega (arith, deep, limit, below), h.1)) c.enter.ensures.ok
