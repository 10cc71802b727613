use Rattle.std.proofs.Common.{◌≡◌, ◌+◌, ◌-◌, ap, ap₂, arith, sym, refl, ◌∙◌, get_or}
use Rattle.std.proofs.lemmas.List.{get_or_default}
use Rattle.std.specs.Ordering.{is_lt}
use Rattle.amqp_values.proofs.Rising.{stops, strictly_from_rising}
use Rattle.amqp_values.proofs.sorted.rises.Goals as goal

pub returns-then-not-is_lt : goal.returns-then-not-is_lt
returns-then-not-is_lt g c =
    let items = c.args.items.now in
    let i = c.loop-index.index in (
      λ e. cc,
      λ s. absurd (stops g.T.Ord.cmp items (i - 1) (omega arith)
          (λ d.
          let before = get_or_default items (i - 1) d c.index-items-index.result (omega arith) ∙ sym c.index-items-index.is in
          let here : i - 1 + 1 ≡ i = omega arith in
          let at = ap (λ n. get_or items n d) here
          ∙ (get_or_default items i d c.index-items-index-in-loop-index.result (omega arith) ∙ sym c.index-items-index-in-loop-index.is) in
          ap is_lt (ap₂ g.T.Ord.cmp before at ∙ sym c.cmp.ensures) ∙ (sym c.is_lt.ensures ∙ c.if-not-is_lt.true)) s),
    )

pub returns : goal.returns
returns g c =
    let s = strictly_from_rising g.T.Ord.cmp g.met.T.Ord.total c.args.items.now c.loop-index.index (omega arith) c.loop-index.invariant in
    (λ e. s, λ h. refl)
