use Rattle.std.proofs.Common.{◌≡◌, ◌+◌, ◌<◌, ◌∷◌, refl, sym, ap, ◌∙◌, length, take, drop, map, reverse, arith}
use Rattle.std.proofs.lemmas.List.{drop_more, length-map, length-reverse, length-take}
use Rattle.amqp_encoder.specs.Values.{place_of}
use Rattle.amqp_encoder.proofs.Settled.{from_take}
use Rattle.amqp_encoder.proofs.FilledPlain.{composite_opened}
use Rattle.amqp_encoder.proofs.fill.FillPass.begin_composite.Goals as goal

pub returns-then-size-lt256-clause-passes : goal.returns-then-size-lt256-clause-passes
returns-then-size-lt256-clause-passes g c =
    let f = c.self.inside in
    let around = take f.depth f.places in
    let more : f.next < length f.sizes = rw (← c.len.ensures) c.if-self-len.true in
    let next : drop f.next f.sizes ≡ c.get-size.result ∷ drop (f.next + 1) f.sizes =
    drop_more f.sizes f.next c.get-size.result more ∙ ap (λ s. s ∷ drop (f.next + 1) f.sizes) (sym c.get-size.ensures) in
    let old = sym c.self.view_is
    ∙ ap (λ l. record { place = place_of f.place; outer = map place_of (reverse around); sizes = l; out = g.R.Room.bytes f.out; limit = f.limit; loan = g.R.Room.loan f.out }) next in
    composite_opened c.args.self.now _ _ c.get-size.result c.args.code _ old (rw c.in-Alone.is refl)
    (omega (arith, length-map (reverse around) place_of, length-reverse around, length-take f.depth f.places))
    c.if-size-lt255.true c.open_composite.ensures.does

pub returns-then-size-lt256-clause-kept : goal.returns-then-size-lt256-clause-kept
returns-then-size-lt256-clause-kept g c = from_take _ _ (rw (← c.self.view_is) c.open_composite.ensures.kept)

pub returns-clause-kept : goal.returns-clause-kept
returns-clause-kept g c = from_take _ _ c.begin_any_composite.ensures.kept
