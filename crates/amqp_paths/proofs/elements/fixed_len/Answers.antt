use Rattle.std.proofs.Common.{rules, ◌≡◌, ◌≤◌, ◌<◌, ◌-◌, length, take, ap, ◌∙◌, arith}
use Rattle.amqp_lengths.specs.Fronts.{IsFront, NoFront}
use Rattle.amqp_lengths.specs.Stands.{AnyData}
use Rattle.amqp_paths.proofs.Datas.{fixed_data, fixed_none, fixed_wrong}
use Rattle.amqp_paths.proofs.Furthers.{none_answered}
use Rattle.amqp_paths.proofs.elements.fixed_len.Goals as goal

pub returns-then-is_value : goal.returns-then-is_value
returns-then-is_value c =
    let n = c.fixed_width-width.result in
    let there : (n ≤ length c.args.input.now) × (c.in_ok-get.field-0.now ≡ take n c.args.input.now) = search rules in
    fixed_data c.args.code n c.args.input.now c.in_ok-get.field-0.now c.requires.fixed c.requires.primitive c.fixed_width-width.ensures there.0 there.1
    (c.is_value.ensures.found c.if-is_value.true)

pub returns-in_err-get : goal.returns-in_err-get
returns-in_err-get c =
    let n = c.fixed_width-width.result in
    let few : length c.args.input.now < n = search rules in
    none_answered c.from_residual.result (NoFront (AnyData c.args.code) c.args.input.now) (λ m. IsFront (AnyData c.args.code) c.args.input.now m)
    c.from_residual.ensures (fixed_none c.args.code n c.args.input.now c.requires.fixed c.requires.primitive c.fixed_width-width.ensures few)

pub returns-else-is_value : goal.returns-else-is_value
returns-else-is_value c =
    let n = c.fixed_width-width.result in
    let same : n - 0 ≡ n = omega arith in
    let bytes : c.in_ok-get.field-0.now ≡ take n c.args.input.now = c.in_ok-get.ensures.lookup.0.2 ∙ ap (λ k. take k c.args.input.now) same in
    fixed_wrong c.args.code n c.args.input.now c.in_ok-get.field-0.now c.requires.fixed c.requires.primitive c.fixed_width-width.ensures
    c.in_ok-get.ensures.lookup.0.1 bytes (λ v. let t = c.is_value.ensures.all v in let f = c.if-is_value.false in absurd (cc))
