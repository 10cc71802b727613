use Rattle.std.proofs.Common.{rules, ◌≡◌, ◌<◌, ◌≤◌, ◌+◌, ◌-◌, length, take, drop, refl, ap, ◌∙◌, arith}
use Rattle.std.proofs.lemmas.List.{length-drop}
use Rattle.amqp_lengths.proofs.Fronts.{tail_all}
use Rattle.amqp_lengths.specs.Fronts.{IsFront, NoFront}
use Rattle.amqp_lengths.specs.Stands.{AnyData}
use Rattle.amqp_paths.proofs.Datas.{sized_data, sized_unbegun, sized_none, sized_wrong}
use Rattle.amqp_paths.proofs.Furthers.{none_answered}
use Rattle.amqp_paths.proofs.elements.sized_len.Goals as goal

pub returns-then-is_value : goal.returns-then-is_value
returns-then-is_value c =
    let w = c.args.width in
    let n = c.in_ok-len.len in
    let input = c.args.input.now in
    let tail = take (length input - w) (drop w input) in
    let few : n ≤ length tail = c.in_ok-get.ensures.lookup.0.1 in
    let same : n - 0 ≡ n = omega arith in
    let bytes : c.in_ok-get.field-0.now ≡ take n tail = c.in_ok-get.ensures.lookup.0.2 ∙ ap (λ k. take k tail) same in
    let (value, is) = c.requires.sized in
    let number = c.in_ok-len.ensures.number in
    sized_data c.args.code w n (w + n) value input c.in_ok-get.field-0.now is number refl
    (omega (arith, few, ap length (tail_all w input), length-drop w input, number.within)) (bytes ∙ ap (take n) (tail_all w input))
    (c.is_value.ensures.found c.if-is_value.true)

pub returns-in_err-len : goal.returns-in_err-len
returns-in_err-len c =
    let (value, is) = c.requires.sized in
    none_answered c.from_residual.result (NoFront (AnyData c.args.code) c.args.input.now) (λ m. IsFront (AnyData c.args.code) c.args.input.now m)
    c.from_residual.ensures (sized_unbegun c.args.code c.args.width value c.args.input.now is c.in_err-len.ensures.number)

pub returns-in_err-get : goal.returns-in_err-get
returns-in_err-get c =
    let w = c.args.width in
    let n = c.in_ok-len.len in
    let input = c.args.input.now in
    let few : length (take (length input - w) (drop w input)) < n = search rules in
    let (value, is) = c.requires.sized in
    none_answered c.from_residual-in_err-get.result (NoFront (AnyData c.args.code) input) (λ m. IsFront (AnyData c.args.code) input m)
    c.from_residual-in_err-get.ensures
    (sized_none c.args.code w n value input is c.in_ok-len.ensures.number (omega (arith, few, ap length (tail_all w input))))

pub returns-else-is_value : goal.returns-else-is_value
returns-else-is_value c =
    let w = c.args.width in
    let n = c.in_ok-len.len in
    let input = c.args.input.now in
    let tail = take (length input - w) (drop w input) in
    let few : n ≤ length tail = c.in_ok-get.ensures.lookup.0.1 in
    let same : n - 0 ≡ n = omega arith in
    let bytes : c.in_ok-get.field-0.now ≡ take n tail = c.in_ok-get.ensures.lookup.0.2 ∙ ap (λ k. take k tail) same in
    let (value, is) = c.requires.sized in
    sized_wrong c.args.code w n value input c.in_ok-get.field-0.now is c.in_ok-len.ensures.number (omega (arith, few, ap length (tail_all w input)))
    (bytes ∙ ap (take n) (tail_all w input)) (λ v. let t = c.is_value.ensures.all v in let f = c.if-is_value.false in absurd (cc))
