use Rattle.std.proofs.Common.{rules, ◌≡◌, ◌<◌, ◌≤◌, length, take, subst, arith}
use Rattle.amqp_model.specs.Constructors.{format}
use Rattle.amqp_model.specs.Spelling.{HasWidthZero}
use Rattle.amqp_lengths.specs.Fronts.{IsFront}
use Rattle.amqp_lengths.specs.Pieces.{IsPrimitive}
use Rattle.amqp_lengths.specs.Stands.{AnyData}
use Rattle.amqp_paths.specs.Steps.{NoneWithin}
use Rattle.amqp_paths.proofs.Datas.{told_cut, told_answered}
use Rattle.amqp_paths.proofs.Furthers.{none_answered}
use Rattle.amqp_paths.specs.Pieces.{container_of}
use Rattle.amqp_paths.proofs.Containers.{row_data}
use Rattle.amqp_paths.proofs.elements.data_within.Goals as goal

pub returns-then-is_row : goal.returns-then-is_row
returns-then-is_row c =
    let n = c.in_ok-announced.announced in
    let there : (n ≤ length c.args.input.now) × (c.in_ok-data.data.now ≡ take n c.args.input.now) = search rules in
    let data_ =
    row_data c.args.code c.in-Some.head.width (container_of c.in-Some.head.kind) c.in_ok-data.data.now c.in-Some.ensures.head
    (c.is_row.ensures c.if-is_row.true) in
    (record { within = there.0; spelled = subst (AnyData c.args.code) there.1 data_ }, omega (arith, c.if-announced-room.false))

pub returns-in_err-data : goal.returns-in_err-data
returns-in_err-data c =
    let n = c.in_ok-announced.announced in
    let few : length c.args.input.now < n = search rules in
    none_answered c.from_residual-in_err-data.result
    (IsPrimitive (format c.args.code) → (HasWidthZero (format c.args.code) → ⊥) → NoneWithin (AnyData c.args.code) c.args.input.now c.args.room)
    (λ m. IsFront (AnyData c.args.code) c.args.input.now m × (m ≤ c.args.room)) c.from_residual-in_err-data.ensures
    (λ prim wide. told_cut c.args.code n c.args.room c.args.input.now c.announced_len.result c.announced_len.ensures.announced c.in_ok-announced.was few)

pub returns-in_default : goal.returns-in_default
returns-in_default c =
    let n = c.in_ok-announced.announced in
    let there : (n ≤ length c.args.input.now) × (c.in_ok-data.data.now ≡ take n c.args.input.now) = search rules in
    told_answered c.args.code n c.args.room c.args.input.now c.in_ok-data.data.now c.announced_len.result c.primitive_len.result
    (IsPrimitive (format c.args.code)) (HasWidthZero (format c.args.code) → ⊥) c.announced_len.ensures.announced c.in_ok-announced.was there.0 there.1
    (omega (arith, c.if-announced-room.false)) c.primitive_len.ensures
