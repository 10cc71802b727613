use Rattle.std.proofs.Common.{◌≤◌, inl, inr, length, subst, sym}
use Rattle.std.proofs.lemmas.Result.{err_from_is_err_and}
use Rattle.amqp_decoder.specs.State.{State}
use Rattle.amqp_decoder.proofs.ReadPrimitives.{ok_map}
use Rattle.amqp_decoder.proofs.Constructed.{known_zero}
use Rattle.amqp_decoder.specs.Arrays.{no_items}
use Rattle.amqp_decoder.proofs.OpenedArrays.{shares_all, stopped_unconstructed, stopped_zero, stopped_nested}
use Rattle.amqp_decoder.proofs.Steps.{answered}
use Rattle.amqp_decoder.proofs.decoder.Decoder.take_constructor.Goals as goal

pub returns-in_err-descriptors-clause-err : goal.returns-in_err-descriptors-clause-err
returns-in_err-descriptors-clause-err g c = λ told none.
    let p = err_from_is_err_and c.from_residual.result c.from_residual.ensures.1 in
    rw (p.1, p.2) (stopped_unconstructed _ _ _ _ (c.in_err-descriptors.ensures.err told none))

pub returns-then-count-eq0-clause-ok : goal.returns-then-count-eq0-clause-ok
returns-then-count-eq0-clause-ok g c = λ told none here. no_items _ _ c.if-count-eq0.true (c.in_ok-descriptors.ensures.ok told none)

pub returns-then-has_width_zero-clause-err : goal.returns-then-has_width_zero-clause-err
returns-then-has_width_zero-clause-err g c = λ told none.
    stopped_zero _ _ _ _ _ _ _ c.place-start.result _ c.if-count-eq0.false (c.in_ok-descriptors.ensures.ok told none) c.if-has_width_zero.true
    (known_zero c.in_ok-descriptors.code c.has_width_zero.result c.has_width_zero.ensures) c.stop_at.ensures.answer
    (answered _ _ _ _ c.stop_at.ensures.kept c.stop_at.ensures.answer) c.stop_at.ensures.place c.place-start.ensures

pub returns-in_err-check_items-clause-err : goal.returns-in_err-check_items-clause-err
returns-in_err-check_items-clause-err g c = λ told none.
    let p = err_from_is_err_and c.from_residual-in_err-check_items.result c.from_residual-in_err-check_items.ensures.1 in
    rw (p.1, p.2) (stopped_nested _ _ _ _ _ c.is_flat.result _ c.place-start.result _ c.if-count-eq0.false
    (c.in_ok-descriptors.ensures.ok told none) (rw c.deref.ensures.value at c.is_flat.ensures.is) c.in_err-check_items.ensures.err
    c.in_err-check_items.ensures.place c.place-start.ensures)

pub share-requires-clause-room : goal.share-requires-clause-room
share-requires-clause-room g c =
    let fits = c.in_ok-check_items.ensures.ok in
    elim fits.0 [
      | inl x ↦ inl ((rw c.deref.ensures.value at c.is_flat.ensures.flat) x)
      | inr few ↦ inr (subst (λ (st : State). length st.saved ≤ st.nesting) (sym fits.1) few)
    ]

pub returns-clause-ok : goal.returns-clause-ok
returns-clause-ok g c = λ told none here.
    let took = c.in_ok-descriptors.ensures.ok told none in
    ok_map _ _ _ (λ x h. shares_all _ _ _ _ _ _ _ c.has_width_zero.result c.is_flat.result c.if-count-eq0.false here took
    c.if-has_width_zero.false (known_zero c.in_ok-descriptors.code c.has_width_zero.result c.has_width_zero.ensures)
    (rw c.deref.ensures.value at c.is_flat.ensures.is) c.in_ok-check_items.ensures.ok h) c.share.ensures.ok
