use Rattle.std.proofs.Common.{arith, ◌<◌, max, ap, sym, ◌∙◌}
use Rattle.std.proofs.lemmas.Result.{err_from_is_err_and}
use Rattle.amqp_decoder.specs.State.{State}
use Rattle.amqp_decoder.proofs.OpenedArrays.{stopped_items, stopped_start, enters_none, enters_all}
use Rattle.amqp_decoder.proofs.decoder.Decoder.open_array.Goals as goal

pub returns-in_err-count-clause-err : goal.returns-in_err-count-clause-err
returns-in_err-count-clause-err g c = λ told own at.
    let p = err_from_is_err_and c.from_residual.result c.from_residual.ensures.1 in
    rw (p.1, p.2) (stopped_items _ _ _ c.args.start _ (c.in_err-count.ensures.err told) c.in_err-count.ensures.place own at)

pub returns-in_err-take_constructor-clause-err : goal.returns-in_err-take_constructor-clause-err
returns-in_err-take_constructor-clause-err g c = λ told own at.
    let p = err_from_is_err_and c.from_residual-in_err-take_constructor.result c.from_residual-in_err-take_constructor.ensures.1 in
    let opened = c.in_ok-count.ensures.ok told in
    let none = ap (λ (z : State). z.top.shared) opened.entered in
    let some : 0 < max c.in_ok-count.count c.in_ok-count.content = omega (arith, c.max.ensures, c.if-max-eq0.false) in
    rw (p.1, p.2) (stopped_start _ _ _ _ _ _ _ _ opened.header opened.room some opened.entered own (c.in_err-take_constructor.ensures.err told none))

pub returns-then-max-eq0-clause-ok : goal.returns-then-max-eq0-clause-ok
returns-then-max-eq0-clause-ok g c = λ told.
    let opened = c.in_ok-count.ensures.ok told in
    enters_none _ _ _ _ _ _ opened.header (opened.room, opened.few, opened.entered) (sym c.max.ensures ∙ c.if-max-eq0.true)

pub returns-clause-ok : goal.returns-clause-ok
returns-clause-ok g c = λ told.
    let opened = c.in_ok-count.ensures.ok told in
    let none = ap (λ (z : State). z.top.shared) opened.entered in
    let some : 0 < max c.in_ok-count.count c.in_ok-count.content = omega (arith, c.max.ensures, c.if-max-eq0.false) in
    enters_all _ _ _ _ _ _ _ opened.header (opened.room, opened.few, opened.entered) some
    (c.in_ok-take_constructor.ensures.ok told none (ap (λ (z : State). z.top.place) opened.entered))
