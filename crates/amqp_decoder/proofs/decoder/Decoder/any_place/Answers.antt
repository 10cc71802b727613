use Rattle.std.proofs.Common.{ap, sym, ◌∙◌}
use Rattle.std.proofs.lemmas.Result.{err_from_is_err_and}
use Rattle.amqp_model.specs.Term.{code}
use Rattle.amqp_decoder.specs.State.{State}
use Rattle.amqp_decoder.proofs.Steps.{answered_later}
use Rattle.amqp_decoder.proofs.ReadPrimitives.{err_map, ok_map}
use Rattle.amqp_decoder.proofs.Descriptors.{unmarked, code_took, name_place, missed_code, missed_ulong, missed_kind, missed_size}
use Rattle.amqp_decoder.proofs.Descriptors.{missed_name}
use Rattle.amqp_decoder.proofs.decoder.Decoder.any_place.Goals as goal

pub returns-in_err-code-clause-err : goal.returns-in_err-code-clause-err
returns-in_err-code-clause-err g c = λ told can.
    let p = err_from_is_err_and c.from_residual.result c.from_residual.ensures.1 in
    let none = unmarked _ c.in_default.ensures can in
    rw (p.1, p.2) (missed_code _ _ _ none (c.in_err-code.ensures.err told))

pub returns-in_err-value-clause-err : goal.returns-in_err-value-clause-err
returns-in_err-value-clause-err g c = λ told can.
    let p = err_from_is_err_and c.from_residual-in_err-value.result c.from_residual-in_err-value.ensures.1 in
    let none = unmarked _ c.in_default.ensures can in
    rw (p.1, p.2) (missed_ulong _ _ _ _ _ none (c.in_ok-code.ensures.ok told) (c.in_err-value.ensures.err told))

pub returns-in-Some-2-clause-ok : goal.returns-in-Some-2-clause-ok
returns-in-Some-2-clause-ok g c = λ told can.
    let none = unmarked _ c.in_default.ensures can in
    let h = rw c.in-Some-2.is at (c.in_ok-value.ensures.ok told) in
    record {
      descriptor = code c.in-Some-2.value;
      took = code_took _ _ _ c.in-Some-2.value _ none (c.in_ok-code.ensures.ok told) h;
      is = sym c.place_of_code.ensures;
    }

pub returns-in_err-wide-clause-err : goal.returns-in_err-wide-clause-err
returns-in_err-wide-clause-err g c = λ told can.
    let p = err_from_is_err_and c.from_residual-in_err-wide.result c.from_residual-in_err-wide.ensures.1 in
    let none = unmarked _ c.in_default.ensures can in
    let other = rw c.in_default-2.is at (c.in_ok-value.ensures.ok told) in
    let why = c.in_err-wide.ensures.err in
    rw (p.1, p.2) (missed_kind _ _ _ _ _ none (c.in_ok-code.ensures.ok told) other.0 why.0 why.1 why.2
    (answered_later (ap (λ (x : State). x.failed) other.1) why.3))

pub returns-in_err-len-clause-err : goal.returns-in_err-len-clause-err
returns-in_err-len-clause-err g c = λ told can.
    let p = err_from_is_err_and c.from_residual-in_err-len.result c.from_residual-in_err-len.ensures.1 in
    let none = unmarked _ c.in_default.ensures can in
    let other = rw c.in_default-2.is at (c.in_ok-value.ensures.ok told) in
    let wide = c.in_ok-wide.ensures.ok in
    let same = wide.1 ∙ other.1 in
    rw (p.1, p.2) (missed_size _ _ _ _ _ _ none wide.0 (c.in_ok-code.ensures.ok told) (rw same at (c.in_err-len.ensures.err told)))

pub returns-clause-ok : goal.returns-clause-ok
returns-clause-ok g c = λ told can.
    let none = unmarked _ c.in_default.ensures can in
    let other = rw c.in_default-2.is at (c.in_ok-value.ensures.ok told) in
    let wide = c.in_ok-wide.ensures.ok in
    let same = wide.1 ∙ other.1 in
    let sized = rw same at (c.in_ok-len.ensures.ok told) in
    ok_map _ _ _ (λ place h. name_place _ _ _ _ _ _ _ _ place none wide.0 (c.in_ok-code.ensures.ok told) sized h)
    (c.place_of_text.ensures.ok told)

pub returns-clause-err : goal.returns-clause-err
returns-clause-err g c = λ told can.
    let none = unmarked _ c.in_default.ensures can in
    let other = rw c.in_default-2.is at (c.in_ok-value.ensures.ok told) in
    let wide = c.in_ok-wide.ensures.ok in
    let same = wide.1 ∙ other.1 in
    let sized = rw same at (c.in_ok-len.ensures.ok told) in
    err_map _ _ _ (λ e h. missed_name _ _ _ _ _ _ _ _ none wide.0 (c.in_ok-code.ensures.ok told) sized h) (c.place_of_text.ensures.err told)
