use Rattle.std.proofs.Common.{rules, arith, ◌≡◌, ℕ, List, ◌++◌, IsAscii, sym, subst, ap, length, length-append, vec_len}
use Rattle.std.specs.Str.{IsNotAscii}
use Rattle.std.proofs.lemmas.Result.{err_from_is_err_and}
use Rattle.amqp_decoder.proofs.KeptBytes.{text_is, keeps_symbol, stopped_size, stopped_text, stopped_ascii}
use Rattle.amqp_decoder.proofs.decoder.Decoder.keep_symbol.Goals as goal
use Rattle.amqp_decoder.proofs.decoder.Decoder.keep_symbol.Goals.{in_default-via-in-Some+else-is_ascii, in_default-via-in_default}

pub returns-in_err-len-clause-err : goal.returns-in_err-len-clause-err
returns-in_err-len-clause-err g c = λ told.
    let p = err_from_is_err_and c.from_residual.result c.from_residual.ensures.1 in
    rw (p.1, p.2) (stopped_size _ _ _ _ (c.in_err-len.ensures.err told))

pub returns-in_err-keep_next-clause-err : goal.returns-in_err-keep_next-clause-err
returns-in_err-keep_next-clause-err g c = λ told.
    let p = err_from_is_err_and c.from_residual-in_err-keep_next.result c.from_residual-in_err-keep_next.ensures.1 in
    rw (p.1, p.2) (stopped_text _ _ _ _ _ _ _ _ c.in_ok-len.ensures.fits (c.in_ok-len.ensures.ok told)
    (c.in_err-keep_next.ensures.err told))

pub returns-in-Some-clause-ok : goal.returns-in-Some-clause-ok
returns-in-Some-clause-ok g c = λ told.
    let long : length c.keep_number.new.bytes.items ≡ vec_len c.keep_number.new.bytes = search rules in
    let start : c.len-start.result ≡ length c.keep_number.new.bytes.items = omega (arith, long, c.len-start.ensures) in
    let ascii : IsAscii c.in-Some.text.now = search rules in
    let good : (y : List ℕ) → c.keep_next.new.bytes.items ≡ c.keep_number.new.bytes.items ++ y → IsAscii y = λ y added.
    subst IsAscii (text_is _ _ _ _ _ _ start c.deref.ensures.value added c.in-Some.ensures.lookup.0.2) ascii in
    keeps_symbol _ _ _ _ _ _ _ _ c.in_ok-len.ensures.fits good (c.in_ok-len.ensures.ok told) (c.in_ok-keep_next.ensures.ok told)

pub returns-in_default-clause-err : goal.returns-in_default-clause-err
returns-in_default-clause-err g c = λ told.
    let long : length c.keep_number.new.bytes.items ≡ vec_len c.keep_number.new.bytes = search rules in
    let start : c.len-start.result ≡ length c.keep_number.new.bytes.items = omega (arith, long, c.len-start.ensures) in
    let bad : (y : List ℕ) → c.keep_next.new.bytes.items ≡ c.keep_number.new.bytes.items ++ y → IsAscii y → ⊥ = λ y added ascii.
    elim c.in_default.branch [
      | in_default-via-in-Some+else-is_ascii w ↦ (
          let other : IsNotAscii w.in-Some.text.now = search rules in
          let same : w.in-Some.text.now ≡ y = text_is _ _ _ _ _ _ start c.deref.ensures.value added w.in-Some.ensures.lookup.0.2 in
          let small = subst IsAscii (sym same) ascii other.0 in omega (arith, small, other.1))
      | in_default-via-in_default w ↦
          omega (
            arith,
            start,
            ap length c.deref.ensures.value,
            ap length added,
            length-append c.keep_number.new.bytes.items y,
            w.in_default.ensures.lookup.0,
          )
    ] in
    stopped_ascii _ _ _ _ _ _ _ _ c.stop.result _ c.in_ok-len.ensures.fits bad (c.in_ok-len.ensures.ok told)
    (c.in_ok-keep_next.ensures.ok told)
    c.stop.ensures.answer c.stop.ensures.kept
