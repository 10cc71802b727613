use Rattle.std.proofs.lemmas.Result.{err_from_is_err_and}
use Rattle.amqp_decoder.proofs.Steps.{begun_own, begun_shared, begin_short, full_own, full_shared}
use Rattle.amqp_decoder.proofs.decoder.Decoder.begin_slowly.Goals as goal

pub returns-in_err-count-clause-read : goal.returns-in_err-count-clause-read
returns-in_err-count-clause-read g c = λ told.
    let p = err_from_is_err_and c.from_residual-in_err-count.result c.from_residual-in_err-count.ensures.1 in
    let left = c.in_ok-check_item.ensures.read in
    let full = rw left.kept at c.in_err-count.ensures.err in
    rw (p.1, p.2) (full_shared _ _ _ _ left.going left.item (rw left.kept at c.in-Some.ensures) full.0 full.1 full.2)

pub returns-in-Some-clause-read : goal.returns-in-Some-clause-read
returns-in-Some-clause-read g c = λ told.
    let left = c.in_ok-check_item.ensures.read in
    let ok = rw left.kept at c.in_ok-count.ensures.ok in
    rw (c.take_item.ensures, ok.1) (begun_shared _ _ left.going left.item (rw left.kept at c.in-Some.ensures) ok.0)

pub returns-in_err-code-clause-read : goal.returns-in_err-code-clause-read
returns-in_err-code-clause-read g c = λ told.
    let p = err_from_is_err_and c.from_residual-in_err-code.result c.from_residual-in_err-code.ensures.1 in
    let left = c.in_ok-check_item.ensures.read in
    let none = c.in_default.ensures in
    let short = rw left.kept at (c.in_err-code.ensures.err told) in
    rw (p.1, p.2) (begin_short _ _ _ left.going left.item (rw left.kept at none) short)

pub returns-in_err-count-2-clause-read : goal.returns-in_err-count-2-clause-read
returns-in_err-count-2-clause-read g c = λ told.
    let p = err_from_is_err_and c.from_residual-in_err-count-2.result c.from_residual-in_err-count-2.ensures.1 in
    let left = c.in_ok-check_item.ensures.read in
    let none = c.in_default.ensures in
    let took = rw left.kept at (c.in_ok-code.ensures.ok told) in
    let full = c.in_err-count-2.ensures.err in
    rw (p.1, p.2) (full_own _ _ _ _ _ left.going left.item (rw left.kept at none) took full.0 full.1 full.2)

pub returns-clause-read : goal.returns-clause-read
returns-clause-read g c = λ told.
    let left = c.in_ok-check_item.ensures.read in
    let none = c.in_default.ensures in
    let took = rw left.kept at (c.in_ok-code.ensures.ok told) in
    let ok = c.in_ok-count-2.ensures.ok in
    rw (c.take_item-2.ensures, ok.1) (begun_own _ _ _ left.going left.item (rw left.kept at none) took ok.0)
