use Rattle.std.proofs.Common.{Vec, Global, ℕ, ◌≤◌, sym, subst, ◌∙◌}
use Rattle.amqp_decoder.specs.State.{State}
use Rattle.std.proofs.lemmas.Result.{err_from_is_err_and}
use Rattle.amqp_decoder.proofs.Peeks.{no_code_shared}
use Rattle.amqp_decoder.proofs.Steps.{refused_second, refused_third}
use Rattle.amqp_decoder.proofs.KeptTerms.{term_missing, term_misspelled, term_taken, term_full, nests_at_most}
use Rattle.amqp_decoder.proofs.decoder.Decoder.read_term.Goals as goal

pub returns-in_err-bytes-clause-read : goal.returns-in_err-bytes-clause-read
returns-in_err-bytes-clause-read g c = λ told.
    let p = err_from_is_err_and c.from_residual-in_err-bytes.result c.from_residual-in_err-bytes.ensures.1 in
    let left = c.in_ok-check_item.ensures.read in
    let none = no_code_shared _ _ c.shared_code.ensures (sym c.is_some.ensures ∙ c.if-is_some.false) in
    let stopped = rw left.kept at (c.in_err-bytes.ensures.err told) in
    rw (p.1, p.2) (term_misspelled (λ (v : Vec ℕ Global). v.items) _ _ _ left.going left.item (rw left.kept at none) stopped)

pub returns-in_err-count_term-clause-tries : goal.returns-in_err-count_term-clause-tries
returns-in_err-count_term-clause-tries g c =
    let p = err_from_is_err_and c.from_residual-in_err-count_term.result c.from_residual-in_err-count_term.ensures.1 in
    rw (p.1, p.2) (refused_third c.args.self.now c.check_item.new.self c.term_bytes.new.self _ _ c.in_ok-check_item.ensures.tries c.in_ok-bytes.ensures.goes c.in_err-count_term.ensures.goes)

pub returns-in_err-count_term-clause-read : goal.returns-in_err-count_term-clause-read
returns-in_err-count_term-clause-read g c = λ told.
    let p = err_from_is_err_and c.from_residual-in_err-count_term.result c.from_residual-in_err-count_term.ensures.1 in
    let left = c.in_ok-check_item.ensures.read in
    let none = no_code_shared _ _ c.shared_code.ensures (sym c.is_some.ensures ∙ c.if-is_some.false) in
    let took = rw left.kept at (c.in_ok-bytes.ensures.ok told) in
    let deep = nests_at_most _ _ _ took.1.2 (subst (λ (z : State). z.nesting ≤ 128) took.0.moved c.room.ensures.limit) in
    let full = (rw c.as_slice.ensures.value at c.in_err-count_term.ensures.err) took.1.0 took.1.1 deep in
    rw (p.1, p.2) (term_full (λ (v : Vec ℕ Global). v.items) _ _ _ _ _ left.going left.item (rw left.kept at none) took.0 took.1 full.0 full.1
    full.2 c.place-start.result c.in_err-count_term.ensures.place (rw left.kept at c.place-start.ensures))

pub returns-clause-read : goal.returns-clause-read
returns-clause-read g c = λ told.
    let left = c.in_ok-check_item.ensures.read in
    let none = no_code_shared _ _ c.shared_code.ensures (sym c.is_some.ensures ∙ c.if-is_some.false) in
    let took = rw left.kept at (c.in_ok-bytes.ensures.ok told) in
    let deep = nests_at_most _ _ _ took.1.2 (subst (λ (z : State). z.nesting ≤ 128) took.0.moved c.room.ensures.limit) in
    let ok = (rw c.as_slice.ensures.value at c.in_ok-count_term.ensures.ok) took.1.0 took.1.1 deep in
    rw (c.take_item.ensures, ok.1) (term_taken _ _ _ left.going left.item (rw left.kept at none) took.0 took.1 ok.0)

pub returns-in_err-check_item-clause-read : goal.returns-in_err-check_item-clause-read
returns-in_err-check_item-clause-read g c = λ told.
    let p = err_from_is_err_and c.from_residual.result c.from_residual.ensures.1 in
    rw (p.1, p.2) (term_missing (λ (v : Vec ℕ Global). v.items) _ _ _ c.in_err-check_item.ensures.read c.in_err-check_item.ensures.place)

pub returns-in_err-bytes-clause-tries : goal.returns-in_err-bytes-clause-tries
returns-in_err-bytes-clause-tries g c =
    let p = err_from_is_err_and c.from_residual-in_err-bytes.result c.from_residual-in_err-bytes.ensures.1 in
    rw (p.1, p.2) (refused_second c.args.self.now c.check_item.new.self _ _ c.in_ok-check_item.ensures.tries c.in_err-bytes.ensures.goes)
