use Rattle.std.proofs.Common.{true, false, sym, ap, ◌∙◌, subst}
use Rattle.std.proofs.lemmas.Result.{err_from_is_err_and}
use Rattle.amqp_decoder.specs.Sections.{PeeksSection}
use Rattle.amqp_codec.specs.TermReading.{reading_of}
use Rattle.amqp_codec.proofs.Tries.{taking_some, refused_more, refused_behind}
use Rattle.amqp_batches.specs.Walk.{Walked, WalkFault}
use Rattle.amqp_batches.specs.Runs.{run_walk}
use Rattle.amqp_batches.proofs.WalkSteps.{none_so_far, peeked_top, peeked_alike, peek_refused, walked_behind, walk_refused_behind}
use Rattle.amqp_batches.proofs.RunSteps.{next_here, no_run, code_is, code_is_not, refused_via}
use Rattle.amqp_batches.proofs.batch.TransparentVecDeserialize.deserialize.Goals as goal

pub returns-in_err-peek_section-clause-read : goal.returns-in_err-peek_section-clause-read
returns-in_err-peek_section-clause-read g c tells =
    let w = run_walk g.T.BatchItem.code (reading_of g.T.DeserializeTerm.term) in
    let p = err_from_is_err_and c.from_residual.result c.from_residual.ensures.1 in
    rw (p.1, p.2)
    (refused_via (Walked w) (WalkFault w) (λ v. v.0.items) _ _ _
    (peek_refused w PeeksSection _ _ _ _ _ (none_so_far w c.args.decoder.now) (c.in_err-peek_section.ensures.read tells)))

pub returns-in_err-peek_section-clause-tries : goal.returns-in_err-peek_section-clause-tries
returns-in_err-peek_section-clause-tries g c =
    let p = err_from_is_err_and c.from_residual.result c.from_residual.ensures.1 in
    rw (p.1, p.2) (refused_more false true c.args.decoder.now _ _ (taking_some _) c.in_err-peek_section.ensures.tries)

pub returns-in_err-read_run-clause-read : goal.returns-in_err-read_run-clause-read
returns-in_err-read_run-clause-read g c tells =
    let r = reading_of g.T.DeserializeTerm.term in
    let w = run_walk g.T.BatchItem.code r in
    let k = c.in_ok-peek_section.ensures.read tells in
    let next = next_here g.T.BatchItem.code r _ _ _ k (code_is _ _ _ c.code.ensures c.if-eq.ensures) in
    let p = err_from_is_err_and c.from_residual-in_err-read_run.result c.from_residual-in_err-read_run.ensures.1 in
    rw (p.1, p.2)
    (refused_via (λ st v b. Walked w st v.items b) (WalkFault w) (λ v. v.0) _ _ _
    (walk_refused_behind w (λ v. v.items) _ _ _ _ (peeked_top _ _ _ k) (peeked_alike _ _ _ k) (c.in_err-read_run.ensures.read tells next)))

pub returns-in_err-read_run-clause-tries : goal.returns-in_err-read_run-clause-tries
returns-in_err-read_run-clause-tries g c =
    let p = err_from_is_err_and c.from_residual-in_err-read_run.result c.from_residual-in_err-read_run.ensures.1 in
    rw (p.1, p.2)
    (refused_behind true true c.args.decoder.now c.peek_section.new.self _ _ (taking_some _) c.in_ok-peek_section.ensures.tries
    c.in_err-read_run.ensures.tries)

pub returns-in_ok-read_run-clause-read : goal.returns-in_ok-read_run-clause-read
returns-in_ok-read_run-clause-read g c tells =
    let r = reading_of g.T.DeserializeTerm.term in
    let w = run_walk g.T.BatchItem.code r in
    let k = c.in_ok-peek_section.ensures.read tells in
    let next = next_here g.T.BatchItem.code r _ _ _ k (code_is _ _ _ c.code.ensures c.if-eq.ensures) in
    walked_behind w _ _ _ _ (peeked_top _ _ _ k) (peeked_alike _ _ _ k)
    (subst (λ v. Walked w c.peek_section.new.self v.items c.read_run.new.decoder) (sym c.new.ensures) (c.in_ok-read_run.ensures.read tells next))

pub returns-else-eq-clause-read : goal.returns-else-eq-clause-read
returns-else-eq-clause-read g c tells =
    let r = reading_of g.T.DeserializeTerm.term in
    let w = run_walk g.T.BatchItem.code r in
    subst (λ xs. Walked w c.args.decoder.now xs c.peek_section.new.self)
    (sym (ap (λ v. v.items) c.new-else-eq-2.ensures ∙ c.new-else-eq.ensures.items))
    (no_run g.T.BatchItem.code r _ _ _ (c.in_ok-peek_section.ensures.read tells) (code_is_not _ _ _ c.code.ensures c.if-eq.ensures))
