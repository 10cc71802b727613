use Rattle.std.proofs.Common.{true, false, refl, sym, ◌∙◌, subst}
use Rattle.std.proofs.lemmas.Result.{err_from_is_err_and}
use Rattle.amqp_decoder.specs.Sections.{PeeksSection}
use Rattle.amqp_codec.specs.TermReading.{reading_of}
use Rattle.amqp_codec.proofs.ItemsSteps.{pushed}
use Rattle.amqp_codec.proofs.Tries.{taking_some, began_then, passed_began, refused_later, passed_then}
use Rattle.amqp_batches.specs.Walk.{Walked, WalkFault}
use Rattle.amqp_batches.specs.Runs.{run_walk}
use Rattle.amqp_batches.proofs.Exits.{began_later}
use Rattle.amqp_batches.proofs.WalkSteps.{SoFar, none_so_far, peek_refused}
use Rattle.amqp_batches.proofs.RunSteps.{one_more, one_more_seen, next_here, none_here, item_refused, item_not_kept, run_ends}
use Rattle.amqp_batches.proofs.RunSteps.{code_is, code_is_not, refused_via}
use Rattle.amqp_batches.proofs.run.read_run.Goals as goal

pub loop-comes-init : goal.loop-comes-init
loop-comes-init g c = record {
  so_far = λ tells next.
      (let w = run_walk g.T.BatchItem.code (reading_of g.T.DeserializeTerm.term) in
      subst (λ xs. SoFar w c.args.decoder.now xs c.args.decoder.now) (sym c.new-sections.ensures.items) (none_so_far w c.args.decoder.now));
  next = λ tells next comes. next;
  ended = λ tells next ends. absurd (cc);
  passed = ((refl, refl), λ d x. refl);
  began = λ ends. absurd (cc);
}

pub returns-in_err-section-clause-read : goal.returns-in_err-section-clause-read
returns-in_err-section-clause-read g c tells next =
    let r = reading_of g.T.DeserializeTerm.term in
    let w = run_walk g.T.BatchItem.code r in
    let i = c.loop-comes.invariant in
    let p = err_from_is_err_and c.from_residual.result c.from_residual.ensures.1 in
    rw (p.1, p.2)
    (refused_via (Walked w) (WalkFault w) (λ v. v.items) _ _ _
    (item_refused g.T.BatchItem.code r _ _ _ _ _ (i.so_far tells next) (i.next tells next c.loop-comes-test.true) (c.in_err-section.ensures.read tells)))

pub returns-in_err-section-clause-tries : goal.returns-in_err-section-clause-tries
returns-in_err-section-clause-tries g c =
    let p = err_from_is_err_and c.from_residual.result c.from_residual.ensures.1 in
    rw (p.1, p.2)
    (refused_later _ true c.args.decoder.now c.loop-comes.decoder _ _ (taking_some _) c.loop-comes.invariant.passed c.in_err-section.ensures.tries)

pub returns-then-is_err-clause-read : goal.returns-then-is_err-clause-read
returns-then-is_err-clause-read g c tells next =
    let r = reading_of g.T.DeserializeTerm.term in
    let w = run_walk g.T.BatchItem.code r in
    let i = c.loop-comes.invariant in
    refused_via (Walked w) (WalkFault w) (λ v. v.items) _ _ _
    (item_not_kept g.T.BatchItem.code r _ _ _ _ _ _ _ (i.so_far tells next) (i.next tells next c.loop-comes-test.true)
    (c.in_ok-section.ensures.read tells) c.refuse.ensures.first)

pub returns-in_err-peek_section-clause-read : goal.returns-in_err-peek_section-clause-read
returns-in_err-peek_section-clause-read g c tells next =
    let r = reading_of g.T.DeserializeTerm.term in
    let w = run_walk g.T.BatchItem.code r in
    let i = c.loop-comes.invariant in
    let e = pushed c.push.result c.is_err.result c.push.new.self.items _ _ c.if-is_err.false c.is_err.ensures.value c.push.ensures.items in
    let p = err_from_is_err_and c.from_residual-in_err-peek_section.result c.from_residual-in_err-peek_section.ensures.1 in
    rw (p.1, p.2)
    (refused_via (Walked w) (WalkFault w) (λ v. v.items) _ _ _
    (peek_refused w PeeksSection _ _ _ _ _
    (one_more g.T.BatchItem.code r _ _ _ _ _ _ e (i.so_far tells next) (i.next tells next c.loop-comes-test.true) (c.in_ok-section.ensures.read tells))
    (c.in_err-peek_section.ensures.read tells)))

pub returns-in_err-peek_section-clause-tries : goal.returns-in_err-peek_section-clause-tries
returns-in_err-peek_section-clause-tries g c =
    let p = err_from_is_err_and c.from_residual-in_err-peek_section.result c.from_residual-in_err-peek_section.ensures.1 in
    rw (p.1, p.2)
    (refused_later false true c.args.decoder.now c.read_value.new.decoder _ _ (taking_some _)
    (passed_then c.args.decoder.now c.loop-comes.decoder c.read_value.new.decoder c.loop-comes.invariant.passed c.in_ok-section.ensures.tries)
    c.in_err-peek_section.ensures.tries)

pub loop-comes-preserved : goal.loop-comes-preserved
loop-comes-preserved g c =
    let r = reading_of g.T.DeserializeTerm.term in
    let i = c.loop-comes.invariant in
    let e = pushed c.push.result c.is_err.result c.push.new.self.items _ _ c.if-is_err.false c.is_err.ensures.value c.push.ensures.items in
    let began = began_later c.args.decoder.now c.loop-comes.decoder c.peek_section.new.self i.passed
    (began_then c.loop-comes.decoder c.read_value.new.decoder c.peek_section.new.self c.in_ok-section.ensures.tries
    c.in_ok-peek_section.ensures.tries) in
    record {
      so_far = λ tells next.
          one_more_seen g.T.BatchItem.code r _ _ _ _ _ _ _ _ e (i.so_far tells next) (i.next tells next c.loop-comes-test.true)
          (c.in_ok-section.ensures.read tells) (c.in_ok-peek_section.ensures.read tells);
      next = λ tells next comes.
          next_here g.T.BatchItem.code r _ _ _ (c.in_ok-peek_section.ensures.read tells)
          (code_is _ _ _ c.code.ensures (sym comes ∙ c.eq-comes.ensures));
      ended = λ tells next ends.
          none_here g.T.BatchItem.code r _ _ _ (c.in_ok-peek_section.ensures.read tells)
          (code_is_not _ _ _ c.code.ensures (sym ends ∙ c.eq-comes.ensures));
      passed = passed_began c.args.decoder.now c.peek_section.new.self began;
      began = λ ends. began;
    }

pub returns-clause-read : goal.returns-clause-read
returns-clause-read g c tells next =
    let i = c.loop-comes.invariant in
    run_ends g.T.BatchItem.code (reading_of g.T.DeserializeTerm.term) _ _ _ (i.so_far tells next) (i.ended tells next c.loop-comes-test.false)

pub returns-clause-tries : goal.returns-clause-tries
returns-clause-tries g c = c.loop-comes.invariant.began c.loop-comes-test.false
