use Rattle.std.proofs.Common.{refl, sym, ◌∙◌, subst}
use Rattle.std.proofs.lemmas.Result.{err_from_is_err_and}
use Rattle.amqp_wire.specs.declared.error.Error.TheVariants.{WrongDescriptor}
use Rattle.amqp_lookahead.specs.Sections.{IsSectionAhead}
use Rattle.amqp_lookahead.proofs.SectionsAhead.{one_ahead}
use Rattle.amqp_codec.specs.TermReading.{reading_of}
use Rattle.amqp_batches.specs.Walk.{IsNext, Walked, WalkFault}
use Rattle.amqp_batches.specs.Runs.{run_walk}
use Rattle.amqp_batches.specs.Batches.{batch_reading}
use Rattle.amqp_batches.specs.SectionGroups.{run_reading, in_run, other_section}
use Rattle.amqp_batches.proofs.RunSteps.{refused_via}
use Rattle.amqp_bodies.proofs.PeekSteps.{read_here, refused_here, kept_here}
use Rattle.amqp_bodies.proofs.sections.TransparentVecDeserializableBody.read_group.Goals as goal

pub returns-in_err-read_run-clause-read : goal.returns-in_err-read_run-clause-read
returns-in_err-read_run-clause-read g c tells next =
    let code = g.T.BatchItem.code in
    let w = run_walk code (reading_of g.T.DeserializeTerm.term) in
    let r = batch_reading code (reading_of g.T.DeserializeTerm.term) in
    let n : IsNext code c.args.decoder.now = subst (λ k. IsNext k c.args.decoder.now) (c.if-code.true ∙ c.code.ensures) next in
    let p = err_from_is_err_and c.from_residual.result c.from_residual.ensures.1 in
    rw (p.1, p.2)
    (refused_here (run_reading code r) r.reads r.fault _ _ _ (λ _. refl) (λ x f. in_run n.1 f) (λ none v b h. none v b h.1)
    (refused_via (λ st v b. Walked w st v.items b) (WalkFault w) (λ v. v.0) _ _ _ (c.in_err-read_run.ensures.read tells n)))

pub returns-in_ok-read_run-clause-read : goal.returns-in_ok-read_run-clause-read
returns-in_ok-read_run-clause-read g c tells next =
    let code = g.T.BatchItem.code in
    let w = run_walk code (reading_of g.T.DeserializeTerm.term) in
    let r = batch_reading code (reading_of g.T.DeserializeTerm.term) in
    let n : IsNext code c.args.decoder.now = subst (λ k. IsNext k c.args.decoder.now) (c.if-code.true ∙ c.code.ensures) next in
    read_here (run_reading code r) _ _ _ (
      n.1,
      subst (λ v. Walked w c.args.decoder.now v.items c.read_run.new.decoder) (sym c.new.ensures) (c.in_ok-read_run.ensures.read tells n),
    )

pub returns-else-code-clause-read : goal.returns-else-code-clause-read
returns-else-code-clause-read g c tells next =
    let code = g.T.BatchItem.code in
    let r = batch_reading code (reading_of g.T.DeserializeTerm.term) in
    let none : IsSectionAhead c.args.decoder.now.rest code → ⊥ = λ h. c.if-code.false (one_ahead _ c.args.code code next.1 h ∙ sym c.code.ensures) in
    kept_here (run_reading code r) _ WrongDescriptor _ _ next.0 (other_section none refl refl) (λ v b h. none h.0) c.refuse.ensures.first
    c.refuse.ensures.place
