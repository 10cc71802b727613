use Rattle.std.proofs.Common.{sym, ◌∙◌, subst}
use Rattle.std.specs.Io.KnownBytes.{Appends}
use Rattle.amqp_lines.specs.Answers.{IsAnswer, printed_of, limits_after}
use Rattle.amqp_lines.proofs.Progress.{is_answer}
use Rattle.amqp_lines.proofs.engine.answer_line.Goals as goal

pub returns-clause-answer : goal.returns-clause-answer
returns-clause-answer g c =
    let answer = c.in_ok-answer.answer in
    let before = c.args.limits.now in (
      printed_of answer,
      subst (λ after. IsAnswer before c.args.line.now (printed_of answer) c.is_ok.result after) (sym c.limits_after.ensures)
          (subst (λ good. IsAnswer before c.args.line.now (printed_of answer) good (limits_after before answer)) (sym c.is_ok.ensures)
          (is_answer before c.args.line.now answer c.in_ok-answer.ensures.answers)),
      subst (Appends (g.W.Write.contents c.args.writer.now) (g.W.Write.contents c.write_whole.new.writer)) (c.as_bytes.ensures.value
          ∙ c.in_ok-text.ensures.printed) c.in_ok-write_whole.ensures.written,
    )
