use Rattle.std.proofs.Common.{[], ◌∷◌}
use Rattle.std.specs.Prelude.{Ok, Err}
use Rattle.amqp_model.specs.Term.{list}
use Rattle.amqp_encoder.specs.State.{Measuring}
use Rattle.amqp_encoder.specs.Tokens.{end, end_described}
use Rattle.amqp_encoder.proofs.Settled.{measured_only, passes_on, passes_no_more}
use Rattle.amqp_encoder.proofs.measure.Measure.end_any_composite.Goals as goal

pub returns-in-Ok : goal.returns-in-Ok
returns-in-Ok c =
    let mid = c.measure_end.new.self in
    passes_on _ (Measuring mid) _ (end list ∷ []) (end_described ∷ []) _ (measured_only _ mid (Ok tt) (end list) c.in-Ok.ensures)
    (measured_only mid _ _ end_described c.measure_end_described.ensures)

pub returns-in-Err : goal.returns-in-Err
returns-in-Err c =
    let mid = c.measure_end.new.self in
    passes_no_more _ (Measuring mid) (end list ∷ []) (end_described ∷ []) _
    (measured_only _ mid (Err c.in-Err.error) (end list) c.in-Err.ensures)
