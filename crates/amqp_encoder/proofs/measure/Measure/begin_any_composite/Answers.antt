use Rattle.std.proofs.Common.{[], ◌∷◌}
use Rattle.std.specs.Prelude.{Err}
use Rattle.amqp_encoder.specs.State.{Measuring}
use Rattle.amqp_encoder.proofs.Settled.{measured, passes_on, passes_no_more}
use Rattle.amqp_encoder.proofs.measure.Measure.begin_any_composite.Goals as goal

pub returns-in-Ok : goal.returns-in-Ok
returns-in-Ok c = passes_on _ _ _ (_ ∷ []) (_ ∷ []) _ (measured _ _ _ _ c.in-Ok.ensures) (measured _ _ _ _ c.measure_begin.ensures)

pub returns : goal.returns
returns c =
    let mid = c.measure_begin_described.new.self in
    passes_no_more _ (Measuring mid) (_ ∷ []) (_ ∷ []) _ (measured _ mid (Err c.in-Err.error) _ c.in-Err.ensures)
