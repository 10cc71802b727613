use Rattle.std.proofs.Common.{[], ◌∷◌}
use Rattle.std.specs.Prelude.{Err}
use Rattle.amqp_encoder.specs.State.{Filling}
use Rattle.amqp_encoder.proofs.Settled.{filled, passes_on, passes_no_more}
use Rattle.amqp_encoder.proofs.fill.Fill.begin_any_composite.Goals as goal

pub returns-in-Ok-clause-passes : goal.returns-in-Ok-clause-passes
returns-in-Ok-clause-passes g c =
    passes_on _ _ _ (_ ∷ []) (_ ∷ []) _ (filled _ _ _ _ c.in-Ok.ensures.does) (filled _ _ _ _ c.fill_begin.ensures.does)

pub returns-clause-passes : goal.returns-clause-passes
returns-clause-passes g c =
    let mid = c.fill_begin_described.new.self in
    passes_no_more _ (Filling mid) (_ ∷ []) (_ ∷ []) _ (filled _ mid (Err c.in-Err.error) _ c.in-Err.ensures.does)
