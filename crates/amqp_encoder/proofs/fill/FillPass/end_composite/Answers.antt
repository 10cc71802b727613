use Rattle.std.proofs.Common.{[], ◌∷◌}
use Rattle.std.specs.Prelude.{Err}
use Rattle.amqp_encoder.specs.State.{Filling}
use Rattle.amqp_encoder.proofs.Joined.{on}
use Rattle.amqp_encoder.proofs.Settled.{filled, from_take, passes_on, passes_no_more}
use Rattle.amqp_encoder.proofs.fill.FillPass.end_composite.Goals as goal

pub returns-in-Ok-clause-passes : goal.returns-in-Ok-clause-passes
returns-in-Ok-clause-passes g c =
    passes_on _ _ _ (_ ∷ []) (_ ∷ []) _ (filled _ _ _ _ c.in-Ok.ensures.does) (filled _ _ _ _ c.fill_end-in-Ok.ensures.does)

pub returns-in-Ok-clause-kept : goal.returns-in-Ok-clause-kept
returns-in-Ok-clause-kept g c =
    on _ _ _ (from_take _ _ c.in-Ok.ensures.kept) (from_take _ _ c.fill_end-in-Ok.ensures.kept)

pub returns-in-Err-clause-passes : goal.returns-in-Err-clause-passes
returns-in-Err-clause-passes g c =
    let mid = c.fill_end.new.self in
    passes_no_more _ (Filling mid) (_ ∷ []) (_ ∷ []) _ (filled _ mid (Err c.in-Err.error) _ c.in-Err.ensures.does)

pub returns-in-Err-clause-kept : goal.returns-in-Err-clause-kept
returns-in-Err-clause-kept g c = from_take _ _ c.in-Err.ensures.kept
