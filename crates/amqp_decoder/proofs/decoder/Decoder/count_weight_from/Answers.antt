use Rattle.std.proofs.Common.{◌≡◌}
use Rattle.amqp_wire.specs.declared.error.Error.TheVariants.{Limit}
use Rattle.amqp_decoder.specs.State.{State, Has, lower}
use Rattle.amqp_decoder.proofs.Places.{placed_ok, placed_refusal, placed_goes, placed_at}
use Rattle.amqp_decoder.proofs.decoder.Decoder.count_weight_from.Goals as goal

pub returns-clause-ok : goal.returns-clause-ok
returns-clause-ok g c = rw (c.placed.ensures.same, c.placed.ensures.kept)
    (placed_ok (λ (_ : Unit {0}) (st : State). Has c.args.self.now.quota c.args.count
    × (st ≡ record c.args.self.now { quota = lower c.args.self.now.quota c.args.count })) _ _ _ c.count_weight-counted.ensures.ok)

pub returns-clause-err : goal.returns-clause-err
returns-clause-err g c = rw (c.placed.ensures.same, c.placed.ensures.kept)
    (placed_refusal (Has c.args.self.now.quota c.args.count → ⊥) (λ e. e ≡ Limit) Limit c.args.self.now c.count_weight-counted.new.self _ _
    c.count_weight-counted.ensures.err)

pub returns-clause-goes : goal.returns-clause-goes
returns-clause-goes g c = rw (c.placed.ensures.same, c.placed.ensures.kept) (search (placed_goes, c.count_weight-counted.ensures.goes))

pub returns-clause-place : goal.returns-clause-place
returns-clause-place g c = rw (c.placed.ensures.same, c.placed.ensures.kept) (placed_at _ _ _)
