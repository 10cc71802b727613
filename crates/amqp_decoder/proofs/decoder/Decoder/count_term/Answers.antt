use Rattle.std.proofs.Common.{false}
use Rattle.amqp_model.specs.Measures.{weight}
use Rattle.amqp_decoder.proofs.Counts.{capped_ok, capped_err}
use Rattle.amqp_decoder.proofs.decoder.Decoder.count_term.Goals as goal

pub returns-in-Some-clause-ok : goal.returns-in-Some-clause-ok
returns-in-Some-clause-ok g c = λ t spelled deep.
    let (most, less, is) = c.is_unlimited.ensures.limited c.if-is_unlimited.false in
    capped_ok _ _ _ most (weight t false) c.in-Some.measures.weight is less (c.in-Some.ensures.weighed t spelled) c.count_weight_from.ensures.ok

pub returns-in-Some-clause-err : goal.returns-in-Some-clause-err
returns-in-Some-clause-err g c = λ t spelled deep.
    capped_err _ c.args.self.now _ (weight t false) c.in-Some.measures.weight (c.in-Some.ensures.weighed t spelled) c.count_weight_from.ensures.err
