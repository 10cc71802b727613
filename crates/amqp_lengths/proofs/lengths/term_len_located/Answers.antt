use Rattle.std.proofs.Common.{Ok, Err, ◌-◌, length, refl, arith}
use Rattle.amqp_lengths.proofs.Answered.{none_there, cut_short}
use Rattle.amqp_lengths.proofs.Stands.{fault_stands}
use Rattle.amqp_lengths.proofs.lengths.term_len_located.Goals as goal

pub returns-in-Ok-clause-cut : goal.returns-in-Ok-clause-cut
returns-in-Ok-clause-cut c = λ short.
    let e = cut_short 128 c.args.input.now (Ok c.in-Ok.len) c.in-Ok.ensures.found tt short in absurd (cc)

pub returns-in-Err-clause-none : goal.returns-in-Err-clause-none
returns-in-Err-clause-none c = none_there 128 c.args.input.now (Err c.in-Err.refusal.error) c.in-Err.ensures.refused

pub returns-in-Err-clause-cut : goal.returns-in-Err-clause-cut
returns-in-Err-clause-cut c = λ short.
    let e = cut_short 128 c.args.input.now (Err c.in-Err.refusal.error) tt c.in-Err.ensures.refused short in (cc, refl)

pub returns-in-Err-clause-stands : goal.returns-in-Err-clause-stands
returns-in-Err-clause-stands c = (
  length c.args.input.now - c.in-Err.refusal.at,
  omega (arith, c.in-Err.ensures.within),
  fault_stands c.args.input.now c.in-Err.refusal.error (length c.args.input.now - c.in-Err.refusal.at) c.in-Err.ensures.fault,
)
