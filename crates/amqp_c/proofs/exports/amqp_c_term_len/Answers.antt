use Rattle.amqp_c.proofs.Placed.{place_told}
use Rattle.amqp_c.proofs.exports.amqp_c_term_len.Goals as goal

pub returns-in-Err-clause-stands : goal.returns-in-Err-clause-stands
returns-in-Err-clause-stands c = place_told c.args.input.now c.in-Err.refusal c.of_refusal.result c.of_refusal.ensures.outcome c.in-Err.ensures.stands
