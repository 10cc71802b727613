use Rattle.std.proofs.Common.{◌∙◌, sym}
use Rattle.amqp_model.proofs.Unique.{one_front, one_term}
use Rattle.amqp_lengths.proofs.Answered.{none_there, cut_short}
use Rattle.amqp_lengths.proofs.Cuts.{error_asks}
use Rattle.amqp_lengths.proofs.lengths.term_len.Goals as goal

pub returns-clause-none : goal.returns-clause-none
returns-clause-none c = none_there 128 c.args.input.now c.len_of_term.result c.len_of_term.ensures.refused

pub returns-clause-cut : goal.returns-clause-cut
returns-clause-cut c = cut_short 128 c.args.input.now c.len_of_term.result c.len_of_term.ensures.found c.len_of_term.ensures.refused

pub returns-clause-cut_only : goal.returns-clause-cut_only
returns-clause-cut_only c = error_asks 128 c.args.input.now c.len_of_term.result c.len_of_term.ensures.fault

pub returns-clause-one_front : goal.returns-clause-one_front
returns-clause-one_front c = λ s r after behind t u is too h k. one_front s r after behind t u h k (sym is ∙ too)

pub returns-clause-one_term : goal.returns-clause-one_term
returns-clause-one_term c = λ s r after behind t u is too h k. one_term s r after behind t u h k (sym is ∙ too)
