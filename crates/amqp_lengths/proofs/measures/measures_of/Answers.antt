use Rattle.std.proofs.Common.{◌<◌, ◌^◌, length, arith}
use Rattle.amqp_lengths.proofs.Measured.{none_whole, whole_front, whole_measurable, whole_measured, whole_weighed}
use Rattle.amqp_lengths.proofs.measures.measures_of.Goals as goal

pub returns-in_default-clause-measured : goal.returns-in_default-clause-measured
returns-in_default-clause-measured c = none_whole 128 c.args.input.now _ c.in_default.ensures.refused

pub returns-then-len-input-clause-measured : goal.returns-then-len-input-clause-measured
returns-then-len-input-clause-measured c =
    let less = c.if-len-input.true in
    λ i. let all = whole_front 128 c.args.input.now c.in-Ok.len c.in-Ok.ensures.found i in absurd (omega (arith, less, all))

pub measure_term-term-requires : goal.measure_term-term-requires
measure_term-term-requires c =
    let room : length c.args.input.now < 2 ^ 64 = omega arith in
    whole_measurable c.args.input.now c.in-Ok.len c.in-Ok.ensures.found c.if-len-input.false room

pub returns-clause-measured : goal.returns-clause-measured
returns-clause-measured c =
    let term = c.measure_term-term.result in
    whole_measured c.args.input.now c.in-Ok.len term.len term.nodes term.nesting term.weight c.in-Ok.ensures.found c.if-len-input.false
    c.measure_term-term.ensures

pub returns-clause-weighed : goal.returns-clause-weighed
returns-clause-weighed c =
    let term = c.measure_term-term.result in
    whole_weighed c.args.input.now term.len term.nodes term.nesting term.weight c.measure_term-term.ensures
