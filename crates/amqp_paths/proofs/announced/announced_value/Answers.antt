use Rattle.std.proofs.Common.{Some, unwrap_or, length, sym, ap, ◌∙◌, arith}
use Rattle.std.proofs.lemmas.List.{length-drop}
use Rattle.amqp_lengths.proofs.Fronts.{tail_is, tail_all}
use Rattle.amqp_paths.proofs.Named.{value_announced, value_unannounced}
use Rattle.amqp_paths.proofs.announced.announced_value.Goals as goal

pub returns-in_err-code : goal.returns-in_err-code
returns-in_err-code c = λ front after is t.
    let m = c.marks_within-marks.result in
    let marks = c.marks_within-marks.ensures.marks in
    absurd (value_unannounced m.descriptors m.len c.args.input.now front after marks.within marks.spelled c.marks_within-marks.ensures.all
    (omega (arith, c.in_err-code.ensures.cases, ap length (tail_all m.len c.args.input.now), length-drop m.len c.args.input.now)) is t)

pub returns-in_err-announced_len : goal.returns-in_err-announced_len
returns-in_err-announced_len c = λ front after is t.
    let m = c.marks_within-marks.result in
    let marks = c.marks_within-marks.ensures.marks in
    let (n, e, l) =
    value_announced m.descriptors m.len c.args.input.now c.in_ok-code.code.now c.in_ok-code.data.now front after c.announced_len.result marks.within
    marks.spelled c.marks_within-marks.ensures.all (tail_is m.len c.args.input.now _ c.in_ok-code.ensures.cases.0)
    c.announced_len.ensures.announced is t in
    let was = c.in_err-announced_len.was in
    absurd (cc)

pub returns : goal.returns
returns c = λ front after is t.
    let m = c.marks_within-marks.result in
    let marks = c.marks_within-marks.ensures.marks in
    let (n, e, l) =
    value_announced m.descriptors m.len c.args.input.now c.in_ok-code.code.now c.in_ok-code.data.now front after c.announced_len.result marks.within
    marks.spelled c.marks_within-marks.ensures.all (tail_is m.len c.args.input.now _ c.in_ok-code.ensures.cases.0)
    c.announced_len.ensures.announced is t in
    let was = c.in_ok-announced_len.was in
    ap Some (omega (arith, l, ap (λ z. unwrap_or z 0) (sym was ∙ e)))
