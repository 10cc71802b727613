use Rattle.std.proofs.Common.{◌≡◌, [], ◌++◌, length, ap, ◌∙◌, arith}
use Rattle.amqp_encoder.specs.Passes.{row_text}
use Rattle.amqp_read_write.proofs.Passes.{filled, never_filled_in_part}
use Rattle.amqp_read_write.proofs.calls.to_vec.Goals as goal

pub returns-clause-text : goal.returns-clause-text
returns-clause-text g c =
    let m = c.in_ok-len.ensures.measured in
    let ts = g.T.Serialize.writing.canons c.args.value.now in
    let proper = g.T.Serialize.writing.proper _ c.measure.ensures.is_value in
    let b : c.in_ok-buffer.buffer.items ≡ [] = c.in_ok-buffer.ensures.items in
    c.buffer_of.ensures.bytes
    ∙ (filled ts proper _ _ _ _ _ _ _ m.1 (omega (arith, ap length b)) (c.filling_encoder-filling.ensures.begun _ m.0 m.2)
    c.serialize.ensures
    ∙ ap (λ bs. bs ++ row_text ts) b)

pub returns-in_err-serialize-clause-refused : goal.returns-in_err-serialize-clause-refused
returns-in_err-serialize-clause-refused g c =
    let m = c.in_ok-len.ensures.measured in
    let ts = g.T.Serialize.writing.canons c.args.value.now in
    let proper = g.T.Serialize.writing.proper _ c.measure.ensures.is_value in
    let b : c.in_ok-buffer.buffer.items ≡ [] = c.in_ok-buffer.ensures.items in
    absurd (never_filled_in_part ts proper _ _ _ _ _ _ _ m.1 (omega (arith, ap length b))
    (c.filling_encoder-filling.ensures.begun _ m.0 m.2) c.serialize.ensures _ c.in_err-serialize.was)
