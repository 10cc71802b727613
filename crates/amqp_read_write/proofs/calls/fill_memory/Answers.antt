use Rattle.std.proofs.Common.{◌≡◌, ◌+◌, ◌≤◌, [], ◌++◌, length, take, refl, sym, ap, ◌∙◌, arith}
use Rattle.amqp_encoder.specs.Passes.{row_text}
use Rattle.amqp_read_write.proofs.Depths.{depths}
use Rattle.amqp_read_write.proofs.Passes.{filled, never_filled_in_part, same_loan}
use Rattle.amqp_read_write.proofs.FilledMemory.{on_err, whole}
use Rattle.amqp_read_write.proofs.calls.fill_memory.Goals as goal

pub filling_encoder-filling-requires : goal.filling_encoder-filling-requires
filling_encoder-filling-requires g c = omega (arith, ap length (c.take.ensures.memory ∙ c.new-room.ensures.memory))

pub returns-clause-text : goal.returns-clause-text
returns-clause-text g c =
    let m = c.requires.measured in
    let ts = g.T.Serialize.writing.canons c.args.value.now in
    let proper = g.T.Serialize.writing.proper _ c.requires.is_value in
    let begun = c.filling_encoder-filling.ensures.begun _ m.0 m.2 in
    let lent = c.filling_encoder-filling.ensures.lent _ m.0 m.2 in
    let b : take c.take.result.len c.take.result.memory.now ≡ [] = rw (c.take.ensures.len, c.new-room.ensures.empty) refl in
    let room : length (take c.take.result.len c.take.result.memory.now) + length c.args.memory.now ≤ length c.args.memory.now =
    omega (arith, ap length b) in
    let loan = same_loan ts proper _ _ _ _ _ _ _ m.1 room begun c.serialize-outcome.ensures in
    let name = c.put_back.ensures.same_reference ∙ (c.buffer_of.ensures.lent loan.0 ∙ (loan.1 ∙ (lent
    ∙ (c.take.ensures.same_reference ∙ c.new-room.ensures.same_reference)))) in
    let text = c.buffer_of.ensures.bytes
    ∙ (filled ts proper _ _ _ _ _ _ _ m.1 room begun c.serialize-outcome.ensures ∙ ap (λ bs. bs ++ row_text ts) b) in
    let d = depths ts proper in
    let last = c.memory-1.given.1.1 (sym name) in
    whole c.buffer_of.result.len _ (row_text ts)
    (ap (take c.buffer_of.result.len) (last ∙ c.put_back.ensures.memory) ∙ text)
    (c.memory-1.given.1.0 ∙ (m.1 d.0 d.1).exact)

pub returns-clause-never_refused : goal.returns-clause-never_refused
returns-clause-never_refused g c =
    let m = c.requires.measured in
    let ts = g.T.Serialize.writing.canons c.args.value.now in
    let proper = g.T.Serialize.writing.proper _ c.requires.is_value in
    let begun = c.filling_encoder-filling.ensures.begun _ m.0 m.2 in
    let b : take c.take.result.len c.take.result.memory.now ≡ [] = rw (c.take.ensures.len, c.new-room.ensures.empty) refl in
    on_err c.serialize-outcome.result _
    (never_filled_in_part ts proper _ _ _ _ _ _ _ m.1 (omega (arith, ap length b)) begun c.serialize-outcome.ensures)
