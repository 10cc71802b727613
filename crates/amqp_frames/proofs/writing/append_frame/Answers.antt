use Rattle.std.proofs.Common.{◌≡◌, ◌++◌, length, take, ap, sym, inl, inr, ◌∙◌, arith, length-append}
use Rattle.std.proofs.Math.Seq.{take-append_seam}
use Rattle.std.proofs.lemmas.Result.{err_from_is_err_and}
use Rattle.amqp_encoder.specs.Passes.{row_text}
use Rattle.amqp_codec.specs.Spelled.{written}
use Rattle.amqp_read_write.proofs.Passes.{filled, never_filled_in_part}
use Rattle.amqp_frame_headers.specs.Frames.{frame_header_bytes}
use Rattle.amqp_frames.proofs.WriteLemmas.{kept_front, greatest_below, sized, framed}
use Rattle.amqp_frames.proofs.writing.append_frame.Goals as goal

pub returns-in_err-header-clause-refused : goal.returns-in_err-header-clause-refused
returns-in_err-header-clause-refused g c =
    let p = err_from_is_err_and c.from_residual-in_err-header.result c.from_residual-in_err-header.ensures.1 in
    rw (p.1, p.2) (
      c.in_err-header.ensures.0,
      omega (
        arith,
        length-append (written g.T.DeserializeTerm.term c.args.value.now) c.args.payload.now,
        c.in_err-header.ensures.1,
        c.in_ok-text_len.ensures.len,
      ),
    )

pub returns-in-Ok-clause-text : goal.returns-in-Ok-clause-text
returns-in-Ok-clause-text g c =
    let m = c.in_ok-text_len.ensures.sizes in
    let v = c.args.value.now in
    let ts = g.T.Serialize.writing.canons v in
    let proper = g.T.Serialize.writing.proper _ c.measure.ensures.is_value in
    let text = written g.T.DeserializeTerm.term v in
    let front = c.args.buffer.now.items in
    let payload = c.args.payload.now in
    let room : c.replace-room.result.items ≡ c.append_header.new.buffer.items = ap (λ b. b.items) c.replace-room.ensures.value in
    framed front (frame_header_bytes c.in_ok-header.header) (row_text ts) payload _ _ (text ++ payload)
    (c.buffer_of.ensures.bytes
    ∙ (filled ts proper _ _ _ _ _ _ _ m.1 (omega (arith, ap length room)) (c.filling_encoder-filling.ensures.begun _ m.0 m.2)
    c.serialize-outcome.ensures
    ∙ ap (λ bs. bs ++ row_text ts) (room ∙ c.in_ok-append_header.ensures.text)))
    c.in-Ok.ensures.text
    (ap (λ bs. bs ++ payload) (c.one_term_is_written.ensures.text v))
    ∙ ap (λ h. front ++ (frame_header_bytes h ++ (text ++ payload)))
    (sized c.args.kind _ (length (text ++ payload)) _ c.in_ok-header.ensures.0
    (omega (arith, length-append text payload, c.in_ok-text_len.ensures.len, c.in_ok-header.ensures.1, greatest_below c.args.kind c.args.max_frame_size (omega arith))))

pub returns-clause-refused : goal.returns-clause-refused
returns-clause-refused g c =
    let m = c.in_ok-text_len.ensures.sizes in
    let ts = g.T.Serialize.writing.canons c.args.value.now in
    let proper = g.T.Serialize.writing.proper _ c.measure.ensures.is_value in
    let room : c.replace-room.result.items ≡ c.append_header.new.buffer.items = ap (λ b. b.items) c.replace-room.ensures.value in
    elim c.in-Err.ensures.refused [
      | inl memory ↦ inl memory
      | inr is ↦
          absurd (never_filled_in_part ts proper _ _ _ _ _ _ _ m.1 (omega (arith, ap length room))
          (c.filling_encoder-filling.ensures.begun _ m.0 m.2) c.serialize-outcome.ensures _ is)
    ]

pub returns-clause-kept : goal.returns-clause-kept
returns-clause-kept g c =
    let m = c.in_ok-text_len.ensures.sizes in
    let ts = g.T.Serialize.writing.canons c.args.value.now in
    let proper = g.T.Serialize.writing.proper _ c.measure.ensures.is_value in
    let front = c.args.buffer.now.items in
    let head = frame_header_bytes c.in_ok-header.header in
    let room : c.replace-room.result.items ≡ c.append_header.new.buffer.items = ap (λ b. b.items) c.replace-room.ensures.value in
    let b : c.replace-room.result.items ≡ front ++ head = room ∙ c.in_ok-append_header.ensures.text in
    c.truncate.ensures.items
    ∙ (ap (take c.len-before.result) (c.in-Err.ensures.kept ∙ c.buffer_of.ensures.bytes)
    ∙ kept_front c.len-before.result front head _ (omega arith)
    (ap (take (length (front ++ head)))
    (filled ts proper _ _ _ _ _ _ _ m.1 (omega (arith, ap length room)) (c.filling_encoder-filling.ensures.begun _ m.0 m.2)
    c.serialize-outcome.ensures
    ∙ ap (λ bs. bs ++ row_text ts) b)
    ∙ take-append_seam (front ++ head) (row_text ts)))
