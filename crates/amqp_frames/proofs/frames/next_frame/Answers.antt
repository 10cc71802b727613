use Rattle.std.proofs.Common.{arith, rules}
use Rattle.amqp_frame_headers.proofs.AnswerLemmas.{needs_before_size, needs_after_size, whole_sound, whole_size, frame_begins, frame_or_need}
use Rattle.amqp_frame_headers.proofs.FrameLemmas.{one_frame}
use Rattle.amqp_frames.proofs.StepLemmas.{found}
use Rattle.amqp_frames.proofs.frames.next_frame.Goals as goal

pub returns-then-input-lt-SIZE_LEN-clause-needs : goal.returns-then-input-lt-SIZE_LEN-clause-needs
returns-then-input-lt-SIZE_LEN-clause-needs c = needs_before_size c.args.max_frame_size c.args.input.now (omega arith)

pub returns-in_err-size-clause-found : goal.returns-in_err-size-clause-found
returns-in_err-size-clause-found c =
    found c.args.max_frame_size c.args.input.now c.from_residual.result (search rules) (search rules) (search rules)

pub returns-in_err-check_data_offset-clause-found : goal.returns-in_err-check_data_offset-clause-found
returns-in_err-check_data_offset-clause-found c =
    found c.args.max_frame_size c.args.input.now c.from_residual-in_err-check_data_offset.result (search rules) (search rules) (search rules)

pub returns-in_err-check_type-clause-refused : goal.returns-in_err-check_type-clause-refused
returns-in_err-check_type-clause-refused c =
    let max = c.args.max_frame_size in
    let fault = c.in_err-check_type.ensures.err max (c.in_ok-check_data_offset.ensures.ok max c.in_ok-size.ensures.1) in
    search (rules, fault)

pub returns-in_err-check_type-clause-found : goal.returns-in_err-check_type-clause-found
returns-in_err-check_type-clause-found c =
    found c.args.max_frame_size c.args.input.now c.from_residual-in_err-check_type.result (search rules) (search rules)
    (returns-in_err-check_type-clause-refused c)

pub returns-then-input-len-clause-needs : goal.returns-then-input-len-clause-needs
returns-then-input-len-clause-needs c =
    let max = c.args.max_frame_size in
    let size = c.in_ok-size.ensures.1 in
    needs_after_size max c.in_ok-size.size c.args.input.now c.in_ok-size.ensures.0 size
    (c.in_ok-check_data_offset.ensures.ok max size)
    (c.in_ok-check_type.ensures.ok max (c.in_ok-check_data_offset.ensures.ok max size)) (omega arith)

pub returns-then-input-len-clause-found : goal.returns-then-input-len-clause-found
returns-then-input-len-clause-found c = λ h x b begins.
    let max = c.args.max_frame_size in
    let size = c.in_ok-size.ensures.1 in
    frame_or_need max c.args.input.now h x b _ begins
    (needs_after_size max c.in_ok-size.size c.args.input.now c.in_ok-size.ensures.0 size
    (c.in_ok-check_data_offset.ensures.ok max size)
    (c.in_ok-check_type.ensures.ok max (c.in_ok-check_data_offset.ensures.ok max size)) (omega arith))

pub split-requires-clause-size : goal.split-requires-clause-size
split-requires-clause-size c =
    whole_size c.args.max_frame_size c.in_ok-size.size c.args.input.now c.in_ok-size.ensures.0 c.in_ok-size.ensures.1 (omega arith)

pub split-requires-clause-sound : goal.split-requires-clause-sound
split-requires-clause-sound c =
    let max = c.args.max_frame_size in
    let size = c.in_ok-size.ensures.1 in (
      max,
      whole_sound max c.in_ok-size.size c.args.input.now c.in_ok-size.ensures.0 size
          (c.in_ok-check_type.ensures.ok max (c.in_ok-check_data_offset.ensures.ok max size)) (omega arith),
    )

pub returns-clause-frame : goal.returns-clause-frame
returns-clause-frame c =
    let max = c.args.max_frame_size in
    let size = c.in_ok-size.ensures.1 in
    let frame = c.split.result in
    frame_begins max c.in_ok-size.size c.args.input.now frame.header frame.extended.now frame.body.now c.in_ok-size.ensures.0 size
    (omega arith)
    (c.split.ensures max (whole_sound max c.in_ok-size.size c.args.input.now c.in_ok-size.ensures.0 size
    (c.in_ok-check_type.ensures.ok max (c.in_ok-check_data_offset.ensures.ok max size)) (omega arith)))

pub returns-clause-found : goal.returns-clause-found
returns-clause-found c = λ h x b begins.
    let max = c.args.max_frame_size in
    let frame = c.split.result in
    one_frame max max c.args.input.now frame.header h frame.extended.now x frame.body.now b (returns-clause-frame c) begins
