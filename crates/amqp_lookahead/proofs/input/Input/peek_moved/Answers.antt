use Rattle.std.proofs.Common.{rules, arith, refl, ap, ◌≡◌, ◌≤◌, ◌-◌, ◌+◌, length}
use borrow.Rule.Slice.PartMut.{post_of}
use Rattle.amqp_wire.specs.Sources.{known}
use Rattle.amqp_lookahead.specs.State.{pending, size_of}
use Rattle.amqp_lookahead.proofs.Looks.{copied_bytes, moved_length, moved_bytes, looked_more, looked_is, seen_none}
use Rattle.amqp_lookahead.proofs.input.Input.peek_moved.Goals as goal

pub returns-then-buffer-ahead-clause-bytes : goal.returns-then-buffer-ahead-clause-bytes
returns-then-buffer-ahead-clause-bytes g c =
    let p = pending c.self.inside.start c.self.inside.end c.self.inside.looked in
    let few : c.copy_front.result ≤ length p = omega (arith, c.copy_front.ensures.count) in
    rw (← c.self.view_is) (λ told. copied_bytes _ p _ _ _ few c.copy_front.ensures.front)

-- what the buffer has then, and the source behind it
pub returns-clause-bytes : goal.returns-clause-bytes
returns-clause-bytes g c =
    let start = c.self.inside.start in
    let end_ = c.self.inside.end in
    let l = c.self.inside.looked in
    let a = end_ - start in
    let more = c.in_ok-more.more in
    let within : end_ ≤ length l = omega (arith, c.self.invariant.1) in
    let few : more ≤ length c.pull_full.new.buffer = omega (arith, c.in_ok-more.ensures.fits, c.pull_full.auto.buffer) in
    let room : length c.pull_full.new.buffer ≡ length c.args.buffer.now - a = omega (arith, c.pull_full.auto.buffer, c.copy_within.ensures.len) in
    let count : c.copy_front-2.result ≡ a + more =
    omega (
      arith,
      c.copy_front-2.ensures.count,
      moved_length start end_ a more l c.copy_within.new.self c.pull_full.new.buffer
          (post_of a (length c.args.buffer.now - a) c.copy_within.new.self) refl within c.copy_within.ensures.len few,
      room,
      few,
      c.if-buffer-ahead.false,
    ) in
    rw (← c.self.view_is) (λ told.
    moved_bytes start end_ a more c.copy_front-2.result l c.copy_within.new.self c.pull_full.new.buffer _ _ _ c.copy_front-2.new.buffer _ refl (search rules) within
    c.copy_within.ensures.after c.copy_within.ensures.len few (c.in_ok-more.ensures.bytes (told _)) (omega (arith, count)) c.copy_front-2.ensures.front)

pub returns-clause-new : goal.returns-clause-new
returns-clause-new g c =
    let start = c.self.inside.start in
    let end_ = c.self.inside.end in
    let l = c.self.inside.looked in
    let a = end_ - start in
    let more = c.in_ok-more.more in
    let within : end_ ≤ length l = omega (arith, c.self.invariant.1) in
    let few : more ≤ length c.pull_full.new.buffer = omega (arith, c.in_ok-more.ensures.fits, c.pull_full.auto.buffer) in
    let room : length c.pull_full.new.buffer ≡ length c.args.buffer.now - a = omega (arith, c.pull_full.auto.buffer, c.copy_within.ensures.len) in
    let count : c.copy_front-2.result ≡ a + more =
    omega (
      arith,
      c.copy_front-2.ensures.count,
      moved_length start end_ a more l c.copy_within.new.self c.pull_full.new.buffer
          (post_of a (length c.args.buffer.now - a) c.copy_within.new.self) refl within c.copy_within.ensures.len few,
      room,
      few,
      c.if-buffer-ahead.false,
    ) in
    rw (← c.self.view_is) (λ told.
    let same = looked_more start end_ a more l c.copy_within.new.self c.pull_full.new.buffer _ _ _ refl (search rules) within
    c.copy_within.ensures.after c.copy_within.ensures.len few (c.in_ok-more.ensures.bytes (told _)) in
    looked_is _ _ _ _ _ _ _ same
    (omega (
      arith,
      count,
      seen_none g.R.ByteSource.is_whole (known (g.R.ByteSource.remaining c.self.inside.source)) c.self.inside.unseen c.requires.moved,
      seen_none g.R.ByteSource.is_whole (known (g.R.ByteSource.remaining c.pull_full.new.source)) c.self.inside.unseen c.requires.moved,
    )) c.pull_full.ensures.named (ap (size_of g.R.ByteSource.is_whole c.self.inside.count) same) c.in_ok-more.ensures.kept)
