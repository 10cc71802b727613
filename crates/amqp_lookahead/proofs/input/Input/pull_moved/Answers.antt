use Rattle.std.proofs.Common.{arith, ◌≡◌, ◌≤◌, ◌+◌, ◌-◌, ◌++◌, length, drop, refl}
use Rattle.std.proofs.lemmas.List.{length-drop}
use Rattle.amqp_wire.specs.Sources.{known}
use Rattle.amqp_lookahead.specs.State.{pending}
use Rattle.amqp_lookahead.proofs.Looks.{copied_bytes, copied_behind, looked_rest, pending_fits, size_behind, moved_is}
use Rattle.amqp_lookahead.proofs.input.Input.pull_moved.Goals as goal

pub returns-then-count-buffer-clause-bytes : goal.returns-then-count-buffer-clause-bytes
returns-then-count-buffer-clause-bytes g c =
    let p = pending c.self.inside.start c.self.inside.end c.self.inside.looked in
    let few : c.copy_front-count.result ≤ length p = omega (arith, c.copy_front-count.ensures.count) in
    rw (← c.self.view_is) (λ told. copied_bytes _ p _ _ _ few c.copy_front-count.ensures.front)

pub returns-then-count-buffer-clause-new : goal.returns-then-count-buffer-clause-new
returns-then-count-buffer-clause-new g c =
    let within = length-drop c.self.inside.start c.self.inside.looked in
    let few : c.copy_front-count.result ≤ c.self.inside.end - c.self.inside.start = omega (arith, c.copy_front-count.ensures.count) in
    let start = c.self.inside.start in
    let end_ = c.self.inside.end in
    let l = c.self.inside.looked in
    let K = known (g.R.ByteSource.remaining c.self.inside.source) in
    let n = c.copy_front-count.result in
    let inside : end_ ≤ length l = omega (arith, c.self.invariant.1, within) in
    let rest = pending start end_ l ++ K in
    let behind : pending (start + n) end_ l ++ K ≡ drop n rest = looked_rest start end_ n l K few inside in
    let size = size_behind g.R.ByteSource.is_whole c.self.inside.count n (pending (start + n) end_ l ++ K) rest c.requires behind
    (omega (arith, few, pending_fits start end_ l K inside)) in
    rw (← c.self.view_is) (λ told. moved_is _ _ _ _ _ _ _ behind (omega (arith, few)) refl size refl)

pub returns-clause-bytes : goal.returns-clause-bytes
returns-clause-bytes g c =
    let p = pending c.self.inside.start c.self.inside.end c.self.inside.looked in
    let count = c.copy_front-count.ensures.count in
    let less = c.if-count-buffer.false in
    let whole : c.copy_front-count.result ≡ length p = omega (arith, count, less) in
    rw (← c.self.view_is) (λ told.
    copied_behind p _ _ _ _ c.pull_full.new.buffer c.copy_front-count.result c.in_ok-more.more _ whole
    (omega (arith, count, c.copy_front-count.auto.buffer))
    c.copy_front-count.ensures.front (omega (arith, c.in_ok-more.ensures.fits, c.pull_full.auto.buffer))
    (c.in_ok-more.ensures.bytes (told _)))
