use Rattle.std.proofs.Common.{◌≡◌, ◌-◌, take, drop, sym, arith}
use Rattle.amqp_paths.proofs.Among.{among_slice}
use Rattle.amqp_paths.proofs.Furthers.{content_step, part_falls}
use Rattle.amqp_paths.proofs.steps.in_data.Goals as goal

pub returns-clause-step : goal.returns-clause-step
returns-clause-step c =
    let head = c.in_ok-head.head in
    let content = c.in_ok-content.content in
    let h = c.in_ok-content.ensures.content in
    let same : take (content.end - content.start) (drop content.start c.args.data.now) ≡ h.items =
    among_slice c.args.data.now h.items content.start h.behind content.end h.part h.ends in
    let left : c.in_ok-room.room ≡ c.args.room - content.start = omega (arith, c.in_ok-room.ensures) in
    let f = c.in_content.result in
    content_step c.args.code head.width head.kind c.args.data.now (take (content.end - content.start) (drop content.start c.args.data.now)) content
    c.args.room f c.behind.result c.in_ok-head.ensures.head h (omega (arith, c.in_ok-room.ensures)) same c.in_content.ensures.part
    c.in_content.ensures.ends (omega (arith, c.in_content.ensures.near, left)) (rw (sym left) c.in_content.ensures.reaches) c.behind.ensures.piece
    c.behind.ensures.start c.behind.ensures.end

pub returns-clause-falls : goal.returns-clause-falls
returns-clause-falls c =
    part_falls c.in_ok-head.head.kind c.in_ok-content.content.count c.in_ok-head.head.width c.behind.result.start _ c.in_content.result.piece
    c.behind.result.piece c.in_content.result.start c.in_ok-head.ensures.array c.in_content.ensures.part c.behind.ensures.piece
    (omega (arith, c.behind.ensures.start, c.in_ok-content.ensures.start))
