use Rattle.std.proofs.Common.{rules, arith, ◌≡◌, ◌≤◌, ◌+◌, ◌-◌, length, take, ◌++◌, ap, ◌∙◌, subst}
use Rattle.amqp_decoder.proofs.SizedTexts.{kept_more}
use Rattle.amqp_wire.specs.Sources.{Tells}
use Rattle.amqp_decoder.specs.State.{after_bytes}
use Rattle.std.proofs.lemmas.List.{length-take}
use Rattle.amqp_decoder.proofs.Reserve.{spares_part}
use Rattle.amqp_decoder.proofs.decoder.Decoder.keep_pieces.Goals as goal

pub pull_all-requires : goal.pull_all-requires
pull_all-requires g c = λ told.
    spares_part g.R.ByteSource.reserve c.args.len (c.args.len - c.loop-left.left) (length (take c.min-n.result c.loop-left.buffer))
    c.args.self.now c.loop-left.self (c.loop-left.invariant.3 told)
    (omega (arith, c.min-n.ensures, length-take c.min-n.result c.loop-left.buffer, c.loop-left.invariant.0)) (c.requires.spares told)

pub loop-left-preserved : goal.loop-left-preserved
loop-left-preserved g c =
    let n = c.min-n.result in
    let within : n ≤ c.loop-left.left = omega (arith, c.min-n.ensures) in
    let long : length c.pull_all.new.buffer ≡ n = search rules in
    let next : c.args.len - c.loop-left.left + n ≡ c.args.len - (c.loop-left.left - n) = omega (arith, c.loop-left.invariant.0) in
    let more = λ (told : Tells g.R.ByteSource.remaining). kept_more (c.args.len - c.loop-left.left) n _ _ _ c.pull_all.new.buffer _ _ _
    (c.loop-left.invariant.3 told) (c.loop-left.invariant.1 told) (c.loop-left.invariant.2 told) (c.in_ok-pull_all.ensures.ok told)
    long (search rules) in (
      omega (arith, c.loop-left.invariant.0),
      λ told. subst (λ j. j ≤ length c.args.self.now.rest) next (more told).0,
      λ told. (more told).1 ∙ ap (λ j. c.args.text.now.items ++ take j c.args.self.now.rest) next,
      λ told. (more told).2 ∙ ap (λ j. after_bytes j c.args.self.now) next,
      search rules,
    )
