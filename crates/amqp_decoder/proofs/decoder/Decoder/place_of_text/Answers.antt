use Rattle.std.proofs.Common.{rules, ◌≡◌, ◌≤◌, ◌+◌, ◌-◌, ◌++◌, ◌&&◌, ◌↔◌, IsTrue, IfSome, IsAscii, [], length, take, ap, sym, ◌∙◌, subst}
use Rattle.std.proofs.Common.{arith, refl}
use Rattle.std.proofs.lemmas.List.{length-take-le}
use Rattle.amqp_wire.specs.Sources.{Tells}
use Rattle.amqp_decoder.specs.State.{after_bytes}
use Rattle.amqp_lookahead.specs.Members.{FrontIs}
use Rattle.amqp_decoder.proofs.SizedTexts.{kept_more}
use Rattle.amqp_lookahead.proofs.Fronts.{ascii_both, no_place}
use Rattle.std.proofs.lemmas.List.{length-take}
use Rattle.amqp_decoder.proofs.Reserve.{spares_part}
use Rattle.amqp_decoder.proofs.decoder.Decoder.place_of_text.Goals as goal

pub pull_all-requires : goal.pull_all-requires
pull_all-requires g c = λ told.
    spares_part g.R.ByteSource.reserve c.args.len (c.args.len - c.loop-left.left) (length (take c.min-n.result c.loop-left.buffer))
    c.args.self.now c.loop-left.self (c.loop-left.invariant.moved_ told)
    (omega (arith, c.min-n.ensures, length-take c.min-n.result c.loop-left.buffer, c.loop-left.invariant.few)) (c.requires told)

pub loop-left-preserved : goal.loop-left-preserved
loop-left-preserved g c =
    let i = c.loop-left.invariant in
    let n = c.min-n.result in
    let k = c.args.len - c.loop-left.left in
    let piece = c.pull_all.new.buffer in
    let r = c.args.self.now.rest in
    let within : n ≤ c.loop-left.left = omega (arith, c.min-n.ensures) in
    let long : length piece ≡ n = search rules in
    let next : k + n ≡ c.args.len - (c.loop-left.left - n) = omega (arith, i.few) in
    let more = λ (told : Tells g.R.ByteSource.remaining). kept_more k n c.args.self.now c.loop-left.self c.pull_all.new.self piece []
    (take k r) (take k r ++ piece) (i.moved_ told) (i.there told) refl (c.in_ok-pull_all.ensures.ok told) long refl in
    let taken = λ (told : Tells g.R.ByteSource.remaining). (more told).1 ∙ ap (λ j. take j r) next in
    record {
      few = omega (arith, i.few);
      long = subst (λ j. IfSome c.next_front-known.result (λ front. length front.now ≡ j)) (ap (λ j. k + j) long ∙ next)
          (c.next_front-known.ensures.long k i.long);
      there = λ told. subst (λ j. j ≤ length r) next (more told).0;
      moved_ = λ told. (more told).2 ∙ ap (λ j. after_bytes j c.args.self.now) next;
      ascii = λ told. subst (λ s. IsTrue (c.loop-left.is_ascii && c.is_ascii-is_ascii.result)
          ↔ IsAscii s) (taken told) (ascii_both (take k r) piece _ _ (i.ascii told) c.is_ascii-is_ascii.ensures.cases);
      front = λ told. subst (λ s. FrontIs c.args.members.now c.args.len s c.next_front-known.result) (taken told)
          (c.next_front-known.ensures.front (take k r) (i.front told));
      goes = search rules;
    }

pub returns-in-None-clause-ok : goal.returns-in-None-clause-ok
returns-in-None-clause-ok g c = λ told.
    let i = c.loop-left.invariant in
    let r = c.args.self.now.rest in
    let whole : c.args.len - c.loop-left.left ≡ c.args.len = omega (arith, i.few) in
    let few : c.args.len ≤ length r = subst (λ j. j ≤ length r) whole (i.there told) in
    let front = rw c.in-None.is at (i.front told) in
    let ascii = (i.ascii told).0 (search rules) in (
      few,
      subst (λ j. IsAscii (take j r)) whole ascii,
      sym (no_place c.args.members.now c.args.len (take c.args.len r) (length-take-le c.args.len r few) (rw whole at front)),
      i.moved_ told ∙ ap (λ j. after_bytes j c.args.self.now) whole,
    )
