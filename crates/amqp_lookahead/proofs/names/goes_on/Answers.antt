use Rattle.std.proofs.Common.{length, take, ap, sym, ◌∙◌}
use Rattle.std.proofs.lemmas.Slice.Eq.{bytes_eq-Decides}
use Rattle.amqp_lookahead.proofs.Fronts.{front_joined, front_first, front_second, agree, differ}
use Rattle.amqp_lookahead.proofs.names.goes_on.Goals as goal

pub returns-then-ne : goal.returns-then-ne
returns-then-ne c = (
  λ h. absurd (cc),
  λ h. absurd (differ c.split_at.result.0.now c.args.known.now c.if-ne.ensures (c.split_at.ensures.front
      ∙ front_first c.args.name.now c.args.known.now c.args.piece.now h.1)),
)

pub returns : goal.returns
returns c =
    let n = length c.args.piece.now in
    let front = sym c.split_at.ensures.front ∙ agree c.split_at.result.0.now c.args.known.now c.if-ne.ensures in
    let same = bytes_eq-Decides (take n c.split_at.result.1.now) c.args.piece.now in (
      λ h. (
        c.if-name-len.false,
        front_joined c.args.name.now c.args.known.now c.args.piece.now front (ap (take n) (sym c.split_at.ensures.back)
            ∙ same.0 (sym c.eq.ensures ∙ h)),
      ),
      λ h. c.eq.ensures ∙ same.1 (ap (take n) c.split_at.ensures.back ∙ front_second c.args.name.now c.args.known.now c.args.piece.now h.1),
    )
