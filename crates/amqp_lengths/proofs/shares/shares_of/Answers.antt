use Rattle.std.proofs.Common.{rules, ◌≡◌, ◌+◌, ◌∷◌, length, get_or, sym, ap, ◌∙◌, subst, arith}
use Rattle.amqp_lengths.proofs.Fronts.{tail_all}
use Rattle.amqp_lengths.proofs.DescriptorShares.{Taken, descriptor_there, taken_more, taken_all}
use Rattle.amqp_lengths.proofs.shares.shares_of.Goals as goal

pub unreachable-requires : goal.unreachable-requires
unreachable-requires c =
    let l = c.loop-code in
    let is : l.rest.now ≡ 0 ∷ c.in-Some.after.now =
    c.in-Some.ensures.cases.0 ∙ ap (λ z. z ∷ c.in-Some.after.now) c.if-code-ne-DESCRIBED.false in
    descriptor_there c.args.constructor.now l.rest.now c.in-Some.after.now l.shares _ c.requires l.invariant is
    c.in_default-descriptor_len.ensures.refused

pub loop-code-preserved : goal.loop-code-preserved
loop-code-preserved c =
    let l = c.loop-code in
    let share = c.share_of-shares in
    let is : l.rest.now ≡ 0 ∷ c.in-Some.after.now =
    c.in-Some.ensures.cases.0 ∙ ap (λ z. z ∷ c.in-Some.after.now) c.if-code-ne-DESCRIBED.false in
    subst (Taken c.args.constructor.now (l.shares + share.result)) (sym (tail_all c.in-Ok.len c.in-Some.after.now))
    (taken_more c.args.constructor.now l.rest.now c.in-Some.after.now l.shares c.in-Ok.len share.result l.invariant is c.in-Ok.ensures.found
    share.ensures.share share.ensures.most)

pub returns-then-code-ne-DESCRIBED : goal.returns-then-code-ne-DESCRIBED
returns-then-code-ne-DESCRIBED c =
    let l = c.loop-code in
    taken_all c.args.constructor.now l.rest.now l.shares l.invariant
    (λ after is. c.if-code-ne-DESCRIBED.true (ap (λ b. get_or b 0 0) (sym c.in-Some.ensures.cases.0 ∙ is)))

pub returns : goal.returns
returns c =
    let l = c.loop-code in
    let empty : length l.rest.now ≡ 0 = search rules in
    taken_all c.args.constructor.now l.rest.now l.shares l.invariant (λ after is. absurd (omega (arith, empty, ap length is)))
