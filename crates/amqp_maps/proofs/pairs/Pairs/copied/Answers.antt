use Rattle.std.proofs.Common.{◌≡◌, true, sym, subst, ◌∙◌, arith}
use Rattle.std.specs.Cmp.Lexicographic.{pointwise}
use Rattle.amqp_maps.specs.Kept.{IsSound}
use Rattle.amqp_maps.proofs.KeysApart.{copied_distinct, equal_long}
use Rattle.amqp_maps.proofs.pairs.Pairs.copied.Goals as goal

pub returns-else-not-have_equal_keys-clause-sound : goal.returns-else-not-have_equal_keys-clause-sound
returns-else-not-have_equal_keys-clause-sound g c =
    let row = c.in-Row.row.items in
    let copy = c.in_ok-copy-in-Row.copy.items in
    let was = subst (IsSound g.K.PartialEq.eq) c.in-Row.is c.requires in
    let few = was.few in
    let left : c.of_row.result ≡ row = c.of_row.ensures ∙ c.as_slice.ensures.value in
    let right : c.of_row-in-Row.result ≡ copy = c.of_row-in-Row.ensures ∙ c.as_slice-in-Row.ensures.value in
    let same : pointwise (λ p q. g.K.PartialEq.eq p.0 q.0) row copy ≡ true =
    sym (rw (left, right) at c.have_equal_keys.ensures) ∙ c.if-not-have_equal_keys.false in
    record {
      distinct = copied_distinct g.K.PartialEq.eq g.met.K.Eq.laws row copy same was.distinct;
      few = omega (arith, equal_long (λ p q. g.K.PartialEq.eq p.0 q.0) row copy same, few);
    }
