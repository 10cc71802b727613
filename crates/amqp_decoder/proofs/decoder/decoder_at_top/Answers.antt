use Rattle.std.proofs.Common.{rules, refl, arith}
use Rattle.amqp_decoder.proofs.decoder.decoder_at_top.Goals as goal

pub invariant_of-result : goal.invariant_of-result
invariant_of-result g c = (
  omega arith,
  omega arith,
  omega arith,
  λ e. (refl, refl),
  tt,
  search rules,
  c.nesting.ensures.most,
  search rules,
  λ told alone failed reserve.
      (let l = c.requires told alone reserve in
      rw (c.new.ensures, c.bytes.ensures)
      (record {
        seen = omega (arith, l.2);
        most = l.0;
        owed = (l.0, 0, l.1, tt, omega arith);
        fits = omega (arith, l.2);
      })),
)
