-- Borrowed keys of annotations compare as the owned ones.
use Rattle.std.proofs.Common.{◌≡◌, refl, sym, ap, ap₂, subst}
use Rattle.std.specs.Prelude.{nat_eq}
use Rattle.std.specs.Bool.{Decides}
use Rattle.std.specs.Cmp.{unsigned_Decides}
use Rattle.std.specs.Cmp.Lexicographic.{slice_cmp}
use Rattle.std.specs.Ordering.{nat_cmp}
use Rattle.std.specs.Str.{bytes_eq}
use Rattle.std.proofs.lemmas.Bool.Decides.{same_from_decides}
use Rattle.std.proofs.lemmas.Slice.Eq.{bytes_eq-Decides}
use Rattle.amqp_model.specs.Term.{leaf}
use Rattle.amqp_codec.specs.PrimitiveTypes.{number, content, ulong_base, symbol_base}
use Rattle.amqp_kinds.specs.laws.SumKey.{of_one_kind, of_other_kinds}
use Rattle.amqp_annotations.specs.contracts.owned_key.OwnedKeyPartialEq.TheImpl.{ghosts as owned_equality}
use Rattle.amqp_annotations.specs.contracts.owned_key.OwnedKeyOrd.TheImpl.{ghosts as owned_order}
use Rattle.amqp_annotations.specs.contracts.borrowed_key.BorrowedKeyPartialEq.TheImpl.{ghosts as borrowed_equality}
use Rattle.amqp_annotations.specs.contracts.borrowed_key.BorrowedKeyOrd.TheImpl.{ghosts as borrowed_order}
use Rattle.amqp_annotations.specs.declared.owned_key.OwnedKey.{OwnedKey}
use Rattle.amqp_annotations.specs.declared.owned_key.OwnedKey.TheVariants as owned
use Rattle.amqp_annotations.specs.declared.borrowed_key.BorrowedKey.{BorrowedKey}
use Rattle.amqp_annotations.specs.declared.borrowed_key.BorrowedKey.TheVariants as borrowed
use Rattle.amqp_annotations.specs.OwnedKeys.{owned_primitive}
use Rattle.amqp_annotations.specs.BorrowedKeys.{borrowed_primitive}
use Rattle.amqp_annotations.specs.laws.Key.{owned_decide}

borrowed_decide : (v w : BorrowedKey) → Decides (borrowed_equality.eq v w) (leaf (borrowed_primitive v) ≡ leaf (borrowed_primitive w))
borrowed_decide (borrowed.Symbol s) (borrowed.Symbol t) = of_one_kind symbol_base bytes_eq bytes_eq-Decides s.0.now t.0.now
borrowed_decide (borrowed.Ulong n) (borrowed.Ulong m) = of_one_kind ulong_base nat_eq unsigned_Decides n.now m.now
borrowed_decide v w = of_other_kinds (borrowed_primitive v) (borrowed_primitive w) refl

module _ (v w : OwnedKey) (x y : BorrowedKey) (first : borrowed_primitive x ≡ owned_primitive v)
    (second : borrowed_primitive y ≡ owned_primitive w) where
  pub equal_alike : borrowed_equality.eq x y ≡ owned_equality.eq v w
  equal_alike =
      same_from_decides (borrowed_equality.eq x y) (owned_equality.eq v w) (borrowed_decide x y)
      (subst (λ p. Decides (owned_equality.eq v w) (leaf p ≡ leaf (borrowed_primitive y))) (sym first)
      (subst (λ p. Decides (owned_equality.eq v w) (leaf (owned_primitive v) ≡ leaf p)) (sym second) (owned_decide v w)))

pub ordered_alike : (v w : OwnedKey) (x y : BorrowedKey) → borrowed_primitive x ≡ owned_primitive v
    → borrowed_primitive y ≡ owned_primitive w → borrowed_order.cmp x y ≡ owned_order.cmp v w
ordered_alike (owned.Symbol s) (owned.Symbol t) (borrowed.Symbol x) (borrowed.Symbol y) h k =
    ap₂ (slice_cmp nat_cmp) (ap content h) (ap content k)
ordered_alike (owned.Symbol s) (owned.Ulong m) (borrowed.Symbol x) (borrowed.Ulong y) h k = refl
ordered_alike (owned.Ulong n) (owned.Symbol t) (borrowed.Ulong x) (borrowed.Symbol y) h k = refl
ordered_alike (owned.Ulong n) (owned.Ulong m) (borrowed.Ulong x) (borrowed.Ulong y) h k = ap₂ nat_cmp (ap number h) (ap number k)
ordered_alike v w x y h k = absurd (cc)
