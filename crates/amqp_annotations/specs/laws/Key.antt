-- Keys of annotations, owned and borrowed, compare by what they are: a symbol or a number.
use Rattle.std.proofs.Common.{◌≡◌, Bool, List, [], ◌∷◌, refl, sym, ap₂, subst, string_bytes, cond}
use Rattle.std.specs.Prelude.{nat_eq, Some}
use Rattle.std.specs.Bool.{Decides}
use Rattle.std.specs.Cmp.{unsigned_Decides}
use Rattle.std.specs.Str.{bytes_eq}
use Rattle.std.specs.Map.{lookup, remove_entry}
use Rattle.std.proofs.lemmas.Bool.Decides.{same_from_decides}
use Rattle.std.proofs.lemmas.Slice.Eq.{bytes_eq-Decides}
use Rattle.amqp_model.specs.Term.{leaf}
use Rattle.amqp_codec.specs.PrimitiveTypes.{ulong_base, symbol_base}
use Rattle.amqp_kinds.specs.laws.SumKey.{of_one_kind, of_other_kinds}
use Rattle.amqp_annotations.specs.contracts.owned_key.OwnedKeyPartialEq.TheImpl.{ghosts}
use Rattle.amqp_annotations.specs.declared.owned_key.OwnedKey.{OwnedKey}
use Rattle.amqp_annotations.specs.declared.owned_key.OwnedKey.TheVariants as key
use Rattle.amqp_annotations.specs.OwnedKeys.{owned_primitive}

pub owned_decide : (v w : OwnedKey) → Decides (ghosts.eq v w) (leaf (owned_primitive v) ≡ leaf (owned_primitive w))
owned_decide (key.Symbol s) (key.Symbol t) = of_one_kind symbol_base bytes_eq bytes_eq-Decides (string_bytes s.0) (string_bytes t.0)
owned_decide (key.Ulong n) (key.Ulong m) = of_one_kind ulong_base nat_eq unsigned_Decides n m
owned_decide v w = of_other_kinds (owned_primitive v) (owned_primitive w) refl

-- owned keys that are one are found as one
pub owned_same : (v w x : OwnedKey) → owned_primitive v ≡ owned_primitive w → ghosts.eq v x ≡ ghosts.eq w x
owned_same v w x e =
    same_from_decides (ghosts.eq v x) (ghosts.eq w x) (owned_decide v x)
    (subst (λ p. Decides (ghosts.eq w x) (leaf p ≡ leaf (owned_primitive x))) (sym e) (owned_decide w x))

module _ {X : Type 0} (p q : OwnedKey → Bool) (same : (x : OwnedKey) → p x ≡ q x) where
  pub lookup_same : (map : List (OwnedKey × X)) → lookup p map ≡ lookup q map
  lookup_same [] = refl
  lookup_same (e ∷ es) = ap₂ (λ b o. cond b (Some e.1) o) (same e.0) (lookup_same es)

  pub removed_same : (map : List (OwnedKey × X)) → remove_entry p map ≡ remove_entry q map
  removed_same [] = refl
  removed_same (e ∷ es) = ap₂ (λ b l. cond b es (e ∷ l)) (same e.0) (removed_same es)
