-- Values of sums of primitive types are keys of maps: to be equal is to be one primitive.
use Rattle.std.proofs.Common.{◌≡◌, Bool, false, eqb, ap}
use Rattle.std.specs.Bool.{Decides}
use Rattle.std.proofs.lemmas.Bool.{eq-eqb}
use Rattle.amqp_model.specs.Term.{Primitive, leaf}
use Rattle.amqp_model.specs.laws.Item.{clash}
use Rattle.amqp_lookahead.specs.Kinds.{kind_of}
use Rattle.amqp_codec.specs.laws.PrimitiveTerm.{leaf_injective}
use Rattle.amqp_codec.specs.PrimitiveTypes.{Base}

-- two of one kind
pub of_one_kind : {A : Type 0} (base : Base A) (eq : A → A → Bool) → ((x y : A) → Decides (eq x y) (x ≡ y)) → (x y : A)
    → Decides (eq x y) (leaf (base.make x) ≡ leaf (base.make y))
of_one_kind base eq decides x y =
    let d = decides x y in (
      λ e. ap (λ z. leaf (base.make z)) (d.0 e),
      λ e. d.1 (base.injective x y (leaf_injective (base.make x) (base.make y) e)),
    )

-- two of different kinds
pub of_other_kinds : (p q : Primitive) → eqb (kind_of p) (kind_of q) ≡ false → Decides false (leaf p ≡ leaf q)
of_other_kinds p q h = (
  λ e. absurd (cc),
  λ e. absurd (clash (eq-eqb (kind_of p) (kind_of q) (ap kind_of (leaf_injective p q e))) h),
)
