-- The values of a field of several are written as an array of them.
use Rattle.std.proofs.Common.{◌≡◌, List, [], ◌∷◌, map, Result, refl, subst}
use Rattle.amqp_model.specs.Term.{array, Term}
use Rattle.amqp_model.specs.FieldRules.{array_or}
use Rattle.amqp_wire.specs.declared.error.Error.{Error}
use Rattle.amqp_encoder.specs.State.{Encoder}
use Rattle.amqp_codec.specs.TermType.{TermType}
use Rattle.amqp_codec.specs.Written.{WritesTerms, Writing}
use Rattle.amqp_codec.specs.Agreement.{Agreement}
use Rattle.amqp_codec.specs.ItemsWriting.{items_canons, items_agreement}
use Rattle.amqp_containers.specs.ArrayType.{array_of}

array_is : {T : Type 0} {u : TermType T} {w : Writing T} (a : Agreement u w) (d : Term) (vs : List T) → (vs ≡ [] → ⊥)
    → items_canons array w.canons vs ≡ array_or d (map u.canon vs) ∷ []
array_is a d [] some = absurd (some refl)
array_is {u = u} a d (v ∷ vs) some = (items_agreement array tt (array_of u).faults a).canons_is (v ∷ vs)

-- what stands for no values is nothing to it, where there are some
pub array_written : {T : Type 0} {u : TermType T} {w : Writing T} (a : Agreement u w) (d : Term) (vs : List T) {old new : Encoder}
    {r : Result (Unit {0}) Error} → (vs ≡ [] → ⊥) → WritesTerms (items_canons array w.canons vs) old r new
    → WritesTerms (array_or d (map u.canon vs) ∷ []) old r new
array_written a d vs {old} {new} {r} some h = subst (λ ts. WritesTerms ts old r new) (array_is a d vs some) h
