-- Equality of values and of maps is an equivalence, and decides whether their terms are one.
use Rattle.std.proofs.Common.{◌≡◌, true, ap, ap₂, ◌∙◌, sym, refl, subst}
use Rattle.std.specs.Bool.{Decides}
use Rattle.std.specs.Cmp.{IsPartialEquivalence, IsEquivalence}
use Rattle.std.proofs.lemmas.Bool.Decides.{same_from_decides}
use Rattle.amqp_model.specs.Term.{map, Term, container}
use Rattle.amqp_codec.specs.EqualKeys.{same_term}
use Rattle.amqp_codec.specs.laws.EqualKeys.{terms_decide}
use Rattle.amqp_codec.specs.laws.Tree.{IsTree, AreTrees}
use Rattle.amqp_values.specs.declared.map.ValueMap.{ValueMap}
use Rattle.amqp_values.specs.declared.value.Value.{Value, Map as MapOf}
use Rattle.amqp_values.specs.Values.{value_term, pairs_of}
use Rattle.amqp_values.specs.laws.Values.{map_is, values_are_trees}
use Rattle.amqp_values.specs.Equality.{value_eq, turn_terms, map_eq}

-- equality of trees
module _ {V : Type 0} (term : V → Term) (are : (v : V) → IsTree (term v)) where
  trees_decide : (v w : V) → Decides (same_term (term v) (term w)) (term v ≡ term w)
  trees_decide v w = terms_decide (term v) (term w) (are v)

  trees_symm : (v w : V) → same_term (term v) (term w) ≡ same_term (term w) (term v)
  trees_symm v w =
      let d = trees_decide w v in
      same_from_decides _ _ (trees_decide v w) ((λ h. sym (d.0 h)), (λ e. d.1 (sym e)))

  trees_trans : (v w x : V) → same_term (term v) (term w) ≡ true → same_term (term w) (term x) ≡ true
      → same_term (term v) (term x) ≡ true
  trees_trans v w x e f = (trees_decide v x).1 ((trees_decide v w).0 e ∙ (trees_decide w x).0 f)

  trees_congr : (v w x : V) → same_term (term v) (term w) ≡ true → same_term (term v) (term x) ≡ same_term (term w) (term x)
  trees_congr v w x e = ap (λ t. same_term t (term x)) ((trees_decide v w).0 e)

  pub trees_per : IsPartialEquivalence (λ v w. same_term (term v) (term w))
  trees_per = record { symm = trees_symm; trans = trees_trans }

  pub trees_equiv : IsEquivalence (λ v w. same_term (term v) (term w))
  trees_equiv = record { refl = λ v. (trees_decide v v).1 refl; symm = trees_symm; congr = trees_congr }

pub values_per : IsPartialEquivalence value_eq
values_per = trees_per value_term values_are_trees

pub values_equiv : IsEquivalence value_eq
values_equiv = trees_equiv value_term values_are_trees

-- Equality decides whether the terms are one.
pub values_decide : (v w : Value) → Decides (value_eq v w) (value_term v ≡ value_term w)
values_decide = trees_decide value_term values_are_trees

-- a map as the term of its pairs
abbrev map_term : ValueMap → Term
map_term m = container map (turn_terms (pairs_of m))

maps_are_trees : (m : ValueMap) → IsTree (map_term m)
maps_are_trees m = subst IsTree (map_is m) (values_are_trees (MapOf m))

pub maps_per : IsPartialEquivalence map_eq
maps_per = trees_per map_term maps_are_trees

pub maps_equiv : IsEquivalence map_eq
maps_equiv = trees_equiv map_term maps_are_trees

-- its keys and values in turn are trees
pub turns_are_trees : (m : ValueMap) → AreTrees (turn_terms (pairs_of m))
turns_are_trees m = maps_are_trees m

-- Equality of maps decides whether the terms of their keys and values in turn are one,
pub maps_decide : (m n : ValueMap) → Decides (map_eq m n) (turn_terms (pairs_of m) ≡ turn_terms (pairs_of n))
maps_decide m n = let d = trees_decide map_term maps_are_trees m n in (λ e. cc (d.0 e), λ e. d.1 (ap (container map) e))

-- and whether they are one as values of any kind.
pub maps_decide_values : (m n : ValueMap) → Decides (map_eq m n) (value_term (MapOf m) ≡ value_term (MapOf n))
maps_decide_values m n =
    subst (λ b. Decides b (value_term (MapOf m) ≡ value_term (MapOf n))) (ap₂ same_term (map_is m) (map_is n))
    (values_decide (MapOf m) (MapOf n))
