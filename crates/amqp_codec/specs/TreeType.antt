-- Types each value of which is one term, made of primitives, containers and described values.
use Rattle.std.proofs.Common.{◌≡◌, Bool, false, refl, sym, ap, ◌∙◌, subst, arith}
use Rattle.amqp_model.specs.Term.{Term}
use Rattle.amqp_model.specs.Standing.{Standing}
use Rattle.amqp_model.specs.Measures.{nodes}
use Rattle.amqp_model.specs.Ranges.{Everywhere, IsValue}
use Rattle.amqp_model.specs.Items.{IsFree}
use Rattle.amqp_codec.specs.Faults.{Faults}
use Rattle.amqp_codec.specs.TermType.{TermType, Sameness, view_of}
use Rattle.amqp_codec.specs.ExactType.{MeansExactly, IsExact, exact}
use Rattle.amqp_codec.specs.laws.Tree.{IsTree, spelled_for_size}
use Rattle.amqp_codec.specs.EqualKeys.{barred_maps}
use Rattle.amqp_codec.specs.laws.EqualKeys.{maps_plain, maps_valued, maps_free}

module _ {V : Type 0} (term : V → Term) (are : (v : V) → IsTree (term v)) where
  -- A value's numbers and texts are of their types.
  abbrev pub IsTyped : V → Type 0
  IsTyped v = Everywhere IsValue (term v)

  -- A value whose maps have equal keys has no canonical term, and isn't read.
  abbrev pub tree_canon : V → Term
  tree_canon v = barred_maps (term v)

  abbrev pub IsUnambiguous : V → Type 0
  IsUnambiguous v = IsTyped v × IsFree (tree_canon v)

  abbrev pub SameTree : V → V → Type 0
  SameTree v w = term v ≡ term w

  abbrev pub MeansTree : Standing → Term → V → Type 0
  MeansTree = MeansExactly IsUnambiguous tree_canon

  canon_same : (v w : V) → SameTree v w → tree_canon v ≡ tree_canon w
  canon_same v w e = ap barred_maps e

  typed_same : (v w : V) → SameTree v w → IsTyped v → IsTyped w
  typed_same v w e i = subst (Everywhere IsValue) e i

  -- the term that means a value is its own
  pub tree_term : (s : Standing) (t : Term) (v : V) → MeansTree s t v → t ≡ term v
  tree_term s t v m = m.0 ∙ maps_free (term v) m.1.1

  tree_means : (s : Standing) (t : Term) (v w : V) → SameTree v w → MeansTree s t v → MeansTree s t w
  tree_means s t v w e m =
      (m.0 ∙ canon_same v w e, (typed_same v w e m.1.0, subst IsFree (canon_same v w e) m.1.1))

  tree_sameness : Sameness SameTree (view_of IsTyped MeansTree tree_canon)
  tree_sameness = record {
    refl = λ v. refl;
    sym = λ v w e. sym e;
    trans = λ v w x e f. e ∙ f;
    agrees = λ v w e. record { value = typed_same v w e; means = λ s t. tree_means s t v w e; canon = canon_same v w e };
    one = λ s t v w m n. sym (tree_term s t v m) ∙ tree_term s t w n;
  }

  pub tree_exact : IsExact IsTyped IsUnambiguous tree_canon SameTree (λ v. nodes (tree_canon v)) false
  tree_exact = record {
    sameness = tree_sameness;
    value = λ v i. i.0;
    meant = λ v i f. (i, f);
    plain = λ v. maps_plain (term v) (are v);
    not_null = λ e. absurd (cc);
    valued = λ v i. maps_valued (term v) i;
    free = λ v i. i.1;
    writable = λ v s i h. spelled_for_size (tree_canon v) s h;
    counted = λ v. omega arith;
  }

  -- The type of such values, the faults of reading one, and whether that takes memory.
  abbrev pub tree : Faults → Bool → TermType V
  tree = exact tree_exact
