-- What is described is a type of fields, whatever it describes.
use Rattle.std.proofs.Common.{◌≡◌, ℕ, false, refl, ap}
use Rattle.amqp_model.specs.Term.{Descriptor, code, Term, leaf, container, described, kept, barred}
use Rattle.amqp_model.specs.Items.{is_null, IsFree}
use Rattle.amqp_model.specs.FieldType.{normal, Meaning, FieldType}
use Rattle.amqp_model.specs.Composite.{MeansDescribed}

-- what holds of all that is described so, holds of all that is meant
pub described_cases : {V : Type 0} (describes : Descriptor → Type 0) (means : Term → V → Type 0) (P : Term → Type 0) (t : Term) (v : V)
    → ((d : Descriptor) (u : Term) → describes d → means u v → P (described d u)) → MeansDescribed describes means t v → P t
described_cases describes means P (described d u) v f m = f d u m.0 m.1
described_cases describes means P (leaf p) v f m = absurd m
described_cases describes means P (container k ts) v f m = absurd m
described_cases describes means P (kept b) v f m = absurd m
described_cases describes means P (barred r) v f m = absurd m

module _ {V : Type 0} (describes : Descriptor → Type 0) (n : ℕ) (by_code : describes (code n)) (m : Meaning V) where
  abbrev pub by_described : (P : Term → Type 0) (t : Term) (v : V)
      → ((d : Descriptor) (u : Term) → describes d → m.means u v → P (described d u)) → MeansDescribed describes m.means t v → P t
  by_described = described_cases describes m.means

  -- The type of a value that is described; the canonical term has the code.
  abbrev pub described_type : FieldType V
  described_type = record {
    meaning = record {
      is_value = m.is_value;
      means = MeansDescribed describes m.means;
      canon = λ v. described (code n) (m.canon v);
      norm = m.norm;
      same = m.same;
      same_refl = m.same_refl;
      same_sym = m.same_sym;
      same_trans = m.same_trans;
      same_value = m.same_value;
      same_means = λ t v w s. by_described (λ t. MeansDescribed describes m.means t w) t v (λ d u e h. (e, m.same_means u v w s h));
      same_canon = λ v w s. ap (described (code n)) (m.same_canon v w s);
      one = λ t v w. by_described (λ t. MeansDescribed describes m.means t w → m.same v w) t v (λ d u e h k. m.one u v w h k.1);
      canon_means = λ v i f. (by_code, m.canon_means v i f);
      norm_canon = λ v. ap (described (code n)) (m.norm_canon v);
      norm_norm = m.norm_norm;
      value = λ t v. by_described (λ _. m.is_value v) t v (λ d u e. m.value u v);
      own = λ t v. by_described (λ _. m.same (normal m.norm v) v) t v (λ d u e. m.own u v);
      free = λ t v. by_described (λ _. IsFree (m.canon v)) t v (λ d u e. m.free u v);
    };
    never_null = λ t v. by_described (λ t. is_null t ≡ false) t v (λ d u e h. refl);
  }
