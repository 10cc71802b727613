-- A list of fields is a type of fields itself.
use Rattle.std.proofs.Common.{◌≡◌, false, refl, sym, ap, subst}
use Rattle.amqp_model.specs.Term.{list, map, array, Term, Terms, leaf, container, described, kept, barred}
use Rattle.amqp_model.specs.Items.{terms_of, items_of, is_null, IsFree}
use Rattle.amqp_model.specs.laws.Item.{items_of-terms_of}
use Rattle.amqp_model.specs.FieldType.{Norm, normal, FieldType}
use Rattle.amqp_model.specs.Fields.{Fields, Fits, canonical_items, AreValues, IsNormal, Same}
use Rattle.amqp_model.specs.laws.Field.{canonical_fit, fits_one, same_fields_refl, same_fields_sym, same_fields_trans, same_are_values}
use Rattle.amqp_model.specs.laws.Field.{same_canonical_items, same_fit, normal_canonical_items}
use Rattle.amqp_model.specs.laws.Field.{normal_twice, fitting_values, fitting_own, fitting_free}
use Rattle.amqp_model.specs.Composite.{MeansList, canonical_list}

-- what holds of each list that fits, holds of all that is meant
pub list_cases : {V : Type 0} (fs : Fields V) (P : Term → Type 0) (t : Term) (v : V)
    → ((ts : Terms) → Fits fs (items_of ts) v → P (container list ts)) → MeansList fs t v → P t
list_cases fs P (container list ts) v f m = f ts m
list_cases fs P (container map ts) v f m = absurd m
list_cases fs P (container array ts) v f m = absurd m
list_cases fs P (leaf p) v f m = absurd m
list_cases fs P (described d t) v f m = absurd m
list_cases fs P (kept b) v f m = absurd m
list_cases fs P (barred r) v f m = absurd m

module _ {V : Type 0} (fs : Fields V) (norm : Norm V) (norm_is : (v : V) → IsNormal fs v (normal norm v)) where
  pub list_same_means : (t : Term) (v w : V) → Same fs v w → MeansList fs t v → MeansList fs t w
  list_same_means t v w s = list_cases fs (λ t. MeansList fs t w) t v (λ ts. same_fit fs (items_of ts) v w s)

  pub list_one : (t : Term) (v w : V) → MeansList fs t v → MeansList fs t w → Same fs v w
  list_one t v w = list_cases fs (λ t. MeansList fs t w → Same fs v w) t v (λ ts. fits_one fs (items_of ts) v w)

  pub list_canon_means : (v : V) → AreValues fs v → IsFree (canonical_list fs v) → MeansList fs (canonical_list fs v) (normal norm v)
  list_canon_means v i f =
      subst (λ ts. Fits fs ts (normal norm v)) (sym (items_of-terms_of (canonical_items fs v)))
      (canonical_fit fs v (normal norm v) i f (norm_is v))

  -- The type of a list of fields.
  abbrev pub list_of_fields : FieldType V
  list_of_fields = record {
    meaning = record {
      is_value = AreValues fs;
      means = MeansList fs;
      canon = canonical_list fs;
      norm = norm;
      same = Same fs;
      same_refl = same_fields_refl fs;
      same_sym = same_fields_sym fs;
      same_trans = same_fields_trans fs;
      same_value = same_are_values fs;
      same_means = list_same_means;
      same_canon = λ v w s. ap (λ ts. container list (terms_of ts)) (same_canonical_items fs v w s);
      one = list_one;
      canon_means = list_canon_means;
      norm_canon = λ v. ap (λ ts. container list (terms_of ts)) (normal_canonical_items fs v (normal norm v) (norm_is v));
      norm_norm = λ v. normal_twice fs v (normal norm v) (normal norm (normal norm v)) (norm_is v) (norm_is (normal norm v));
      value = λ t v. list_cases fs (λ _. AreValues fs v) t v (λ ts. fitting_values fs (items_of ts) v);
      own = λ t v. list_cases fs (λ _. Same fs (normal norm v) v) t v
          (λ ts h. fitting_own fs (items_of ts) v (normal norm v) h (norm_is v));
      free = λ t v. list_cases fs (λ _. IsFree (canonical_list fs v)) t v (λ ts. fitting_free fs (items_of ts) v);
    };
    never_null = λ t v. list_cases fs (λ t. is_null t ≡ false) t v (λ ts h. refl);
  }
