-- The type of no values, with which the list of a sum's members ends.
use Rattle.std.proofs.Common.{◌≡◌, true, false, refl}
use Rattle.amqp_model.specs.FieldType.{unchanged}
use Rattle.amqp_codec.specs.Faults.{Faults}
use Rattle.amqp_codec.specs.TermType.{TermType, view_of, equality}

abbrev pub never_faults : Faults
never_faults = record {
  fault = λ st e. ⊥;
  not_outside = λ e out st f. f;
  fault_elsewhere = λ c st e keeps f. f;
  misspelled = λ st e room is f. absurd f;
  within = λ st e f. absurd f;
}

abbrev pub never_type : TermType ⊥
never_type = record {
  is_value = λ v. ⊥;
  means = λ s t v. ⊥;
  faults = never_faults;
  canon = λ v. absurd v;
  norm = unchanged;
  same = λ v w. v ≡ w;
  count = λ v. 0;
  is_never_null = true;
  ignores_standing = true;
  takes_memory = false;
  is_least = true;
  sameness = equality (view_of (λ v. ⊥) (λ s t v. ⊥) (λ v. absurd v)) (λ s t v w m n. absurd m);
  rewrites = λ v. absurd v;
  meant = λ s t v m. absurd m;
  own = λ s t v m. refl;
  norm_norm = λ v. refl;
  formed = λ s z t u v w m n e. absurd m;
  never_null = λ l v. absurd v;
  standing_ignored = λ l v. absurd v;
  least = λ l b t v m. absurd m;
}
