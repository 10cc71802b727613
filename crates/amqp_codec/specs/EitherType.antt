-- The type of values of one type or of another, whose terms have other forms.
use Rattle.std.proofs.Common.{◌⊎◌, ℕ, Bool, ◌&&◌, ◌||◌}
use Rattle.amqp_codec.specs.Faults.{Faults}
use Rattle.amqp_codec.specs.TermType.{TermType}
use Rattle.amqp_codec.specs.EitherMeaning.{either, IsEither, SameEither, norm_either, FormsApart, EitherFault}
use Rattle.amqp_codec.specs.laws.EitherType.{either_refl, either_sym, either_trans, either_agrees, either_one, either_rewrites, either_within}
use Rattle.amqp_codec.specs.laws.EitherType.{either_norm_norm, either_meant, either_own, either_never_null, either_formed, either_ignores}
use Rattle.amqp_codec.specs.laws.EitherType.{either_least, either_not_outside, either_elsewhere, either_misspelled}

module _ (is_first : ℕ → Bool) (f g : Faults) where
  abbrev pub either_faults : Faults
  either_faults = record {
    fault = EitherFault is_first f g;
    not_outside = λ e out. either_not_outside is_first f g out;
    fault_elsewhere = either_elsewhere is_first f g;
    misspelled = either_misspelled is_first f g;
    within = either_within is_first f g;
  }

-- A sum of two types: which errors its reading may answer hangs on how the one is told from the other.
abbrev pub either_of : {A B : Type 0} (u : TermType A) (w : TermType B) → FormsApart u w → Faults → TermType (A ⊎ B)
either_of u w apart faults = record {
  is_value = IsEither u.is_value w.is_value;
  means = λ s t. IsEither (u.means s t) (w.means s t);
  faults = faults;
  canon = either u.canon w.canon;
  norm = norm_either u.norm w.norm;
  same = SameEither u.same w.same;
  count = either u.count w.count;
  is_never_null = u.is_never_null && w.is_never_null;
  ignores_standing = u.ignores_standing && w.ignores_standing;
  takes_memory = u.takes_memory || w.takes_memory;
  is_least = u.is_least && w.is_least;
  sameness = record {
    refl = either_refl u w;
    sym = either_sym u w;
    trans = either_trans u w;
    agrees = either_agrees u w;
    one = either_one u w apart;
  };
  rewrites = either_rewrites u w;
  meant = either_meant u w;
  own = either_own u w;
  norm_norm = either_norm_norm u w;
  formed = either_formed u w apart;
  never_null = either_never_null u w;
  standing_ignored = either_ignores u w;
  least = either_least u w;
}
