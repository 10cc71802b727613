-- The type of optional values: null is none.
use Rattle.std.proofs.Common.{false, Option, IfSome, refl}
use Rattle.amqp_model.specs.laws.Item.{clash}
use Rattle.amqp_model.specs.FieldRules.{option_canon, SameOption}
use Rattle.amqp_model.specs.laws.Option.{option_refl, option_sym, option_trans}
use Rattle.amqp_codec.specs.Faults.{Faults}
use Rattle.amqp_codec.specs.TermType.{TermType}
use Rattle.amqp_codec.specs.OptionMeaning.{MeansOption, OptionFault, norm_option, count_option}
use Rattle.amqp_codec.specs.laws.OptionType.{option_not_outside, option_elsewhere, option_misspelled, option_agrees, option_one, option_within}
use Rattle.amqp_codec.specs.laws.OptionType.{option_rewrites, option_norm_norm, option_own, option_meant, option_formed, option_ignores}
use Rattle.amqp_codec.specs.laws.OptionType.{option_least}

abbrev pub option_faults : Faults → Faults
option_faults f = record {
  fault = OptionFault f.fault;
  not_outside = λ e out. option_not_outside e out f;
  fault_elsewhere = option_elsewhere f;
  misspelled = option_misspelled f;
  within = option_within f;
}

abbrev pub option_of : {T : Type 0} → TermType T → TermType (Option T)
option_of u = record {
  is_value = λ v. IfSome v u.is_value;
  means = MeansOption u.means;
  faults = option_faults u.faults;
  canon = option_canon u.canon;
  norm = norm_option u.norm u.is_never_null u.canon;
  same = SameOption u.same;
  count = count_option u.count;
  is_never_null = false;
  ignores_standing = u.ignores_standing;
  takes_memory = u.takes_memory;
  is_least = u.is_least;
  sameness = record {
    refl = option_refl u.same u.sameness.refl;
    sym = option_sym u.same u.sameness.sym;
    trans = option_trans u.same u.sameness.trans;
    agrees = option_agrees u;
    one = option_one u;
  };
  rewrites = option_rewrites u;
  meant = option_meant u;
  own = option_own u;
  norm_norm = option_norm_norm u;
  formed = option_formed u;
  never_null = λ e v. absurd (clash e refl);
  standing_ignored = option_ignores u;
  least = option_least u;
}
