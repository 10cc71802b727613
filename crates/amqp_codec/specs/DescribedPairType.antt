-- A value with a descriptor of its own (Part 1, section 1.2): one type of pairs, over a type of descriptors and the type of what is
-- described.
use Rattle.std.proofs.Common.{◌≡◌, Bool, true, refl}
use Rattle.amqp_model.specs.Term.{described}
use Rattle.amqp_codec.specs.Faults.{Faults}
use Rattle.amqp_codec.specs.TermType.{TermType}
use Rattle.amqp_codec.specs.DescribedPairMeaning.{DescriptorType, MeansPair, norm_second}
use Rattle.amqp_codec.specs.laws.DescribedPairType.{pair_sameness, pair_rewrites, pair_meant, pair_formed, pair_ignores, pair_norm_norm}
use Rattle.amqp_codec.specs.laws.DescribedPairType.{pair_own, pair_least}

module _ {D T : Type 0} (k : DescriptorType D) (u : TermType T) where
  -- The type of such pairs; why none is read is said where their reading is.
  abbrev pub described_pair : Faults → (takes_memory : Bool) → TermType (D × T)
  described_pair faults takes_memory = record {
    is_value = λ v. k.is_value v.0 × u.is_value v.1;
    means = MeansPair k.means u.ignores_standing u.means;
    faults = faults;
    canon = λ v. described (k.canon v.0) (u.canon v.1);
    norm = norm_second u.norm;
    same = λ v w. (v.0 ≡ w.0) × u.same v.1 w.1;
    count = λ v. u.count v.1;
    is_never_null = true;
    ignores_standing = u.ignores_standing;
    takes_memory = takes_memory;
    is_least = u.is_least;
    sameness = pair_sameness k u;
    rewrites = pair_rewrites k u;
    meant = pair_meant k u;
    own = pair_own k u;
    norm_norm = pair_norm_norm k u;
    formed = pair_formed k u;
    never_null = λ _ v. refl;
    standing_ignored = pair_ignores k u;
    least = pair_least k u;
  }
