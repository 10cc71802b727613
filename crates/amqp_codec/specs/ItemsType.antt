-- Values that are the items of a list or an array (Part 1, sections 1.6.22 and 1.6.24): one type for both.
use Rattle.std.proofs.Common.{suc, true, List, All, refl}
use Rattle.std.specs.List.{AllZip}
use Rattle.amqp_model.specs.Term.{Container, container}
use Rattle.amqp_codec.specs.Faults.{Faults}
use Rattle.amqp_codec.specs.TermType.{TermType}
use Rattle.amqp_codec.specs.Each.{canons_of, count_all, norm_items, IsListOrArray, MeansItems}
use Rattle.amqp_codec.specs.laws.Each.{each_refl, each_sym, each_trans}
use Rattle.amqp_codec.specs.laws.ItemsType.{items_agree, items_one, items_rewrites, items_ignore, items_norm_norm, items_own, items_meant}
use Rattle.amqp_codec.specs.laws.ItemsType.{items_least}

module _ {T : Type 0} (u : TermType T) (k : Container) (q : IsListOrArray k) where
  -- The type of such values; why none is read is said where their reading is.
  abbrev pub items_type : Faults → TermType (List T)
  items_type faults = record {
    is_value = All u.is_value;
    means = MeansItems u.ignores_standing u.means k;
    faults = faults;
    canon = λ vs. container k (canons_of u.canon vs);
    norm = norm_items u.norm;
    same = AllZip u.same;
    count = λ vs. suc (count_all u.count vs);
    is_never_null = true;
    ignores_standing = u.ignores_standing;
    takes_memory = true;
    is_least = u.is_least;
    sameness = record { refl = each_refl u; sym = each_sym u; trans = each_trans u; agrees = items_agree u k q; one = items_one u k q };
    rewrites = items_rewrites u k q;
    meant = items_meant u k q;
    own = items_own u k q;
    norm_norm = items_norm_norm u k q;
    formed = λ s z t r vs ws m n e. refl;
    never_null = λ _ vs. refl;
    standing_ignored = items_ignore u k q;
    least = items_least u k q;
  }
