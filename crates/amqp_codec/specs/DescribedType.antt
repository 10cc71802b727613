-- The type of values that are described (Part 1, section 1.5).
use Rattle.std.proofs.Common.{◌≡◌, true, refl}
use Rattle.amqp_model.specs.Term.{code, described}
use Rattle.amqp_model.specs.Composite.{MeansDescribed}
use Rattle.amqp_codec.specs.Faults.{Faults}
use Rattle.amqp_codec.specs.TermType.{TermType}
use Rattle.amqp_codec.specs.laws.Meaning.{meaning_sameness, meaning_ignores, meaning_rewrites}
use Rattle.amqp_codec.specs.FieldTypes.{anywhere, field_keeps_no_bytes}
use Rattle.amqp_codec.specs.Descriptors.{Descriptors}
use Rattle.amqp_codec.specs.laws.DescribedType.{described_meaning, described_meant, described_formed, described_least}

module _ {T : Type 0} (k : Descriptors) (u : TermType T) (ignores_standing : u.ignores_standing ≡ true) where
  -- The type of what is described so.
  abbrev pub described_by : Faults → TermType T
  described_by faults = record {
    is_value = u.is_value;
    means = λ s. MeansDescribed k.describes (u.means anywhere);
    faults = faults;
    canon = λ v. described (code k.number) (u.canon v);
    norm = u.norm;
    same = u.same;
    count = u.count;
    is_never_null = true;
    ignores_standing = true;
    takes_memory = u.takes_memory;
    is_least = u.is_least;
    sameness = meaning_sameness (described_meaning k u ignores_standing);
    rewrites = λ v. meaning_rewrites (described_meaning k u ignores_standing) v (field_keeps_no_bytes u ignores_standing v)
        (λ i. (k.in_range, (u.rewrites v).valued i));
    meant = described_meant k u ignores_standing;
    own = λ s. (described_meaning k u ignores_standing).own;
    norm_norm = u.norm_norm;
    formed = described_formed k u ignores_standing;
    never_null = λ _ v. refl;
    standing_ignored = λ _ v. meaning_ignores (described_meaning k u ignores_standing) v (field_keeps_no_bytes u ignores_standing v);
    least = described_least k u ignores_standing;
  }
