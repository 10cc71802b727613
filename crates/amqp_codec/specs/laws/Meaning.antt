-- The laws of a type that doesn't look at how its terms stand, by the laws of their meaning.
use Rattle.std.proofs.Common.{ap}
use Rattle.amqp_model.specs.Ranges.{Everywhere, IsValue}
use Rattle.amqp_model.specs.FieldType.{normal, Meaning}
use Rattle.amqp_codec.specs.NullsAlike.{nulls_alike}
use Rattle.amqp_codec.specs.TermType.{KeepsNoBytes, View, view_of, Sameness, IgnoresStanding, Rewrites}
use Rattle.amqp_codec.specs.laws.KeptBytes.{rewrites_plainly}

module _ {V : Type 0} (m : Meaning V) where
  abbrev pub meaning_view : V → View
  meaning_view = view_of m.is_value (λ s. m.means) m.canon

  pub meaning_sameness : Sameness m.same meaning_view
  meaning_sameness = record {
    refl = m.same_refl;
    sym = m.same_sym;
    trans = m.same_trans;
    agrees = λ v w h. record { value = m.same_value v w h; means = λ s t. m.same_means t v w h; canon = m.same_canon v w h };
    one = λ s. m.one;
  }

  pub meaning_ignores : (v : V) → KeepsNoBytes (m.canon v) → IgnoresStanding (meaning_view v) (meaning_view (normal m.norm v))
  meaning_ignores v plain = record { plain = plain; means = λ s z t h. h; canon_means = λ s. m.canon_means v }

  pub meaning_rewrites : (v : V) → KeepsNoBytes (m.canon v) → (m.is_value v → Everywhere IsValue (m.canon v))
      → Rewrites (meaning_view v) (meaning_view (normal m.norm v))
  meaning_rewrites v plain valued = rewrites_plainly (meaning_ignores v plain) valued (ap nulls_alike (m.norm_canon v))
