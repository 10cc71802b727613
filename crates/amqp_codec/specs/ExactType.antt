-- Types whose values are their terms: a term means a value if it is its canonical one, and the value is one that is meant.
use Rattle.std.proofs.Common.{◌≡◌, ℕ, ◌≤◌, Bool, true, false, refl, sym, ap, ◌∙◌, subst, arith}
use Rattle.amqp_model.specs.Term.{Term}
use Rattle.amqp_model.specs.Spelling.{IsSpelling}
use Rattle.amqp_model.specs.Standing.{Standing}
use Rattle.amqp_model.specs.Text.{form}
use Rattle.amqp_model.specs.Measures.{nest, nodes}
use Rattle.amqp_model.specs.Ranges.{Everywhere, IsValue}
use Rattle.amqp_model.specs.Kept.{ExpandsTo}
use Rattle.amqp_model.specs.Items.{is_null, IsFree}
use Rattle.amqp_model.specs.FieldType.{unchanged}
use Rattle.amqp_model.proofs.Least.{text_is_least}
use Rattle.amqp_codec.specs.Faults.{Faults}
use Rattle.amqp_codec.specs.laws.KeptBytes.{plain_reads, plain_core, rewrites_plainly, null_core}
use Rattle.amqp_codec.specs.TermType.{TermType, Spells, IsLeaf, KeepsNoBytes, view_of, IsRefusedForSize, Sameness, IgnoresStanding, Meant}

abbrev pub MeansExactly : {V : Type 0} → (V → Type 0) → (V → Term) → Standing → Term → V → Type 0
MeansExactly is_meant canon s t v = (t ≡ canon v) × is_meant v

-- What such a type has to show. Of its values those are meant that have a canonical term.
pub record IsExact {V : Type 0} (is_value is_meant : V → Type 0) (canon : V → Term) (same : V → V → Type 0) (count : V → ℕ)
    (is_never_null : Bool) : Type 0 where
  pub sameness : Sameness same (view_of is_value (MeansExactly is_meant canon) canon)
  pub value : (v : V) → is_meant v → is_value v
  pub meant : (v : V) → is_value v → IsFree (canon v) → is_meant v
  pub plain : (v : V) → KeepsNoBytes (canon v)
  pub not_null : is_never_null ≡ true → (v : V) → is_null (canon v) ≡ false
  pub valued : (v : V) → is_value v → Everywhere IsValue (canon v)
  pub free : (v : V) → is_meant v → IsFree (canon v)
  pub writable : (v : V) (s : Standing) → is_meant v → Spells s (canon v) → IsRefusedForSize (canon v)
  pub counted : (v : V) → count v ≤ nodes (canon v)

module _ {V : Type 0} {is_value is_meant : V → Type 0} {canon : V → Term} {same : V → V → Type 0} {count : V → ℕ} {is_never_null : Bool}
    (laws : IsExact is_value is_meant canon same count is_never_null) where
  pub exact_ignores : (v : V) → (let x = view_of is_value (MeansExactly is_meant canon) canon v in IgnoresStanding x x)
  exact_ignores v = record { plain = laws.plain v; means = λ s z t m. m; canon_means = λ s i f. (refl, laws.meant v i f) }

  exact_nested : (v : V) (u : Term) → ExpandsTo (canon v) u → nest u ≤ nest (canon v)
  exact_nested v u r = rw (plain_reads (canon v) u (laws.plain v) r) (omega arith)

  pub exact_meant : (s : Standing) (t : Term) (v : V) → MeansExactly is_meant canon s t v → Meant s t (is_value v) (canon v) (count v)
  exact_meant s t v (e, i) = subst (λ x. Meant s x (is_value v) (canon v) (count v)) (sym e) (record {
    value = laws.value v i;
    free = laws.free v i;
    writable = laws.writable v s i;
    bare_data = λ _. plain_core (canon v) (laws.plain v);
    null_alike = refl;
    core_null = null_core (canon v);
    formless = λ h. h;
    nested = exact_nested v;
    leaf_alike = λ u r. subst IsLeaf (sym (plain_reads (canon v) u (laws.plain v) r));
    counted = laws.counted v;
  })

  abbrev pub exact : Faults → Bool → TermType V
  exact faults takes_memory = record {
    is_value = is_value;
    means = MeansExactly is_meant canon;
    faults = faults;
    canon = canon;
    norm = unchanged;
    same = same;
    count = count;
    is_never_null = is_never_null;
    ignores_standing = true;
    takes_memory = takes_memory;
    is_least = true;
    sameness = laws.sameness;
    rewrites = λ v. rewrites_plainly (exact_ignores v) (laws.valued v) refl;
    meant = exact_meant;
    own = λ s t v m. laws.sameness.refl v;
    norm_norm = laws.sameness.refl;
    formed = λ s z t u v w m n e. ap form (sym m.0) ∙ e ∙ ap form n.0;
    never_null = laws.not_null;
    standing_ignored = λ _. exact_ignores;
    least = λ _ b t v m bytes none e. text_is_least b (canon v) none bytes (subst (IsSpelling b) m.0 e);
  }
