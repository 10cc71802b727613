-- Types of fields: no null means a value, and they don't look at how a term stands.
use Rattle.std.proofs.Common.{◌≡◌, ℕ, ◌≤◌, Bool, true, false, List, [], sym, ◌∙◌}
use Rattle.amqp_model.specs.Term.{Term}
use Rattle.amqp_model.specs.Spelling.{IsSpelling}
use Rattle.amqp_model.specs.Standing.{Standing, whole}
use Rattle.amqp_model.specs.Measures.{nest, nodes}
use Rattle.amqp_model.specs.Ranges.{Everywhere, IsValue}
use Rattle.amqp_model.specs.Items.{is_null}
use Rattle.amqp_model.specs.laws.Item.{clash}
use Rattle.amqp_model.specs.FieldType.{normal, Meaning, FieldType}
use Rattle.amqp_codec.specs.TermType.{TermType, KeepsNoBytes, IsNoShorter, IsRefusedForSize}
use Rattle.amqp_codec.specs.laws.KeptBytes.{reads_itself, nulls_alike-none_kept}

-- the one standing that serves for all
abbrev pub anywhere : Standing
anywhere = whole []

-- The term t means a value whose canonical term is c, and in which so many values are; in a missing item are none.
pub record FieldMeant (t c : Term) (count : ℕ) : Type 0 where
  pub missing : is_null t ≡ true → count ≡ 0
  pub writable : (b : List ℕ) → IsSpelling b t → IsRefusedForSize c
  pub nested : nest c ≤ nest t
  pub counted : count ≤ nodes t

-- What the meaning of a field has beside the laws of the model.
pub record FieldLaws {T : Type 0} (m : Meaning T) : Type 0 where
  -- the values that count
  pub count : T → ℕ
  pub is_least : Bool
  pub valued : (v : T) → m.is_value v → Everywhere IsValue (m.canon v)
  pub keeps_no_bytes : (v : T) → KeepsNoBytes (m.canon v)
  pub meant : (t : Term) (v : T) → m.means t v → FieldMeant t (m.canon v) (count v)
  pub least : is_least ≡ true → (b : List ℕ) (t : Term) (v : T) → m.means t v → IsNoShorter b t (m.canon v)

-- A type that doesn't look at how a term stands.
module _ {T : Type 0} (u : TermType T) (ignores_standing : u.ignores_standing ≡ true) where
  pub field_keeps_no_bytes : (v : T) → KeepsNoBytes (u.canon v)
  field_keeps_no_bytes v = (u.standing_ignored ignores_standing v).plain

  -- how a term stands is nothing to the value
  pub standing_so : (s z : Standing) (t : Term) (v : T) → u.means s t v → u.means z t v
  standing_so s z t v = (u.standing_ignored ignores_standing v).means s z t

  pub field_norm_canon : (v : T) → u.canon (normal u.norm v) ≡ u.canon v
  field_norm_canon v =
      sym (nulls_alike-none_kept (u.canon (normal u.norm v)) (field_keeps_no_bytes (normal u.norm v)))
      ∙ (u.rewrites v).canon ∙ nulls_alike-none_kept (u.canon v) (field_keeps_no_bytes v)

  -- What its terms mean.
  abbrev pub meaning_of : Meaning T
  meaning_of = record {
    is_value = u.is_value;
    means = u.means anywhere;
    canon = u.canon;
    norm = u.norm;
    same = u.same;
    same_refl = u.sameness.refl;
    same_sym = u.sameness.sym;
    same_trans = u.sameness.trans;
    same_value = λ v w h. (u.sameness.agrees v w h).value;
    same_means = λ t v w h. (u.sameness.agrees v w h).means anywhere t;
    same_canon = λ v w h. (u.sameness.agrees v w h).canon;
    one = u.sameness.one anywhere;
    canon_means = λ v. (u.standing_ignored ignores_standing v).canon_means anywhere;
    norm_canon = field_norm_canon;
    norm_norm = u.norm_norm;
    value = λ t v m. (u.meant anywhere t v m).value;
    own = u.own anywhere;
    free = λ t v m. (u.meant anywhere t v m).free;
  }

module _ {T : Type 0} (u : TermType T) (is_never_null : u.is_never_null ≡ true) (ignores_standing : u.ignores_standing ≡ true) where
  pub field_never_null : (t : Term) (v : T) → u.means anywhere t v → is_null t ≡ false
  field_never_null t v m = sym (u.meant anywhere t v m).null_alike ∙ u.never_null is_never_null v

  abbrev pub field_type : FieldType T
  field_type = record { meaning = meaning_of u ignores_standing; never_null = field_never_null }

  pub field_meant : (t : Term) (v : T) → u.means anywhere t v → FieldMeant t (u.canon v) (u.count v)
  field_meant t v m = record {
    missing = λ n. absurd (clash n (field_never_null t v m));
    writable = λ b e. (u.meant (whole b) t v (standing_so u ignores_standing anywhere (whole b) t v m)).writable e;
    nested = (u.meant anywhere t v m).nested (u.canon v) (reads_itself (u.canon v) (field_keeps_no_bytes u ignores_standing v));
    counted = (u.meant anywhere t v m).counted;
  }

  abbrev pub type_laws : FieldLaws field_type.meaning
  type_laws = record {
    count = u.count;
    is_least = u.is_least;
    valued = λ v. (u.rewrites v).valued;
    keeps_no_bytes = field_keeps_no_bytes u ignores_standing;
    meant = field_meant;
    least = λ l b t v m. u.least l b t v (standing_so u ignores_standing anywhere (whole b) t v m);
  }
