-- The table of a composite none of whose fields is normalised (Part 1, section 1.4).
use Rattle.std.proofs.Common.{◌≡◌, ℕ, Bool, true, false, List, ◌&&◌, refl, ltb}
use Rattle.amqp_model.specs.FieldType.{Norm, unchanged, by_norm, normal}
use Rattle.amqp_model.specs.Fields.{IsNormal}
use Rattle.amqp_codec.specs.Fields.{Fields, none, field, slots}
use Rattle.amqp_codec.specs.Composite.{Table}

abbrev pub is_unchanged : {T : Type 0} → Norm T → Bool
is_unchanged unchanged = true
is_unchanged (by_norm f) = false

-- no field's value is normalised
abbrev pub are_unchanged : {V : Type 0} → Fields V → Bool
are_unchanged none = true
are_unchanged (field get f fs) = is_unchanged f.slot.meaning.norm && are_unchanged fs

-- both of them
both : (a b : Bool) → (a && b) ≡ true → (a ≡ true) × (b ≡ true)
both true b h = (refl, h)
both false b h = absurd (cc)

unchanged_normal : {T : Type 0} (n : Norm T) → is_unchanged n ≡ true → (v : T) → v ≡ normal n v
unchanged_normal unchanged h v = refl
unchanged_normal (by_norm f) h v = absurd (cc)

pub fields_normal : {V : Type 0} (fs : Fields V) → are_unchanged fs ≡ true → (v : V) → IsNormal (slots fs) v v
fields_normal none h v = tt
fields_normal (field get f fs) h v =
    let b = both (is_unchanged f.slot.meaning.norm) (are_unchanged fs) h in
    (unchanged_normal f.slot.meaning.norm b.0 (get v), fields_normal fs b.1 v)

-- By its code, which takes two bytes at most, its name, and its fields.
abbrev pub plain : {V : Type 0} (code : ℕ) → List ℕ → (fs : Fields V) → are_unchanged fs ≡ true → ltb code 256 ≡ true → Table V
plain code name fs kept small =
    record { code = code; name = name; fields = fs; norm = unchanged; norm_is = λ v. fields_normal fs kept v; is_small = small }
