-- The value of a body that takes the place of one that isn't there, as a null does (Part 3, section 3.2.8).
use Rattle.std.proofs.Common.{ℕ, List, [], ◌∷◌, ◌++◌, length, refl, arith, inr}
use Rattle.amqp_model.specs.Term.{null, leaf, described, code}
use Rattle.amqp_model.specs.Spelling.{IsSpelling, Names}
use Rattle.amqp_model.specs.Standing.{whole}
use Rattle.amqp_model.specs.FieldType.{normal}
use Rattle.amqp_codec.specs.TermType.{TermType}
use Rattle.amqp_codec.specs.TermReading.{reading_of}
use Rattle.amqp_codec.specs.Written.{Writing}
use Rattle.amqp_codec.specs.Agreement.{Agreement}
use Rattle.amqp_codec.specs.Spelled.{IsSpelled}
use Rattle.amqp_codec.specs.laws.Spelling.{spelled_read}
use Rattle.amqp_codec.specs.Reading.{BeginsWith, greatest}
use Rattle.amqp_codec.specs.laws.Reading.{read_one}
use Rattle.amqp_sections.specs.SectionType.{section_of, section_writing, section_agreement}
use Rattle.amqp_sections.specs.Sections.{in_value, value_naming}
use Rattle.amqp_sections.specs.declared.amqp_value.AmqpValue.{AmqpValue}
use Rattle.amqp_batches.specs.laws.Bound.{term_bound}
use Rattle.amqp_batches.specs.laws.Resuming.{IsRead}
use Rattle.amqp_batches.specs.GroupTexts.{GroupText, read_sound, widened}
use Rattle.amqp_batches.specs.SectionGroups.{section_text}
use Rattle.amqp_bodies.specs.Bodies.{Empties, no_value}
use Rattle.amqp_bodies.specs.BodyRewriting.{IsBodyCode, null_code}
use Rattle.amqp_bodies.specs.BodySections.{value_section, value_made}
use Rattle.amqp_bodies.specs.BodyTexts.{IsBodyText, body_group, group_is_body, itself_or_empty_text}

-- The value is what a null means.
abbrev pub IsNull : {T : Type 0} → TermType T → T → Type 0
IsNull u v = u.means (whole (0x40 ∷ [])) (leaf null) v

abbrev pub null_bytes : List ℕ
null_bytes = 0 ∷ 0x53 ∷ 0x77 ∷ 0x40 ∷ []

null_named : Names (code 0x77) (0x53 ∷ 0x77 ∷ [])
null_named = null_code.names

null_spelled : IsSpelling null_bytes (described (code 0x77) (leaf null))
unfolding IsSpelling
null_spelled = (
  code 0x77 ∷ [],
  0x40,
  omega arith,
  (null_bytes, [], refl, (0x53 ∷ 0x77 ∷ [], 0x40 ∷ [], refl, null_named, (refl, tt)), (refl, (refl, refl, tt))),
)

module _ {T : Type 0} (u : TermType T) where
  abbrev pub values : TermType (AmqpValue T)
  values = section_of in_value value_naming u

  pub null_spells : (v : AmqpValue T) → IsNull u v.0 → IsSpelled values null_bytes v
  null_spells v h = record {
    term = described (code 0x77) (leaf null);
    spelled = null_spelled;
    nested = omega arith;
    meant = (refl, whole (0x40 ∷ []), (λ _. (0x53 ∷ 0x77 ∷ [], 0x40 ∷ [], refl, null_named, refl)), h);
  }

  pub null_begins : (v : AmqpValue T) (more : List ℕ) → IsNull u v.0 → BeginsWith (reading_of values) (null_bytes ++ more) v 4
  null_begins v more h = spelled_read values null_bytes more v (null_spells v h)

  one_null : (v w : AmqpValue T) → IsNull u v.0 → IsNull u w.0 → values.same v w
  one_null v w h k = (read_one greatest (reading_of values) null_bytes v w 4 4 (null_begins v [] h) (null_begins w [] k)).0

  -- The values of some that take the place of a body that isn't there: bytes spell the section with each, and all are the same.
  pub record AreSpelled (e : Empties T) : Type 0 where
    pub spelled : (v : T) → e.is v → (b : List ℕ) × IsSpelled values b (record { 0 = v })
    pub one : (v w : T) → e.is v → e.is w → u.same v w

  pub none_spelled : AreSpelled no_value
  none_spelled = record { spelled = λ v h. absurd h; one = λ v w h. absurd h }

  pub nulls_spelled : (e : Empties T) → ((v : T) → e.is v → IsNull u v) → AreSpelled e
  nulls_spelled e is = record {
    spelled = λ v h. (null_bytes, null_spells (record { 0 = v }) (is v h));
    one = λ v w h k. (one_null (record { 0 = v }) (record { 0 = w }) (is v h) (is w k)).1;
  }

  spelled_is_read : (v : AmqpValue T) → (b : List ℕ) × IsSpelled values b v → IsRead (reading_of values) v
  spelled_is_read v (b, s) = record { input = b ++ []; number = length b; front = spelled_read values b [] v s }

-- One value, which bytes spell if it takes the place of a body that isn't there.
pub value_is_text : {T : Type 0} {u : TermType T} {w : Writing T} → Agreement u w → (e : Empties T) → AreSpelled u e
    → IsBodyText (value_made u e) (section_writing in_value value_naming w) (λ _. Unit {0})
    (normal (section_of in_value value_naming u).norm) (λ _. Unit {0}) (λ _. Unit {0})
value_is_text {u = u} {w} a e is =
    let t : GroupText (reading_of (values u)) IsBodyCode =
    widened (λ k i. inr (inr i)) (section_text 0x77 (value_section in_value w) (section_agreement in_value value_naming a)) in
    itself_or_empty_text (reading_of (values u)) (term_bound (values u))
    (record { is = λ v. e.is v.0; test = λ v. e.test v.0; tested = λ v. e.tested v.0 }) t
    (λ v h. read_sound (body_group (group_is_body t)) v (spelled_is_read u v (is.spelled v.0 h)))
    (λ v x h k. (refl, is.one v.0 x.0 h k))
