-- A body that isn't there is written as a null, and read again as one where the type of its values tells what a null means (Part 3,
-- section 3.2.8).
use Rattle.std.proofs.Common.{◌≡◌, Bool, true, false, cond, Option, Some, None, ℕ, List, [], ◌∷◌, ◌++◌, length, refl, sym, ap, subst}
use Rattle.amqp_model.specs.Term.{null, Term, leaf, container, described, kept, barred, code}
use Rattle.amqp_model.specs.Text.{text, texts}
use Rattle.amqp_model.specs.Items.{is_null_primitive}
use Rattle.amqp_model.specs.laws.Item.{clash}
use Rattle.amqp_model.specs.FieldType.{normal}
use Rattle.amqp_wire.specs.declared.error.Error.{Error}
use Rattle.amqp_wire.specs.declared.error.Error.TheVariants.{TooLarge}
use Rattle.amqp_encoder.specs.Passes.{row_text}
use Rattle.amqp_codec.specs.TermType.{TermType}
use Rattle.amqp_codec.specs.TermReading.{reading_of}
use Rattle.amqp_codec.specs.Reading.{Reading, BeginsWith}
use Rattle.amqp_codec.specs.Rewriting.{Rewriting, rewrites}
use Rattle.amqp_codec.specs.Written.{Writing, AreUnwritable, canon_of}
use Rattle.amqp_codec.specs.Agreement.{Agreement, agreement}
use Rattle.amqp_codec.specs.laws.Null.{null_primitive}
use Rattle.amqp_codec.specs.PrimitiveTypes.{null_type}
use Rattle.amqp_sections.specs.SectionType.{section_writing, section_agreement}
use Rattle.amqp_sections.specs.Sections.{in_value, value_naming}
use Rattle.amqp_sections.specs.declared.data.Data.{Data as DataSection}
use Rattle.amqp_sections.specs.declared.amqp_sequence.AmqpSequence.{AmqpSequence}
use Rattle.amqp_sections.specs.declared.amqp_value.AmqpValue.{AmqpValue}
use Rattle.amqp_batches.specs.Sections.{IsSection}
use Rattle.amqp_batches.specs.Batches.{sections_in, batch_reading, batch_writing, batch_again}
use Rattle.amqp_batches.specs.GroupTexts.{GroupText, IsSound}
use Rattle.amqp_batches.specs.SectionGroups.{section_text, batch_text}
use Rattle.amqp_bodies.specs.declared.body.Body.{Body}
use Rattle.amqp_bodies.specs.declared.body.Body.TheVariants.{Value, Empty}
use Rattle.amqp_bodies.specs.BodyReading.{body_reading}
use Rattle.amqp_bodies.specs.BodyWriting.{null_section, body_writing}
use Rattle.amqp_bodies.specs.BodyRewriting.{IsBodyCode, NoBodyFollows, each_again, IsEach, EmptyText, body_text, null_ahead}
use Rattle.amqp_bodies.specs.BodySections.{value_section, empty_body, body_made, any_body_bound, IsSome}
use Rattle.amqp_bodies.specs.SeenReading.{seen_reading, seen_bound, seen_text}
use Rattle.amqp_bodies.specs.BodyTexts.{IsBodyText, body_group, group_is_body, itself_or_empty_text}
use Rattle.amqp_bodies.specs.NullBodies.{IsNull, values, null_bytes, null_begins}

abbrev pub is_null_leaf : Term → Bool
is_null_leaf (leaf p) = is_null_primitive p
is_null_leaf _ = false

null_leaf : (t : Term) → is_null_leaf t ≡ true → t ≡ leaf null
null_leaf (leaf p) h = ap leaf (null_primitive p h)
null_leaf (container k ts) h = absurd (clash h refl)
null_leaf (described d t) h = absurd (clash h refl)
null_leaf (kept b) h = absurd (clash h refl)
null_leaf (barred r) h = absurd (clash h refl)

-- What the text of a body that isn't there is read as, by what its values' type tells that a null means, if it writes that as a null.
abbrev pub null_body : {T : Type 0} → Writing T → Option T → Body T
null_body w None = Empty
null_body w (Some v) = cond (is_null_leaf (canon_of w v)) (Value (record { 0 = v })) Empty

-- The type tells what a null means, and writes it as one.
abbrev pub IsNullKnown : {T : Type 0} → TermType T → Writing T → Option T → Type 0
IsNullKnown u w None = ⊥
IsNullKnown u w (Some v) = IsNull u v × (is_null_leaf (canon_of w v) ≡ true)

-- What the text of a body is read as.
abbrev pub again_as_body : {T : Type 0} → TermType T → TermType DataSection → TermType (AmqpSequence T) → Body T → Body T → Body T
again_as_body u ud us = each_again (normal (values u).norm) (batch_again ud) (batch_again us)

-- Its text is read: no batch is empty, and what a null means is known where the body isn't there.
abbrev pub IsReadAsBody : {T : Type 0} → Type 0 → Body T → Type 0
IsReadAsBody = IsEach (λ _. Unit {0}) (λ b. sections_in b ≡ [] → ⊥) (λ b. sections_in b ≡ [] → ⊥)

-- the text of a body that isn't there
null_text : row_text null_section ≡ null_bytes
unfolding text texts
null_text = refl

-- only its size would refuse it
null_large : (x : Error) → AreUnwritable null_section x → x ≡ TooLarge
null_large x u =
    (rewrites (section_agreement in_value value_naming (agreement null_type refl))).large null_bytes (record { 0 = tt }) 4 x
    (null_begins null_type (record { 0 = tt }) [] (refl, tt)) u

module _ {T : Type 0} {uv : TermType T} {wv : Writing T} (av : Agreement uv wv) {ud : TermType DataSection} {wd : Writing DataSection}
    (sd : IsSection 0x75 wd) (ad : Agreement ud wd) {us : TermType (AmqpSequence T)} {ws : Writing (AmqpSequence T)} (ss : IsSection 0x76 ws)
    (as_ : Agreement us ws) (meant : Option T) where
  abbrev rv : Reading (AmqpValue T)
  rv = reading_of (values uv)

  abbrev tv : GroupText rv (λ k. k ≡ 0x77)
  tv = section_text 0x77 (value_section in_value wv) (section_agreement in_value value_naming av)

  abbrev bodies : Reading (Body T)
  bodies = body_reading rv (batch_reading 0x75 (reading_of ud)) (batch_reading 0x76 (reading_of us))

  abbrev written : Writing (Body T)
  written = body_writing (section_writing in_value value_naming wv) (batch_writing wd) (batch_writing ws)

  null_read : (m : Option T) → IsNullKnown uv wv m → (more : List ℕ)
      → BeginsWith bodies (row_text null_section ++ more) (null_body wv m) (length (row_text null_section))
  null_read None known more = absurd known
  null_read (Some v) known more =
      let nil : AmqpValue T = record { 0 = v } in
      let k = subst (λ b. BeginsWith rv (b ++ more) nil (length b)) (sym null_text) (null_begins uv nil more known.0) in
      subst (λ b. BeginsWith bodies (row_text null_section ++ more) (cond b (Value nil) Empty) (length (row_text null_section))) (sym known.1)
      (record { after = k.after; read = ((refl, refl, refl, refl), (null_ahead more, k.read)); left = k.left })

  null_again : (m : Option T) → row_text (written.canons (null_body wv m)) ≡ row_text null_section
  null_again None = refl
  null_again (Some v) = by_test (is_null_leaf (canon_of wv v)) refl
    where
      by_test : (b : Bool) → is_null_leaf (canon_of wv v) ≡ b
          → row_text (written.canons (cond b (Value (record { 0 = v })) Empty)) ≡ row_text null_section
      by_test true e = ap (λ t. row_text (described (code 0x77) t ∷ [])) (null_leaf (canon_of wv v) e)
      by_test false e = refl

  abbrev empty_text : EmptyText rv (batch_reading 0x75 (reading_of ud)) (batch_reading 0x76 (reading_of us)) tv (batch_text 0x75 sd ad)
      (batch_text 0x76 ss as_)
  empty_text = record {
    lasts = IsNullKnown uv wv meant;
    again = null_body wv meant;
    reads_again = λ known more ends. null_read meant known more;
    text_again = null_again meant;
  }

  abbrev group : GroupText (seen_reading bodies) IsBodyCode
  group = seen_text bodies
      (body_text rv (batch_reading 0x75 (reading_of ud)) (batch_reading 0x76 (reading_of us)) tv (batch_text 0x75 sd ad) (batch_text 0x76 ss as_)
      empty_text)

  -- A body of any kind is read again from its text.
  pub any_body_rewrites : Rewriting (seen_reading bodies) written.canons written.is_value NoBodyFollows
      (again_as_body uv ud us (null_body wv meant)) IsSome (IsReadAsBody (IsNullKnown uv wv meant)) false
  any_body_rewrites = group.rewriting

  empty_sound : (v : Body T) → v ≡ Empty → IsSound (body_group (group_is_body group)) v
  empty_sound v e = subst (IsSound (body_group (group_is_body group))) (sym e)
      (record { value = tt; own = λ k. absurd k; large = null_large })

  one_empty : (v w : Body T) → v ≡ Empty → w ≡ Empty → (seen_reading bodies).same v w
  one_empty v w e f =
      subst (λ x. (seen_reading bodies).same x w) (sym e) (subst (λ x. (seen_reading bodies).same Empty x) (sym f) (tt, tt, tt))

  -- It is as the body of a message, in which one that isn't there takes its own place.
  pub body_is_text : IsBodyText (body_made (seen_reading bodies) (seen_bound bodies (any_body_bound (values uv) ud us))) written NoBodyFollows
      (again_as_body uv ud us (null_body wv meant)) IsSome (IsReadAsBody (IsNullKnown uv wv meant))
  body_is_text =
      itself_or_empty_text (seen_reading bodies) (seen_bound bodies (any_body_bound (values uv) ud us)) empty_body group
      empty_sound one_empty
