-- A message is read again from its text (Part 3, section 3.2).
use Rattle.std.specs.Prelude.{String}
use Rattle.std.proofs.Common.{◌≡◌, ◌⊎◌, inl, inr, ℕ, Global, List, [], ◌++◌, length, take, drop, option_map, Option, Some, None, IfSome, refl, sym, ap, subst, false}
use Rattle.std.proofs.lemmas.List.{append-nil}
use Rattle.amqp_model.specs.FieldType.{normal}
use Rattle.amqp_wire.specs.declared.error.Error.TheVariants.{EmptyBody}
use Rattle.amqp_encoder.specs.Passes.{row_text}
use Rattle.amqp_codec.specs.Composite.{composite}
use Rattle.amqp_codec.specs.Written.{Writing, AreWritable}
use Rattle.amqp_codec.specs.Agreement.{Agreement}
use Rattle.amqp_codec.specs.Reading.{BeginsWith, IsUnreadable, start}
use Rattle.amqp_codec.specs.Rewriting.{Rewriting}
use Rattle.amqp_values.specs.declared.value.Value.{Value}
use Rattle.amqp_simple_values.specs.declared.simple.SimpleValue.{SimpleValue}
use Rattle.amqp_annotations.specs.declared.owned_key.OwnedKey.{OwnedKey}
use Rattle.amqp_annotations.specs.AnnotationsType.{annotations_type}
use Rattle.amqp_map_sections.specs.SimpleMaps.{simple_map_type}
use Rattle.amqp_message_headers.specs.Tables.{header, properties}
use Rattle.amqp_batches.specs.Spellings.{Spells}
use Rattle.amqp_batches.specs.GroupTexts.{IsSound, widened}
use Rattle.amqp_batches.specs.WalkReading.{walk_reading}
use Rattle.amqp_batches.specs.laws.Bound.{begins_without_limits}
use Rattle.amqp_batches.specs.laws.ReadAs.{IsReadAs}
use Rattle.amqp_batches.specs.laws.Walk.{no_term}
use Rattle.amqp_batches.specs.laws.Resuming.{IsRead, start_unlimited}
use Rattle.amqp_batches.specs.Walk.{Walk, Steps, not_made}
use Rattle.amqp_batches.proofs.WalkSteps.{SoFar, none_made}
use Rattle.amqp_bodies.specs.Bodies.{Made}
use Rattle.amqp_bodies.specs.BodyTexts.{IsBodyText, body_group}
use Rattle.amqp_messages.specs.declared.order.Order.{Order}
use Rattle.amqp_messages.specs.declared.order.Order.TheVariants.{Any, Written}
use Rattle.amqp_messages.specs.declared.message.Message.{Message}
use Rattle.amqp_messages.specs.Kinds.{Kinds, Fields, Group, nothing, put_all, Fall}
use Rattle.amqp_messages.specs.KindsReading.{Readings}
use Rattle.amqp_messages.specs.KindsWriting.{AllHave, row_of, are_values}
use Rattle.amqp_messages.specs.KindsTexts.{Texts, writings_in, are_lasting, are_kept, were_read, are_sound, groups_of}
use Rattle.amqp_messages.specs.KindsTexts as kinds
use Rattle.amqp_messages.specs.MessageKinds.{seven, delivery_annotations, message_annotations, application_properties, footer}
use Rattle.amqp_messages.specs.MessageKinds.{spelled, fields_of, body_in, IsBodyOf, IsMadeOf}
use Rattle.amqp_messages.specs.MessageWalk.{message_walk}
use Rattle.amqp_messages.specs.MessageWriting.{groups_in, message_writing}
use Rattle.amqp_messages.specs.MessageTexts.{texts, body_code}
use Rattle.amqp_messages.specs.Builders.{with_body}
use Rattle.amqp_messages.specs.Messages.{readings_of, seven_apart, others_of, without_body, IsUnmade, message_of}
use Rattle.amqp_messages.specs.laws.KindsReading.{put_same}
use Rattle.amqp_messages.specs.Groups.{Progress}
use Rattle.amqp_messages.specs.laws.KindsSpelled.{AreReadAs, are_bound, left_by, AreInPlace, OfGroups, groups_are_read, read_groups, few_placed, fall_placed, falls_few}
use Rattle.amqp_messages.specs.laws.KindsRewriting.{read_are_sound, sound_are_values, row_canons, row_again, row_own, row_large}
use Rattle.amqp_messages.specs.laws.KindsRewriting.{text_is_groups, groups_are, groups_fall, put_has, groups_were_read, row_without, rest_has}
use Rattle.amqp_messages.specs.laws.MessageLimits.{message_bound}
use Rattle.amqp_messages.specs.laws.MessageSpelled.{are_read}

-- Each section is read again as it is by itself, and the body as this says.
abbrev pub message_again : {B : Type 0} → (B → B) → Message B → Message B
message_again again v = record {
  header = option_map (normal (composite header).norm) v.header;
  delivery_annotations = option_map (normal delivery_annotations.norm) v.delivery_annotations;
  message_annotations =
      option_map (normal message_annotations.norm) v.message_annotations;
  properties = option_map (normal (composite properties).norm) v.properties;
  application_properties = option_map (normal application_properties.norm) v.application_properties;
  body = again v.body;
  footer = option_map (normal footer.norm) v.footer;
}

abbrev as_body : {B : Type 0} → B → Group (seven B)
as_body v = inr (inr (inr (inr (inr (inl v)))))

any_value : {A : Type 0} (v : Option A) → IfSome v (λ _. Unit {0})
any_value None = tt
any_value (Some v) = tt

in_place : (ks : Kinds) (o : Order) (gs : List (Group ks)) → Fall ks 7 gs → AreInPlace ks o 7 gs
in_place ks Any gs f = few_placed ks gs 7 (falls_few ks gs 7 f)
in_place ks Written gs f = fall_placed ks gs 7 f

module _ {wa : Writing (List (OwnedKey × Value))} {ws : Writing (List (String Global × SimpleValue))} (a : Agreement annotations_type wa)
    (s : Agreement simple_map_type ws) {B : Type 0} {made : Made B B} {writing : Writing B} {follows : List ℕ → Type 0} {again : B → B}
    {kept lasts : B → Type 0} (body : IsBodyText made writing follows again kept lasts) {group : Spells B} (l : IsReadAs made.group group)
  where
    abbrev ks : Kinds
    ks = seven B

    abbrev rs : Readings ks
    rs = readings_of made.group

    abbrev ts : Texts ks rs
    ts = texts a s body.group

    -- How it is written, by how annotations, simple maps and the body are.
    abbrev pub written : Writing (Message B)
    written = message_writing (writings_in ks rs ts)

    reads : AreReadAs ks rs (spelled group)
    reads = are_read made l

    -- of the sections beside the body
    others_have : (v : Message B) → AllHave ks (are_lasting ks rs ts) (others_of made v)
    others_have v = (
      any_value v.header,
      (
        any_value v.delivery_annotations,
        (
          any_value v.message_annotations,
          (any_value v.properties, (any_value v.application_properties, (tt, (any_value v.footer, tt)))),
        ),
      ),
    )

    others_kept : (v : Message B) → AllHave ks (are_kept ks rs ts) (others_of made v)
    others_kept v = others_have v

    all_last : (v : Message B) → lasts v.body → AllHave ks (are_lasting ks rs ts) (groups_in v)
    all_last v h = put_has ks (are_lasting ks rs ts) (as_body v.body) (others_of made v) h (others_have v)

    all_kept : (v : Message B) → kept v.body → AllHave ks (are_kept ks rs ts) (groups_in v)
    all_kept v h = put_has ks (are_kept ks rs ts) (as_body v.body) (others_of made v) h (others_kept v)

    -- Groups that are read as a message, in either order.
    of_groups : (o : Order) (f : Fields ks) (v : Message B) → AllHave ks (are_values ks (writings_in ks rs ts)) f
        → AllHave ks (are_lasting ks rs ts) f → AreWritable (row_of ks (writings_in ks rs ts) f) → IsMadeOf made (kinds.again ks rs ts f) v
        → OfGroups o ks (spelled group) (IsMadeOf made) (row_text (row_of ks (writings_in ks rs ts) f)) v []
    of_groups o f v i last w is =
        let groups = groups_of ks (kinds.again ks rs ts f) in
        record {
          groups = groups;
          are = text_is_groups ks rs (spelled group) reads (seven_apart B) ts f i last w;
          placed = in_place ks o groups (groups_fall ks (kinds.again ks rs ts f));
          ended = inr refl;
          is = subst (λ z. IsMadeOf made z v) (sym (groups_are ks (kinds.again ks rs ts f))) is;
        }

    pub row_read : (o : Order) (f : Fields ks) (v : Message B) → AllHave ks (are_values ks (writings_in ks rs ts)) f
        → AllHave ks (are_lasting ks rs ts) f → AreWritable (row_of ks (writings_in ks rs ts) f) → IsMadeOf made (kinds.again ks rs ts f) v
        → (let text = row_text (row_of ks (writings_in ks rs ts) f) in
        BeginsWith (walk_reading (message_walk o (message_of made))) (text ++ []) v (length text))
    row_read o f v i last w is =
        (groups_are_read o (message_of made) (spelled group) reads).read (row_text (row_of ks (writings_in ks rs ts) f)) [] v
        (of_groups o f v i last w is)

    reads_again : (o : Order) (v : Message B) (more : List ℕ) → written.is_value v → lasts v.body → AreWritable (written.canons v) → more ≡ []
        → BeginsWith (walk_reading (message_walk o (message_of made))) (row_text (written.canons v) ++ more) (message_again again v)
        (length (row_text (written.canons v)))
    reads_again o v more i h w e =
        subst (λ z. BeginsWith (walk_reading (message_walk o (message_of made))) (row_text (written.canons v) ++ z) (message_again again v)
        (length (row_text (written.canons v)))) (sym e)
        (row_read o (groups_in v) (message_again again v) i (all_last v h) w (record { fields = refl; body = body.of_itself (again v.body) }))

    -- The groups of a message that was read.
    record ReadOf (v : Message B) : Type 0 where
      fields : Fields ks
      made_of : IsMadeOf made fields v
      read : AllHave ks (were_read ks rs) fields

    read_of : (o : Order) (input : List ℕ) (v : Message B) (n : ℕ) → BeginsWith (walk_reading (message_walk o (message_of made))) input v n
        → ReadOf v
    read_of o input v n h =
        let k = (groups_are_read o (message_of made) (spelled group) reads).spelled input v n h in
        record {
          fields = put_all ks k.1.groups (nothing ks);
          made_of = k.1.is;
          read = groups_were_read ks rs (spelled group) reads k.1.groups (take n input) (drop n input) k.1.are;
        }

    body_sound : (b : Option B) (v : B) → IsBodyOf made b v → IfSome b (IsSound (widened body_code (body_group body.group)))
        → IsSound (widened body_code (body_group body.group)) v
    body_sound None v h k = (let e = body.empty_sound v h in record { value = e.value; own = e.own; large = e.large })
    body_sound (Some t) v h k = subst (IsSound (widened body_code (body_group body.group))) (sym (body.to_body t v h)) k

    sound : (v : Message B) → ReadOf v → AllHave ks (are_sound ks rs ts) (groups_in v)
    sound v r =
        let all = subst (AllHave ks (are_sound ks rs ts)) r.made_of.fields (read_are_sound ks rs ts r.fields r.read) in
        let b = body_sound (body_in r.fields) v.body r.made_of.body all.1.1.1.1.1.0 in
        put_has ks (are_sound ks rs ts) (as_body v.body) (fields_of (body_in r.fields) v) b all

    body_lasts : (b : Option B) (v : B) → IsBodyOf made b v → IfSome b (IsRead made.group) → lasts v ⊎ made.empty v
    body_lasts None v h r = inr h
    body_lasts (Some t) v h r = inl (subst lasts (sym (body.to_body t v h)) (body.group.lasting r.input t r.number r.front))

    -- The body of a message that was read lasts, or takes the place of one that isn't there.
    pub message_lasts : (o : Order) (input : List ℕ) (v : Message B) (n : ℕ)
        → BeginsWith (walk_reading (message_walk o (message_of made))) input v n → lasts v.body ⊎ made.empty v.body
    message_lasts o input v n h =
        let r = read_of o input v n h in body_lasts (body_in r.fields) v.body r.made_of.body r.read.1.1.1.1.1.0

    own : (o : Order) (input : List ℕ) (v : Message B) (n : ℕ) → BeginsWith (walk_reading (message_walk o (message_of made))) input v n
        → kept v.body → (message_of made).ending.same (message_again again v) v
    own o input v n h k =
        let same = row_own ks rs ts (groups_in v) (sound v (read_of o input v n h)) (all_kept v k) in (
          without_body made (Some (again v.body)) (Some v.body) (message_again again v) v same,
          body.from_same (again v.body) v.body same.1.1.1.1.1.0,
        )

    -- A message whose sections stand in this order is written in the standard's, and read again so.
    pub message_is_rewritten : (o : Order) → Rewriting (walk_reading (message_walk o (message_of made))) written.canons written.is_value
        (λ rest. rest ≡ []) (message_again again) (λ v. kept v.body) (λ v. lasts v.body) false
    message_is_rewritten o = record {
      alone = refl;
      canons_same = λ v w h.
          row_canons ks rs ts (groups_in v) (groups_in w)
          (put_same ks rs (as_body v.body) (as_body w.body) (others_of made v) (others_of made w) (body.to_same v.body w.body h.1) h.0);
      reads_again = reads_again o;
      text_again = λ v i f. row_again ks rs ts (groups_in v) i f;
      value = λ input v n h. sound_are_values ks rs ts (groups_in v) (sound v (read_of o input v n h));
      own = own o;
      large = λ input v n e h u. row_large ks rs ts (groups_in v) e (sound v (read_of o input v n h)) u;
      bounded = begins_without_limits (walk_reading (message_walk o (message_of made)))
          (message_bound o (message_of made) (are_bound ks rs (spelled group) reads));
      least = λ h. absurd (no_term h);
    }

    -- A message whose body is written as no section has the text of its other sections.
    others_text : (v : Message B) → writing.canons v.body ≡ [] → row_of ks (writings_in ks rs ts) (groups_in v) ≡ row_of ks (writings_in ks rs ts) (others_of made v)
    others_text v e = row_without ks (writings_in ks rs ts) (as_body v.body) (others_of made v) refl e

    others_values : (v : Message B) → written.is_value v → AllHave ks (are_values ks (writings_in ks rs ts)) (others_of made v)
    others_values v i = rest_has ks (are_values ks (writings_in ks rs ts)) (as_body v.body) (others_of made v) refl i

    others_writable : (v : Message B) → writing.canons v.body ≡ [] → AreWritable (written.canons v)
        → AreWritable (row_of ks (writings_in ks rs ts) (others_of made v))
    others_writable v e w = subst AreWritable (others_text v e) w

    -- It is read, in either order, with what takes the place of a body that isn't there.
    pub without_sections : (o : Order) (v : Message B) (filler : B) → written.is_value v → AreWritable (written.canons v)
        → writing.canons v.body ≡ [] → made.empty filler
        → BeginsWith (walk_reading (message_walk o (message_of made))) (row_text (written.canons v)) (with_body filler (message_again again v))
        (length (row_text (written.canons v)))
    without_sections o v filler i w e takes =
        let others = row_text (row_of ks (writings_in ks rs ts) (others_of made v)) in
        let read = row_read o (others_of made v) (with_body filler (message_again again v)) (others_values v i) (others_have v)
        (others_writable v e w) (record { fields = refl; body = takes }) in
        subst (λ b. BeginsWith (walk_reading (message_walk o (message_of made))) b (with_body filler (message_again again v)) (length b))
        (sym (ap row_text (others_text v e)))
        (subst (λ b. BeginsWith (walk_reading (message_walk o (message_of made))) b (with_body filler (message_again again v)) (length others))
        (append-nil others) read)

    -- Or it is refused, if nothing does.
    pub without_body_refused : (o : Order) (v : Message B) → written.is_value v → AreWritable (written.canons v)
        → writing.canons v.body ≡ [] → ((filler : B) → made.empty filler → ⊥)
        → IsUnreadable (walk_reading (message_walk o (message_of made))) (row_text (written.canons v)) EmptyBody
    without_body_refused o v i w e none =
        let f = others_of made v in
        let text = row_text (row_of ks (writings_in ks rs ts) f) in
        let groups = groups_of ks (kinds.again ks rs ts f) in
        let k = read_groups o (message_of made) (spelled group) reads groups (start text) 7 (nothing ks) text [] (start_unlimited text)
        (sym (append-nil text)) (in_place ks o groups (groups_fall ks (kinds.again ks rs ts f)))
        (text_is_groups ks rs (spelled group) reads (seven_apart B) ts f (others_values v i) (others_have v) (others_writable v e w)) in
        let w : Walk (Progress ks) (Message B) = message_walk o (message_of made) in
        let unmade : IsUnmade made (put_all ks groups (nothing ks)) EmptyBody =
        subst (λ z. IsUnmade made z EmptyBody) (sym (groups_are ks (kinds.again ks rs ts f))) (refl, refl, none) in
        let part : Progress ks = record { left = left_by ks o 7 groups; part = put_all ks groups (nothing ks) } in
        let so_far : SoFar w (start text) part k.last = record {
          number = k.number;
          last = k.last;
          steps = k.steps;
          here = refl;
          first = λ z. (subst (λ n. Steps w n (start text) w.blank part k.last) z k.steps).1;
        } in
        subst (λ b. IsUnreadable (walk_reading (message_walk o (message_of made))) b EmptyBody) (sym (ap row_text (others_text v e)))
        (record {
          left = 0;
          fault = not_made k.number part k.last k.steps (inr k.behind_it) unmade (sym (ap length k.behind_it));
          none = λ u n h. none_made w (start text) part k.last k.last EmptyBody so_far refl (inr k.behind_it) unmade u h.after h.read;
          unspelled = λ one. absurd (no_term one);
        })
