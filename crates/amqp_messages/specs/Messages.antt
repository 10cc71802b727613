-- What a message is made of, as it is read: the last group of each of seven kinds (Part 3, section 3.2).
use Rattle.std.proofs.Common.{◌≡◌, ℕ, ◌+◌, ◌≤◌, Option, Some, None, refl, ap, subst, arith}
use Rattle.amqp_model.specs.FieldRules.{SameOption}
use Rattle.amqp_wire.specs.declared.error.Error.{Error}
use Rattle.amqp_wire.specs.declared.error.Error.TheVariants.{EmptyBody}
use Rattle.amqp_decoder.specs.Steps.{IsOutside}
use Rattle.amqp_codec.specs.TermReading.{reading_of}
use Rattle.amqp_codec.specs.Reading.{Reading}
use Rattle.amqp_bodies.specs.Bodies.{Made}
use Rattle.amqp_messages.specs.declared.message.Message.{Message}
use Rattle.amqp_messages.specs.declared.message.Groups.{Groups}
use Rattle.amqp_messages.specs.declared.strict.Strict.{Strict}
use Rattle.amqp_messages.specs.Kinds.{Fields}
use Rattle.amqp_messages.specs.KindsReading.{AreApart, Readings, SameFields, count_in, weight}
use Rattle.amqp_messages.specs.laws.KindsReading.{same_sym, same_trans}
use Rattle.amqp_messages.specs.MessageKinds.{seven, by_type, fields_of, body_in, IsBodyOf, IsMadeOf}
use Rattle.amqp_messages.specs.Groups.{Ending, Shape}

-- How each kind is read.
abbrev pub readings_of : {S : Type 0} → Reading S → Readings (seven S)
readings_of group = by_type {F = Reading} (λ T u. reading_of u) group

pub seven_apart : (S : Type 0) → AreApart (seven S)
seven_apart S =
    ((refl, tt), ((refl, tt), ((refl, tt), ((refl, tt), ((refl, tt), ((refl, (refl, (refl, tt))), ((refl, tt), tt)))))))

-- The groups that were read.
abbrev pub fields_in : {S : Type 0} → Groups S → Fields (seven S)
fields_in m =
    (m.header, (m.delivery_annotations, (m.message_annotations, (m.properties, (m.application_properties, (m.body, (m.footer, tt)))))))

module _ {S B : Type 0} (made : Made S B) where
  abbrev rs : Readings (seven S)
  rs = readings_of made.group

  -- There is no body, and no value takes its place.
  abbrev pub IsUnmade : Fields (seven S) → Error → Type 0
  IsUnmade f e = (body_in f ≡ None) × (e ≡ EmptyBody) × ((v : B) → made.empty v → ⊥)

  -- The fields of a message without its body.
  abbrev pub others_of : Message B → Fields (seven S)
  others_of v = fields_of None v

  abbrev pub SameMessage : Message B → Message B → Type 0
  SameMessage v w = SameFields (seven S) rs (others_of v) (others_of w) × made.same v.body w.body

  abbrev pub count_message : Message B → ℕ
  count_message v = weight (seven S) rs (others_of v) + made.count v.body

  pub without_body : (b c : Option S) (v w : Message B) → SameFields (seven S) rs (fields_of b v) (fields_of c w)
      → SameFields (seven S) rs (others_of v) (others_of w)
  without_body b c v w l = (l.0, (l.1.0, (l.1.1.0, (l.1.1.1.0, (l.1.1.1.1.0, (tt, l.1.1.1.1.1.1))))))

  pub one_body : (a b : Option S) (v w : B) → SameOption made.group.same a b → IsBodyOf made a v → IsBodyOf made b w → made.same v w
  one_body None None v w h e f = made.laws.one_empty v w e f
  one_body None (Some t) v w h e f = absurd h
  one_body (Some s) None v w h e f = absurd h
  one_body (Some s) (Some t) v w h e f = made.laws.one s t v w h e f

  pub body_counted : (a : Option S) (v : B) → IsBodyOf made a v → made.count v ≤ count_in made.group.count a
  body_counted None v e = let z = made.laws.none_counted v e in omega (arith, z)
  body_counted (Some s) v e = made.laws.counted s v e

  pub not_unmade : (a b : Option S) (v : B) → SameOption made.group.same a b → IsBodyOf made a v → b ≡ None → ((w : B) → made.empty w → ⊥) → ⊥
  not_unmade None b v h e i none = none v e
  not_unmade (Some s) b v h e i none = subst (SameOption made.group.same (Some s)) i h

  fields_weight : (b : Option S) (v : Message B) → weight (seven S) rs (fields_of b v) ≡ weight (seven S) rs (others_of v) + count_in made.group.count b
  fields_weight b v = omega arith

  pub made_counted : (f : Fields (seven S)) (v : Message B) → IsMadeOf made f v → count_message v ≤ weight (seven S) rs f
  made_counted f v h =
      omega (arith, ap (weight (seven S) rs) h.fields, fields_weight (body_in f) v, body_counted (body_in f) v.body h.body)

  pub made_one : (f g : Fields (seven S)) (v w : Message B) → SameFields (seven S) rs f g → IsMadeOf made f v → IsMadeOf made g w
      → SameMessage v w
  made_one f g v w l h k = (
    without_body (body_in f) (body_in g) v w
        (subst (λ z. SameFields (seven S) rs z (fields_of (body_in g) w)) h.fields (subst (SameFields (seven S) rs f) k.fields l)),
    one_body (body_in f) (body_in g) v.body w.body l.1.1.1.1.1.0 h.body k.body,
  )

  pub unmade_inside : (e : Error) → IsOutside e → e ≡ EmptyBody → ⊥
  unmade_inside e o i = subst IsOutside i o

  abbrev pub message_ending : Ending (seven S) rs (Message B)
  message_ending = record {
    made = IsMadeOf made;
    unmade = IsUnmade;
    same = SameMessage;
    count = count_message;
    same_sym = λ v w h. (same_sym (seven S) rs (others_of v) (others_of w) h.0, made.laws.same_sym v.body w.body h.1);
    same_trans = λ v w x h k. (
      same_trans (seven S) rs (others_of v) (others_of w) (others_of x) h.0 k.0,
      made.laws.same_trans v.body w.body x.body h.1 k.1,
    );
    one = made_one;
    counted = made_counted;
    or_not = λ f g v e l h u. not_unmade (body_in f) (body_in g) v.body l.1.1.1.1.1.0 h.body u.0 u.2;
    unmade_inside = λ e o f u. unmade_inside e o u.1;
  }

  -- How a message is read, whose body is made so.
  abbrev pub message_of : Shape (Message B)
  message_of = record { kinds = seven S; readings = rs; apart = seven_apart S; ending = message_ending }

abbrev pub message_in : {B : Type 0} → Strict B → Message B
message_in v = v.0

abbrev pub as_strict : {B : Type 0} → Message B → Strict B
as_strict m = record { 0 = m }
