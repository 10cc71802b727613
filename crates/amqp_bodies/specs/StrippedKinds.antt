-- What stands in a body of any kind in which there may be nothing (Part 3, sections 3.2.6 to 3.2.8).
use Rattle.std.proofs.Common.{◌≤◌, Option, Some, None}
use Rattle.amqp_model.specs.FieldRules.{SameOption}
use Rattle.amqp_codec.specs.Reading.{Reading}
use Rattle.amqp_sections.specs.declared.data.Data.{Data as DataSection}
use Rattle.amqp_sections.specs.declared.amqp_sequence.AmqpSequence.{AmqpSequence}
use Rattle.amqp_sections.specs.declared.amqp_value.AmqpValue.{AmqpValue}
use Rattle.amqp_batches.specs.declared.transparent_vec.TransparentVec.{TransparentVec}
use Rattle.amqp_bodies.specs.declared.body.Body.{Body}
use Rattle.amqp_bodies.specs.declared.body.Body.TheVariants.{Value, Data, Sequence, Empty}
use Rattle.amqp_bodies.specs.BodyReading.{value_in, data_in, sequence_in, body_reading}
use Rattle.amqp_bodies.specs.Transposing.{Stripped}

-- R holds of both, if they are there, and else both are absent.
abbrev AreBoth : {A B : Type 0} → (A → B → Type 0) → Option A → Option B → Type 0
AreBoth R None None = Unit {0}
AreBoth R None (Some y) = ⊥
AreBoth R (Some x) None = ⊥
AreBoth R (Some x) (Some y) = R x y

module _ {F S : Type 0} {r : Reading F} {q : Reading S} (x : Stripped r q) where
  both_one : (a b : Option F) (c d : Option S) → SameOption r.same a b → AreBoth x.holds a c → AreBoth x.holds b d → SameOption q.same c d
  both_one None None None None h i j = tt
  both_one None None None (Some d) h i j = absurd j
  both_one None None (Some c) d h i j = absurd i
  both_one None (Some b) c d h i j = absurd h
  both_one (Some a) None c d h i j = absurd h
  both_one (Some a) (Some b) None d h i j = absurd i
  both_one (Some a) (Some b) (Some c) None h i j = absurd j
  both_one (Some a) (Some b) (Some c) (Some d) h i j = x.one a b c d h i j

  both_apart : (a b : F) (c : Option S) → r.same a b → x.is_nothing a → AreBoth x.holds (Some b) c → ⊥
  both_apart a b None h i j = absurd j
  both_apart a b (Some c) h i j = x.apart a b c h i j

module _ {T U : Type 0} {rv : Reading (AmqpValue U)} {qv : Reading (AmqpValue T)} (v : Stripped rv qv)
    {rd : Reading (TransparentVec DataSection)} (d : Stripped rd rd) {rs : Reading (TransparentVec (AmqpSequence U))}
    {qs : Reading (TransparentVec (AmqpSequence T))} (s : Stripped rs qs) where
  abbrev r : Reading (Body U)
  r = body_reading rv rd rs

  abbrev q : Reading (Body T)
  q = body_reading qv rd qs

  abbrev IsNoBody : Body U → Type 0
  IsNoBody (Value f) = v.is_nothing f
  IsNoBody (Data f) = d.is_nothing f
  IsNoBody (Sequence f) = s.is_nothing f
  IsNoBody Empty = Unit {0}

  abbrev HoldsBody : Body U → Body T → Type 0
  HoldsBody (Value f) (Value x) = v.holds f x
  HoldsBody (Data f) (Data x) = d.holds f x
  HoldsBody (Sequence f) (Sequence x) = s.holds f x
  HoldsBody f x = ⊥

  -- they are of one kind
  by_kinds : (f : Body U) (x : Body T) → HoldsBody f x
      → AreBoth v.holds (value_in f) (value_in x) × AreBoth d.holds (data_in f) (data_in x) × AreBoth s.holds (sequence_in f) (sequence_in x)
  by_kinds (Value f) (Value x) h = (h, tt, tt)
  by_kinds (Data f) (Data x) h = (tt, h, tt)
  by_kinds (Sequence f) (Sequence x) h = (tt, tt, h)
  by_kinds Empty x h = absurd h
  by_kinds (Value f) (Data x) h = absurd h
  by_kinds (Value f) (Sequence x) h = absurd h
  by_kinds (Value f) Empty h = absurd h
  by_kinds (Data f) (Value x) h = absurd h
  by_kinds (Data f) (Sequence x) h = absurd h
  by_kinds (Data f) Empty h = absurd h
  by_kinds (Sequence f) (Value x) h = absurd h
  by_kinds (Sequence f) (Data x) h = absurd h
  by_kinds (Sequence f) Empty h = absurd h

  pub body_one : (f g : Body U) (x y : Body T) → r.same f g → HoldsBody f x → HoldsBody g y → q.same x y
  body_one f g x y h i j =
      let a = by_kinds f x i in
      let b = by_kinds g y j in (
        both_one v (value_in f) (value_in g) (value_in x) (value_in y) h.0 a.0 b.0,
        both_one d (data_in f) (data_in g) (data_in x) (data_in y) h.1 a.1 b.1,
        both_one s (sequence_in f) (sequence_in g) (sequence_in x) (sequence_in y) h.2 a.2 b.2,
      )

  pub body_apart : (f g : Body U) (y : Body T) → r.same f g → IsNoBody f → HoldsBody g y → ⊥
  body_apart (Value f) (Value g) y h i j = both_apart v f g (value_in y) h.0 i (by_kinds (Value g) y j).0
  body_apart (Data f) (Data g) y h i j = both_apart d f g (data_in y) h.1 i (by_kinds (Data g) y j).1
  body_apart (Sequence f) (Sequence g) y h i j = both_apart s f g (sequence_in y) h.2 i (by_kinds (Sequence g) y j).2
  body_apart f Empty y h i j = j
  body_apart (Value f) (Data g) y h i j = h.0
  body_apart (Value f) (Sequence g) y h i j = h.0
  body_apart (Data f) (Value g) y h i j = h.0
  body_apart (Data f) (Sequence g) y h i j = h.1
  body_apart (Sequence f) (Value g) y h i j = h.0
  body_apart (Sequence f) (Data g) y h i j = h.1
  body_apart Empty (Value g) y h i j = h.0
  body_apart Empty (Data g) y h i j = h.1
  body_apart Empty (Sequence g) y h i j = h.2

  pub body_counted : (f : Body U) (x : Body T) → HoldsBody f x → q.count x ≤ r.count f
  body_counted (Value f) (Value x) h = v.counted f x h
  body_counted (Data f) (Data x) h = d.counted f x h
  body_counted (Sequence f) (Sequence x) h = s.counted f x h
  body_counted Empty x h = absurd h
  body_counted (Value f) (Data x) h = absurd h
  body_counted (Value f) (Sequence x) h = absurd h
  body_counted (Value f) Empty h = absurd h
  body_counted (Data f) (Value x) h = absurd h
  body_counted (Data f) (Sequence x) h = absurd h
  body_counted (Data f) Empty h = absurd h
  body_counted (Sequence f) (Value x) h = absurd h
  body_counted (Sequence f) (Data x) h = absurd h
  body_counted (Sequence f) Empty h = absurd h

  -- Where there is no body there is nothing.
  abbrev pub body_stripped : Stripped r q
  body_stripped = record { is_nothing = IsNoBody; holds = HoldsBody; one = body_one; apart = body_apart; counted = body_counted }
