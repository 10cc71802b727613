-- A simple value is read: its first code is looked at, and then a value of any kind is read that is no list, map or array.
use Rattle.std.proofs.Common.{◌≡◌, inr, ℕ, true, false, length, refl, sym, ap, ◌∙◌, subst}
use Rattle.amqp_model.specs.laws.Item.{clash}
use Rattle.amqp_wire.specs.declared.error.Error.{Error}
use Rattle.amqp_wire.specs.declared.error.Error.TheVariants.{InvalidValue}
use Rattle.amqp_decoder.specs.State.{State}
use Rattle.amqp_decoder.specs.Steps.{RefusesBy}
use Rattle.amqp_decoder.specs.Reading.{PeeksCode}
use Rattle.amqp_decoder.specs.Primitives.{standing, ReadsValue}
use Rattle.amqp_decoder.proofs.Steps.{answered_later, first_kept}
use Rattle.amqp_decoder.proofs.Places.{before_later}
use Rattle.amqp_decoder.proofs.Peeks.{value-peeked}
use Rattle.amqp_decoder.specs.Places.{RefusesAt, StandsHere}
use Rattle.amqp_codec.specs.TreeType.{tree_term}
use Rattle.amqp_codec.specs.laws.Refusal.{NoneStands, refused_later}
use Rattle.amqp_codec.specs.laws.Peek.{peeked_failed, peeked_going}
use Rattle.amqp_codec.specs.EitherMeaning.{in_first, in_second}
use Rattle.amqp_kinds.specs.Kinds.{term_kind, kind_at}
use Rattle.amqp_kinds.specs.laws.Kind.{kind_there}
use Rattle.amqp_values.specs.declared.value.Value.{Value}
use Rattle.amqp_values.specs.Values.{value_term}
use Rattle.amqp_values.specs.laws.Values.{values_are_trees}
use Rattle.amqp_values.specs.ValueMembers.{ValueMeans}
use Rattle.amqp_values.specs.ValueType.{value_type}
use Rattle.amqp_simple_values.specs.declared.simple.SimpleValue.{SimpleValue}
use Rattle.amqp_simple_values.specs.declared.simple.SimpleValue.TheVariants as simple
use Rattle.amqp_simple_values.specs.Simple.{as_value, simple_term, is_container}
use Rattle.amqp_simple_values.specs.SimpleType.{is_container_code, simple_type, simple_faults}

-- no simple value is a list, a map or an array
no_container : (v : SimpleValue) → is_container (term_kind (simple_term v)) ≡ false
no_container simple.Null = refl
no_container (simple.Bool b) = refl
no_container (simple.Ubyte n) = refl
no_container (simple.Ushort n) = refl
no_container (simple.Uint n) = refl
no_container (simple.Ulong n) = refl
no_container (simple.Byte z) = refl
no_container (simple.Short z) = refl
no_container (simple.Int z) = refl
no_container (simple.Long z) = refl
no_container (simple.Decimal32 d) = refl
no_container (simple.Decimal64 d) = refl
no_container (simple.Decimal128 d) = refl
no_container (simple.Char n) = refl
no_container (simple.Timestamp t) = refl
no_container (simple.Uuid u) = refl
no_container (simple.Binary b) = refl
no_container (simple.String s) = refl
no_container (simple.Symbol s) = refl
no_container (simple.Described d) = refl

abbrev AnyValue : State → Value → State → Type 0
AnyValue = ReadsValue ValueMeans

abbrev pub Simple : State → SimpleValue → State → Type 0
Simple = ReadsValue simple_type.means

-- a simple value that stands is its value of any kind
any_read : (st : State) (v : SimpleValue) (b : State) → Simple st v b → AnyValue st (as_value v) b
any_read st v b h = record { bytes = h.bytes; term = h.term; stands = h.stands; moved = h.moved; meant = h.meant }

simple_so : (st : State) (v : SimpleValue) (b : State) → AnyValue st (as_value v) b → Simple st v b
simple_so st v b h = record { bytes = h.bytes; term = h.term; stands = h.stands; moved = h.moved; meant = h.meant }

module _ (st : State) (c : ℕ) (mid : State) (p : PeeksCode st c mid) where
  -- the code tells the kind of the value
  kind_read : (v : Value) (b : State) → AnyValue st v b → kind_at c ≡ term_kind (value_term v)
  kind_read v b h =
      kind_there st c mid h.bytes h.term p h.stands
      ∙ ap term_kind (tree_term value_term values_are_trees (standing st.top.shared h.bytes) h.term v h.meant)

  none_simple : is_container_code c ≡ true → NoneStands Simple st
  none_simple is v b h =
      clash (sym (ap is_container (kind_read (as_value v) b (any_read st v b h))) ∙ is) (no_container v)

  -- a list, a map or an array
  pub container_refused : is_container_code c ≡ true → (e : Error) (new : State) → RefusesBy InvalidValue mid e new → StandsHere mid new
      → RefusesAt true Simple simple_faults.fault st e new
  container_refused is e new refused here =
      let going = peeked_going st c mid p in
      let invalid = (refused going.1).0 in
      record {
        kept = answered_later (peeked_failed st c mid p) (first_kept {st = mid} going.1 refused);
        again = λ d x. absurd (cc (going.0, x));
        named = λ _. inr (
          length mid.rest,
          in_first p is (invalid, refl),
          before_later st mid (length mid.rest) new (peeked_failed st c mid p) (here going.1),
        );
        none = inr (none_simple is);
      }

  -- what else is no value
  pub value_refused : is_container_code c ≡ false → (e : Error) (new : State)
      → RefusesAt true AnyValue value_type.faults.fault mid e new → RefusesAt true Simple simple_faults.fault st e new
  value_refused other e new h =
      let going = peeked_going st c mid p in
      refused_later AnyValue value_type.faults.fault Simple simple_faults.fault st mid e new (λ x. x) (peeked_failed st c mid p)
      going.0 going.1 (λ _. in_second p other)
      (λ nothing v b k. nothing (as_value v) b ((value-peeked ValueMeans st mid b c (as_value v) p).1 (any_read st v b k))) h

  -- a simple value
  pub value_read : (v : Value) (w : SimpleValue) (new : State) → v ≡ as_value w → AnyValue mid v new → Simple st w new
  value_read v w new e h =
      simple_so st w new (subst (λ x. AnyValue st x new) e ((value-peeked ValueMeans st mid new c v p).0 h))

  -- no list, map or array was read
  pub other_read : is_container_code c ≡ false → (v : Value) (new : State) → AnyValue mid v new
      → is_container (term_kind (value_term v)) ≡ true → ⊥
  other_read other v new h is =
      clash (ap is_container (kind_read v new ((value-peeked ValueMeans st mid new c v p).0 h)) ∙ is) other
