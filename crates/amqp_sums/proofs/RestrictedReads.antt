-- How a value of a restricted type is read: a primitive of its base, of which the table tells the value.
use Rattle.std.proofs.Common.{◌≡◌, inr, ℕ, Bool, true, None, length, refl, sym, ap, ◌∙◌, string_bytes}
use Rattle.amqp_model.specs.Term.{Primitive, Term, leaf, symbol}
use Rattle.amqp_model.specs.Standing.{Standing}
use Rattle.amqp_wire.specs.declared.error.Error.{Error}
use Rattle.amqp_wire.specs.declared.symbol.Symbol.{Symbol}
use Rattle.amqp_lookahead.specs.Kinds.{symbols}
use Rattle.amqp_decoder.specs.State.{IsPlaceOf, State}
use Rattle.amqp_decoder.specs.Steps.{RefusesBy}
use Rattle.amqp_decoder.specs.Reading.{RefusesRead}
use Rattle.amqp_decoder.specs.Primitives.{ReadsValue, Means, PrimitiveFault}
use Rattle.amqp_decoder.proofs.ReadPrimitives.{kind_failed}
use Rattle.amqp_decoder.proofs.Steps.{answered_later, first_kept}
use Rattle.amqp_decoder.proofs.Places.{before_at}
use Rattle.amqp_decoder.specs.Places.{Here, RefusesAt, StandsHere}
use Rattle.amqp_decoder.proofs.Places.{refused_here}
use Rattle.amqp_codec.specs.laws.PrimitiveTerm.{leaf_injective}
use Rattle.amqp_codec.specs.laws.Reading.{value_one}
use Rattle.amqp_codec.specs.laws.Refusal.{refused_first, value_going}
use Rattle.amqp_codec.specs.PrimitiveTypes.{Base}
use Rattle.amqp_sums.specs.Restricted.{IsUnknown, MeansRestricted, RestrictedFault, no_primitive, of_no_value}

module _ {A V : Type 0} (base : Base A) (unknown : Error) (table : V → A) where
  abbrev means : Standing → Term → V → Type 0
  means = MeansRestricted base table

  -- no primitive of the base, or no value, was read
  abbrev NoPrimitive : Bool → State → Error → State → Type 0
  NoPrimitive takes = RefusesAt takes (ReadsValue (Means base.make)) (Here (PrimitiveFault base.kind))

  abbrev NoValue : Bool → State → Error → State → Type 0
  NoValue takes = RefusesAt takes (ReadsValue means) (RestrictedFault base unknown table)

  as_primitive : (st : State) (v : V) (b : State) → ReadsValue means st v b → ReadsValue (Means base.make) st (table v) b
  as_primitive st v b h = record { bytes = h.bytes; term = h.term; stands = h.stands; moved = h.moved; meant = h.meant.0 }

  pub restricted_refused : {takes : Bool} (st : State) (e : Error) (new : State) → NoPrimitive takes st e new → NoValue takes st e new
  restricted_refused st e new h =
      refused_first (ReadsValue (Means base.make)) (Here (PrimitiveFault base.kind)) (ReadsValue means)
      (RestrictedFault base unknown table) st e new
      (λ t. t) (λ _. no_primitive) (λ none v b x. none (table v) b (as_primitive st v b x)) h

  one_primitive : (s : Standing) (t : Term) (a b : A) → t ≡ leaf (base.make a) → t ≡ leaf (base.make b) → a ≡ b
  one_primitive s t a b h i = base.injective a b (leaf_injective (base.make a) (base.make b) (sym h ∙ i))

  one_read : (st : State) (a b : A) (x y : State) → ReadsValue (Means base.make) st a x → ReadsValue (Means base.make) st b y → a ≡ b
  one_read st a b x y h k = (value_one (λ c d. c ≡ d) (Means base.make) one_primitive st a b x y h k).0

  -- a primitive was read that is no value's
  pub restricted_unknown : {takes : Bool} (st : State) (a : A) (b : State) (e : Error) (new : State) → ReadsValue (Means base.make) st a b
      → IsUnknown table a → RefusesBy unknown b e new → (place : ℕ) → (b.error ≡ None → new.source.fault ≡ place) → IsPlaceOf place st
      → NoValue takes st e new
  restricted_unknown st a b e new h none refused place there at =
      let going = h.stands.going in
      let is = (refused (value_going h)).0 in
      record {
        kept = answered_later (ap (λ (x : State). x.failed) h.moved) (first_kept {st = b} (value_going h) refused);
        again = λ d x. absurd (cc);
        named = λ _. inr (length st.rest, of_no_value h none is refl, before_at st (length st.rest) _ new (there (value_going h)) at);
        none = inr (λ v c x. none v (sym (one_read st a (table v) b c h (as_primitive st v c x))));
      }

-- symbols by their bytes
abbrev of_symbol : Symbol → Primitive
of_symbol text = symbol (string_bytes text.0)

pub symbol_read : (st : State) (v : Symbol) (b : State) → ReadsValue (Means of_symbol) st v b
    → ReadsValue (Means symbol) st (string_bytes v.0) b
symbol_read st v b h = record { bytes = h.bytes; term = h.term; stands = h.stands; moved = h.moved; meant = h.meant }

pub symbol_refused : (st : State) (e : Error) (new : State)
    → RefusesRead true (ReadsValue (Means of_symbol)) (PrimitiveFault symbols) st e new → StandsHere st new
    → RefusesAt true (ReadsValue (Means symbol)) (Here (PrimitiveFault symbols)) st e new
symbol_refused st e new h here = refused_here (kind_failed symbol symbols st e new (λ _. refl) h.kept h.again h.named) here
