-- A primitive is read as its type says.
use Rattle.std.proofs.Common.{ℕ, Bool, Result, Ok, Err, IfOk, IfErr}
use Rattle.amqp_model.specs.Term.{Primitive, leaf}
use Rattle.amqp_wire.specs.declared.error.Error.{Error}
use Rattle.amqp_decoder.specs.State.{State}
use Rattle.amqp_decoder.specs.Reading.{AnswersRead}
use Rattle.amqp_decoder.specs.Primitives.{ReadsValue, Means, PrimitiveFault}
use Rattle.amqp_decoder.specs.Places.{Here, AnswersAt, StandsHere}
use Rattle.amqp_decoder.proofs.Places.{answered_here}
use Rattle.amqp_codec.specs.ExactType.{MeansExactly}
use Rattle.amqp_codec.specs.PrimitiveTypes.{Base, IsOf}
use Rattle.amqp_codec.specs.laws.Refusal.{refused_first}

pub kind_read : {V : Type 0} (takes : Bool) (make : V → Primitive) (range : V → Type 0) (kind : ℕ) (old : State) (r : Result V Error)
    (new : State) → IfOk r range → AnswersAt takes (ReadsValue (Means make)) (Here (PrimitiveFault kind)) old r new
    → AnswersAt takes (ReadsValue (MeansExactly range (λ v. leaf (make v)))) (Here (PrimitiveFault kind)) old r new
kind_read takes make range kind old (Ok v) new i h =
    record { bytes = h.bytes; term = h.term; stands = h.stands; moved = h.moved; meant = (h.meant, i) }
kind_read takes make range kind old (Err e) new i h =
    refused_first (ReadsValue (Means make)) (Here (PrimitiveFault kind)) (ReadsValue (MeansExactly range (λ v. leaf (make v))))
    (Here (PrimitiveFault kind)) old e new (λ t. t) (λ x h. h)
    (λ none v b r. none v b (record { bytes = r.bytes; term = r.term; stands = r.stands; moved = r.moved; meant = r.meant.0 })) h

-- a value is a primitive of the base, as `to` says
pub primitive_read : {A V : Type 0} (takes : Bool) (base : Base A) (to : V → A) (old : State) (r : Result V Error) (new : State)
    → IfOk r (λ v. IsOf base (to v))
    → AnswersRead takes (ReadsValue (Means (λ v. base.make (to v)))) (PrimitiveFault base.kind) old r new
    → IfErr r (λ _. StandsHere old new)
    → AnswersAt takes (ReadsValue (λ s t v. MeansExactly (IsOf base) (λ v. leaf (base.make v)) s t (to v))) (Here (PrimitiveFault base.kind))
    old r new
primitive_read takes base to old r new of h here =
    kind_read takes (λ v. base.make (to v)) (λ v. IsOf base (to v)) base.kind old r new of
    (answered_here takes (ReadsValue (Means (λ v. base.make (to v)))) (PrimitiveFault base.kind) old r new h here)

pub when_ok : {A E : Type 0} (P : A → Type 0) → ((v : A) → P v) → (r : Result A E) → IfOk r P
when_ok P h (Ok v) = h v
when_ok P h (Err e) = tt
