-- How a value that is made of a primitive is read.
use Rattle.std.proofs.Common.{◌≡◌, Bool, ap, ◌∙◌, sym}
use Rattle.amqp_model.specs.Term.{leaf}
use Rattle.amqp_wire.specs.declared.error.Error.{Error}
use Rattle.amqp_decoder.specs.State.{State}
use Rattle.amqp_decoder.specs.Reading.{RefusesRead}
use Rattle.amqp_decoder.specs.Primitives.{ReadsValue, Means, PrimitiveFault}
use Rattle.amqp_decoder.specs.Places.{Here, RefusesAt, StandsHere}
use Rattle.amqp_decoder.proofs.Places.{refused_here}
use Rattle.amqp_codec.specs.ExactType.{MeansExactly}
use Rattle.amqp_codec.specs.PrimitiveTypes.{Base, IsOf}
use Rattle.amqp_codec.specs.laws.Refusal.{refused_first}

-- X: what is read, of which V is made; A: that as the model has it
module _ {A X V : Type 0} (base : Base A) (of : X → A) (content : V → X) where
  abbrev ReadsContent : State → X → State → Type 0
  ReadsContent = ReadsValue (Means (λ x. base.make (of x)))

  abbrev ReadsNewtype : State → V → State → Type 0
  ReadsNewtype = ReadsValue (λ s t v. MeansExactly (IsOf base) (λ a. leaf (base.make a)) s t (of (content v)))

  pub newtype_read : (st : State) (x : X) (v : V) (b : State) → ReadsContent st x b → content v ≡ x → IsOf base (of (content v))
      → ReadsNewtype st v b
  newtype_read st x v b h e i = record {
    bytes = h.bytes;
    term = h.term;
    stands = h.stands;
    moved = h.moved;
    meant = (h.meant ∙ ap (λ x. leaf (base.make (of x))) (sym e), i);
  }

  pub newtype_refused : {takes : Bool} (st : State) (e : Error) (new : State)
      → RefusesRead takes ReadsContent (PrimitiveFault base.kind) st e new → StandsHere st new
      → RefusesAt takes ReadsNewtype (Here (PrimitiveFault base.kind)) st e new
  newtype_refused st e new r here =
      refused_first ReadsContent (Here (PrimitiveFault base.kind)) ReadsNewtype (Here (PrimitiveFault base.kind)) st e new (λ t. t) (λ x f. f)
      (λ none v b h. none (content v) b
      (record { bytes = h.bytes; term = h.term; stands = h.stands; moved = h.moved; meant = h.meant.0 })) (refused_here r here)
