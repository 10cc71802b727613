use Rattle.std.proofs.Common.{Bool, Some, None}
use Rattle.amqp_model.specs.Term.{Term}
use Rattle.amqp_model.specs.Standing.{Standing}
use Rattle.amqp_wire.specs.declared.error.Error.{Error}
use Rattle.amqp_decoder.specs.State.{State}
use Rattle.amqp_decoder.specs.Primitives.{ReadsValue}
use Rattle.amqp_decoder.specs.Places.{Located, RefusesAt}
use Rattle.amqp_codec.specs.Slots.{MeansSome}
use Rattle.amqp_codec.specs.laws.Refusal.{NoneStands, refused_first}
use Rattle.amqp_codec.proofs.fields.read_some.Goals as goal

module _ {T : Type 0} (means : Standing → Term → T → Type 0) where
  -- where no value stands, none stands that is there
  none_there : (st : State) → NoneStands (ReadsValue means) st → NoneStands (ReadsValue (λ s t. MeansSome (means s t))) st
  none_there st none None b h = h.meant
  none_there st none (Some v) b h =
      none v b (record { bytes = h.bytes; term = h.term; stands = h.stands; moved = h.moved; meant = h.meant })

  some_refused : {takes : Bool} {fault : State → Located → Type 0} (st : State) (e : Error) (new : State)
      → RefusesAt takes (ReadsValue means) fault st e new
      → RefusesAt takes (ReadsValue (λ s t. MeansSome (means s t))) fault st e new
  some_refused {fault = fault} st e new =
      refused_first (ReadsValue means) fault (ReadsValue (λ s t. MeansSome (means s t))) fault st e new (λ t. t) (λ _ x. x) (none_there st)

pub returns-in-Err-clause-read : goal.returns-in-Err-clause-read
returns-in-Err-clause-read g c tells =
    some_refused g.T.DeserializeTerm.term.means _ _ _ (c.in-Err.ensures.read tells)
