-- A value that is held in another is read as it is.
use Rattle.std.proofs.Common.{Bool, true, refl}
use Rattle.amqp_wire.specs.declared.error.Error.{Error}
use Rattle.amqp_decoder.specs.State.{State}
use Rattle.amqp_decoder.specs.Primitives.{ReadsValue}
use Rattle.amqp_decoder.specs.Places.{RefusesAt}
use Rattle.amqp_codec.specs.TermType.{TermType}
use Rattle.amqp_codec.specs.Wrappers.{Holds, held}
use Rattle.amqp_codec.specs.laws.Refusal.{refused_first}

pub held_refused : {W T : Type 0} (h : Holds W T) (u : TermType T) {takes : Bool} (st : State) (e : Error) (new : State)
    → RefusesAt takes (ReadsValue u.means) u.faults.fault st e new
    → RefusesAt true (ReadsValue (held h u).means) u.faults.fault st e new
held_refused h u st e new =
    refused_first (ReadsValue u.means) u.faults.fault (ReadsValue (held h u).means) u.faults.fault st e new (λ _. refl) (λ _ x. x)
    (λ none v b r. none (h.get v) b (record { bytes = r.bytes; term = r.term; stands = r.stands; moved = r.moved; meant = r.meant }))
