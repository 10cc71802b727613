-- An optional value is read: null, or what begins otherwise.
use Rattle.std.proofs.Common.{Bool, false, ◌≡◌, inl, inr, ℕ, Some, None, ap, subst}
use Rattle.amqp_model.specs.Term.{null}
use Rattle.amqp_model.specs.Items.{is_null}
use Rattle.amqp_model.specs.laws.Item.{clash}
use Rattle.amqp_wire.specs.declared.error.Error.{Error}
use Rattle.amqp_decoder.specs.State.{State}
use Rattle.amqp_decoder.specs.Reading.{RefusesRead, PeeksCode}
use Rattle.amqp_decoder.specs.Primitives.{ReadsValue, Means, PrimitiveFault}
use Rattle.amqp_decoder.proofs.Steps.{answered_later}
use Rattle.amqp_decoder.proofs.Peeks.{value-peeked}
use Rattle.amqp_decoder.specs.Places.{Located, RefusesAt}
use Rattle.amqp_codec.specs.TermType.{TermType}
use Rattle.amqp_codec.specs.OptionMeaning.{MeansOption, OptionFault}
use Rattle.amqp_codec.specs.laws.Refusal.{excused_as, no_memory, NoneStands, refused_later}
use Rattle.amqp_codec.specs.laws.Peek.{peeked_failed, peeked_going, null_there, not_null}

-- a null that was looked at can't be refused but for the source
pub null_refused : {B : Type 0} {takes : Bool} (q : State → B → State → Type 0) (g : State → Located → Type 0) (st : State) (c : ℕ)
    (mid : State) (e : Error) (new : State) → PeeksCode st c mid → c ≡ 0x40
    → RefusesRead false (ReadsValue (Means (λ (_ : Unit {0}). null))) (PrimitiveFault 0) mid e new → RefusesAt takes q g st e new
null_refused q g st c mid e new p is h =
    let at : PeeksCode st 0x40 mid = subst (λ x. PeeksCode st x mid) is p in
    let going = peeked_going st 0x40 mid at in
    let excused = excused_as e new no_memory (null_there st mid e new at (h.named going.1)) in
    record {
      kept = answered_later (peeked_failed st 0x40 mid at) h.kept;
      again = λ d x. absurd (let y = going.0 in cc);
      named = λ _. inl excused;
      none = inl excused;
    }

module _ {T : Type 0} (u : TermType T) where
  pub none_read : (st : State) (c : ℕ) (mid b : State) → PeeksCode st c mid → ReadsValue (Means (λ (_ : Unit {0}). null)) mid tt b
      → ReadsValue (MeansOption u.means) st None b
  none_read st c mid b p h =
      let k = (value-peeked (Means (λ (_ : Unit {0}). null)) st mid b c tt p).0 h in
      record { bytes = k.bytes; term = k.term; stands = k.stands; moved = k.moved; meant = ap is_null k.meant }

  pub some_read : (st : State) (c : ℕ) (mid : State) (v : T) (b : State) → PeeksCode st c mid → (c ≡ 0x40 → ⊥) → ReadsValue u.means mid v b
      → ReadsValue (MeansOption u.means) st (Some v) b
  some_read st c mid v b p other h =
      let k = (value-peeked u.means st mid b c v p).0 h in
      record {
        bytes = k.bytes;
        term = k.term;
        stands = k.stands;
        moved = k.moved;
        meant = (not_null u.means st c mid v b p other k, k.meant);
      }

  none_stands : (st : State) (c : ℕ) (mid : State) → PeeksCode st c mid → (c ≡ 0x40 → ⊥) → NoneStands (ReadsValue u.means) mid
      → NoneStands (ReadsValue (MeansOption u.means)) st
  none_stands st c mid p other none None b h = clash h.meant (not_null (MeansOption u.means) st c mid None b p other h)
  none_stands st c mid p other none (Some v) b h =
      let k : ReadsValue u.means st v b =
      record { bytes = h.bytes; term = h.term; stands = h.stands; moved = h.moved; meant = h.meant.1 } in
      none v b ((value-peeked u.means st mid b c v p).1 k)

  pub some_refused : (st : State) (c : ℕ) (mid : State) (e : Error) (new : State) → PeeksCode st c mid → (c ≡ 0x40 → ⊥)
      → RefusesAt u.takes_memory (ReadsValue u.means) u.faults.fault mid e new
      → RefusesAt u.takes_memory (ReadsValue (MeansOption u.means)) (OptionFault u.faults.fault) st e new
  some_refused st c mid e new p other h =
      let going = peeked_going st c mid p in
      refused_later (ReadsValue u.means) u.faults.fault (ReadsValue (MeansOption u.means))
      (OptionFault u.faults.fault) st mid e new (λ t. t)
      (peeked_failed st c mid p) going.0 going.1
      (λ _ f. inr (c, mid, p, other, f)) (none_stands st c mid p other) h
