-- The values that bodies begin with.
use Rattle.std.proofs.Common.{◌≡◌, ℕ, ◌≤◌, ◌⊎◌, true, false, List, [], ◌∷◌, length, take, sym, inl, inr, arith}
use Rattle.std.proofs.lemmas.List.{length-take-le}
use Rattle.std.proofs.Math.Dec.{eqb}
use Rattle.std.proofs.lemmas.Bool.{eqb-true}
use Rattle.amqp_model.proofs.Lengths.{spelling_length}
use Rattle.amqp_wire.specs.declared.error.Error.{Error}
use Rattle.amqp_wire.specs.declared.error.Error.TheVariants.{Memory, Limit}
use Rattle.amqp_wire.specs.declared.limits.Limits.{Limits}
use Rattle.amqp_decoder.specs.Steps.{IsReadError}
use Rattle.amqp_codec.specs.TermType.{TermType}
use Rattle.amqp_codec.specs.Reading.{Reading, BeginsWithin, IsUnreadableWithin, IsGreatest}
use Rattle.amqp_codec.specs.TermReading.{reading_of}
use Rattle.amqp_codec.specs.laws.Spelling.{read_spelled, read_within}
use Rattle.amqp_frames.specs.Bodies.{IsUnread, IsThere}

-- A value that is read takes a byte at least, and no more than there are.
pub begins_there : {T : Type 0} (u : TermType T) (limits : Limits) (input : List ℕ) (v : T) (n : ℕ)
    → BeginsWithin limits (reading_of u) input v n → (1 ≤ n) × (n ≤ length input)
begins_there u limits input v n h =
    let s = read_spelled u input v n ((read_within u limits input v n).0 h).0 in
    (omega (arith, spelling_length (take n input) s.1.term s.1.spelled, length-take-le n input s.0), s.0)

-- So no value is read from no bytes.
pub none_there : {T : Type 0} (u : TermType T) (limits : Limits) (input : List ℕ) (v : T) (n : ℕ) → true ≡ eqb (length input) 0
    → BeginsWithin limits (reading_of u) input v n → ⊥
none_there u limits input v n empty h =
    let there = begins_there u limits input v n h in
    omega (arith, there.0, there.1, eqb-true (length input) 0 (sym empty))

pub is_there : (b : List ℕ) → false ≡ eqb (length b) 0 → IsThere b
is_there [] h = absurd (cc)
is_there (x ∷ b) h = omega arith

first_cause : {A B C : Type 0} → (A × B) ⊎ C → B ⊎ C
first_cause (inl both) = inl both.1
first_cause (inr other) = inr other

pub unread : {T : Type 0} (limits : Limits) (r : Reading T) (body : List ℕ) (e : Error)
    → ((r.takes_memory ≡ true) × (e ≡ Memory)) ⊎ IsUnreadableWithin limits r body e → (IsReadError e → ⊥)
    → (e ≡ Limit → IsGreatest limits → ⊥) → IsUnread limits r body e
unread limits r body e cause unfailing limited = record { cause = first_cause cause; unfailing = unfailing; limited = limited }

-- A body that begins with a value has no other cause than memory.
pub only_memory : {T : Type 0} (limits : Limits) (r : Reading T) (body : List ℕ) (e : Error) (v : T) (n : ℕ)
    → ((r.takes_memory ≡ true) × (e ≡ Memory)) ⊎ IsUnreadableWithin limits r body e → BeginsWithin limits r body v n → e ≡ Memory
only_memory limits r body e v n (inl both) h = both.1
only_memory limits r body e v n (inr none) h = absurd (none.none v n h)
