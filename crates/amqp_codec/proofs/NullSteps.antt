-- A null is taken if one comes next.
use Rattle.std.proofs.Common.{◌≡◌, ℕ, Bool, true, false, eqb, refl, subst}
use Rattle.std.proofs.lemmas.Bool.{eqb-true, eq-eqb}
use Rattle.amqp_model.specs.Term.{null, Term}
use Rattle.amqp_model.specs.Standing.{Standing}
use Rattle.amqp_wire.specs.declared.error.Error.{Error}
use Rattle.amqp_decoder.specs.State.{State}
use Rattle.amqp_decoder.specs.Reading.{RefusesRead, ReadsCode, BeginFault, PeeksCode, after_peek}
use Rattle.amqp_decoder.specs.Primitives.{ReadsValue, Means}
use Rattle.amqp_decoder.proofs.ReadPrimitives.{code_value}
use Rattle.amqp_decoder.specs.Places.{Here, RefusesAt, StandsHere}
use Rattle.amqp_decoder.proofs.Places.{refused_here}
use Rattle.amqp_codec.specs.FieldReading.{TakesNull}
use Rattle.amqp_codec.specs.laws.Refusal.{NoneStands, no_memory, refused_first}
use Rattle.amqp_codec.specs.laws.Peek.{stands_begun, value_peeked}

-- what begins by a first code is a null, or something else
null_or_other : (st : State) → NoneStands TakesNull st → (c : ℕ) (after : State) → ReadsCode st c after → (test : Bool) → eqb c 0x40 ≡ test → ⊥
null_or_other st none c after begun true e =
    none true after
    (code_value (λ _. null) 0x40 st tt after (subst (λ x. ReadsCode st x after) (eqb-true c 0x40 e) begun) (refl, refl, tt))
null_or_other st none c after begun false e =
    none false (after_peek st.top.shared st)
    (c, record { after = after; begun = begun; kept = refl }, λ is. absurd (let same = eq-eqb c 0x40 is in cc))

-- where a value stands, a null can be taken, or what stands there isn't one
pub value_untaken : {A : Type 0} (means : Standing → Term → A → Type 0) (st : State) → NoneStands TakesNull st → NoneStands (ReadsValue means) st
value_untaken means st none v b h =
    let f = stands_begun st h.bytes h.term h.stands in
    null_or_other st none f.0 f.1 f.2 (eqb f.0 0x40) refl

none_taken : (st : State) → NoneStands PeeksCode st → NoneStands TakesNull st
none_taken st none true b h = value_peeked (Means (λ (_ : Unit {0}). null)) st none tt b h
none_taken st none false b h = none h.0 b h.1

-- nothing begins there
pub unpeeked : (st : State) (e : Error) (new : State) → RefusesRead false PeeksCode BeginFault st e new → StandsHere st new
    → RefusesAt false TakesNull (Here BeginFault) st e new
unpeeked st e new r here =
    refused_first PeeksCode (Here BeginFault) TakesNull (Here BeginFault) st e new no_memory (λ _ f. f) (none_taken st) (refused_here r here)
