-- A call that is placed answers as it did, and refuses where it began.
use Rattle.std.proofs.Common.{◌≡◌, ◌⊎◌, inl, inr, refl, sym, ap, ◌∙◌, subst, ℕ, ◌+◌, ◌%◌, ◌^◌, Bool, length, Some, Result, Ok, Err, IfOk, IfErr}
use Rattle.amqp_wire.specs.declared.error.Error.{Error}
use Rattle.amqp_decoder.specs.State.{Course, State, IsPlaceOf, refused_at}
use Rattle.amqp_decoder.specs.Steps.{Answers, IsExcused, RefusesSize, Stops, Goes, Tries}
use Rattle.amqp_decoder.specs.Reading.{RefusesRead, AnswersRead}
use Rattle.amqp_decoder.specs.Primitives.{AnswersFault}
use Rattle.amqp_decoder.specs.Described.{MissesDescriptor}
use Rattle.amqp_decoder.specs.Places.{Starts, placed, StandsHere, Located, Here, StandsBefore, IsPlaced, StopsAt, RefusesAt, AnswersAt}
use Rattle.amqp_decoder.proofs.Steps.{answered_later}

-- a decoder that had refused stays as it was
unmoved : (old mid : State) (place : ℕ) → old.source.fault ≡ place → mid ≡ old
    → record mid { source = record mid.source { fault = place } } ≡ old
unmoved old mid place kept same =
    subst (λ z. record z { source = record z.source { fault = place } } ≡ old) (sym same)
    (ap (λ p. record old { source = record old.source { fault = p } }) (sym kept))

again_placed : (old mid : State) (place : ℕ) (e : Error) → Starts place old
    → ((d : Error) → old.error ≡ Some d → (d ≡ e) × (mid ≡ old))
    → (d : Error) → old.error ≡ Some d → (d ≡ e) × (placed {A = Error} place (Err e) mid ≡ old)
again_placed old mid place e s h d x = ((h d x).0, unmoved old mid place (s.kept d x) (h d x).1)

pub placed_read : {A : Type 0} (takes : Bool) (reads : State → A → State → Type 0) (fault : State → Error → Type 0) (old mid : State)
    (place : ℕ) (r : Result A Error) → Starts place old → AnswersRead takes reads fault old r mid
    → AnswersRead takes reads fault old r (placed place r mid)
placed_read takes reads fault old mid place (Ok v) s h = h
placed_read takes reads fault old mid place (Err e) s h = record {
  kept = record { error = h.kept.error; source = h.kept.source };
  again = again_placed old mid place e s h.again;
  named = h.named;
  none = h.none;
}

pub placed_tries : {A : Type 0} (takes : Bool) (old mid : State) (place : ℕ) (r : Result A Error) → Starts place old
    → Tries takes old r mid → Tries takes old r (placed place r mid)
placed_tries takes old mid place (Ok v) s h = h
placed_tries takes old mid place (Err e) s h = (again_placed old mid place e s h.0, h.1)

pub placed_here : {A : Type 0} (old mid : State) (place : ℕ) (r : Result A Error) → Starts place old
    → IfErr r (λ _. StandsHere old (placed place r mid))
placed_here old mid place (Ok v) s = tt
placed_here old mid place (Err e) s = s.here

pub placed_ok : {A : Type 0} (P : A → State → Type 0) (mid : State) (place : ℕ) (r : Result A Error) → IfOk r (λ v. P v mid)
    → IfOk r (λ v. P v (placed place r mid))
placed_ok P mid place (Ok v) h = h
placed_ok P mid place (Err e) h = tt

pub placed_fault : {A : Type 0} (takes : Bool) (fault : State → Error → Type 0) (old mid : State) (place : ℕ) (r : Result A Error)
    → Starts place old → IfErr r (λ e. AnswersFault takes fault old e mid) → IfErr r (λ e. AnswersFault takes fault old e (placed place r mid))
placed_fault takes fault old mid place (Ok v) s h = tt
placed_fault takes fault old mid place (Err e) s h = record {
  kept = record { error = h.kept.error; source = h.kept.source };
  again = again_placed old mid place e s h.again;
  named = h.named;
}

pub placed_goes : {A : Type 0} (takes : Bool) (old mid : State) (place : ℕ) (r : Result A Error) → Goes takes old r mid
    → Goes takes old r (placed place r mid)
placed_goes takes old mid place (Ok v) h = h
placed_goes takes old mid place (Err e) h = h

pub placed_stops : {A : Type 0} (takes : Bool) (fault : Error → Type 0) (old mid : State) (place : ℕ) (r : Result A Error)
    → IfErr r (λ e. Stops takes fault old e mid) → IfErr r (λ e. Stops takes fault old e (placed place r mid))
placed_stops takes fault old mid place (Ok v) h = tt
placed_stops takes fault old mid place (Err e) h = record {
  kept = record { error = h.kept.error; source = h.kept.source };
  why = h.why;
}

pub placed_missed : {A : Type 0} (takes : Bool) (old mid : State) (place : ℕ) (r : Result A Error)
    → IfErr r (λ e. MissesDescriptor takes old e mid) → IfErr r (λ e. MissesDescriptor takes old e (placed place r mid))
placed_missed takes old mid place (Ok v) h = tt
placed_missed takes old mid place (Err e) h = record {
  kept = record { error = h.kept.error; source = h.kept.source };
  why = h.why;
}

-- a call to a decoder that hadn't refused
pub placed_there : {A : Type 0} (old mid : State) (place : ℕ) (r : Result A Error) → IsPlaceOf place old
    → IfErr r (λ _. IsPlaceOf (placed place r mid).source.fault old)
placed_there old mid place (Ok v) h = tt
placed_there old mid place (Err e) h = h

pub moved_answer : (old mid : State) (e : Error) (place : ℕ) → Answers old e mid
    → Answers old e (record mid { source = record mid.source { fault = place } })
moved_answer old mid e place a = record { error = a.error; source = a.source }

pub moved_size : (own : ℕ) (old mid : State) (e : Error) (place : ℕ) → RefusesSize own old e mid
    → RefusesSize own old e (record mid { source = record mid.source { fault = place } })
moved_size own old mid e place h = record { kept = moved_answer old mid e place h.kept; why = h.why }

-- an error that a decoder keeps, wherever it stands
pub placed_refusal : {A : Type 0} (why : Type 0) (named : Error → Type 0) (d : Error) (old mid : State) (place : ℕ) (r : Result A Error)
    → IfErr r (λ e. why × named e × (mid ≡ refused_at d mid.source.fault old))
    → IfErr r (λ e. why × named e × (placed place r mid ≡ refused_at d (placed place r mid).source.fault old))
placed_refusal why named d old mid place (Ok v) h = tt
placed_refusal why named d old mid place (Err e) h =
    (h.0, h.1, ap (λ (z : State). record z { source = record z.source { fault = place } }) h.2)

-- where a call was asked to refuse
pub placed_at : {A : Type 0} (mid : State) (place : ℕ) (r : Result A Error) → IfErr r (λ _. (placed place r mid).source.fault ≡ place)
placed_at mid place (Ok v) = tt
placed_at mid place (Err e) = refl

-- it stands before as many bytes of the input of a call that came earlier
pub before_later : (st m : State) (left : ℕ) (new : State) → m.failed ≡ st.failed → StandsBefore left m new → StandsBefore left st new
before_later st m left new same h = h ∙ ap (λ (f : Course). f.size) same

pub before_at : (st : State) (left place : ℕ) (new : State) → new.source.fault ≡ place → (place + left) % 2 ^ 64 ≡ st.failed.size
    → StandsBefore left st new
before_at st left place new is h = ap (λ p. (p + left) % 2 ^ 64) is ∙ h

pub placed_later : {f g : Located → Type 0} (st m : State) {e : Error} (new : State) → m.failed ≡ st.failed → ((x : Located) → f x → g x)
    → IsPlaced f m e new → IsPlaced g st e new
placed_later st m new same via (left, h, p) = (left, via _ h, before_later st m left new same p)

pub either_placed : {f g : Located → Type 0} {takes : Bool} (st m : State) {e : Error} (new : State) → m.failed ≡ st.failed
    → ((x : Located) → f x → g x) → IsExcused takes e new ⊎ IsPlaced f m e new → IsExcused takes e new ⊎ IsPlaced g st e new
either_placed st m new same via (inl x) = inl x
either_placed st m new same via (inr x) = inr (placed_later st m new same via x)

pub stops_later : {f g : Located → Type 0} {takes : Bool} {st m : State} {e : Error} {new : State} → m.failed ≡ st.failed
    → ((x : Located) → f x → g x) → StopsAt takes f m e new → StopsAt takes g st e new
stops_later {st = st} {m = m} {new = new} same via s =
    record { kept = answered_later same s.kept; why = either_placed st m new same via s.why }

pub stops_as : {f g : Located → Type 0} {takes : Bool} {st : State} {e : Error} {new : State} → ((x : Located) → f x → g x)
    → StopsAt takes f st e new → StopsAt takes g st e new
stops_as {st = st} via s = stops_later {st = st} {m = st} refl via s

-- what stands here
pub placed_fault_here : {takes : Bool} (fault : State → Error → Type 0) (st : State) {e : Error} (new : State)
    → IsPlaceOf new.source.fault st → IsExcused takes e new ⊎ fault st e → IsExcused takes e new ⊎ IsPlaced (Here fault st) st e new
placed_fault_here fault st new p (inl x) = inl x
placed_fault_here fault st new p (inr x) = inr (length st.rest, (x, refl), p)

pub stops_here : {takes : Bool} (fault : State → Error → Type 0) {st : State} {e : Error} {new : State} → Stops takes (fault st) st e new
    → IsPlaceOf new.source.fault st → StopsAt takes (Here fault st) st e new
stops_here fault {st = st} {new = new} s p = record { kept = s.kept; why = placed_fault_here fault st new p s.why }

pub stops_unplaced : {takes : Bool} (fault : State → Error → Type 0) {st : State} {e : Error} {new : State}
    → StopsAt takes (Here fault st) st e new → Stops takes (fault st) st e new
stops_unplaced fault s = record { kept = s.kept; why = elim s.why [ inl x ↦ inl x | inr (left, (x, is), p) ↦ inr x ] }

-- what is read is answered as it was, and at its place
pub refused_here : {A : Type 0} {takes : Bool} {reads : State → A → State → Type 0} {fault : State → Error → Type 0} {old : State}
    {e : Error} {new : State} → RefusesRead takes reads fault old e new → StandsHere old new → RefusesAt takes reads (Here fault) old e new
refused_here {fault = fault} {old = old} {new = new} r here = record {
  kept = r.kept;
  again = r.again;
  named = λ going. placed_fault_here fault old new (here going) (r.named going);
  none = r.none;
}

pub answered_here : {A : Type 0} (takes : Bool) (reads : State → A → State → Type 0) (fault : State → Error → Type 0) (old : State)
    (r : Result A Error) (new : State) → AnswersRead takes reads fault old r new → IfErr r (λ _. StandsHere old new)
    → AnswersAt takes reads (Here fault) old r new
answered_here takes reads fault old (Ok v) new h here = h
answered_here takes reads fault old (Err e) new h here = refused_here h here

pub placed_stops_here : {A : Type 0} (takes : Bool) (fault : State → Error → Type 0) (old mid : State) (place : ℕ) (r : Result A Error)
    → IfErr r (λ e. Stops takes (fault old) old e mid) → IsPlaceOf place old
    → IfErr r (λ e. StopsAt takes (Here fault old) old e (placed place r mid))
placed_stops_here takes fault old mid place (Ok v) h at = tt
placed_stops_here {A = A} takes fault old mid place (Err e) h at =
    stops_here fault (placed_stops {A = A} takes (fault old) old mid place (Err e) h) at
