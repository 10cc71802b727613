-- Calls in a row.
use Rattle.std.proofs.Common.{append_assoc, ℕ, ◌≡◌, List, [], ◌∷◌, ◌++◌, refl, sym, ◌∙◌, ap, inl, inr, ◌⊎◌}
use Rattle.std.specs.Prelude.{Result, Ok, Err}
use Rattle.std.proofs.lemmas.List.{append-nil}
use Rattle.amqp_wire.specs.declared.error.Error.{Error}
use Rattle.amqp_wire.specs.declared.error.Error.TheVariants.{Memory}
use Rattle.amqp_encoder.specs.Tokens.{Token}
use Rattle.amqp_encoder.specs.State.{Measured, Filled}
use Rattle.amqp_encoder.specs.Writes.{Fills, step, steps, measure, measuring, fill, filling, outcome, Runs, Writes, Follows, MayRunOut, AnyMayRunOut}
use Rattle.amqp_encoder.specs.Writes.{RunsOut, IsGoing, pass_of, bytes_of}
use Rattle.amqp_encoder.specs.State.{Encoder}
use Rattle.amqp_encoder.specs.State.{Pass, Measuring, Filling, Stopped}

pub steps-append : (s : Pass) (xs ys : List Token) → steps s (xs ++ ys) ≡ steps (steps s xs) ys
unfolding steps
steps-append s [] ys = refl
steps-append s (x ∷ xs) ys = steps-append (step s x) xs ys

-- an encoder that has refused stays so
pub steps_stopped : (e : Error) (ts : List Token) → steps (Stopped e) ts ≡ Stopped e
unfolding steps
steps_stopped e [] = refl
steps_stopped e (t ∷ ts) = steps_stopped e ts

-- it went on before
pub going_before : (s : Pass) (ts : List Token) → IsGoing (steps s ts) → IsGoing s
going_before (Measuring m) ts h = refl
going_before (Filling f) ts h = refl
going_before (Stopped e) ts h = ap outcome (sym (steps_stopped e ts)) ∙ h

-- it doesn't measure
abbrev Measures : Pass → Type 0
Measures (Measuring m) = Unit {0}
Measures _ = ⊥

measures_no_more : (s : Pass) (t : Token) → (Measures s → ⊥) → Measures (step s t) → ⊥
measures_no_more (Measuring m) t n = absurd (n tt)
measures_no_more (Filling f) t n = filled (fill t f) where
  filled : (r : Result Filled Error) → Measures (filling r) → ⊥
  filled (Ok g) h = h
  filled (Err e) h = h
measures_no_more (Stopped e) t n = n

measures_now : (s : Pass) (t : Token) → MayRunOut s t → Measures s
measures_now (Measuring m) t h = tt
measures_now (Filling f) t h = h
measures_now (Stopped e) t h = h

only_measuring : (s : Pass) (ts : List Token) → (Measures s → ⊥) → AnyMayRunOut s ts → ⊥
unfolding AnyMayRunOut
only_measuring s [] n h = h
only_measuring s (t ∷ ts) n (inl h) = n (measures_now s t h)
only_measuring s (t ∷ ts) n (inr h) = only_measuring (step s t) ts (measures_no_more s t n) h

-- no call makes it fill
fills_before : (s : Pass) (t : Token) → Fills (step s t) → Fills s
fills_before (Measuring m) t h = measured (measure t m) h where
  measured : (r : Result Measured Error) → Fills (measuring r) → ⊥
  measured (Ok n) h = h
  measured (Err e) h = h
fills_before (Filling f) t h = tt
fills_before (Stopped e) t h = h

filled_before : (s : Pass) (ts : List Token) → Fills (steps s ts) → Fills s
unfolding steps
filled_before s [] h = h
filled_before s (t ∷ ts) h = fills_before s t (filled_before (step s t) ts h)

pub fills_from : (a : Encoder) (ts : List Token) (r : Result (Unit {0}) Error) (b : Encoder) → Writes a ts r b → Fills (pass_of b)
    → Fills (pass_of a)
fills_from a ts r b w h =
    elim w.runs.state [ inl e ↦ filled_before (pass_of a) ts (rw e at h) | inr o ↦ absurd (rw o.1 at h) ]

-- a filling pass takes no memory
pub filling_never : (f : Filled) (ts : List Token) → AnyMayRunOut (Filling f) ts → ⊥
filling_never f ts h = only_measuring (Filling f) ts (λ n. n) h

pub stopped_of : (s : Pass) (e : Error) → Err e ≡ outcome s → s ≡ Stopped e
stopped_of (Measuring m) e h = cc
stopped_of (Filling f) e h = cc
stopped_of (Stopped d) e h = let i : d ≡ e = cc in ap Stopped i

nothing_runs : (s : Pass) → (r : Result (Unit {0}) Error) → r ≡ outcome s → Runs s [] r s
unfolding steps
nothing_runs s r h = record { answer = h; state = inl refl }

-- memory may run out at one of the first calls, or at one behind them
first_may : (s : Pass) (xs ys : List Token) → AnyMayRunOut s xs → AnyMayRunOut s (xs ++ ys)
unfolding AnyMayRunOut
first_may s [] ys h = absurd h
first_may s (x ∷ xs) ys (inl h) = inl h
first_may s (x ∷ xs) ys (inr h) = inr (first_may (step s x) xs ys h)

later_may : (s : Pass) (xs ys : List Token) → AnyMayRunOut (steps s xs) ys → AnyMayRunOut s (xs ++ ys)
unfolding AnyMayRunOut steps
later_may s [] ys h = h
later_may s (x ∷ xs) ys h = inr (later_may (step s x) xs ys h)

joined_state : (a b c : Pass) (xs ys : List Token) → IsGoing b → (b ≡ steps a xs) ⊎ RunsOut a xs b → (c ≡ steps b ys) ⊎ RunsOut b ys c
    → (c ≡ steps a (xs ++ ys)) ⊎ RunsOut a (xs ++ ys) c
joined_state a b c xs ys g (inl h) (inl k) = inl (rw (steps-append, ← h) k)
joined_state a b c xs ys g (inl h) (inr k) = inr (later_may a xs ys (rw h at k.0), k.1)
joined_state a b c xs ys g (inr h) k = let e : Err Memory ≡ Ok tt = sym (ap outcome h.1) ∙ g in cc

pub join_runs : (a : Pass) (xs : List Token) (r : Result (Unit {0}) Error) (b : Pass) (ys : List Token)
    (s : Result (Unit {0}) Error) (c : Pass) →
    r ≡ Ok tt → Runs a xs r b → Runs b ys s c → Runs a (xs ++ ys) s c
join_runs a xs r b ys s c ok h k = record {
  answer = k.answer;
  state = joined_state a b c xs ys (sym h.answer ∙ ok) h.state k.state;
}

cut_state : (a b : Pass) (e : Error) (xs ys : List Token) → b ≡ Stopped e → (b ≡ steps a xs) ⊎ RunsOut a xs b
    → (b ≡ steps a (xs ++ ys)) ⊎ RunsOut a (xs ++ ys) b
cut_state a b e xs ys i (inl h) = inl (rw (steps-append, ← h, i) (sym (steps_stopped e ys)))
cut_state a b e xs ys i (inr h) = inr (first_may a xs ys h.0, h.1)

pub cut_runs : (a : Pass) (xs : List Token) (r : Result (Unit {0}) Error) (b : Pass) (ys : List Token)
    (s : Result (Unit {0}) Error) (e y : Error) →
    r ≡ Err e → s ≡ Err y → y ≡ e → Runs a xs r b → Runs a (xs ++ ys) s b
cut_runs a xs r b ys s e y i j k h = record {
  answer = j ∙ (ap Err k ∙ (sym i ∙ h.answer));
  state = cut_state a b e xs ys (stopped_of b e (sym i ∙ h.answer)) h.state;
}

-- what has refused takes no memory
pub only_stopped : (s : Pass) (e : Error) (ts : List Token) → s ≡ Stopped e → AnyMayRunOut s ts → ⊥
only_stopped s e ts i h = only_measuring s ts (rw i (λ m. m)) h

-- the calls behind a refusal leave it
pub cut_runs_to : (a : Pass) (xs : List Token) (r : Result (Unit {0}) Error) (b : Pass) (ys : List Token) (c : Pass) (e : Error) →
    r ≡ Err e → c ≡ Stopped e → Runs a xs r b → Runs a (xs ++ ys) (outcome c) c
cut_runs_to a xs r b ys c e i j h =
    let k : b ≡ Stopped e = stopped_of b e (sym i ∙ h.answer) in
    record { answer = refl; state = rw (j, ← k) (cut_state a b e xs ys k h.state) }

pub stays : (a : List ℕ) → Follows a a
stays a = ([], sym (append-nil a))

pub on : (a b c : List ℕ) → Follows a b → Follows b c → Follows a c
on a b c h k = (h.0 ++ k.0, rw (k.1, h.1) (append_assoc a h.0 k.0))

-- no call
pub nothing : (s : Encoder) → (r : Result (Unit {0}) Error) → r ≡ outcome (pass_of s) → Writes s [] r s
nothing s r h = record { runs = nothing_runs (pass_of s) r h; kept = stays (bytes_of s) }

-- one after another
pub join : (a : Encoder) (xs : List Token) (r : Result (Unit {0}) Error) (b : Encoder) (ys : List Token)
    (s : Result (Unit {0}) Error) (c : Encoder) →
    r ≡ Ok tt → Writes a xs r b → Writes b ys s c → Writes a (xs ++ ys) s c
join a xs r b ys s c ok h k =
    record {
      runs = join_runs (pass_of a) xs r (pass_of b) ys s (pass_of c) ok h.runs k.runs;
      kept = on (bytes_of a) (bytes_of b) (bytes_of c) h.kept k.kept;
    }

going_then : (a b : Pass) (ts : List Token) → IsGoing b → (b ≡ steps a ts) ⊎ RunsOut a ts b → IsGoing a
going_then a b ts g (inl h) = going_before a ts (rw h at g)
going_then a b ts g (inr h) = let e : Err Memory ≡ Ok tt = sym (ap outcome h.1) ∙ g in cc

-- calls are answered Ok by an encoder that has refused nothing
pub was_going : (a : Encoder) (ts : List Token) (r : Result (Unit {0}) Error) (b : Encoder) → r ≡ Ok tt → Writes a ts r b
    → IsGoing (pass_of a)
was_going a ts r b ok w = going_then (pass_of a) (pass_of b) ts (sym w.runs.answer ∙ ok) w.runs.state

-- after a refusal nothing more is written
pub cut : (a : Encoder) (xs : List Token) (r : Result (Unit {0}) Error) (b : Encoder) (ys : List Token)
    (s : Result (Unit {0}) Error) (e y : Error) →
    r ≡ Err e → s ≡ Err y → y ≡ e → Writes a xs r b → Writes a (xs ++ ys) s b
cut a xs r b ys s e y i j k h = record { runs = cut_runs (pass_of a) xs r (pass_of b) ys s e y i j k h.runs; kept = h.kept }
