-- What an encoder's call does, from what its pass did.
use Rattle.std.proofs.Common.{◌≡◌, ℕ, zero, suc, ◌+◌, add-one, List, [], ◌∷◌, ◌++◌, length, take, drop, refl, sym, ◌∙◌, ap, inl, inr}
use Rattle.std.specs.Prelude.{Result, Ok, Err, IsOk}
use Rattle.std.proofs.lemmas.List.{take-append-drop}
use Rattle.amqp_model.specs.Term.{null}
use Rattle.amqp_wire.specs.declared.error.Error.{Error}
use Rattle.amqp_encoder.specs.declared.encoder.Standing.{Standing}
use Rattle.amqp_encoder.specs.declared.encoder.Standing.TheVariants as standing
use Rattle.amqp_encoder.specs.Tokens.{Token, put, nulls, refuse, TakesMemory}
use Rattle.amqp_encoder.specs.State.{Measured, Filled, Pass, Measuring, Filling, Stopped, Encoder}
use Rattle.amqp_encoder.specs.Gives.{Gives, Does}
use Rattle.amqp_encoder.specs.Writes.{measure, fill, steps, measuring, filling, IsGoing, AnyMayRunOut, Runs, Writes, Follows}
use Rattle.amqp_encoder.specs.Writes.{Passes, settled, pass_of, bytes_of, bytes_in}
use Rattle.amqp_encoder.specs.Standings.{pass_under, encoder_of}
use Rattle.amqp_encoder.specs.Passes.{answer_of}
use Rattle.amqp_encoder.proofs.Joined.{join_runs, cut_runs, cut_runs_to, stopped_of, only_stopped, steps_stopped, stays, join, on}

-- one call of a pass

going : (r : Result Measured Error) → IsOk r → IsGoing (measuring r)
going (Ok m) h = refl
going (Err e) h = cc

pub measured : (m n : Measured) (r : Result (Unit {0}) Error) (t : Token) → Gives (TakesMemory m.frame.place t) (measure t m) r n
    → Passes (Measuring m) (t ∷ []) r (Measuring n)
unfolding steps AnyMayRunOut
measured m n (Ok u) t h = record { answer = refl; state = inl (sym (ap measuring h)) }
measured m n (Err e) t (inl h) = record { answer = refl; state = inl (sym (ap measuring h)) }
measured m n (Err e) t (inr h) = record { answer = refl; state = inr (inl (h.1, going (measure t m) h.2), ap Stopped h.0) }

pub filled : (f g : Filled) (r : Result (Unit {0}) Error) (t : Token) → Does (fill t f) r g
    → Passes (Filling f) (t ∷ []) r (Filling g)
unfolding steps
filled f g (Ok u) t h = record { answer = refl; state = inl (sym (ap filling h)) }
filled f g (Err e) t h = record { answer = refl; state = inl (sym (ap filling h)) }

-- a call that takes no memory is one that might
pub at_most : {X : Type 0} (takes : Type 0) (r : Result X Error) (o : Result (Unit {0}) Error) (new : X)
    → Does r o new → Gives takes r o new
at_most takes r (Ok u) new h = h
at_most takes r (Err e) new h = inl h

pub measured_only : (m n : Measured) (r : Result (Unit {0}) Error) (t : Token) → Does (measure t m) r n
    → Passes (Measuring m) (t ∷ []) r (Measuring n)
measured_only m n r t h = measured m n r t (at_most (TakesMemory m.frame.place t) (measure t m) r n h)

-- the same call by another name
pub instead : {X : Type 0} (r s : Result X Error) (o : Result (Unit {0}) Error) (new : X) → r ≡ s → Does r o new → Does s o new
instead r s o new e h = rw (← e) h

-- calls of a pass in a row

pub passes_on : (a b c : Pass) (xs ys : List Token) (r : Result (Unit {0}) Error) → Passes a xs (Ok tt) b → Passes b ys r c
    → Passes a (xs ++ ys) r c
passes_on a b c xs ys r h k = join_runs a xs (Ok tt) b ys r (settled r c) refl h k

pub passes_no_more : (a b : Pass) (xs ys : List Token) (e : Error) → Passes a xs (Err e) b → Passes a (xs ++ ys) (Err e) b
passes_no_more a b xs ys e h = cut_runs a xs (Err e) (Stopped e) ys (Err e) e e refl refl refl h

pub from_take : (a b : List ℕ) → take (length a) b ≡ a → Follows a b
from_take a b h = (drop (length a) b, sym (rw h at (take-append-drop (length a) b)))

-- one call of an encoder

-- what is seen of an encoder that has refused nothing
pub going_pass : (k : Standing) (e : Error) (s : Pass) → IsGoing (pass_under k e s) → pass_under k e s ≡ s
going_pass standing.Plain e s h = refl
going_pass standing.Going e s h = refl
going_pass standing.Refused e s h = cc

settled_buffer : (r : Result (Unit {0}) Error) (s : Pass) (out : List ℕ) → bytes_in s out ≡ out → bytes_in (settled r s) out ≡ out
settled_buffer (Ok u) s out h = h
settled_buffer (Err e) s out h = refl

under_buffer : (k : Standing) (e : Error) (s : Pass) (out : List ℕ) → bytes_in s out ≡ out → bytes_in (pass_under k e s) out ≡ out
under_buffer standing.Plain e s out h = h
under_buffer standing.Going e s out h = h
under_buffer standing.Refused e s out h = refl

refused : (s : Pass) (e : Error) → IsGoing s → Stopped e ≡ steps s (refuse e ∷ [])
unfolding steps
refused (Measuring m) e h = refl
refused (Filling f) e h = refl
refused (Stopped d) e h = cc

pub refuses : (old new : Encoder) (e : Error) → IsGoing (pass_of old) → new ≡ record { pass = Stopped e; buffer = old.buffer }
    → bytes_of new ≡ bytes_of old → Writes old (refuse e ∷ []) (Err e) new
refuses old new e g n b = record {
  runs = rw n (record { answer = refl; state = inl (refused (pass_of old) e g) });
  kept = rw b (stays (bytes_of old));
}

-- The encoder stood so before the call, and was left so by it.
pub writes : (old new : Encoder) (k : Standing) (e : Error) (s t : Pass) (before after : List ℕ) (ts : List Token)
    (r : Result (Unit {0}) Error) → encoder_of k e s before ≡ old → IsGoing (pass_of old) → Passes s ts r t → Follows before after
    → bytes_in s before ≡ before → bytes_in t after ≡ after → new ≡ record { pass = settled r t; buffer = after }
    → Writes old ts (answer_of new) new
writes old new k e s t before after ts r i g p f b c n =
    let same : pass_of old ≡ s = (ap pass_of (sym i) ∙ going_pass k e s (rw (← i) at g)) in
    let out : bytes_of old ≡ before = (ap bytes_of (sym i) ∙ under_buffer k e s before b) in
    rw n (record {
      runs = rw same (record { answer = refl; state = p.state });
      kept = rw (out, settled_buffer r t after c) f;
    })

-- One that had refused stays as it is.
pub refused_before : (s : Encoder) (e : Error) (ts : List Token) → pass_of s ≡ Stopped e → Writes s ts (answer_of s) s
refused_before s e ts i = record {
  runs = record { answer = refl; state = inl (rw i (sym (steps_stopped e ts))) };
  kept = stays (bytes_of s);
}

-- calls in a row, whatever the first ones were answered

still_stopped : (s c : Pass) (e : Error) (ts : List Token) (r : Result (Unit {0}) Error) → s ≡ Stopped e → Runs s ts r c → c ≡ Stopped e
still_stopped s c e ts r i w = elim w.state [
  | inl h ↦ h ∙ (ap (λ p. steps p ts) i ∙ steps_stopped e ts)
  | inr h ↦ absurd (only_stopped s e ts i h.0)
]

pub after : (a b c : Encoder) (xs ys : List Token) → Writes a xs (answer_of b) b → Writes b ys (answer_of c) c
    → Writes a (xs ++ ys) (answer_of c) c
after a b c xs ys h k = by_answer (answer_of b) refl where
  by_answer : (r : Result (Unit {0}) Error) → answer_of b ≡ r → Writes a (xs ++ ys) (answer_of c) c
  by_answer (Ok u) i = join a xs (answer_of b) b ys (answer_of c) c i h k
  by_answer (Err e) i =
      let s : pass_of c ≡ Stopped e = still_stopped (pass_of b) (pass_of c) e ys (answer_of c) (stopped_of (pass_of b) e (sym i)) k.runs in
      record {
        runs = cut_runs_to (pass_of a) xs (answer_of b) (pass_of b) ys (pass_of c) e i s h.runs;
        kept = on (bytes_of a) (bytes_of b) (bytes_of c) h.kept k.kept;
      }

-- so many nulls, and one more

one_more : (n : ℕ) → nulls (suc n) ≡ nulls n ++ nulls 1
one_more zero = refl
one_more (suc n) = ap (λ ts. put null ∷ ts) (one_more n)

-- One more call, whatever the calls before it were answered.
pub one_null_more : (a b c : Encoder) (n : ℕ) → Writes a (nulls n) (answer_of b) b → Writes b (nulls 1) (answer_of c) c
    → Writes a (nulls (n + 1)) (answer_of c) c
one_null_more a b c n h k = rw (add-one n, one_more n) (after a b c (nulls n) (nulls 1) h k)
