-- Composites, which are described lists, in the measuring pass.
use Rattle.std.proofs.Common.{◌≡◌, ℕ, ◌<◌, ◌≤◌, List, [], ◌∷◌, length, refl, sym, ◌∙◌, ap, inl, inr, arith, Bool, true, false}
use Rattle.std.specs.Prelude.{Result, Ok, Err, OnOk, IfErr, eqb, if◌then◌else◌}
use Rattle.std.proofs.lemmas.Bool.{le-ltb, lt-ltb, ne_eqb}
use Rattle.amqp_model.specs.Term.{list, code}
use Rattle.amqp_model.specs.Text.{Alone, descriptor_text}
use Rattle.amqp_wire.specs.declared.error.Error.{Error}
use Rattle.amqp_wire.specs.declared.error.Error.TheVariants.{Memory, TooLarge}
use Rattle.amqp_encoder.specs.declared.size.Size.{Size}
use Rattle.amqp_encoder.specs.State.{Open, Measured, Measuring, Stopped}
use Rattle.amqp_encoder.specs.Tokens.{Token, begin, end, begin_described, end_described}
use Rattle.amqp_encoder.specs.Measuring.{◌>>=◌, opened, describe, describe_at, descriptor_bytes, closed, holds, end_list_in, end_composite_in}
use Rattle.amqp_encoder.specs.Measuring.{measure_begin, measure_end_described}
use Rattle.amqp_encoder.specs.Measuring.{measure_begin_described}
use Rattle.amqp_encoder.specs.Gives.{Does}
use Rattle.amqp_encoder.specs.Writes.{IsPlain, Passes, AnyMayRunOut, measure, measuring, outcome, step, steps}

-- two calls that take no memory

then_step : (x : Result Measured Error) (t : Token) → step (measuring x) t ≡ measuring (x >>= λ m. measure t m)
then_step (Ok m) t = refl
then_step (Err e) t = refl

measured_two : (m n : Measured) (s t : Token) (r : Result (Unit {0}) Error) → Does (measure s m >>= λ k. measure t k) r n
    → Passes (Measuring m) (s ∷ t ∷ []) r (Measuring n)
unfolding steps
measured_two m n s t (Ok u) h = record { answer = refl; state = inl (sym (then_step (measure s m) t ∙ ap measuring h)) }
measured_two m n s t (Err e) h = record { answer = refl; state = inl (sym (then_step (measure s m) t ∙ ap measuring h)) }

-- the end

sized_end : (t : Bool) (old : Measured) (d f : Open) (fs : List Open) (s : Size) → s ≡ record { content = old.frame.content; count = old.frame.count }
    → (((if t then Err TooLarge else Ok s) >>= closed list old d (f ∷ fs)) >>= measure_end_described)
    ≡ ((if t then Err TooLarge else Ok s) >>= end_list_in old.frame d (record { frame = f; outer = fs; sizes = old.sizes; descriptors = old.descriptors }))
sized_end true old d f fs s e = refl
sized_end false old d f fs s e = rw e refl

pub composite_ended : (old new : Measured) (d f : Open) (fs : List Open) (r : Result (Unit {0}) Error) → old.outer ≡ d ∷ f ∷ fs
    → holds old.frame.container list ≡ true → old.frame.index < length old.sizes
    → Does (end_composite_in old.frame d (record { frame = f; outer = fs; sizes = old.sizes; descriptors = old.descriptors })) r new
    → Passes (Measuring old) (end list ∷ end_described ∷ []) r (Measuring new)
composite_ended old new d f fs r o h k e =
    measured_two old new (end list) end_described r
    (rw (o, h, lt-ltb old.frame.index (length old.sizes) k, sized_end _ old d f fs _ refl) e)

-- the beginning

small_code : (c : ℕ) → 0 < c → c < 256 → length (descriptor_text Alone (code c)) ≡ 3
small_code c a b = let z : eqb c 0 ≡ false = ne_eqb c 0 (λ e. omega arith) in rw (z, lt-ltb c 256 b) refl

describes : (c : ℕ) (m : Measured) → IsPlain (Measuring m) → 0 < c → c < 256 → length m.outer ≤ 5
    → measure_begin_described (code c) m ≡ Ok (describe m 3 0 m.descriptors)
describes c m p a b o =
    rw (le-ltb 127 (length m.outer) (omega arith), p.1) (ap (λ q. describe_at q (descriptor_bytes (code c)) m) p.0
    ∙ ap (λ n. Ok (describe m n 0 m.descriptors)) (small_code c a b))

begins : (m : Measured) → IsPlain (Measuring m) → length m.outer ≤ 5
    → measure_begin list (describe m 3 0 m.descriptors) ≡ Ok (opened list (describe m 3 0 m.descriptors))
begins m p o = rw (p.0, le-ltb 127 (length (m.frame ∷ m.outer)) (omega arith)) refl

begun : (c : ℕ) (m : Measured) → IsPlain (Measuring m) → 0 < c → c < 256 → length m.outer ≤ 5
    → steps (Measuring m) (begin_described (code c) ∷ begin list ∷ []) ≡ Measuring (opened list (describe m 3 0 m.descriptors))
unfolding steps
begun c m p a b o = ap (λ r. step (measuring r) (begin list)) (describes c m p a b o) ∙ ap measuring (begins m p o)

may_run_out : (c : ℕ) (m : Measured) → IsPlain (Measuring m) → 0 < c → c < 256 → length m.outer ≤ 5
    → AnyMayRunOut (Measuring m) (begin_described (code c) ∷ begin list ∷ [])
unfolding AnyMayRunOut
may_run_out c m p a b o =
    inr (inl (rw (describes c m p a b o) (tt, ap (λ r. outcome (measuring r)) (begins m p o))))

pub composite_begun : (c : ℕ) (old new : Measured) (r : Result (Unit {0}) Error) → IsPlain (Measuring old) → 0 < c → c < 256
    → length old.outer ≤ 5 → OnOk r (new ≡ opened list (describe old 3 0 old.descriptors)) → IfErr r (λ e. e ≡ Memory)
    → Passes (Measuring old) (begin_described (code c) ∷ begin list ∷ []) r (Measuring new)
composite_begun c old new (Ok u) p a b o n e = record { answer = refl; state = inl (ap Measuring n ∙ sym (begun c old p a b o)) }
composite_begun c old new (Err x) p a b o n e =
    record { answer = refl; state = inr (may_run_out c old p a b o, ap Stopped e) }
