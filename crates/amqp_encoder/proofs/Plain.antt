-- Values that are by themselves.
use Rattle.std.proofs.Common.{◌≡◌, ℕ, zero, suc, ◌+◌, ◌≤◌, List, [], ◌∷◌, length, refl, sym, ◌∙◌, ap, inl, arith, Bool, true, false}
use Rattle.std.specs.Prelude.{Ok}
use Rattle.std.specs.Bool.{OnTrue}
use Rattle.std.proofs.lemmas.Bool.{le-ltb}
use Rattle.amqp_model.specs.Term.{Primitive, null}
use Rattle.amqp_model.specs.Text.{wide, primitive_text}
use Rattle.amqp_encoder.specs.declared.places.Shortest.{Shortest}
use Rattle.amqp_encoder.specs.Tokens.{put, nulls}
use Rattle.amqp_encoder.specs.State.{Measured, Measuring}
use Rattle.amqp_encoder.specs.Values.{shortest_text}
use Rattle.amqp_encoder.specs.Measuring.{MAX, counted, measure_value, measure_null_at, measure_put}
use Rattle.amqp_encoder.specs.Spelled.{IsFixed}
use Rattle.amqp_encoder.specs.Writes.{IsPlain, Passes, measuring, steps}
use Rattle.amqp_encoder.proofs.Settled.{measured}

-- one value of n bytes
plain_value : (m : Measured) (c n : ℕ) → IsPlain (Measuring m) → m.frame.content + n ≤ MAX → m.frame.count + 1 ≤ MAX
    → measure_value c n m ≡ Ok (counted n 1 m)
plain_value m c n p h k = rw (p.1, p.0, le-ltb MAX (m.frame.content + n) h, le-ltb MAX (m.frame.count + 1) k) refl

pub one_put : (b : Bool) (old new : Measured) (s : Shortest) (w : List ℕ) (n : ℕ) → IsPlain (Measuring old)
    → ((bytes : List ℕ) → length bytes ≡ length w → length (shortest_text s bytes) ≡ n)
    → OnTrue b (new ≡ counted n 1 old) → OnTrue b (old.frame.content + n ≤ MAX) → OnTrue b (old.frame.count + 1 ≤ MAX)
    → OnTrue b ((p : Primitive) → IsFixed p s w → Passes (Measuring old) (put p ∷ []) (Ok tt) (Measuring new))
one_put false old new s w n p l e h k = tt
one_put true old new s w n p l e h k = λ q f.
    let text : primitive_text old.frame.place q ≡ shortest_text s w = ap (λ a. primitive_text a q) p.0 ∙ f.alone in
    measured old new (Ok tt) (put q)
    (f.measured old ∙ (ap (λ t. measure_value (wide q).0 (length t) old) text
    ∙ (ap (λ i. measure_value (wide q).0 i old) (l w refl) ∙ (plain_value old (wide q).0 n p h k ∙ ap Ok (sym e)))))

-- n nulls

counted_none : (m : Measured) → m ≡ counted 0 0 m
counted_none m =
    let c : m.frame.content + 0 ≡ m.frame.content = omega arith in
    let k : m.frame.count + 0 ≡ m.frame.count = omega arith in
    rw (c, k) refl

counted_more : (m : Measured) (n : ℕ) → counted n n (counted 1 1 m) ≡ counted (suc n) (suc n) m
counted_more m n =
    let c : (m.frame.content + 1) + n ≡ m.frame.content + suc n = omega arith in
    let k : (m.frame.count + 1) + n ≡ m.frame.count + suc n = omega arith in
    rw (c, k) refl

null_put : (m : Measured) → IsPlain (Measuring m) → m.frame.content + 1 ≤ MAX → m.frame.count + 1 ≤ MAX
    → measure_put null m ≡ Ok (counted 1 1 m)
null_put m p h k = ap (λ a. measure_null_at a m) p.0 ∙ plain_value m 0x40 1 p h k

counted_nulls : (n : ℕ) (m : Measured) → IsPlain (Measuring m) → m.frame.content + n ≤ MAX → m.frame.count + n ≤ MAX
    → steps (Measuring m) (nulls n) ≡ Measuring (counted n n m)
unfolding steps
counted_nulls zero m p h k = ap Measuring (counted_none m)
counted_nulls (suc n) m p h k =
    ap (λ r. steps (measuring r) (nulls n)) (null_put m p (omega arith) (omega arith))
    ∙ (counted_nulls n (counted 1 1 m) p (omega arith) (omega arith) ∙ ap Measuring (counted_more m n))

pub nulls_put : (b : Bool) (old new : Measured) (n : ℕ) → IsPlain (Measuring old) → OnTrue b (new ≡ counted n n old)
    → OnTrue b (old.frame.content + n ≤ MAX) → OnTrue b (old.frame.count + n ≤ MAX)
    → OnTrue b (Passes (Measuring old) (nulls n) (Ok tt) (Measuring new))
nulls_put false old new n p e h k = tt
nulls_put true old new n p e h k =
    record { answer = refl; state = inl (ap Measuring e ∙ sym (counted_nulls n old p h k)) }
