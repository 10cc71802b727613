-- Terms that are written one after another, and terms that hold others.
use Rattle.std.proofs.Common.{◌≡◌, ℕ, zero, suc, List, [], ◌∷◌, ◌++◌, replicate, append_assoc, refl, sym, ap, ◌∙◌, ◌⊎◌, inl, inr}
use Rattle.std.specs.Prelude.{Result, Ok, Err}
use Rattle.std.proofs.lemmas.List.{append-nil}
use Rattle.std.proofs.lemmas.Grind.{flat_map-append}
use Rattle.amqp_model.specs.Term.{null, Container, Term, Refusal, leaf, container, described, Descriptor}
use Rattle.amqp_model.specs.Items.{terms_of}
use Rattle.amqp_model.specs.Refusals.{SomewhereIn, IsRefused}
use Rattle.amqp_wire.specs.declared.error.Error.{Error}
use Rattle.amqp_wire.specs.declared.error.Error.TheVariants.{Memory}
use Rattle.amqp_encoder.specs.State.{Encoder}
use Rattle.amqp_encoder.specs.Tokens.{Token, tokens, all_tokens, put, nulls, begin, end, begin_described, end_described}
use Rattle.amqp_encoder.specs.Passes.{row_tokens}
use Rattle.amqp_encoder.specs.State.{Pass, Measuring, Filling, Stopped, Filled}
use Rattle.amqp_encoder.specs.Writes.{Writes, Fills, IsGoing, outcome, pass_of, bytes_of, step, steps, fill, filling}
use Rattle.amqp_encoder.proofs.Rows.{row_calls}
use Rattle.amqp_encoder.proofs.Joined.{nothing, join, cut, on, was_going, going_before, fills_from}
use Rattle.amqp_encoder.specs.Refused.{KnowDepths}
use Rattle.amqp_codec.specs.Written.{GivesUp, AreFreeIfFilled, WritesTerms}

known_first : (deep : List ℕ → ℕ) (ts us : List Term) → KnowDepths deep (ts ++ us) → KnowDepths deep ts
known_first deep [] us h = tt
known_first deep (t ∷ ts) us h = (h.0, known_first deep ts us h.1)

known_second : (deep : List ℕ → ℕ) (ts us : List Term) → KnowDepths deep (ts ++ us) → KnowDepths deep us
known_second deep [] us h = h
known_second deep (t ∷ ts) us h = known_second deep ts us h.1

-- What stands in the first terms, or in those behind them, stands in all.
first_in_all : (P : Term → Type 0) (ts us : List Term) → SomewhereIn P (terms_of ts) → SomewhereIn P (terms_of (ts ++ us))
first_in_all P [] us h = absurd h
first_in_all P (t ∷ ts) us (inl h) = inl h
first_in_all P (t ∷ ts) us (inr h) = inr (first_in_all P ts us h)

second_in_all : (P : Term → Type 0) (ts us : List Term) → SomewhereIn P (terms_of us) → SomewhereIn P (terms_of (ts ++ us))
second_in_all P [] us h = h
second_in_all P (t ∷ ts) us h = inr (second_in_all P ts us h)

first_free : (a : Encoder) (ts us : List Term) → AreFreeIfFilled a (ts ++ us) → AreFreeIfFilled a ts
first_free a ts us f fills r h = f fills r (first_in_all (IsRefused r) ts us h)

-- A pass that fills and goes on fills then, too.
fills_then : (s : Pass) (t : Token) → Fills s → IsGoing (step s t) → Fills (step s t)
fills_then (Measuring m) t h g = absurd h
fills_then (Filling f) t h g = filled (fill t f) g where
  filled : (r : Result Filled Error) → IsGoing (filling r) → Fills (filling r)
  filled (Ok f) g = tt
  filled (Err e) g = cc
fills_then (Stopped e) t h g = absurd h

fills_on : (s : Pass) (ts : List Token) → Fills s → IsGoing (steps s ts) → Fills (steps s ts)
unfolding steps
fills_on s [] h g = h
fills_on s (t ∷ ts) h g = fills_on (step s t) ts (fills_then s t h (going_before (step s t) ts g)) g

fills_to : (a : Encoder) (ts : List Token) (r : Result (Unit {0}) Error) (b : Encoder) → r ≡ Ok tt → Writes a ts r b → Fills (pass_of a)
    → Fills (pass_of b)
fills_to a ts r b ok w h =
    let going : IsGoing (pass_of b) = sym w.runs.answer ∙ ok in
    elim w.runs.state [
      | inl e ↦ rw e (fills_on (pass_of a) ts h (rw e at going))
      | inr o ↦ let stopped : Err Memory ≡ Ok tt = rw o.1 at going in cc
    ]

-- The calls, or a type that ran out of memory of its own.
abbrev Up : Encoder → List Token → Result (Unit {0}) Error → Encoder → Type 0
Up a xs r b = Writes a xs r b ⊎ GivesUp a r b

join_up : (a : Encoder) (xs : List Token) (q : Result (Unit {0}) Error) (b : Encoder) (ys : List Token) (r : Result (Unit {0}) Error)
    (c : Encoder) → q ≡ Ok tt → Up a xs q b → Up b ys r c → Up a (xs ++ ys) r c
join_up a xs q b ys r c o (inl w) (inl x) = inl (join a xs q b ys r c o w x)
join_up a xs q b ys r c o (inl w) (inr g) =
    inr (record {
      was_going = was_going a xs q b o w;
      not_filled = λ h. g.not_filled (fills_to a xs q b o w h);
      answer = g.answer;
      state = g.state;
      kept = on (bytes_of a) (bytes_of b) (bytes_of c) w.kept g.kept;
    })
join_up a xs q b ys r c o (inr g) x = let e : Err Memory ≡ Ok tt = sym g.answer ∙ o in cc

fills_up : (a : Encoder) (xs : List Token) (q : Result (Unit {0}) Error) (b : Encoder) → Up a xs q b → Fills (pass_of b) → Fills (pass_of a)
fills_up a xs q b (inl w) h = fills_from a xs q b w h
fills_up a xs q b (inr g) h = absurd (rw g.state at h)

cut_up : (a : Encoder) (xs : List Token) (q : Result (Unit {0}) Error) (b : Encoder) (ys : List Token) (r : Result (Unit {0}) Error)
    (e y : Error) → q ≡ Err e → r ≡ Err y → y ≡ e → Up a xs q b → Up a (xs ++ ys) r b
cut_up a xs q b ys r e y i j k (inl w) = inl (cut a xs q b ys r e y i j k w)
cut_up a xs q b ys r e y i j k (inr g) =
    inr (record {
      was_going = g.was_going;
      not_filled = g.not_filled;
      answer = j ∙ (ap Err k ∙ (sym i ∙ g.answer));
      state = g.state;
      kept = g.kept;
    })

-- no term
pub no_terms : (s : Encoder) (r : Result (Unit {0}) Error) → r ≡ outcome (pass_of s) → WritesTerms [] s r s
no_terms s r h = record { calls = λ deep k f. inl (nothing s r h) }

-- some terms and then others
pub terms_join : (ts us : List Term) (a b c : Encoder) (q r : Result (Unit {0}) Error) → q ≡ Ok tt → WritesTerms ts a q b
    → WritesTerms us b r c → WritesTerms (ts ++ us) a r c
terms_join ts us a b c q r o w x = record {
  calls = λ deep k f.
      (let first = w.calls deep (known_first deep ts us k) (first_free a ts us f) in
      rw (flat_map-append (tokens deep) ts us)
      (join_up a (row_tokens deep ts) q b (row_tokens deep us) r c o first
      (x.calls deep (known_second deep ts us k)
      (λ fills s h. f (fills_up a (row_tokens deep ts) q b first fills) s (second_in_all (IsRefused s) ts us h)))));
}

-- after a refusal nothing more is written
pub terms_cut : (ts us : List Term) (a b : Encoder) (q r : Result (Unit {0}) Error) (e : Error) → q ≡ Err e → (y : Error) × (r ≡ Err y)
    × (y ≡ e) → WritesTerms ts a q b → WritesTerms (ts ++ us) a r b
terms_cut ts us a b q r e o p w = record {
  calls = λ deep k f.
      (rw (flat_map-append (tokens deep) ts us)
      (cut_up a (row_tokens deep ts) q b (row_tokens deep us) r e p.0 o p.1 p.2
      (w.calls deep (known_first deep ts us k) (first_free a ts us f))));
}

-- The calls for a term are those that open it, those for the terms in it, and those that close it.
pub record Wraps (t : Term) (xs : List Token) (ts : List Term) (ys : List Token) : Type 0 where
  pub is : (deep : List ℕ → ℕ) → row_tokens deep (t ∷ []) ≡ xs ++ (row_tokens deep ts ++ ys)
  pub knows : (deep : List ℕ → ℕ) → KnowDepths deep (t ∷ []) → KnowDepths deep ts
  pub holds : (r : Refusal) → SomewhereIn (IsRefused r) (terms_of ts) → SomewhereIn (IsRefused r) (terms_of (t ∷ []))

pub container_wraps : (k : Container) (ts : List Term) → Wraps (container k (terms_of ts)) (begin k ∷ []) ts (end k ∷ [])
container_wraps k ts = record {
  is = λ deep. ap (λ r. begin k ∷ r) (append-nil (all_tokens deep (terms_of ts) ++ end k ∷ [])
      ∙ ap (λ r. r ++ end k ∷ []) (sym (row_calls deep ts)));
  knows = λ deep h. h.0.1;
  holds = λ r h. inl (inr h);
}

pub described_wraps : (d : Descriptor) (t : Term) → Wraps (described d t) (begin_described d ∷ []) (t ∷ []) (end_described ∷ [])
described_wraps d t = record {
  is = λ deep. ap (λ r. begin_described d ∷ r) (append-nil (tokens deep t ++ end_described ∷ [])
      ∙ ap (λ r. r ++ end_described ∷ []) (sym (append-nil (tokens deep t))));
  knows = λ deep h. (h.0.1, tt);
  holds = λ r h. elim h [ inl x ↦ inl (inr x) | inr x ↦ absurd x ];
}

-- a described container, which is begun and ended in one call
pub composite_wraps : (d : Descriptor) (k : Container) (ts : List Term)
    → Wraps (described d (container k (terms_of ts))) (begin_described d ∷ begin k ∷ []) ts (end k ∷ end_described ∷ [])
composite_wraps d k ts = record {
  is = λ deep. ap (λ r. begin_described d ∷ begin k ∷ r)
      (append-nil ((all_tokens deep (terms_of ts) ++ end k ∷ []) ++ end_described ∷ [])
      ∙ (append_assoc (all_tokens deep (terms_of ts)) (end k ∷ []) (end_described ∷ [])
      ∙ ap (λ r. r ++ end k ∷ end_described ∷ []) (sym (row_calls deep ts))));
  knows = λ deep h. h.0.1.1;
  holds = λ r h. inl (inr (inr h));
}

module _ {t : Term} {xs ys : List Token} {ts : List Term} (wraps : Wraps t xs ts ys) where
  calls_of : (deep : List ℕ → ℕ) → row_tokens deep (t ∷ []) ≡ (xs ++ row_tokens deep ts) ++ ys
  calls_of deep = wraps.is deep ∙ sym (append_assoc xs (row_tokens deep ts) ys)

  free_inside : (a b : Encoder) (q : Result (Unit {0}) Error) → Writes a xs q b → AreFreeIfFilled a (t ∷ []) → AreFreeIfFilled b ts
  free_inside a b q w f fills r h = f (fills_from a xs q b w fills) r (wraps.holds r h)

  pub open_refused : (a b : Encoder) (q r : Result (Unit {0}) Error) (e : Error) → q ≡ Err e → (z : Error) × (r ≡ Err z) × (z ≡ e)
      → Writes a xs q b → WritesTerms (t ∷ []) a r b
  open_refused a b q r e o p w = record {
    calls = λ deep k f. (rw (wraps.is deep) (cut_up a xs q b (row_tokens deep ts ++ ys) r e p.0 o p.1 p.2 (inl w)));
  }

  pub inner_refused : (a b c : Encoder) (q r s : Result (Unit {0}) Error) (e : Error) → q ≡ Ok tt → r ≡ Err e → (z : Error) × (s ≡ Err z)
      × (z ≡ e) → Writes a xs q b → WritesTerms ts b r c → WritesTerms (t ∷ []) a s c
  inner_refused a b c q r s e o i p w h = record {
    calls = λ deep k f. (rw (calls_of deep)
        (cut_up a (xs ++ row_tokens deep ts) r c ys s e p.0 i p.1 p.2
        (join_up a xs q b (row_tokens deep ts) r c o (inl w) (h.calls deep (wraps.knows deep k) (free_inside a b q w f)))));
  }

  pub all_written : (a b c d : Encoder) (q r s : Result (Unit {0}) Error) → q ≡ Ok tt → r ≡ Ok tt → Writes a xs q b
      → WritesTerms ts b r c → Writes c ys s d → WritesTerms (t ∷ []) a s d
  all_written a b c d q r s o i w h l = record {
    calls = λ deep k f. (rw (calls_of deep)
        (join_up a (xs ++ row_tokens deep ts) r c ys s d i
        (join_up a xs q b (row_tokens deep ts) r c o (inl w) (h.calls deep (wraps.knows deep k) (free_inside a b q w f))) (inl l)));
  }

-- so many nulls

nulls_called : (deep : List ℕ → ℕ) (n : ℕ) → row_tokens deep (replicate n (leaf null)) ≡ nulls n
nulls_called deep zero = refl
nulls_called deep (suc n) = ap (λ ts. put null ∷ ts) (nulls_called deep n)

pub nulls_written : (n : ℕ) (a b : Encoder) (r : Result (Unit {0}) Error) → Writes a (nulls n) r b
    → WritesTerms (replicate n (leaf null)) a r b
nulls_written n a b r w = record { calls = λ deep k f. inl (rw (nulls_called deep n) w) }
