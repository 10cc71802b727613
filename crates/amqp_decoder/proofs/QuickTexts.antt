-- Texts whose code and size are taken at once.
use Rattle.std.proofs.Common.{Bool, Result, Ok, Err, ◌≡◌, ◌<◌, ◌≤◌, ◌^◌, ℕ, zero, suc, w32, inl, inr, true, List, [], ◌∷◌, ◌++◌, length, take, drop, get_or, refl, sym, ap, ◌∙◌, subst, arith}
use Rattle.std.proofs.lemmas.List.{length-take-le, take-append-drop}
use Rattle.std.proofs.lemmas.Nat.{be_bytes_4}
use Rattle.std.specs.Int.{bytes_high_first, from_be_bytes}
use Rattle.amqp_lookahead.proofs.SectionsAhead.{bytes_at}
use Rattle.amqp_wire.specs.declared.error.Error.{Error}
use Rattle.amqp_decoder.specs.State.{State, Has, after_bytes}
use Rattle.amqp_decoder.specs.Steps.{Pulls, Takes, Lacks, Stops, Began, Goes, Tries}
use Rattle.amqp_decoder.specs.Reading.{ReadsCode}
use Rattle.amqp_decoder.specs.Quick.{ReadsLen}
use Rattle.amqp_decoder.specs.Primitives.{AnswersFault, ReadsFixed, ReadsSized, SizedFault, ReadsText, TextFault}
use Rattle.amqp_decoder.proofs.Opening.{took_both}
use Rattle.amqp_decoder.proofs.Quick.{behind_code}
use Rattle.amqp_decoder.proofs.SizedTexts.{text_narrow, text_wide}
use Rattle.amqp_decoder.proofs.Steps.{answered_took, lowered, refused_second, took_pulled}

-- so many bytes were taken off the container, and then there
pub bytes_took : (n : ℕ) (st m new : State) (s : List ℕ) → Has st.top.left n → m ≡ lowered n st → n ≤ length m.rest → s ≡ take n m.rest
    → new ≡ after_bytes n m → Takes st s new × (length s ≡ n)
bytes_took n st m new s room is few held went =
    let long : length s ≡ n = ap length held ∙ length-take-le n m.rest few in
    let whole : m.rest ≡ s ++ drop (length s) m.rest = sym (take-append-drop n m.rest) ∙ ap (λ x. x ++ drop n m.rest) (sym held)
    ∙ ap (λ k. s ++ drop k m.rest) (sym long) in
    let pulled : Pulls m s new = record { rest = whole; moved = went ∙ ap (λ k. after_bytes k m) (sym long) } in
    (took_pulled n st m s new long room is pulled, long)

one_size : (n : ℕ) → n < 256 → bytes_high_first 1 n ≡ n ∷ []
one_size n h = ap (λ k. k ∷ []) (omega (arith, h))

-- the code and the size stood next
pub quick_head : (code n : ℕ) (l : List ℕ) (st m : State) → n ≡ get_or l 1 0 → ReadsFixed code 1 st (drop 1 l) m
    → ReadsFixed code 1 st (n ∷ []) m
quick_head code n l st m is f =
    subst (λ b. ReadsFixed code 1 st b m) (behind_code 0 l f.width ∙ ap (λ k. k ∷ []) (sym is)) f

sized_front : (code n : ℕ) (st m : State) → n < 256 → (f : ReadsFixed code 1 st (n ∷ []) m) → Takes f.mid (bytes_high_first 1 n) m
sized_front code n st m few f = subst (λ b. Takes f.mid b m) (sym (one_size n few)) f.took

pub quick_narrow : (narrow wide n : ℕ) (l : List ℕ) (st m : State) → n ≡ get_or l 1 0 → n < 256 → ReadsFixed narrow 1 st (drop 1 l) m
    → ReadsLen narrow wide st n m
quick_narrow narrow wide n l st m is few f =
    let g = quick_head narrow n l st m is f in
    record { code = narrow; mid = g.mid; begun = g.begun; sized = inl (refl, few, sized_front narrow n st m few g) }

four_bytes : (l : List ℕ) → ((i : ℕ) → get_or l i 0 < 256) → (i : ℕ) → get_or (bytes_at 4 1 l) i 0 < 256
four_bytes l h zero = h 1
four_bytes l h (suc zero) = h 2
four_bytes l h (suc (suc zero)) = h 3
four_bytes l h (suc (suc (suc zero))) = h 4
four_bytes l h (suc (suc (suc (suc i)))) = omega arith

pub quick_wide : (narrow wide n : ℕ) (l : List ℕ) (st m : State) → n ≡ from_be_bytes w32 (bytes_at 4 1 l) → ((i : ℕ) → get_or l i 0 < 256)
    → n < 256 ^ 4 → ReadsFixed wide 4 st (drop 1 l) m → ReadsLen narrow wide st n m
quick_wide narrow wide n l st m is small few f =
    let front : bytes_high_first 4 n ≡ bytes_at 4 1 l = be_bytes_4 (bytes_at 4 1 l) n refl (four_bytes l small) is in
    record {
      code = wide;
      mid = f.mid;
      begun = f.begun;
      sized = inr (refl, few, subst (λ b. Takes f.mid b m) (behind_code 3 l f.width ∙ sym front) f.took);
    }

-- the text behind a size
sized_text : (w n : ℕ) (mid m new : State) (s : List ℕ) → n < 256 ^ w → Takes mid (bytes_high_first w n) m → Takes m s new
    → length s ≡ n → ReadsSized w mid s new
sized_text w n mid m new s few size t long = record {
  fits = subst (λ k. k < 256 ^ w) (sym long) few;
  took = took_both mid m new (bytes_high_first w (length s)) s (subst (λ k. Takes mid (bytes_high_first w k) m) (sym long) size) t;
}

pub quick_text : (narrow wide n : ℕ) (st m new : State) (s : List ℕ) → ReadsLen narrow wide st n m → Takes m s new × (length s ≡ n)
    → ReadsText narrow wide st s new
quick_text narrow wide n st m new s h (t, long) = record {
  code = h.code;
  mid = h.mid;
  begun = h.begun;
  sized = elim h.sized [
    | inl x ↦ inl (x.0, sized_text 1 n h.mid m new s x.1 x.2 t long)
    | inr x ↦ inr (x.0, sized_text 4 n h.mid m new s x.1 x.2 t long)
  ];
}

-- the content isn't there
sized_short : (w n : ℕ) (mid m : State) (e : Error) (new : State) → n < 256 ^ w → Takes mid (bytes_high_first w n) m
    → Stops true (Lacks n m) m e new → SizedFault true w mid e new
sized_short w n mid m e new few size s = record {
  kept = answered_took size s.kept;
  why = elim s.why [ inl x ↦ inl x | inr x ↦ inr (inr (n, m, few, size, x)) ];
}

pub quick_text_cut : (narrow wide n : ℕ) (st m : State) (e : Error) (new : State) → ReadsLen narrow wide st n m
    → Stops true (Lacks n m) m e new → AnswersFault true (TextFault narrow wide) st e new
quick_text_cut narrow wide n st m e new h s = elim h.sized [
  | inl x ↦ text_narrow narrow wide st h.mid e new (subst (λ c. ReadsCode st c h.mid) x.0 h.begun) (sized_short 1 n h.mid m e new x.1 x.2 s)
  | inr x ↦ text_wide narrow wide st h.mid e new (subst (λ c. ReadsCode st c h.mid) x.0 h.begun) (sized_short 4 n h.mid m e new x.1 x.2 s)
]

-- a call behind one that went on
pub tried_second : {A : Type 0} (takes : Bool) (st a : State) (r : Result A Error) (new : State) → Began st a → Goes takes a r new
    → Tries takes st r new
tried_second takes st a (Ok v) new (going, none, same) (keeps, goes) = (going, keeps ∙ none, goes ∙ same)
tried_second takes st a (Err e) new began fails = refused_second st a e new began fails
