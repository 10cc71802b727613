-- Pieces of lines, and what a buffer holds of them.
use Rattle.std.proofs.Common.{◌≡◌, inl, inr, ℕ, zero, suc, ◌+◌, ◌-◌, ◌<◌, ◌≤◌, Bool, true, List, [], ◌∷◌, ◌++◌, length, take, drop}
use Rattle.std.proofs.Common.{slice_index, Option, Some, None, sym, ap, ◌∙◌, subst, arith, append_assoc, append-nil, MatchOption, IfSome}
use Rattle.std.proofs.lemmas.List.{take-append-drop, drop-take, length-take, take_all}
use Rattle.std.proofs.Common.{drop-drop}
use Rattle.std.proofs.lemmas.Bool.{eq-eqb}
use Rattle.std.specs.Io.KnownBytes.{prepend_known, Consumes, Keeps, IsAtEnd}
use Rattle.memchr.specs.Find.{IsFirstByte, is_byte}
use Rattle.amqp_lines.specs.Lines.{HasNo, TakesLine, with_feed}

-- no byte below the first place of c is c
nowhere_first : (c : ℕ) (bs : List ℕ) (n : ℕ) → n ≤ length bs
    → ((k : ℕ) → 0 ≤ k → k < n → is_byte c (slice_index bs k) ≡ true → ⊥) → HasNo c (take n bs)
nowhere_first c bs zero l h = tt
nowhere_first c [] (suc n) l h = tt
nowhere_first c (b ∷ bs) (suc n) l h = (
  λ e. h 0 (omega arith) (omega arith) (eq-eqb b c e),
  nowhere_first c bs n (omega arith) (λ k z m. h (suc k) (omega arith) (omega arith)),
)

pub first_none : (c : ℕ) (bs : List ℕ) → IsFirstByte (is_byte c) bs None → HasNo c (take (length bs) bs)
first_none c bs h = nowhere_first c bs (length bs) (omega arith) h

pub nowhere : (c : ℕ) (bs : List ℕ) → IsFirstByte (is_byte c) bs None → HasNo c bs
nowhere c bs h = subst (HasNo c) (take_all (length bs) bs (omega arith)) (first_none c bs h)

pub first_some : (c : ℕ) (bs : List ℕ) (n : ℕ) → IsFirstByte (is_byte c) bs (Some n) → HasNo c (take n bs)
first_some c bs n h = nowhere_first c bs n (let l = h.0.high in omega arith) h.0.before

-- the bytes of the buffer that are left, and then those of the source
abbrev pub left : ℕ → ℕ → List ℕ → List ℕ
left start end_ buffer = take (end_ - start) (drop start buffer)

pub left_later : (start end_ m : ℕ) (buffer : List ℕ) → start + m ≤ end_ → left (start + m) end_ buffer ≡ drop m (left start end_ buffer)
left_later start end_ m buffer l =
    let e : end_ - start ≡ m + (end_ - (start + m)) = omega arith in
    sym (ap (λ k. drop m (take k (drop start buffer))) e ∙ drop-take m (end_ - (start + m)) (drop start buffer)
    ∙ ap (take (end_ - (start + m))) (drop-drop m start buffer))

pub consumes_front : (bs : List ℕ) (m : ℕ) (known : Option (List ℕ))
    → Consumes (prepend_known bs known) (prepend_known (drop m bs) known) (take m bs)
consumes_front bs m None = tt
consumes_front bs m (Some xs) = ap (λ l. l ++ xs) (sym (take-append-drop m bs)) ∙ append_assoc (take m bs) (drop m bs) xs

pub taken_piece : (start end_ len m : ℕ) (buffer : List ℕ) (known : Option (List ℕ)) (ended : Bool) → start + m ≤ end_
    → take m (left start end_ buffer) ≡ with_feed ended (take len (left start end_ buffer))
    → Consumes (prepend_known (left start end_ buffer) known) (prepend_known (left (start + m) end_ buffer) known)
    (with_feed ended (take len (left start end_ buffer)))
taken_piece start end_ len m buffer known ended l e =
    subst (λ x. Consumes (prepend_known (left start end_ buffer) known) (prepend_known x known)
    (with_feed ended (take len (left start end_ buffer)))) (sym (left_later start end_ m buffer l))
    (subst (Consumes (prepend_known (left start end_ buffer) known) (prepend_known (drop m (left start end_ buffer)) known)) e
    (consumes_front (left start end_ buffer) m known))

pub taken_within : (start end_ m : ℕ) (buffer : List ℕ) → start ≤ end_ → m ≤ length (left start end_ buffer) → start + m ≤ end_
taken_within start end_ m buffer l h = omega (arith, length-take (end_ - start) (drop start buffer))

pub no_more : (c : ℕ) (a b : List ℕ) → HasNo c a → HasNo c b → HasNo c (a ++ b)
no_more c [] b h k = k
no_more c (x ∷ a) b h k = (h.0, no_more c a b h.1 k)

-- the last line lacks its line feed
pub ended_line : (a n b : Option (List ℕ)) (line : List ℕ) → HasNo 10 line → Consumes a n line → (line ≡ [] → ⊥) → Keeps n b → IsAtEnd n
    → IfSome a (λ input. MatchOption b ⊥ (λ rest. TakesLine input line rest))
ended_line None n b line f h e k i = tt
ended_line (Some p) None b line f h e k i = absurd h
ended_line (Some p) (Some q) None line f h e k i = absurd k
ended_line (Some p) (Some q) (Some r) line f h e k i = (f, inr (h ∙ ap (λ l. line ++ l) i ∙ append-nil line, k ∙ i, e))

pub whole_line : (a n b : Option (List ℕ)) (line piece : List ℕ) → HasNo 10 line → HasNo 10 piece → Consumes a n line
    → Consumes n b (piece ++ (10 ∷ [])) → IfSome a (λ input. MatchOption b ⊥ (λ rest. TakesLine input (line ++ piece) rest))
whole_line None n b line piece f g h k = tt
whole_line (Some p) None b line piece f g h k = absurd h
whole_line (Some p) (Some q) None line piece f g h k = absurd k
whole_line (Some p) (Some q) (Some r) line piece f g h k =
    (no_more 10 line piece f g, inl (h ∙ ap (λ l. line ++ l) (k ∙ append_assoc piece (10 ∷ []) r) ∙ sym (append_assoc line piece (10 ∷ r))))
