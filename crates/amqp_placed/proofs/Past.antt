-- Bytes that were taken in front of a state.
use Rattle.std.proofs.Common.{◌≡◌, ℕ, zero, suc, ◌+◌, ◌-◌, ◌≤◌, Bool, true, false, cond, Option, Some, None, unwrap_or}
use Rattle.std.proofs.Common.{List, [], ◌∷◌, ◌++◌, length, take, drop, refl, sym, ap, ◌∙◌, subst, arith, append_assoc}
use Rattle.std.proofs.lemmas.List.{length-append, drop_at}
use Rattle.amqp_model.specs.Term.{Term}
use Rattle.amqp_lengths.specs.Stands.{Around, unbounded, whole_one, cut_one}
use Rattle.amqp_decoder.specs.State.{State, Has, lower, bound_of, bytes_left, counted_in, after_value, weight_at}
use Rattle.amqp_decoder.specs.Steps.{Takes}
use Rattle.amqp_decoder.specs.Reading.{ReadsCode}
use Rattle.amqp_decoder.specs.Primitives.{Stands}
use Rattle.amqp_decoder.proofs.Steps.{has_none, lower_none}
use Rattle.amqp_decoder.proofs.ReadPrimitives.{has_add, lower-lower}
use Rattle.amqp_placed.specs.Facing.{up_to, bytes_open, IsAround}

pub record Past (own : List ℕ) (st m : State) : Type 0 where
  pub rest : st.rest ≡ own ++ m.rest
  pub room : Has st.top.left (length own)
  pub left : m.top.left ≡ lower st.top.left (length own)
  pub sized : m.top.sized ≡ st.top.sized
  pub saved : m.saved ≡ st.saved
  pub nesting : m.nesting ≡ st.nesting
  pub uncounted : st.quota ≡ None → m.quota ≡ None

pub past_code : (st : State) (c : ℕ) (m : State) (h : ReadsCode st c m) → Past h.own st m
past_code st c m h = record {
  rest = h.rest ∙ ap (λ l. h.own ++ l) (sym (ap (λ (x : State). x.rest) h.moved));
  room = h.room;
  left = ap (λ (x : State). x.top.left) h.moved;
  sized = ap (λ (x : State). x.top.sized) h.moved;
  saved = ap (λ (x : State). x.saved) h.moved;
  nesting = ap (λ (x : State). x.nesting) h.moved;
  uncounted = λ none. ap (λ (x : State). x.quota) h.moved ∙ ap (λ o. lower o (counted_in st.top.shared c)) none;
}

pub past_taken : (st : State) (s : List ℕ) (m : State) → Takes st s m → Past s st m
past_taken st s m h = record {
  rest = h.rest ∙ ap (λ l. s ++ l) (sym (ap (λ (x : State). x.rest) h.moved));
  room = h.room;
  left = ap (λ (x : State). x.top.left) h.moved;
  sized = ap (λ (x : State). x.top.sized) h.moved;
  saved = ap (λ (x : State). x.saved) h.moved;
  nesting = ap (λ (x : State). x.nesting) h.moved;
  uncounted = λ none. ap (λ (x : State). x.quota) h.moved ∙ none;
}

pub past_none : (st : State) → Past [] st st
past_none st = record {
  rest = refl;
  room = has_none st.top.left;
  left = sym (lower_none st.top.left);
  sized = refl;
  saved = refl;
  nesting = refl;
  uncounted = λ none. none;
}

pub past_value : (st : State) (s : List ℕ) (t : Term) → Stands st s t → Past s st (after_value (length s) (weight_at st t) st)
past_value st s t h = record {
  rest = h.rest ∙ ap (λ l. s ++ l) (sym (ap (drop (length s)) h.rest ∙ drop_at s h.after (length s) refl));
  room = h.room;
  left = refl;
  sized = refl;
  saved = refl;
  nesting = refl;
  uncounted = λ none. ap (λ o. lower o (weight_at st t)) none;
}

pub past_both : (a b : List ℕ) (st m z : State) → Past a st m → Past b m z → Past (a ++ b) st z
past_both a b st m z h k = record {
  rest = h.rest ∙ ap (λ l. a ++ l) k.rest ∙ sym (append_assoc a b z.rest);
  room = subst (Has st.top.left) (sym (length-append a b))
      (has_add st.top.left (length a) (length b) h.room (subst (λ o. Has o (length b)) h.left k.room));
  left = k.left ∙ ap (λ o. lower o (length b)) h.left ∙ lower-lower st.top.left (length a) (length b)
      ∙ ap (lower st.top.left) (sym (length-append a b));
  sized = k.sized ∙ h.sized;
  saved = k.saved ∙ h.saved;
  nesting = k.nesting ∙ h.nesting;
  uncounted = λ none. k.uncounted (h.uncounted none);
}

-- what a size bounds
pub lowered_bound : (s t : Bool) (o q : Option ℕ) (n : ℕ) → t ≡ s → q ≡ lower o n → cond t q None ≡ lower (cond s o None) n
lowered_bound true t o q n same is = ap (λ x. cond x q None) same ∙ is
lowered_bound false t o q n same is = ap (λ x. cond x q None) same

pub has_bound : (s : Bool) (o : Option ℕ) (n : ℕ) → Has o n → Has (cond s o None) n
has_bound true o n h = h
has_bound false o n h = tt

pub past_bound : {own : List ℕ} {st m : State} → Past own st m → bound_of m.top ≡ lower (bound_of st.top) (length own)
past_bound {own} {st} {m} h = lowered_bound st.top.sized m.top.sized st.top.left m.top.left (length own) h.sized h.left

take_behind : (own r : List ℕ) (n : ℕ) → length own ≤ n → take n (own ++ r) ≡ own ++ take (n - length own) r
take_behind [] r n few = let same : n - 0 ≡ n = omega arith in ap (λ k. take k r) (sym same)
take_behind (x ∷ own) r zero few = absurd (omega (arith, few))
take_behind (x ∷ own) r (suc n) few =
    let same : n - length own ≡ suc n - suc (length own) = omega arith in
    ap (λ y. x ∷ y) (take_behind own r n (omega (arith, few))) ∙ ap (λ k. x ∷ (own ++ take k r)) same

up_to_behind : (o q : Option ℕ) (own r : List ℕ) → Has o (length own) → q ≡ lower o (length own) → up_to o (own ++ r) ≡ own ++ up_to q r
up_to_behind None q own r h is = ap (λ x. own ++ up_to x r) (sym is)
up_to_behind (Some n) q own r h is = take_behind own r n h ∙ ap (λ x. own ++ up_to x r) (sym is)

pub past_bytes : {own : List ℕ} {st m : State} → Past own st m → bytes_open st ≡ own ++ bytes_open m
past_bytes {own} {st} {m} h =
    ap (up_to (bound_of st.top)) h.rest
    ∙ up_to_behind (bound_of st.top) (bound_of m.top) own m.rest (has_bound st.top.sized st.top.left (length own) h.room) (past_bound h)

pub lowered_sum : (o q : Option ℕ) (n l others : ℕ) → o ≡ Some l → Has o n → q ≡ lower o n
    → n + (unwrap_or q 0 + others) ≡ unwrap_or o 0 + others
lowered_sum None q n l others none h is = absurd (cc)
lowered_sum (Some k) q n l others some h is = omega (arith, h, ap (λ x. unwrap_or x 0) is)

module _ {own : List ℕ} {st m : State} (h : Past own st m) where
  pub past_length : length st.rest ≡ length own + length m.rest
  past_length = ap length h.rest ∙ length-append own m.rest

  past_sum : (l : ℕ) → bound_of st.top ≡ Some l → length own + (unwrap_or (bound_of m.top) 0 + bytes_left m.saved)
      ≡ unwrap_or (bound_of st.top) 0 + bytes_left st.saved
  past_sum l some =
      ap (λ k. length own + (unwrap_or (bound_of m.top) 0 + k)) (ap bytes_left h.saved)
      ∙ lowered_sum (bound_of st.top) (bound_of m.top) (length own) l (bytes_left st.saved) some
      (has_bound st.top.sized st.top.left (length own) h.room) (past_bound h)

  pub past_around : (around : Around) → IsAround around st → IsAround around m
  past_around unbounded (none, outer) =
      (past_bound h ∙ ap (λ o. lower o (length own)) none, ap bytes_left h.saved ∙ outer)
  past_around whole_one (l, some, all) =
      (l - length own, past_bound h ∙ ap (λ o. lower o (length own)) some, omega (arith, past_sum l some, past_length, all))
  past_around cut_one (l, some, few) =
      (l - length own, past_bound h ∙ ap (λ o. lower o (length own)) some, omega (arith, past_sum l some, past_length, few))

  pub past_unlimited : (bound_of st.top ≡ None → st.top.left ≡ None) → bound_of m.top ≡ None → m.top.left ≡ None
  past_unlimited unlimited none =
      h.left ∙ ap (λ o. lower o (length own)) (unlimited (lower_some (bound_of st.top) (length own) (sym (past_bound h) ∙ none)))
    where
      lower_some : (o : Option ℕ) (n : ℕ) → lower o n ≡ None → o ≡ None
      lower_some None n e = refl
      lower_some (Some l) n e = absurd (cc)
