-- Bytes that were looked at, and those of the source behind them.
use Rattle.std.proofs.Common.{◌≡◌, ◌≤◌, ◌<◌, ℕ, ◌+◌, ◌-◌, ◌%◌, ◌^◌, List, [], ◌++◌, length, take, drop, max, inl, inr, Bool, Result, Ok, Err}
use Rattle.std.proofs.Common.{IfOk, IsOk, Option, Some, None, MatchOption, is_some, min, true, false, refl, sym, ap, ◌∙◌, subst, arith, append_assoc, length-append, drop-drop}
use Rattle.std.proofs.lemmas.List.{drop_at, take_at, length-take-le, length-drop, take-append-le, take-append-drop}
use Rattle.std.proofs.lemmas.List.Edits.{take-paste}
use Rattle.std.specs.List.{copy_within}
use Rattle.std.proofs.Math.Nat.{eq-or-lt_of_le}
use Rattle.std.proofs.Math.Seq.{take-add, take-append-add, take-length}
use borrow.Rule.Slice.PartMut.{put_mid, post_of}
use Rattle.amqp_wire.proofs.Sources.{pulled}
use Rattle.amqp_lookahead.specs.State.{State, after_look, after_bytes, pending, seen_of, size_of}

-- what stands in front of a list
pub front_is : (s r x : List ℕ) (n : ℕ) → length s ≡ n → r ≡ s ++ x → r ≡ s ++ drop n r
front_is s r x n l e = e ∙ ap (λ y. s ++ y) (sym (drop_at s x n l) ∙ ap (drop n) (sym e))

pub rest_is : (s r x : List ℕ) (n : ℕ) → length s ≡ n → r ≡ s ++ x → x ≡ drop n r
rest_is s r x n l e = sym (drop_at s x n l) ∙ ap (drop n) (sym e)

pub pending_none : (start end_ : ℕ) (l : List ℕ) → end_ - start ≡ 0 → pending start end_ l ≡ []
pending_none start end_ l e = ap (λ n. take n (drop start l)) e

-- some of what was looked at, and the rest of it
pub pending_split : (start end_ n : ℕ) (l : List ℕ) → n ≤ end_ - start
    → pending start end_ l ≡ take n (drop start l) ++ pending (start + n) end_ l
pending_split start end_ n l h =
    let whole : end_ - start ≡ n + (end_ - (start + n)) = omega arith in
    ap (λ m. take m (drop start l)) whole ∙ take-add n (end_ - (start + n)) (drop start l)
    ∙ ap (λ x. take n (drop start l) ++ take (end_ - (start + n)) x) (drop-drop n start l)

pub looked_length : (start end_ n : ℕ) (l : List ℕ) → n ≤ end_ - start → end_ ≤ length l → length (take n (drop start l)) ≡ n
looked_length start end_ n l h w = length-take-le n (drop start l) (omega (arith, length-drop start l))

pub looked_rest : (start end_ n : ℕ) (l K : List ℕ) → n ≤ end_ - start → end_ ≤ length l
    → pending (start + n) end_ l ++ K ≡ drop n (pending start end_ l ++ K)
looked_rest start end_ n l K h w =
    rest_is (take n (drop start l)) (pending start end_ l ++ K) (pending (start + n) end_ l ++ K) n (looked_length start end_ n l h w)
    (ap (λ x. x ++ K) (pending_split start end_ n l h) ∙ append_assoc (take n (drop start l)) (pending (start + n) end_ l) K)

pub pending_fits : (start end_ : ℕ) (l K : List ℕ) → end_ ≤ length l → end_ - start ≤ length (pending start end_ l ++ K)
pending_fits start end_ l K w =
    omega (
      arith,
      length-append (pending start end_ l) K,
      length-take-le (end_ - start) (drop start l) (omega (arith, length-drop start l, w)),
    )

-- bytes of the buffer that were copied
pub copied_bytes : (n : ℕ) (p K x b : List ℕ) → n ≤ length p → x ≡ take n p ++ b → p ++ K ≡ take n x ++ drop n (p ++ K)
copied_bytes n p K x b h e =
    let s = take n p in
    let long : length s ≡ n = length-take-le n p h in
    let whole : p ++ K ≡ s ++ (drop n p ++ K) = ap (λ y. y ++ K) (sym (take-append-drop n p)) ∙ append_assoc s (drop n p) K in
    front_is s (p ++ K) (drop n p ++ K) n long whole ∙ ap (λ y. y ++ drop n (p ++ K)) (sym (ap (take n) e ∙ take_at s b n long))

-- all of the buffer was copied, and then what the source gave
pub copied_behind : (p K L x b f : List ℕ) (n k m : ℕ) → n ≡ length p → n ≤ length x → x ≡ take n p ++ b → k ≤ length f → K ≡ take k f ++ L
    → p ++ K ≡ take (n + k) (put_mid n m x f) ++ drop (n + k) (p ++ K)
copied_behind p K L x b f n k m whole h e w g =
    let s = take (n + k) (put_mid n m x f) in
    let front : take n x ≡ p =
    ap (take n) e ∙ take_at (take n p) b n (length-take-le n p (omega (arith, whole))) ∙ ap (λ i. take i p) whole ∙ take-length p in
    let long : length s ≡ n + k =
    length-take-le (n + k) (put_mid n m x f) (omega (
      arith,
      w,
      length-append (take n x) (f ++ post_of n m x),
      length-append f (post_of n m x),
      length-take-le n x h,
    )) in
    front_is s (p ++ K) L (n + k) long (pulled (p ++ K) K L x f n k m h w (ap (λ y. y ++ K) (sym front)) g)

-- the source behind those of its bytes that were looked at
pub behind_looked : (whole : Bool) (start end_ unseen n : ℕ) (l K L b : List ℕ) → whole ≡ true → end_ ≡ start → length b ≡ length K - unseen
    → n ≤ length b → K ≡ take n b ++ L → (n < length b → L ≡ [])
    → L ≡ drop (end_ - start + seen_of whole K unseen) (pending start end_ l ++ K)
behind_looked false start end_ unseen n l K L b held is room few f all = absurd (cc)
behind_looked true start end_ unseen n l K L b held is room few f all =
    let taken_ : length (take n b) ≡ n = length-take-le n b few in
    let count : length K ≡ n + length L = ap length f ∙ length-append (take n b) L ∙ ap (λ m. m + length L) taken_ in
    let none : (n < length b) → length L ≡ 0 = λ h. ap length (all h) in
    let k = end_ - start + (length K - unseen) in
    let whole : n ≡ k = elim (eq-or-lt_of_le few) [
      | inl h ↦ omega (arith, h, room, is)
      | inr h ↦ absurd (omega (arith, none h, h, count, room))
    ] in
    rest_is (take n b) K L n taken_ f ∙ ap (λ i. drop i K) whole
    ∙ ap (λ x. drop k (x ++ K)) (sym (pending_none start end_ l (omega (arith, is))))

-- a source is whole where its bytes are at hand
pub whole_at_hand : {A : Type 0} (o : Option A) (whole : Bool) (Q : A → Type 0) → is_some o ≡ true
    → MatchOption o (whole ≡ false) (λ s. (whole ≡ true) × Q s) → whole ≡ true
whole_at_hand None whole Q held h = absurd (cc)
whole_at_hand (Some s) whole Q held h = h.0

pub seen_none : (whole : Bool) (K : List ℕ) (unseen : ℕ) → whole ≡ false → seen_of whole K unseen ≡ 0
seen_none false K unseen held = refl
seen_none true K unseen held = absurd (cc)

-- how many bytes of a whole source were looked at, behind a look
pub seen_more : (whole : Bool) (K : List ℕ) (a unseen n : ℕ) → whole ≡ true → a ≡ 0 → n ≤ length K
    → a + seen_of whole K (min unseen (length K - n)) ≡ max (a + seen_of whole K unseen) n
seen_more true K a unseen n held e h = omega (arith, e, h)
seen_more false K a unseen n held e h = absurd (cc)

-- bytes of a whole source that were copied
pub copied_whole : (start end_ n : ℕ) (l K x b : List ℕ) → end_ ≡ start → n ≤ length K → x ≡ take n K ++ b
    → pending start end_ l ++ K ≡ take n x ++ drop n (pending start end_ l ++ K)
copied_whole start end_ n l K x b is h e =
    let s = take n K in
    let r = pending start end_ l ++ K in
    let long = length-take-le n K h in
    let whole : r ≡ s ++ drop n K = ap (λ y. y ++ K) (pending_none start end_ l (omega (arith, is))) ∙ sym (take-append-drop n K) in
    front_is s r (drop n K) n long whole ∙ ap (λ y. y ++ drop n r) (sym (ap (take n) e ∙ take_at s b n long))

-- how many bytes were looked at, behind some that are taken
pub seen_less : (whole : Bool) (K L s : List ℕ) (a unseen n : ℕ) → a ≡ 0 → length s ≡ n → K ≡ s ++ L
    → a + seen_of whole L unseen ≡ a + seen_of whole K unseen - n
seen_less true K L s a unseen n e long f = omega (arith, e, long, ap length f, length-append s L)
seen_less false K L s a unseen n e long f = omega (arith, e)

-- what follows of an answer from two facts
pub ok_both : {A E : Type 0} (r : Result A E) (P Q S : A → Type 0) → ((v : A) → P v → Q v → S v) → IfOk r P → IfOk r Q → IfOk r S
ok_both (Ok v) P Q S f h k = f v h k
ok_both (Err e) P Q S f h k = tt

-- what follows of a success from three facts
pub sure_all : {A E : Type 0} {G : Type 0} (r : Result A E) (P Q S : A → Type 0) → IsOk r → ((v : A) → P v → Q v → S v → G) → IfOk r P → IfOk r Q
    → IfOk r S → G
sure_all (Ok v) P Q S ok f h k l = f v h k l
sure_all (Err e) P Q S ok f h k l = absurd (cc)

-- what the source had at hand, where nothing was looked at
pub ready_bytes : (start end_ : ℕ) (l K L s : List ℕ) (n : ℕ) → end_ - start ≡ 0 → length s ≡ n → K ≡ s ++ L
    → pending start end_ l ++ K ≡ s ++ drop n (pending start end_ l ++ K)
ready_bytes start end_ l K L s n e long f =
    front_is s (pending start end_ l ++ K) L n long (ap (λ x. x ++ K) (pending_none start end_ l e) ∙ f)

pub ready_there : (p K L s : List ℕ) (n : ℕ) → length s ≡ n → K ≡ s ++ L → n ≤ length (p ++ K)
ready_there p K L s n long f = omega (arith, long, ap length f, length-append s L, length-append p K)

pub ready_rest : (start end_ : ℕ) (l K L s : List ℕ) (n : ℕ) → end_ - start ≡ 0 → length s ≡ n → K ≡ s ++ L
    → pending start end_ l ++ L ≡ drop n (pending start end_ l ++ K)
ready_rest start end_ l K L s n e long f =
    ap (λ x. x ++ L) (pending_none start end_ l e)
    ∙ rest_is s (pending start end_ l ++ K) L n long (ap (λ x. x ++ K) (pending_none start end_ l e) ∙ f)

-- how many bytes a whole source had, whatever is left of it
pub size_whole : (whole : Bool) (count : ℕ) (rest more : List ℕ) → whole ≡ true → size_of whole count rest ≡ size_of whole count more
size_whole true count rest more is = refl
size_whole false count rest more is = absurd (cc)

-- how many another had, behind n bytes of it
pub size_behind : (whole : Bool) (count n : ℕ) (r rest : List ℕ) → whole ≡ false → r ≡ drop n rest → n ≤ length rest
    → size_of whole ((count + n) % 2 ^ 64) r ≡ size_of whole count rest
size_behind true count n r rest is h few = absurd (cc)
size_behind false count n r rest is h few = omega (arith, few, ap length h, length-drop n rest)

-- a state behind n bytes, by its parts
pub moved_is : (st : State) (r : List ℕ) (a m z : ℕ) (f : Bool) (n : ℕ) → r ≡ drop n st.rest → a ≡ st.ahead - n
    → m ≡ st.source.name → z ≡ st.source.size → f ≡ st.failed
    → record st { rest = r; ahead = a; source = record { name = m; size = z }; failed = f } ≡ after_bytes n st
moved_is st r a m z f n hr ha hm hz hf =
    ap (λ x. record st { rest = x; ahead = a; source = record { name = m; size = z }; failed = f }) hr
    ∙ ap (λ x. record st { rest = drop n st.rest; ahead = x; source = record { name = m; size = z }; failed = f }) ha
    ∙ ap (λ x. record st { rest = drop n st.rest; ahead = st.ahead - n; source = record { name = x; size = z }; failed = f }) hm
    ∙ ap (λ x. record st { rest = drop n st.rest; ahead = st.ahead - n; source = record { name = st.source.name; size = x }; failed = f }) hz
    ∙ ap (λ x. record st { rest = drop n st.rest; ahead = st.ahead - n; failed = x }) hf

-- the same where the bytes of a source that isn't whole are counted behind that
pub counted_is : (whole : Bool) (st new : State) (r : List ℕ) (a m count : ℕ) (f : Bool) (n : ℕ)
    → (whole ≡ true → new ≡ record { rest = r; ahead = a; source = record { name = m; size = size_of whole count r }; failed = f })
    → (whole ≡ false → new ≡ record {
      rest = r;
      ahead = a;
      source = record { name = m; size = (size_of whole count r + n) % 2 ^ 64 };
      failed = f;
    })
    → st.source.size ≡ size_of whole count st.rest → n ≤ length st.rest → r ≡ drop n st.rest → a ≡ st.ahead - n → m ≡ st.source.name
    → f ≡ st.failed → new ≡ after_bytes n st
counted_is true st new r a m count f n w o z few hr ha hm hf = w refl ∙ moved_is st r a m count f n hr ha hm (sym z) hf
counted_is false st new r a m count f n w o z few hr ha hm hf =
    o refl ∙ moved_is st r a m (((count + length r) % 2 ^ 64 + n) % 2 ^ 64) f n hr ha hm
    (omega (arith, z, few, ap length hr, length-drop n st.rest)) hf

-- what was looked at is at the front of its buffer, and more behind it
kept_front : (start end_ : ℕ) (l moved_ : List ℕ) → start ≤ end_ → end_ ≤ length l → moved_ ≡ copy_within l start end_ 0
    → take (end_ - start) moved_ ≡ pending start end_ l
kept_front start end_ l moved_ h w e =
    let k = end_ - start in
    let at : 0 + k ≡ k = omega arith in
    ap (take k) e ∙ ap (λ n. take n (copy_within l start end_ 0)) (sym at)
    ∙ take-paste l 0 (drop start l) k (omega arith) (omega (arith, length-drop start l))

pub looked_more : (start end_ a n : ℕ) (l moved_ b tail K L : List ℕ) → a ≡ end_ - start → start ≤ end_ → end_ ≤ length l
    → moved_ ≡ copy_within l start end_ 0 → length moved_ ≡ length l → n ≤ length b → K ≡ take n b ++ L
    → pending 0 (a + n) (take a moved_ ++ (b ++ tail)) ++ L ≡ pending start end_ l ++ K
looked_more start end_ a n l moved_ b tail K L is h w e same few f =
    let front = take a moved_ in
    let long : length front ≡ a = length-take-le a moved_ (omega (arith, same, is)) in
    let whole : a + n - 0 ≡ length front + n = omega (arith, long) in
    let all : take (a + n - 0) (front ++ (b ++ tail)) ≡ front ++ take n b =
    ap (λ k. take k (front ++ (b ++ tail))) whole ∙ take-append-add front (b ++ tail) n
    ∙ ap (λ x. front ++ x) (take-append-le n b tail few) in
    ap (λ x. x ++ L) (all ∙ ap (λ x. x ++ take n b) (ap (λ k. take k moved_) is ∙ kept_front start end_ l moved_ h w e))
    ∙ append_assoc (pending start end_ l) (take n b) L ∙ ap (λ x. pending start end_ l ++ x) (sym f)

pub moved_length : (start end_ a n : ℕ) (l moved_ b tail : List ℕ) → a ≡ end_ - start → end_ ≤ length l → length moved_ ≡ length l
    → n ≤ length b → length (take (a + n) (take a moved_ ++ (b ++ tail))) ≡ a + n
moved_length start end_ a n l moved_ b tail is w same few =
    let front = take a moved_ in
    let long : length front ≡ a = length-take-le a moved_ (omega (arith, same, is, w)) in
    length-take-le (a + n) (front ++ (b ++ tail))
    (omega (arith, few, long, length-append front (b ++ tail), length-append b tail))

-- bytes of the buffer that were copied, where more were moved to it
pub moved_bytes : (start end_ a n k : ℕ) (l moved_ b tail K L x y : List ℕ) → a ≡ end_ - start → start ≤ end_ → end_ ≤ length l
    → moved_ ≡ copy_within l start end_ 0 → length moved_ ≡ length l → n ≤ length b → K ≡ take n b ++ L → k ≤ a + n
    → x ≡ take k (take (a + n) (take a moved_ ++ (b ++ tail))) ++ y
    → pending start end_ l ++ K ≡ take k x ++ drop k (pending start end_ l ++ K)
moved_bytes start end_ a n k l moved_ b tail K L x y is h w e same few f less at_ =
    let all = take a moved_ ++ (b ++ tail) in
    let p = take (a + n) all in
    let long : length p ≡ a + n = moved_length start end_ a n l moved_ b tail is w same few in
    let none : a + n ≡ a + n - 0 = omega arith in
    let whole : p ++ L ≡ pending start end_ l ++ K = ap (λ m. take m all ++ L) none
    ∙ looked_more start end_ a n l moved_ b tail K L is h w e same few f in
    subst (λ r. r ≡ take k x ++ drop k r) whole (copied_bytes k p L x y (omega (arith, less, long)) at_)

-- a state after a look, by its parts
pub looked_is : (st : State) (r : List ℕ) (a m z : ℕ) (f : Bool) (n : ℕ) → r ≡ st.rest → a ≡ max st.ahead n → m ≡ st.source.name
    → z ≡ st.source.size → f ≡ st.failed
    → record st { rest = r; ahead = a; source = record { name = m; size = z }; failed = f } ≡ after_look n st
looked_is st r a m z f n hr ha hm hz hf =
    ap (λ x. record st { rest = x; ahead = a; source = record { name = m; size = z }; failed = f }) hr
    ∙ ap (λ x. record st { ahead = x; source = record { name = m; size = z }; failed = f }) ha
    ∙ ap (λ x. record st { ahead = max st.ahead n; source = record { name = x; size = z }; failed = f }) hm
    ∙ ap (λ x. record st { ahead = max st.ahead n; source = record { name = st.source.name; size = x }; failed = f }) hz
    ∙ ap (λ x. record st { ahead = max st.ahead n; failed = x }) hf
