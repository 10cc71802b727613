-- A value that is read the quick way is one that is read by its parts.
use Rattle.std.proofs.Common.{◌≡◌, ◌<◌, ℕ, ◌-◌, ◌+◌, Option, Some, List, [], ◌∷◌, ◌++◌, length, drop, get_or, min, refl, sym, ap, ◌∙◌, subst, arith, suc}
use Rattle.std.proofs.Common.{drop-drop, None, IfSome, MatchOption}
use Rattle.std.proofs.lemmas.List.{length-drop, take_all}
use Rattle.amqp_lookahead.proofs.SectionsAhead.{bytes_at, bytes_are}
use Rattle.amqp_model.specs.Term.{Descriptor}
use Rattle.amqp_decoder.specs.State.{State, Has, lower, counted, counted_in, after_data, after_look}
use Rattle.amqp_decoder.specs.Steps.{Takes}
use Rattle.amqp_decoder.specs.Reading.{IsFirstShared, ReadsCode, PeeksCode}
use Rattle.amqp_decoder.specs.Primitives.{ReadsFixed}
use Rattle.amqp_decoder.specs.Quick.{IsPlain, IsElement}
use Rattle.amqp_decoder.proofs.Counts.{one_may_begin, unshared_counts}
use Rattle.amqp_decoder.proofs.Steps.{began, begun_own, begun_shared, has_item}
use Rattle.amqp_decoder.proofs.Peeks.{peeked_own}
use Rattle.amqp_decoder.proofs.ReadPrimitives.{took_none, has_front, has_rest, lower-lower}

-- a value of n bytes is taken, which counts as k
abbrev pub taken_quick : ℕ → ℕ → State → State
taken_quick n k st = record st {
  rest = drop n st.rest;
  ahead = st.ahead - n;
  top = record st.top { items = lower st.top.items 1; left = lower st.top.left n };
  quota = lower st.quota k;
}

parts_same : (st : State) (k : ℕ) (r r' : List ℕ) (a a' : ℕ) (o o' : Option ℕ) → r ≡ r' → a ≡ a' → o ≡ o'
    → record st { rest = r; ahead = a; top = record st.top { items = lower st.top.items 1; left = o }; quota = lower st.quota k }
    ≡ record st { rest = r'; ahead = a'; top = record st.top { items = lower st.top.items 1; left = o' }; quota = lower st.quota k }
parts_same st k r r' a a' o o' er ea eo =
    ap (λ x. record (taken_quick 0 k st) { rest = x; ahead = a; top = record st.top { items = lower st.top.items 1; left = o } }) er
    ∙ ap (λ x. record (taken_quick 0 k st) { rest = r'; ahead = x; top = record st.top { items = lower st.top.items 1; left = o } }) ea
    ∙ ap (λ x. record (taken_quick 0 k st) { rest = r'; ahead = a'; top = record st.top { items = lower st.top.items 1; left = x } }) eo

-- where nothing is shared and a value may begin, one may by any code
may_begin_plain : (st : State) (code : ℕ) → IsPlain st → Has st.quota (counted_in st.top.shared code)
may_begin_plain st code plain =
    subst (Has st.quota) (sym (unshared_counts st.top.shared code plain.own)) (one_may_begin st.quota code plain.few)

quick_parts : (st : State) (code : ℕ) (b : List ℕ) → IsPlain st → Has st.top.left (1 + length b) → st.rest ≡ code ∷ drop 1 st.rest
    → st.rest ≡ code ∷ (b ++ drop (suc (length b)) st.rest) → ReadsFixed code (length b) st b
    (taken_quick (1 + length b) (counted_in st.top.shared code) st)
quick_parts st code b plain fits next rest =
    let n = length b in
    let mid = began code (after_data 1 st) in
    let past : st.ahead - (1 + n) ≡ st.ahead - 1 - n = omega arith in
    let whole : suc n ≡ 1 + n = omega arith in
    let skip : drop (1 + n) st.rest ≡ drop n (drop 1 st.rest) = sym (drop-drop n 1 st.rest) in
    let took : Takes st (code ∷ []) (after_data 1 st) =
    record { room = has_front st.top.left 1 n fits; rest = next; moved = refl } in
    let behind : drop 1 st.rest ≡ b ++ drop n (drop 1 st.rest) =
    ap (drop 1) rest ∙ ap (λ x. b ++ x) (ap (λ k. drop k st.rest) whole ∙ skip) in
    record {
      mid = mid;
      begun = begun_own st code (after_data 1 st) plain.going plain.item plain.own took (may_begin_plain st code plain);
      took = record {
        room = has_rest st.top.left 1 n fits;
        rest = behind;
        moved = parts_same st (counted_in st.top.shared code) _ _ _ _ _ _ skip past (sym (lower-lower st.top.left 1 n));
      };
      width = refl;
    }

-- a value of one code, all of whose bytes were taken at once
pub quick_reads : (st : State) (code n : ℕ) (s : List ℕ) (new : State) → IsPlain st → Has st.top.left n → 0 < n → length s ≡ n
    → st.rest ≡ code ∷ drop 1 st.rest → st.rest ≡ s ++ drop (length s) st.rest → new ≡ taken_quick n (counted code) st
    → ReadsFixed code (n - 1) st (drop 1 s) new
quick_reads st code n [] new plain fits some long next rest e = absurd (omega (arith, some, long))
quick_reads st code n (c ∷ b) new plain fits some long next rest e =
    let same : c ≡ code = ap (λ x. get_or x 0 0) (sym rest ∙ next) in
    let whole : n ≡ 1 + length b = omega (arith, long) in
    let counts : counted_in st.top.shared code ≡ counted code = unshared_counts st.top.shared code plain.own in
    subst (λ k. ReadsFixed code k st b new) (omega (arith, whole))
    (subst (ReadsFixed code (length b) st b)
    (ap (λ k. taken_quick k (counted_in st.top.shared code) st) (sym whole) ∙ ap (λ k. taken_quick n k st) counts ∙ sym e)
    (quick_parts st code b plain (subst (Has st.top.left) whole fits) next
    (rest ∙ ap (λ x. x ∷ (b ++ drop (suc (length b)) st.rest)) same)))

-- where the bytes are taken, and the value off the container
pub quick_moved : (n k : ℕ) (s : List ℕ) (st b d new : State) → length s ≡ n → b ≡ after_data (length s) st
    → d ≡ record b { top = record b.top { items = lower b.top.items 1 } } → new ≡ record d { quota = lower d.quota k }
    → new ≡ taken_quick n k st
quick_moved n k s st b d new long eb ed en =
    en ∙ ap (λ (x : State). record x { quota = lower x.quota k })
    (ed ∙ ap (λ (x : State). record x { top = record x.top { items = lower x.top.items 1 } }) eb)
    ∙ ap (λ j. taken_quick j k st) long

-- a look the quick way
pub quick_peeks : (st : State) (c : ℕ) (new : State) → IsPlain st → (st.top.left ≡ Some 0 → ⊥)
    → (st.rest ≡ c ∷ drop 1 st.rest) × (new ≡ after_look 1 st) → PeeksCode st c new
quick_peeks st c new plain left (next, is) =
    let one : 1 ≡ min 1 (length st.rest) = omega (arith, ap length next) in
    peeked_own st c new plain.going plain.item plain.own (has_item st.top.left left) (is ∙ ap (λ n. after_look n st) one) next
    (may_begin_plain st c plain)

-- a look the quick way, which finds a code or none
pub quick_looks : (st : State) (o : Option ℕ) (new : State) → IsPlain st → (st.top.left ≡ Some 0 → ⊥)
    → MatchOption o (new ≡ st) (λ b. (st.rest ≡ b ∷ drop 1 st.rest) × (new ≡ after_look 1 st)) → IfSome o (λ c. PeeksCode st c new)
quick_looks st None new plain left h = tt
quick_looks st (Some c) new plain left h = quick_peeks st c new plain left h

-- the bytes behind a code, one by one
pub behind_code : (n : ℕ) (l : List ℕ) → length (drop 1 l) ≡ suc n → drop 1 l ≡ bytes_at (suc n) 1 l
behind_code n l h = sym (take_all (suc n) (drop 1 l) (omega (arith, h))) ∙ bytes_are (suc n) 1 l (omega (arith, h, length-drop 1 l))

-- a code without data begins a value
quick_begun : (st mid new : State) (code : ℕ) (b : List ℕ) → length b ≡ 0 → ReadsCode st code mid → new ≡ after_data (length b) mid
    → ReadsCode st code new
quick_begun st mid new code b none g e =
    subst (ReadsCode st code) (sym (e ∙ ap (λ n. after_data n mid) none ∙ sym (took_none mid).moved)) g

pub quick_begins : (st : State) (s : List ℕ) (new : State) → IsPlain st → Has st.top.left 1 → length s ≡ 1
    → st.rest ≡ s ++ drop (length s) st.rest → new ≡ taken_quick 1 (counted (get_or s 0 0)) st
    → ReadsCode st (get_or s 0 0) new
quick_begins st [] new plain some long rest e = absurd (omega (arith, long))
quick_begins st (c ∷ d ∷ s) new plain some long rest e = absurd (omega (arith, long))
quick_begins st (c ∷ []) new plain some long rest e =
    let f = quick_reads st c 1 (c ∷ []) new plain some (omega arith) refl rest rest e in
    quick_begun st f.mid new c [] refl f.begun f.took.moved

-- an item is taken, which counts as k
abbrev taken_element : ℕ → State → State
taken_element k st = record st { top = record st.top { items = lower st.top.items 1 }; quota = lower st.quota k }

-- the items of an array whose constructor has no descriptor weigh as the code does
element_counts : (o : Option (List Descriptor × ℕ)) (c : ℕ) → IsFirstShared o c → 0 < c → counted_in o c ≡ counted c
element_counts None c h some = absurd h
element_counts (Some ([], k)) c h some = refl
element_counts (Some (d ∷ ds, k)) c h some = absurd (omega (arith, h, some))

-- the data of an item that was taken at once
pub element_reads : (st : State) (code n : ℕ) (s : List ℕ) (b d new : State) → IsElement code st → length s ≡ n → Takes st s b
    → d ≡ record b { top = record b.top { items = lower b.top.items 1 } } → new ≡ record d { quota = lower d.quota (counted code) }
    → ReadsFixed code n st s new
element_reads st code n s b d new e long t ed en =
    let counts = element_counts st.top.shared code e.shared e.coded in
    let few : Has st.quota (counted_in st.top.shared code) = subst (Has st.quota) (sym counts) (one_may_begin st.quota code e.few) in
    let taken : new ≡ taken_element (counted code) (after_data (length s) st) =
    en ∙ ap (λ (x : State). record x { quota = lower x.quota (counted code) })
    (ed ∙ ap (λ (x : State). record x { top = record x.top { items = lower x.top.items 1 } }) t.moved) in
    record {
      mid = began code st;
      begun = begun_shared st code e.going e.item e.shared few;
      took = record {
        room = t.room;
        rest = t.rest;
        moved = taken ∙ ap (λ k. taken_element k (after_data (length s) st)) (sym counts);
      };
      width = long;
    }

-- the code of a described value is one byte without data
pub code_begins : (st : State) (code : ℕ) (b : List ℕ) (new : State) → ReadsFixed code 0 st b new → ReadsCode st code new
code_begins st code b new f = quick_begun st f.mid new code b f.width f.begun f.took.moved
