-- What keeps the reserve of a source.
use Rattle.std.proofs.Common.{◌≡◌, ◌≤◌, ◌<◌, ◌+◌, ◌-◌, ℕ, zero, suc, Bool, true, false, Option, Some, None, List, [], ◌∷◌, length, drop, max, get_or, set}
use Rattle.std.proofs.Common.{Result, Ok, Err, MatchOption, unwrap_or, refl, sym, ap, ◌∙◌, subst, arith}
use Rattle.std.proofs.lemmas.List.{length-drop}
use Rattle.amqp_lookahead.specs.State.{State as Input, after_bytes as after_pull, after_look as after_peek}
use Rattle.amqp_decoder.specs.declared.frame.OpenContainer.{OpenContainer}
use Rattle.amqp_decoder.specs.declared.frame.Place.TheVariants.{InList}
use Rattle.amqp_decoder.specs.State.{DescriptorValues, Open, State, Has, lower, bound_of, bytes_left, announced, after_bytes, holding}
use Rattle.amqp_decoder.specs.State.{open_of, stack, limit_around, unused, left_in, emptied}
use Rattle.amqp_decoder.specs.Reserve.{Owes, Spared, Spares, Shows}
use Rattle.std.specs.Option.{option_and}
use Rattle.amqp_decoder.proofs.Steps.{lowered, bound_left}
use Rattle.amqp_decoder.proofs.Rows.{stack-push, described_push, around_left}

-- which descriptors they share is all the same
pub owes_others : (ds es : DescriptorValues) (limit : Option ℕ) (d : ℕ) (fs : List OpenContainer) (most : ℕ) → Owes (stack ds limit d fs) most
    → Owes (stack es limit d fs) most
owes_others ds es limit zero fs most h = h
owes_others ds es limit (suc d) fs most h = (
  h.0,
  h.1,
  h.2,
  owes_others ds es (limit_around (get_or fs d unused).left limit) d fs h.1 h.3,
  h.4,
)

pub spared_others : {reserve n there ahead : ℕ} (ds es : DescriptorValues) (limit around : Option ℕ) (d : ℕ) (fs : List OpenContainer)
    (f : OpenContainer) → Spared reserve n there ahead (open_of ds limit f ∷ stack ds around d fs)
    → Spared reserve n there ahead (open_of es limit f ∷ stack es around d fs)
spared_others ds es limit around d fs f h =
    let o = h.owed in
    record { seen = h.seen; most = h.most; owed = (o.0, o.1, o.2, owes_others ds es around d fs o.1 o.3, o.4); fits = h.fits }

-- another container with as many bytes left
pub spared_kept : {reserve n there ahead : ℕ} {f g : Open} {fs : List Open} → g.left ≡ f.left → Spared reserve n there ahead (f ∷ fs)
    → Spared reserve n there ahead (g ∷ fs)
spared_kept is h =
    let o = h.owed in record { seen = h.seen; most = h.most; owed = (o.0, o.1, is ∙ o.2, o.3, o.4); fits = h.fits }

-- fewer bytes are taken
pub spares_less : (reserve n k : ℕ) (st : State) → k ≤ n → Spares reserve n st → Spares reserve k st
spares_less reserve n k st less h = λ one sound some.
    let s = h one sound some in
    record { seen = s.seen; most = s.most; owed = s.owed; fits = let f = s.fits in omega (arith, f, less) }

some_is : (a b : ℕ) → Some a ≡ Some b → a ≡ b
some_is a b e = ap (λ o. unwrap_or o 0) e

has_some : (o : Option ℕ) (l n : ℕ) → o ≡ Some l → Has o n → n ≤ l
has_some o l n e h = subst (λ x. Has x n) e h

-- bytes are counted that will be taken
pub spares_lowered : (reserve n : ℕ) (st : State) → Has st.top.left n → Spares reserve 0 st → Spares reserve n (lowered n st)
spares_lowered reserve n st room h = λ one sound some.
    let s = h one sound some in
    let o = s.owed in
    let few : n ≤ o.0 = has_some st.top.left o.0 n o.2 room in
    let least = o.4 in
    let fits = s.fits in
    record {
      seen = s.seen;
      most = s.most - n;
      owed = (o.0 - n, o.1, ap (λ x. lower x n) o.2, o.3, omega (arith, few, least));
      fits = omega (arith, few, least, fits);
    }

-- they are taken
pub spares_taken : (reserve n k : ℕ) (st : State) → Spares reserve (n + k) st → Spares reserve k (after_bytes n st)
spares_taken reserve n k st h = λ one sound some.
    let s = h one sound some in
    let seen = s.seen in
    let fits = s.fits in
    let left = length-drop n st.rest in
    record {
      seen = omega (arith, seen, fits, left);
      most = s.most;
      owed = s.owed;
      fits = omega (arith, fits, left);
    }

-- a byte is left
one_left : (own others most reserve there : ℕ) → (own ≡ 0 → ⊥) → own + others ≤ most → most + 0 + reserve ≤ there → 1 + reserve ≤ there
one_left zero others most reserve there some least fits = absurd (some refl)
one_left (suc own) others most reserve there some least fits = omega (arith, least, fits)

pub shows_next : (reserve : ℕ) (st : State) → (st.top.left ≡ Some 0 → ⊥) → Spares reserve 0 st → Shows reserve 1 st
shows_next reserve st unspent h = λ one sound some.
    let s = h one sound some in
    let o = s.owed in one_left o.0 o.1 s.most reserve (length st.rest) (λ e. unspent (o.2 ∙ ap Some e)) o.4 s.fits

bound_least : (f : Open) (own : ℕ) (o : Option ℕ) → bound_of f ≡ o → f.left ≡ Some own → unwrap_or o 0 ≤ own
bound_least f own None e is = omega arith
bound_least f own (Some l) e is = let same : l ≡ own = some_is l own (sym (bound_left f l e) ∙ is) in omega (arith, same)

-- what the sizes announce is among what is owed
pub owed_least : (fs : List Open) (most : ℕ) → Owes fs most → bytes_left fs ≤ most
owed_least [] most h = omega arith
owed_least (f ∷ fs) most h =
    let own = bound_least f h.0 (bound_of f) refl h.2 in let others = owed_least fs h.1 h.3 in let least = h.4 in omega (arith, own, others, least)

-- an empty list is open, and nothing around it
abbrev pub closed : State → State
closed st = record st { top = holding InList 0 0; saved = [] }

spared_closed : (reserve n : ℕ) (st : State) (s : Spared reserve 0 (length st.rest) st.ahead (st.top ∷ st.saved)) → n ≤ s.most
    → Spared reserve n (length st.rest) st.ahead (holding InList 0 0 ∷ [])
spared_closed reserve n st s less =
    let fits = s.fits in
    record { seen = s.seen; most = 0; owed = (0, 0, refl, tt, omega arith); fits = omega (arith, fits, less) }

pub spares_announced : (reserve : ℕ) (st : State) → Spares reserve 0 st → Spares reserve (announced st) (closed st)
spares_announced reserve st h = λ one sound some.
    let s = h one sound some in spared_closed reserve (announced st) st s (owed_least (st.top ∷ st.saved) s.most s.owed)

pub spares_own : (reserve n : ℕ) (st : State) → Has st.top.left n → Spares reserve 0 st → Spares reserve n (closed st)
spares_own reserve n st room h = λ one sound some.
    let s = h one sound some in
    let o = s.owed in
    let few : n ≤ o.0 = has_some st.top.left o.0 n o.2 room in
    let least = o.4 in
    spared_closed reserve n st s (omega (arith, few, least))

-- bytes in a row are taken
pub spares_part : (reserve len k n : ℕ) (st m : State) → m ≡ after_bytes k st → k + n ≤ len → Spares reserve len st → Spares reserve n m
spares_part reserve len k n st m is fits h =
    subst (Spares reserve n) (sym is) (spares_taken reserve k n st (spares_less reserve len (k + n) st fits h))

-- what may stand behind a term is read
pub spares_among : (reserve n : ℕ) (st : State) → st.failed.alone ≡ false → Spares reserve n st
spares_among reserve n st among = λ one. absurd (cc)

pub shows_among : (reserve n : ℕ) (st : State) → st.failed.alone ≡ false → Shows reserve n st
shows_among reserve n st among = λ one. absurd (cc)

-- frames, whatever descriptors they share
pub spared_inside : {reserve content there ahead : ℕ} (ds : DescriptorValues) (limit : Option ℕ) (d : ℕ) (fs : List OpenContainer)
    (f : OpenContainer) (g : OpenContainer) → g.left ≡ Some content → d < length fs
    → Spared reserve content there ahead (open_of ds limit f ∷ stack ds (limit_around f.left limit) d fs)
    → Spared reserve 0 there ahead (open_of [] limit g ∷ stack [] (limit_around g.left limit) (d + 1) (set fs d f))
spared_inside {content = content} ds limit d fs f g is few h =
    let s = spared_others ds [] limit (limit_around f.left limit) d fs f h in
    let fits = s.fits in
    record {
      seen = s.seen;
      most = content + s.most;
      owed = (
        content,
        s.most,
        ap (λ o. left_in o limit) is,
        subst (λ l. Owes l s.most) (sym (stack-push [] limit d fs f few) ∙ ap (λ o. stack [] (limit_around o limit) (d + 1) (set fs d f)) (sym is))
            s.owed,
        omega arith,
      );
      fits = omega (arith, fits);
    }

emptied_none : (o : Option ℕ) (own : ℕ) → o ≡ Some own → emptied o ≡ Some 0
emptied_none o own e = ap emptied e

pub spared_described : {reserve there ahead : ℕ} (limit : Option ℕ) (d : ℕ) (fs : List OpenContainer) (f : OpenContainer) (k : Option ℕ)
    (g : OpenContainer) → g.left ≡ f.left → d < length fs → k ≡ option_and {U = ℕ} f.left (Some 0)
    → Spared reserve 0 there ahead (open_of [] limit f ∷ stack [] (limit_around f.left limit) d fs)
    → Spared reserve 0 there ahead (open_of [] limit g ∷ stack [] (limit_around g.left limit) (d + 1) (set fs d (record f { left = k })))
spared_described limit d fs f k g is few both s =
    let o = s.owed in
    let least = o.4 in
    record {
      seen = s.seen;
      most = s.most;
      owed = (
        o.0,
        o.1,
        ap (λ x. left_in x limit) is ∙ o.2,
        subst (λ l. Owes l o.1)
            (sym (described_push [] limit d fs f k few both) ∙ ap (λ x. stack [] (limit_around x limit) (d + 1) (set fs d (record f { left = k }))) (sym is))
            (0, o.1, emptied_none (left_in f.left limit) o.0 o.2, o.3, omega arith),
        o.4,
      );
      fits = s.fits;
    }

pub spared_outside_described : {reserve there ahead : ℕ} {outer : Open} (limit : Option ℕ) (d k : ℕ) (fs : List OpenContainer) (f : OpenContainer)
    → outer.left ≡ left_in f.left limit → d ≡ suc k → ((get_or fs k unused).left ≡ None → f.left ≡ None)
    → Spared reserve 0 there ahead (open_of [] limit f ∷ stack [] (limit_around f.left limit) d fs)
    → Spared reserve 0 there ahead (outer ∷ stack [] (limit_around f.left limit) k fs)
spared_outside_described limit d k fs f is one none s =
    let o = s.owed in
    let inner : Owes (stack [] (limit_around f.left limit) (suc k) fs) o.1 =
    subst (λ n. Owes (stack [] (limit_around f.left limit) n fs) o.1) one o.3 in
    let least = o.4 in
    let few = inner.4 in
    record {
      seen = s.seen;
      most = s.most;
      owed = (
        o.0,
        inner.1,
        is ∙ o.2,
        subst (λ z. Owes (stack [] z k fs) inner.1) (around_left (get_or fs k unused).left f.left limit none) inner.3,
        omega (arith, least, few),
      );
      fits = s.fits;
    }

pub spared_outside : {reserve there ahead : ℕ} (limit : Option ℕ) (d k : ℕ) (fs : List OpenContainer) (f : OpenContainer) (l : ℕ)
    → f.left ≡ Some l → d ≡ suc k → Spared reserve 0 there ahead (open_of [] limit f ∷ stack [] (limit_around f.left limit) d fs)
    → Spared reserve 0 there ahead (open_of [] limit (get_or fs k unused) ∷ stack [] (limit_around (get_or fs k unused).left limit) k fs)
spared_outside limit d k fs f l is one s =
    let o = s.owed in
    let around : stack [] (limit_around f.left limit) d fs
    ≡ open_of [] limit (get_or fs k unused) ∷ stack [] (limit_around (get_or fs k unused).left limit) k fs =
    ap (λ x. stack [] (limit_around x limit) d fs) is ∙ ap (λ n. stack [] limit n fs) one in
    let least = o.4 in
    let fits = s.fits in
    record { seen = s.seen; most = o.1; owed = subst (λ l. Owes l o.1) around o.3; fits = omega (arith, least, fits) }

-- bytes are counted
pub spared_left : {reserve there ahead : ℕ} (limit : Option ℕ) (d : ℕ) (fs : List OpenContainer) (f : OpenContainer) (l left : ℕ)
    → f.left ≡ Some l → left ≤ l → Spared reserve 0 there ahead (open_of [] limit f ∷ stack [] (limit_around f.left limit) d fs)
    → Spared reserve 0 there ahead (open_of [] limit (record f { left = Some left }) ∷ stack [] limit d fs)
spared_left limit d fs f l left is less s =
    let o = s.owed in
    let own : l ≡ o.0 = some_is l o.0 (sym (ap (λ x. left_in x limit) is) ∙ o.2) in
    let least = o.4 in
    record {
      seen = s.seen;
      most = s.most;
      owed = (left, o.1, refl, subst (λ x. Owes (stack [] (limit_around x limit) d fs) o.1) is o.3, omega (arith, own, less, least));
      fits = s.fits;
    }

-- bytes are counted that will be taken
pub spared_left_for : {reserve there ahead : ℕ} (limit : Option ℕ) (d : ℕ) (fs : List OpenContainer) (f : OpenContainer) (l n left : ℕ)
    → f.left ≡ Some l → n ≤ l → left ≡ l - n → Spared reserve 0 there ahead (open_of [] limit f ∷ stack [] (limit_around f.left limit) d fs)
    → Spared reserve n there ahead (open_of [] limit (record f { left = Some left }) ∷ stack [] limit d fs)
spared_left_for limit d fs f l n left is few less s =
    let o = s.owed in
    let own : l ≡ o.0 = some_is l o.0 (sym (ap (λ x. left_in x limit) is) ∙ o.2) in
    let least = o.4 in
    let fits = s.fits in
    record {
      seen = s.seen;
      most = s.most - n;
      owed = (left, o.1, refl, subst (λ x. Owes (stack [] (limit_around x limit) d fs) o.1) is o.3, omega (arith, own, few, less, least));
      fits = omega (arith, own, few, least, fits);
    }

lower_some : (o : Option ℕ) (n l : ℕ) → o ≡ Some l → lower o n ≡ Some (l - n)
lower_some o n l e = ap (λ x. lower x n) e

pub spared_limit : {reserve there ahead : ℕ} (limit less : Option ℕ) (d : ℕ) (fs : List OpenContainer) (f : OpenContainer) (n : ℕ)
    → f.left ≡ None → less ≡ lower limit n → emptied less ≡ emptied limit
    → Spared reserve 0 there ahead (open_of [] limit f ∷ stack [] (limit_around f.left limit) d fs)
    → Spared reserve 0 there ahead (open_of [] less f ∷ stack [] (limit_around f.left less) d fs)
spared_limit limit less d fs f n is lowered_ same s =
    let o = s.owed in
    let own : limit ≡ Some o.0 = sym (ap (λ x. left_in x limit) is) ∙ o.2 in
    let around : limit_around f.left limit ≡ limit_around f.left less =
    ap (λ x. limit_around x limit) is ∙ sym same ∙ sym (ap (λ x. limit_around x less) is) in
    let least = o.4 in
    record {
      seen = s.seen;
      most = s.most;
      owed = (
        o.0 - n,
        o.1,
        ap (λ x. left_in x less) is ∙ lowered_ ∙ lower_some limit n o.0 own,
        subst (λ z. Owes (stack [] z d fs) o.1) around o.3,
        omega (arith, least),
      );
      fits = s.fits;
    }

-- the same where no size bounds them
pub spared_limit_for : {reserve there ahead : ℕ} (limit less : Option ℕ) (d : ℕ) (fs : List OpenContainer) (f : OpenContainer) (n : ℕ)
    → f.left ≡ None → Has limit n → less ≡ lower limit n → emptied less ≡ emptied limit
    → Spared reserve 0 there ahead (open_of [] limit f ∷ stack [] (limit_around f.left limit) d fs)
    → Spared reserve n there ahead (open_of [] less f ∷ stack [] (limit_around f.left less) d fs)
spared_limit_for limit less d fs f n is room lowered_ same s =
    let o = s.owed in
    let own : limit ≡ Some o.0 = sym (ap (λ x. left_in x limit) is) ∙ o.2 in
    let few : n ≤ o.0 = has_some limit o.0 n own room in
    let around : limit_around f.left limit ≡ limit_around f.left less =
    ap (λ x. limit_around x limit) is ∙ sym same ∙ sym (ap (λ x. limit_around x less) is) in
    let least = o.4 in
    let fits = s.fits in
    record {
      seen = s.seen;
      most = s.most - n;
      owed = (
        o.0 - n,
        o.1,
        ap (λ x. left_in x less) is ∙ lowered_ ∙ lower_some limit n o.0 own,
        subst (λ z. Owes (stack [] z d fs) o.1) around o.3,
        omega (arith, few, least),
      );
      fits = omega (arith, few, least, fits);
    }

-- where nothing bounds them, no reserve is kept
pub spared_unbounded : {reserve n there ahead : ℕ} {fs : List Open} (f : OpenContainer) (limit : Option ℕ) → f.left ≡ None → limit ≡ None
    → Spared reserve n there ahead (open_of [] limit f ∷ fs) → ⊥
spared_unbounded f limit is none s =
    let o = s.owed in
    let own : None ≡ Some o.0 = sym none ∙ sym (ap (λ x. left_in x limit) is) ∙ o.2 in absurd (cc)

-- what the input gives is taken
pub spared_pulled : {reserve n : ℕ} {fs : List Open} (k : ℕ) (old new : Input) → new ≡ after_pull k old → k ≤ n
    → Spared reserve n (length old.rest) old.ahead fs → Spared reserve 0 (length new.rest) new.ahead fs
spared_pulled {reserve} {fs = fs} k old new is few s =
    let seen = s.seen in
    let fits = s.fits in
    let left = length-drop k old.rest in
    let after : Spared reserve 0 (length (drop k old.rest)) (old.ahead - k) fs = record {
      seen = omega (arith, seen, fits, left, few);
      most = s.most;
      owed = s.owed;
      fits = omega (arith, fits, left, few);
    } in
    subst (λ (i : Input). Spared reserve 0 (length i.rest) i.ahead fs) (sym is) after

pub spared_if : {reserve n : ℕ} {fs : List Open} (done : Bool) (old new : Input) → (done ≡ true → new ≡ after_pull n old)
    → (done ≡ false → new ≡ old) → Spared reserve n (length old.rest) old.ahead fs → Spared reserve 0 (length new.rest) new.ahead fs
spared_if {n = n} true old new taken left s = spared_pulled n old new (taken refl) (omega arith) s
spared_if {reserve} {fs = fs} false old new taken left s =
    let fits = s.fits in
    let less : Spared reserve 0 (length old.rest) old.ahead fs =
    record { seen = s.seen; most = s.most; owed = s.owed; fits = omega (arith, fits) } in
    subst (λ (i : Input). Spared reserve 0 (length i.rest) i.ahead fs) (sym (left refl)) less

get_ok : {E : Type 0} → Result Bool E → Bool
get_ok (Ok b) = b
get_ok (Err e) = false

pub spared_done : {E : Type 0} {reserve n : ℕ} {fs : List Open} (done : Bool) (old new : Input)
    → (◌≡◌ {A = Result Bool E} (Ok done) (Ok true) → new ≡ after_pull n old)
    → ((◌≡◌ {A = Result Bool E} (Ok done) (Ok true) → ⊥) → new ≡ old) → Spared reserve n (length old.rest) old.ahead fs
    → Spared reserve 0 (length new.rest) new.ahead fs
spared_done done old new taken left s =
    spared_if done old new (λ t. taken (ap Ok t)) (λ f. left (λ e. (let t = ap (λ r. get_ok r) e in absurd (cc)))) s

-- it is looked at
pub spared_looked : {reserve n : ℕ} {fs : List Open} (k : ℕ) (old new : Input) → new ≡ after_peek k old → k ≤ n
    → n + reserve ≤ length old.rest → Spared reserve 0 (length old.rest) old.ahead fs → Spared reserve 0 (length new.rest) new.ahead fs
spared_looked {reserve} {fs = fs} k old new is few shows s =
    let seen = s.seen in
    let after : Spared reserve 0 (length old.rest) (max old.ahead k) fs =
    record { seen = omega (arith, seen, few, shows); most = s.most; owed = s.owed; fits = s.fits } in
    subst (λ (i : Input). Spared reserve 0 (length i.rest) i.ahead fs) (sym is) after

pub spared_next : {reserve : ℕ} {fs : List Open} (o : Option ℕ) (old new : Input)
    → MatchOption o (new ≡ old) (λ b. (old.rest ≡ b ∷ drop 1 old.rest) × (new ≡ after_peek 1 old)) → 1 + reserve ≤ length old.rest
    → Spared reserve 0 (length old.rest) old.ahead fs → Spared reserve 0 (length new.rest) new.ahead fs
spared_next {reserve} {fs = fs} None old new is shows s = subst (λ (i : Input). Spared reserve 0 (length i.rest) i.ahead fs) (sym is) s
spared_next (Some b) old new (next, is) shows s = spared_looked {n = 1} 1 old new is (omega arith) shows s
