-- What is read within limits of the caller is what is read without, as far as its terms are within them.
use Rattle.std.proofs.Common.{◌≡◌, ◌+◌, ◌↔◌, ℕ, zero, suc, max, Bool, true, false, List, [], ◌++◌, length, take, drop, Option, Some, None, refl, sym, ap, ap₂, ◌∙◌}
use Rattle.std.proofs.Common.{subst, arith, length-append, append_assoc, append-nil}
use Rattle.std.proofs.lemmas.List.{drop_at, take_at}
use Rattle.amqp_model.specs.Term.{Term, Terms, none, more}
use Rattle.amqp_model.specs.Spelling.{IsSpelling, AreItemsOf}
use Rattle.amqp_model.specs.Measures.{nests, weight, weights}
use Rattle.amqp_model.proofs.Lengths.{spelling_length}
use Rattle.amqp_model.proofs.Unique.{one_front, one_term}
use Rattle.amqp_wire.specs.declared.limits.Limits.{Limits}
use Rattle.amqp_wire.specs.Limits.{limit_of}
use Rattle.amqp_decoder.specs.State.{State, Open, Has, lower, is_free, is_shared, weight_at}
use Rattle.amqp_decoder.specs.Primitives.{SpellsAs, standing}
use Rattle.amqp_decoder.proofs.ReadPrimitives.{has_add, has_front, has_rest, lower-lower}
use Rattle.amqp_codec.specs.TermType.{TermType}
use Rattle.amqp_codec.specs.TermReading.{reading_of}
use Rattle.amqp_codec.specs.Reading.{Reading, Stays, AreAlike, BeginsWithin, BeginsWith, start, start_within, greatest}
use Rattle.amqp_batches.specs.Bounds.{AreAllowed, HasRoom, IsFresh, limited_to, without_limits, TakesRow, IsBoundByLimits}
use Rattle.amqp_batches.specs.laws.State.{still_among}
use Rattle.amqp_batches.specs.Walk.{Walk, Steps, Walked}
use Rattle.amqp_batches.specs.WalkReading.{walk_reading}
use Rattle.amqp_batches.specs.Runs.{RunStep, run_walk}

abbrev joined : Terms → Terms → Terms
joined none us = us
joined (more t ts) us = more t (joined ts us)

joined_spelled : (ts us : Terms) (b c : List ℕ) → AreItemsOf ts b → AreItemsOf us c → AreItemsOf (joined ts us) (b ++ c)
joined_spelled none us b c e k = subst (λ z. AreItemsOf us (z ++ c)) (sym e) k
joined_spelled (more t ts) us b c (first, second, e, i, j) k =
    (first, second ++ c, ap (λ z. z ++ c) e ∙ append_assoc first second c, i, joined_spelled ts us second c j k)

joined_nests : (ts us : Terms) → nests (joined ts us) ≡ max (nests ts) (nests us)
joined_nests none us = omega arith
joined_nests (more t ts) us = omega (arith, joined_nests ts us)

joined_weights : (ts us : Terms) → weights (joined ts us) false ≡ weights ts false + weights us false
joined_weights none us = omega arith
joined_weights (more t ts) us = omega (arith, joined_weights ts us)

-- a term by itself is a row
one_spelled : (t : Term) (b : List ℕ) → IsSpelling b t → AreItemsOf (more t none) b
unfolding IsSpelling
one_spelled t b h = (b, [], sym (append-nil b), h, refl)

no_bytes : (t : Term) (b c : List ℕ) → IsSpelling b t → b ++ c ≡ [] → ⊥
no_bytes t b c h e = omega (arith, spelling_length b t h, ap length e, length-append b c)

-- bytes are one row at most
one_row : (ts us : Terms) (b : List ℕ) → AreItemsOf ts b → AreItemsOf us b → ts ≡ us
unfolding IsSpelling
one_row none none b h k = refl
one_row none (more u us) b h (first, second, e, i, j) = absurd (no_bytes u first second i (sym e ∙ h))
one_row (more t ts) none b (first, second, e, i, j) k = absurd (no_bytes t first second i (sym e ∙ k))
one_row (more t ts) (more u us) b (first, second, e, i, j) (front, rest, f, k, l) =
    let both : first ++ second ≡ front ++ rest = sym e ∙ f in
    let begin : first ≡ front = one_front first front second rest t u i k both in
    let ends : rest ≡ second =
    sym (drop_at front rest (length first) (ap length (sym begin))) ∙ ap (drop (length first)) (sym both)
    ∙ drop_at first second (length first) refl in
    ap₂ more (one_term first front second rest t u i k both) (one_row ts us second j (subst (AreItemsOf us) ends l))

has_none : (o : Option ℕ) → Has o 0
has_none None = tt
has_none (Some l) = omega arith

lower-none : (o : Option ℕ) → lower o 0 ≡ o
lower-none None = refl
lower-none (Some l) = ap Some (omega arith)

-- nothing is the empty row
pub takes_none : (reads : State → State → Type 0) (st : State)
    → ((free : Bool) (nesting : ℕ) (left quota : Option ℕ) → reads (limited_to free nesting left quota st) (limited_to free nesting left quota st)) → TakesRow reads st st
takes_none reads st f = record {
  bytes = [];
  terms = none;
  rest = refl;
  spelled = refl;
  room = (omega arith, has_none st.top.left, has_none st.quota);
  left = sym (lower-none st.top.left);
  quota = sym (lower-none st.quota);
  within = λ free nesting left quota h.
      subst (λ l. reads (limited_to free nesting left quota st) (limited_to free nesting l (lower quota 0) st)) (sym (lower-none left))
      (subst (λ q. reads (limited_to free nesting left quota st) (limited_to free nesting left q st)) (sym (lower-none quota)) (f free nesting left quota));
}

-- two rows, one behind the other, are one
pub takes_then : (first second both : State → State → Type 0) (st mid b : State) → mid.nesting ≡ st.nesting
    → ((s m e : State) → first s m → second m e → both s e) → TakesRow first st mid → TakesRow second mid b → TakesRow both st b
takes_then first second both st mid b same f h k =
    let long : length (h.bytes ++ k.bytes) ≡ length h.bytes + length k.bytes = length-append h.bytes k.bytes in
    let many = joined_weights h.terms k.terms in
    let deep = joined_nests h.terms k.terms in
    record {
      bytes = h.bytes ++ k.bytes;
      terms = joined h.terms k.terms;
      rest = h.rest ∙ ap (λ z. h.bytes ++ z) k.rest ∙ sym (append_assoc h.bytes k.bytes b.rest);
      spelled = joined_spelled h.terms k.terms h.bytes k.bytes h.spelled k.spelled;
      room = (
        (let one = h.room.0 in let other = k.room.0 in omega (arith, one, other, same, deep)),
        subst (Has st.top.left) (sym long)
            (has_add st.top.left (length h.bytes) (length k.bytes) h.room.1 (subst (λ o. Has o (length k.bytes)) h.left k.room.1)),
        subst (Has st.quota) (sym many)
            (has_add st.quota (weights h.terms false) (weights k.terms false) h.room.2 (subst (λ o. Has o (weights k.terms false)) h.quota k.room.2)),
      );
      left =
          k.left ∙ ap (λ o. lower o (length k.bytes)) h.left ∙ lower-lower st.top.left (length h.bytes) (length k.bytes)
          ∙ ap (lower st.top.left) (sym long);
      quota =
          k.quota ∙ ap (λ o. lower o (weights k.terms false)) h.quota ∙ lower-lower st.quota (weights h.terms false) (weights k.terms false)
          ∙ ap (lower st.quota) (sym many);
      within = λ free nesting left quota (d, l, q).
          (let front = subst (Has left) long l in
          let few = subst (Has quota) many q in
          let one = h.within free nesting left quota (
            omega (arith, d, deep),
            has_front left (length h.bytes) (length k.bytes) front,
            has_front quota (weights h.terms false) (weights k.terms false) few,
          ) in
          let other = k.within free nesting (lower left (length h.bytes)) (lower quota (weights h.terms false)) (
            omega (arith, d, deep),
            has_rest left (length h.bytes) (length k.bytes) front,
            has_rest quota (weights h.terms false) (weights k.terms false) few,
          ) in
          let bytes_left = lower-lower left (length h.bytes) (length k.bytes) ∙ ap (lower left) (sym long) in
          let items_left = lower-lower quota (weights h.terms false) (weights k.terms false) ∙ ap (lower quota) (sym many) in
          subst (λ o. both (limited_to free nesting left quota st) (limited_to free nesting o (lower quota (weights (joined h.terms k.terms) false)) b)) bytes_left
          (subst (λ o. both (limited_to free nesting left quota st)
          (limited_to free nesting (lower (lower left (length h.bytes)) (length k.bytes)) o b)) items_left (f _ _ _ one other)));
    }

-- so is what is read by way of it, however far was looked
pub takes_so : (reads reads_so : State → State → Type 0) (st b s e : State) → AreAlike st s → AreAlike b e
    → ((free : Bool) (nesting : ℕ) (left quota l q : Option ℕ) → reads (limited_to free nesting left quota st) (limited_to free nesting l q b)
    → reads_so (limited_to free nesting left quota s) (limited_to free nesting l q e))
    → TakesRow reads st b → TakesRow reads_so s e
takes_so reads reads_so st b s e a c f h = record {
  bytes = h.bytes;
  terms = h.terms;
  rest = ap (λ (x : State). x.rest) a ∙ h.rest ∙ ap (λ z. h.bytes ++ z) (sym (ap (λ (x : State). x.rest) c));
  spelled = h.spelled;
  room = subst (λ (x : State). HasRoom x.nesting x.top.left x.quota (length h.bytes) h.terms) (sym a) h.room;
  left = ap (λ (x : State). x.top.left) c ∙ h.left ∙ ap (λ (x : State). lower x.top.left (length h.bytes)) (sym a);
  quota = ap (λ (x : State). x.quota) c ∙ h.quota ∙ ap (λ (x : State). lower x.quota (weights h.terms false)) (sym a);
  within = λ free nesting left quota room.
      f free nesting left quota (lower left (length h.bytes)) (lower quota (weights h.terms false)) (h.within free nesting left quota room);
}

-- a term is a row of one
pub term_bound : {T : Type 0} (u : TermType T) → IsBoundByLimits (reading_of u)
term_bound u st v b fresh h =
    let s = h.stands in
    let alone : st.top.shared ≡ None = ap (λ (o : Open). o.shared) fresh.top in
    let one : weight h.term false ≡ weights (more h.term none) false = omega arith in
    let many : weight_at st h.term ≡ weights (more h.term none) false = ap (λ o. weight h.term (is_shared o)) alone ∙ one in
    let none_open : length st.saved ≡ 0 = ap length fresh.saved in
    let left : b.rest ≡ s.after =
    ap (λ (x : State). x.rest) h.moved ∙ ap (drop (length h.bytes)) s.rest ∙ drop_at h.bytes s.after (length h.bytes) refl in
    record {
      bytes = h.bytes;
      terms = more h.term none;
      rest = s.rest ∙ ap (λ z. h.bytes ++ z) (sym left);
      spelled = one_spelled h.term h.bytes (subst (λ o. SpellsAs (standing o h.bytes) h.term) alone s.spelled);
      room = ((let deep = s.nested in omega (arith, deep)), s.room, subst (Has st.quota) many s.few);
      left = ap (λ (x : State). x.top.left) h.moved;
      quota = ap (λ (x : State). x.quota) h.moved ∙ ap (lower st.quota) many;
      within = λ free nesting left quota room. record {
        bytes = h.bytes;
        term = h.term;
        stands = record {
          going = s.going;
          item = s.item;
          room = room.1;
          after = s.after;
          rest = s.rest;
          spelled = s.spelled;
          nested = (let deep = room.0 in omega (arith, deep, none_open));
          few = subst (Has quota) (sym many) room.2;
        };
        moved = ap₂ (λ k (x : State). limited_to free nesting (lower left (length h.bytes)) (lower quota k) x) (sym many) h.moved;
        meant = h.meant;
      };
    }

pub still_fresh : (st b : State) → IsFresh st → Stays st b → IsFresh b
still_fresh st b f s =
    let t = s.top f.limit f.top in
    record {
      error = s.error ∙ f.error;
      limit = t.0;
      top = t.1;
      saved = s.saved ∙ f.saved;
      nesting = (let same = s.nesting in let most = f.nesting in omega (arith, same, most));
      among = still_among s ∙ f.among;
    }

module _ {M V : Type 0} (w : Walk M V)
    (one : (st : State) (m x : M) (b : State) → IsFresh st → w.step st m x b → TakesRow (λ first last. w.step first m x last) st b) where
  steps_bound : (n : ℕ) (st : State) (m x : M) (b : State) → IsFresh st → Steps w n st m x b
      → TakesRow (λ first last. Steps w n first m x last) st b
  steps_bound zero st m x b fresh (i, e) =
      subst (λ (z : State). TakesRow (λ first last. Steps w zero first m x last) st z) (sym e)
      (takes_none (λ first last. Steps w zero first m x last) st (λ free nesting left quota. (i, refl)))
  steps_bound (suc n) st m x b fresh (y, mid, s, h) =
      let stays = (w.step_leaves st m y mid s).stays in
      takes_then (λ first last. w.step first m y last) (λ first last. Steps w n first y x last)
      (λ first last. Steps w (suc n) first m x last) st mid b stays.nesting (λ first middle last p q. (y, middle, p, q))
      (one st m y mid fresh s) (steps_bound n mid y x b (still_fresh st mid fresh stays) h)

  pub walk_bound : IsBoundByLimits (walk_reading w)
  walk_bound st v b fresh h =
      takes_so (λ first last. Steps w h.number first w.blank h.part last) (λ first last. Walked w first v last) st h.last st b refl h.left
      (λ free nesting left quota l q s. record {
        top = h.top;
        number = h.number;
        part = h.part;
        last = limited_to free nesting l q h.last;
        steps = s;
        done = h.done;
        made = h.made;
        left = ap (limited_to free nesting l q) h.left;
      })
      (steps_bound h.number st w.blank h.part h.last fresh h.steps)

-- a run, of what is so
pub run_bound : {T : Type 0} (c : ℕ) (r : Reading T) → IsBoundByLimits r → IsBoundByLimits (walk_reading (run_walk c r))
run_bound {T} c r bound = walk_bound (run_walk c r) one
  where
    one : (st : State) (xs ys : List T) (b : State) → IsFresh st → RunStep c r st xs ys b
        → TakesRow (λ first last. RunStep c r first xs ys last) st b
    one st xs ys b fresh h =
        takes_so (λ first last. r.reads first h.item last) (λ first last. RunStep c r first xs ys last) st b st b refl refl
        (λ free nesting left quota l q read. record { top = h.top; item = h.item; grows = h.grows; ahead = h.ahead; read = read })
        (bound st h.item b fresh h.read)

module _ {T : Type 0} (r : Reading T) (bound : IsBoundByLimits r) where
  -- without limits the same is read
  pub free_of_limits : (st : State) (v : T) (b : State) → IsFresh st → r.reads st v b → r.reads (without_limits st) v (without_limits b)
  free_of_limits st v b fresh h =
      let k = bound st v b fresh h in
      let deep = k.room.0 in
      k.within true 128 None None (omega (arith, deep, fresh.nesting), tt, tt)

  -- a decoder without limits has none behind a value either
  pub still_unlimited : (st : State) (v : T) (b : State) → IsFresh st → st ≡ without_limits st → r.reads st v b → b ≡ without_limits b
  still_unlimited st v b fresh same h =
      let again : r.reads st v (without_limits b) =
      subst (λ (x : State). r.reads x v (without_limits b)) (sym same) (free_of_limits st v b fresh h) in
      sym (r.one st v v b (without_limits b) h again).1

  fresh_within : (limits : Limits) (input : List ℕ) → IsFresh (start_within limits input)
  fresh_within limits input =
      record { error = refl; limit = limit_of limits.bytes; top = refl; saved = refl; nesting = limits.nests; among = refl }

  row_front : (limits : Limits) (input : List ℕ) (v : T) (n : ℕ) (h : BeginsWithin limits r input v n)
      → (k : TakesRow (λ first last. r.reads first v last) (start_within limits input) h.after)
      → (length k.bytes ≡ n) × (k.bytes ≡ take n input)
  row_front limits input v n h k =
      let long : length k.bytes ≡ n = omega (arith, h.left, ap length k.rest, length-append k.bytes h.after.rest) in
      (long, sym (ap (take n) k.rest ∙ take_at k.bytes h.after.rest n long))

  -- of a whole input
  pub begins_without_limits : (limits : Limits) (input : List ℕ) (v : T) (n : ℕ) → BeginsWithin limits r input v n → BeginsWith r input v n
  begins_without_limits limits input v n h =
      record { after = without_limits h.after; read = free_of_limits (start_within limits input) v h.after (fresh_within limits input) h.read; left = h.left }

  allowed_within : (limits : Limits) (input : List ℕ) (v : T) (n : ℕ) → BeginsWithin limits r input v n
      → Has (limit_of limits.bytes) n × AreAllowed limits (take n input)
  allowed_within limits input v n h =
      let k = bound (start_within limits input) v h.after (fresh_within limits input) h.read in
      let f = row_front limits input v n h k in (
        subst (Has (limit_of limits.bytes)) f.0 k.room.1,
        record { terms = k.terms; spelled = subst (AreItemsOf k.terms) f.1 k.spelled; nested = k.room.0; few = k.room.2 },
      )

  begins_within : (limits : Limits) (input : List ℕ) (v : T) (n : ℕ) → BeginsWith r input v n → Has (limit_of limits.bytes) n
      → AreAllowed limits (take n input) → BeginsWithin limits r input v n
  begins_within limits input v n h room allowed =
      let k = bound (start input) v h.after (fresh_within greatest input) h.read in
      let f = row_front greatest input v n h k in
      let free : Bool = is_free limits.nesting limits.bytes limits.items in
      let same : allowed.terms ≡ k.terms = one_row allowed.terms k.terms (take n input) allowed.spelled (subst (AreItemsOf k.terms) f.1 k.spelled) in
      record {
        after = limited_to free limits.nesting (lower (limit_of limits.bytes) (length k.bytes)) (lower (limit_of limits.items) (weights k.terms false)) h.after;
        read = k.within free limits.nesting (limit_of limits.bytes) (limit_of limits.items) (
          (let deep = allowed.nested in omega (arith, deep, ap nests same)),
          subst (Has (limit_of limits.bytes)) (sym f.0) room,
          subst (λ ts. Has (limit_of limits.items) (weights ts false)) same allowed.few,
        );
        left = h.left;
      }

  -- within limits is read what is read without, as far as its bytes and their terms are within them
  pub bounded : (limits : Limits) (input : List ℕ) (v : T) (n : ℕ) → BeginsWithin limits r input v n
      ↔ (BeginsWith r input v n × Has (limit_of limits.bytes) n × AreAllowed limits (take n input))
  bounded limits input v n = (
    λ h. (let a = allowed_within limits input v n h in (begins_without_limits limits input v n h, a.0, a.1)),
    λ h. begins_within limits input v n h.0 h.1 h.2,
  )
