-- Lemmas of what is read one thing after another.
use Rattle.std.proofs.Common.{◌≡◌, ℕ, zero, suc, ◌+◌, ◌≤◌, Bool, true, false, length, None, refl, sym, ap, ◌∙◌, subst, arith}
use Rattle.amqp_wire.specs.declared.error.Error.{Error}
use Rattle.amqp_wire.specs.declared.error.Error.TheVariants.{InvalidValue}
use Rattle.amqp_decoder.specs.State.{Source, State}
use Rattle.amqp_decoder.specs.Steps.{IsOutside}
use Rattle.amqp_decoder.specs.OtherSource.{elsewhere}
use Rattle.amqp_decoder.specs.Places.{Located}
use Rattle.amqp_codec.specs.Reading.{Taken, Stays, looking, AreAlike}
use Rattle.amqp_batches.specs.laws.State.{stays_self, stays_then, taken_self, taken_then, alike_stays, alike_rest, alike_sym, alike_trans}
use Rattle.amqp_batches.specs.Walk.{IsAtTop, Walk, Steps, Walked, WalkFault, not_top, in_step, not_made}
use Rattle.std.proofs.lemmas.List.{length-drop}

-- What some steps leave, of which there may be none.
pub record LeavesAll (st : State) (before after : ℕ) (b : State) : Type 0 where
  pub stays : Stays st b
  pub taken : Taken true st b
  pub counted : st.top.shared ≡ None → after + length b.rest ≤ before + length st.rest

pub no_term : false ≡ true → ⊥
no_term h = cc

outside_not_top : (e : Error) → IsOutside e → e ≡ InvalidValue → ⊥
outside_not_top e o i = subst IsOutside i o

module _ {M V : Type 0} (w : Walk M V) where
  pub one_step_more : (n : ℕ) (st : State) (m x y : M) (mid b : State) → Steps w n st m x mid → w.step mid x y b
      → Steps w (suc n) st m y b
  one_step_more zero st m x y mid b (i, j) s =
      (y, b, subst (λ (z : State). w.step z m y b) j (subst (λ z. w.step mid z y b) i s), (refl, refl))
  one_step_more (suc n) st m x y mid b (z, next, s, h) k = (z, next, s, one_step_more n next z x y mid b h k)

  pub steps_looked : (n k : ℕ) (st : State) (m x : M) (b : State) → Steps w n st m x b
      → (j : ℕ) × Steps w n (looking k st) m x (looking j b)
  steps_looked zero k st m x b (i, e) = (k, (i, ap (looking k) e))
  steps_looked (suc n) k st m x b (y, mid, s, h) =
      let f = w.step_looked k st m y mid s in
      let g = steps_looked n f.0 mid y x b h in
      (g.0, (y, looking f.0 mid, f.1, g.1))

  pub steps_elsewhere : (source : Source) (failed : Bool) (n : ℕ) (st : State) (m x : M) (b : State) → Steps w n st m x b
      → Steps w n (elsewhere source failed st) m x (elsewhere source failed b)
  steps_elsewhere source failed zero st m x b (i, e) = (i, ap (elsewhere source failed) e)
  steps_elsewhere source failed (suc n) st m x b (y, mid, s, h) =
      (y, elsewhere source failed mid, w.step_elsewhere source failed st m y mid s, steps_elsewhere source failed n mid y x b h)

  pub steps_leave : (n : ℕ) (st : State) (m x : M) (b : State) → Steps w n st m x b → LeavesAll st (w.weight m) (w.weight x) b
  steps_leave zero st m x b (i, e) =
      subst (λ z. LeavesAll st (w.weight m) (w.weight z) b) (sym i)
      (subst (LeavesAll st (w.weight m) (w.weight m)) (sym e)
      (record { stays = stays_self st; taken = taken_self st; counted = λ _. omega arith }))
  steps_leave (suc n) st m x b (y, mid, s, h) =
      let l = w.step_leaves st m y mid s in
      let k = steps_leave n mid y x b h in
      record {
        stays = stays_then l.stays k.stays;
        taken = taken_then l.taken k.taken;
        counted = λ e. omega (arith, l.counted e, k.counted (l.stays.shared ∙ e));
      }

  pub steps_top : (n : ℕ) (st : State) (m x : M) (b : State) → (n ≡ 0 → ⊥) → Steps w n st m x b → IsAtTop st
  steps_top zero st m x b some h = absurd (some refl)
  steps_top (suc n) st m x b some (y, mid, s, h) = (w.step_leaves st m y mid s).top

  -- Of two rows of steps from one state, of which the second goes on until none comes next, the second goes on behind the first.
  pub record GoesOn (a : State) (x y : M) (b : State) : Type 0 where
    pub at : State
    pub here : AreAlike a at
    pub part : M
    pub like : w.alike x part
    pub more : ℕ
    pub last : State
    pub ends : AreAlike b last
    pub steps : Steps w more at part y last

  pub goes_on : (n k : ℕ) (st : State) (m p x y : M) (a b : State) → w.alike m p → Steps w n st m x a → Steps w k st p y b
      → w.done y b.rest → GoesOn a x y b
  goes_on zero k st m p x y a b l (i, e) h d = record {
    at = st;
    here = subst (AreAlike a) e refl;
    part = p;
    like = subst (λ z. w.alike z p) (sym i) l;
    more = k;
    last = b;
    ends = refl;
    steps = h;
  }
  goes_on (suc n) zero st m p x y a b l (z, mid, s, g) (i, e) d =
      absurd (w.done_ends st m p z mid l s (subst (λ (q : State). w.done p q.rest) e (subst (λ q. w.done q b.rest) i d)))
  goes_on (suc n) (suc k) st m p x y a b l (z, mid, s, g) (u, mad, t, h) d =
      let o = w.step_one st m p z u mid mad l s t in
      let q = steps_looked k mid.ahead mad u y b h in
      let back : looking mid.ahead mad ≡ mid = sym (alike_sym mid mad o.1) in
      let r = goes_on n k mid z u x y a (looking q.0 b) o.0 g
      (subst (λ (c : State). Steps w k c u y (looking q.0 b)) back q.1) d in
      record {
        at = r.at;
        here = r.here;
        part = r.part;
        like = r.like;
        more = r.more;
        last = r.last;
        ends = r.ends;
        steps = r.steps;
      }

  pub walked_one : (st : State) (v u : V) (a b : State) → Walked w st v a → Walked w st u b → w.same v u × AreAlike a b
  walked_one st v u a b h k =
      let g = goes_on h.number k.number st w.blank w.blank h.part k.part h.last k.last w.blank_alike h.steps k.steps k.done in
      by_more g.more g refl
    where
      by_more : (more : ℕ) (g : GoesOn h.last h.part k.part k.last) → g.more ≡ more → w.same v u × AreAlike a b
      by_more zero g e =
          let s : Steps w 0 g.at g.part k.part g.last = subst (λ n. Steps w n g.at g.part k.part g.last) e g.steps in (
            w.finish_one h.part k.part v u (subst (w.alike h.part) (sym s.0) g.like) h.made k.made,
            alike_trans a h.last b (alike_sym h.last a h.left)
                (alike_trans h.last g.at b g.here
                (alike_trans g.at g.last b (subst (AreAlike g.at) (sym s.1) refl)
                (alike_trans g.last k.last b (alike_sym k.last g.last g.ends) k.left))),
          )
      by_more (suc n) g e =
          let s : Steps w (suc n) g.at g.part k.part g.last = subst (λ n. Steps w n g.at g.part k.part g.last) e g.steps in
          absurd (w.done_ends g.at g.part h.part s.0 s.1 (w.alike_sym h.part g.part g.like) s.2
          (subst (w.done h.part) (sym (alike_rest h.last g.at g.here)) h.done))

  pub walked_stays : (st : State) (v : V) (b : State) → Walked w st v b → Stays st b
  walked_stays st v b h =
      stays_then (steps_leave h.number st w.blank h.part h.last h.steps).stays (alike_stays h.last b h.left)

  pub walked_taken : (st : State) (v : V) (b : State) → Walked w st v b → Taken true st b
  walked_taken st v b h =
      let t = (steps_leave h.number st w.blank h.part h.last h.steps).taken in
      record { count = t.count; within = t.within; rest = alike_rest h.last b h.left ∙ t.rest; ahead = λ e. absurd (cc) }

  pub walked_counted : (st : State) (v : V) (b : State) → st.top.shared ≡ None → Walked w st v b
      → w.count v + length b.rest ≤ length st.rest
  walked_counted st v b e h =
      omega (
        arith,
        (steps_leave h.number st w.blank h.part h.last h.steps).counted e,
        w.finish_counted h.part v h.made,
        w.blank_weight,
        ap length (alike_rest h.last b h.left),
      )

  pub walked_looked : (k : ℕ) (st : State) (v : V) (b : State) → Walked w st v b → (j : ℕ) × Walked w (looking k st) v (looking j b)
  walked_looked k st v b h =
      let s = steps_looked h.number k st w.blank h.part h.last h.steps in (
        0,
        record {
          top = h.top;
          number = h.number;
          part = h.part;
          last = looking s.0 h.last;
          steps = s.1;
          done = h.done;
          made = h.made;
          left = ap (looking 0) h.left;
        },
      )

  pub walked_elsewhere : (source : Source) (failed : Bool) (st : State) (v : V) (b : State) → Walked w st v b
      → Walked w (elsewhere source failed st) v (elsewhere source failed b)
  walked_elsewhere source failed st v b h = record {
    top = h.top;
    number = h.number;
    part = h.part;
    last = elsewhere source failed h.last;
    steps = steps_elsewhere source failed h.number st w.blank h.part h.last h.steps;
    done = h.done;
    made = h.made;
    left = ap (elsewhere source failed) h.left;
  }

  pub walk_fault_elsewhere : (source : Source) (failed : Bool) (st : State) (e : Located) → WalkFault w st e
      → WalkFault w (elsewhere source failed st) e
  walk_fault_elsewhere source failed st e (not_top h) = not_top h
  walk_fault_elsewhere source failed st e (in_step n part last mid s a f) =
      in_step n part (elsewhere source failed last) (elsewhere source failed mid) (steps_elsewhere source failed n st w.blank part last s)
      (ap (elsewhere source failed) a) (w.fault_elsewhere source failed mid part e f)
  walk_fault_elsewhere source failed st e (not_made n part last s d f place) =
      not_made n part (elsewhere source failed last) (steps_elsewhere source failed n st w.blank part last s) d f place

  pub walk_within : (st : State) (e : Located) → WalkFault w st e → e.left ≤ length st.rest
  walk_within st e (not_top h) = omega (arith, h.1)
  walk_within st e (in_step n part last mid s a f) =
      let t = (steps_leave n st w.blank part last s).taken in
      omega (arith, w.within mid part e f, ap length (alike_rest last mid a), ap length t.rest, length-drop t.count st.rest)
  walk_within st e (not_made n part last s d f place) =
      let t = (steps_leave n st w.blank part last s).taken in
      omega (arith, place, ap length t.rest, length-drop t.count st.rest)

  pub walk_not_outside : (e : Located) → IsOutside e.error → (st : State) → WalkFault w st e → ⊥
  walk_not_outside e o st (not_top h) = outside_not_top e.error o h.0.1
  walk_not_outside e o st (in_step n part last mid s a f) = w.not_outside e o mid part f
  walk_not_outside e o st (not_made n part last s d f place) = w.unfinished_not_outside e.error o part f
