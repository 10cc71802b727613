-- Runs: the sections of one kind that come next, one after another (Part 3, sections 3.2.6 and 3.2.7).
use Rattle.std.proofs.Common.{◌≡◌, ℕ, true, List, [], ◌∷◌, ◌++◌, refl, sym, ap, subst, arith}
use Rattle.std.specs.List.{AllZip}
use Rattle.amqp_lookahead.specs.Sections.{IsSectionAhead}
use Rattle.amqp_decoder.specs.State.{State}
use Rattle.amqp_decoder.specs.Places.{Located}
use Rattle.amqp_codec.specs.Each.{count_all}
use Rattle.amqp_codec.specs.Reading.{Reading, looking, AreAlike}
use Rattle.amqp_batches.specs.laws.State.{any_taken}
use Rattle.amqp_batches.specs.Walk.{IsAtTop, Leaves, Walk}
use Rattle.amqp_batches.specs.laws.Run.{zip_sym, zip_trans, zip_more, count_more}

module _ {T : Type 0} (c : ℕ) (r : Reading T) where
  -- A section of this code comes next, and it was read behind the others.
  pub record RunStep (st : State) (xs ys : List T) (b : State) : Type 0 where
    pub top : IsAtTop st
    pub item : T
    pub grows : ys ≡ xs ++ item ∷ []
    pub ahead : IsSectionAhead st.rest c
    pub read : r.reads st item b

  -- One comes next, and has the fault.
  abbrev pub SectionFault : State → Located → Type 0
  SectionFault st e = IsSectionAhead st.rest c × r.fault st e

  pub run_one : (st : State) (xs ys vs ws : List T) (a b : State) → AllZip r.same xs ys → RunStep st xs vs a → RunStep st ys ws b
      → AllZip r.same vs ws × AreAlike a b
  run_one st xs ys vs ws a b l h k =
      let o = r.one st h.item k.item a b h.read k.read in (
        subst (λ z. AllZip r.same z ws) (sym h.grows)
            (subst (AllZip r.same (xs ++ h.item ∷ [])) (sym k.grows) (zip_more r.same xs ys h.item k.item l o.0)),
        o.1,
      )

  pub run_looked : (k : ℕ) (st : State) (xs ys : List T) (b : State) → RunStep st xs ys b
      → (j : ℕ) × RunStep (looking k st) xs ys (looking j b)
  run_looked k st xs ys b h =
      let f = r.looked k st h.item b h.read in (f.0, record { top = h.top; item = h.item; grows = h.grows; ahead = h.ahead; read = f.1 })

  pub run_leaves : (st : State) (xs ys : List T) (b : State) → RunStep st xs ys b
      → Leaves st (count_all r.count xs) (count_all r.count ys) b
  run_leaves st xs ys b h = record {
    top = h.top;
    stays = r.stays st h.item b h.read;
    taken = any_taken (r.taken st h.item b h.read);
    counted = λ e. omega (
      arith,
      r.counted st h.item b e h.read,
      ap (count_all r.count) h.grows,
      count_more r.count xs h.item,
    );
  }

  -- How a run is read: it ends where no further section of its kind comes next, and may be empty.
  abbrev pub run_walk : Walk (List T) (List T)
  run_walk = record {
    step = RunStep;
    fault = λ st xs. SectionFault st;
    done = λ xs rest. IsSectionAhead rest c → ⊥;
    blank = [];
    finish = λ xs vs. vs ≡ xs;
    unfinished = λ xs e. ⊥;
    takes_memory = true;
    alike = AllZip r.same;
    same = AllZip r.same;
    weight = count_all r.count;
    count = count_all r.count;
    same_sym = zip_sym r.same r.same_sym;
    same_trans = zip_trans r.same r.same_trans;
    alike_sym = zip_sym r.same r.same_sym;
    blank_alike = tt;
    blank_weight = refl;
    step_one = run_one;
    step_looked = run_looked;
    step_elsewhere = λ source failed st xs ys b h. record {
      top = h.top;
      item = h.item;
      grows = h.grows;
      ahead = h.ahead;
      read = r.reads_elsewhere source failed st h.item b h.read;
    };
    step_leaves = run_leaves;
    done_ends = λ st xs ys vs b l h d. d h.ahead;
    done_alike = λ xs ys rest l d. d;
    finish_one = λ xs ys vs ws l e f. subst (λ z. AllZip r.same z ws) (sym e) (subst (AllZip r.same xs) (sym f) l);
    finish_counted = λ xs vs e. (let z = ap (count_all r.count) e in omega (arith, z));
    finish_or = λ xs ys vs e l f x. x;
    fault_elsewhere = λ source failed st xs e h. (h.0, r.fault_elsewhere source failed st e h.1);
    not_outside = λ e o st xs h. r.not_outside e o st h.1;
    unfinished_not_outside = λ e o xs h. h;
    within = λ st xs e h. r.within st e h.1;
  }
