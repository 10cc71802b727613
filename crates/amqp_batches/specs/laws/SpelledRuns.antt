-- Runs are read as their sections are spelled, one after another.
use Rattle.std.proofs.Common.{◌≡◌, ℕ, zero, suc, List, [], ◌∷◌, ◌++◌, length, take, drop, refl, sym, ap, ◌∙◌, subst, arith}
use Rattle.std.proofs.Common.{length-append, append_assoc}
use Rattle.std.proofs.lemmas.List.{take_at, drop_at, append-nil}
use Rattle.amqp_lookahead.specs.Sections.{IsSectionAhead}
use Rattle.amqp_decoder.specs.State.{State}
use Rattle.amqp_codec.specs.Reading.{Reading, start}
use Rattle.amqp_batches.specs.laws.Bound.{run_bound}
use Rattle.amqp_batches.specs.laws.Resuming.{IsUnlimited, start_unlimited, fresh_top}
use Rattle.amqp_batches.specs.laws.State.{alike_rest}
use Rattle.amqp_batches.specs.Runs.{RunStep, run_walk}
use Rattle.amqp_batches.specs.Walk.{Steps}
use Rattle.amqp_batches.specs.WalkReading.{walk_reading}
use Rattle.amqp_batches.specs.Spellings.{Spells, IsSection, Are, IsRun}
use Rattle.amqp_batches.specs.laws.ReadAs.{IsReadAs, took, takes, still_free}

module _ {T : Type 0} (c : ℕ) {r : Reading T} {spells : Spells T} (l : IsReadAs r spells) where
  pub record TookSome (st : State) (xs ys : List T) (b : State) : Type 0 where
    pub values : List T
    pub grown : ys ≡ xs ++ values
    pub bytes : List ℕ
    pub split : st.rest ≡ bytes ++ b.rest
    pub are : Are (IsSection c spells) bytes values b.rest
    pub free : IsUnlimited b

  pub took_some : (n : ℕ) (st : State) (xs ys : List T) (b : State) → IsUnlimited st → Steps (run_walk c r) n st xs ys b → TookSome st xs ys b
  took_some zero st xs ys b free (i, e) = record {
    values = [];
    grown = i ∙ sym (append-nil xs);
    bytes = [];
    split = ap (λ (z : State). z.rest) (sym e);
    are = refl;
    free = subst IsUnlimited (sym e) free;
  }
  took_some (suc n) st xs ys b free (zs, mid, s, h) =
      let t = took l st s.item mid free s.read in
      let k = took_some n mid zs ys b (still_free l st s.item mid free s.read) h in
      let whole : st.rest ≡ t.bytes ++ (k.bytes ++ b.rest) = t.split ∙ ap (λ z. t.bytes ++ z) k.split in
      record {
        values = s.item ∷ k.values;
        grown = k.grown ∙ ap (λ z. z ++ k.values) s.grows ∙ append_assoc xs (s.item ∷ []) k.values;
        bytes = t.bytes ++ k.bytes;
        split = whole ∙ sym (append_assoc t.bytes k.bytes b.rest);
        are = (
          t.bytes,
          k.bytes,
          refl,
          (subst (λ z. IsSectionAhead z c) whole s.ahead, subst (spells t.bytes s.item) k.split t.is),
          k.are,
        );
        free = k.free;
      }

  record ReadSome (st : State) (xs vs : List T) (more : List ℕ) : Type 0 where
    number : ℕ
    last : State
    steps : Steps (run_walk c r) number st xs (xs ++ vs) last
    left : last.rest ≡ more

  read_some : (vs : List T) (st : State) (xs : List T) (b more : List ℕ) → IsUnlimited st → st.rest ≡ b ++ more
      → Are (IsSection c spells) b vs more → ReadSome st xs vs more
  read_some [] st xs b more free here e = record {
    number = 0;
    last = st;
    steps = (append-nil xs, refl);
    left = here ∙ ap (λ z. z ++ more) e;
  }
  read_some (v ∷ vs) st xs b more free here (first, others, e, s, h) =
      let whole : st.rest ≡ first ++ (others ++ more) = here ∙ ap (λ z. z ++ more) e ∙ append_assoc first others more in
      let t = takes l st v first (others ++ more) free whole s.1 in
      let k = read_some vs t.last (xs ++ v ∷ []) others more t.fresh t.left h in
      let step : RunStep c r st xs (xs ++ v ∷ []) t.last = record {
        top = fresh_top st free.0;
        item = v;
        grows = refl;
        ahead = subst (λ z. IsSectionAhead z c) (sym whole) s.0;
        read = t.read;
      } in
      record {
        number = suc k.number;
        last = k.last;
        steps = (
          xs ++ v ∷ [],
          t.last,
          step,
          subst (λ z. Steps (run_walk c r) k.number t.last (xs ++ v ∷ []) z k.last) (append_assoc xs (v ∷ []) vs) k.steps,
        );
        left = k.left;
      }

  pub run_is_read : IsReadAs (walk_reading (run_walk c r)) (IsRun c spells)
  run_is_read = record {
    bound = run_bound c r l.bound;
    spelled = λ input vs n h.
        (let w = h.read in
        let k = took_some w.number (start input) [] w.part w.last (start_unlimited input) w.steps in
        let after : h.after.rest ≡ w.last.rest = alike_rest w.last h.after w.left in
        let long : length k.bytes ≡ n = omega (arith, h.left, ap length k.split, length-append k.bytes w.last.rest, ap length after) in
        let front : take n input ≡ k.bytes = ap (take n) k.split ∙ take_at k.bytes w.last.rest n long in
        let rest : drop n input ≡ w.last.rest = ap (drop n) k.split ∙ drop_at k.bytes w.last.rest n long in
        let are : Are (IsSection c spells) k.bytes vs w.last.rest =
        subst (λ z. Are (IsSection c spells) k.bytes z w.last.rest) (sym (w.made ∙ k.grown)) k.are in (
          omega (arith, h.left),
          (
            subst (λ z. Are (IsSection c spells) (take n input) vs z) (sym rest)
                (subst (λ z. Are (IsSection c spells) z vs w.last.rest) (sym front) are),
            subst (λ z. IsSectionAhead z c → ⊥) (sym rest) w.done,
          ),
        ));
    read = λ b more vs s.
        (let k = read_some vs (start (b ++ more)) [] b more (start_unlimited (b ++ more)) refl s.0 in
        record {
          after = k.last;
          read = record {
            top = fresh_top (start (b ++ more)) (start_unlimited (b ++ more)).0;
            number = k.number;
            part = vs;
            last = k.last;
            steps = k.steps;
            done = subst (λ z. IsSectionAhead z c → ⊥) (sym k.left) s.1;
            made = refl;
            left = refl;
          };
          left = omega (arith, ap length k.left, length-append b more);
        });
  }
