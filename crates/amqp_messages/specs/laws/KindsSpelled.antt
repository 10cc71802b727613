-- Groups are read as they are spelled, one after another.
use Rattle.std.proofs.Common.{◌≡◌, ◌⊎◌, inl, inr, ℕ, zero, suc, ◌-◌, ◌<◌, ◌≤◌, List, [], ◌∷◌, ◌++◌, length, take, drop, refl, sym, ap, ◌∙◌, subst, arith}
use Rattle.std.proofs.Common.{length-append, append_assoc}
use Rattle.std.proofs.lemmas.List.{take_at, drop_at}
use Rattle.amqp_lookahead.specs.Sections.{IsSectionAhead}
use Rattle.amqp_decoder.specs.State.{State}
use Rattle.amqp_codec.specs.Reading.{start}
use Rattle.amqp_batches.specs.laws.Resuming.{IsUnlimited, start_unlimited, fresh_top}
use Rattle.amqp_batches.specs.laws.State.{alike_rest}
use Rattle.amqp_batches.specs.Spellings.{Spells, Are}
use Rattle.amqp_batches.specs.laws.ReadAs.{IsReadAs, took, takes, still_free}
use Rattle.amqp_batches.specs.Walk as walks
use Rattle.amqp_batches.specs.Walk.{Steps}
use Rattle.amqp_batches.specs.WalkReading.{walk_reading}
use Rattle.amqp_messages.specs.declared.order.Order.{Order}
use Rattle.amqp_messages.specs.declared.order.Order.TheVariants.{Any, Written}
use Rattle.amqp_messages.specs.Orders.{further, IsFull}
use Rattle.amqp_messages.specs.Kinds.{Kinds, none, kind, ForEach, Fields, Group, IsGroup, behind, nothing, put, put_all, Fall}
use Rattle.amqp_messages.specs.Kinds.{size, IsInAnyOrder, IsInOrder}
use Rattle.amqp_messages.specs.KindsReading.{Readings, Reads}
use Rattle.amqp_messages.specs.laws.KindsReading.{reads_behind}
use Rattle.amqp_messages.specs.Groups.{Shape, Progress, GroupStep}
use Rattle.amqp_messages.specs.MessageWalk.{message_walk}
use Rattle.amqp_messages.specs.laws.MessageLimits.{AreBoundByLimits, message_bound}

-- What is read of each kind is what the bytes spell.
abbrev pub AreReadAs : (ks : Kinds) → Readings ks → ForEach Spells ks → Type 0
AreReadAs none rs ss = Unit {0}
AreReadAs (kind T codes ks) rs ss = IsReadAs rs.0 ss.0 × AreReadAs ks rs.1 ss.1

pub are_bound : (ks : Kinds) (rs : Readings ks) (ss : ForEach Spells ks) → AreReadAs ks rs ss → AreBoundByLimits ks rs
are_bound none rs ss l = tt
are_bound (kind T codes ks) rs ss l = (l.0.bound, are_bound ks rs.1 ss.1 l.1)

-- The bytes of a group that was read.
pub record TookGroup (ks : Kinds) (ss : ForEach Spells ks) (st : State) (g : Group ks) (b : State) : Type 0 where
  pub bytes : List ℕ
  pub split : st.rest ≡ bytes ++ b.rest
  pub is : IsGroup ks ss bytes g b.rest
  pub free : IsUnlimited b

took_group : (ks : Kinds) (rs : Readings ks) (ss : ForEach Spells ks) → AreReadAs ks rs ss → (c : ℕ) (st : State) (g : Group ks) (b : State)
    → IsUnlimited st → IsSectionAhead st.rest c → Reads ks rs c st g b → TookGroup ks ss st g b
took_group none rs ss l c st g b free a h = absurd h
took_group (kind T codes ks) rs ss l c st (inl g) b free a h =
    let t = took l.0 st g b free h.1 in
    record {
      bytes = t.bytes;
      split = t.split;
      is = (record { code = c; among = h.0; ahead = subst (λ z. IsSectionAhead z c) t.split a }, t.is);
      free = still_free l.0 st g b free h.1;
    }
took_group (kind T codes ks) rs ss l c st (inr g) b free a h =
    let t = took_group ks rs.1 ss.1 l.1 c st g b free a h in
    record { bytes = t.bytes; split = t.split; is = t.is; free = t.free }

-- Bytes that are a group are read as it.
pub record TakesGroup (ks : Kinds) (rs : Readings ks) (st : State) (g : Group ks) (more : List ℕ) : Type 0 where
  pub code : ℕ
  pub ahead : IsSectionAhead st.rest code
  pub last : State
  pub read : Reads ks rs code st g last
  pub fresh : IsUnlimited last
  pub left : last.rest ≡ more

takes_group : (ks : Kinds) (rs : Readings ks) (ss : ForEach Spells ks) → AreReadAs ks rs ss → (g : Group ks) (st : State) (b more : List ℕ)
    → IsUnlimited st → st.rest ≡ b ++ more → IsGroup ks ss b g more → TakesGroup ks rs st g more
takes_group none rs ss l g st b more free here s = absurd s
takes_group (kind T codes ks) rs ss l (inl g) st b more free here s =
    let comes = s.0 in
    let h = takes l.0 st g b more free here s.1 in
    record {
      code = comes.code;
      ahead = subst (λ z. IsSectionAhead z comes.code) (sym here) comes.ahead;
      last = h.last;
      read = (comes.among, h.read);
      fresh = h.fresh;
      left = h.left;
    }
takes_group (kind T codes ks) rs ss l (inr g) st b more free here s =
    let t = takes_group ks rs.1 ss.1 l.1 g st b more free here s in
    record { code = t.code; ahead = t.ahead; last = t.last; read = t.read; fresh = t.fresh; left = t.left }

-- How many groups there may still be behind some, and that they may stand so.
abbrev pub left_by : (ks : Kinds) → Order → ℕ → List (Group ks) → ℕ
left_by ks o n [] = n
left_by ks o n (g ∷ gs) = left_by ks o (further o n (behind ks g)) gs

abbrev pub AreInPlace : (ks : Kinds) → Order → ℕ → List (Group ks) → Type 0
AreInPlace ks o n [] = Unit {0}
AreInPlace ks o n (g ∷ gs) = (further o n (behind ks g) < n) × AreInPlace ks o (further o n (behind ks g)) gs

-- Groups that may stand so, and of which the value is made.
pub record OfGroups {V : Type 0} (o : Order) (ks : Kinds) (ss : ForEach Spells ks) (made : Fields ks → V → Type 0) (b : List ℕ) (v : V)
    (more : List ℕ) : Type 0 where
  pub groups : List (Group ks)
  pub are : Are (IsGroup ks ss) b groups more
  pub placed : AreInPlace ks o 7 groups
  pub ended : IsFull o (left_by ks o 7 groups) ⊎ (more ≡ [])
  pub is : made (put_all ks groups (nothing ks)) v

module _ {V : Type 0} (o : Order) (s : Shape V) (ss : ForEach Spells s.kinds) (l : AreReadAs s.kinds s.readings ss) where
  abbrev ks : Kinds
  ks = s.kinds

  abbrev pub so : ℕ → Fields ks → Progress ks
  so n m = record { left = n; part = m }

  abbrev walk : walks.Walk (Progress ks) V
  walk = message_walk o s

  -- What steps took.
  pub record TookGroups (st : State) (m x : Progress ks) (b : State) : Type 0 where
    pub groups : List (Group ks)
    pub left : x.left ≡ left_by ks o m.left groups
    pub part : x.part ≡ put_all ks groups m.part
    pub placed : AreInPlace ks o m.left groups
    pub bytes : List ℕ
    pub split : st.rest ≡ bytes ++ b.rest
    pub are : Are (IsGroup ks ss) bytes groups b.rest
    pub free : IsUnlimited b

  pub took_groups : (n : ℕ) (st : State) (m x : Progress ks) (b : State) → IsUnlimited st → Steps walk n st m x b → TookGroups st m x b
  took_groups zero st m x b free (i, e) = record {
    groups = [];
    left = ap (λ (z : Progress ks). z.left) i;
    part = ap (λ (z : Progress ks). z.part) i;
    placed = tt;
    bytes = [];
    split = ap (λ (z : State). z.rest) (sym e);
    are = refl;
    free = subst IsUnlimited (sym e) free;
  }
  took_groups (suc n) st m x b free (y, mid, h, k) =
      let t = took_group ks s.readings ss l h.code st h.group mid free h.ahead h.read in
      let r = took_groups n mid y x b t.free k in
      let stands = ap (further o m.left) (reads_behind ks s.readings s.apart h.code st h.group mid h.read) in
      let then : y.left ≡ further o m.left (behind ks h.group) = h.next ∙ stands in
      record {
        groups = h.group ∷ r.groups;
        left = r.left ∙ ap (λ n. left_by ks o n r.groups) then;
        part = r.part ∙ ap (put_all ks r.groups) h.is;
        placed = (subst (λ n. n < m.left) stands h.in_place, subst (λ n. AreInPlace ks o n r.groups) then r.placed);
        bytes = t.bytes ++ r.bytes;
        split = t.split ∙ ap (λ z. t.bytes ++ z) r.split ∙ sym (append_assoc t.bytes r.bytes b.rest);
        are = (t.bytes, r.bytes, refl, subst (IsGroup ks ss t.bytes h.group) r.split t.is, r.are);
        free = r.free;
      }

  -- Groups that stand so are read in as many steps.
  pub record ReadGroups (st : State) (left : ℕ) (m : Fields ks) (gs : List (Group ks)) (more : List ℕ) : Type 0 where
    pub number : ℕ
    pub last : State
    pub steps : Steps walk number st (so left m) (so (left_by ks o left gs) (put_all ks gs m)) last
    pub behind_it : last.rest ≡ more

  pub read_groups : (gs : List (Group ks)) (st : State) (left : ℕ) (m : Fields ks) (b more : List ℕ) → IsUnlimited st
      → st.rest ≡ b ++ more → AreInPlace ks o left gs → Are (IsGroup ks ss) b gs more → ReadGroups st left m gs more
  read_groups [] st left m b more free here p e =
      record { number = 0; last = st; steps = (refl, refl); behind_it = here ∙ ap (λ z. z ++ more) e }
  read_groups (g ∷ gs) st left m b more free here p (first, others, e, f, h) =
      let whole : st.rest ≡ first ++ (others ++ more) = here ∙ ap (λ z. z ++ more) e ∙ append_assoc first others more in
      let t = takes_group ks s.readings ss l g st first (others ++ more) free whole f in
      let stands = ap (further o left) (reads_behind ks s.readings s.apart t.code st g t.last t.read) in
      let next = further o left (behind ks g) in
      let k = read_groups gs t.last next (put ks g m) others more t.fresh t.left p.1 h in
      let step : GroupStep o s st (so left m) (so next (put ks g m)) t.last = record {
        top = fresh_top st free.0;
        code = t.code;
        ahead = t.ahead;
        in_place = subst (λ n. n < left) (sym stands) p.0;
        next = sym stands;
        group = g;
        read = t.read;
        is = refl;
      } in
      record { number = suc k.number; last = k.last; steps = (so next (put ks g m), t.last, step, k.steps); behind_it = k.behind_it }

  ended_same : (m n : ℕ) (rest more : List ℕ) → m ≡ n → rest ≡ more → IsFull o m ⊎ (rest ≡ []) → IsFull o n ⊎ (more ≡ [])
  ended_same m n rest more i j h = subst (λ z. IsFull o n ⊎ (z ≡ [])) j (subst (λ z. IsFull o z ⊎ (rest ≡ [])) i h)

  pub groups_are_read : IsReadAs (walk_reading walk) (OfGroups o ks ss s.ending.made)
  groups_are_read = record {
    bound = message_bound o s (are_bound ks s.readings ss l);
    spelled = λ input v n h.
        (let w = h.read in
        let k = took_groups w.number (start input) (so 7 (nothing ks)) w.part w.last (start_unlimited input) w.steps in
        let after : h.after.rest ≡ w.last.rest = alike_rest w.last h.after w.left in
        let long : length k.bytes ≡ n = omega (arith, h.left, ap length k.split, length-append k.bytes w.last.rest, ap length after) in
        let front : take n input ≡ k.bytes = ap (take n) k.split ∙ take_at k.bytes w.last.rest n long in
        let rest : drop n input ≡ w.last.rest = ap (drop n) k.split ∙ drop_at k.bytes w.last.rest n long in (
          omega (arith, h.left),
          record {
            groups = k.groups;
            are = subst (λ z. Are (IsGroup ks ss) (take n input) k.groups z) (sym rest)
                (subst (λ z. Are (IsGroup ks ss) z k.groups w.last.rest) (sym front) k.are);
            placed = k.placed;
            ended = ended_same w.part.left (left_by ks o 7 k.groups) w.last.rest (drop n input) k.left (sym rest) w.done;
            is = subst (λ f. s.ending.made f v) k.part w.made;
          },
        ));
    read = λ b more v f.
        (let k = read_groups f.groups (start (b ++ more)) 7 (nothing ks) b more (start_unlimited (b ++ more)) refl f.placed f.are in
        record {
          after = k.last;
          read = record {
            top = fresh_top (start (b ++ more)) (start_unlimited (b ++ more)).0;
            number = k.number;
            part = so (left_by ks o 7 f.groups) (put_all ks f.groups (nothing ks));
            last = k.last;
            steps = k.steps;
            done = ended_same (left_by ks o 7 f.groups) (left_by ks o 7 f.groups) more k.last.rest refl (sym k.behind_it) f.ended;
            made = f.is;
            left = refl;
          };
          left = omega (arith, ap length k.behind_it, length-append b more);
        });
  }

module _ (ks : Kinds) where
  -- In any order they are seven at most.
  pub few_placed : (gs : List (Group ks)) (n : ℕ) → length gs ≤ n → AreInPlace ks Any n gs
  few_placed [] n few = tt
  few_placed (g ∷ gs) n few = (omega (arith, few), few_placed gs (n - 1) (omega (arith, few)))

  pub placed_few : (gs : List (Group ks)) (n : ℕ) → AreInPlace ks Any n gs → length gs ≤ n
  placed_few [] n p = omega arith
  placed_few (g ∷ gs) n p = let first = p.0 in omega (arith, first, placed_few gs (n - 1) p.1)

  pub left_any : (gs : List (Group ks)) (n : ℕ) → left_by ks Any n gs ≡ n - length gs
  left_any [] n = omega arith
  left_any (g ∷ gs) n = omega (arith, left_any gs (n - 1))

  pub seven_left : (gs : List (Group ks)) (more : List ℕ) → length gs ≤ 7 → (left_by ks Any 7 gs ≡ 0) ⊎ (more ≡ [])
      → (length gs ≡ 7) ⊎ (more ≡ [])
  seven_left gs more few (inl e) = inl (omega (arith, e, few, left_any gs 7))
  seven_left gs more few (inr e) = inr e

  none_left : (gs : List (Group ks)) (more : List ℕ) → (length gs ≡ 7) ⊎ (more ≡ []) → (left_by ks Any 7 gs ≡ 0) ⊎ (more ≡ [])
  none_left gs more (inl e) = inl (omega (arith, e, left_any gs 7))
  none_left gs more (inr e) = inr e

  -- In the standard's order they fall.
  pub fall_placed : (gs : List (Group ks)) (n : ℕ) → Fall ks n gs → AreInPlace ks Written n gs
  fall_placed [] n h = tt
  fall_placed (g ∷ gs) n h = (h.0, fall_placed gs (behind ks g) h.1)

  pub placed_fall : (gs : List (Group ks)) (n : ℕ) → AreInPlace ks Written n gs → Fall ks n gs
  placed_fall [] n p = tt
  placed_fall (g ∷ gs) n p = (p.0, placed_fall gs (behind ks g) p.1)

  pub falls_few : (gs : List (Group ks)) (n : ℕ) → Fall ks n gs → length gs ≤ n
  falls_few [] n h = omega arith
  falls_few (g ∷ gs) n h = let first = h.0 in omega (arith, first, falls_few gs (behind ks g) h.1)

pub at_end : (more : List ℕ) → ⊥ ⊎ (more ≡ []) → more ≡ []
at_end more (inl full) = absurd full
at_end more (inr e) = e

module _ {V : Type 0} (s : Shape V) (ss : ForEach Spells s.kinds) (l : AreReadAs s.kinds s.readings ss) where
  pub read_in_any_order : IsReadAs (walk_reading (message_walk Any s)) (IsInAnyOrder s.kinds ss s.ending.made)
  read_in_any_order =
      let any = groups_are_read Any s ss l in
      record {
        bound = any.bound;
        spelled = λ input v n h.
            (let k = any.spelled input v n h in
            let few = placed_few s.kinds k.1.groups 7 k.1.placed in (
              k.0,
              record {
                groups = k.1.groups;
                are = k.1.are;
                few = few;
                ended = seven_left s.kinds k.1.groups (drop n input) few k.1.ended;
                is = k.1.is;
              },
            ));
        read = λ b more v f.
            any.read b more v (record {
              groups = f.groups;
              are = f.are;
              placed = few_placed s.kinds f.groups 7 f.few;
              ended = none_left s.kinds f.groups more f.ended;
              is = f.is;
            });
      }

  pub read_in_order : size s.kinds ≡ 7 → IsReadAs (walk_reading (message_walk Written s)) (IsInOrder s.kinds ss s.ending.made)
  read_in_order seven =
      let written = groups_are_read Written s ss l in
      record {
        bound = written.bound;
        spelled = λ input v n h.
            (let k = written.spelled input v n h in (
              k.0,
              record {
                groups = k.1.groups;
                are = k.1.are;
                fall = subst (λ m. Fall s.kinds m k.1.groups) (sym seven) (placed_fall s.kinds k.1.groups 7 k.1.placed);
                ended = at_end (drop n input) k.1.ended;
                is = k.1.is;
              },
            ));
        read = λ b more v f.
            written.read b more v (record {
              groups = f.groups;
              are = f.are;
              placed = fall_placed s.kinds f.groups 7 (subst (λ m. Fall s.kinds m f.groups) seven f.fall);
              ended = inr f.ended;
              is = f.is;
            });
      }
