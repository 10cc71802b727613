-- How a message is read, group by group.
use Rattle.std.proofs.Common.{◌≡◌, inl, inr, ℕ, ◌<◌, Bool, true, List, length, refl, sym, ap, ◌∙◌, subst, arith, ◌≤◌}
use Rattle.amqp_wire.specs.declared.error.Error.{Error}
use Rattle.amqp_wire.specs.declared.error.Error.TheVariants.{Misplaced}
use Rattle.amqp_lookahead.proofs.SectionsAhead.{one_ahead}
use Rattle.amqp_decoder.specs.State.{Source, State}
use Rattle.amqp_decoder.specs.Steps.{IsOutside}
use Rattle.amqp_decoder.specs.OtherSource.{elsewhere}
use Rattle.amqp_decoder.specs.Places.{Located}
use Rattle.amqp_codec.specs.Reading.{looking, AreAlike}
use Rattle.amqp_batches.specs.Walk.{Leaves, Walk}
use Rattle.amqp_batches.specs.NoSections.{no_section_not_outside, no_section_elsewhere, no_section_within}
use Rattle.amqp_messages.specs.declared.order.Order.{Order}
use Rattle.amqp_messages.specs.declared.order.Order.TheVariants.{Any, Written}
use Rattle.amqp_messages.specs.Orders.{further, IsFull}
use Rattle.amqp_messages.specs.Kinds.{nothing, put, behind_code}
use Rattle.amqp_messages.specs.KindsReading.{Reads, SameFields, weight}
use Rattle.amqp_messages.specs.laws.KindsReading.{reads_one, put_same, same_sym, nothing_same, nothing_weight, reads_looked}
use Rattle.amqp_messages.specs.laws.KindsReading.{reads_elsewhere, reads_leave, fault_elsewhere, fault_not_outside, fault_within}
use Rattle.amqp_messages.specs.Groups.{Shape, Progress, GroupStep, GroupFault, in_group, misplaced, not_section}
use Rattle.amqp_messages.specs.Groups.{AreAllRead, AreAlikeSoFar}

pub full_ends : (o : Order) (left n : ℕ) → IsFull o left → further o left n < left → ⊥
full_ends Any left n f l = omega (arith, f, l)
full_ends Written left n f l = f

full_same : (o : Order) (m n : ℕ) → m ≡ n → IsFull o m → IsFull o n
full_same o m n e f = subst (IsFull o) e f

outside_placed : (e : Error) → IsOutside e → e ≡ Misplaced → ⊥
outside_placed e o i = subst IsOutside i o

module _ {V : Type 0} (o : Order) (s : Shape V) where
  pub group_one : (st : State) (m n x y : Progress s.kinds) (a b : State) → AreAlikeSoFar o s m n → GroupStep o s st m x a
      → GroupStep o s st n y b → AreAlikeSoFar o s x y × AreAlike a b
  group_one st m n x y a b l h k =
      let c = one_ahead st.rest h.code k.code h.ahead k.ahead in
      let r = reads_one s.kinds s.readings s.apart k.code st h.group k.group a b
      (subst (λ c. Reads s.kinds s.readings c st h.group a) c h.read) k.read in
      let part = put_same s.kinds s.readings h.group k.group m.part n.part r.0 l.1 in (
        (
          h.next ∙ ap (λ c. further o m.left (behind_code s.kinds c)) c ∙ ap (λ n. further o n (behind_code s.kinds k.code)) l.0 ∙ sym k.next,
          subst (λ z. SameFields s.kinds s.readings z y.part) (sym h.is)
              (subst (SameFields s.kinds s.readings (put s.kinds h.group m.part)) (sym k.is) part),
        ),
        r.1,
      )

  pub group_looked : (j : ℕ) (st : State) (m x : Progress s.kinds) (b : State) → GroupStep o s st m x b
      → (i : ℕ) × GroupStep o s (looking j st) m x (looking i b)
  group_looked j st m x b h =
      let f = reads_looked s.kinds s.readings h.code j st h.group b h.read in (
        f.0,
        record {
          top = h.top;
          code = h.code;
          ahead = h.ahead;
          in_place = h.in_place;
          next = h.next;
          group = h.group;
          read = f.1;
          is = h.is;
        },
      )

  pub group_elsewhere : (source : Source) (failed : Bool) (st : State) (m x : Progress s.kinds) (b : State) → GroupStep o s st m x b
      → GroupStep o s (elsewhere source failed st) m x (elsewhere source failed b)
  group_elsewhere source failed st m x b h = record {
    top = h.top;
    code = h.code;
    ahead = h.ahead;
    in_place = h.in_place;
    next = h.next;
    group = h.group;
    read = reads_elsewhere s.kinds s.readings h.code source failed st h.group b h.read;
    is = h.is;
  }

  pub group_leaves : (st : State) (m x : Progress s.kinds) (b : State) → GroupStep o s st m x b
      → Leaves st (weight s.kinds s.readings m.part) (weight s.kinds s.readings x.part) b
  group_leaves st m x b h =
      subst (λ z. Leaves st (weight s.kinds s.readings m.part) (weight s.kinds s.readings z) b) (sym h.is)
      (reads_leave s.kinds s.readings h.code st h.group b h.top h.read m.part)

  pub group_ends : (st : State) (m n x : Progress s.kinds) (b : State) → AreAlikeSoFar o s m n → GroupStep o s st m x b
      → AreAllRead o s n st.rest → ⊥
  group_ends st m n x b l h (inl f) =
      full_ends o m.left (behind_code s.kinds h.code) (full_same o n.left m.left (sym l.0) f) h.in_place
  group_ends st m n x b l h (inr e) = let a = ap length (sym h.ahead.split ∙ e) in absurd (cc)

  pub read_alike : (m n : Progress s.kinds) (rest : List ℕ) → AreAlikeSoFar o s m n → AreAllRead o s m rest → AreAllRead o s n rest
  read_alike m n rest l (inl f) = inl (full_same o m.left n.left l.0 f)
  read_alike m n rest l (inr e) = inr e

  pub group_fault_elsewhere : (source : Source) (failed : Bool) (st : State) (m : Progress s.kinds) (e : Located) → GroupFault o s st m e
      → GroupFault o s (elsewhere source failed st) m e
  group_fault_elsewhere source failed st m e (in_group {c} a p f) =
      in_group {c = c} a p (fault_elsewhere s.kinds s.readings c source failed st e f)
  group_fault_elsewhere source failed st m e (misplaced {c} f a p i left) = misplaced {c = c} f a p i left
  group_fault_elsewhere source failed st m e (not_section f r a i) = not_section f r a (no_section_elsewhere source failed st e i)

  pub group_not_outside : (e : Located) → IsOutside e.error → (st : State) (m : Progress s.kinds) → GroupFault o s st m e → ⊥
  group_not_outside e out st m (in_group {c} a p f) = fault_not_outside s.kinds s.readings c e out st f
  group_not_outside e out st m (misplaced f a p i left) = outside_placed e.error out i
  group_not_outside e out st m (not_section f r a i) = no_section_not_outside e out st i

  pub group_within : (st : State) (m : Progress s.kinds) (e : Located) → GroupFault o s st m e → e.left ≤ length st.rest
  group_within st m e (in_group {c} a p f) = fault_within s.kinds s.readings c st e f
  group_within st m e (misplaced f a p i left) = omega (arith, left)
  group_within st m e (not_section f r a i) = no_section_within st e i

  abbrev pub message_walk : Walk (Progress s.kinds) V
  message_walk = record {
    step = GroupStep o s;
    fault = GroupFault o s;
    done = AreAllRead o s;
    blank = record { left = 7; part = nothing s.kinds };
    finish = λ m v. s.ending.made m.part v;
    unfinished = λ m e. s.ending.unmade m.part e;
    takes_memory = true;
    alike = AreAlikeSoFar o s;
    same = s.ending.same;
    weight = λ m. weight s.kinds s.readings m.part;
    count = s.ending.count;
    same_sym = s.ending.same_sym;
    same_trans = s.ending.same_trans;
    alike_sym = λ m n l. (sym l.0, same_sym s.kinds s.readings m.part n.part l.1);
    blank_alike = (refl, nothing_same s.kinds s.readings);
    blank_weight = nothing_weight s.kinds s.readings;
    step_one = group_one;
    step_looked = group_looked;
    step_elsewhere = group_elsewhere;
    step_leaves = group_leaves;
    done_ends = group_ends;
    done_alike = read_alike;
    finish_one = λ m n v w l. s.ending.one m.part n.part v w l.1;
    finish_counted = λ m v. s.ending.counted m.part v;
    finish_or = λ m n v e l. s.ending.or_not m.part n.part v e l.1;
    fault_elsewhere = group_fault_elsewhere;
    not_outside = group_not_outside;
    unfinished_not_outside = λ e o m. s.ending.unmade_inside e o m.part;
    within = group_within;
  }
