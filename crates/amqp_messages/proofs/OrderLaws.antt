-- A message in the standard's order is one in any order, with the same value.
use Rattle.std.proofs.Common.{◌≡◌, inl, inr, ℕ, zero, suc, ◌≤◌, ◌-◌, List, length, refl, sym, ap, ◌∙◌, subst, arith}
use Rattle.amqp_decoder.specs.State.{State}
use Rattle.amqp_wire.specs.declared.limits.Limits.{Limits}
use Rattle.amqp_codec.specs.Reading.{start_within, BeginsWithin}
use Rattle.amqp_batches.specs.laws.State.{alike_rest}
use Rattle.amqp_batches.specs.Walk.{Steps, Walked}
use Rattle.amqp_batches.specs.WalkReading.{walk_reading}
use Rattle.amqp_messages.specs.declared.order.Order.TheVariants.{Any, Written}
use Rattle.amqp_messages.specs.Kinds.{nothing, put}
use Rattle.amqp_messages.specs.Groups.{Shape, Progress, GroupStep, AreAllRead}
use Rattle.amqp_messages.specs.MessageWalk.{message_walk}

module _ {V : Type 0} (s : Shape V) where
  abbrev M : Type 0
  M = Progress s.kinds

  -- the same was read, and there may still be as many groups
  record Loosened (n : ℕ) (st : State) (m : M) (x : M) (b : State) : Type 0 where
    to : M
    same : to.part ≡ x.part
    steps : Steps (message_walk Any s) n st m to b

  loosened : (n : ℕ) (st : State) (m p x : M) (b : State) → p.part ≡ m.part → m.left ≤ p.left
      → Steps (message_walk Written s) n st m x b → Loosened n st p x b
  loosened zero st m p x b e l (i, j) =
      record { to = p; same = e ∙ ap (λ (z : M). z.part) (sym i); steps = (refl, j) }
  loosened (suc n) st m p x b e l (y, mid, h, k) =
      let place = h.in_place in
      let q : M = record { left = p.left - 1; part = y.part } in
      let r = loosened n mid y q x b refl (omega (arith, l, place, h.next)) k in
      let step : GroupStep Any s st p q mid = record {
        top = h.top;
        code = h.code;
        ahead = h.ahead;
        in_place = omega (arith, l, place);
        next = refl;
        group = h.group;
        read = h.read;
        is = h.is ∙ ap (put s.kinds h.group) (sym e);
      } in
      record { to = r.to; same = r.same; steps = (q, mid, step, r.steps) }

  all_read : (m : M) (rest : List ℕ) (p : M) → AreAllRead Written s m rest → AreAllRead Any s p rest
  all_read m rest p (inl f) = absurd f
  all_read m rest p (inr e) = inr e

  pub strict_is_any : (st : State) (v : V) (b : State) → Walked (message_walk Written s) st v b → Walked (message_walk Any s) st v b
  strict_is_any st v b h =
      let blank : M = record { left = 7; part = nothing s.kinds } in
      let r = loosened h.number st blank blank h.part h.last refl (omega arith) h.steps in
      record {
        top = h.top;
        number = h.number;
        part = r.to;
        last = h.last;
        steps = r.steps;
        done = all_read h.part h.last.rest r.to h.done;
        made = subst (λ m. s.ending.made m v) (sym r.same) h.made;
        left = h.left;
      }

  -- of a whole input
  pub strict_begins : (limits : Limits) (input : List ℕ) (v : V) (n : ℕ)
      → BeginsWithin limits (walk_reading (message_walk Written s)) input v n
      → BeginsWithin limits (walk_reading (message_walk Any s)) input v n
  strict_begins limits input v n h =
      record { after = h.after; read = strict_is_any (start_within limits input) v h.after h.read; left = h.left }

  -- and it is the whole input
  pub strict_whole : (limits : Limits) (input : List ℕ) (v : V) (n : ℕ)
      → BeginsWithin limits (walk_reading (message_walk Written s)) input v n → n ≡ length input
  strict_whole limits input v n h = by_end h.read.done
    where
      by_end : AreAllRead Written s h.read.part h.read.last.rest → n ≡ length input
      by_end (inl f) = absurd f
      by_end (inr e) = omega (arith, h.left, ap length (alike_rest h.read.last h.after h.read.left ∙ e))
