-- What is read of a message within limits of the caller, and what without.
use Rattle.std.proofs.Common.{inl, inr, ℕ, refl}
use Rattle.amqp_decoder.specs.State.{State}
use Rattle.amqp_batches.specs.Bounds.{IsFresh, TakesRow, IsBoundByLimits}
use Rattle.amqp_batches.specs.laws.Bound.{takes_so, walk_bound}
use Rattle.amqp_batches.specs.WalkReading.{walk_reading}
use Rattle.amqp_messages.specs.declared.order.Order.{Order}
use Rattle.amqp_messages.specs.Kinds.{Kinds, none, kind, Group}
use Rattle.amqp_messages.specs.KindsReading.{Readings, Reads}
use Rattle.amqp_messages.specs.Groups.{Shape, Progress, GroupStep}
use Rattle.amqp_messages.specs.MessageWalk.{message_walk}

-- Limits of the caller bound what is read of each kind.
abbrev pub AreBoundByLimits : (ks : Kinds) → Readings ks → Type 0
AreBoundByLimits none rs = Unit {0}
AreBoundByLimits (kind T codes ks) rs = IsBoundByLimits rs.0 × AreBoundByLimits ks rs.1

group_takes : (ks : Kinds) (rs : Readings ks) → AreBoundByLimits ks rs → (c : ℕ) (st : State) (g : Group ks) (b : State) → IsFresh st
    → Reads ks rs c st g b → TakesRow (λ first last. Reads ks rs c first g last) st b
group_takes none rs bound c st g b fresh h = absurd h
group_takes (kind T codes ks) rs bound c st (inl g) b fresh h =
    takes_so (λ first last. rs.0.reads first g last) (λ first last. Reads (kind T codes ks) rs c first (inl g) last) st b st b refl refl
    (λ free nesting left quota l q read. (h.0, read)) (bound.0 st g b fresh h.1)
group_takes (kind T codes ks) rs bound c st (inr g) b fresh h = group_takes ks rs.1 bound.1 c st g b fresh h

module _ {V : Type 0} (o : Order) (s : Shape V) (bound : AreBoundByLimits s.kinds s.readings) where
  one_group : (st : State) (m x : Progress s.kinds) (b : State) → IsFresh st → GroupStep o s st m x b
      → TakesRow (λ first last. GroupStep o s first m x last) st b
  one_group st m x b fresh h =
      takes_so (λ first last. Reads s.kinds s.readings h.code first h.group last) (λ first last. GroupStep o s first m x last)
      st b st b refl refl
      (λ free nesting left quota l q read. record {
        top = h.top;
        code = h.code;
        ahead = h.ahead;
        in_place = h.in_place;
        next = h.next;
        group = h.group;
        read = read;
        is = h.is;
      })
      (group_takes s.kinds s.readings bound h.code st h.group b fresh h.read)

  pub message_bound : IsBoundByLimits (walk_reading (message_walk o s))
  message_bound = walk_bound (message_walk o s) one_group
