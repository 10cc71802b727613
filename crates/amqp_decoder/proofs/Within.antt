-- What stands within limits of the caller.
use Rattle.std.proofs.Common.{◌≡◌, ◌≤◌, ◌↔◌, ◌-◌, ℕ, Option, Some, None, List, length, max, sym, subst, arith}
use Rattle.amqp_model.specs.Term.{Descriptor, Term}
use Rattle.amqp_model.specs.Measures.{nest}
use Rattle.amqp_decoder.specs.State.{State, Has, weight_at}
use Rattle.amqp_decoder.specs.Within.{limited}
use Rattle.amqp_decoder.specs.Reading.{IsFirst, after_peek, PeeksCode}
use Rattle.amqp_decoder.specs.Primitives.{Stands}

pub stands_within : (nesting : ℕ) (left quota : Option ℕ) (st : State) (s : List ℕ) (t : Term) → nesting ≤ st.nesting → st.top.left ≡ None
    → st.quota ≡ None → Stands (limited nesting left quota st) s t
    ↔ (Stands st s t × Has left (length s) × (nest t ≤ nesting - length st.saved) × Has quota (weight_at st t))
stands_within nesting left quota st s t most none uncounted = (
  λ k. (
    record {
      going = k.going;
      item = k.item;
      room = subst (λ o. Has o (length s)) (sym none) tt;
      after = k.after;
      rest = k.rest;
      spelled = k.spelled;
      nested = let n = k.nested in omega (arith, n, most);
      few = subst (λ o. Has o (weight_at st t)) (sym uncounted) tt;
    },
    k.room,
    k.nested,
    k.few,
  ),
  λ (k, room, deep, few). record {
    going = k.going;
    item = k.item;
    room = room;
    after = k.after;
    rest = k.rest;
    spelled = k.spelled;
    nested = deep;
    few = few;
  },
)

has_most : (o : Option ℕ) (m n : ℕ) → Has o m → Has o n → Has o (max m n)
has_most None m n h k = tt
has_most (Some l) m n h k = omega (arith, h, k)

look_within : (o : Option (List Descriptor × ℕ)) (st : State) (c : ℕ) (own : List ℕ) → IsFirst o c own → Has st.top.left (length own)
    → Has st.top.left st.ahead → Has (after_peek o st).top.left (after_peek o st).ahead
look_within None st c own first room ahead =
    has_most st.top.left st.ahead 1 ahead (subst (λ b. Has st.top.left (length b)) first room)
look_within (Some s) st c own first room ahead = ahead

pub looked_within : (st looked : State) (c : ℕ) → PeeksCode st c looked → Has st.top.left st.ahead → Has looked.top.left looked.ahead
looked_within st looked c p ahead =
    subst (λ (z : State). Has z.top.left z.ahead) (sym p.kept)
    (look_within st.top.shared st c p.begun.own p.begun.first p.begun.room ahead)
