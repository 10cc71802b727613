-- The fields and members of composites that stand before a decoder, and their faults, are the same of another source and
-- of a greater bound on nesting.
use Rattle.std.proofs.Common.{ℕ, zero, suc, List, [], ◌∷◌, length, ap, subst}
use Rattle.amqp_model.specs.Term.{Term}
use Rattle.amqp_decoder.specs.State.{State, after_value, weight_at}
use Rattle.amqp_decoder.specs.Items.{Row}
use Rattle.amqp_decoder.specs.OtherSource.{Setting, under, KeepsError}
use Rattle.amqp_decoder.specs.laws.OtherSource.{taken_past, begin_fault, peeked, value, stands, opens, open_fault, end_fault}
use Rattle.amqp_decoder.specs.laws.OtherSource.{closes, close_fault, opens_described, one_of_placed}
use Rattle.amqp_decoder.specs.Places.{Located}
use Rattle.amqp_codec.specs.Fields.{Fields, none, field}
use Rattle.amqp_codec.specs.FieldReading.{FaultAt, ItemFault, no_item, null_item, in_item, FieldsSoFar, FieldsRead, FieldsFault, no_list}
use Rattle.amqp_codec.specs.FieldReading.{at_item, left_out, not_ended}
use Rattle.amqp_codec.specs.Members as members
use Rattle.amqp_codec.specs.Members.{Members, MemberFault, no_member, in_member}

module _ (c : Setting) where
  abbrev at : State → State
  at = under c

  row : (ts : List Term) (st : State) (s : List ℕ) (b : State) → Row st ts s b → Row (at st) ts s (at b)
  row [] st s b (e, h) = (e, ap at h)
  row (t ∷ ts) st s b (first, others, e, h, k) = (
    first,
    others,
    e,
    stands c h,
    subst (λ x. Row x ts others (at b)) (taken_past c (length first) (weight_at st t) st)
        (row ts (after_value (length first) (weight_at st t) st) others b k),
  )

  pub fields_read : {V : Type 0} (fs : Fields V) (st : State) (v : V) (b : State) → FieldsRead fs st v b → FieldsRead fs (at st) v (at b)
  fields_read fs st v b h =
      let l = h.stand in
      record {
        terms = h.terms;
        stand = record {
          count = l.count;
          mid = at l.mid;
          opened = opens c l.opened;
          bytes = l.bytes;
          last = at l.last;
          items = row h.terms l.mid l.bytes l.last l.items;
          closed = closes c l.closed;
        };
        fits = h.fits;
      }

  so_far : {V : Type 0} (fs : Fields V) (st : State) (n i : ℕ) (v : V) (mid : State) → FieldsSoFar fs st n i v mid
      → FieldsSoFar fs (at st) n i v (at mid)
  so_far fs st n i v mid h =
      record {
        first = at h.first;
        opens = opens c h.opens;
        terms = h.terms;
        bytes = h.bytes;
        each = row h.terms h.first h.bytes mid h.each;
        long = h.long;
        front = h.front;
      }

  module _ (e : Located) (keeps : KeepsError c e.error) where
    fault_at : {V : Type 0} (fs : Fields V) (i : ℕ) (st : State) → FaultAt fs i st e → FaultAt fs i (at st) e
    fault_at none i st h = h
    fault_at (field get f fs) zero st h = f.faults.fault_elsewhere c st e keeps h
    fault_at (field get f fs) (suc i) st h = fault_at fs i st h

    item_fault : {V : Type 0} (fs : Fields V) (i : ℕ) (st : State) → ItemFault fs i st e → ItemFault fs i (at st) e
    item_fault fs i st (no_item h) = no_item (begin_fault c keeps h.0, h.1)
    item_fault fs i st (null_item v k place) = null_item (value c _ v) k place
    item_fault fs i st (in_item {mid = mid} p n h) = in_item (peeked c p) n (fault_at fs i mid h)

    pub fields_fault : {V : Type 0} (fs : Fields V) (st : State) → FieldsFault fs st e → FieldsFault fs (at st) e
    fields_fault fs st (no_list h) = no_list (open_fault c keeps h.0, h.1)
    fields_fault fs st (at_item {n} {i} {v} {mid} f l m h) = at_item (so_far fs st n i v mid f) l m (item_fault fs i mid h)
    fields_fault fs st (left_out {n} {i} {v} {mid} f l m k place) = left_out (so_far fs st n i v mid f) l m k place
    fields_fault fs st (not_ended {n} {v} {mid} f h) = not_ended (so_far fs st n _ v mid f) (close_fault c keeps h.0, h.1)

    pub member_fault : {V : Type 0} (m : Members V) (st : State) → MemberFault m st e → MemberFault m (at st) e
    member_fault m st (no_member names h) = no_member names (one_of_placed c keeps h)
    member_fault m st (in_member {d} {i} {inner} o p h) = in_member (opens_described c o) p ((m.faults i).fault_elsewhere c inner e keeps h)
    member_fault m st (members.not_ended {d} {i} {inner} {last} {v} o p r h) =
        members.not_ended (opens_described c o) p (m.reads_elsewhere c i inner v last r) (end_fault c keeps h.0, h.1)
