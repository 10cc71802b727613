-- A fault of a composite stands in what is before the decoder, or at the end of that.
use Rattle.std.proofs.Common.{◌≡◌, ℕ, zero, suc, ◌≤◌, None, length, ap, ◌∙◌, arith}
use Rattle.amqp_model.specs.Term.{null, list}
use Rattle.amqp_decoder.specs.State.{State}
use Rattle.amqp_decoder.specs.Primitives.{Means}
use Rattle.amqp_decoder.specs.Places.{Located}
use Rattle.amqp_codec.specs.Fields.{Fields, none, field}
use Rattle.amqp_codec.specs.FieldReading.{FaultAt, ItemFault, no_item, null_item, in_item, FieldsSoFar, FieldsRead, FieldsFault}
use Rattle.amqp_codec.specs.FieldReading.{no_list, at_item, left_out, not_ended}
use Rattle.amqp_codec.specs.Members as members
use Rattle.amqp_codec.specs.Members.{Members, MemberFault, no_member, in_member}
use Rattle.amqp_codec.specs.laws.Within.{own_value_shrinks, peek_keeps, opens_shrinks, row_shrinks, row_shares, contains_shrinks}
use Rattle.amqp_codec.specs.laws.Within.{described_shrinks, one_of_within}

pub fields_shrink : {V : Type 0} (fs : Fields V) (st : State) (v : V) (b : State) → FieldsRead fs st v b → length b.rest ≤ length st.rest
fields_shrink fs st v b h = contains_shrinks list st h.terms b h.stand

module _ {V : Type 0} (fs : Fields V) (st : State) (n i : ℕ) (v : V) (mid : State) (s : FieldsSoFar fs st n i v mid) where
  so_far_shrinks : length mid.rest ≤ length st.rest
  so_far_shrinks = omega (arith, opens_shrinks list st n s.first s.opens, row_shrinks s.first s.terms s.bytes mid s.each)

  so_far_own : mid.top.shared ≡ None
  so_far_own = row_shares s.first s.terms s.bytes mid s.each ∙ ap (λ (x : State). x.top.shared) s.opens.data_.entered

module _ (e : Located) where
  field_within : {V : Type 0} (fs : Fields V) (i : ℕ) (st : State) → FaultAt fs i st e → e.left ≤ length st.rest
  field_within none i st h = absurd h
  field_within (field get f fs) zero st h = f.faults.within st e h
  field_within (field get f fs) (suc i) st h = field_within fs i st h

  item_within : {V : Type 0} (fs : Fields V) (i : ℕ) (st : State) → st.top.shared ≡ None → ItemFault fs i st e → e.left ≤ length st.rest
  item_within fs i st own (no_item h) = omega (arith, h.1)
  item_within fs i st own (null_item {b} v k place) =
      omega (arith, place, own_value_shrinks (Means (λ (_ : Unit {0}). null)) st tt b own v)
  item_within fs i st own (in_item {c} {mid} p n h) = omega (arith, field_within fs i mid h, peek_keeps st c mid p)

  pub fields_within : {V : Type 0} (fs : Fields V) (st : State) → FieldsFault fs st e → e.left ≤ length st.rest
  fields_within fs st (no_list h) = omega (arith, h.1)
  fields_within fs st (at_item {n} {i} {v} {mid} s l k h) =
      omega (arith, item_within fs i mid (so_far_own fs st n i v mid s) h, so_far_shrinks fs st n i v mid s)
  fields_within fs st (left_out {n} {i} {v} {mid} s l k h place) = omega (arith, place, so_far_shrinks fs st n i v mid s)
  fields_within fs st (not_ended {n} {v} {mid} s h) = omega (arith, h.1, so_far_shrinks fs st n _ v mid s)

  pub member_within : {V : Type 0} (m : Members V) (st : State) → MemberFault m st e → e.left ≤ length st.rest
  member_within m st (no_member {ms} names h) = one_of_within ms st e h
  member_within m st (in_member {d} {i} {inner} o at h) =
      omega (arith, (m.faults i).within inner e h, described_shrinks st d inner o)
  member_within m st (members.not_ended {d} {i} {inner} {last} {v} o at r h) =
      omega (arith, h.1, m.shrinks i inner v last r, described_shrinks st d inner o)
