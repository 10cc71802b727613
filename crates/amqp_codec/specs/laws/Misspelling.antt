-- A composite's fault by an error that says of bytes that they are no term stands only where no term does.
use Rattle.std.proofs.Common.{◌≡◌, ℕ, zero, suc, Some, arith}
use Rattle.amqp_model.specs.Term.{list}
use Rattle.amqp_model.specs.declared.tables.FieldRule.{FieldRule}
use Rattle.amqp_model.specs.declared.tables.FieldRule.TheVariants.{Mandatory, Optional, Default, Multiple, MandatoryMultiple}
use Rattle.amqp_wire.specs.declared.error.Error.{Error}
use Rattle.amqp_wire.specs.declared.error.Error.TheVariants.{Missing, EmptyMultiple}
use Rattle.amqp_decoder.specs.declared.frame.Place.TheVariants.{InList, InDescribed}
use Rattle.amqp_decoder.specs.State.{State}
use Rattle.amqp_decoder.specs.Rooms.{HasRoom}
use Rattle.amqp_decoder.specs.Misspelled.{IsMisspelling, NothingStands}
use Rattle.amqp_decoder.proofs.Misspelled.{begin_misspelled, open_misspelled, one_of_misspelled, end_misspelled}
use Rattle.amqp_decoder.proofs.NothingInside.{nothing_in_container, nothing_at_end, nothing_described, nothing_peeked}
use Rattle.amqp_decoder.proofs.Rooms.{room_row, room_peeked, room_inside, room_in_described}
use Rattle.amqp_decoder.specs.Places.{Located}
use Rattle.amqp_codec.specs.Fields.{Fields, none, field}
use Rattle.amqp_codec.specs.FieldReading.{absence, rule_at, FaultAt, ItemFault, no_item, null_item, in_item, FieldsFault, no_list, at_item}
use Rattle.amqp_codec.specs.FieldReading.{left_out, not_ended}
use Rattle.amqp_codec.specs.Members as members
use Rattle.amqp_codec.specs.Members.{Members, MemberFault, no_member, in_member}

-- that a field is absent says nothing of bytes
missing_spelled : (e : Error) → Some Missing ≡ Some e → IsMisspelling e → ⊥
missing_spelled Missing h i = i
missing_spelled _ h i = cc

empty_spelled : (e : Error) → Some EmptyMultiple ≡ Some e → IsMisspelling e → ⊥
empty_spelled EmptyMultiple h i = i
empty_spelled _ h i = cc

pub absence_spelled : (k : FieldRule) (e : Error) → absence k ≡ Some e → IsMisspelling e → ⊥
absence_spelled Mandatory e h i = missing_spelled e h i
absence_spelled MandatoryMultiple e h i = empty_spelled e h i
absence_spelled Optional e h i = cc
absence_spelled Default e h i = cc
absence_spelled Multiple e h i = cc

module _ (e : Located) (is : IsMisspelling e.error) where
  field_misspelled : {V : Type 0} (fs : Fields V) (i : ℕ) (st : State) → HasRoom st → FaultAt fs i st e → NothingStands st
  field_misspelled none i st room h = absurd h
  field_misspelled (field get f fs) zero st room h = f.faults.misspelled st e room is h
  field_misspelled (field get f fs) (suc i) st room h = field_misspelled fs i st room h

  item_misspelled : {V : Type 0} (fs : Fields V) (i : ℕ) (st : State) → HasRoom st → ItemFault fs i st e → NothingStands st
  item_misspelled fs i st room (no_item h) = begin_misspelled st e.error is h.0
  item_misspelled fs i st room (null_item v k place) = absurd (absence_spelled (rule_at fs i) e.error k is)
  item_misspelled fs i st room (in_item {c} {mid} p n h) =
      nothing_peeked st c mid p (field_misspelled fs i mid (room_peeked st c mid p room) h)

  fields_named : {V : Type 0} (fs : Fields V) (st : State) → FieldsFault fs st e → NothingStands st
  fields_named fs st (no_list h) = open_misspelled list tt st e.error is h.0
  fields_named fs st (at_item {n} {i} {v} {mid} s l k h) =
      nothing_in_container list tt st n s.first mid s.terms s.bytes s.opens s.each (omega (arith, s.long, l))
      (item_misspelled fs i mid (room_row s.terms s.first s.bytes mid s.each (room_inside list st n s.first s.opens)) h)
  fields_named fs st (left_out {n} {i} s l k h place) = absurd (absence_spelled (rule_at fs i) e.error h is)
  fields_named fs st (not_ended {n} {v} {mid} s h) = nothing_at_end list tt InList st n s.first mid s.terms s.bytes e.error s.opens s.each is h.0

  member_named : {V : Type 0} (m : Members V) (st : State) → MemberFault m st e → NothingStands st
  member_named m st (no_member {ms} names h) = one_of_misspelled ms st e.error is h.0
  member_named m st (in_member {d} {i} {inner} o at h) =
      nothing_described st d inner o ((m.faults i).misspelled inner e (room_in_described st d inner o) is h)
  member_named m st (members.not_ended {d} {i} {inner} {last} {v} o at r h) = absurd (end_misspelled InDescribed last e.error is h.0)

pub fields_misspelled : {V : Type 0} (fs : Fields V) (st : State) (e : Located) → HasRoom st → IsMisspelling e.error
    → FieldsFault fs st e → NothingStands st
fields_misspelled fs st e room is = fields_named e is fs st

pub member_misspelled : {V : Type 0} (m : Members V) (st : State) (e : Located) → HasRoom st → IsMisspelling e.error
    → MemberFault m st e → NothingStands st
member_misspelled m st e room is = member_named e is m st
