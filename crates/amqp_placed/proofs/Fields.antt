-- A fault of a list of fields is shown by bytes, where those of its fields are (Part 1, section 1.4).
use Rattle.std.proofs.Common.{◌≡◌, ℕ, zero, suc, ◌<◌, inl, inr, Some, None, unwrap_or, List, length, sym, ap, ◌∙◌, subst, arith}
use Rattle.amqp_model.specs.Term.{list, array}
use Rattle.amqp_model.specs.declared.tables.FieldRule.{FieldRule}
use Rattle.amqp_model.specs.declared.tables.FieldRule.TheVariants.{Mandatory, Optional, Default, Multiple, MandatoryMultiple}
use Rattle.amqp_wire.specs.declared.error.Error.{Error}
use Rattle.amqp_wire.specs.declared.error.Error.TheVariants.{Missing, EmptyMultiple}
use Rattle.amqp_lengths.specs.Stands.{Piece, an_item, an_end, Around, IsAbsent, IsWrong}
use Rattle.amqp_decoder.specs.declared.frame.Place.TheVariants.{InList}
use Rattle.amqp_decoder.specs.State.{State}
use Rattle.amqp_decoder.specs.Places.{Located}
use Rattle.amqp_codec.specs.Fields.{Fields, none, field}
use Rattle.amqp_codec.specs.FieldReading.{absence, rule_at, FaultAt, ItemFault, no_item, null_item, in_item, FieldsFault, no_list}
use Rattle.amqp_codec.specs.FieldReading.{at_item, left_out, not_ended}
use Rattle.amqp_placed.specs.Facing.{bytes_open, Faces, Shows, AreShown}
use Rattle.amqp_placed.specs.Shown.{FieldsShown}
use Rattle.amqp_placed.proofs.Here.{wrong_as, here_shows, begin_shown, peeked_shown}
use Rattle.amqp_placed.proofs.Opening.{open_shown}
use Rattle.amqp_placed.proofs.Inside.{IsAt, in_row, inside_shows}
use Rattle.amqp_placed.proofs.Ends.{closing_shown}
use Rattle.amqp_placed.proofs.Wholes.{null_next}

-- a field that has to be there is absent
absent_wrong : (k : FieldRule) (e : Error) (around : Around) (P : Piece) (d : ℕ) (z : List ℕ) → absence k ≡ Some e → IsAbsent P z
    → IsWrong e around P d z
absent_wrong Mandatory e around P d z is h = wrong_as e Missing around P d z (sym (ap (λ o. unwrap_or o Missing) is)) h
absent_wrong MandatoryMultiple e around P d z is h = wrong_as e EmptyMultiple around P d z (sym (ap
    (λ o. unwrap_or o EmptyMultiple) is)) (inl h)
absent_wrong Optional e around P d z is h = absurd (cc)
absent_wrong Default e around P d z is h = absurd (cc)
absent_wrong Multiple e around P d z is h = absurd (cc)

not_array : list ≡ array → ⊥
not_array e = cc

module _ (e : Error) where
  field_shown : {V : Type 0} (fs : Fields V) (i : ℕ) → FieldsShown e fs → AreShown e (FaultAt fs i)
  field_shown none i shown st f is h = absurd h
  field_shown (field get x fs) zero shown st f is h = shown.0 st f is h
  field_shown (field get x fs) (suc i) shown st f is h = field_shown fs i shown.1 st f is h

  -- an item of the list
  item_shows : {V : Type 0} (fs : Fields V) (i n : ℕ) → FieldsShown e fs → (st : State) (f : Located) (d : ℕ) (around : Around)
      → f.error ≡ e
      → st.top.shared ≡ None → Faces st (an_item list n i) d around → ItemFault fs i st f
      → Shows st f (an_item list n i) d around
  item_shows fs i n shown st f d around is own h (no_item fault) = begin_shown st f fault (an_item list n i) d around h
  item_shows fs i n shown st f d around is own h (null_item {b} value rule place) =
      let k = null_next st b own value in
      here_shows st f (an_item list n i) d around (place ∙ sym k.rest)
      (absent_wrong (rule_at fs i) f.error around (an_item list n i) d (bytes_open st) rule (bytes_open b, k.bytes))
  item_shows fs i n shown st f d around is own h (in_item {c} {mid} peeks some fault) =
      peeked_shown st c mid f peeks (field_shown fs i shown mid f is fault) (an_item list n i) d around h

  at_its_item : (n i k : ℕ) (P : Piece) → k ≡ i → i < n → IsAt list n k P → P ≡ an_item list n i
  at_its_item n i k P same less (inl (few, is)) = is ∙ ap (an_item list n) same
  at_its_item n i k P same less (inr (all, is)) = absurd (omega (arith, same, less, all))

  at_its_end : (n k : ℕ) (P : Piece) → k ≡ n → IsAt list n k P → P ≡ an_end list n
  at_its_end n k P same (inl (few, is)) = absurd (omega (arith, same, few))
  at_its_end n k P same (inr (all, is)) = is

  pub fields_shown : {V : Type 0} (fs : Fields V) → FieldsShown e fs → AreShown e (FieldsFault fs)
  fields_shown fs shown st f is (no_list fault) = open_shown list not_array st f fault
  fields_shown fs shown st f is (at_item {n} {i} {v} {mid} s less few fault) =
      let own : s.first.top.shared ≡ None = ap (λ (x : State). x.top.shared) s.opens.data_.entered in
      let r = in_row s.terms s.bytes s.first mid own s.each in
      inside_shows list not_array st s.first mid n s.terms s.bytes f s.opens s.each (omega (arith, s.long, less))
      (λ P d around at h. (let p = at_its_item n i (length s.terms) P (omega (arith, s.long, less)) less at in
      subst (λ Q. Shows mid f Q d around) (sym p)
      (item_shows fs i n shown mid f d around is r.shared (subst (λ Q. Faces mid Q d around) p h) fault)))
  fields_shown fs shown st f is (left_out {n} {i} {v} {mid} s past less rule place) =
      inside_shows list not_array st s.first mid n s.terms s.bytes f s.opens s.each (omega (arith, s.long, past))
      (λ P d around at h. (let p = at_its_end n (length s.terms) P (omega (arith, s.long, past)) at in
      here_shows mid f P d around place
      (absent_wrong (rule_at fs i) f.error around P d (bytes_open mid) rule (subst (λ Q. IsAbsent Q (bytes_open mid)) (sym p) tt))))
  fields_shown fs shown st f is (not_ended {n} {v} {mid} s fault) =
      closing_shown list not_array InList st s.first mid n s.terms s.bytes f s.opens s.each (omega (arith, s.long)) fault
