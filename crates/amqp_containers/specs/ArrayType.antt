-- Arrays of values of one type (Part 1, section 1.6.24).
use Rattle.std.proofs.Common.{◌≡◌, ℕ, None, refl, ap, ◌∙◌, inl, inr}
use Rattle.amqp_model.specs.Term.{array}
use Rattle.amqp_model.specs.FieldType.{Norm, normal, unchanged, by_norm}
use Rattle.amqp_decoder.specs.declared.frame.Place.TheVariants.{InArray}
use Rattle.amqp_decoder.specs.State.{State}
use Rattle.amqp_decoder.specs.Arrays.{no_items, shared_by, Starts, OpensArray, array_left}
use Rattle.amqp_decoder.specs.Rooms.{HasRoom}
use Rattle.amqp_decoder.specs.laws.OtherSource.{opens_array, array_placed}
use Rattle.amqp_decoder.proofs.ArrayTerms.{whole_array_with_parts, array_parts, opens_array_same, opened_items}
use Rattle.amqp_decoder.proofs.Misspelled.{array_misspelled}
use Rattle.amqp_decoder.proofs.NothingInside.{nothing_in_array, nothing_at_array_end}
use Rattle.amqp_decoder.proofs.Rooms.{room_for_array, room_in_array}
use Rattle.amqp_decoder.proofs.NotOutside.{array_not_outside}
use Rattle.amqp_decoder.specs.Places.{At}
use Rattle.amqp_codec.specs.TermType.{TermType}
use Rattle.amqp_codec.specs.Each.{norm_items}
use Rattle.amqp_codec.specs.ItemsReading.{Opening}
use Rattle.amqp_codec.specs.ListOrArrayType.{items_faults, items_of}
use Rattle.amqp_codec.specs.VecType.{norm_vec}
use Rattle.amqp_codec.specs.ItemsWriting.{items_writing, items_agreement}
use Rattle.amqp_codec.specs.Wrappers.{via}
use Rattle.amqp_codec.specs.Written.{Writing}
use Rattle.amqp_codec.specs.Agreement.{Agreement, via_writing, via_agreement}
use Rattle.amqp_containers.specs.declared.array.Array.{Array}
use Rattle.amqp_codec.specs.laws.Within.{array_within, array_shrinks}

-- what taking the constructor of an array leaves as it was
starts_still : (n content : ℕ) (st first : State) → Starts n content st first → (first.error ≡ st.error) × (first.failed ≡ st.failed)
starts_still n content st first (inl (e, is)) = (ap (λ (x : State). x.error) is, ap (λ (x : State). x.failed) is)
starts_still n content st first (inr (some, no_items ds c e t)) =
    (ap (λ (x : State). x.error) t.took.moved, ap (λ (x : State). x.failed) t.took.moved)
starts_still n content st first (inr (some, shared_by ds c m full t wide fits is)) = (
  ap (λ (x : State). x.error) is ∙ ap (λ (x : State). x.error) t.took.moved,
  ap (λ (x : State). x.failed) is ∙ ap (λ (x : State). x.failed) t.took.moved,
)

pub opened_still : (st : State) (n : ℕ) (first : State) → OpensArray st n first → (first.error ≡ None) × (first.failed ≡ st.failed)
opened_still st n first o =
    let d = o.data_ in
    let s = starts_still n d.content _ first d.starts in (
      s.0 ∙ ap (λ (x : State). x.error) d.header.took.moved ∙ ap (λ (x : State). x.error) o.begun.moved ∙ o.begun.going,
      s.1 ∙ ap (λ (x : State). x.failed) d.header.took.moved ∙ ap (λ (x : State). x.failed) o.begun.moved,
    )

-- How an array is opened.
abbrev pub array_opening : Opening
array_opening = record {
  kind = array;
  is_list_or_array = tt;
  opens = OpensArray;
  fault = At array_left;
  fits = HasRoom;
  one = λ st n m a b. opens_array_same st n m a b;
  was_going = λ st n first o. o.begun.going;
  going = λ st n first o. (opened_still st n first o).0;
  sound = λ st n first o. (opened_still st n first o).1;
  items = λ st n first o. (opened_items st n first o).1;
  room_inside = room_in_array;
  taken = λ st ts st' h. whole_array_with_parts st ts st'
      (record { count = h.count; mid = h.first; opened = h.opened; bytes = h.bytes; last = h.last; items = h.row; closed = h.closed });
  held = λ st ts st' fits n. (let c = array_parts st ts st' (room_for_array st ts n.bytes fits n.stands) n in
      record { count = c.count; first = c.mid; opened = c.opened; bytes = c.bytes; last = c.last; row = c.items; closed = c.closed });
  not_outside = λ e out st f. array_not_outside out st f.0;
  opens_elsewhere = λ c st n first o. opens_array c o;
  fault_elsewhere = λ c st e keeps h. array_placed c keeps h;
  misspelled = λ st e room i f. array_misspelled st e.error room i f.0;
  within = array_within;
  shrinks = array_shrinks;
  nothing_in = nothing_in_array;
  nothing_at_end = nothing_at_array_end InArray;
}

abbrev pub norm_array : {T : Type 0} → Norm T → Norm (Array T)
norm_array unchanged = unchanged
norm_array (by_norm f) = by_norm (λ v. record v { 0 = normal (norm_vec (by_norm f)) v.0 })

pub array_normal : {T : Type 0} (n : Norm T) (v : Array T) → (normal (norm_array n) v).0.items ≡ normal (norm_items n) v.0.items
array_normal unchanged v = refl
array_normal (by_norm f) v = refl

-- An array is as its items.
abbrev pub array_of : {T : Type 0} → TermType T → TermType (Array T)
array_of u = via (items_of array_opening u) (λ v. v.0.items) (norm_array u.norm) (array_normal u.norm)

pub array_agreement : {T : Type 0} {u : TermType T} {w : Writing T} → Agreement u w
    → Agreement (array_of u) (via_writing (λ (v : Array T). v.0.items) (items_writing array tt w))
array_agreement {u = u} a =
    via_agreement (λ v. v.0.items) (norm_array u.norm) (array_normal u.norm)
    (items_agreement array tt (items_faults array_opening u.means u.faults) a)
