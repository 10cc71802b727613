-- Lists of values of one type (Part 1, section 1.6.22).
use Rattle.std.proofs.Common.{◌≡◌, map, refl, sym, ap, ◌∙◌}
use Rattle.std.proofs.lemmas.List.{length-map}
use Rattle.std.specs.declared.vec.Vec.{Vec}
use Rattle.amqp_model.specs.Term.{list}
use Rattle.amqp_model.specs.FieldType.{Norm, normal, unchanged, by_norm}
use Rattle.amqp_decoder.specs.declared.frame.Place.TheVariants.{InList}
use Rattle.amqp_decoder.specs.Containers.{Opens, OpenFault}
use Rattle.amqp_decoder.specs.laws.OtherSource.{opens, open_fault}
use Rattle.amqp_decoder.proofs.Misspelled.{open_misspelled}
use Rattle.amqp_decoder.proofs.NothingInside.{nothing_in_container, nothing_at_end}
use Rattle.amqp_decoder.proofs.Rooms.{room_inside}
use Rattle.amqp_decoder.proofs.NotOutside.{open_not_outside}
use Rattle.amqp_decoder.proofs.Opening.{opens_same}
use Rattle.amqp_decoder.proofs.ContainerTerms.{whole_with_parts, parts}
use Rattle.amqp_decoder.specs.Places.{Here}
use Rattle.amqp_codec.specs.TermType.{TermType}
use Rattle.amqp_codec.specs.laws.Refusal.{opened_going, opened_sound}
use Rattle.amqp_codec.specs.Each.{norm_items}
use Rattle.amqp_codec.specs.ItemsReading.{Opening}
use Rattle.amqp_codec.specs.ListOrArrayType.{items_faults, items_of}
use Rattle.amqp_codec.specs.ItemsWriting.{items_writing, items_agreement}
use Rattle.amqp_codec.specs.Wrappers.{via}
use Rattle.amqp_codec.specs.Written.{Writing}
use Rattle.amqp_codec.specs.Agreement.{Agreement, via_writing, via_agreement}
use Rattle.amqp_codec.specs.laws.Within.{here_within, opens_shrinks}

-- How a list is opened.
abbrev pub list_opening : Opening
list_opening = record {
  kind = list;
  is_list_or_array = tt;
  opens = Opens list;
  fault = Here (OpenFault list);
  fits = λ st. Unit {0};
  one = λ st n m a b. opens_same list st n m a b;
  was_going = λ st n first o. o.begun.going;
  going = λ st n first o. opened_going o;
  sound = λ st n first o. opened_sound o;
  items = λ st n first o. ap (λ x. x.top.items) o.data_.entered;
  room_inside = room_inside list;
  taken = λ st ts st' h. whole_with_parts list tt st ts st'
      (record { count = h.count; mid = h.first; opened = h.opened; bytes = h.bytes; last = h.last; items = h.row; closed = h.closed });
  held = λ st ts st' fits n. (let c = parts list tt st ts st' n in
      record { count = c.count; first = c.mid; opened = c.opened; bytes = c.bytes; last = c.last; row = c.items; closed = c.closed });
  not_outside = λ e out st h. open_not_outside out list st h.0;
  opens_elsewhere = λ c st n first o. opens c o;
  fault_elsewhere = λ c st e keeps h. (open_fault c keeps h.0, h.1);
  misspelled = λ st e room is h. open_misspelled list tt st e.error is h.0;
  within = here_within (OpenFault list);
  shrinks = opens_shrinks list;
  nothing_in = λ st n first mid ts b room. nothing_in_container list tt st n first mid ts b;
  nothing_at_end = λ st n first last ts b e room. nothing_at_end list tt InList st n first last ts b e;
}

abbrev pub norm_vec : {T Z : Type 0} → Norm T → Norm (Vec T Z)
norm_vec unchanged = unchanged
norm_vec (by_norm f) = by_norm (λ v. record {
  ptr = v.ptr;
  len = v.len;
  cap = v.cap;
  alloc = v.alloc;
  items = map f v.items;
  ok = (v.ok.0 ∙ sym (length-map v.items f), v.ok.1);
  small = v.small;
})

pub vec_normal : {T Z : Type 0} (n : Norm T) (v : Vec T Z) → (normal (norm_vec n) v).items ≡ normal (norm_items n) v.items
vec_normal unchanged v = refl
vec_normal (by_norm f) v = refl

-- A vector is as the list of its items.
abbrev pub vec_of : {T Z : Type 0} → TermType T → TermType (Vec T Z)
vec_of u = via (items_of list_opening u) (λ v. v.items) (norm_vec u.norm) (vec_normal u.norm)

pub vec_agreement : {T Z : Type 0} {u : TermType T} {w : Writing T} → Agreement u w
    → Agreement (vec_of {Z = Z} u) (via_writing (λ (v : Vec T Z). v.items) (items_writing list tt w))
vec_agreement {u = u} a =
    via_agreement (λ v. v.items) (norm_vec u.norm) (vec_normal u.norm)
    (items_agreement list tt (items_faults list_opening u.means u.faults) a)
