-- Where no term stands in what was opened, none stands around it.
use Rattle.std.proofs.Common.{◌≡◌, ◌<◌, ℕ, suc, ◌+◌, Option, Some, None, List, [], ◌∷◌, length, length-append, refl, sym, ap, ◌∙◌, subst}
use Rattle.std.proofs.Common.{arith}
use Rattle.amqp_model.specs.Term.{Container, array, Term, container, described, Descriptor}
use Rattle.amqp_model.specs.Items.{items_of}
use Rattle.amqp_wire.specs.declared.error.Error.{Error}
use Rattle.amqp_decoder.specs.declared.frame.Place.{Place}
use Rattle.amqp_decoder.specs.declared.frame.Place.TheVariants.{InArray}
use Rattle.amqp_decoder.specs.State.{State, Has, lower, bound_of, after_value, weight_at}
use Rattle.amqp_decoder.specs.Reading.{after_peek, PeeksCode}
use Rattle.amqp_decoder.specs.Primitives.{Stands}
use Rattle.amqp_decoder.specs.Containers.{place_of, Opens, Closes, CloseFault, not_at_end, bytes_left_over}
use Rattle.amqp_decoder.specs.Described.{TakesDescriptor, OpensDescribed, in_described}
use Rattle.amqp_decoder.specs.Arrays.{OpensArray}
use Rattle.amqp_decoder.specs.Rooms.{HasRoom}
use Rattle.amqp_decoder.specs.Items.{Row}
use Rattle.amqp_decoder.specs.Misspelled.{IsMisspelling, NothingStands}
use Rattle.amqp_decoder.proofs.Steps.{has_none, lower_none}
use Rattle.amqp_decoder.proofs.ReadPrimitives.{lower-lower, has_add, begun_same}
use Rattle.amqp_decoder.proofs.Opening.{opens_same}
use Rattle.amqp_decoder.proofs.OneReading.{row_front}
use Rattle.amqp_decoder.proofs.Peeks.{stands-looked}
use Rattle.amqp_decoder.proofs.ContainerTerms.{IsRow, used_up, place_items, parts}
use Rattle.amqp_decoder.proofs.ArrayTerms.{array_parts, starts_items, opens_array_same}
use Rattle.amqp_decoder.proofs.Rooms.{room_for_array}
use Rattle.amqp_decoder.proofs.Descriptors.{descriptor_same}
use Rattle.amqp_decoder.proofs.Descriptions.{term_described}
use Rattle.amqp_decoder.proofs.Misspelled.{term_under, container_there, described_there, next_of, end_misspelled}

-- How many terms are taken in a row.
record Counted (n : ℕ) (st mid : State) : Type 0 where
  pub room : Has st.top.items n
  pub items : mid.top.items ≡ lower st.top.items n

counted : (ts : List Term) (st : State) (b : List ℕ) (mid : State) → Row st ts b mid → Counted (length ts) st mid
counted [] st b mid (e, is) =
    record { room = has_none st.top.items; items = ap (λ (z : State). z.top.items) is ∙ sym (lower_none st.top.items) }
counted (t ∷ ts) st b mid (s, r, e, k, row) =
    let i = counted ts (after_value (length s) (weight_at st t) st) r mid row in
    let one : 1 + length ts ≡ suc (length ts) = omega arith in
    record {
      room = subst (Has st.top.items) one (has_add st.top.items 1 (length ts) k.item i.room);
      items = i.items ∙ lower-lower st.top.items 1 (length ts) ∙ ap (lower st.top.items) one;
    }

-- A term that was opened and closed: its items were taken in a row.
record Held (place : Place) (first : State) : Type 0 where
  pub items : List Term
  pub bytes : List ℕ
  pub last : State
  pub after : State
  pub row : Row first items bytes last
  pub closed : Closes place last after

-- What was opened here has n items, and a term that stands here is taken so.
record Holding (place : Place) (st : State) (n : ℕ) (first : State) : Type 0 where
  pub count : first.top.items ≡ Some n
  pub held : (s : List ℕ) (t : Term) → Stands st s t → Held place first

held_count : (place : Place) (n : ℕ) (first : State) (h : Held place first) → first.top.items ≡ Some n → n ≡ length h.items
held_count place n first h count =
    let c = counted h.items first h.bytes h.last h.row in
    used_up first.top.items n (length h.items) count c.room (sym c.items ∙ h.closed.items)

-- an item is left where no term stands
nothing_next : (ts us : List Term) (st last : State) (b : List ℕ) → us ≡ ts → 0 < length ts → Row st us b last → NothingStands st → ⊥
nothing_next ts [] st last b is some row none = omega (arith, ap length is)
nothing_next ts (u ∷ us) st last b is some (s, r, e, k, row) none = none s u k

held_nothing : (place : Place) (st : State) (n : ℕ) (first mid : State) (ts : List Term) (b : List ℕ) → Holding place st n first
    → Row first ts b mid → length ts < n → NothingStands mid → NothingStands st
held_nothing place st n first mid ts b o row less none = λ s t k.
    let h = o.held s t k in
    let long : n ≡ length h.items = held_count place n first h o.count in
    let (others, d, is, more) = row_front ts h.items first mid h.last b h.bytes row h.row (omega (arith, long, less)) in
    nothing_next others others mid h.last d refl (omega (arith, long, less, ap length is, length-append ts others)) more none

-- all items are taken in one way
row_ends : (others : List Term) (st last : State) (b : List ℕ) → length others ≡ 0 → Row st others b last → last ≡ st
row_ends [] st last b none (e, is) = is
row_ends (t ∷ ts) st last b none row = absurd (omega arith)

held_end : (place other : Place) (st : State) (n : ℕ) (first last : State) (ts : List Term) (b : List ℕ) (e : Error)
    → Holding place st n first → Row first ts b last → CloseFault other last e → IsMisspelling e → NothingStands st
held_end place other st n first last ts b e o row (not_at_end f) bad = absurd (end_misspelled other last e bad f)
held_end place other st n first last ts b e o row (bytes_left_over open_ none some f) bad = λ s t k.
    let h = o.held s t k in
    let c = counted ts first b last row in
    let all : n ≡ length ts = used_up first.top.items n (length ts) o.count c.room (sym c.items ∙ none) in
    let long : n ≡ length h.items = held_count place n first h o.count in
    let (others, d, is, more) = row_front ts h.items first last h.last b h.bytes row h.row (omega (arith, long, all)) in
    let same : h.last ≡ last = row_ends others last h.last d (omega (arith, long, all, ap length is, length-append ts others)) more in
    some (ap (λ (z : State). bound_of z.top) (sym same) ∙ h.closed.left)

-- lists and maps
opens_holding : (kind : Container) → IsRow kind → (st : State) (n : ℕ) (first : State) → Opens kind st n first
    → Holding (place_of kind) st n first
opens_holding kind is st n first o = record {
  count = ap (λ (z : State). z.top.items) o.data_.entered ∙ place_items kind n;
  held = λ s t k.
      let x = container_there o.code kind o.width t o.announced (term_under st o.code o.mid s t o.begun k) in
      let y = after_value (length s) (weight_at st t) st in
      let c = parts kind is st x.0 y (next_of st s t (container kind x.0) k x.1) in
      let same = opens_same kind st n c.count first c.mid o c.opened in
      let row = subst (λ z. Row z (items_of x.0) c.bytes c.last) (sym same.1) c.items in
      record { items = items_of x.0; bytes = c.bytes; last = c.last; after = y; row = row; closed = c.closed };
}

pub nothing_in_container : (kind : Container) → IsRow kind → (st : State) (n : ℕ) (first mid : State) (ts : List Term) (b : List ℕ)
    → Opens kind st n first → Row first ts b mid → length ts < n → NothingStands mid → NothingStands st
nothing_in_container kind is st n first mid ts b o row less none =
    held_nothing (place_of kind) st n first mid ts b (opens_holding kind is st n first o) row less none

pub nothing_at_end : (kind : Container) → IsRow kind
    → (place : Place) (st : State) (n : ℕ) (first last : State) (ts : List Term) (b : List ℕ) (e : Error) → Opens kind st n first
    → Row first ts b last → IsMisspelling e → CloseFault place last e → NothingStands st
nothing_at_end kind is place st n first last ts b e o row bad f =
    held_end (place_of kind) place st n first last ts b e (opens_holding kind is st n first o) row f bad

-- arrays
opens_array_holding : (st : State) (n : ℕ) (first : State) → HasRoom st → OpensArray st n first → Holding InArray st n first
opens_array_holding st n first room o = record {
  count = starts_items n o.data_.content _ first refl o.data_.starts;
  held = λ s t k.
      let x = container_there o.code array o.width t o.announced (term_under st o.code o.mid s t o.begun k) in
      let few = room_for_array st x.0 s room (subst (Stands st s) x.1 k) in
      let y = after_value (length s) (weight_at st t) st in
      let c = array_parts st x.0 y few (next_of st s t (container array x.0) k x.1) in
      let same = opens_array_same st n c.count first c.mid o c.opened in
      let row = subst (λ z. Row z (items_of x.0) c.bytes c.last) (sym same.1) c.items in
      record { items = items_of x.0; bytes = c.bytes; last = c.last; after = y; row = row; closed = c.closed };
}

pub nothing_in_array : (st : State) (n : ℕ) (first mid : State) (ts : List Term) (b : List ℕ) → HasRoom st → OpensArray st n first
    → Row first ts b mid → length ts < n → NothingStands mid → NothingStands st
nothing_in_array st n first mid ts b room o row less none =
    held_nothing InArray st n first mid ts b (opens_array_holding st n first room o) row less none

pub nothing_at_array_end : (place : Place) (st : State) (n : ℕ) (first last : State) (ts : List Term) (b : List ℕ) (e : Error)
    → HasRoom st
    → OpensArray st n first → Row first ts b last → IsMisspelling e → CloseFault place last e → NothingStands st
nothing_at_array_end place st n first last ts b e room o row bad f =
    held_end InArray place st n first last ts b e (opens_array_holding st n first room o) row f bad

-- described values
pub opens_described_same : (st : State) (d c : Descriptor) (a b : State) → OpensDescribed st d a → OpensDescribed st c b → (d ≡ c) × (a ≡ b)
opens_described_same st d c a b o p =
    let g = begun_same st 0 0 o.coded p.coded o.begun p.begun in
    let s = descriptor_same p.coded d c o.named p.named (subst (λ z. TakesDescriptor z d o.named) g.1 o.descriptor) p.descriptor in
    (s.0, o.opened ∙ ap in_described s.1 ∙ sym p.opened)

pub nothing_described : (st : State) (d : Descriptor) (inner : State) → OpensDescribed st d inner → NothingStands inner → NothingStands st
nothing_described st d inner o none = λ s t k.
    let x = described_there 0 t refl (term_under st 0 o.coded s t o.begun k) in
    let y = term_described st x.0 x.1 (after_value (length s) (weight_at st t) st) (next_of st s t (described x.0 x.1) k x.2) in
    none y.bytes x.1 (subst (λ z. Stands z y.bytes x.1) (sym (opens_described_same st d x.0 inner y.inner o y.opens).1) y.stands)

-- a look
looked_stands : (o : Option (List Descriptor × ℕ)) (st : State) (s : List ℕ) (t : Term) → Stands st s t → Stands (after_peek o st) s t
looked_stands None st s t k = (stands-looked 1 st s t).1 k
looked_stands (Some c) st s t k = k

pub nothing_peeked : (st : State) (c : ℕ) (mid : State) → PeeksCode st c mid → NothingStands mid → NothingStands st
nothing_peeked st c mid p none = λ s t k. none s t (subst (λ z. Stands z s t) (sym p.kept) (looked_stands st.top.shared st s t k))
