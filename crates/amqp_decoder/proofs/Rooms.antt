-- Where containers have room, and what keeps it.
use Rattle.std.proofs.Common.{◌≡◌, ◌≤◌, ◌<◌, ℕ, inl, inr, Option, Some, None, List, [], ◌∷◌, length, refl, sym, ap, ◌∙◌, subst, arith}
use Rattle.amqp_model.specs.Term.{Container, array, Term, Terms, container, Descriptor}
use Rattle.amqp_decoder.specs.declared.frame.Place.{Place}
use Rattle.amqp_decoder.specs.declared.frame.Place.TheVariants.{InArray}
use Rattle.amqp_decoder.specs.State.{State, Has, lower, after_look, after_value, weight_at, in_container}
use Rattle.amqp_decoder.specs.Reading.{after_peek, PeeksCode}
use Rattle.amqp_decoder.specs.Primitives.{standing, SpellsAs, Stands}
use Rattle.amqp_decoder.specs.Containers.{Opens}
use Rattle.amqp_decoder.specs.Described.{OpensDescribed, in_described}
use Rattle.amqp_decoder.specs.Arrays.{no_items, shared_by, Starts, OpensArray}
use Rattle.amqp_decoder.specs.Items.{Next, Row}
use Rattle.amqp_decoder.specs.Rooms.{HasFlatItems, HasRoom}
use Rattle.amqp_decoder.proofs.ArrayTerms.{flat_array}

-- at the top level
pub room_at_top : (st : State) → st.saved ≡ [] → HasRoom st
room_at_top st e = inl (omega (arith, ap length e))

-- an item is left, and holds others
pub room_fits : (st : State) → HasRoom st → Has st.top.items 1 → (HasFlatItems st.top.shared → ⊥) → length st.saved ≤ st.nesting
room_fits st (inl few) item holds = few
room_fits st (inr (inl none)) item holds = absurd (let h : Has (Some 0) 1 = subst (λ o. Has o 1) none item in omega (arith, h))
room_fits st (inr (inr flat)) item holds = absurd (holds flat)

flat_shared : (o : Option (List Descriptor × ℕ)) (us : Terms) (s : List ℕ) → HasFlatItems o
    → SpellsAs (standing o s) (container array us) → ⊥
flat_shared None us s flat h = flat
flat_shared (Some (ds, c)) us s flat h = flat_array us ds c s flat h

-- an array stands there: it counts in nesting where its items do
pub room_for_array : (st : State) (us : Terms) (s : List ℕ) → HasRoom st → Stands st s (container array us) → length st.saved ≤ st.nesting
room_for_array st us s room k = room_fits st room k.item (λ flat. flat_shared st.top.shared us s flat k.spelled)

-- what was looked at isn't taken
pub room_looked : (n : ℕ) (st : State) → HasRoom st → HasRoom (after_look n st)
room_looked n st room = room

under_room : (o : Option (List Descriptor × ℕ)) (st : State) → HasRoom st → HasRoom (after_peek o st)
under_room None st room = room
under_room (Some c) st room = room

pub room_peeked : (st : State) (c : ℕ) (st' : State) → PeeksCode st c st' → HasRoom st → HasRoom st'
room_peeked st c st' p room = subst HasRoom (sym p.kept) (under_room st.top.shared st room)

none_past : (o : Option ℕ) → o ≡ Some 0 → lower o 1 ≡ Some 0
none_past o e = ap (λ x. lower x 1) e ∙ ap Some (omega arith)

-- terms are taken
pub room_past : (n k : ℕ) (st : State) → HasRoom st → HasRoom (after_value n k st)
room_past n k st (inl few) = inl few
room_past n k st (inr (inl none)) = inr (inl (none_past st.top.items none))
room_past n k st (inr (inr flat)) = inr (inr flat)

pub room_next : (st : State) (t : Term) (st' : State) → Next st t st' → HasRoom st → HasRoom st'
room_next st t st' h room = subst HasRoom (sym h.moved) (room_past (length h.bytes) (weight_at st t) st room)

pub room_row : (ts : List Term) (st : State) (b : List ℕ) (st' : State) → Row st ts b st' → HasRoom st → HasRoom st'
room_row [] st b st' (e, is) room = subst HasRoom (sym is) room
room_row (t ∷ ts) st b st' (first, others, e, k, row) room =
    room_row ts (after_value (length first) (weight_at st t) st) others st' row (room_past (length first) (weight_at st t) st room)

-- a container or a described value is opened
one_more : (place : Place) (n content : ℕ) (st : State) → length st.saved < st.nesting → HasRoom (in_container place n content st)
one_more place n content st few = inl (omega (arith, few))

pub room_inside : (kind : Container) (st : State) (n : ℕ) (st' : State) → Opens kind st n st' → HasRoom st'
room_inside kind st n st' o =
    let d = o.data_ in
    subst HasRoom (sym d.entered)
    (one_more _ n d.content d.mid (subst (λ (z : State). length z.saved < z.nesting) (sym d.header.took.moved) d.few))

described_more : (st : State) → length st.saved < st.nesting → HasRoom (in_described st)
described_more st few = inl (omega (arith, few))

pub room_in_described : (st : State) (d : Descriptor) (st' : State) → OpensDescribed st d st' → HasRoom st'
room_in_described st d st' o =
    let named : o.named.saved ≡ st.saved =
    ap (λ (z : State). z.saved) (o.descriptor.took.moved) ∙ ap (λ (z : State). z.saved) o.begun.moved in
    let limit : o.named.nesting ≡ st.nesting =
    ap (λ (z : State). z.nesting) (o.descriptor.took.moved) ∙ ap (λ (z : State). z.nesting) o.begun.moved in
    subst HasRoom (sym o.opened) (described_more o.named (omega (arith, o.nested, ap length named, limit)))

room_started : (n content : ℕ) (at st' : State) → Starts n content (in_container InArray 0 content at) st' → HasRoom st'
room_started n content at st' (inl (none, is)) = subst HasRoom (sym is) (inr (inl refl))
room_started n content at st' (inr (some, no_items ds c none t)) = subst HasRoom (sym t.took.moved) (inr (inl refl))
room_started n content at st' (inr (some, shared_by ds c m full t wide (inl flat) is)) = subst HasRoom (sym is) (inr (inr flat))
room_started n content at st' (inr (some, shared_by ds c m full t wide (inr few) is)) =
    subst HasRoom (sym is) (inl (subst (λ (z : State). length z.saved ≤ z.nesting) (sym t.took.moved) few))

pub room_in_array : (st : State) (n : ℕ) (st' : State) → OpensArray st n st' → HasRoom st'
room_in_array st n st' o = let d = o.data_ in room_started n d.content d.mid st' d.starts
