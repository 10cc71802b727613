-- The laws of the items of tables of fields, once for all tables.
use Rattle.std.proofs.Common.{◌≡◌, inl, inr, ℕ, ◌+◌, ◌≤◌, Bool, true, false, ◌||◌, cond, List, [], ◌∷◌, ◌++◌, length, length-append, refl}
use Rattle.std.proofs.Common.{ap, ◌∙◌, subst, arith, max, suc}
use Rattle.std.specs.Cmp.{first_so, second_so}
use Rattle.amqp_model.specs.Term.{Refusal, too_large, null, Term, Terms, leaf, count}
use Rattle.amqp_model.specs.Term as term
use Rattle.amqp_model.specs.Spelling.{IsSpelling, AreItemsOf as ItemsStand}
use Rattle.amqp_model.specs.Text.{Alone, text, texts}
use Rattle.amqp_model.specs.Measures.{nest, nests, all_nodes}
use Rattle.amqp_model.specs.Ranges.{EverywhereIn, IsValue, IsNoArray, IsBytes}
use Rattle.amqp_model.specs.Refusals.{Somewhere, SomewhereIn, IsRefused}
use Rattle.amqp_model.specs.Items.{terms_of, items_of, is_left_out, before_nulls}
use Rattle.amqp_model.specs.laws.Item.{clash}
use Rattle.amqp_model.specs.Fields.{Fits, canonical_items, AreValues}
use Rattle.amqp_model.proofs.Least.{bytes_left, bytes_right}
use Rattle.amqp_model.proofs.ItemCounts.{canonical_fewest}
use Rattle.amqp_encoder.proofs.Refused.{count_of as count_terms}
use Rattle.amqp_codec.specs.TermType.{KeepNoBytes}
use Rattle.amqp_codec.specs.Fields.{Fields, slots, items, count_of, are_least, none, field}

pub either_first : (a b : Bool) → a ≡ true → (a || b) ≡ true
either_first true b h = refl
either_first false b h = absurd (clash h refl)

pub either_second : (a b : Bool) → b ≡ true → (a || b) ≡ true
either_second true b h = refl
either_second false b h = h

-- what holds with an item and without it holds where it may be left out
left_out : (E : Terms → Type 0) (t : Term) (b : Bool) → E term.none → E (term.more t term.none) → E (terms_of (cond b [] (t ∷ [])))
left_out E t true e h = e
left_out E t false e h = h

before_each : (E : Terms → Type 0) (t : Term) (us : List Term) → E term.none → E (term.more t (terms_of us))
    → E (terms_of (before_nulls t us))
before_each E t [] e h = left_out E t (is_left_out t) e h
before_each E t (u ∷ us) e h = h

pub items_keeps_no_bytes : {V : Type 0} (fs : Fields V) (v : V) → KeepNoBytes (items fs v)
unfolding canonical_items
items_keeps_no_bytes none v = tt
items_keeps_no_bytes (field get f fs) v =
    before_each KeepNoBytes (f.slot.meaning.canon (get v)) (canonical_items (slots fs) v) tt
    (f.laws.keeps_no_bytes (get v), items_keeps_no_bytes fs v)

pub items_valued : {V : Type 0} (fs : Fields V) (v : V) → AreValues (slots fs) v → EverywhereIn IsValue (items fs v)
unfolding canonical_items
items_valued none v i = tt
items_valued (field get f fs) v i =
    before_each (EverywhereIn IsValue) (f.slot.meaning.canon (get v)) (canonical_items (slots fs) v) tt
    (f.laws.valued (get v) i.0, items_valued fs v i.1)

pub items_nested : {V : Type 0} (fs : Fields V) (ts : Terms) (v : V) → Fits (slots fs) (items_of ts) v → nests (items fs v) ≤ nests ts
unfolding Fits canonical_items
items_nested none ts v h = omega arith
items_nested (field get f fs) term.none v h =
    before_each (λ us. nests us ≤ 0) (f.slot.meaning.canon (get v)) (canonical_items (slots fs) v) (omega arith)
    (omega (arith, (f.laws.meant (leaf null) (get v) h.0).nested, items_nested fs term.none v h.1))
items_nested (field get f fs) (term.more t ts) v h =
    before_each (λ us. nests us ≤ max (nest t) (nests ts)) (f.slot.meaning.canon (get v)) (canonical_items (slots fs) v) (omega arith)
    (omega (arith, (f.laws.meant t (get v) h.0).nested, items_nested fs ts v h.1))

pub items_counted : {V : Type 0} (fs : Fields V) (ts : Terms) (v : V) → Fits (slots fs) (items_of ts) v → count_of fs v ≤ all_nodes ts
unfolding Fits
items_counted none ts v h = omega arith
items_counted (field get f fs) term.none v h =
    omega (arith, (f.laws.meant (leaf null) (get v) h.0).missing refl, items_counted fs term.none v h.1)
items_counted (field get f fs) (term.more t ts) v h = omega (arith, (f.laws.meant t (get v) h.0).counted, items_counted fs ts v h.1)

pub null_spelled : IsSpelling (0x40 ∷ []) (leaf null)
unfolding IsSpelling
null_spelled = ([], 0x40, omega arith, (0x40 ∷ [], [], refl, (refl, tt), (refl, refl, tt)))

abbrev OnlyLarge : Terms → Type 0
OnlyLarge us = (r : Refusal) → SomewhereIn (IsRefused r) us → r ≡ too_large

one_more : (t : Term) (us : Terms) → ((r : Refusal) → Somewhere (IsRefused r) t → r ≡ too_large) → OnlyLarge us → OnlyLarge (term.more t us)
one_more t us h k r i = elim i [ inl j ↦ h r j | inr j ↦ k r j ]

pub items_writable : {V : Type 0} (fs : Fields V) (ts : Terms) (b : List ℕ) (v : V) → ItemsStand ts b → Fits (slots fs) (items_of ts) v
    → (r : Refusal) → SomewhereIn (IsRefused r) (items fs v) → r ≡ too_large
unfolding Fits canonical_items IsSpelling
items_writable none ts b v s h = λ r i. absurd i
items_writable (field get f fs) term.none b v s h =
    before_each OnlyLarge (f.slot.meaning.canon (get v)) (canonical_items (slots fs) v) (λ r i. absurd i)
    (one_more (f.slot.meaning.canon (get v)) (items fs v) ((f.laws.meant (leaf null) (get v) h.0).writable (0x40 ∷ []) null_spelled)
    (items_writable fs term.none b v s h.1))
items_writable (field get f fs) (term.more t ts) b v (first, second, e, s, rest) h =
    before_each OnlyLarge (f.slot.meaning.canon (get v)) (canonical_items (slots fs) v) (λ r i. absurd i)
    (one_more (f.slot.meaning.canon (get v)) (items fs v) ((f.laws.meant t (get v) h.0).writable first s)
    (items_writable fs ts second v rest h.1))

length_items : (ts : Terms) → length (items_of ts) ≡ count ts
length_items term.none = refl
length_items (term.more t ts) = ap suc (length_items ts)

-- there are no more canonical items than items
pub items_fewest : {V : Type 0} (fs : Fields V) (ts : Terms) (v : V) → Fits (slots fs) (items_of ts) v → count (items fs v) ≤ count ts
items_fewest fs ts v h =
    omega (arith, count_terms (canonical_items (slots fs) v), length_items ts, canonical_fewest (slots fs) (items_of ts) v h)

none_left : (us : List Term) → length us ≤ 0 → length (texts (terms_of us) Alone) ≤ 0
unfolding texts
none_left [] h = omega arith
none_left (u ∷ us) h = absurd (omega arith)

-- their text is no longer than the items' bytes
pub items_least : {V : Type 0} (fs : Fields V) (ts : Terms) (b : List ℕ) (v : V) → are_least fs ≡ true → IsBytes b
    → EverywhereIn IsNoArray (items fs v) → ItemsStand ts b → Fits (slots fs) (items_of ts) v → length (texts (items fs v) Alone) ≤ length b
unfolding Fits canonical_items IsSpelling texts
items_least none ts b v l i n s h = omega arith
items_least (field get f fs) term.none b v l i n s h =
    omega (arith, none_left (canonical_items (slots (field get f fs)) v) (canonical_fewest (slots (field get f fs)) [] v h))
items_least (field get f fs) (term.more t ts) b v l i n (first, second, e, s, rest) h =
    let bytes : IsBytes (first ++ second) = subst IsBytes e i in
    let long : length b ≡ length first + length second = ap length e ∙ length-append first second in
    let canon = f.slot.meaning.canon (get v) in
    before_each (λ us. EverywhereIn IsNoArray us → length (texts us Alone) ≤ length b) canon
    (canonical_items (slots fs) v) (λ _. omega arith)
    (λ k. omega (
      arith,
      long,
      length-append (text canon Alone) (texts (items fs v) Alone),
      f.laws.least (first_so f.laws.is_least (are_least fs) l) first t (get v) h.0 (bytes_left first second bytes) k.0 s,
      items_least fs ts second v (second_so f.laws.is_least (are_least fs) l) (bytes_right first second bytes) k.1 rest h.1,
    ))
    n
