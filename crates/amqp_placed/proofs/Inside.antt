-- From a list or map that was opened to an item of it, or to its end (Part 1, sections 1.6.22 and 1.6.23).
use Rattle.std.proofs.Common.{◌≡◌, ℕ, zero, suc, ◌+◌, ◌-◌, ◌<◌, ◌≤◌, ◌⊎◌, inl, inr, Option, Some, None, unwrap_or, List, [], ◌∷◌, ◌++◌}
use Rattle.std.proofs.Common.{length, take, refl, sym, ap, ◌∙◌, subst, arith}
use Rattle.std.proofs.lemmas.List.{length-append, take-take}
use Rattle.std.specs.Int.{bytes_high_first}
use Rattle.amqp_model.specs.Term.{Container, list, map, array, Term, Descriptor}
use Rattle.amqp_model.specs.Constructors.{compound, format}
use Rattle.amqp_lengths.specs.Fronts.{Behind}
use Rattle.amqp_lengths.specs.Lengths as lengths
use Rattle.amqp_lengths.specs.Stands.{Piece, an_item, an_end, Around, unbounded, whole_one, cut_one, outermost, AnyTerm, Step, to_item}
use Rattle.amqp_lengths.specs.Stands.{to_end}
use Rattle.amqp_decoder.specs.State.{Open, State, Has, lower, bound_of, bytes_left, announced, after_value, weight_at, items_of}
use Rattle.amqp_decoder.specs.State.{in_container}
use Rattle.amqp_decoder.specs.Primitives.{standing, SpellsAs}
use Rattle.amqp_decoder.specs.Containers.{place_of, Opens}
use Rattle.amqp_decoder.specs.Items.{Row}
use Rattle.amqp_decoder.specs.Places.{Located}
use Rattle.amqp_decoder.proofs.Steps.{lower_none}
use Rattle.amqp_decoder.proofs.ReadPrimitives.{lower-lower}
use Rattle.amqp_decoder.proofs.Rooms.{room_row, room_inside}
use Rattle.amqp_placed.specs.Facing.{up_to, bytes_open, IsAround, IsNext, Faces, Shows, IsShown}
use Rattle.amqp_placed.proofs.Past.{Past, past_code, past_taken, past_value, past_none, past_both, has_bound, past_bytes, lowered_bound}
use Rattle.amqp_placed.proofs.Past.{lowered_sum, past_length, past_around, past_unlimited}
use Rattle.amqp_placed.proofs.Here.{none_some}
use Rattle.amqp_placed.proofs.Onward.{onward_shows}
use Rattle.amqp_placed.proofs.Contents.{content_there}
use Rattle.amqp_placed.proofs.Opening.{entering, compound_some, head_is}

-- terms that were taken in turn, under what they share, each as bytes of which Q holds
pub record InRow (Q : List ℕ → Type 0) (o : Option (List Descriptor × ℕ)) (ts : List Term) (b : List ℕ) (st mid : State) : Type 0 where
  pub past : Past b st mid
  pub spelled : lengths.Row Q (length ts) b
  pub items : mid.top.items ≡ lower st.top.items (length ts)
  pub shared : mid.top.shared ≡ o

pub in_row_under : (Q : List ℕ → Type 0) (o : Option (List Descriptor × ℕ)) → ((s : List ℕ) (t : Term) → SpellsAs (standing o s) t → Q s)
    → (ts : List Term) (b : List ℕ) (st mid : State) → st.top.shared ≡ o → Row st ts b mid → InRow Q o ts b st mid
in_row_under Q o holds [] b st mid own (none, is) = record {
  past = subst (λ x. Past x st mid) (sym none) (subst (Past [] st) (sym is) (past_none st));
  spelled = none;
  items = ap (λ (x : State). x.top.items) is ∙ sym (lower_none st.top.items);
  shared = ap (λ (x : State). x.top.shared) is ∙ own;
}
in_row_under Q o holds (t ∷ ts) b st mid own (s, r, e, h, row) =
    let next = after_value (length s) (weight_at st t) st in
    let i = in_row_under Q o holds ts r next mid own row in
    let one : 1 + length ts ≡ suc (length ts) = omega arith in
    record {
      past = subst (λ x. Past x st mid) (sym e) (past_both s r st next mid (past_value st s t h) i.past);
      spelled = (s, r, e, holds s t (subst (λ x. SpellsAs (standing x s) t) own h.spelled), i.spelled);
      items = i.items ∙ lower-lower st.top.items 1 (length ts) ∙ ap (lower st.top.items) one;
      shared = i.shared;
    }

-- terms with constructors of their own
pub in_row : (ts : List Term) (b : List ℕ) (st mid : State) → st.top.shared ≡ None → Row st ts b mid → InRow AnyTerm None ts b st mid
in_row = in_row_under AnyTerm None (λ s t h. (t, h))

pub take_up_to : (o : Option ℕ) (n : ℕ) (r : List ℕ) → Has o n → take n (up_to o r) ≡ take n r
take_up_to None n r h = refl
take_up_to (Some l) n r h = take-take n l r h

items_in : (kind : Container) (n : ℕ) → items_of (place_of kind) n ≡ Some n
items_in list n = refl
items_in map n = refl
items_in array n = refl

bound_lowered : (f : Open) (n : ℕ) → bound_of (record f { left = lower f.left n }) ≡ lower (bound_of f) n
bound_lowered f n = lowered_bound f.sized f.sized f.left (lower f.left n) n refl refl

-- what is around the items of a container of so many bytes that was entered
pub entered_around : (m : State) (n content : ℕ) (place : _) (around inner : Around) → Has (bound_of m.top) content → IsAround around m
    → ((inner ≡ whole_one) × (content ≤ length (bytes_open m))) ⊎ ((inner ≡ cut_one) × (length (bytes_open m) < content))
    → IsAround (outermost around inner) (in_container place n content m)
entered_around m n content place around inner room h told = go around inner h told
  where
    first : State
    first = in_container place n content m

    all : announced (in_container place n content m) ≡ content + (unwrap_or (lower (bound_of m.top) content) 0 + bytes_left m.saved)
    all = ap (λ q. content + (unwrap_or q 0 + bytes_left m.saved)) (bound_lowered m.top content)

    go : (around inner : Around) → IsAround around m
        → ((inner ≡ whole_one) × (content ≤ length (bytes_open m))) ⊎ ((inner ≡ cut_one) × (length (bytes_open m) < content))
        → IsAround (outermost around inner) (in_container place n content m)
    go unbounded inner (none, outer) (inl (is, few)) =
        let bytes = ap (λ x. length (up_to x m.rest)) none in
        let left = ap (λ x. unwrap_or (lower x content) 0) none in
        subst (λ x. IsAround x (in_container place n content m)) (sym is) (content, refl, omega (arith, all, left, outer, few, bytes))
    go unbounded inner (none, outer) (inr (is, few)) =
        let bytes = ap (λ x. length (up_to x m.rest)) none in
        subst (λ x. IsAround x (in_container place n content m)) (sym is) (content, refl, omega (arith, all, few, bytes))
    go whole_one inner (l, some, there) told =
        let sum = lowered_sum (bound_of m.top) (lower (bound_of m.top) content) content l (bytes_left m.saved) some room refl in
        (content, refl, omega (arith, all, sum, there))
    go cut_one inner (l, some, there) told =
        let sum = lowered_sum (bound_of m.top) (lower (bound_of m.top) content) content l (bytes_left m.saved) some room refl in
        (content, refl, omega (arith, all, sum, there))

-- The piece is the item of a number of a list or map of n items, from 0 on, or its end.
abbrev pub IsAt : Container → ℕ → ℕ → Piece → Type 0
IsAt kind n k P = ((k < n) × (P ≡ an_item kind n k)) ⊎ ((k ≡ n) × (P ≡ an_end kind n))

-- An item of the container, or its end.
record Within (kind : Container) (n k d : ℕ) (left : Option ℕ) : Type 0 where
  piece : Piece
  is : IsAt kind n k piece
  next : IsNext left None piece
  step : (P : Piece) (z data_ items after : List ℕ) (c w behind : ℕ) (inner : Around)
      → Rattle.amqp_lengths.specs.Stands.IsUnder P z c data_ → format c ≡ compound kind w
      → Rattle.amqp_lengths.specs.Stands.Contains kind w n items data_ inner behind
      → Behind (lengths.Row AnyTerm k) items after → Step P d z piece (suc d) after inner behind

within : (kind : Container) → (kind ≡ array → ⊥) → (n k d : ℕ) → k ≤ n → Within kind n k d (Some (n - k))
within kind other n k d few = go (n - k) refl
  where
    go : (left : ℕ) → n - k ≡ left → Within kind n k d (Some left)
    go zero is =
        let same : k ≡ n = omega (arith, is, few) in
        record {
          piece = an_end kind n;
          is = inr (same, refl);
          next = tt;
          step = λ P z data_ items after c w behind inner under is contains row.
              to_end P d z data_ items after c w n behind kind inner under is other contains
              (subst (λ x. Behind (lengths.Row AnyTerm x) items after) same row);
        }
    go (suc left) is = record {
      piece = an_item kind n k;
      is = inl (omega (arith, is), refl);
      next = tt;
      step = λ P z data_ items after c w behind inner under is' contains row.
          to_item P d z data_ items after c w n k behind kind inner under is' other contains (omega (arith, is)) row;
    }

-- What is shown behind some items of a container is shown of the container.
pub inside_shows : (kind : Container) → (kind ≡ array → ⊥)
    → (st first mid : State) (n : ℕ) (ts : List Term) (b : List ℕ) (f : Located)
    → Opens kind st n first → Row first ts b mid → length ts ≤ n
    → ((P : Piece) (d : ℕ) (around : Around) → IsAt kind n (length ts) P → Faces mid P d around
    → Shows mid f P d around) → IsShown st f
inside_shows kind other st first mid n ts b f o row few shown P d around h =
    let x = entering kind o.width o.code P d around st o.mid h o.begun o.announced in
    let e = o.data_ in
    let head = e.header in
    let past0 = past_code st o.code o.mid o.begun in
    let past1 = past_taken o.mid (bytes_high_first o.width head.size ++ bytes_high_first o.width n) e.mid head.took in
    let m = e.mid in
    let own : first.top.shared ≡ None = ap (λ (x : State). x.top.shared) e.entered in
    let r = in_row ts b first mid own row in
    let room = has_bound m.top.sized m.top.left e.content e.room in
    let k = content_there kind o.width n e.content head.size (bytes_open o.mid) (bytes_open m) head.fits head.few head.counts
    (head_is x n e.content m head) in
    let items = take e.content (bytes_open m) in
    let first_bytes : bytes_open first ≡ items =
    ap bytes_open e.entered ∙ sym (take_up_to (bound_of m.top) e.content m.rest room) in
    let behind : Behind (lengths.Row AnyTerm (length ts)) items (bytes_open mid) =
    record { front = b; is = sym first_bytes ∙ past_bytes r.past; spelled = r.spelled } in
    let around1 = past_around past1 around (past_around past0 around h.is_around) in
    let first_around : IsAround (outermost around k.inner) first =
    subst (IsAround (outermost around k.inner)) (sym e.entered)
    (entered_around m n e.content (place_of kind) around k.inner room around1 k.told) in
    let first_bound : bound_of first.top ≡ Some e.content = ap (λ (x : State). bound_of x.top) e.entered in
    let saved : length mid.saved ≡ suc (length st.saved) =
    ap length r.past.saved ∙ ap (λ (x : State). length x.saved) e.entered ∙ ap suc (ap length past1.saved ∙ ap length past0.saved) in
    let left : mid.top.items ≡ Some (n - length ts) =
    r.items ∙ ap (λ x. lower x (length ts)) (ap (λ (x : State). x.top.items) e.entered ∙ items_in kind n) in
    let w = within kind other n (length ts) d few in
    let faces : Faces mid w.piece (suc d) (outermost around k.inner) = record {
      nesting = r.past.nesting ∙ ap (λ (x : State). x.nesting) e.entered ∙ past1.nesting ∙ past0.nesting ∙ h.nesting;
      uncounted = r.past.uncounted (ap (λ (x : State). x.quota) e.entered ∙ past1.uncounted (past0.uncounted h.uncounted));
      unlimited = past_unlimited r.past (λ none. absurd (none_some (sym none ∙ first_bound)));
      room = room_row ts first b mid row (room_inside kind st n first o);
      next = subst (λ o. IsNext mid.top.items o w.piece) (sym r.shared) (subst (λ l. IsNext l None w.piece) (sym left) w.next);
      is_around = past_around r.past (outermost around k.inner) first_around;
      deep = inr (inr (omega (arith, x.deep, saved, ap length past0.saved)));
    } in
    let step = w.step P (bytes_open st) (bytes_open o.mid) items (bytes_open mid) o.code o.width k.behind k.inner
    (x.coded.under (compound_some o.code kind o.width o.announced)) o.announced k.contains behind in
    let sum : length (bytes_open st) + length mid.rest ≡ length st.rest + length (bytes_open mid) + k.behind = omega (
      arith,
      k.long,
      ap length first_bytes,
      ap (λ (x : State). length x.rest) e.entered,
      past_length past0,
      past_length past1,
      past_length r.past,
      ap length (past_bytes past0),
      ap length (past_bytes past1),
      ap length (past_bytes r.past),
      length-append o.begun.own (bytes_open o.mid),
      length-append (bytes_high_first o.width head.size ++ bytes_high_first o.width n) (bytes_open m),
      length-append b (bytes_open mid),
    ) in
    onward_shows st mid f around k.inner P w.piece d (suc d) k.behind sum step (shown w.piece (suc d)
    (outermost around k.inner) w.is faces)

pub inside_shown : (kind : Container) → (kind ≡ array → ⊥)
    → (st first mid : State) (n : ℕ) (ts : List Term) (b : List ℕ) (f : Located)
    → Opens kind st n first → Row first ts b mid → length ts ≤ n → IsShown mid f → IsShown st f
inside_shown kind other st first mid n ts b f o row few shown =
    inside_shows kind other st first mid n ts b f o row few (λ P d around at faces. shown P d around faces)
