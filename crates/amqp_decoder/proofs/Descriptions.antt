-- A described value is opened, what is described stands in it, and it is closed; and the other way round (Part 1,
-- section 1.2).
use Rattle.std.proofs.Common.{true, ◌≡◌, ℕ, ◌+◌, ◌<◌, ◌≤◌, List, [], ◌∷◌, ◌++◌, length, drop, get_or, Option, Some, None, option_map, refl, sym}
use Rattle.std.proofs.Common.{ap, ap₂, ◌∙◌, subst, arith, append_assoc, length-append, drop-drop}
use Rattle.std.proofs.lemmas.List.{drop_at}
use Rattle.amqp_model.specs.Term.{list, map, array, Descriptor, Term, leaf, container, described, kept, barred}
use Rattle.amqp_model.specs.Spelling.{Names, IsSpelling, IsDataOf}
use Rattle.amqp_model.specs.Measures.{nest, share, weight}
use Rattle.amqp_model.specs.Standing.{part, Parts}
use Rattle.amqp_decoder.specs.declared.frame.Place.TheVariants.{InDescribed}
use Rattle.amqp_decoder.specs.State.{State, Open, Has, lower, after_data, after_value, counted_in, is_shared, weight_at}
use Rattle.amqp_decoder.specs.Steps.{Takes}
use Rattle.amqp_decoder.specs.Reading.{IsFirst}
use Rattle.amqp_decoder.specs.Primitives.{standing, SpellsAs, Stands}
use Rattle.amqp_decoder.specs.Containers.{ClosesDescribed}
use Rattle.amqp_decoder.specs.Described.{IsDescriptor, behind, in_described}
use Rattle.amqp_decoder.specs.Items.{Next, NextWithParts, DescribedStands}
use Rattle.amqp_decoder.proofs.ReadPrimitives.{has_add, has_front, has_rest, lower-lower, minus-minus}

-- a term nests at least as deep as it is described
marks_nest : (t : Term) (ds : List Descriptor) (c : ℕ) (b : List ℕ) → IsDataOf t ds c b → length ds ≤ nest t
marks_nest t [] c b h = omega arith
marks_nest (described d t) (e ∷ ds) c b h = omega (arith, marks_nest t ds c b h.1)
marks_nest (leaf p) (e ∷ ds) c b h = absurd h
marks_nest (container list ts) (e ∷ ds) c b h = absurd h
marks_nest (container map ts) (e ∷ ds) c b h = absurd h
marks_nest (container array ts) (e ∷ ds) c b h = absurd h
marks_nest (kept k) (e ∷ ds) c b h = absurd h
marks_nest (barred r) (e ∷ ds) c b h = absurd h

described_spelled : (o : Option (List Descriptor × ℕ)) (first own s : List ℕ) (d : Descriptor) (t : Term) → nest t < 128 → IsFirst o 0 first
    → IsDescriptor o d own → SpellsAs (standing (behind o) s) t → SpellsAs (standing o (first ++ (own ++ s))) (described d t)
unfolding IsSpelling
described_spelled None first own s d t few f n (ds, c, _, (h, x, e, k, data_)) = (
  d ∷ ds,
  c,
  omega (arith, few, marks_nest t ds c x data_),
  (
    0 ∷ (own ++ h),
    x,
    ap (λ l. l ++ (own ++ s)) f ∙ ap (λ l. 0 ∷ (own ++ l)) e ∙ ap (λ l. 0 ∷ l) (sym (append_assoc own h x)),
    (own, h, refl, n, k),
    (refl, data_),
  ),
)
described_spelled (Some ([], k)) first own s d t few f n h = absurd n
described_spelled (Some (m ∷ ds, k)) first own s d t few f n h =
    subst (λ l. IsDataOf (described d t) (m ∷ ds) k (l ++ (own ++ s))) (sym f.0)
    (subst (λ l. IsDataOf (described d t) (m ∷ ds) k (l ++ s)) (sym n.0) (n.1, h))

described_parts : (o : Option (List Descriptor × ℕ)) (first own s : List ℕ) (d : Descriptor) (t : Term) → IsFirst o 0 first
    → IsDescriptor o d own → Parts (standing o (first ++ (own ++ s))) (described d t) (standing (behind o) s ∷ [])
described_parts None first own s d t f n = (own, s, ap (λ l. l ++ (own ++ s)) f, n, refl)
described_parts (Some ([], k)) first own s d t f n = absurd n
described_parts (Some (m ∷ ds, k)) first own s d t f n =
    ap (λ l. part ds k l ∷ []) (sym (ap (λ l. l ++ (own ++ s)) f.0 ∙ ap (λ l. l ++ s) n.0))

sum : (a b c : ℕ) → a + (b + c) ≡ a + b + c
sum a b c = omega arith

-- the state in which what is described stands
abbrev inside_described : ℕ → ℕ → ℕ → State → State
inside_described first own k st = in_described (after_data own (after_value first k st))

-- the state behind it
back : (first own s k n : ℕ) (st : State)
    → after_value (first + (own + s)) (k + n) st ≡ record (after_value s n (inside_described first own k st)) {
      top = record (after_data own (after_value first k st)).top { left = lower (after_data own (after_value first k st)).top.left s };
      saved = st.saved;
    }
back first own s k n st = ap (λ z. after_value z (k + n) st) (sum first own s)
    ∙ sym (rw (
      lower-lower st.quota k n,
      minus-minus st.ahead first own,
      minus-minus st.ahead (first + own) s,
      drop-drop own first st.rest,
      drop-drop s (first + own) st.rest,
      lower-lower st.top.left first own,
      lower-lower st.top.left (first + own) s,
    ) refl)

left_described : (first own s k n : ℕ) (st b : State) → ClosesDescribed InDescribed (after_value s n (inside_described first own k st)) b
    → b ≡ after_value (first + (own + s)) (k + n) st
left_described first own s k n st b c =
    let mid = after_data own (after_value first k st) in
    let kept_ = record mid.top { left = option_map (λ l. 0) mid.top.left } in
    let outer : kept_ ≡ c.outer = ap (λ l. get_or l 0 st.top) c.saved in
    let others : st.saved ≡ c.others = ap (λ l. drop 1 l) c.saved in
    c.moved ∙ ap₂ (λ (t : Open) l. record (after_value s n (inside_described first own k st)) {
      top = record t { left = lower mid.top.left s; sized = mid.top.sized };
      saved = l;
    }) (sym outer) (sym others) ∙ sym (back first own s k n st)

behind_shared : (o : Option (List Descriptor × ℕ)) → is_shared (behind o) ≡ is_shared o
behind_shared None = refl
behind_shared (Some x) = refl

-- a described value weighs what its descriptor does, and what it describes
described_weight : (o : Option (List Descriptor × ℕ)) (d : Descriptor) (own : List ℕ) (t : Term) → IsDescriptor o d own
    → counted_in o 0 + weight t (is_shared (behind o)) ≡ weight (described d t) (is_shared o)
described_weight None d own t n = omega arith
described_weight (Some ([], k)) d own t n = absurd n
described_weight (Some (m ∷ ds, k)) d own t n = ap (λ e. share e + weight t true) (sym n.1)

-- What was opened, taken and closed is one term, in which what is described stands as it was taken.
pub described_with_parts : (st : State) (d : Descriptor) (t : Term) (b : State) → st.nesting ≤ 128 → (h : DescribedStands st d t b)
    → NextWithParts st (described d t) (standing h.inner.top.shared h.bytes ∷ []) b
described_with_parts st d t b bound h =
    let o = h.opens in
    let first = o.begun.own in
    let own = o.descriptor.own in
    let k = counted_in st.top.shared 0 in
    let took : Takes (after_value (length first) k st) own o.named =
    subst (λ (m : State). Takes m own o.named) o.begun.moved o.descriptor.took in
    let descriptor : IsDescriptor st.top.shared d own =
    subst (λ (m : State). IsDescriptor m.top.shared d own) o.begun.moved o.descriptor.descriptor in
    let inner : h.inner ≡ inside_described (length first) (length own) k st = o.opened ∙ ap in_described took.moved in
    let stands = subst (λ (i : State). Stands i h.bytes t) inner h.stands in
    let closes = subst (λ (i : State). ClosesDescribed InDescribed (after_value (length h.bytes) (weight_at i t) i) b) inner h.closes in
    let inside = weight t (is_shared (behind st.top.shared)) in
    let weighs : k + inside ≡ weight_at st (described d t) = described_weight st.top.shared d own t descriptor in
    let long : length (first ++ (own ++ h.bytes)) ≡ length first + (length own + length h.bytes) =
    length-append first (own ++ h.bytes) ∙ ap (λ k. length first + k) (length-append own h.bytes) in
    let all : Has st.top.left (length first + (length own + length h.bytes)) =
    has_add st.top.left (length first) (length own + length h.bytes) o.begun.room
    (has_add (lower st.top.left (length first)) (length own) (length h.bytes) took.room stands.room) in
    record {
      next = record {
        bytes = first ++ (own ++ h.bytes);
        stands = record {
          going = o.begun.going;
          item = o.begun.item;
          room = subst (Has st.top.left) (sym long) all;
          after = stands.after;
          rest = o.begun.rest ∙ ap (λ x. first ++ x) (took.rest ∙ ap (λ x. own ++ x) stands.rest)
              ∙ ap (λ x. first ++ x) (sym (append_assoc own h.bytes stands.after)) ∙ sym (append_assoc first (own ++ h.bytes) stands.after);
          spelled = described_spelled st.top.shared first own h.bytes d t (let x = stands.nested in let y = o.nested in
              omega (arith, x, y, bound)) o.begun.first descriptor stands.spelled;
          nested = let x = stands.nested in let y = o.nested in omega (arith, x, y);
          few = subst (Has st.quota) weighs (has_add st.quota k inside o.begun.few stands.few);
        };
        moved = left_described (length first) (length own) (length h.bytes) k inside st b closes
            ∙ ap₂ (λ m n. after_value m n st) (sym long) weighs;
      };
      parts = subst (λ (i : State). Parts (standing st.top.shared (first ++ (own ++ h.bytes))) (described d t)
          (standing i.top.shared h.bytes ∷ [])) (sym inner)
          (described_parts st.top.shared first own h.bytes d t o.begun.first descriptor);
    }

pub described_term : (st : State) (d : Descriptor) (t : Term) (b : State) → st.nesting ≤ 128 → DescribedStands st d t b
    → Next st (described d t) b
described_term st d t b bound h = let x = described_with_parts st d t b bound h in x.next

pub described_split : (o : Option (List Descriptor × ℕ)) (z : List ℕ) (d : Descriptor) (t : Term) → SpellsAs (standing o z) (described d t)
    → (first own s : List ℕ) × IsFirst o 0 first × IsDescriptor o d own × (z ≡ first ++ (own ++ s)) × SpellsAs (standing (behind o) s) t
unfolding IsSpelling
described_split None z d t ([], c, few, (h, x, e, k, data_)) = absurd data_
described_split None z d t (f ∷ ds, c, few, (h, x, e, (n, r, e', names, k), data_)) = (
  0 ∷ [],
  n,
  r ++ x,
  refl,
  subst (λ y. Names y n) (sym data_.0) names,
  e ∙ ap (λ l. l ++ x) e' ∙ ap (λ l. 0 ∷ l) (append_assoc n r x),
  (ds, c, omega (arith, few), (r, x, refl, k, data_.1)),
)
described_split (Some ([], k)) z d t h = absurd h
described_split (Some (f ∷ ds, k)) z d t h = ([], [], z, (refl, refl), (refl, h.0), refl, h.1)

-- A term that is described is opened, taken and closed.
pub term_described : (st : State) (d : Descriptor) (t : Term) (b : State) → Next st (described d t) b → DescribedStands st d t b
term_described st d t b next =
    let z = next.bytes in
    let h = next.stands in
    let f = described_split st.top.shared z d t h.spelled in
    let first = f.0 in
    let own = f.1 in
    let s = f.2 in
    let long : length z ≡ length first + (length own + length s) =
    ap length f.5 ∙ length-append first (own ++ s) ∙ ap (λ k. length first + k) (length-append own s) in
    let room : Has st.top.left (length first + (length own + length s)) = subst (Has st.top.left) long h.room in
    let behind_ : Has (lower st.top.left (length first)) (length own + length s) =
    has_rest st.top.left (length first) (length own + length s) room in
    let whole : st.rest ≡ first ++ (own ++ (s ++ h.after)) =
    h.rest ∙ ap (λ y. y ++ h.after) f.5 ∙ append_assoc first (own ++ s) h.after ∙ ap (λ y. first ++ y) (append_assoc own s h.after) in
    let second : drop (length first) st.rest ≡ own ++ (s ++ h.after) =
    ap (drop (length first)) whole ∙ drop_at first (own ++ (s ++ h.after)) (length first) refl in
    let third : drop (length own) (drop (length first) st.rest) ≡ s ++ h.after =
    ap (drop (length own)) second ∙ drop_at own (s ++ h.after) (length own) refl in
    let k = counted_in st.top.shared 0 in
    let mid = after_data (length own) (after_value (length first) k st) in
    let inside = weight t (is_shared (behind st.top.shared)) in
    let weighs : k + inside ≡ weight_at st (described d t) = described_weight st.top.shared d own t f.4 in
    let few : Has st.quota (k + inside) = subst (Has st.quota) (sym weighs) h.few in
    record {
      inner = inside_described (length first) (length own) k st;
      opens = record {
        coded = after_value (length first) k st;
        named = mid;
        begun = record {
          going = h.going;
          item = h.item;
          own = first;
          first = f.3;
          room = has_front st.top.left (length first) (length own + length s) room;
          rest = whole ∙ ap (λ y. first ++ y) (sym second);
          few = has_front st.quota k inside few;
          moved = refl;
        };
        nested = let y = h.nested in omega (arith, y);
        descriptor =
            record {
              own = own;
              descriptor = f.4;
              took = record {
                room = has_front (lower st.top.left (length first)) (length own) (length s) behind_;
                rest = second ∙ ap (λ y. own ++ y) (sym third);
                moved = refl;
              };
            };
        opened = refl;
      };
      bytes = s;
      stands = record {
        going = h.going;
        item = omega arith;
        room = has_rest (lower st.top.left (length first)) (length own) (length s) behind_;
        after = h.after;
        rest = third;
        spelled = f.6;
        nested = let y = h.nested in omega (arith, y);
        few = has_rest st.quota k inside few;
      };
      closes = record {
        going = h.going;
        here = refl;
        items = ap Some (omega arith);
        outer = record mid.top { left = option_map (λ l. 0) mid.top.left };
        others = st.saved;
        saved = refl;
        moved = next.moved ∙ ap₂ (λ m n. after_value m n st) long (sym weighs) ∙ back (length first) (length own) (length s) k inside st;
      };
    }
