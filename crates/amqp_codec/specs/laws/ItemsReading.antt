-- The items of a list or an array that are read are those of the term that stands there, and their faults those of that.
use Rattle.std.proofs.Common.{◌≡◌, ℕ, ◌<◌, suc, false, List, [], ◌∷◌, ◌++◌, length, refl, sym, ap, ◌∙◌, subst, arith, ◌≤◌}
use Rattle.amqp_model.specs.Term.{Term, Terms, container, none, more, count}
use Rattle.amqp_model.specs.Items.{items_of}
use Rattle.amqp_model.specs.Standing.{Standing, Parts}
use Rattle.amqp_decoder.specs.State.{State, after_value, weight_at}
use Rattle.amqp_decoder.specs.OtherSource.{Setting, under, KeepsError}
use Rattle.amqp_decoder.specs.laws.OtherSource.{value, close_fault}
use Rattle.amqp_decoder.specs.Rooms.{HasRoom}
use Rattle.amqp_decoder.specs.Misspelled.{IsMisspelling, NothingStands}
use Rattle.amqp_decoder.specs.Primitives.{standing, Stands, ReadsValue}
use Rattle.amqp_decoder.specs.Items.{Row, row_standings}
use Rattle.amqp_decoder.proofs.ContainerTerms.{together, used_up}
use Rattle.amqp_decoder.proofs.OneReading.{value_same, stands_same}
use Rattle.amqp_decoder.proofs.NotOutside.{close_not_outside}
use Rattle.amqp_decoder.proofs.Rooms.{room_row}
use Rattle.amqp_decoder.specs.Steps.{IsOutside}
use Rattle.amqp_decoder.specs.Places.{Located}
use Rattle.amqp_codec.specs.Faults.{Faults}
use Rattle.amqp_codec.specs.TermType.{TermType}
use Rattle.amqp_codec.specs.Each.{EachMeans, MeansItems}
use Rattle.amqp_codec.specs.laws.Each.{values_many}
use Rattle.amqp_codec.specs.laws.ItemsType.{items_cases, mean_as}
use Rattle.amqp_codec.specs.ItemsReading.{ReadsEach, ReadsRow, Held, Opening, ItemsRead, ItemsFault, unopened, at_item, unclosed}
use Rattle.amqp_codec.specs.laws.Within.{each_shrinks}

count_items : (ts : Terms) → length (items_of ts) ≡ count ts
count_items none = refl
count_items (more t ts) = ap suc (count_items ts)

pub row_many : (ts : Terms) (st : State) (b : List ℕ) (st' : State) (row : Row st (items_of ts) b st')
    → length (row_standings st (items_of ts) b st' row) ≡ count ts
row_many none st b st' row = refl
row_many (more t ts) st b st' (s, o, e, h, row) = ap suc (row_many ts (after_value (length s) (weight_at st t) st) o st' row)

module _ {T : Type 0} (means : Standing → Term → T → Type 0) where
  -- The terms that were taken, and what they mean.
  pub record Taken (st : State) (vs : List T) (b : State) : Type 0 where
    pub terms : Terms
    pub bytes : List ℕ
    pub row : Row st (items_of terms) bytes b
    pub meant : EachMeans means (row_standings st (items_of terms) bytes b row) terms vs

  -- values that were read are a row of terms; and the other way round
  pub each_taken : (st : State) (vs : List T) (b : State) → ReadsEach (ReadsValue means) st vs b → Taken st vs b
  each_taken st [] b h = record { terms = none; bytes = []; row = (refl, h); meant = tt }
  each_taken st (v ∷ vs) b (mid, h, k) =
      let r = each_taken (after_value (length h.bytes) (weight_at st h.term) st) vs b
      (subst (λ (x : State). ReadsEach (ReadsValue means) x vs b) h.moved k) in
      record {
        terms = more h.term r.terms;
        bytes = h.bytes ++ r.bytes;
        row = (h.bytes, r.bytes, refl, h.stands, r.row);
        meant = (h.meant, r.meant);
      }

  pub taken_each : (ts : Terms) (st : State) (bytes : List ℕ) (b : State) (row : Row st (items_of ts) bytes b) (vs : List T)
      → EachMeans means (row_standings st (items_of ts) bytes b row) ts vs → ReadsEach (ReadsValue means) st vs b
  taken_each none st bytes b row [] m = row.1
  taken_each none st bytes b row (v ∷ vs) m = absurd m
  taken_each (more t ts) st bytes b (s, r, e, h, k) [] m = absurd m
  taken_each (more t ts) st bytes b (s, r, e, h, k) (v ∷ vs) m = (
    after_value (length s) (weight_at st t) st,
    record { bytes = s; term = t; stands = h; moved = refl; meant = m.0 },
    taken_each ts (after_value (length s) (weight_at st t) st) r b k vs m.1,
  )

  pub taken_long : (st : State) (vs : List T) (b : State) (t : Taken st vs b) → length (items_of t.terms) ≡ length vs
  taken_long st vs b t =
      count_items t.terms ∙ sym (values_many means (row_standings st (items_of t.terms) t.bytes b t.row) t.terms vs t.meant)

  -- one more
  pub each_more : (st : State) (vs : List T) (v : T) (mid b : State) → ReadsEach (ReadsValue means) st vs mid → ReadsValue means mid v b
      → ReadsEach (ReadsValue means) st (vs ++ v ∷ []) b
  each_more st [] v mid b h k = (b, subst (λ (x : State). ReadsValue means x v b) h k, refl)
  each_more st (w ∷ ws) v mid b (x, r, h) k = (x, r, each_more x ws v mid b h k)

  one_state : (st a b : State) (v w : T) → ReadsValue means st v a → ReadsValue means st w b → a ≡ b
  one_state st a b v w h k = (value_same means st a b v w h k).4

  -- behind fewer values the next one stands
  pub each_next : (st mid last : State) (vs ws : List T) → ReadsEach (ReadsValue means) st vs mid → ReadsEach (ReadsValue means) st ws last
      → length vs < length ws → (w : T) × (b : State) × ReadsValue means mid w b
  each_next st mid last [] [] h k l = absurd (omega (arith, l))
  each_next st mid last [] (w ∷ ws) h (x, r, k) l = (w, x, subst (λ (y : State). ReadsValue means y w x) (sym h) r)
  each_next st mid last (v ∷ vs) [] h k l = absurd (omega (arith, l))
  each_next st mid last (v ∷ vs) (w ∷ ws) (x, r, h) (y, s, k) l =
      each_next x mid last vs ws h
      (subst (λ (z : State). ReadsEach (ReadsValue means) z ws last) (one_state st y x w v s r) k) (omega (arith, l))

  -- as many values end at one state
  pub each_end : (st mid last : State) (vs ws : List T) → ReadsEach (ReadsValue means) st vs mid → ReadsEach (ReadsValue means) st ws last
      → length vs ≡ length ws → last ≡ mid
  each_end st mid last [] [] h k l = k ∙ sym h
  each_end st mid last [] (w ∷ ws) h k l = absurd (omega (arith, l))
  each_end st mid last (v ∷ vs) [] h k l = absurd (omega (arith, l))
  each_end st mid last (v ∷ vs) (w ∷ ws) (x, r, h) (y, s, k) l =
      each_end x mid last vs ws h
      (subst (λ (z : State). ReadsEach (ReadsValue means) z ws last) (one_state st y x w v s r) k) (omega (arith, l))

  -- reading refuses nothing, and the source doesn't begin to fail
  pub each_still : (st : State) (vs : List T) (b : State) → ReadsEach (ReadsValue means) st vs b
      → (b.error ≡ st.error) × (b.failed ≡ st.failed)
  each_still st [] b h = (ap (λ (x : State). x.error) h, ap (λ (x : State). x.failed) h)
  each_still st (v ∷ vs) b (mid, h, k) =
      let i = each_still mid vs b k in (i.0 ∙ ap (λ (x : State). x.error) h.moved, i.1 ∙ ap (λ (x : State). x.failed) h.moved)

  -- the same of another source
  pub each_elsewhere : (c : Setting) (st : State) (vs : List T) (b : State) → ReadsEach (ReadsValue means) st vs b
      → ReadsEach (ReadsValue means) (under c st) vs (under c b)
  each_elsewhere c st [] b h = ap (under c) h
  each_elsewhere c st (v ∷ vs) b (mid, h, k) = (under c mid, value c means h, each_elsewhere c mid vs b k)

  pub row_elsewhere : (c : Setting) (n : ℕ) (st : State) (vs : List T) (b : State) → ReadsRow n means st vs b
      → ReadsRow n means (under c st) vs (under c b)
  row_elsewhere c n st vs b h = record { long = h.long; each = each_elsewhere c st vs b h.each }

-- Why the items of a list or an array aren't read.
module _ {T : Type 0} (o : Opening) (means : Standing → Term → T → Type 0) (f : Faults) where
  abbrev Fault : State → Located → Type 0
  Fault = ItemsFault o means f.fault

  pub items_not_outside : {e : Located} → IsOutside e.error → (st : State) → Fault st e → ⊥
  items_not_outside {e} out st (unopened h) = o.not_outside e out st h
  items_not_outside {e} out st (at_item {n} {first} k h) = f.not_outside e out h.mid h.named
  items_not_outside out st (unclosed {n} {first} {vs} {last} k h c) = close_not_outside out _ last c.0

  pub items_elsewhere : (c : Setting) (st : State) (e : Located) → KeepsError c e.error → Fault st e → Fault (under c st) e
  items_elsewhere c st e keeps (unopened h) = unopened (o.fault_elsewhere c st e keeps h)
  items_elsewhere c st e keeps (at_item {n} {first} k h) = at_item (o.opens_elsewhere c st n first k) (record {
    before = h.before;
    mid = under c h.mid;
    each = each_elsewhere means c first h.before h.mid h.each;
    fewer = h.fewer;
    named = f.fault_elsewhere c h.mid e keeps h.named;
  })
  items_elsewhere c st e keeps (unclosed {n} {first} {vs} {last} k h x) =
      unclosed (o.opens_elsewhere c st n first k) (row_elsewhere means c n first vs last h) (close_fault c keeps x.0, x.1)

  pub items_misspelled : (st : State) (e : Located) → HasRoom st → IsMisspelling e.error → Fault st e → NothingStands st
  items_misspelled st e room is (unopened h) = o.misspelled st e room is h
  items_misspelled st e room is (at_item {n} {first} k h) =
      let t = each_taken means first h.before h.mid h.each in
      o.nothing_in st n first h.mid (items_of t.terms) t.bytes room k t.row
      (omega (arith, h.fewer, taken_long means first h.before h.mid t))
      (f.misspelled h.mid e (room_row (items_of t.terms) first t.bytes h.mid t.row (o.room_inside st n first k)) is h.named)
  items_misspelled st e room is (unclosed {n} {first} {vs} {last} k h c) =
      let t = each_taken means first vs last h.each in
      o.nothing_at_end st n first last (items_of t.terms) t.bytes e.error room k t.row is c.0

  pub items_within : (st : State) (e : Located) → Fault st e → e.left ≤ length st.rest
  items_within st e (unopened h) = o.within st e h
  items_within st e (at_item {n} {first} k h) =
      omega (arith, f.within h.mid e h.named, each_shrinks means first h.before h.mid h.each, o.shrinks st n first k)
  items_within st e (unclosed {n} {first} {vs} {last} k h c) =
      omega (arith, c.1, each_shrinks means first vs last h.each, o.shrinks st n first k)

module _ {T : Type 0} (o : Opening) (u : TermType T) where
  abbrev Meant : Standing → Term → List T → Type 0
  Meant = MeansItems u.ignores_standing u.means o.kind

  -- the values that were read are those of the term that stood there,
  pub items_value : (st : State) (vs : List T) (b : State) → ItemsRead o u.means st vs b → ReadsValue Meant st vs b
  items_value st vs b h =
      let t = each_taken u.means h.first vs h.last h.row.each in
      let held : Held o.kind o.opens st (items_of t.terms) b =
      record { count = h.count; first = h.first; opened = h.opened; bytes = t.bytes; last = h.last; row = t.row; closed = h.closed } in
      let w = o.taken st t.terms b held in
      record {
        bytes = w.next.bytes;
        term = container o.kind t.terms;
        stands = w.next.stands;
        moved = w.next.moved;
        meant = (refl, row_standings h.first (items_of t.terms) t.bytes h.last t.row, λ _. w.parts, t.meant);
      }

  -- and those of each term that stands there are read
  next_items : (st : State) (vs : List T) (b : State) (bytes : List ℕ) (ts : Terms) (ss : List Standing) → o.fits st
      → (u.ignores_standing ≡ false → Parts (standing st.top.shared bytes) (container o.kind ts) ss) → EachMeans u.means ss ts vs
      → Stands st bytes (container o.kind ts) → b ≡ after_value (length bytes) (weight_at st (container o.kind ts)) st
      → ItemsRead o u.means st vs b
  next_items st vs b bytes ts ss fits p m stands moved =
      let h = o.held st ts b fits (record { bytes = bytes; stands = stands; moved = moved }) in
      let w = o.taken st ts b h in
      let zs = row_standings h.first (items_of ts) h.bytes h.last h.row in
      let same = (stands_same st w.next.bytes bytes (container o.kind ts) (container o.kind ts) w.next.stands stands).0 in
      let z : Parts (standing st.top.shared bytes) (container o.kind ts) zs =
      subst (λ b. Parts (standing st.top.shared b) (container o.kind ts) zs) same w.parts in
      let n = mean_as u o.kind o.is_list_or_array (standing st.top.shared bytes) ts ss zs vs (row_many ts h.first h.bytes h.last h.row) p
      (λ _. z) m in
      let t = together ts h.first h.bytes h.last h.row in
      let all : h.count ≡ count ts =
      used_up h.first.top.items h.count (count ts) (o.items st h.count h.first h.opened) t.items
      (sym (ap (λ (x : State). x.top.items) t.moved) ∙ h.closed.items) in
      record {
        count = h.count;
        first = h.first;
        opened = h.opened;
        last = h.last;
        row = record {
          long = values_many u.means ss ts vs m ∙ sym all;
          each = taken_each u.means ts h.first h.bytes h.last h.row vs n;
        };
        closed = h.closed;
      }

  pub value_items : (st : State) (vs : List T) (b : State) → o.fits st → ReadsValue Meant st vs b → ItemsRead o u.means st vs b
  value_items st vs b fits h =
      items_cases u.ignores_standing u.means o.kind (standing st.top.shared h.bytes) vs
      (λ t. Stands st h.bytes t → b ≡ after_value (length h.bytes) (weight_at st t) st → ItemsRead o u.means st vs b)
      (λ ts ss p m stands moved. next_items st vs b h.bytes ts ss fits p m stands moved) h.term h.meant h.stands h.moved
