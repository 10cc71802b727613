-- The pairs that are read are those of the map that stands there, and the faults of reading are its.
use Rattle.std.proofs.Common.{◌≡◌, inl, inr, ◌⊎◌, ℕ, ◌+◌, ◌*◌, ◌<◌, false, ◌&&◌, List, [], ◌∷◌, ◌++◌, length, refl, sym, ap, ◌∙◌, ◌≤◌}
use Rattle.std.proofs.Common.{subst, arith, length-append}
use Rattle.amqp_model.specs.Term.{map, Term, Terms, container, count}
use Rattle.amqp_model.specs.Items.{items_of}
use Rattle.amqp_model.specs.Standing.{Standing, Parts}
use Rattle.amqp_decoder.specs.declared.frame.Place.TheVariants.{InMap}
use Rattle.amqp_decoder.specs.State.{State, after_value, weight_at}
use Rattle.amqp_decoder.specs.OtherSource.{Setting, under, KeepsError}
use Rattle.amqp_decoder.specs.laws.OtherSource.{value as value_elsewhere}
use Rattle.amqp_decoder.specs.laws.OtherSource.{opens, open_fault, close_fault}
use Rattle.amqp_decoder.specs.Rooms.{HasRoom}
use Rattle.amqp_decoder.specs.Misspelled.{IsMisspelling, NothingStands}
use Rattle.amqp_decoder.specs.Primitives.{standing, Stands, ReadsValue}
use Rattle.amqp_decoder.specs.Containers.{Opens}
use Rattle.amqp_decoder.specs.Items.{Contains, row_standings}
use Rattle.amqp_decoder.proofs.ContainerTerms.{whole_with_parts, parts, together, used_up}
use Rattle.amqp_decoder.proofs.OneReading.{value_same, stands_same}
use Rattle.amqp_decoder.proofs.Misspelled.{open_misspelled}
use Rattle.amqp_decoder.proofs.NothingInside.{nothing_in_container, nothing_at_end}
use Rattle.amqp_decoder.proofs.NotOutside.{open_not_outside, close_not_outside}
use Rattle.amqp_decoder.proofs.Rooms.{room_inside, room_row}
use Rattle.amqp_decoder.specs.Steps.{IsOutside}
use Rattle.amqp_decoder.specs.Places.{Located}
use Rattle.amqp_codec.specs.Faults.{Faults}
use Rattle.amqp_codec.specs.TermType.{TermType}
use Rattle.amqp_codec.specs.EitherMeaning.{IsEither}
use Rattle.amqp_codec.specs.ItemsReading.{ReadsEach}
use Rattle.amqp_codec.specs.laws.Each.{values_many}
use Rattle.amqp_codec.specs.laws.ItemsType.{items_cases}
use Rattle.amqp_codec.specs.laws.ItemsReading.{each_taken, taken_each, taken_long, row_many}
use Rattle.amqp_codec.specs.Pairs.{in_turn, PairsMean, IsNew, HaveOtherKeys, MeansMap}
use Rattle.amqp_codec.specs.MapType.{map_type}
use Rattle.amqp_codec.specs.laws.MapType.{mean_as}
use Rattle.amqp_codec.specs.MapReading.{Pairs, ReadsFewer, PairsFault, at_key, twice, told_twice, at_value, MapRead, MapFault}
use Rattle.amqp_codec.specs.MapReading.{unopened, at_pair, unclosed}
use Rattle.amqp_codec.specs.laws.Within.{value_shrinks, opens_shrinks}

pub twice_as_many : {K V : Type 0} (ps : List (K × V)) → length (in_turn ps) ≡ 2 * length ps
twice_as_many [] = refl
twice_as_many (p ∷ ps) = let h = twice_as_many ps in omega arith

module _ {K V : Type 0} (key : TermType K) (value : TermType V) where
  -- what keys and values in turn mean
  abbrev pub Turn : Standing → Term → K ⊎ V → Type 0
  Turn s t = IsEither (key.means s t) (value.means s t)

  pub as_key : (st : State) (k : K) (b : State) → ReadsValue key.means st k b → ReadsValue Turn st (inl k) b
  as_key st k b h = record { bytes = h.bytes; term = h.term; stands = h.stands; moved = h.moved; meant = h.meant }

  pub as_value : (st : State) (v : V) (b : State) → ReadsValue value.means st v b → ReadsValue Turn st (inr v) b
  as_value st v b h = record { bytes = h.bytes; term = h.term; stands = h.stands; moved = h.moved; meant = h.meant }

  -- pairs that were read are keys and values in turn; and the other way round
  pub pairs_in_turn : (st : State) (ps : List (K × V)) (b : State) → Pairs key value st ps b → ReadsEach (ReadsValue Turn) st (in_turn ps) b
  pairs_in_turn st [] b h = h
  pairs_in_turn st (p ∷ ps) b (m, n, h, k, r) = (m, as_key st p.0 m h, (n, as_value m p.1 n k, pairs_in_turn n ps b r))

  pub in_turn_pairs : (st : State) (ps : List (K × V)) (b : State) → ReadsEach (ReadsValue Turn) st (in_turn ps) b → Pairs key value st ps b
  in_turn_pairs st [] b h = h
  in_turn_pairs st (p ∷ ps) b (m, h, (n, k, r)) = (
    m,
    n,
    record { bytes = h.bytes; term = h.term; stands = h.stands; moved = h.moved; meant = h.meant },
    record { bytes = k.bytes; term = k.term; stands = k.stands; moved = k.moved; meant = k.meant },
    in_turn_pairs n ps b r,
  )

  -- and a key
  pub key_in_turn : (st : State) (ps : List (K × V)) (k : K) (mid b : State) → Pairs key value st ps mid → ReadsValue key.means mid k b
      → ReadsEach (ReadsValue Turn) st (in_turn ps ++ inl k ∷ []) b
  key_in_turn st [] k mid b h r = (b, subst (λ (x : State). ReadsValue Turn x (inl k) b) h (as_key mid k b r), refl)
  key_in_turn st (p ∷ ps) k mid b (m, n, h, j, rest) r =
      (m, as_key st p.0 m h, (n, as_value m p.1 n j, key_in_turn n ps k mid b rest r))

  pairs_elsewhere : (c : Setting) (st : State) (ps : List (K × V)) (b : State) → Pairs key value st ps b
      → Pairs key value (under c st) ps (under c b)
  pairs_elsewhere c st [] b h = ap (under c) h
  pairs_elsewhere c st (p ∷ ps) b (m, n, h, k, r) =
      (under c m, under c n, value_elsewhere c key.means h, value_elsewhere c value.means k, pairs_elsewhere c n ps b r)

  fewer_elsewhere : (c : Setting) (n : ℕ) (st : State) (ps : List (K × V)) (mid : State) → ReadsFewer key value n st ps mid
      → ReadsFewer key value n (under c st) ps (under c mid)
  fewer_elsewhere c n st ps mid h = record { fewer = h.fewer; each = pairs_elsewhere c st ps mid h.each }

  row_elsewhere : (c : Setting) (n : ℕ) (st : State) (e : Located) → KeepsError c e.error → PairsFault key value n st e
      → PairsFault key value n (under c st) e
  row_elsewhere c n st e keeps (at_key ps mid h f) =
      at_key ps (under c mid) (fewer_elsewhere c n st ps mid h) (key.faults.fault_elsewhere c mid e keeps f)
  row_elsewhere c n st e keeps (twice ps mid after k h o r same is place) =
      twice ps (under c mid) (under c after) k (fewer_elsewhere c n st ps mid h) o (value_elsewhere c key.means r) same is place
  row_elsewhere c n st e keeps (told_twice all b ps mid after k each h o r same is place) =
      told_twice all (under c b) ps (under c mid) (under c after) k (pairs_elsewhere c st all b each) (fewer_elsewhere c n st ps mid h) o
      (value_elsewhere c key.means r) same is place
  row_elsewhere c n st e keeps (at_value ps mid after k h r f) =
      at_value ps (under c mid) (under c after) k (fewer_elsewhere c n st ps mid h) (value_elsewhere c key.means r)
      (value.faults.fault_elsewhere c after e keeps f)

  pub map_elsewhere : (c : Setting) (st : State) (e : Located) → KeepsError c e.error → MapFault key value st e → MapFault key value (under c st) e
  map_elsewhere c st e keeps (unopened h) = unopened (open_fault c keeps h.0, h.1)
  map_elsewhere c st e keeps (at_pair {n} {first} o f) = at_pair (opens c o) (row_elsewhere c n first e keeps f)
  map_elsewhere c st e keeps (unclosed {n} {first} {ps} {last} o r f) =
      unclosed (opens c o) (record { long = r.long; each = pairs_elsewhere c first ps last r.each; others = r.others })
      (close_fault c keeps f.0, f.1)

  row_not_outside : {e : Located} → IsOutside e.error → (n : ℕ) (st : State) → PairsFault key value n st e → ⊥
  row_not_outside {e} out n st (at_key ps mid h f) = key.faults.not_outside e out mid f
  row_not_outside out n st (twice ps mid after k h o r same is place) = subst IsOutside is out
  row_not_outside out n st (told_twice all b ps mid after k each h o r same is place) = subst IsOutside is out
  row_not_outside {e} out n st (at_value ps mid after k h r f) = value.faults.not_outside e out after f

  pub map_not_outside : {e : Located} → IsOutside e.error → (st : State) → MapFault key value st e → ⊥
  map_not_outside out st (unopened h) = open_not_outside out map st h.0
  map_not_outside out st (at_pair {n} {first} o f) = row_not_outside out n first f
  map_not_outside out st (unclosed {n} {first} {ps} {last} o r f) = close_not_outside out _ last f.0

  row_misspelled : (st : State) (n : ℕ) (first : State) (e : Located) → IsMisspelling e.error → Opens map st (2 * n) first
      → PairsFault key value n first e → NothingStands st
  row_misspelled st n first e is o (at_key ps mid h f) =
      let t = each_taken Turn first (in_turn ps) mid (pairs_in_turn first ps mid h.each) in
      nothing_in_container map tt st (2 * n) first mid (items_of t.terms) t.bytes o t.row
      (omega (arith, h.fewer, taken_long Turn first (in_turn ps) mid t, twice_as_many ps))
      (key.faults.misspelled mid e (room_row (items_of t.terms) first t.bytes mid t.row (room_inside map st (2 * n) first o)) is f)
  row_misspelled st n first e is o (twice ps mid after k h u r same d place) = absurd (subst IsMisspelling d is)
  row_misspelled st n first e is o (told_twice all b ps mid after k each h u r same d place) = absurd (subst IsMisspelling d is)
  row_misspelled st n first e is o (at_value ps mid after k h r f) =
      let t = each_taken Turn first (in_turn ps ++ inl k ∷ []) after (key_in_turn first ps k mid after h.each r) in
      let one : length (in_turn ps ++ inl k ∷ []) ≡ length (in_turn ps) + 1 = length-append (in_turn ps) (inl k ∷ []) in
      nothing_in_container map tt st (2 * n) first after (items_of t.terms) t.bytes o t.row
      (omega (
        arith,
        h.fewer,
        taken_long Turn first (in_turn ps ++ inl k ∷ []) after t,
        one,
        twice_as_many ps,
      ))
      (value.faults.misspelled after e (room_row (items_of t.terms) first t.bytes after t.row (room_inside map st (2 * n) first o)) is f)

  pub map_misspelled : (st : State) (e : Located) → HasRoom st → IsMisspelling e.error → MapFault key value st e → NothingStands st
  map_misspelled st e room is (unopened h) = open_misspelled map tt st e.error is h.0
  map_misspelled st e room is (at_pair {n} {first} o f) = row_misspelled st n first e is o f
  map_misspelled st e room is (unclosed {n} {first} {ps} {last} o r f) =
      let t = each_taken Turn first (in_turn ps) last (pairs_in_turn first ps last r.each) in
      nothing_at_end map tt InMap st (2 * n) first last (items_of t.terms) t.bytes e.error o t.row is f.0

  pairs_shrink : (st : State) (ps : List (K × V)) (b : State) → Pairs key value st ps b → length b.rest ≤ length st.rest
  pairs_shrink st [] b h = omega (arith, ap (λ (x : State). length x.rest) h)
  pairs_shrink st (p ∷ ps) b (m, n, h, k, more) =
      omega (arith, value_shrinks key.means st p.0 m h, value_shrinks value.means m p.1 n k, pairs_shrink n ps b more)

  row_within : (n : ℕ) (st : State) (e : Located) → PairsFault key value n st e → e.left ≤ length st.rest
  row_within n st e (at_key ps mid h f) = omega (arith, key.faults.within mid e f, pairs_shrink st ps mid h.each)
  row_within n st e (twice ps mid after k h u r same d place) = omega (arith, place, pairs_shrink st ps mid h.each)
  row_within n st e (told_twice all b ps mid after k each h u r same d place) = omega (arith, place, pairs_shrink st all b each)
  row_within n st e (at_value ps mid after k h r f) =
      omega (arith, value.faults.within after e f, value_shrinks key.means mid k after r, pairs_shrink st ps mid h.each)

  pub map_within : (st : State) (e : Located) → MapFault key value st e → e.left ≤ length st.rest
  map_within st e (unopened h) = omega (arith, h.1)
  map_within st e (at_pair {n} {first} o f) = omega (arith, row_within n first e f, opens_shrinks map st (2 * n) first o)
  map_within st e (unclosed {n} {first} {ps} {last} o r f) =
      omega (arith, f.1, pairs_shrink first ps last r.each, opens_shrinks map st (2 * n) first o)

  abbrev pub map_faults : Faults
  map_faults = record {
    fault = MapFault key value;
    not_outside = λ e out. map_not_outside out;
    fault_elsewhere = map_elsewhere;
    misspelled = map_misspelled;
    within = map_within;
  }

  -- The type of maps of these keys and values.
  abbrev pub map_of : TermType (List (K × V))
  map_of = map_type key value map_faults

  -- the pairs that were read are those of the map that stood there
  pub map_value : (st : State) (ps : List (K × V)) (b : State) → MapRead key value st ps b
      → ReadsValue (MeansMap (key.ignores_standing && value.ignores_standing) key.means value.means key.same) st ps b
  map_value st ps b h =
      let t = each_taken Turn h.first (in_turn ps) h.last (pairs_in_turn h.first ps h.last h.row.each) in
      let c : Contains map st (items_of t.terms) b =
      record { count = 2 * h.pairs; mid = h.first; opened = h.opened; bytes = t.bytes; last = h.last; items = t.row; closed = h.closed } in
      let w = whole_with_parts map tt st t.terms b c in
      record {
        bytes = w.next.bytes;
        term = container map t.terms;
        stands = w.next.stands;
        moved = w.next.moved;
        meant = ((refl, row_standings h.first (items_of t.terms) t.bytes h.last t.row, λ _. w.parts, t.meant), h.row.others);
      }

  -- reading pairs refuses nothing, and the source doesn't begin to fail
  pub pairs_still : (st : State) (ps : List (K × V)) (b : State) → Pairs key value st ps b
      → (b.error ≡ st.error) × (b.failed ≡ st.failed)
  pairs_still st [] b h = (ap (λ (x : State). x.error) h, ap (λ (x : State). x.failed) h)
  pairs_still st (p ∷ ps) b (m, n, h, k, r) =
      let i = pairs_still n ps b r in (
        i.0 ∙ ap (λ (x : State). x.error) k.moved ∙ ap (λ (x : State). x.error) h.moved,
        i.1 ∙ ap (λ (x : State). x.failed) k.moved ∙ ap (λ (x : State). x.failed) h.moved,
      )

  -- one more
  pub pairs_more : (st : State) (ps : List (K × V)) (k : K) (v : V) (mid after b : State) → Pairs key value st ps mid
      → ReadsValue key.means mid k after → ReadsValue value.means after v b → Pairs key value st (ps ++ (k, v) ∷ []) b
  pairs_more st [] k v mid after b h r q = (after, b, subst (λ (x : State). ReadsValue key.means x k after) h r, q, refl)
  pairs_more st (p ∷ ps) k v mid after b (m, n, h, j, rest) r q = (m, n, h, j, pairs_more n ps k v mid after b rest r q)

  -- those before a pair, and its key
  pub record Split (st : State) (ps : List (K × V)) (p : K × V) : Type 0 where
    pub mid : State
    pub after : State
    pub before : Pairs key value st ps mid
    pub at_key : ReadsValue key.means mid p.0 after

  pub pairs_split : (st : State) (ps : List (K × V)) (p : K × V) (qs : List (K × V)) (b : State) → Pairs key value st (ps ++ p ∷ qs) b
      → Split st ps p
  pairs_split st [] p qs b (m, n, h, k, r) = record { mid = st; after = m; before = refl; at_key = h }
  pairs_split st (o ∷ ps) p qs b (m, n, h, k, r) =
      let s = pairs_split n ps p qs b r in
      record { mid = s.mid; after = s.after; before = (m, n, h, k, s.before); at_key = s.at_key }

  new_more : (k l : K) (v : V) (ps : List (K × V)) → (key.same k l → ⊥) → IsNew key.same k ps → IsNew key.same k (ps ++ (l, v) ∷ [])
  new_more k l v [] n h = (n, tt)
  new_more k l v (p ∷ ps) n h = (h.0, new_more k l v ps n h.1)

  pub others_more : (ps : List (K × V)) (k : K) (v : V) → HaveOtherKeys key.same ps → IsNew key.same k ps
      → HaveOtherKeys key.same (ps ++ (k, v) ∷ [])
  others_more [] k v h n = (tt, tt)
  others_more (p ∷ ps) k v h n =
      (new_more p.0 k v ps (λ s. n.0 (key.sameness.sym p.0 k s)) h.0, others_more ps k v h.1 n.1)

  -- What stands behind fewer pairs than are read: one more, whose key is new if no two are the same.
  pub record Behind (mid : State) (ps qs : List (K × V)) : Type 0 where
    pub pair : K × V
    pub after : State
    pub behind : State
    pub at_key : ReadsValue key.means mid pair.0 after
    pub at_value : ReadsValue value.means after pair.1 behind
    pub new : HaveOtherKeys key.same qs → (k : K) → key.same k pair.0 → IsNew key.same k ps
    pub among : (k : K) → IsNew key.same k qs → key.same k pair.0 → ⊥

  one_key : (st a b : State) (k l : K) → ReadsValue key.means st k a → ReadsValue key.means st l b → key.same k l × (a ≡ b)
  one_key st a b k l h j =
      let x = value_same key.means st a b k l h j in (key.sameness.one x.0 x.1 k l x.2 x.3, x.4)

  pub pairs_behind : (st mid last : State) (ps qs : List (K × V)) → Pairs key value st ps mid → Pairs key value st qs last
      → length ps < length qs → Behind mid ps qs
  pairs_behind st mid last [] [] h k l = absurd (omega (arith, l))
  pairs_behind st mid last [] (q ∷ qs) h (m, n, r, v, k) l = record {
    pair = q;
    after = m;
    behind = n;
    at_key = subst (λ (x : State). ReadsValue key.means x q.0 m) (sym h) r;
    at_value = v;
    new = λ o k e. tt;
    among = λ k i e. i.0 e;
  }
  pairs_behind st mid last (p ∷ ps) [] h k l = absurd (omega (arith, l))
  pairs_behind st mid last (p ∷ ps) (q ∷ qs) (m, n, r, v, h) (x, y, s, w, k) l =
      let one = one_key st m x p.0 q.0 r s in
      let w' : ReadsValue value.means m q.1 y = subst (λ (z : State). ReadsValue value.means z q.1 y) (sym one.1) w in
      let to : y ≡ n = (value_same value.means m y n q.1 p.1 w' v).4 in
      let b = pairs_behind n mid last ps qs h (subst (λ (z : State). Pairs key value z qs last) to k) (omega (arith, l)) in
      record {
        pair = b.pair;
        after = b.after;
        behind = b.behind;
        at_key = b.at_key;
        at_value = b.at_value;
        new = λ o k e. (
          λ same. b.among q.0 o.0
              (key.sameness.trans q.0 k b.pair.0
              (key.sameness.trans q.0 p.0 k (key.sameness.sym p.0 q.0 one.0) (key.sameness.sym k p.0 same)) e),
          b.new o.1 k e,
        );
        among = λ k i e. b.among k i.1 e;
      }

  -- as many pairs end at one state
  pub pairs_end : (st mid last : State) (ps qs : List (K × V)) → Pairs key value st ps mid → Pairs key value st qs last
      → length ps ≡ length qs → last ≡ mid
  pairs_end st mid last [] [] h k l = k ∙ sym h
  pairs_end st mid last [] (q ∷ qs) h k l = absurd (omega (arith, l))
  pairs_end st mid last (p ∷ ps) [] h k l = absurd (omega (arith, l))
  pairs_end st mid last (p ∷ ps) (q ∷ qs) (m, n, r, v, h) (x, y, s, w, k) l =
      let one = one_key st m x p.0 q.0 r s in
      let w' : ReadsValue value.means m q.1 y = subst (λ (z : State). ReadsValue value.means z q.1 y) (sym one.1) w in
      let to : y ≡ n = (value_same value.means m y n q.1 p.1 w' v).4 in
      pairs_end n mid last ps qs h (subst (λ (z : State). Pairs key value z qs last) to k) (omega (arith, l))

  -- and those of each map that stands there are read
  abbrev Meant : Standing → Term → List (K × V) → Type 0
  Meant = MeansMap (key.ignores_standing && value.ignores_standing) key.means value.means key.same

  next_pairs : (st : State) (ps : List (K × V)) (b : State) (bytes : List ℕ) (ts : Terms) (ss : List Standing)
      → (key.ignores_standing && value.ignores_standing ≡ false → Parts (standing st.top.shared bytes) (container map ts) ss)
      → PairsMean key.means value.means ss ts ps → HaveOtherKeys key.same ps → Stands st bytes (container map ts)
      → b ≡ after_value (length bytes) (weight_at st (container map ts)) st → MapRead key value st ps b
  next_pairs st ps b bytes ts ss p m others stands moved =
      let c = parts map tt st ts b (record { bytes = bytes; stands = stands; moved = moved }) in
      let w = whole_with_parts map tt st ts b c in
      let zs = row_standings c.mid (items_of ts) c.bytes c.last c.items in
      let same = (stands_same st w.next.bytes bytes (container map ts) (container map ts) w.next.stands stands).0 in
      let z : Parts (standing st.top.shared bytes) (container map ts) zs =
      subst (λ b. Parts (standing st.top.shared b) (container map ts) zs) same w.parts in
      let n = mean_as key value (standing st.top.shared bytes) ts ss zs ps (row_many ts c.mid c.bytes c.last c.items) p (λ _. z) m in
      let t = together ts c.mid c.bytes c.last c.items in
      let all : c.count ≡ count ts =
      used_up c.mid.top.items c.count (count ts) (ap (λ (x : State). x.top.items) c.opened.data_.entered) t.items
      (sym (ap (λ (x : State). x.top.items) t.moved) ∙ c.closed.items) in
      let pairs : c.count ≡ 2 * length ps = all ∙ sym (values_many Turn ss ts (in_turn ps) m) ∙ twice_as_many ps in
      record {
        pairs = length ps;
        first = c.mid;
        opened = subst (λ n. Opens map st n c.mid) pairs c.opened;
        last = c.last;
        row = record {
          long = refl;
          each = in_turn_pairs c.mid ps c.last (taken_each Turn ts c.mid c.bytes c.last c.items (in_turn ps) n);
          others = others;
        };
        closed = c.closed;
      }

  pub value_map : (st : State) (ps : List (K × V)) (b : State) → ReadsValue Meant st ps b → MapRead key value st ps b
  value_map st ps b h =
      items_cases (key.ignores_standing && value.ignores_standing) Turn map (standing st.top.shared h.bytes) (in_turn ps)
      (λ t. Stands st h.bytes t → b ≡ after_value (length h.bytes) (weight_at st t) st → MapRead key value st ps b)
      (λ ts ss p m stands moved. next_pairs st ps b h.bytes ts ss p m h.meant.1 stands moved) h.term h.meant.0 h.stands h.moved
