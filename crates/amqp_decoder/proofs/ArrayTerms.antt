-- An array that is opened, whose items are taken, and that is closed, is a whole term; and the other way round.
use Rattle.std.proofs.Common.{◌≡◌, ◌≤◌, ◌<◌, ℕ, suc, ◌+◌, ◌-◌, ◌⊎◌, inl, inr, max, true, false, Option, Some, None, List, [], ◌∷◌, ◌++◌, length}
use Rattle.std.proofs.Common.{drop, get_or, refl, sym, ap, ap₂, ◌∙◌, subst, arith, append_assoc, drop-drop, length-append}
use Rattle.std.proofs.lemmas.List.{drop_at}
use Rattle.std.specs.Int.{bytes_high_first}
use Rattle.amqp_model.specs.Term.{Primitive, list, map, array, Container, Term, Terms, leaf, container, described, kept, barred, none, more}
use Rattle.amqp_model.specs.Term.{count, Descriptor}
use Rattle.amqp_model.specs.Items.{items_of}
use Rattle.amqp_model.specs.Constructors.{Format, fixed, variable, compound, unknown, format}
use Rattle.amqp_model.specs.Spelling.{Constructor, PrimitiveData, ContainerData, IsDataOf, AreElementsOf, AreSharedDataOf}
use Rattle.amqp_model.specs.Measures.{nest, nests, array_nest, weights}
use Rattle.amqp_model.specs.Standing.{Standing, StandInArray}
use Rattle.amqp_decoder.specs.declared.frame.Place.TheVariants.{InArray}
use Rattle.amqp_decoder.specs.State.{Open, State, Has, lower, after_data, after_value, counted_in, is_shared, in_container}
use Rattle.amqp_decoder.specs.Steps.{Takes}
use Rattle.amqp_decoder.specs.Containers.{ReadsHeader}
use Rattle.amqp_decoder.specs.Arrays.{TakesConstructor, IsFlat, Shares, no_items, shared_by, Starts, EntersArray, OpensArray}
use Rattle.amqp_decoder.specs.Items.{Row, Next, row_standings, NextWithParts, ContainsArray}
use Rattle.amqp_lookahead.proofs.Looks.{front_is}
use Rattle.amqp_decoder.proofs.ReadPrimitives.{minus-minus, begun_same, has_add, has_rest}
use Rattle.amqp_decoder.proofs.Counts.{code_counts, may_begin}
use Rattle.amqp_decoder.proofs.Steps.{bound_left}
use Rattle.amqp_decoder.proofs.Peeks.{constructor_some}
use Rattle.amqp_decoder.proofs.Opening.{header_same, one_width, took_both}
use Rattle.amqp_decoder.proofs.Constructed.{one_constructor}
use Rattle.amqp_decoder.proofs.ContainerTerms.{many, together, AllSpelled, row_spelled, row_of, StandUnder, row_stands, container_split}
use Rattle.amqp_decoder.proofs.ContainerTerms.{split_container, first_spelled, first_parts, front_of, container_bare, known, used_up}
use Rattle.amqp_decoder.proofs.ContainerTerms.{closed_at, counting, three, took_parts}

-- what a row of terms under one constructor is as data
all_data : (us : Terms) (ds : List Descriptor) (c : ℕ) (b : List ℕ) → AllSpelled (Some (ds, c)) us b → AreSharedDataOf us ds c b
all_data none ds c b h = h
all_data (more t us) ds c b (s, r, e, h, hs) = (s, r, e, h, all_data us ds c r hs)

data_all : (us : Terms) (ds : List Descriptor) (c : ℕ) (b : List ℕ) → AreSharedDataOf us ds c b → AllSpelled (Some (ds, c)) us b
data_all none ds c b h = h
data_all (more t us) ds c b (s, r, e, h, hs) = (s, r, e, h, data_all us ds c r hs)

flat_holds : (F : Format) (k : Container) (n : ℕ) (C : List ℕ → Type 0) (b : List ℕ) → IsFlat [] F → ContainerData F k n C b → ⊥
flat_holds (fixed w f) k n C b flat h = h
flat_holds (variable w f) k n C b flat h = h
flat_holds (compound j w) k n C b flat h = flat
flat_holds unknown k n C b flat h = h

pub flat_array : (us : Terms) (ds : List Descriptor) (c : ℕ) (b : List ℕ) → IsFlat ds (format c) → IsDataOf (container array us) ds c b → ⊥
flat_array us [] c b flat h = flat_holds (format c) array _ _ b flat h
flat_array us (e ∷ ds) c b flat h = flat

-- an item of a constructor that holds no others is a primitive
flat_leaf : (t : Term) (ds : List Descriptor) (c : ℕ) (b : List ℕ) → IsFlat ds (format c) → IsDataOf t ds c b
    → (nest t ≡ 0) × ((us : Terms) → array_nest (more t us) ≡ array_nest us)
flat_leaf t (e ∷ ds) c b flat h = absurd flat
flat_leaf (leaf p) [] c b flat h = (refl, λ us. refl)
flat_leaf (container list ts) [] c b flat h = absurd (flat_holds (format c) list _ _ b flat h)
flat_leaf (container map ts) [] c b flat h = absurd (flat_holds (format c) map _ _ b flat h.1)
flat_leaf (container array ts) [] c b flat h = absurd (flat_array ts [] c b flat h)
flat_leaf (described d t) [] c b flat h = absurd h
flat_leaf (kept k) [] c b flat h = absurd h
flat_leaf (barred r) [] c b flat h = absurd h

flat_rows : (us : Terms) (ds : List Descriptor) (c : ℕ) (b : List ℕ) → IsFlat ds (format c) → AreSharedDataOf us ds c b
    → (nests us ≡ 0) × (array_nest us ≡ 0)
flat_rows none ds c b flat h = (refl, refl)
flat_rows (more t us) ds c b flat (s, r, e, h, hs) =
    let one = flat_leaf t ds c s flat h in
    let all = flat_rows us ds c r flat hs in
    (omega (arith, one.0, all.0), one.1 us ∙ all.1)

array_nest_most : (us : Terms) → array_nest us ≤ suc (nests us)
array_nest_most none = omega arith
array_nest_most (more (container k vs) us) = omega arith
array_nest_most (more (described d t) us) = omega arith
array_nest_most (more (leaf p) us) = omega (arith, array_nest_most us)
array_nest_most (more (kept k) us) = omega (arith, array_nest_most us)
array_nest_most (more (barred r) us) = omega (arith, array_nest_most us)

flat_format : (F : Format) (p : Primitive) (b : List ℕ) → PrimitiveData F p b → IsFlat [] F
flat_format (fixed w f) p b h = tt
flat_format (variable w f) p b h = tt
flat_format (compound k w) p b h = h
flat_format unknown p b h = tt

-- the items hold no others, or the array counts in nesting
flat_or_deep : (t : Term) (us : Terms) (ds : List Descriptor) (c : ℕ) (b : List ℕ) → IsDataOf t ds c b
    → IsFlat ds (format c) ⊎ (array_nest (more t us) ≡ suc (nests (more t us)))
flat_or_deep (leaf p) us [] c b h = inl (flat_format (format c) p b h)
flat_or_deep (leaf p) us (e ∷ ds) c b h = absurd h
flat_or_deep (container k ts) us ds c b h = inr refl
flat_or_deep (described d t) us ds c b h = inr refl
flat_or_deep (kept k) us [] c b h = absurd h
flat_or_deep (kept k) us (e ∷ ds) c b h = absurd h
flat_or_deep (barred r) us [] c b h = absurd h
flat_or_deep (barred r) us (e ∷ ds) c b h = absurd h

-- the items of an array stand, behind a constructor of x bytes
abbrev within : ℕ → Option (List Descriptor × ℕ) → ℕ → ℕ → State → State
within x o n content at =
    record (after_data x (in_container InArray n content at)) {
      top = record (after_data x (in_container InArray n content at)).top { shared = o };
    }

-- the first item of an array stands next
record Started (us : Terms) (n content : ℕ) (at mid : State) : Type 0 where
  pub own : List ℕ
  pub shared : Option (List Descriptor × ℕ)
  pub is : mid ≡ within (length own) shared n content at
  pub took : Takes (in_container InArray 0 content at) own (after_data (length own) (in_container InArray 0 content at))
  pub elements : (b : List ℕ) → AllSpelled shared us b → AreElementsOf us (own ++ b)
  pub stands : (ss : List Standing) (b : List ℕ) → StandUnder shared us ss b → StandInArray us ss (own ++ b)
  pub nested : (b : List ℕ) → AllSpelled shared us b → nests us ≤ at.nesting - suc (length at.saved)
      → array_nest us ≤ at.nesting - length at.saved
  pub weighs : weights us (is_shared shared) ≡ weights us true

on_none : (st : State) (l : ℕ) → st.top.left ≡ Some l → st ≡ after_data 0 st
on_none st l e =
    let a : st.ahead ≡ st.ahead - 0 = omega arith in
    let n : l ≡ l - 0 = omega arith in
    let same : st.top.left ≡ lower st.top.left 0 = e ∙ ap Some n ∙ ap (λ o. lower o 0) (sym e) in
    ap (λ k. record st { ahead = k }) a ∙ ap (λ o. record st { ahead = st.ahead - 0; top = record st.top { left = o } }) same

started : (us : Terms) (n content : ℕ) (at mid : State) → n ≡ count us → Starts n content (in_container InArray 0 content at) mid
    → Started us n content at mid
started none n content at mid len (inl (e, is)) = record {
  own = [];
  shared = None;
  is = is ∙ on_none (in_container InArray 0 content at) content refl ∙ ap (λ k. within 0 None k content at) (sym len);
  took = record { room = omega arith; rest = refl; moved = refl };
  elements = λ b h. inl h;
  stands = λ ss b h. h.1;
  nested = λ b h k. omega arith;
  weighs = refl;
}
started none n content at mid len (inr (some, no_items ds c empty t)) = record {
  own = t.own;
  shared = None;
  is = t.took.moved ∙ ap (λ k. within (length t.own) None k content at) (sym len);
  took = subst (Takes (in_container InArray 0 content at) t.own) t.took.moved t.took;
  elements = λ b h. inr (ds, c, t.few, (t.own, b, refl, t.spelled, h));
  stands = λ ss b h. h.1;
  nested = λ b h k. omega arith;
  weighs = refl;
}
started none n content at mid len (inr (some, shared_by ds c m full t wide fits is)) = absurd (full len)
started (more t us) n content at mid len (inl (e, is)) = absurd (omega (arith, e, len))
started (more t us) n content at mid len (inr (some, no_items ds c empty k)) = absurd (omega (arith, empty, len))
started (more t us) n content at mid len (inr (some, shared_by ds c m full k wide fits is)) = record {
  own = k.own;
  shared = Some (ds, c);
  is = is ∙ ap (λ (z : State). record z { top = record z.top { items = Some n; shared = Some (ds, c) } }) k.took.moved;
  took = subst (Takes (in_container InArray 0 content at) k.own) k.took.moved k.took;
  elements = λ b (s, r, e, h, hs). (ds, c, k.few, (k.own, b, refl, k.spelled, (wide, (s, r, e, h, all_data us ds c r hs))));
  stands = λ ss b h. (ds, c, k.few, (k.own, b, refl, k.spelled, h));
  nested = λ b h few. elim fits [
    | inl flat ↦ let z = flat_rows (more t us) ds c b flat (all_data (more t us) ds c b h) in omega (arith, z.1)
    | inr deep ↦ omega (arith, deep, few, array_nest_most (more t us))
  ];
  weighs = refl;
}

pub starts_items : (n content : ℕ) (st mid : State) → st.top.items ≡ Some 0 → Starts n content st mid → mid.top.items ≡ Some n
starts_items n content st mid start (inl (e, is)) = ap (λ (z : State). z.top.items) is ∙ start ∙ ap Some (omega (arith, e))
starts_items n content st mid start (inr (some, no_items ds c empty t)) =
    ap (λ (z : State). z.top.items) t.took.moved ∙ start ∙ ap Some (sym empty)
starts_items n content st mid start (inr (some, shared_by ds c m full t wide fits is)) = ap (λ (z : State). z.top.items) is

starts_place : (n content : ℕ) (st mid : State) → Starts n content st mid → mid.top.place ≡ st.top.place
starts_place n content st mid (inl (e, is)) = ap (λ (z : State). z.top.place) is
starts_place n content st mid (inr (some, no_items ds c empty t)) = ap (λ (z : State). z.top.place) t.took.moved
starts_place n content st mid (inr (some, shared_by ds c m full t wide fits is)) =
    ap (λ (z : State). z.top.place) is ∙ ap (λ (z : State). z.top.place) t.took.moved

-- what is left of an array that was opened
pub opened_items : (st : State) (n : ℕ) (st' : State) → OpensArray st n st' → (st'.top.place ≡ InArray) × (st'.top.items ≡ Some n)
opened_items st n st' o = let d = o.data_ in (starts_place n d.content _ st' d.starts, starts_items n d.content _ st' refl d.starts)

-- the container around an array that was left
array_left : (x b n all content : ℕ) (o : Option (List Descriptor × ℕ)) (at : State) → content ≡ x + b
    → record (many n b all (within x o n content at)) { top = record at.top { left = lower at.top.left content }; saved = at.saved }
    ≡ counting all (after_data (x + b) at)
array_left x b n all content o at e = rw (minus-minus at.ahead x b, drop-drop b x at.rest, e) refl

four : (own h x b : List ℕ) → length (own ++ (h ++ (x ++ b))) ≡ length own + length h + (length x + length b)
four own h x b = three own h (x ++ b) ∙ ap (λ n. length own + length h + n) (length-append x b)

-- the items of an array stand in it as they were taken
pub whole_array_with_parts : (st : State) (us : Terms) (new : State) (c : ContainsArray st (items_of us) new)
    → NextWithParts st (container array us) (row_standings c.mid (items_of us) c.bytes c.last c.items) new
whole_array_with_parts st us new c =
    let o = c.opened in
    let d = o.data_ in
    let g = o.begun in
    let own = g.own in
    let b = c.bytes in
    let t = together us c.mid b c.last c.items in
    let n_is : c.count ≡ count us =
    used_up c.mid.top.items c.count (count us) (starts_items c.count d.content _ c.mid refl d.starts) t.items
    (sym (ap (λ (z : State). z.top.items) t.moved) ∙ c.closed.items) in
    let s = started us c.count d.content d.mid c.mid n_is d.starts in
    let x = s.own in
    let over : d.content - length x ≡ length b =
    used_up c.mid.top.left (d.content - length x) (length b) (ap (λ (z : State). z.top.left) s.is) t.room
    (sym (ap (λ (z : State). z.top.left) t.moved) ∙ bound_left c.last.top 0 c.closed.left) in
    let few : length x ≤ d.content = s.took.room in
    let k_is : d.content ≡ length x + length b = omega (arith, over, few) in
    let h : ReadsHeader false o.width o.mid (count us) d.content d.mid =
    subst (λ n. ReadsHeader false o.width o.mid n d.content d.mid) n_is d.header in
    let head = bytes_high_first o.width h.size ++ bytes_high_first o.width (count us) in
    let code_is = known (format o.code) array o.width o.announced in
    let one : counted_in st.top.shared o.code ≡ 1 = code_counts st.top.shared o.code own g.first code_is in
    let g_moved : o.mid ≡ after_value (length own) 1 st = g.moved ∙ ap (λ k. after_value (length own) k st) one in
    let at : State = after_data (length head) (after_value (length own) 1 st) in
    let at_is : d.mid ≡ at = h.took.moved ∙ ap (after_data (length head)) g_moved in
    let tk = subst (λ z. Takes z head d.mid) g_moved h.took in
    let first : Takes st own (after_data (length own) st) = record { room = g.room; rest = g.rest; moved = refl } in
    let second : Takes (after_data (length own) st) head (after_data (length head) (after_data (length own) st)) =
    record { room = tk.room; rest = tk.rest; moved = refl } in
    let long : length (x ++ b) ≡ length x + length b = length-append x b in
    let third : Takes (after_data (length head) (after_data (length own) st)) (x ++ b)
    (after_data (length (x ++ b)) (after_data (length head) (after_data (length own) st))) = record {
      room = subst (Has at.top.left) (k_is ∙ sym long) (subst (λ (z : State). Has z.top.left d.content) at_is d.room);
      rest = subst (λ (z : State). z.rest ≡ (x ++ b) ++ drop (length (x ++ b)) z.rest) at_is
          (front_is (x ++ b) d.mid.rest (drop (length b) (drop (length x) d.mid.rest)) (length (x ++ b)) refl
          (s.took.rest ∙ ap (λ l. x ++ l) (subst (λ (z : State). z.rest ≡ b ++ drop (length b) z.rest) s.is t.rest)
          ∙ sym (append_assoc x b (drop (length b) (drop (length x) d.mid.rest)))));
      moved = refl;
    } in
    let all = took_both st _ _ own (head ++ (x ++ b)) first (took_both _ _ _ head (x ++ b) second third) in
    let shared : c.mid.top.shared ≡ s.shared = ap (λ (z : State). z.top.shared) s.is in
    let rows = row_spelled s.shared us c.mid b c.last shared c.items in
    let data_of_content : (C : List ℕ → Type 0) → C (x ++ b) → ContainerData (format o.code) array (count us) C (head ++ (x ++ b)) =
    λ C inner. split_container (format o.code) array (count us) C (head ++ (x ++ b)) (record {
      width = o.width;
      size = h.size;
      content = x ++ b;
      announced = o.announced;
      sized = elim h.counts [ inl e ↦ inl (e ∙ ap (λ k. o.width + k) (k_is ∙ sym long)) | inr (listed, e, f, z) ↦ absurd (cc) ];
      inner = inner;
      fits = h.fits;
      few = h.few;
      whole = append_assoc (bytes_high_first o.width h.size) (bytes_high_first o.width (count us)) (x ++ b);
    }) in
    let ss = row_standings c.mid (items_of us) b c.last c.items in
    let data_is = data_of_content (AreElementsOf us) (s.elements b rows) in
    let parts_are = data_of_content (StandInArray us ss) (s.stands ss b (row_stands s.shared us c.mid b c.last shared c.items)) in
    let levels : length c.mid.saved ≡ suc (length d.mid.saved) = ap (λ (z : State). length z.saved) s.is in
    let limit : c.mid.nesting ≡ d.mid.nesting = ap (λ (z : State). z.nesting) s.is in
    let deep : array_nest us ≤ d.mid.nesting - length d.mid.saved = s.nested b rows (let m = t.nested in omega (arith, m, levels, limit)) in
    let all_ = weights us true in
    let moved : c.last ≡ many (count us) (length b) all_ c.mid =
    t.moved ∙ ap (λ n. many (count us) (length b) n c.mid) (ap (λ o. weights us (is_shared o)) shared ∙ s.weighs) in
    let left : new ≡ record (many (count us) (length b) all_ (within (length x) s.shared c.count d.content d.mid)) {
      top = c.closed.outer;
      saved = c.closed.others;
    } = c.closed.moved ∙ ap (λ (z : State). record z { top = c.closed.outer; saved = c.closed.others })
    (moved ∙ ap (many (count us) (length b) all_) s.is) in
    let saved : (record d.mid.top { left = lower d.mid.top.left d.content }) ∷ d.mid.saved ≡ c.closed.outer ∷ c.closed.others =
    sym (ap (λ (z : State). z.saved) (moved ∙ ap (many (count us) (length b) all_) s.is)) ∙ c.closed.saved in
    let out : new ≡ counting all_ (after_data (length x + length b) d.mid) = left
    ∙ ap₂ (λ (f : Open) (l : List Open). record (many (count us) (length b) all_ (within (length x) s.shared c.count d.content d.mid)) {
      top = f;
      saved = l;
    }) (sym (ap (λ l. get_or l 0 d.mid.top) saved)) (sym (ap (drop 1) saved))
    ∙ ap (λ n. record (many (count us) (length b) all_ (within (length x) s.shared n d.content d.mid)) {
      top = record d.mid.top { left = lower d.mid.top.left d.content };
      saved = d.mid.saved;
    }) n_is
    ∙ array_left (length x) (length b) (count us) all_ d.content s.shared d.mid k_is in
    let begun : Has st.quota 1 = subst (Has st.quota) one g.few in
    let here : c.mid.quota ≡ lower st.quota 1 = ap (λ (z : State). z.quota) s.is ∙ ap (λ (z : State). z.quota) at_is in
    let few_ : Has c.mid.quota all_ = subst (Has c.mid.quota) (ap (λ o. weights us (is_shared o)) shared ∙ s.weighs) t.few in
    let inside : Has (lower st.quota 1) all_ = subst (λ q. Has q all_) here few_ in
    let sum : 1 + all_ ≡ suc all_ = omega arith in
    record {
      next = record {
        bytes = own ++ (head ++ (x ++ b));
        stands = record {
          going = g.going;
          item = g.item;
          room = all.room;
          after = drop (length (own ++ (head ++ (x ++ b)))) st.rest;
          rest = all.rest;
          spelled = first_spelled st.top.shared o.code own (head ++ (x ++ b)) (container array us) g.first code_is data_is;
          nested = subst (λ (z : State). array_nest us ≤ z.nesting - length z.saved) at_is deep;
          few = subst (Has st.quota) sum (has_add st.quota 1 all_ begun inside);
        };
        moved = out ∙ ap (λ z. counting all_ (after_data (length x + length b) z)) at_is
            ∙ closed_at st (after_value (length own) 1 st) at (length own) (length head) (length x + length b) 1 all_ refl refl
            ∙ ap (λ k. after_value k (1 + all_) st) (sym (four own head x b))
            ∙ ap (λ k. after_value (length (own ++ (head ++ (x ++ b)))) k st) sum;
      };
      parts = first_parts st.top.shared o.code own (head ++ (x ++ b)) array us ss g.first code_is parts_are;
    }

pub whole_array : (st : State) (us : Terms) (new : State) → ContainsArray st (items_of us) new → Next st (container array us) new
whole_array st us new c = let h = whole_array_with_parts st us new c in h.next

-- how an array that stands there is begun
record Beginning (us : Terms) (content : List ℕ) (at : State) : Type 0 where
  pub own : List ℕ
  pub items : List ℕ
  pub shared : Option (List Descriptor × ℕ)
  pub split : content ≡ own ++ items
  pub spelled : AllSpelled shared us items
  pub starts : Starts (count us) (length content) (in_container InArray 0 (length content) at)
      (within (length own) shared (count us) (length content) at)
  pub nested : nests us ≤ at.nesting - suc (length at.saved)
  pub weighs : weights us (is_shared shared) ≡ weights us true

-- the constructor of the items is there
constructed : (content own items after : List ℕ) (ds : List Descriptor) (c : ℕ) (at : State) → content ≡ own ++ items
    → at.rest ≡ content ++ after → length ds ≤ 128 → Constructor ds c own
    → TakesConstructor (in_container InArray 0 (length content) at) ds c
    (after_data (length own) (in_container InArray 0 (length content) at))
constructed content own items after ds c at e rest few k = record {
  own = own;
  few = few;
  spelled = k;
  took = record {
    room = omega (arith, ap length e, length-append own items);
    rest = front_is own at.rest (items ++ after) (length own) refl (rest ∙ ap (λ l. l ++ after) e ∙ append_assoc own items after);
    moved = refl;
  };
}

some_content : (n : ℕ) (content own items : List ℕ) (ds : List Descriptor) (c : ℕ) → content ≡ own ++ items → Constructor ds c own
    → 0 < max n (length content)
some_content n content own items ds c e k = omega (arith, ap length e, length-append own items, constructor_some ds c own k)

beginning : (us : Terms) (content after : List ℕ) (at : State) → AreElementsOf us content → at.rest ≡ content ++ after
    → array_nest us ≤ at.nesting - length at.saved → Beginning us content at
beginning none content after at (inl e) rest deep = record {
  own = [];
  items = [];
  shared = None;
  split = e;
  spelled = refl;
  starts = inl (omega (arith, ap length e), sym (on_none (in_container InArray 0 (length content) at) (length content) refl));
  nested = omega arith;
  weighs = refl;
}
beginning none content after at (inr (ds, c, few, (own, items, e, k, h))) rest deep = record {
  own = own;
  items = items;
  shared = None;
  split = e;
  spelled = h;
  starts = inr (some_content 0 content own items ds c e k, no_items ds c refl (constructed content own items after ds c at e rest few k));
  nested = omega arith;
  weighs = refl;
}
beginning (more t us) content after at (ds, c, few, (own, items, e, k, (wide, (s, r, f, h, hs)))) rest deep =
    let room : IsFlat ds (format c) ⊎ (suc (length at.saved) ≤ at.nesting) =
    elim (flat_or_deep t us ds c s h) [ inl x ↦ inl x | inr x ↦ inr (omega (arith, x, deep)) ] in
    let few_ : nests (more t us) ≤ at.nesting - suc (length at.saved) =
    elim (flat_or_deep t us ds c s h) [
      | inl x ↦ omega (arith, (flat_rows (more t us) ds c items x (s, r, f, h, hs)).0)
      | inr x ↦ omega (arith, x, deep)
    ] in
    record {
      own = own;
      items = items;
      shared = Some (ds, c);
      split = e;
      spelled = (s, r, f, h, data_all us ds c r hs);
      starts = inr (
        some_content (count (more t us)) content own items ds c e k,
        shared_by ds c _ (λ z. absurd (omega (arith, z))) (constructed content own items after ds c at e rest few k) wide room refl,
      );
      nested = few_;
      weighs = refl;
    }

-- an array that stands there is opened, its items are taken and it is closed
pub array_parts : (st : State) (us : Terms) (new : State) → length st.saved ≤ st.nesting → Next st (container array us) new
    → ContainsArray st (items_of us) new
array_parts st us new few next =
    let k = next.stands in
    let f = front_of st.top.shared (container array us) next.bytes (container_bare array us) k.spelled in
    let y = container_split (format f.code) array (count us) (AreElementsOf us) f.data_ f.spelled in
    let own = f.own in
    let content = y.content in
    let n = count us in
    let head = bytes_high_first y.width y.size ++ bytes_high_first y.width n in
    let s_is : next.bytes ≡ own ++ (head ++ content) =
    f.whole ∙ ap (λ l. own ++ l)
    (y.whole ∙ sym (append_assoc (bytes_high_first y.width y.size) (bytes_high_first y.width n) content)) in
    let all : Takes st (own ++ (head ++ content)) (after_data (length (own ++ (head ++ content))) st) = record {
      room = subst (λ l. Has st.top.left (length l)) s_is k.room;
      rest = front_is (own ++ (head ++ content)) st.rest k.after (length (own ++ (head ++ content))) refl
          (k.rest ∙ ap (λ l. l ++ k.after) s_is);
      moved = refl;
    } in
    let one = took_parts st _ own (head ++ content) all in
    let two = took_parts _ _ head content one.1 in
    let code_is = known (format f.code) array y.width y.announced in
    let one_ : counted_in st.top.shared f.code ≡ 1 = code_counts st.top.shared f.code own f.first code_is in
    let all_ = weights us true in
    let sum : 1 + all_ ≡ suc all_ = omega arith in
    let few_ : Has st.quota (1 + all_) = subst (Has st.quota) (sym sum) k.few in
    let at : State = after_data (length head) (after_value (length own) (counted_in st.top.shared f.code) st) in
    let start = beginning us content (drop (length content) at.rest) at y.inner two.1.rest k.nested in
    let x = start.own in
    let b = start.items in
    let mid : State = within (length x) start.shared n (length content) at in
    let long : length content ≡ length x + length b = ap length start.split ∙ length-append x b in
    let behind : drop (length x) at.rest ≡ b ++ drop (length content) at.rest =
    ap (drop (length x)) (two.1.rest ∙ ap (λ l. l ++ drop (length content) at.rest) start.split
    ∙ append_assoc x b (drop (length content) at.rest)) ∙ drop_at x (b ++ drop (length content) at.rest) (length x) refl in
    let none_left : n - n ≡ 0 = omega arith in
    let none_over : length content - length x - length b ≡ 0 = omega (arith, long) in
    record {
      count = n;
      mid = mid;
      opened = record {
        code = f.code;
        width = y.width;
        mid = after_value (length own) (counted_in st.top.shared f.code) st;
        begun = record {
          going = k.going;
          item = k.item;
          own = own;
          first = f.first;
          room = one.0.room;
          rest = one.0.rest;
          few = may_begin st.quota st.top.shared (container array us) next.bytes f.code k.spelled k.few;
          moved = refl;
        };
        announced = y.announced;
        data_ = record {
          content = length content;
          mid = at;
          header = record {
            size = y.size;
            fits = y.fits;
            few = y.few;
            took = record { room = two.0.room; rest = two.0.rest; moved = refl };
            counts = elim y.sized [ inl e ↦ inl e | inr (one_kind, e, g, z) ↦ absurd (cc) ];
          };
          room = two.1.room;
          few = few;
          starts = start.starts;
        };
      };
      bytes = b;
      last = many n (length b) all_ mid;
      items = subst (λ k. Row mid (items_of us) b (many n (length b) k mid)) start.weighs
          (row_of start.shared us mid b (drop (length content) at.rest) k.going refl (omega arith) (omega (arith, long)) behind
          start.spelled start.nested (subst (Has (lower st.quota (counted_in st.top.shared f.code))) (sym start.weighs)
          (subst (λ j. Has (lower st.quota j) all_) (sym one_) (has_rest st.quota 1 all_ few_))));
      closed = record {
        going = k.going;
        here = refl;
        items = ap Some none_left;
        left = ap Some none_over;
        outer = record at.top { left = lower at.top.left (length content) };
        others = at.saved;
        saved = refl;
        moved = next.moved ∙ ap (λ l. after_value (length l) (suc all_) st) (s_is ∙ ap (λ l. own ++ (head ++ l)) start.split)
            ∙ ap (λ m. after_value m (suc all_) st) (four own head x b)
            ∙ ap (λ j. after_value (length own + length head + (length x + length b)) j st)
            (sym sum ∙ ap (λ j. j + all_) (sym one_))
            ∙ sym (closed_at st (after_value (length own) (counted_in st.top.shared f.code) st) at (length own) (length head) (length x + length b)
            (counted_in st.top.shared f.code) all_ refl refl)
            ∙ sym (array_left (length x) (length b) n all_ (length content) start.shared at long);
      };
    }

shares_same : (n : ℕ) (st a b : State) → Shares n st a → Shares n st b → a ≡ b
shares_same n st a b (no_items ds c e t) (no_items es k f u) = (one_constructor st ds es c k a b t u).2
shares_same n st a b (no_items ds c e t) (shared_by es k m full u wide fits is) = absurd (full e)
shares_same n st a b (shared_by ds c m full t wide fits is) (no_items es k f u) = absurd (full f)
shares_same n st a b (shared_by ds c m full t wide fits is) (shared_by es k m' full' u wide' fits' is') =
    let e = one_constructor st ds es c k m m' t u in
    is ∙ ap (λ (z : State). record z { top = record z.top { items = Some n; shared = Some (ds, c) } }) e.2
    ∙ ap₂ (λ (l : List Descriptor) (j : ℕ). record m' { top = record m'.top { items = Some n; shared = Some (l, j) } }) e.0 e.1
    ∙ sym is'

starts_same : (n content : ℕ) (st a b : State) → Starts n content st a → Starts n content st b → a ≡ b
starts_same n content st a b (inl (e, f)) (inl (g, h)) = f ∙ sym h
starts_same n content st a b (inl (e, f)) (inr (g, h)) = absurd (omega (arith, e, g))
starts_same n content st a b (inr (e, f)) (inl (g, h)) = absurd (omega (arith, e, g))
starts_same n content st a b (inr (e, f)) (inr (g, h)) = shares_same n st a b f h

enters_same : (w : ℕ) (st : State) (n n' : ℕ) (a b : State) → EntersArray w st n a → EntersArray w st n' b → (n ≡ n') × (a ≡ b)
enters_same w st n n' a b d d' =
    let s = header_same false w st n d.content n' d'.content d.mid d'.mid d.header d'.header in
    let one = subst (λ k. Starts k d.content (in_container InArray 0 d.content d.mid) a) s.0 d.starts in
    let two = subst (λ k. Starts n' k (in_container InArray 0 k d.mid) a) s.1 one in
    let all = subst (λ z. Starts n' d'.content (in_container InArray 0 d'.content z) a) s.2 two in
    (s.0, starts_same n' d'.content (in_container InArray 0 d'.content d'.mid) a b all d'.starts)

-- an array is opened in one way
pub opens_array_same : (st : State) (n n' : ℕ) (a b : State) → OpensArray st n a → OpensArray st n' b → (n ≡ n') × (a ≡ b)
opens_array_same st n n' a b o p =
    let s = begun_same st o.code p.code o.mid p.mid o.begun p.begun in
    let w : o.width ≡ p.width = one_width (format p.code) array o.width p.width (ap format (sym s.0) ∙ o.announced) p.announced in
    enters_same p.width p.mid n n' a b (subst (λ z. EntersArray p.width z n a) s.1 (subst (λ k. EntersArray k o.mid n a) w o.data_)) p.data_
