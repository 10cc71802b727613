-- A list or a map that is opened, whose items are taken, and that is closed, is a whole term; and the other way round.
use Rattle.std.proofs.Common.{◌≡◌, ◌≤◌, ◌<◌, ℕ, suc, ◌+◌, ◌-◌, ◌^◌, inl, inr, Option, Some, None, List, [], ◌∷◌, ◌++◌, length, drop, get_or}
use Rattle.std.proofs.Common.{Bool, false, unwrap_or, refl, sym, ap, ◌∙◌, subst, arith, append_assoc, append-nil, drop-drop, length-append}
use Rattle.std.proofs.lemmas.List.{drop_at}
use Rattle.std.specs.Int.{bytes_high_first}
use Rattle.amqp_model.specs.Term.{Container, list, map, array, Term, Terms, container, none, more, count, Descriptor}
use Rattle.amqp_model.specs.Items.{items_of}
use Rattle.amqp_model.specs.Constructors.{Format, fixed, variable, compound, unknown, format}
use Rattle.amqp_model.specs.Spelling.{IsSize, ContainerData, IsKnown, Constructor, IsDataOf, IsSpelling, AreItemsOf as items_spelled}
use Rattle.amqp_model.specs.Measures.{nest, nests, is_sharing, weight, weights}
use Rattle.amqp_model.specs.Standing.{Standing, StandWhole, StandAsData, StandIn, Parts}
use Rattle.amqp_decoder.specs.declared.frame.Place.{Place}
use Rattle.amqp_decoder.specs.State.{Open, State, Has, lower, after_data, after_value, counted_in, is_shared, weight_at, in_container}
use Rattle.amqp_decoder.specs.State.{items_of as items_at}
use Rattle.amqp_decoder.specs.Steps.{Takes}
use Rattle.amqp_decoder.specs.Reading.{IsFirst}
use Rattle.amqp_decoder.specs.Primitives.{standing, SpellsAs}
use Rattle.amqp_decoder.specs.Containers.{place_of, is_list, IsCount, Counts, ReadsHeader}
use Rattle.amqp_decoder.specs.Items.{Row, Next, row_standings, NextWithParts, Contains}
use Rattle.amqp_lookahead.proofs.Looks.{front_is}
use Rattle.amqp_decoder.proofs.Steps.{bound_left, has_none, lower_none}
use Rattle.amqp_decoder.proofs.ReadPrimitives.{has_add, has_front, has_rest, lower-lower, minus-minus, after_code, after_data-after_value}
use Rattle.amqp_decoder.proofs.Counts.{code_counts, may_begin}
use Rattle.amqp_decoder.proofs.Opening.{after_data-after_data, took_both}

-- k values of n bytes are taken, which weigh so much together
abbrev pub many : ℕ → ℕ → ℕ → State → State
many k n all st =
    record st {
      rest = drop n st.rest;
      ahead = st.ahead - n;
      top = record st.top { items = lower st.top.items k; left = lower st.top.left n };
      quota = lower st.quota all;
    }

many-after_value : (k m n one all : ℕ) (st : State) → many k n all (after_value m one st) ≡ many (suc k) (m + n) (one + all) st
many-after_value k m n one all st =
    let next : 1 + k ≡ suc k = omega arith in
    rw (
      minus-minus st.ahead m n,
      drop-drop n m st.rest,
      lower-lower st.top.left m n,
      lower-lower st.top.items 1 k,
      lower-lower st.quota one all,
      next,
    ) refl

many_none : (st : State) → st ≡ many 0 0 0 st
many_none st =
    let a : st.ahead ≡ st.ahead - 0 = omega arith in
    ap (λ x. record st { ahead = x }) a
    ∙ ap (λ x. record st { ahead = st.ahead - 0; top = record st.top { items = x } }) (sym (lower_none st.top.items))
    ∙ ap (λ x. record st { ahead = st.ahead - 0; top = record st.top { items = lower st.top.items 0; left = x } })
    (sym (lower_none st.top.left))
    ∙ ap (λ x. record (many 0 0 0 st) { quota = x }) (sym (lower_none st.quota))

-- What terms weigh that stand next.
abbrev pub weights_at : State → Terms → ℕ
weights_at st us = weights us (is_shared st.top.shared)

-- what some terms in a row are together
pub record Together (st : State) (us : Terms) (b : List ℕ) (st' : State) : Type 0 where
  pub moved : st' ≡ many (count us) (length b) (weights_at st us) st
  pub rest : st.rest ≡ b ++ drop (length b) st.rest
  pub room : Has st.top.left (length b)
  pub items : Has st.top.items (count us)
  pub nested : nests us ≤ st.nesting - length st.saved
  pub few : Has st.quota (weights_at st us)

has_one_more : (o : Option ℕ) (k : ℕ) → Has o 1 → Has (lower o 1) k → Has o (suc k)
has_one_more None k h i = tt
has_one_more (Some l) k h i = omega arith

pub together : (us : Terms) (st : State) (b : List ℕ) (st' : State) → Row st (items_of us) b st' → Together st us b st'
together none st b st' (e, f) =
    let empty : length b ≡ 0 = ap length e in
    record {
      moved = f ∙ many_none st ∙ ap (λ n. many 0 n 0 st) (sym empty);
      rest = subst (λ x. st.rest ≡ x ++ drop (length x) st.rest) (sym e) refl;
      room = subst (Has st.top.left) (sym empty) (has_none st.top.left);
      items = has_none st.top.items;
      nested = omega arith;
      few = has_none st.quota;
    }
together (more t us) st b st' (s, r, e, k, row) =
    let i = together us (after_value (length s) (weight_at st t) st) r st' row in
    let n : length b ≡ length s + length r = ap length e ∙ length-append s r in
    let behind : drop (length s) st.rest ≡ k.after = ap (drop (length s)) k.rest ∙ drop_at s k.after (length s) refl in
    let here : st.rest ≡ s ++ drop (length s) st.rest = k.rest ∙ ap (λ x. s ++ x) (sym behind) in
    record {
      moved = i.moved ∙ many-after_value (count us) (length s) (length r) (weight_at st t) (weights_at st us) st
          ∙ ap (λ x. many (suc (count us)) x (weight_at st t + weights_at st us) st) (sym n);
      rest = front_is b st.rest (drop (length r) (drop (length s) st.rest)) (length b) refl (after_code s r st.rest here i.rest
          ∙ ap (λ x. x ++ drop (length r) (drop (length s) st.rest)) (sym e));
      room = subst (Has st.top.left) (sym n) (has_add st.top.left (length s) (length r) k.room i.room);
      items = has_one_more st.top.items (count us) k.item i.items;
      nested = omega (arith, k.nested, i.nested);
      few = has_add st.quota (weight_at st t) (weights_at st us) k.few i.few;
    }

-- some terms stand one after another, each so
abbrev pub AllSpelled : Option (List Descriptor × ℕ) → Terms → List ℕ → Type 0
AllSpelled o none b = b ≡ []
AllSpelled o (more t us) b = (first others : List ℕ) × (b ≡ first ++ others) × SpellsAs (standing o first) t × AllSpelled o us others

pub row_spelled : (o : Option (List Descriptor × ℕ)) (us : Terms) (st : State) (b : List ℕ) (st' : State) → st.top.shared ≡ o
    → Row st (items_of us) b st' → AllSpelled o us b
row_spelled o none st b st' shared row = row.0
row_spelled o (more t us) st b st' shared (s, r, e, k, row) =
    (s, r, e, subst (λ x. SpellsAs (standing x s) t) shared k.spelled, row_spelled o us (after_value (length s) (weight_at st t) st) r st' shared row)

-- terms that are spelled there can be taken in a row
pub row_of : (o : Option (List Descriptor × ℕ)) (us : Terms) (st : State) (b x : List ℕ) → st.error ≡ None → st.top.shared ≡ o
    → Has st.top.items (count us) → Has st.top.left (length b) → st.rest ≡ b ++ x → AllSpelled o us b
    → nests us ≤ st.nesting - length st.saved → Has st.quota (weights_at st us)
    → Row st (items_of us) b (many (count us) (length b) (weights_at st us) st)
row_of o none st b x going shared items room rest e nested few = (e, sym (many_none st ∙ ap (λ n. many 0 n 0 st) (sym (ap length e))))
row_of o (more t us) st b x going shared items room rest (s, r, e, h, hs) nested few =
    let n : length b ≡ length s + length r = ap length e ∙ length-append s r in
    let room_ : Has st.top.left (length s + length r) = subst (Has st.top.left) n room in
    let here : st.rest ≡ s ++ (r ++ x) = rest ∙ ap (λ l. l ++ x) e ∙ append_assoc s r x in
    let behind : drop (length s) st.rest ≡ r ++ x = ap (drop (length s)) here ∙ drop_at s (r ++ x) (length s) refl in
    let one : 1 + count us ≡ suc (count us) = omega arith in
    let items_ : Has st.top.items (1 + count us) = subst (Has st.top.items) (sym one) items in
    let i = row_of o us (after_value (length s) (weight_at st t) st) r x going shared (has_rest st.top.items 1 (count us) items_)
    (has_rest st.top.left (length s) (length r) room_) behind hs (omega (arith, nested)) (has_rest st.quota (weight_at st t) (weights_at st us) few) in (
      s,
      r,
      e,
      record {
        going = going;
        item = has_front st.top.items 1 (count us) items_;
        room = has_front st.top.left (length s) (length r) room_;
        after = r ++ x;
        rest = here;
        spelled = subst (λ y. SpellsAs (standing y s) t) (sym shared) h;
        nested = omega (arith, nested);
        few = has_front st.quota (weight_at st t) (weights_at st us) few;
      },
      subst (Row (after_value (length s) (weight_at st t) st) (items_of us) r)
          (many-after_value (count us) (length s) (length r) (weight_at st t) (weights_at st us) st
          ∙ ap (λ k. many (suc (count us)) k (weight_at st t + weights_at st us) st) (sym n)) i,
    )

-- some terms stand one after another, and how each does
abbrev pub StandUnder : Option (List Descriptor × ℕ) → Terms → List Standing → List ℕ → Type 0
StandUnder None us ss b = StandWhole us ss b
StandUnder (Some (ds, c)) us ss b = StandAsData us ss ds c b

pub row_stands : (o : Option (List Descriptor × ℕ)) (us : Terms) (st : State) (b : List ℕ) (st' : State) → st.top.shared ≡ o
    → (row : Row st (items_of us) b st') → StandUnder o us (row_standings st (items_of us) b st' row) b
row_stands None none st b st' e row = (row.0, refl)
row_stands (Some (ds, c)) none st b st' e row = (row.0, refl)
row_stands None (more t us) st b st' e (s, r, f, k, row) =
    let others = row_standings (after_value (length s) (weight_at st t) st) (items_of us) r st' row in (
      s,
      r,
      others,
      f,
      subst (λ x. SpellsAs (standing x s) t) e k.spelled,
      row_stands None us (after_value (length s) (weight_at st t) st) r st' e row,
      ap (λ x. standing x s ∷ others) e,
    )
row_stands (Some (ds, c)) (more t us) st b st' e (s, r, f, k, row) =
    let others = row_standings (after_value (length s) (weight_at st t) st) (items_of us) r st' row in (
      s,
      r,
      others,
      f,
      subst (λ x. SpellsAs (standing x s) t) e k.spelled,
      row_stands (Some (ds, c)) us (after_value (length s) (weight_at st t) st) r st' e row,
      ap (λ x. standing x s ∷ others) e,
    )

-- the items of a list or a map
all_items : (us : Terms) (b : List ℕ) → AllSpelled None us b → items_spelled us b
unfolding IsSpelling
all_items none b h = h
all_items (more t us) b (s, r, e, h, hs) = (s, r, e, h, all_items us r hs)

items_all : (us : Terms) (b : List ℕ) → items_spelled us b → AllSpelled None us b
unfolding IsSpelling
items_all none b h = h
items_all (more t us) b (s, r, e, h, hs) = (s, r, e, h, items_all us r hs)

-- a list or a map
abbrev pub IsRow : Container → Type 0
IsRow list = Unit {0}
IsRow map = Unit {0}
IsRow array = ⊥

row_unshared : (kind : Container) → IsRow kind → is_sharing kind ≡ false
row_unshared list is = refl
row_unshared map is = refl
row_unshared array is = absurd is

container_data : (kind : Container) (us : Terms) (c : ℕ) (b : List ℕ) → IsRow kind → IsCount kind (count us)
    → ContainerData (format c) kind (count us) (items_spelled us) b → IsDataOf (container kind us) [] c b
container_data list us c b is n d = d
container_data map us c b is n d = (n, d)
container_data array us c b is n d = absurd is

data_container : (kind : Container) (us : Terms) (c : ℕ) (b : List ℕ) → IsRow kind → IsDataOf (container kind us) [] c b
    → IsCount kind (count us) × ContainerData (format c) kind (count us) (items_spelled us) b
data_container list us c b is d = (tt, d)
data_container map us c b is d = d
data_container array us c b is d = absurd is

pub container_bare : (kind : Container) (us : Terms) (f : Descriptor) (ds : List Descriptor) (c : ℕ) (b : List ℕ)
    → IsDataOf (container kind us) (f ∷ ds) c b → ⊥
container_bare list us f ds c b d = d
container_bare map us f ds c b d = d
container_bare array us f ds c b d = d

nest_container : (kind : Container) (us : Terms) → IsRow kind → nest (container kind us) ≡ suc (nests us)
nest_container list us is = refl
nest_container map us is = refl
nest_container array us is = absurd is

pub place_items : (kind : Container) (n : ℕ) → items_at (place_of kind) n ≡ Some n
place_items list n = refl
place_items map n = refl
place_items array n = refl

size_is : (kind : Container) (w n : ℕ) (b : List ℕ) (k size : ℕ) → IsRow kind → k ≡ length b → Counts (is_list kind) w n k size
    → IsSize kind w n b size
size_is kind w n b k size is e (inl h) = inl (h ∙ ap (λ x. w + x) e)
size_is list w n [] k size is e (inr (i, a, c, d)) = inr (refl, a, refl, d)
size_is list w n (x ∷ r) k size is e (inr (i, a, c, d)) = absurd (omega arith)
size_is map w n b k size is e (inr (i, a, c, d)) = absurd (cc)
size_is array w n b k size is e h = absurd is

is_size : (kind : Container) (w n : ℕ) (b : List ℕ) (size : ℕ) → IsSize kind w n b size → Counts (is_list kind) w n (length b) size
is_size kind w n b size (inl h) = inl h
is_size kind w n b size (inr (k, a, c, d)) = inr (ap is_list k, a, ap length c, d)

-- a format of containers, and its data
pub record Split (kind : Container) (F : Format) (n : ℕ) (Content : List ℕ → Type 0) (d : List ℕ) : Type 0 where
  pub width : ℕ
  pub size : ℕ
  pub content : List ℕ
  pub announced : F ≡ compound kind width
  pub sized : IsSize kind width n content size
  pub inner : Content content
  pub fits : size < 256 ^ width
  pub few : n < 256 ^ width
  pub whole : d ≡ bytes_high_first width size ++ (bytes_high_first width n ++ content)

pub container_split : (F : Format) (kind : Container) (n : ℕ) (Content : List ℕ → Type 0) (d : List ℕ) → ContainerData F kind n Content d
    → Split kind F n Content d
container_split (fixed w f) kind n C d h = absurd h
container_split (variable w f) kind n C d h = absurd h
container_split (compound k w) kind n C d (same, size, content, is, c, fits, few, e) =
    record {
      width = w;
      size = size;
      content = content;
      announced = ap (λ x. compound x w) same;
      sized = is;
      inner = c;
      fits = fits;
      few = few;
      whole = e;
    }
container_split unknown kind n C d h = absurd h

pub split_container : (F : Format) (kind : Container) (n : ℕ) (Content : List ℕ → Type 0) (d : List ℕ) (s : Split kind F n Content d)
    → ContainerData F kind n Content d
split_container F kind n C d s =
    subst (λ G. ContainerData G kind n C d) (sym s.announced) (refl, s.size, s.content, s.sized, s.inner, s.fits, s.few, s.whole)

pub first_spelled : (o : Option (List Descriptor × ℕ)) (c : ℕ) (own b : List ℕ) (t : Term) → IsFirst o c own → IsKnown (format c)
    → IsDataOf t [] c b → SpellsAs (standing o (own ++ b)) t
unfolding IsSpelling
first_spelled None c own b t first known d = ([], c, omega arith, (c ∷ [], b, ap (λ l. l ++ b) first, (refl, known), d))
first_spelled (Some ([], k)) c own b t (e, f) known d = subst (λ x. IsDataOf t [] k (x ++ b)) (sym e) (subst (λ x. IsDataOf t [] x b) f d)
first_spelled (Some (e ∷ ds, k)) c own b t (f, g) known d = absurd (subst (λ x. IsKnown (format x)) g known)

pub first_parts : (o : Option (List Descriptor × ℕ)) (c : ℕ) (own b : List ℕ) (kind : Container) (us : Terms) (ss : List Standing)
    → IsFirst o c own → IsKnown (format c) → StandIn (container kind us) ss [] c b → Parts (standing o (own ++ b)) (container kind us) ss
first_parts None c own b kind us ss first known d = ([], c, omega arith, (c ∷ [], b, ap (λ l. l ++ b) first, (refl, known), d))
first_parts (Some ([], k)) c own b kind us ss (e, f) known d =
    subst (λ x. StandIn (container kind us) ss [] k (x ++ b)) (sym e) (subst (λ x. StandIn (container kind us) ss [] x b) f d)
first_parts (Some (e ∷ ds, k)) c own b kind us ss (f, g) known d = absurd (subst (λ x. IsKnown (format x)) g known)

parts_in : (kind : Container) (us : Terms) (ss : List Standing) (c : ℕ) (b : List ℕ) → IsRow kind
    → ContainerData (format c) kind (count us) (StandWhole us ss) b → StandIn (container kind us) ss [] c b
parts_in list us ss c b is d = d
parts_in map us ss c b is d = d
parts_in array us ss c b is d = absurd is

-- the first bytes of its own, and the data
pub record Front (o : Option (List Descriptor × ℕ)) (t : Term) (s : List ℕ) : Type 0 where
  pub code : ℕ
  pub own : List ℕ
  pub data_ : List ℕ
  pub whole : s ≡ own ++ data_
  pub first : IsFirst o code own
  pub spelled : IsDataOf t [] code data_

front_own : (t : Term) (ds : List Descriptor) (c : ℕ) (first second s : List ℕ)
    → ((f : Descriptor) (ds : List Descriptor) (c : ℕ) (b : List ℕ) → IsDataOf t (f ∷ ds) c b → ⊥) → s ≡ first ++ second
    → Constructor ds c first → IsDataOf t ds c second → Front None t s
front_own t [] c first second s bare e k d = record { code = c; own = first; data_ = second; whole = e; first = k.0; spelled = d }
front_own t (f ∷ ds) c first second s bare e k d = absurd (bare f ds c second d)

pub front_of : (o : Option (List Descriptor × ℕ)) (t : Term) (s : List ℕ)
    → ((f : Descriptor) (ds : List Descriptor) (c : ℕ) (b : List ℕ) → IsDataOf t (f ∷ ds) c b → ⊥) → SpellsAs (standing o s) t → Front o t s
unfolding IsSpelling
front_of None t s bare (ds, c, few, (first, second, e, k, d)) = front_own t ds c first second s bare e k d
front_of (Some ([], k)) t s bare d = record { code = k; own = []; data_ = s; whole = refl; first = (refl, refl); spelled = d }
front_of (Some (f ∷ ds, k)) t s bare d = absurd (bare f ds k s d)

pub known : (F : Format) (kind : Container) (w : ℕ) → F ≡ compound kind w → IsKnown F
known F kind w e = subst IsKnown (sym e) tt

-- so many values count
abbrev pub counting : ℕ → State → State
counting all st = record st { quota = lower st.quota all }

-- the states on the way through a container of n bytes behind a header of h and the code's own bytes
pub closed_at : (st m after : State) (own h n one all : ℕ) → m ≡ after_value own one st → after ≡ after_data h m
    → counting all (after_data n after) ≡ after_value (own + h + n) (one + all) st
closed_at st m after own h n one all e f =
    ap (λ z. counting all (after_data n z)) f ∙ ap (counting all) (after_data-after_data h n m)
    ∙ ap (λ z. counting all (after_data (h + n) z)) e ∙ ap (counting all) (after_data-after_value own one (h + n) st)
    ∙ ap (λ k. counting all (after_value k one st)) (omega arith)
    ∙ ap (λ q. record (after_value (own + h + n) one st) { quota = q }) (lower-lower st.quota one all)

-- an inner bound that is used up
pub used_up : (o : Option ℕ) (n k : ℕ) → o ≡ Some n → Has o k → lower o k ≡ Some 0 → n ≡ k
used_up None n k e h f = absurd (cc)
used_up (Some l) n k e h f = omega (arith, ap (λ o. unwrap_or o 0) e, ap (λ o. unwrap_or o 0) f)

-- the container around one that was left
left_is : (p : Place) (n k b all content : ℕ) (last at new : State) (outer : Open) (others : List Open)
    → last ≡ many k b all (in_container p n content at) → last.saved ≡ outer ∷ others → new ≡ record last { top = outer; saved = others }
    → content ≡ b → new ≡ counting all (after_data b at)
left_is p n k b all content last at new outer others is saved moved same =
    let e = sym (ap (λ (z : State). z.saved) is) ∙ saved in
    let head : record at.top { left = lower at.top.left content } ≡ outer = ap (λ l. get_or l 0 at.top) e in
    let tail : at.saved ≡ others = ap (drop 1) e in
    moved ∙ ap (λ (z : State). record z { top = outer; saved = others }) is
    ∙ ap (λ o. record (many k b all (in_container p n content at)) { top = o; saved = others }) (sym head)
    ∙ ap (λ l. record (many k b all (in_container p n content at)) { top = record at.top { left = lower at.top.left content }; saved = l })
    (sym tail)
    ∙ ap (λ c. counting all (record at { rest = drop b at.rest; ahead = at.ahead - b; top = record at.top { left = lower at.top.left c } })) same

pub three : (own h b : List ℕ) → length (own ++ (h ++ b)) ≡ length own + length h + length b
three own h b = length-append own (h ++ b) ∙ ap (λ n. length own + n) (length-append h b) ∙ (omega arith)

-- a list or a map weighs one, and what its items do
row_weight : (kind : Container) (us : Terms) → IsRow kind → (s : Bool) → 1 + weights us false ≡ weight (container kind us) s
row_weight kind us is s =
    let one : 1 + weights us false ≡ suc (weights us false) = omega arith in
    one ∙ ap (λ z. suc (weights us z)) (sym (row_unshared kind is))

-- the items of a container stand in it as they were taken
pub whole_with_parts : (kind : Container) → IsRow kind → (st : State) (us : Terms) (new : State) (c : Contains kind st (items_of us) new)
    → NextWithParts st (container kind us) (row_standings c.mid (items_of us) c.bytes c.last c.items) new
whole_with_parts kind is st us new c =
    let o = c.opened in
    let d = o.data_ in
    let g = o.begun in
    let own = g.own in
    let b = c.bytes in
    let t = together us c.mid b c.last c.items in
    let n_is : c.count ≡ count us =
    used_up c.mid.top.items c.count (count us) (ap (λ (z : State). z.top.items) d.entered ∙ place_items kind c.count) t.items
    (sym (ap (λ (z : State). z.top.items) t.moved) ∙ c.closed.items) in
    let k_is : d.content ≡ length b =
    used_up c.mid.top.left d.content (length b) (ap (λ (z : State). z.top.left) d.entered) t.room
    (sym (ap (λ (z : State). z.top.left) t.moved) ∙ bound_left c.last.top 0 c.closed.left) in
    let h : ReadsHeader (is_list kind) o.width o.mid (count us) d.content d.mid =
    subst (λ n. ReadsHeader (is_list kind) o.width o.mid n d.content d.mid) n_is d.header in
    let head = bytes_high_first o.width h.size ++ bytes_high_first o.width (count us) in
    let code_is = known (format o.code) kind o.width o.announced in
    let one : counted_in st.top.shared o.code ≡ 1 = code_counts st.top.shared o.code own g.first code_is in
    let g_moved : o.mid ≡ after_value (length own) 1 st = g.moved ∙ ap (λ k. after_value (length own) k st) one in
    let at : State = after_data (length head) (after_value (length own) 1 st) in
    let at_is : d.mid ≡ at = h.took.moved ∙ ap (after_data (length head)) g_moved in
    let mid_is : c.mid ≡ in_container (place_of kind) c.count d.content at =
    d.entered ∙ ap (in_container (place_of kind) c.count d.content) at_is in
    let tk = subst (λ z. Takes z head d.mid) g_moved h.took in
    let first : Takes st own (after_data (length own) st) = record { room = g.room; rest = g.rest; moved = refl } in
    let second : Takes (after_data (length own) st) head (after_data (length head) (after_data (length own) st)) =
    record { room = tk.room; rest = tk.rest; moved = refl } in
    let third : Takes (after_data (length head) (after_data (length own) st)) b
    (after_data (length b) (after_data (length head) (after_data (length own) st))) = record {
      room = subst (Has at.top.left) k_is (subst (λ (z : State). Has z.top.left d.content) at_is d.room);
      rest = subst (λ (z : State). z.rest ≡ b ++ drop (length b) z.rest) mid_is t.rest;
      moved = refl;
    } in
    let all = took_both st _ _ own (head ++ b) first (took_both _ _ _ head b second third) in
    let data_of_content : (C : List ℕ → Type 0) → C b → ContainerData (format o.code) kind (count us) C (head ++ b) =
    λ C inner. split_container (format o.code) kind (count us) C (head ++ b) (record {
      width = o.width;
      size = h.size;
      content = b;
      announced = o.announced;
      sized = size_is kind o.width (count us) b d.content h.size is k_is h.counts;
      inner = inner;
      fits = h.fits;
      few = h.few;
      whole = append_assoc (bytes_high_first o.width h.size) (bytes_high_first o.width (count us)) b;
    }) in
    let unshared : c.mid.top.shared ≡ None = ap (λ (z : State). z.top.shared) d.entered in
    let ss = row_standings c.mid (items_of us) b c.last c.items in
    let items_in = data_of_content (items_spelled us) (all_items us b (row_spelled None us c.mid b c.last unshared c.items)) in
    let data_is = container_data kind us o.code (head ++ b) is (subst (IsCount kind) n_is d.count) items_in in
    let parts_are =
    parts_in kind us ss o.code (head ++ b) is
    (data_of_content (StandWhole us ss) (row_stands None us c.mid b c.last unshared c.items)) in
    let levels : length c.mid.saved ≡ suc (length st.saved) = ap (λ (z : State). length z.saved) mid_is in
    let limit : c.mid.nesting ≡ st.nesting = ap (λ (z : State). z.nesting) mid_is in
    let few : suc (length st.saved) ≤ st.nesting = subst (λ (z : State). suc (length z.saved) ≤ z.nesting) g.moved d.few in
    let begun : Has st.quota 1 = subst (Has st.quota) one g.few in
    let all_ = weights us false in
    let inside : Has (lower st.quota 1) all_ = subst (λ (z : State). Has z.quota (weights_at z us)) mid_is t.few in
    let sum : 1 + all_ ≡ weight_at st (container kind us) = row_weight kind us is (is_shared st.top.shared) in
    record {
      next = record {
        bytes = own ++ (head ++ b);
        stands = record {
          going = g.going;
          item = g.item;
          room = all.room;
          after = drop (length (own ++ (head ++ b))) st.rest;
          rest = all.rest;
          spelled = first_spelled st.top.shared o.code own (head ++ b) (container kind us) g.first code_is data_is;
          nested = omega (arith, t.nested, levels, limit, few, nest_container kind us is);
          few = subst (Has st.quota) sum (has_add st.quota 1 all_ begun inside);
        };
        moved = left_is (place_of kind) c.count (count us) (length b) all_ d.content c.last at new c.closed.outer c.closed.others
            (t.moved ∙ ap (λ (z : State). many (count us) (length b) (weights_at z us) z) mid_is) c.closed.saved c.closed.moved k_is
            ∙ closed_at st (after_value (length own) 1 st) at (length own) (length head) (length b) 1 all_ refl refl
            ∙ ap (λ k. after_value k (1 + all_) st) (sym (three own head b))
            ∙ ap (λ k. after_value (length (own ++ (head ++ b))) k st) sum;
      };
      parts = first_parts st.top.shared o.code own (head ++ b) kind us ss g.first code_is parts_are;
    }

pub whole : (kind : Container) → IsRow kind → (st : State) (us : Terms) (new : State) → Contains kind st (items_of us) new
    → Next st (container kind us) new
whole kind is st us new c = let h = whole_with_parts kind is st us new c in h.next

pub took_parts : (st m : State) (a b : List ℕ) → Takes st (a ++ b) m → Takes st a (after_data (length a) st)
    × Takes (after_data (length a) st) b (after_data (length b) (after_data (length a) st))
took_parts st m a b t =
    let x = drop (length (a ++ b)) st.rest in
    let r : st.rest ≡ a ++ (b ++ x) = t.rest ∙ append_assoc a b x in
    let behind : drop (length a) st.rest ≡ b ++ x = ap (drop (length a)) r ∙ drop_at a (b ++ x) (length a) refl in
    let room : Has st.top.left (length a + length b) = subst (Has st.top.left) (length-append a b) t.room in (
      record {
        room = has_front st.top.left (length a) (length b) room;
        rest = front_is a st.rest (b ++ x) (length a) refl r;
        moved = refl;
      },
      record {
        room = has_rest st.top.left (length a) (length b) room;
        rest = front_is b (drop (length a) st.rest) x (length b) refl behind;
        moved = refl;
      },
    )

pub parts : (kind : Container) → IsRow kind → (st : State) (us : Terms) (new : State) → Next st (container kind us) new
    → Contains kind st (items_of us) new
parts kind is st us new next =
    let k = next.stands in
    let f = front_of st.top.shared (container kind us) next.bytes (container_bare kind us) k.spelled in
    let c = data_container kind us f.code f.data_ is f.spelled in
    let x = container_split (format f.code) kind (count us) (items_spelled us) f.data_ c.1 in
    let own = f.own in
    let b = x.content in
    let n = count us in
    let head = bytes_high_first x.width x.size ++ bytes_high_first x.width n in
    let s_is : next.bytes ≡ own ++ (head ++ b) =
    f.whole ∙ ap (λ l. own ++ l) (x.whole ∙ sym (append_assoc (bytes_high_first x.width x.size) (bytes_high_first x.width n) b)) in
    let all : Takes st (own ++ (head ++ b)) (after_data (length (own ++ (head ++ b))) st) = record {
      room = subst (λ l. Has st.top.left (length l)) s_is k.room;
      rest = front_is (own ++ (head ++ b)) st.rest k.after (length (own ++ (head ++ b))) refl (k.rest ∙ ap (λ l. l ++ k.after) s_is);
      moved = refl;
    } in
    let one = took_parts st _ own (head ++ b) all in
    let two = took_parts _ _ head b one.1 in
    let code_is = known (format f.code) kind x.width x.announced in
    let one_ : counted_in st.top.shared f.code ≡ 1 = code_counts st.top.shared f.code own f.first code_is in
    let all_ = weights us false in
    let sum : 1 + all_ ≡ weight_at st (container kind us) = row_weight kind us is (is_shared st.top.shared) in
    let few_ : Has st.quota (1 + all_) = subst (Has st.quota) (sym sum) k.few in
    let at : State = after_data (length head) (after_value (length own) (counted_in st.top.shared f.code) st) in
    let mid : State = in_container (place_of kind) n (length b) at in
    let deep : suc (nests us) ≤ st.nesting - length st.saved =
    subst (λ m. m ≤ st.nesting - length st.saved) (nest_container kind us is) k.nested in
    let items_are : items_at (place_of kind) n ≡ Some n = place_items kind n in
    let whole_count : Has (Some n) n = omega arith in
    let all_bytes : Has (Some (length b)) (length b) = omega arith in
    let none_left : n - n ≡ 0 = omega arith in
    let none_over : length b - length b ≡ 0 = omega arith in
    record {
      count = n;
      mid = mid;
      opened = record {
        code = f.code;
        width = x.width;
        mid = after_value (length own) (counted_in st.top.shared f.code) st;
        begun = record {
          going = k.going;
          item = k.item;
          own = own;
          first = f.first;
          room = one.0.room;
          rest = one.0.rest;
          few = may_begin st.quota st.top.shared (container kind us) next.bytes f.code k.spelled k.few;
          moved = refl;
        };
        announced = x.announced;
        data_ = record {
          content = length b;
          mid = at;
          header = record {
            size = x.size;
            fits = x.fits;
            few = x.few;
            took = record { room = two.0.room; rest = two.0.rest; moved = refl };
            counts = is_size kind x.width n b x.size x.sized;
          };
          count = c.0;
          room = two.1.room;
          few = omega (arith, deep);
          entered = refl;
        };
      };
      bytes = b;
      last = many n (length b) all_ mid;
      items = row_of None us mid b _ k.going refl (subst (λ o. Has o n) (sym items_are) whole_count) all_bytes two.1.rest
          (items_all us b x.inner) (omega (arith, deep)) (subst (λ j. Has (lower st.quota j) all_) (sym one_)
          (has_rest st.quota 1 all_ few_));
      closed = record {
        going = k.going;
        here = refl;
        items = ap (λ o. lower o n) items_are ∙ ap Some none_left;
        left = ap Some none_over;
        outer = record at.top { left = lower at.top.left (length b) };
        others = at.saved;
        saved = refl;
        moved = next.moved ∙ ap (λ l. after_value (length l) (weight_at st (container kind us)) st) s_is
            ∙ ap (λ m. after_value m (weight_at st (container kind us)) st) (three own head b)
            ∙ ap (λ j. after_value (length own + length head + length b) j st) (sym sum ∙ ap (λ j. j + all_) (sym one_))
            ∙ sym (closed_at st (after_value (length own) (counted_in st.top.shared f.code) st) at (length own) (length head) (length b) (counted_in st.top.shared f.code)
            all_ refl refl);
      };
    }

-- one row, and another behind it
pub row_joined : (ts us : List Term) (a m z : State) (b c : List ℕ) → Row a ts b m → Row m us c z → Row a (ts ++ us) (b ++ c) z
row_joined [] us a m z b c (e, f) r = subst (λ x. Row a us (x ++ c) z) (sym e) (subst (λ x. Row x us c z) f r)
row_joined (t ∷ ts) us a m z b c (s, o, e, k, row) r =
    (s, o ++ c, ap (λ x. x ++ c) e ∙ append_assoc s o c, k, row_joined ts us (after_value (length s) (weight_at a t) a) m z o c row r)

pub row_of_one : (t : Term) (a z : State) (h : Next a t z) → Row a (t ∷ []) h.bytes z
row_of_one t a z h = (h.bytes, [], sym (append-nil h.bytes), h.stands, (refl, h.moved))
