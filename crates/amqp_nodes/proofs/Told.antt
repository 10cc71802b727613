-- The node that is told of a term.
use Rattle.std.proofs.Common.{◌≡◌, ℕ, ◌+◌, ◌<◌, ◌≤◌, ◌⊎◌, inl, inr, List, [], ◌∷◌, ◌++◌, take, drop, length, get_or, Some, refl, sym, ap, ap₂, ◌∙◌}
use Rattle.std.proofs.Common.{subst, subst₂, arith, append_assoc, append-nil}
use Rattle.std.proofs.Math.Seq.{take-append_seam, drop-append_seam}
use Rattle.std.proofs.lemmas.List.{take-append-drop, length-append, length-take-le}
use Rattle.std.specs.Int.{bytes_high_first}
use Rattle.amqp_model.specs.Term.{Primitive, Term, Terms, leaf, container, described, kept, barred, list, map, array, none, more, count, Container}
use Rattle.amqp_model.specs.Term.{Descriptor}
use Rattle.amqp_model.specs.Constructors.{Format, fixed, variable, compound, unknown, format}
use Rattle.amqp_model.specs.Spelling.{PrimitiveData, ContainerData, Names, Constructor, IsDataOf, AreItemsOf, AreElementsOf, AreSharedDataOf, IsSpelling, IsKnown}
use Rattle.amqp_model.proofs.Bytes.{length-bytes, field}
use Rattle.amqp_lengths.specs.Announced.{IsAnnounced}
use Rattle.amqp_lengths.specs.Fronts.{IsFront}
use Rattle.amqp_lengths.specs.Lengths.{IsTerm}
use Rattle.amqp_lengths.specs.Pieces.{value_of}
use Rattle.amqp_lengths.proofs.Announced.{announced_data, announced_once}
use Rattle.amqp_kinds.specs.declared.kind.Kind.TheVariants.{Array, List as ListKind, Map as MapKind, Described as DescribedKind}
use Rattle.amqp_kinds.specs.Kinds.{kind_at}
use Rattle.amqp_nodes.specs.Nodes.{kind_number, head_of, Announces, HoldsNone, HoldsTerms, HoldsItems, IsDataNode, IsBareNode}
use Rattle.amqp_nodes.specs.Nodes.{IsTermNode, BeginsWithTerm, BeginsWithItem}
use Rattle.amqp_nodes.specs.declared.nodes.Node.{Node}
use Rattle.amqp_kinds.specs.laws.Kind.{data_kind}
use Rattle.amqp_nodes.proofs.Shared.{heads}

-- What is known of a node that is made of data: where it stands, and how much its code announces. first: from the data's begin to the next node
pub record IsMade (c : ℕ) (bytes : List ℕ) (at first : ℕ) (node : Node) : Type 0 where
  pub kind : node.kind ≡ kind_number (kind_at c)
  pub code : node.code ≡ c
  pub starts : node.start ≡ at + head_of (format c)
  pub ends : node.end ≡ at + length bytes
  pub next : node.next ≡ at + first
  pub items : Announces (format c) bytes node.count
  pub no_items : node.count ≡ 0 → (node.item_code ≡ 0) × (first ≡ length bytes)
  pub array_items : 0 < node.count → kind_at c ≡ Array → (ds : List Descriptor) (d : ℕ) (own behind : List ℕ)
      → drop (head_of (format c)) bytes ≡ own ++ behind → Constructor ds d own → (node.item_code ≡ d) × (first ≡ head_of (format c) + length own)
  pub other_items : 0 < node.count → (kind_at c ≡ Array → ⊥) → head_of (format c) ≤ length bytes
      → (node.item_code ≡ 0) × (first ≡ head_of (format c))

-- what stands before the value of a primitive
abbrev Primitives : Format → Primitive → List ℕ → ℕ → Type 0
Primitives F p b n = (head content : List ℕ) × (b ≡ head ++ content) × (length head ≡ head_of F) × (value_of F content ≡ Some p) × (n ≡ 0)

primitive_parts : (F : Format) (p : Primitive) (b : List ℕ) (n : ℕ) → PrimitiveData F p b → Announces F b n → Primitives F p b n
primitive_parts (fixed w v) p b n h a = ([], b, refl, refl, h.1, a)
primitive_parts (variable w v) p b n (content, fits, is, value, ok) a =
    (bytes_high_first w (length content), content, is, length-bytes w (length content), value, a)
primitive_parts (compound k w) p b n h a = absurd h
primitive_parts unknown p b n h a = absurd h

-- what stands before the items of a container, whose number the node has
abbrev Contents : Format → ℕ → (List ℕ → Type 0) → List ℕ → ℕ → Type 0
Contents F m C b n = (head content : List ℕ) × (b ≡ head ++ content) × (length head ≡ head_of F) × C content × (n ≡ m)

container_parts : (F : Format) (k : Container) (m : ℕ) (C : List ℕ → Type 0) (b : List ℕ) (n : ℕ) → ContainerData F k m C b
    → Announces F b n → Contents F m C b n
container_parts (fixed w v) k m C b n h a = absurd h
container_parts (variable w v) k m C b n h a = absurd h
container_parts unknown k m C b n h a = absurd h
container_parts (compound j w) k m C b n (_, size, content, s, c, fits, room, is) a =
    let first = bytes_high_first w size in
    let second = bytes_high_first w m in
    let whole : b ≡ (first ++ second) ++ content = is ∙ sym (append_assoc first second content) in
    let long : length (first ++ second) ≡ w + w = length-append first second ∙ ap₂ (λ x y. x + y) (length-bytes w size) (length-bytes w m) in
    let counted : take w (drop w b) ≡ second =
    ap (λ x. take w (drop w x)) is ∙ ap (take w) (ap (λ x. drop x (first ++ (second ++ content))) (sym (length-bytes w size))
    ∙ drop-append_seam first (second ++ content)) ∙ ap (λ x. take x (second ++ content)) (sym (length-bytes w m)) ∙ take-append_seam second content in
    (first ++ second, content, whole, long, c, same counted (ap length whole ∙ length-append (first ++ second) content) long a)
  where
    same : take w (drop w b) ≡ bytes_high_first w m → length b ≡ length (bytes_high_first w size ++ bytes_high_first w m) + length content
        → length (bytes_high_first w size ++ bytes_high_first w m) ≡ w + w → Announces (compound j w) b n → n ≡ m
    same counted all long (inl (fits', is')) =
        (field w n m [] [] fits' room (append-nil (bytes_high_first w n) ∙ sym is' ∙ counted ∙ sym (append-nil (bytes_high_first w m)))).0
    same counted all long (inr (few, nothing)) = absurd (omega (arith, all, long))

held_none : (c : ℕ) (b : List ℕ) (at first : ℕ) (node : Node) → IsMade c b at first node → node.count ≡ 0 → HoldsNone node
held_none c b at first node m e = record {
  no_others = e;
  no_items = (m.no_items e).0;
  next = m.next ∙ ap (λ x. at + x) (m.no_items e).1 ∙ sym m.ends;
}

held_terms : (ts : Terms) (c : ℕ) (b head content : List ℕ) (at first : ℕ) (node : Node) → IsMade c b at first node → b ≡ head ++ content
    → length head ≡ head_of (format c) → (kind_at c ≡ Array → ⊥) → node.count ≡ count ts → AreItemsOf ts content → HoldsTerms ts content node
held_terms none c b head content at first node m is long other all h =
    let start = m.starts in
    let end = m.ends in
    let stop = m.next in
    let none_ = m.no_items all in
    record {
      terms = h;
      all = all;
      no_items = none_.0;
      next = omega (arith, start, stop, none_.1, ap length is, length-append head content, ap length h, long);
    }
held_terms (more t ts) c b head content at first node m is long other all h =
    let start = m.starts in
    let stop = m.next in
    let some : 0 < node.count = omega (arith, all) in
    let room : head_of (format c) ≤ length b = omega (arith, ap length is, length-append head content, long) in
    let found = m.other_items some other room in
    record { terms = h; all = all; no_items = found.0; next = omega (arith, start, stop, found.1) }

held_items : (t : Term) (ts : Terms) (c : ℕ) (b head content : List ℕ) (at first : ℕ) (node : Node) → IsMade c b at first node
    → b ≡ head ++ content → length head ≡ head_of (format c) → kind_at c ≡ Array → node.count ≡ count (more t ts)
    → AreElementsOf (more t ts) content → HoldsItems (more t ts) content node
held_items t ts c b head content at first node m is long kind all (ds, d, few, (own, behind, e, k, (wide, items))) =
    let start = m.starts in
    let stop = m.next in
    let some : 0 < node.count = omega (arith, all) in
    let place : drop (head_of (format c)) b ≡ own ++ behind =
    ap₂ drop (sym long) is ∙ drop-append_seam head content ∙ e in
    let found = m.array_items some kind ds d own behind place k in
    record {
      descriptors = ds;
      own = own;
      behind = behind;
      is = e;
      constructor = subst (λ z. Constructor ds z own) (sym found.0) k;
      items = subst (λ z. AreSharedDataOf (more t ts) ds z behind) (sym found.0) items;
      all = all;
      next = omega (arith, start, stop, found.1);
    }

list_array : ListKind ≡ Array → ⊥
list_array e = cc

map_array : MapKind ≡ Array → ⊥
map_array e = cc

pub data_node : (t : Term) (c : ℕ) (b : List ℕ) (at first : ℕ) (node : Node) → IsMade c b at first node → IsDataOf t [] c b
    → IsDataNode t c b at node
data_node (leaf p) c b at first node m h =
    let (head, content, is, long, value, none_) = primitive_parts (format c) p b node.count h m.items in
    record {
      kind = m.kind ∙ ap kind_number (data_kind (leaf p) c b h);
      code = m.code;
      head = head;
      content = content;
      is = is;
      size = long;
      starts = m.starts ∙ ap (λ x. at + x) (sym long);
      ends = m.ends;
      holds = (subst (λ z. value_of (format z) content ≡ Some p) (sym m.code) value, held_none c b at first node m none_);
    }
data_node (container list ts) c b at first node m h =
    let (head, content, is, long, items, all) = container_parts (format c) list (count ts) (AreItemsOf ts) b node.count h m.items in
    let kind = data_kind (container list ts) c b h in
    record {
      kind = m.kind ∙ ap kind_number kind;
      code = m.code;
      head = head;
      content = content;
      is = is;
      size = long;
      starts = m.starts ∙ ap (λ x. at + x) (sym long);
      ends = m.ends;
      holds = held_terms ts c b head content at first node m is long (λ e. list_array (sym kind ∙ e)) all items;
    }
data_node (container map ts) c b at first node m h =
    let (head, content, is, long, items, all) = container_parts (format c) map (count ts) (AreItemsOf ts) b node.count h.1 m.items in
    let kind = data_kind (container map ts) c b h in
    record {
      kind = m.kind ∙ ap kind_number kind;
      code = m.code;
      head = head;
      content = content;
      is = is;
      size = long;
      starts = m.starts ∙ ap (λ x. at + x) (sym long);
      ends = m.ends;
      holds = held_terms ts c b head content at first node m is long (λ e. map_array (sym kind ∙ e)) all items;
    }
data_node (container array none) c b at first node m h =
    let (head, content, is, long, items, all) = container_parts (format c) array 0 (AreElementsOf none) b node.count h m.items in
    record {
      kind = m.kind ∙ ap kind_number (data_kind (container array none) c b h);
      code = m.code;
      head = head;
      content = content;
      is = is;
      size = long;
      starts = m.starts ∙ ap (λ x. at + x) (sym long);
      ends = m.ends;
      holds = held_none c b at first node m all;
    }
data_node (container array (more t ts)) c b at first node m h =
    let (head, content, is, long, items, all) =
    container_parts (format c) array (count (more t ts)) (AreElementsOf (more t ts)) b node.count h m.items in
    let kind = data_kind (container array (more t ts)) c b h in
    record {
      kind = m.kind ∙ ap kind_number kind;
      code = m.code;
      head = head;
      content = content;
      is = is;
      size = long;
      starts = m.starts ∙ ap (λ x. at + x) (sym long);
      ends = m.ends;
      holds = held_items t ts c b head content at first node m is long kind all items;
    }
data_node (described d t) c b at first node m h = absurd h
data_node (kept x) c b at first node m h = absurd h
data_node (barred r) c b at first node m h = absurd h

-- the first byte of a term, and what stands behind it
abbrev Bare : Term → List ℕ → Type 0
Bare t b = (c : ℕ) × (others : List ℕ) × (b ≡ c ∷ others) × IsDataOf t [] c others × IsKnown (format c)

abbrev Described : Term → List ℕ → Type 0
Described t b =
    (d : Descriptor) × (u : Term) × (first second : List ℕ) × (t ≡ described d u) × (b ≡ 0 ∷ (first ++ second)) × Names d first × IsSpelling second u

under : (t : Term) (d : Descriptor) (ds : List Descriptor) (c : ℕ) (b : List ℕ) → IsDataOf t (d ∷ ds) c b
    → (u : Term) × (t ≡ described d u) × IsDataOf u ds c b
under (described e t) d ds c b h = (t, ap (λ x. described x t) h.0, h.1)
under (leaf p) d ds c b h = absurd h
under (container list ts) d ds c b h = absurd h
under (container map ts) d ds c b h = absurd h
under (container array ts) d ds c b h = absurd h
under (kept x) d ds c b h = absurd h
under (barred r) d ds c b h = absurd h

opened : (t : Term) (b : List ℕ) → IsSpelling b t → Bare t b ⊎ Described t b
unfolding IsSpelling
opened t b ([], c, few, (own, others, e, k, h)) = inl (c, others, e ∙ ap (λ x. x ++ others) k.0, h, k.1)
opened t b (d ∷ ds, c, few, (own, others, e, (first, second, is, n, k), h)) =
    let (u, same, g) = under t d ds c others h in
    inr (
      d,
      u,
      first,
      second ++ others,
      same,
      e ∙ ap (λ x. x ++ others) is ∙ ap (λ x. 0 ∷ x) (append_assoc first second others),
      n,
      (ds, c, omega (arith, few), (second, others, refl, k, g)),
    )

pub term_some : (t : Term) (b : List ℕ) → IsSpelling b t → 1 ≤ length b
term_some t b h = by_first (opened t b h)
  where
    by_first : Bare t b ⊎ Described t b → 1 ≤ length b
    by_first (inl (c, others, is, g, k)) = omega (arith, ap length is)
    by_first (inr (d, u, first, second, same, is, n, g)) = omega (arith, ap length is)

bare_node : (t : Term) (c : ℕ) (others b : List ℕ) (at : ℕ) (node : Node) → IsDataOf t [] c others → IsBareNode t b at node → IsTermNode t b at node
bare_node (leaf p) c others b at node h g = g
bare_node (container k ts) c others b at node h g = g
bare_node (described d t) c others b at node h g = absurd h
bare_node (kept x) c others b at node h g = absurd h
bare_node (barred r) c others b at node h g = absurd h

front_node : (bytes : List ℕ) (len at : ℕ) (node : Node) (f : IsFront (IsTerm 128) bytes len) → IsTermNode f.spelled.0 (take len bytes) at node
    → BeginsWithTerm bytes at node
front_node bytes len at node f h = record {
  term = f.spelled.0;
  front = take len bytes;
  after = drop len bytes;
  is = sym (take-append-drop len bytes);
  spelled = f.spelled.1;
  nests = f.spelled.2;
  told = h;
}

-- a term that begins with no 0
pub bare_told : (bytes : List ℕ) (len at : ℕ) (node : Node) (code : ℕ) (data_ : List ℕ) → IsFront (IsTerm 128) bytes len
    → take len bytes ≡ code ∷ data_ → (code ≡ 0 → ⊥) → ((t : Term) → IsDataOf t [] code data_ → IsDataNode t code data_ (at + 1) node)
    → BeginsWithTerm bytes at node
bare_told bytes len at node code data_ f is some told =
    front_node bytes len at node f (by_first f.spelled.0 (opened f.spelled.0 (take len bytes) f.spelled.1))
  where
    by_first : (t : Term) → Bare t (take len bytes) ⊎ Described t (take len bytes) → IsTermNode t (take len bytes) at node
    by_first t (inl (c, others, e, h, k)) =
        let same = heads code c data_ others (sym is ∙ e) in
        let own : IsDataOf t [] code data_ = subst₂ (λ x y. IsDataOf t [] x y) (sym same.0) (sym same.1) h in
        bare_node t code data_ (take len bytes) at node own
        (record { first = code; others = data_; is = is; spelled = own; told = told t own })
    by_first t (inr (d, u, first, second, e, b, n, h)) = absurd (some (heads code 0 data_ (first ++ second) (sym is ∙ b)).0)

-- a described value
pub record IsTwo (at len : ℕ) (node : Node) : Type 0 where
  pub kind : node.kind ≡ kind_number DescribedKind
  pub code : node.code ≡ 0
  pub starts : node.start ≡ at + 1
  pub ends : node.end ≡ at + len
  pub two : node.count ≡ 2
  pub no_items : node.item_code ≡ 0
  pub next : node.next ≡ at + 1

pub described_told : (bytes : List ℕ) (len at : ℕ) (node : Node) → IsFront (IsTerm 128) bytes len → get_or (take len bytes) 0 0 ≡ 0
    → IsTwo at len node → BeginsWithTerm bytes at node
described_told bytes len at node f zero_ two =
    front_node bytes len at node f (by_first f.spelled.0 (opened f.spelled.0 (take len bytes) f.spelled.1))
  where
    by_first : (t : Term) → Bare t (take len bytes) ⊎ Described t (take len bytes) → IsTermNode t (take len bytes) at node
    by_first t (inl (c, others, e, h, k)) =
        absurd (subst (λ z. IsKnown (format z)) (sym (ap (λ l. get_or l 0 0) e) ∙ zero_) k)
    by_first t (inr (d, u, first, second, e, b, n, h)) =
        subst (λ t. IsTermNode t (take len bytes) at node) (sym e) (record {
          kind = two.kind;
          code = two.code;
          content = first ++ second;
          is = b;
          starts = two.starts;
          ends = two.ends ∙ ap (λ x. at + x) (sym (length-take-le len bytes f.within));
          two = two.two;
          no_items = two.no_items;
          next = two.next ∙ sym two.starts;
          holds = (first, second, refl, n, h);
        })

-- an item of an array
pub item_told : (c : ℕ) (bytes : List ℕ) (len at : ℕ) (node : Node) → IsFront (IsAnnounced (format c)) bytes len → node.code ≡ c
    → node.start ≡ at + head_of (format c) → node.end ≡ at + length (take len bytes) → Announces (format c) (take len bytes) node.count
    → ((t : Term) → IsDataOf t [] c (take len bytes) → IsDataNode t c (take len bytes) at node) → BeginsWithItem c bytes at node
item_told c bytes len at node f code starts ends items told = record {
  front = take len bytes;
  after = drop len bytes;
  is = sym (take-append-drop len bytes);
  announced = f.spelled;
  code = code;
  starts = starts;
  ends = ends;
  items = items;
  term = λ t own behind is h.
      let same : take len bytes ≡ own =
      announced_once (format c) (take len bytes) own (drop len bytes) behind f.spelled (announced_data t [] c own h)
      (take-append-drop len bytes ∙ is) in
      subst (λ b. IsDataNode t c b at node) same (told t (subst (λ b. IsDataOf t [] c b) (sym same) h));
}
