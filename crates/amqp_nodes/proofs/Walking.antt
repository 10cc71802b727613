-- What walks meet.
use Rattle.std.proofs.Common.{◌≡◌, ℕ, suc, ◌+◌, ◌-◌, ◌≤◌, ◌⊎◌, inl, inr, Bool, true, false, cond, eqb, List, [], ◌∷◌, ◌++◌, take, drop, length}
use Rattle.std.proofs.Common.{refl, sym, ap, ◌∙◌, subst, arith, append_assoc, append-nil}
use Rattle.std.proofs.Math.Seq.{take-append_seam, drop-append_seam, drop-drop}
use Rattle.std.proofs.lemmas.Bool.{eqb-true, eqb-false}
use Rattle.std.proofs.lemmas.List.{take-append-drop, take_all, length-append, length-drop, length-take-le}
use Rattle.amqp_wire.specs.declared.error.Error.{Error}
use Rattle.amqp_model.specs.Term.{Term, Terms, leaf, container, described, kept, barred, list, map, array, none, more, count, Descriptor}
use Rattle.amqp_model.specs.Spelling.{Spelled, descriptor_value, IsDataOf, AreItemsOf, AreSharedDataOf, IsSpelling}
use Rattle.amqp_model.specs.Measures.{nest, nests, array_nest}
use Rattle.amqp_model.specs.Refusals.{core}
use Rattle.amqp_model.proofs.Unique.{one_front, one_term}
use Rattle.amqp_nodes.specs.Nodes.{array_number, HoldsNone, HoldsTerms, IsDataNode, IsBareNode, IsTermNode, BeginsWithTerm}
use Rattle.amqp_nodes.specs.Nodes.{IsWithin, IsNode, IsNoNode, IsNoPart, bytes_at, reach_of}
use Rattle.amqp_nodes.specs.Walks.{nothing, each, cores, parts_of, StandsIn, StandIn, IsNodeOf, Walks, stops, goes_on, IsMet, AreOf, of_none, of_more}
use Rattle.amqp_nodes.specs.declared.nodes.Node.{Node}
use Rattle.amqp_nodes.proofs.Shared.{named_term}

-- what stands behind some of the bytes at a place
spanned : (input x y after : List ℕ) (at n : ℕ) → take n (drop at input) ≡ (x ++ y) ++ after → take (length y) (drop (at + length x) input) ≡ y
spanned input x y after at n e =
    let r = drop n (drop at input) in
    let whole : drop at input ≡ x ++ (y ++ (after ++ r)) =
    sym (take-append-drop n (drop at input)) ∙ ap (λ l. l ++ r) e ∙ append_assoc (x ++ y) after r ∙ append_assoc x y (after ++ r) in
    ap (take (length y)) (sym (drop-drop (length x) at input) ∙ ap (drop (length x)) whole ∙ drop-append_seam x (y ++ (after ++ r)))
    ∙ take-append_seam y (after ++ r)

size_at : (input bytes : List ℕ) (at : ℕ) (around : Node) → IsWithin input at around → bytes_at input at around ≡ bytes
    → at + length bytes ≡ reach_of input around
size_at input bytes at around w e =
    let n = reach_of input around - at in
    let room : n ≤ length (drop at input) = omega (arith, w, length-drop at input) in
    omega (arith, w, length-take-le n (drop at input) room, ap length e)

-- in the same node
pub behind : (input x y : List ℕ) (at next : ℕ) (around : Node) → IsWithin input at around → bytes_at input at around ≡ x ++ y
    → next ≡ at + length x → IsWithin input next around × (bytes_at input next around ≡ y)
behind input x y at next around w e is =
    let all = size_at input (x ++ y) at around w e in
    let long = length-append x y in
    let size : reach_of input around - next ≡ length y = omega (arith, all, long, is) in
    let found = spanned input x y [] at (reach_of input around - at) (e ∙ sym (append-nil (x ++ y))) in
    let room : next ≤ reach_of input around = omega (arith, all, long, is) in (
      (room, w.1),
      ap (λ n. take n (drop next input)) size ∙ ap (λ n. take (length y) (drop n input)) is ∙ found,
    )

reach_node : (input : List ℕ) (node : Node) → (node.kind ≡ 0 → ⊥) → reach_of input node ≡ node.end
reach_node input node some = by_test (eqb node.kind 0) refl
  where
    by_test : (t : Bool) → eqb node.kind 0 ≡ t → cond t (length input) node.end ≡ node.end
    by_test true e = absurd (some (eqb-true node.kind 0 e))
    by_test false e = refl

-- in a node that these bytes begin with
inside : (input x y after : List ℕ) (at : ℕ) (around node : Node) → IsWithin input at around → bytes_at input at around ≡ (x ++ y) ++ after
    → (node.kind ≡ 0 → ⊥) → node.end ≡ at + length (x ++ y) → node.next ≡ at + length x
    → IsWithin input node.next node × (bytes_at input node.next node ≡ y)
inside input x y after at around node w e some ends next =
    let all = size_at input ((x ++ y) ++ after) at around w e in
    let long = length-append x y in
    let longer = length-append (x ++ y) after in
    let reach = reach_node input node some in
    let size : reach_of input node - node.next ≡ length y = omega (arith, reach, ends, next, long) in
    let found = spanned input x y after at (reach_of input around - at) e in
    let before : node.next ≤ reach_of input node = omega (arith, reach, ends, next, long) in
    let room : reach_of input node ≤ length input = omega (arith, reach, ends, all, longer, w) in (
      (before, room),
      ap (λ n. take n (drop node.next input)) size ∙ ap (λ n. take (length y) (drop n input)) next ∙ found,
    )

each_count : (ts : Terms) → count ts ≡ length (each ts)
each_count none = refl
each_count (more t ts) = ap suc (each_count ts)

cores_count : (ts : Terms) → count ts ≡ length (cores ts)
cores_count none = refl
cores_count (more t ts) = ap suc (cores_count ts)

-- items of a list or map
spelled_alone : (t : Term) (b : List ℕ) → Spelled (λ ds c. IsDataOf t ds c) b → IsSpelling b t
unfolding IsSpelling
spelled_alone t b h = h

each_in : (around : Node) (ts : Terms) (b : List ℕ) → (around.kind ≡ array_number → ⊥) → AreItemsOf ts b → nests ts ≤ 128 → StandIn around (each ts) b
each_in around none b other h deep = h
each_in around (more t ts) b other (first, second, e, k, w) deep = (
  first,
  second,
  e,
  record { term = λ _. spelled_alone t first k; item = λ a. absurd (other a); nests = omega (arith, deep) },
  each_in around ts second other w (omega (arith, deep)),
)

-- items of an array
core_data : (t : Term) (ds : List Descriptor) (c : ℕ) (b : List ℕ) → IsDataOf t ds c b → IsDataOf (core t) [] c b
core_data (described d t) (e ∷ ds) c b h = core_data t ds c b h.1
core_data (described d t) [] c b h = absurd h
core_data (leaf p) [] c b h = h
core_data (container k ts) [] c b h = h
core_data (kept x) ds c b h = absurd h
core_data (barred r) ds c b h = absurd h
core_data (leaf p) (e ∷ ds) c b h = absurd h
core_data (container list ts) (e ∷ ds) c b h = absurd h
core_data (container map ts) (e ∷ ds) c b h = absurd h
core_data (container array ts) (e ∷ ds) c b h = absurd h

core_nest : (t : Term) → nest (core t) ≤ nest t
core_nest (described d t) = omega (arith, core_nest t)
core_nest (leaf p) = omega arith
core_nest (container k ts) = omega arith
core_nest (kept x) = omega arith
core_nest (barred r) = omega arith

nests_array : (ts : Terms) → nests ts ≤ array_nest ts
nests_array none = omega arith
nests_array (more (leaf p) ts) = omega (arith, nests_array ts)
nests_array (more (container k us) ts) = omega arith
nests_array (more (described d t) ts) = omega arith
nests_array (more (kept x) ts) = omega (arith, nests_array ts)
nests_array (more (barred r) ts) = omega (arith, nests_array ts)

cores_in : (around : Node) (ts : Terms) (ds : List Descriptor) (b : List ℕ) → around.kind ≡ array_number
    → AreSharedDataOf ts ds around.item_code b → nests ts ≤ 128 → StandIn around (cores ts) b
cores_in around none ds b is h deep = h
cores_in around (more t ts) ds b is (first, second, e, k, w) deep = (
  first,
  second,
  e,
  record {
    term = λ other. absurd (other is);
    item = λ _. core_data t ds around.item_code first k;
    nests = omega (arith, deep, core_nest t);
  },
  cores_in around ts ds second is w (omega (arith, deep)),
)

-- Of a node that so many bytes are at a place, where the parts of its term stand in them.
record HasParts (t : Term) (bytes : List ℕ) (at : ℕ) (node : Node) : Type 0 where
  before : List ℕ
  parts : List ℕ
  is : bytes ≡ before ++ parts
  some : node.kind ≡ 0 → ⊥
  ends : node.end ≡ at + length bytes
  next : node.next ≡ at + length before
  all : node.count ≡ length (parts_of t)
  stand : StandIn node (parts_of t) parts

empty_parts : (t : Term) (c : ℕ) (bytes : List ℕ) (at : ℕ) (node : Node) → IsDataNode t c bytes at node → HoldsNone node → parts_of t ≡ []
    → HasParts t bytes at node
empty_parts t c bytes at node told h e = record {
  before = bytes;
  parts = [];
  is = sym (append-nil bytes);
  some = λ z. let k = told.kind in absurd (omega (arith, k, z));
  ends = told.ends;
  next = h.next ∙ told.ends;
  all = h.no_others ∙ ap length (sym e);
  stand = subst (λ ts. StandIn node ts []) (sym e) refl;
}

terms_parts : (t : Term) (ts : Terms) (c : ℕ) (bytes : List ℕ) (at : ℕ) (node : Node) (told : IsDataNode t c bytes at node)
    → HoldsTerms ts told.content node → parts_of t ≡ each ts → (node.kind ≡ array_number → ⊥) → nests ts ≤ 128 → HasParts t bytes at node
terms_parts t ts c bytes at node told h e other deep = record {
  before = told.head;
  parts = told.content;
  is = told.is;
  some = λ z. let k = told.kind in absurd (omega (arith, k, z));
  ends = told.ends;
  next = h.next ∙ told.starts;
  all = h.all ∙ each_count ts ∙ ap length (sym e);
  stand = subst (λ us. StandIn node us told.content) (sym e) (each_in node ts told.content other h.terms deep);
}

data_parts : (t : Term) (c : ℕ) (bytes : List ℕ) (at : ℕ) (node : Node) → IsDataNode t c bytes at node → nest t ≤ 128 → HasParts t bytes at node
data_parts (leaf p) c bytes at node told deep = empty_parts (leaf p) c bytes at node told told.holds.1 refl
data_parts (container list ts) c bytes at node told deep =
    let kind : node.kind ≡ 21 = told.kind in
    terms_parts (container list ts) ts c bytes at node told told.holds refl (λ a. absurd (omega (arith, kind, a))) (omega (arith, deep))
data_parts (container map ts) c bytes at node told deep =
    let kind : node.kind ≡ 22 = told.kind in
    terms_parts (container map ts) ts c bytes at node told told.holds refl (λ a. absurd (omega (arith, kind, a))) (omega (arith, deep))
data_parts (container array none) c bytes at node told deep = empty_parts (container array none) c bytes at node told told.holds refl
data_parts (container array (more t ts)) c bytes at node told deep =
    let h = told.holds in
    record {
      before = told.head ++ h.own;
      parts = h.behind;
      is = told.is ∙ ap (λ l. told.head ++ l) h.is ∙ sym (append_assoc told.head h.own h.behind);
      some = λ z. let k = told.kind in absurd (omega (arith, k, z));
      ends = told.ends;
      next = let n = h.next in let s = told.starts in omega (arith, n, s, length-append told.head h.own);
      all = h.all ∙ cores_count (more t ts);
      stand = cores_in node (more t ts) h.descriptors h.behind told.kind h.items (omega (arith, deep, nests_array (more t ts)));
    }
data_parts (described d t) c bytes at node told deep = absurd told.holds
data_parts (kept x) c bytes at node told deep = absurd told.holds
data_parts (barred r) c bytes at node told deep = absurd told.holds

bare_parts : (t : Term) (bytes : List ℕ) (at : ℕ) (node : Node) → IsBareNode t bytes at node → nest t ≤ 128 → HasParts t bytes at node
bare_parts t bytes at node told deep =
    let h = data_parts t told.first told.others (at + 1) node told.told deep in
    record {
      before = told.first ∷ h.before;
      parts = h.parts;
      is = told.is ∙ ap (λ l. told.first ∷ l) h.is;
      some = h.some;
      ends = let e = h.ends in omega (arith, e, ap length told.is);
      next = let n = h.next in omega (arith, n);
      all = h.all;
      stand = h.stand;
    }

term_parts : (t : Term) (bytes : List ℕ) (at : ℕ) (node : Node) → IsTermNode t bytes at node → nest t ≤ 128 → HasParts t bytes at node
term_parts (leaf p) bytes at node told deep = bare_parts (leaf p) bytes at node told deep
term_parts (container k ts) bytes at node told deep = bare_parts (container k ts) bytes at node told deep
term_parts (kept x) bytes at node told deep = bare_parts (kept x) bytes at node told deep
term_parts (barred r) bytes at node told deep = bare_parts (barred r) bytes at node told deep
term_parts (described d t) bytes at node told deep =
    let (first, second, e, n, k) = told.holds in
    let kind : node.kind ≡ 20 = told.kind in
    let other : node.kind ≡ array_number → ⊥ = λ a. absurd (omega (arith, kind, a)) in
    let own : StandsIn node (leaf (descriptor_value d)) first =
    record { term = λ _. named_term d first n; item = λ a. absurd (other a); nests = omega arith } in
    let value : StandsIn node t second = record { term = λ _. k; item = λ a. absurd (other a); nests = omega (arith, deep) } in
    record {
      before = 0 ∷ [];
      parts = told.content;
      is = told.is;
      some = λ z. absurd (omega (arith, kind, z));
      ends = told.ends;
      next = told.next ∙ told.starts;
      all = told.two;
      stand = (first, second, e, own, (second, [], sym (append-nil second), value, refl));
    }

pub is_same : (n m : ℕ) → (n ≡ m) ⊎ (n ≡ m → ⊥)
is_same n m = by_test (eqb n m) refl
  where
    by_test : (t : Bool) → eqb n m ≡ t → (n ≡ m) ⊎ (n ≡ m → ⊥)
    by_test true e = inl (eqb-true n m e)
    by_test false e = inr (eqb-false n m e)

of_parts : (around : Node) (t : Term) (b : List ℕ) (at : ℕ) (node : Node) → IsNodeOf around t b at node → nest t ≤ 128 → HasParts t b at node
of_parts around t b at node told deep = by_kind (is_same around.kind array_number)
  where
    by_kind : (around.kind ≡ array_number) ⊎ (around.kind ≡ array_number → ⊥) → HasParts t b at node
    by_kind (inl is) = data_parts t around.item_code b at node (told.item is) deep
    by_kind (inr other) = term_parts t b at node (told.term other) deep

-- the parts of a term stand in its node
abbrev pub Inside : List ℕ → Term → Node → Type 0
Inside input t node = (node.count ≡ length (parts_of t)) × IsWithin input node.next node × StandIn node (parts_of t) (bytes_at input node.next node)

pub parts_stand : (input b after : List ℕ) (at : ℕ) (around node : Node) (t : Term) → bytes_at input at around ≡ b ++ after → StandsIn around t b
    → IsNode input at around node → IsNodeOf around t b at node → Inside input t node
parts_stand input b after at around node t e stands told is =
    let h = of_parts around t b at node is stands.nests in
    let whole : bytes_at input at around ≡ (h.before ++ h.parts) ++ after = e ∙ ap (λ l. l ++ after) h.is in
    let ends : node.end ≡ at + length (h.before ++ h.parts) = h.ends ∙ ap (λ l. at + length l) h.is in
    let (within, same) = inside input h.before h.parts after at around node told.within whole h.some ends h.next in
    (h.all, within, subst (λ l. StandIn node (parts_of t) l) (sym same) h.stand)

-- the node of a term that stands there
begun : (bytes b after : List ℕ) (at : ℕ) (node : Node) (t : Term) → bytes ≡ b ++ after → IsSpelling b t → BeginsWithTerm bytes at node
    → IsTermNode t b at node
begun bytes b after at node t e h g =
    let whole : g.front ++ g.after ≡ b ++ after = sym g.is ∙ e in
    let front = one_front g.front b g.after after g.term t g.spelled h whole in
    let same = one_term g.front b g.after after g.term t g.spelled h whole in
    subst (λ t. IsTermNode t b at node) same (subst (λ l. IsTermNode g.term l at node) front g.told)

pub node_there : (input b after : List ℕ) (at : ℕ) (around node : Node) (t : Term) → bytes_at input at around ≡ b ++ after → StandsIn around t b
    → IsNode input at around node → IsNodeOf around t b at node
node_there input b after at around node t e stands told = record {
  term = λ other. begun (bytes_at input at around) b after at node t e (stands.term other) (told.part.term other);
  item = λ is. (told.part.item is).term t b after e (stands.item is);
}

abbrev pub Goes : List ℕ → Node → ℕ → Term → List Term → Node → Type 0
Goes input around at t ts node =
    (b : List ℕ) × IsNodeOf around t b at node × IsWithin input node.end around × StandIn around ts (bytes_at input node.end around)

pub others_stand : (input : List ℕ) (at : ℕ) (around node : Node) (t : Term) (ts : List Term) → StandIn around (t ∷ ts) (bytes_at input at around)
    → IsNode input at around node → Goes input around at t ts node
others_stand input at around node t ts (first, second, e, stands, others) told =
    let is = node_there input first second at around node t e stands told in
    let h = of_parts around t first at node is stands.nests in
    let (within, same) = behind input first second at node.end around told.within e h.ends in
    (first, is, within, subst (λ l. StandIn around ts l) (sym same) others)

-- a term that stands there isn't refused
unrefused : (around : Node) (bytes b after : List ℕ) (t : Term) (e : Error) → bytes ≡ b ++ after → StandsIn around t b → IsNoPart around bytes e → ⊥
unrefused around bytes b after t e is stands h = by_kind (is_same around.kind array_number)
  where
    by_kind : (around.kind ≡ array_number) ⊎ (around.kind ≡ array_number → ⊥) → ⊥
    by_kind (inl same) = (h.item same).none t b after is (stands.item same)
    by_kind (inr other) = (h.term other).0 b after is (t, stands.term other, stands.nests)

pub goes_so : (input : List ℕ) (at : ℕ) (around : Node) (t : Term) (ts : List Term) (e : Error) → StandIn around (t ∷ ts) (bytes_at input at around)
    → IsWithin input at around → IsNoNode input at around e → ⊥
goes_so input at around t ts e (first, second, is, stands, others) within (inl (outside, cut)) = outside within
goes_so input at around t ts e (first, second, is, stands, others) within (inr h) =
    unrefused around (bytes_at input at around) first second t e is stands h

pub stops_so : (input : List ℕ) (at : ℕ) (around : Node) → bytes_at input at around ≡ [] → IsWithin input at around → at ≡ reach_of input around
stops_so input at around e within = let all = size_at input [] at around within e in omega (arith, all)

met_there : (input b after : List ℕ) (at : ℕ) (around node : Node) (t : Term) → bytes_at input at around ≡ b ++ after → StandsIn around t b
    → IsNodeOf around t b at node → IsMet input t node
met_there input b after at around node t e stands told =
    record { around = around; at = at; front = b; after = after; is = e; stands = stands; told = told }

-- a walk meets each once
pub met : (input : List ℕ) (around : Node) (at n : ℕ) (told : List Node) (ts : List Term) → n ≡ length ts
    → StandIn around ts (bytes_at input at around) → Walks input around at n told → AreOf input ts told
met input around at n told [] e h (stops a p) = of_none
met input around at n told (t ∷ ts) e h (stops a p) = absurd (omega (arith, e))
met input around at n told [] e h (goes_on a node p left inner later is w v) = absurd (omega (arith, e))
met input around at n told (t ∷ ts) e (first, second, s, stands, others) (goes_on a node p left inner later is w v) =
    let found = node_there input first second p a node t s stands is in
    let (all, within, parts) = parts_stand input first second p a node t s stands is found in
    let (b, same, within2, rest_) = others_stand input p a node t ts (first, second, s, stands, others) is in
    of_more t ts node inner later (met_there input first second p a node t s stands found)
    (met input node node.next node.count inner (parts_of t) all parts w)
    (met input a node.end left later ts (omega (arith, e)) rest_ v)

-- a walk of a whole term
none_left : (input : List ℕ) (around : Node) (at n : ℕ) (told : List Node) → n ≡ 0 → Walks input around at n told → AreOf input [] told
none_left input around at n told e (stops a p) = of_none
none_left input around at n told e (goes_on a node p left inner later is w v) = absurd (omega (arith, e))

one_met : (input b after : List ℕ) (around : Node) (at n : ℕ) (told : List Node) (t : Term) → n ≡ 1 → bytes_at input at around ≡ b ++ after
    → StandsIn around t b → Walks input around at n told → AreOf input (t ∷ []) told
one_met input b after around at n told t e s stands (stops a p) = absurd (omega (arith, e))
one_met input b after around at n told t e s stands (goes_on a node p left inner later is w v) =
    let found = node_there input b after p a node t s stands is in
    let (all, within, parts) = parts_stand input b after p a node t s stands is found in
    of_more t [] node inner later (met_there input b after p a node t s stands found)
    (met input node node.next node.count inner (parts_of t) all parts w)
    (none_left input a node.end left later (omega (arith, e)) v)

pub once_met : (input front after : List ℕ) (t : Term) (told : List Node) → input ≡ front ++ after → IsSpelling front t → nest t ≤ 128
    → Walks input nothing 0 1 told → AreOf input (t ∷ []) told
once_met input front after t told e h deep w =
    one_met input front after nothing 0 1 told t refl (take_all (length input - 0) input (omega arith) ∙ e)
    (record { term = λ _. h; item = λ a. absurd (omega (arith, a)); nests = deep }) w
