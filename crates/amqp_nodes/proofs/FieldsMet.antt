-- What the fields of a composite's term are, by their numbers.
use Rattle.std.proofs.Common.{◌≡◌, ℕ, zero, suc, ◌<◌, ◌≤◌, inl, inr, List, [], ◌∷◌, ◌++◌, length, refl, sym, ap, ◌∙◌, subst, arith, append_assoc, length-append, get_or}
use Rattle.std.proofs.lemmas.Bool.Decides.{leb_tells}
use Rattle.amqp_kinds.specs.declared.kind.Kind.TheVariants as kind
use Rattle.amqp_model.specs.Term.{Term, Terms, leaf, container, described, list, Descriptor}
use Rattle.amqp_model.specs.Spelling.{descriptor_value}
use Rattle.amqp_wire.specs.declared.error.Error.{Error}
use Rattle.amqp_nodes.specs.Nodes.{array_number, kind_number, IsWithin, IsNode, bytes_at}
use Rattle.amqp_nodes.specs.Walks.{parts_of, StandIn}
use Rattle.amqp_nodes.specs.Fields.{Passes, IsItem, IsNoItem, IsListOf, IsField, IsOmitted, HasNoField, IsNth, IsPlaced, EndsBefore, IsCompositeOf}
use Rattle.amqp_nodes.specs.declared.nodes.Node.{Node}
use Rattle.amqp_nodes.proofs.Walking.{parts_stand, node_there, others_stand, goes_so, is_same}

-- behind so many nodes stand the other terms
record Behind (input : List ℕ) (around : Node) (ts : List Term) (n at : ℕ) : Type 0 where
  front : List Term
  behind : List Term
  is : ts ≡ front ++ behind
  many : length front ≡ n
  within : IsWithin input at around
  stand : StandIn around behind (bytes_at input at around)

one_behind : (input : List ℕ) (around : Node) (ts : List Term) (n before at : ℕ) (node : Node) → n < length ts → Behind input around ts n before
    → IsNode input before around node → at ≡ node.end → Behind input around ts (suc n) at
one_behind input around ts n before at node less h told ends = by_rest h.behind refl
  where
    by_rest : (rest : List Term) → h.behind ≡ rest → Behind input around ts (suc n) at
    by_rest [] e = let all : length ts ≡ n = ap length (h.is ∙ ap (λ r. h.front ++ r) e) ∙ (length-append h.front [] ∙ omega (arith, h.many)) in absurd (omega arith)
    by_rest (t ∷ us) e =
        let there : StandIn around (t ∷ us) (bytes_at input before around) = subst (λ r. StandIn around r (bytes_at input before around)) e h.stand in
        let (b, is, within, others) = others_stand input before around node t us there told in
        record {
          front = h.front ++ t ∷ [];
          behind = us;
          is = h.is ∙ (ap (λ r. h.front ++ r) e ∙ sym (append_assoc h.front (t ∷ []) us));
          many = omega (arith, length-append h.front (t ∷ []), h.many);
          within = subst (λ p. IsWithin input p around) (sym ends) within;
          stand = subst (λ p. StandIn around us (bytes_at input p around)) (sym ends) others;
        }

all_behind : (input : List ℕ) (around : Node) (ts : List Term) (from n at : ℕ) → IsWithin input from around
    → StandIn around ts (bytes_at input from around) → n ≤ length ts → Passes input around from n at → Behind input around ts n at
all_behind input around ts from zero at within stand less is = record {
  front = [];
  behind = ts;
  is = refl;
  many = refl;
  within = subst (λ p. IsWithin input p around) (sym is) within;
  stand = subst (λ p. StandIn around ts (bytes_at input p around)) (sym is) stand;
}
all_behind input around ts from (suc n) at within stand less (before, node, passed, told, ends) =
    one_behind input around ts n before at node (omega arith) (all_behind input around ts from n before within stand (omega arith) passed) told ends

-- the term of the number stands there, and the node is its
record Item (input : List ℕ) (around : Node) (ts : List Term) (index : ℕ) (node : Node) : Type 0 where
  term : Term
  nth : IsNth ts index term
  placed : IsPlaced input around term node

placed_there : (input : List ℕ) (around : Node) (at : ℕ) (node : Node) (t : Term) (us : List Term)
    → StandIn around (t ∷ us) (bytes_at input at around) → IsNode input at around node → IsPlaced input around t node
placed_there input around at node t us (first, second, is, stands, others) told =
    record {
      at = at;
      front = first;
      after = second;
      is = is;
      stands = stands;
      told = told;
      node_of = node_there input first second at around node t is stands told;
    }

item_there : (input : List ℕ) (around : Node) (ts : List Term) (index : ℕ) (node : Node) → IsWithin input around.next around
    → StandIn around ts (bytes_at input around.next around) → index < length ts → IsItem input around index node → Item input around ts index node
item_there input around ts index node within stand less (at, passed, told) = by_rest h.behind refl
  where
    h : Behind input around ts index at
    h = all_behind input around ts around.next index at within stand (omega arith) passed

    by_rest : (rest : List Term) → h.behind ≡ rest → Item input around ts index node
    by_rest [] e = let all : length ts ≡ index = ap length (h.is ∙ ap (λ r. h.front ++ r) e) ∙ (length-append h.front [] ∙ omega (arith, h.many)) in absurd (omega arith)
    by_rest (t ∷ us) e = record {
      term = t;
      nth = (h.front, us, h.is ∙ ap (λ r. h.front ++ r) e, h.many);
      placed = placed_there input around at node t us (subst (λ r. StandIn around r (bytes_at input at around)) e h.stand) told;
    }

-- no item of the terms is refused
no_item : (input : List ℕ) (around : Node) (ts : List Term) (index : ℕ) (e : Error) → IsWithin input around.next around
    → StandIn around ts (bytes_at input around.next around) → index < length ts → IsNoItem input around index e → ⊥
no_item input around ts index e within stand less (n, at, most, passed, refused) = by_rest h.behind refl
  where
    h : Behind input around ts n at
    h = all_behind input around ts around.next n at within stand (omega arith) passed

    by_rest : (rest : List Term) → h.behind ≡ rest → ⊥
    by_rest [] r = let all : length ts ≡ n = ap length (h.is ∙ ap (λ r. h.front ++ r) r) ∙ (length-append h.front [] ∙ omega (arith, h.many)) in omega arith
    by_rest (t ∷ us) r = goes_so input at around t us e (subst (λ r. StandIn around r (bytes_at input at around)) r h.stand) h.within refused

-- ---- the list of a composite

second_of : (a b t : Term) (front behind : List Term) → a ∷ b ∷ [] ≡ front ++ t ∷ behind → length front ≡ 1 → t ≡ b
second_of a b t [] behind e one = absurd (omega (arith, one))
second_of a b t (x ∷ []) behind e one = sym (ap (λ ts. get_or ts 1 a) e)
second_of a b t (x ∷ y ∷ front) behind e one = absurd (omega (arith, one))

-- the terms of the fields stand in the node of their list
record FieldsStand (input : List ℕ) (ts : List Term) (fields : Node) : Type 0 where
  all : fields.count ≡ length ts
  within : IsWithin input fields.next fields
  stand : StandIn fields ts (bytes_at input fields.next fields)

list_placed : (input : List ℕ) (around composite fields : Node) (d : Descriptor) (fs : Terms)
    → IsPlaced input around (described d (container list fs)) composite → IsItem input composite 1 fields
    → IsPlaced input composite (container list fs) fields
list_placed input around composite fields d fs p second =
    let whole = described d (container list fs) in
    let (count, within, stand) = parts_stand input p.front p.after p.at around composite whole p.is p.stands p.told p.node_of in
    let item = item_there input composite (parts_of whole) 1 fields within stand (omega arith) second in
    let (front, behind, nth, one) = item.nth in
    let term : item.term ≡ container list fs = second_of (leaf (descriptor_value d)) (container list fs) item.term front behind nth one in
    subst (λ t. IsPlaced input composite t fields) term item.placed

fields_stand : (input : List ℕ) (around composite fields : Node) (ts : List Term) → IsCompositeOf input around ts composite
    → IsListOf input composite fields → FieldsStand input ts fields
fields_stand input around composite fields ts (d, fs, same, p) (is, second, is_list) =
    let q = list_placed input around composite fields d fs p second in
    let (all, inside, terms) =
    parts_stand input q.front q.after q.at composite fields (container list fs) q.is q.stands q.told q.node_of in
    record {
      all = all ∙ ap length same;
      within = inside;
      stand = subst (λ us. StandIn fields us (bytes_at input fields.next fields)) same terms;
    }

described_kind : (input : List ℕ) (around composite : Node) (d : Descriptor) (t : Term) → IsPlaced input around (described d t) composite
    → composite.kind ≡ kind_number kind.Described
described_kind input around composite d t p =
    elim (is_same around.kind array_number) [ inl is ↦ absurd (p.node_of.item is).holds | inr other ↦ (p.node_of.term other).kind ]

list_kind : (input : List ℕ) (around fields : Node) (fs : Terms) → IsPlaced input around (container list fs) fields
    → fields.kind ≡ kind_number kind.List
list_kind input around fields fs p =
    elim (is_same around.kind array_number) [ inl is ↦ (p.node_of.item is).kind | inr other ↦ (p.node_of.term other).told.kind ]

pub field_met : (input : List ℕ) (around composite node : Node) (ts : List Term) (index : ℕ) → IsCompositeOf input around ts composite
    → IsField input composite index node → (fields : Node) × (t : Term) × IsNth ts index t × IsPlaced input fields t node
field_met input around composite node ts index is (fields, its, less, item, some) =
    let f = fields_stand input around composite fields ts is its in
    let met = item_there input fields ts index node f.within f.stand (omega (arith, f.all)) item in
    (fields, met.term, met.nth, met.placed)

pub omitted_met : (input : List ℕ) (around composite : Node) (ts : List Term) (index : ℕ) → IsCompositeOf input around ts composite
    → IsOmitted input composite index → EndsBefore input ts index
omitted_met input around composite ts index is (fields, its, inl few) =
    let f = fields_stand input around composite fields ts is its in
    inl (omega (arith, f.all))
omitted_met input around composite ts index is (fields, its, inr (node, item, null)) =
    let f = fields_stand input around composite fields ts is its in
    elim (leb_tells (length ts) index) [
      | inl few ↦ inl few.1
      | inr less ↦ (
          let met = item_there input fields ts index node f.within f.stand (omega (arith, less.1)) item in
          inr (fields, node, met.term, met.nth, met.placed, null))
    ]

pub no_fault : (input : List ℕ) (around composite : Node) (ts : List Term) (index : ℕ) (e : Error) → IsCompositeOf input around ts composite
    → HasNoField input composite index e → ⊥
no_fault input around composite ts index e is (inr (fields, its, less, none)) =
    let f = fields_stand input around composite fields ts is its in
    no_item input fields ts index e f.within f.stand (omega (arith, f.all)) none
no_fault input around composite ts index e (d, fs, same, p) (inl (inl (other, wrong))) = other (described_kind input around composite d (container list fs) p)
no_fault input around composite ts index e (d, fs, same, p) (inl (inr (inl (is, none)))) =
    let whole = described d (container list fs) in
    let (count, within, stand) = parts_stand input p.front p.after p.at around composite whole p.is p.stands p.told p.node_of in
    no_item input composite (parts_of whole) 1 e within stand (omega arith) none
no_fault input around composite ts index e (d, fs, same, p) (inl (inr (inr (is, fields, item, other, wrong)))) =
    other (list_kind input composite fields fs (list_placed input around composite fields d fs p item))
