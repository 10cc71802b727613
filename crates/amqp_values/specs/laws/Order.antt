-- The orders of values and of maps are total, and agree with their equality.
use Rattle.std.proofs.Common.{◌≡◌, ℕ, Bool, true, false, eqb, cond, refl, sym, ap, ap₂, ◌∙◌, subst}
use Rattle.std.proofs.lemmas.Bool.{true≢false}
use Rattle.std.specs.Bool.{beq, nat_lt, one_answer}
use Rattle.std.specs.declared.cmp.Ordering.{Ordering}
use Rattle.std.specs.declared.cmp.Ordering.TheVariants.{Less, Equal, Greater}
use Rattle.std.specs.Ordering.{ordering_then, ordering_reverse, is_eq, eq_by_cmp, nat_cmp, int_cmp}
use Rattle.std.specs.Ordering.{bool_cmp, as_partial_cmp}
use Rattle.std.specs.Cmp.{IsTotalOrder, IsPartialOrder, nat_cmp_total, int_cmp_total, bool_cmp_total, on_total, then_total, then_flip, po}
use Rattle.std.specs.Cmp.{tied_itself, unsigned_ties, unsigned_Decides, signed_Decides, booleans_Decides, Equal-is}
use Rattle.std.specs.Cmp.Lexicographic.{nat_list_cmp_total, bytes_decides, texts_ties}
use Rattle.std.proofs.lemmas.Bool.{and_from}
use Rattle.std.proofs.lemmas.Bool.Decides.{Decides-int_eq}
use Rattle.std.proofs.lemmas.Slice.Eq.{bytes_eq-Decides}
use Rattle.amqp_model.specs.Term.{Primitive, null, boolean, ubyte, ushort, uint, ulong, byte, short, int, long, char, timestamp, decimal32}
use Rattle.amqp_model.specs.Term.{decimal64, decimal128, uuid, binary, string, symbol, Container, list, map, array, Descriptor, name, code}
use Rattle.amqp_model.specs.Term.{Term, Terms, leaf, container, described, kept, barred, none, more}
use Rattle.amqp_lookahead.specs.Kinds.{kind_of}
use Rattle.amqp_codec.specs.laws.EqualKeys.{primitives_decide}
use Rattle.amqp_codec.specs.PrimitiveTypes.{truth as truth_of, number as number_of, integer as integer_of, content}
use Rattle.amqp_codec.specs.laws.Tree.{IsTree, AreTrees}
use Rattle.amqp_values.specs.declared.map.ValueMap.{ValueMap}
use Rattle.amqp_values.specs.declared.value.Value.{Value}
use Rattle.amqp_values.specs.Values.{value_term, pairs_of}
use Rattle.amqp_values.specs.laws.Values.{values_are_trees}
use Rattle.amqp_values.specs.Equality.{value_eq, turn_terms, map_eq}
use Rattle.amqp_values.specs.laws.Equality.{values_decide, turns_are_trees, maps_decide}
use Rattle.amqp_values.specs.Labels.{Label, primitive_label, bare, descriptor_label, container_place, label_cmp}
use Rattle.amqp_values.specs.Order.{Tree, Trees, node, no_tree, one_more, tree_of, trees_of, tree_cmp, trees_cmp, value_cmp, map_cmp}

-- what comes first and what comes then are both equal
both_equal : (a b : Ordering) → ordering_then a b ≡ Equal → (a ≡ Equal) × (b ≡ Equal)
both_equal Less b e = cc
both_equal Equal b e = (refl, e)
both_equal Greater b e = cc

-- equal labels are one
number_tied : (x y : ℕ) → nat_cmp x y ≡ Equal → x ≡ y
number_tied x y e = (unsigned_Decides x y).0 (unsigned_ties x y ∙ ap is_eq e)

truth_tied : (b c : Bool) → bool_cmp b c ≡ Equal → b ≡ c
truth_tied true true e = refl
truth_tied true false e = cc
truth_tied false true e = cc
truth_tied false false e = refl

pub label_tied : (l m : Label) → label_cmp l m ≡ Equal → l ≡ m
label_tied l m e =
    let a = both_equal (nat_cmp l.place m.place) _ e in
    let b = both_equal (bool_cmp l.truth m.truth) _ a.1 in
    let c = both_equal (nat_cmp l.number m.number) _ b.1 in
    let d = both_equal (int_cmp l.integer m.integer) _ c.1 in
    let place = number_tied l.place m.place a.0 in
    let truth = truth_tied l.truth m.truth b.0 in
    let number = number_tied l.number m.number c.0 in
    let integer = (signed_Decides l.integer m.integer).0 (ap is_eq d.0) in
    let bytes = (bytes_decides l.bytes m.bytes).0 (texts_ties l.bytes m.bytes ∙ ap is_eq d.1) in
    λ i. record { place = place i; truth = truth i; number = number i; integer = integer i; bytes = bytes i }

label_total : IsTotalOrder label_cmp
label_total =
    then_total (on_total (λ (l : Label). l.place) nat_cmp_total)
    (then_total (on_total (λ (l : Label). l.truth) bool_cmp_total)
    (then_total (on_total (λ (l : Label). l.number) nat_cmp_total)
    (then_total (on_total (λ (l : Label). l.integer) int_cmp_total) (on_total (λ (l : Label). l.bytes) nat_list_cmp_total))))

-- equal trees are one
mutual
  tree_tied : (a b : Tree) → tree_cmp a b ≡ Equal → a ≡ b
  tree_tied (node l xs) (node m ys) e =
      let h = both_equal (label_cmp l m) (trees_cmp xs ys) e in ap₂ node (label_tied l m h.0) (trees_tied xs ys h.1)

  trees_tied : (xs ys : Trees) → trees_cmp xs ys ≡ Equal → xs ≡ ys
  trees_tied no_tree no_tree e = refl
  trees_tied no_tree (one_more b ys) e = cc
  trees_tied (one_more a xs) no_tree e = cc
  trees_tied (one_more a xs) (one_more b ys) e =
      let h = both_equal (tree_cmp a b) (trees_cmp xs ys) e in ap₂ one_more (tree_tied a b h.0) (trees_tied xs ys h.1)

-- the other way round
mutual
  tree_flips : (a b : Tree) → tree_cmp a b ≡ ordering_reverse (tree_cmp b a)
  tree_flips (node l xs) (node m ys) =
      ap₂ ordering_then (label_total.antisymm l m) (trees_flip xs ys) ∙ then_flip (label_cmp m l) (trees_cmp ys xs)

  trees_flip : (xs ys : Trees) → trees_cmp xs ys ≡ ordering_reverse (trees_cmp ys xs)
  trees_flip no_tree no_tree = refl
  trees_flip no_tree (one_more b ys) = refl
  trees_flip (one_more a xs) no_tree = refl
  trees_flip (one_more a xs) (one_more b ys) =
      ap₂ ordering_then (tree_flips a b) (trees_flip xs ys) ∙ then_flip (tree_cmp b a) (trees_cmp ys xs)

-- one step of a chain: the first parts x, y and z go by R, and p, q and r are how the rests compare
module _ {K : Type 0} (R : K → K → Ordering) (tied : (x y : K) → R x y ≡ Equal → x ≡ y) (x y z : K)
    (chain : R x y ≡ Less → R y z ≡ Less → R x z ≡ Less) (p q r : Ordering) (rest : p ≡ Less → q ≡ Less → r ≡ Less) where
  by_first : (a b : Ordering) → R x y ≡ a → R y z ≡ b → ordering_then a p ≡ Less → ordering_then b q ≡ Less → ordering_then (R x z) r ≡ Less
  by_first Less Less e f g h = ap (λ c. ordering_then c r) (chain e f)
  by_first Less Equal e f g h = ap (λ c. ordering_then c r) (ap (R x) (sym (tied y z f)) ∙ e)
  by_first Less Greater e f g h = cc
  by_first Equal Less e f g h = ap (λ c. ordering_then c r) (ap (λ w. R w z) (tied x y e) ∙ f)
  by_first Equal Equal e f g h = ap₂ ordering_then (ap (λ w. R w z) (tied x y e) ∙ f) (rest g h)
  by_first Equal Greater e f g h = cc
  by_first Greater b e f g h = cc

  chained : ordering_then (R x y) p ≡ Less → ordering_then (R y z) q ≡ Less → ordering_then (R x z) r ≡ Less
  chained = by_first (R x y) (R y z) refl refl

mutual
  tree_chain : (a b c : Tree) → tree_cmp a b ≡ Less → tree_cmp b c ≡ Less → tree_cmp a c ≡ Less
  tree_chain (node l xs) (node m ys) (node n zs) =
      chained label_cmp label_tied l m n (label_total.trans l m n) (trees_cmp xs ys) (trees_cmp ys zs) (trees_cmp xs zs)
      (trees_chain xs ys zs)

  trees_chain : (xs ys zs : Trees) → trees_cmp xs ys ≡ Less → trees_cmp ys zs ≡ Less → trees_cmp xs zs ≡ Less
  trees_chain no_tree no_tree zs e f = f
  trees_chain no_tree (one_more b ys) no_tree e f = cc
  trees_chain no_tree (one_more b ys) (one_more c zs) e f = refl
  trees_chain (one_more a xs) no_tree zs e f = cc
  trees_chain (one_more a xs) (one_more b ys) no_tree e f = cc
  trees_chain (one_more a xs) (one_more b ys) (one_more c zs) e f =
      chained tree_cmp tree_tied a b c (tree_chain a b c) (trees_cmp xs ys) (trees_cmp ys zs) (trees_cmp xs zs) (trees_chain xs ys zs) e f

trees_total : IsTotalOrder tree_cmp
trees_total = record { antisymm = tree_flips; trans = tree_chain; congr = λ a b c e. ap (λ x. tree_cmp x c) (tree_tied a b e) }

-- terms with one tree are one
abbrev label_at : Tree → Label
label_at (node l xs) = l

abbrev under : Tree → Trees
under (node l xs) = xs

one_primitive : (p q : Primitive) → primitive_label p ≡ primitive_label q → p ≡ q
one_primitive p q e =
    (primitives_decide p q).0
    (and_from (eqb (kind_of p) (kind_of q)) _ ((unsigned_Decides (kind_of p) (kind_of q)).1 (ap (λ (l : Label). l.place) e))
    (and_from (beq (truth_of p) (truth_of q)) _ ((booleans_Decides (truth_of p) (truth_of q)).1 (ap (λ (l : Label). l.truth) e))
    (and_from (eqb (number_of p) (number_of q)) _ ((unsigned_Decides (number_of p) (number_of q)).1 (ap (λ (l : Label). l.number) e))
    (and_from _ _ ((Decides-int_eq (integer_of p) (integer_of q)).1 (ap (λ (l : Label). l.integer) e))
    ((bytes_eq-Decides (content p) (content q)).1 (ap (λ (l : Label). l.bytes) e))))))

pub leaf_place : (p : Primitive) → nat_lt (kind_of p) 19 ≡ true
leaf_place null = refl
leaf_place (boolean b) = refl
leaf_place (ubyte n) = refl
leaf_place (ushort n) = refl
leaf_place (uint n) = refl
leaf_place (ulong n) = refl
leaf_place (byte z) = refl
leaf_place (short z) = refl
leaf_place (int z) = refl
leaf_place (long z) = refl
leaf_place (char n) = refl
leaf_place (timestamp z) = refl
leaf_place (decimal32 s) = refl
leaf_place (decimal64 s) = refl
leaf_place (decimal128 s) = refl
leaf_place (uuid s) = refl
leaf_place (binary s) = refl
leaf_place (string s) = refl
leaf_place (symbol s) = refl

-- a leaf has the place of nothing that holds others
not_leaf : (p : Primitive) (n : ℕ) → nat_lt n 19 ≡ false → kind_of p ≡ n → ⊥
not_leaf p n f e = true≢false (sym (leaf_place p) ∙ ap (λ x. nat_lt x 19) e ∙ f)

abbrev container_at : ℕ → Container
container_at k = cond (eqb k 20) list (cond (eqb k 21) map array)

placed : (k : Container)
    → (container_at (container_place k) ≡ k) × (nat_lt (container_place k) 19 ≡ false) × (nat_lt 19 (container_place k) ≡ true)
placed list = (refl, refl, refl)
placed map = (refl, refl, refl)
placed array = (refl, refl, refl)

-- a container has another place than what is described
not_described : (k : Container) → container_place k ≡ 19 → ⊥
not_described k e = true≢false (sym (placed k).2 ∙ ap (λ n. nat_lt 19 n) e)

abbrev descriptor_at : Label → Descriptor
descriptor_at l = cond l.truth (code l.number) (name l.bytes)

descriptor_is : (d : Descriptor) → descriptor_at (descriptor_label 19 d) ≡ d
descriptor_is (name s) = refl
descriptor_is (code n) = refl

descriptor_place : (d : Descriptor) → (descriptor_label 19 d).place ≡ 19
descriptor_place (name s) = refl
descriptor_place (code n) = refl

one_container : (k j : Container) → container_place k ≡ container_place j → k ≡ j
one_container k j e = sym (placed k).0 ∙ ap container_at e ∙ (placed j).0

abbrev first_of : Trees → Tree
first_of no_tree = node (bare 0) no_tree
first_of (one_more a xs) = a

abbrev place_at : Tree → ℕ
place_at a = (label_at a).place

mutual
  one_term : (t u : Term) → IsTree t → IsTree u → tree_of t ≡ tree_of u → t ≡ u
  one_term (leaf p) (leaf q) h k e = ap leaf (one_primitive p q (ap label_at e))
  one_term (leaf p) (container j us) h k e = absurd (not_leaf p (container_place j) (placed j).1 (ap place_at e))
  one_term (leaf p) (described f u) h k e = absurd (not_leaf p 19 refl (ap place_at e ∙ descriptor_place f))
  one_term (container k ts) (leaf q) h g e = absurd (not_leaf q (container_place k) (placed k).1 (sym (ap place_at e)))
  one_term (container k ts) (container j us) h g e =
      ap₂ container (one_container k j (ap place_at e)) (one_row ts us h g (ap under e))
  one_term (container k ts) (described f u) h g e = absurd (not_described k (ap place_at e ∙ descriptor_place f))
  one_term (described d t) (leaf q) h k e = absurd (not_leaf q 19 refl (sym (ap place_at e) ∙ descriptor_place d))
  one_term (described d t) (container j us) h k e = absurd (not_described j (sym (ap place_at e) ∙ descriptor_place d))
  one_term (described d t) (described f u) h k e =
      ap₂ described (sym (descriptor_is d) ∙ ap (λ a. descriptor_at (label_at a)) e ∙ descriptor_is f)
      (one_term t u h k (ap (λ a. first_of (under a)) e))
  one_term (kept b) u h k e = absurd h
  one_term (barred r) u h k e = absurd h
  one_term (leaf p) (kept b) h k e = absurd k
  one_term (leaf p) (barred r) h k e = absurd k
  one_term (container j ts) (kept b) h k e = absurd k
  one_term (container j ts) (barred r) h k e = absurd k
  one_term (described d t) (kept b) h k e = absurd k
  one_term (described d t) (barred r) h k e = absurd k

  one_row : (ts us : Terms) → AreTrees ts → AreTrees us → trees_of ts ≡ trees_of us → ts ≡ us
  one_row none none h k e = refl
  one_row none (more u us) h k e = cc
  one_row (more t ts) none h k e = cc
  one_row (more t ts) (more u us) h k e = ap₂ more (one_term t u h.0 k.0 cc) (one_row ts us h.1 k.1 cc)

-- values
pub values_total : IsTotalOrder value_cmp
values_total = on_total (λ v. tree_of (value_term v)) trees_total

pub values_tied : (v w : Value) → value_eq v w ≡ eq_by_cmp value_cmp v w
values_tied v w =
    one_answer (value_eq v w) (is_eq (value_cmp v w)) (values_decide v w) (
      λ e. one_term (value_term v) (value_term w) (values_are_trees v) (values_are_trees w)
          (tree_tied _ _ ((Equal-is (value_cmp v w)).0 e)),
      λ e. (Equal-is (value_cmp v w)).1 (subst (λ t. tree_cmp (tree_of (value_term v)) (tree_of t) ≡ Equal) e (tied_itself trees_total (tree_of (value_term v)))),
    )

pub values_po : IsPartialOrder value_eq (as_partial_cmp value_cmp)
values_po = po values_total values_tied

-- maps, by the rows of their keys and values in turn
rows_total : IsTotalOrder trees_cmp
rows_total = record { antisymm = trees_flip; trans = trees_chain; congr = λ xs ys zs e. ap (λ x. trees_cmp x zs) (trees_tied xs ys e) }

pub maps_total : IsTotalOrder map_cmp
maps_total = on_total (λ m. trees_of (turn_terms (pairs_of m))) rows_total

pub maps_tied : (m n : ValueMap) → map_eq m n ≡ eq_by_cmp map_cmp m n
maps_tied m n =
    let ts = turn_terms (pairs_of m) in
    let us = turn_terms (pairs_of n) in
    one_answer (map_eq m n) (is_eq (map_cmp m n)) (maps_decide m n) (
      λ e. one_row ts us (turns_are_trees m) (turns_are_trees n) (trees_tied _ _ ((Equal-is (map_cmp m n)).0 e)),
      λ e. (Equal-is (map_cmp m n)).1 (subst (λ xs. trees_cmp (trees_of ts) (trees_of xs) ≡ Equal) e (tied_itself rows_total (trees_of ts))),
    )

pub maps_po : IsPartialOrder map_eq (as_partial_cmp map_cmp)
maps_po = po maps_total maps_tied
