-- Terms that are made of primitives, containers and described values alone.
use Rattle.std.proofs.Common.{◌≡◌, inl, inr, ℕ, List, [], ◌∷◌, Option, Some, None, refl, sym, subst}
use Rattle.amqp_model.specs.Term.{Refusal, too_large, Container, list, map, array, Descriptor, Term, Terms, leaf, container}
use Rattle.amqp_model.specs.Term.{described, kept, barred, none, more}
use Rattle.amqp_model.specs.Spelling.{IsValid, descriptor_value, IsDataOf, IsSpelling}
use Rattle.amqp_model.specs.Standing.{Standing, whole, part}
use Rattle.amqp_model.specs.Text.{form}
use Rattle.amqp_model.specs.Refusals.{SomewhereIn, IsRefused, IsItem, core}
use Rattle.amqp_model.specs.Items.{BarsAny, IsFree}
use Rattle.amqp_model.proofs.Mixed.{one_form_shared}
use Rattle.amqp_codec.specs.TermType.{Spells, IsKept, KeepsNoBytes, KeepNoBytes, IsRefusedForSize}
use Rattle.amqp_codec.specs.laws.KeptBytes.{null_core}
use Rattle.amqp_codec.specs.laws.OnlySize.{IsFlawless, size_alone, leaf_flawless, list_flawless}
use Rattle.amqp_codec.specs.laws.PrimitiveTerm.{leaf_writable}
use Rattle.amqp_codec.specs.laws.Form.{data_form, data_has_form}
use Rattle.amqp_codec.specs.laws.DescribedTerm.{described_placed}
use Rattle.amqp_codec.specs.Each.{EachSpells, AreParts, Share}
use Rattle.amqp_codec.specs.laws.Placing.{names_valid, placed}

-- No bytes are kept in the term, and nothing in it is barred.
abbrev mutual
  pub IsTree : Term → Type 0
  IsTree (leaf p) = Unit {0}
  IsTree (container k ts) = AreTrees ts
  IsTree (described d t) = IsTree t
  IsTree (kept b) = ⊥
  IsTree (barred r) = ⊥

  pub AreTrees : Terms → Type 0
  AreTrees none = Unit {0}
  AreTrees (more t ts) = IsTree t × AreTrees ts

mutual
  pub tree_plain : (t : Term) → IsTree t → KeepsNoBytes t
  tree_plain (leaf p) h = tt
  tree_plain (container k ts) h = trees_plain ts h
  tree_plain (described d t) h = tree_plain t h
  tree_plain (kept b) h = h
  tree_plain (barred r) h = tt

  trees_plain : (ts : Terms) → AreTrees ts → KeepNoBytes ts
  trees_plain none h = tt
  trees_plain (more t ts) h = (tree_plain t h.0, trees_plain ts h.1)

mutual
  pub tree_free : (t : Term) → IsTree t → IsFree t
  tree_free (leaf p) h r i = i
  tree_free (container k ts) h r i = trees_free ts h r i
  tree_free (described d t) h r i = tree_free t h r i
  tree_free (kept b) h r i = i
  tree_free (barred s) h r i = h

  trees_free : (ts : Terms) → AreTrees ts → (r : Refusal) → BarsAny r ts → ⊥
  trees_free none h r i = i
  trees_free (more t ts) h r (inl i) = tree_free t h.0 r i
  trees_free (more t ts) h r (inr i) = trees_free ts h.1 r i

-- the items of an array are data under one constructor
record DataUnder (ds : List Descriptor) (c : ℕ) (t : Term) : Type 0 where
  bytes : List ℕ
  spelled : IsDataOf t ds c bytes

item_data : (ds : List Descriptor) (c : ℕ) (ss : List Standing) (ts : Terms) → AreParts ds c ss → EachSpells ss ts → (x : Term)
    → IsItem x ts → DataUnder ds c x
item_data ds c [] none a e x i = absurd i
item_data ds c (s ∷ ss) none a e x i = absurd i
item_data ds c [] (more t ts) a e x i = absurd e
item_data ds c (s ∷ ss) (more t ts) a e x (inl is) =
    record { bytes = a.0.0; spelled = subst (λ y. IsDataOf y ds c a.0.0) (sym is) (subst (λ z. Spells z t) a.0.1 e.0).1 }
item_data ds c (s ∷ ss) (more t ts) a e x (inr i) = item_data ds c ss ts a.1 e.1 x i

kept_no_data : (t : Term) (ds : List Descriptor) (c : ℕ) (b : List ℕ) → IsKept (core t) → IsDataOf t ds c b → ⊥
kept_no_data (leaf p) ds c b k h = k
kept_no_data (container j ts) ds c b k h = k
kept_no_data (described d t) [] c b k h = h
kept_no_data (described d t) (e ∷ ds) c b k h = kept_no_data t ds c b k h.1
kept_no_data (kept x) ds c b k h = h
kept_no_data (barred r) ds c b k h = h

some_form : {A : Type 0} (o : Option A) → (o ≡ None → ⊥) → (f : A) × (o ≡ Some f)
some_form None h = absurd (h refl)
some_form (Some f) h = (f, refl)

array_flawless : (ts : Terms) (ss : List Standing) → Share array ss → EachSpells ss ts → IsFlawless (container array ts)
array_flawless ts ss (ds, c, a, wide) e =
    let item = item_data ds c ss ts a e in
    record {
      unbarred = λ r e. cc;
      unmixed = λ (x, y, i, j, n).
          (let p = item x i in
          let q = item y j in
          one_form_shared x y (some_form (form x) (data_has_form x ds c p.bytes wide p.spelled))
          (data_form x y ds c p.bytes q.bytes p.spelled q.spelled) n);
      no_null = λ (x, i, n). (let p = item x i in data_has_form x ds c p.bytes wide p.spelled (null_core x n));
      no_kept = λ (x, b, i, n). (let p = item x i in kept_no_data x ds c p.bytes (subst IsKept (sym n) tt) p.spelled);
      ascii = λ h. h;
    }

map_flawless : (ts : Terms) → IsFlawless (container map ts)
map_flawless ts = record { unbarred = λ r e. cc; unmixed = λ h. h; no_null = λ h. h; no_kept = λ h. h; ascii = λ h. h }

container_flawless : (k : Container) (ts : Terms) (ss : List Standing) → Share k ss → EachSpells ss ts → IsFlawless (container k ts)
container_flawless list ts ss h e = list_flawless ts
container_flawless map ts ss h e = map_flawless ts
container_flawless array ts ss h e = array_flawless ts ss h e

-- the descriptor of what is spelled can be spelled
spelled_descriptor : (s : Standing) (d : Descriptor) (t : Term) → Spells s (described d t) → IsValid (descriptor_value d)
unfolding IsSpelling
spelled_descriptor (whole b) d t ([], c, few, (h, x, e, k, s)) = absurd s
spelled_descriptor (whole b) d t (f ∷ ds, c, few, (h, x, e, (first, second, e', names, k), s)) =
    subst (λ z. IsValid (descriptor_value z)) (sym s.0) (names_valid f first names)
spelled_descriptor (part [] c b) d t h = absurd h.1
spelled_descriptor (part (f ∷ ds) c b) d t h = subst (λ z. IsValid (descriptor_value z)) (sym h.1.0) h.0.0

described_flawless : (d : Descriptor) (t : Term) → IsValid (descriptor_value d) → IsFlawless (described d t)
described_flawless d t v =
    let p = leaf_flawless (descriptor_value d) v in
    record { unbarred = λ r e. cc; unmixed = λ h. h; no_null = λ h. h; no_kept = λ h. h; ascii = p.ascii }

kept_not_spelled : (s : Standing) (t : Term) → IsKept t → Spells s t → ⊥
unfolding IsSpelling
kept_not_spelled (whole b) (kept x) k (ds, c, few, (h, d, e, n, s)) = s
kept_not_spelled (part ds c b) (kept x) k h = h.1
kept_not_spelled s (leaf p) k h = k
kept_not_spelled s (container j ts) k h = k
kept_not_spelled s (described d t) k h = k
kept_not_spelled s (barred r) k h = k

barred_not_spelled : (s : Standing) (r : Refusal) → Spells s (barred r) → ⊥
unfolding IsSpelling
barred_not_spelled (whole b) r (ds, c, few, (h, d, e, n, s)) = s
barred_not_spelled (part ds c b) r h = h.1

-- what is spelled is refused for its size alone
mutual
  pub spelled_for_size : (t : Term) (s : Standing) → Spells s t → IsRefusedForSize t
  spelled_for_size (leaf p) s h r i = leaf_writable s (leaf p) p r h refl i
  spelled_for_size (container k ts) s h r (inl f) =
      let x = placed k s ts h in size_alone (container_flawless k ts x.0 x.2.1 x.2.0) r f
  spelled_for_size (container k ts) s h r (inr j) = let x = placed k s ts h in each_for_size ts x.0 x.2.0 r j
  spelled_for_size (described d t) s h r (inl f) = size_alone (described_flawless d t (spelled_descriptor s d t h)) r f
  spelled_for_size (described d t) s h r (inr j) = let x = described_placed s d t h in spelled_for_size t x.1 x.3 r j
  spelled_for_size (kept b) s h r i = absurd (kept_not_spelled s (kept b) tt h)
  spelled_for_size (barred q) s h r i = absurd (barred_not_spelled s q h)

  each_for_size : (ts : Terms) (ss : List Standing) → EachSpells ss ts → (r : Refusal) → SomewhereIn (IsRefused r) ts → r ≡ too_large
  each_for_size none ss e r j = absurd j
  each_for_size (more t ts) [] e r j = absurd e
  each_for_size (more t ts) (s ∷ ss) e r (inl j) = spelled_for_size t s e.0 r j
  each_for_size (more t ts) (s ∷ ss) e r (inr j) = each_for_size ts ss e.1 r j
