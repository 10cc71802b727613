-- The laws of terms that are the same, and of those in which maps with equal keys are barred.
use Rattle.std.proofs.Common.{◌≡◌, inl, inr, ℕ, suc, ℤ, Bool, true, false, cond, eqb, List, [], ◌∷◌, get_or, refl, sym, ap}
use Rattle.std.proofs.Common.{ap₂, ◌∙◌, subst}
use Rattle.std.specs.Bool.{Decides, beq}
use Rattle.std.specs.Ordering.{int_eq}
use Rattle.std.specs.Cmp.{unsigned_Decides, booleans_Decides}
use Rattle.std.proofs.lemmas.Bool.{and_parts, and_from}
use Rattle.std.proofs.lemmas.Bool.Decides.{Decides-int_eq}
use Rattle.std.proofs.lemmas.Slice.Eq.{bytes_eq-Decides}
use Rattle.amqp_model.specs.Term.{Primitive, null, boolean, ubyte, ushort, uint, ulong, byte, short, int, long, char, timestamp, decimal32}
use Rattle.amqp_model.specs.Term.{decimal64, decimal128, uuid, binary, string, symbol, Refusal, duplicate_key, Container, list, map}
use Rattle.amqp_model.specs.Term.{array, Descriptor}
use Rattle.amqp_model.specs.Term.{name, code, Term, Terms, leaf, container, described, kept, barred, none, more, count}
use Rattle.amqp_model.specs.Spelling.{descriptor_value}
use Rattle.amqp_model.specs.Ranges.{Everywhere, EverywhereIn, IsValue}
use Rattle.amqp_model.specs.Items.{is_null, IsFree, BarsAny}
use Rattle.amqp_lookahead.specs.Kinds.{kind_of}
use Rattle.amqp_codec.specs.PrimitiveTypes.{truth, number, integer, content}
use Rattle.amqp_codec.specs.TermType.{KeepsNoBytes, KeepNoBytes}
use Rattle.amqp_codec.specs.laws.Tree.{IsTree, AreTrees}
use Rattle.amqp_codec.specs.EqualKeys.{same_primitive, same_container, same_term, same_terms, is_ambiguous, barred_maps, all_barred_maps}

-- a primitive is made of its kind and its content
abbrev remade : ℕ → Bool → ℕ → ℤ → List ℕ → Primitive
remade k b n z s =
    get_or (null ∷ boolean b ∷ ubyte n ∷ ushort n ∷ uint n ∷ ulong n ∷ byte z ∷ short z ∷ int z ∷ long z ∷ decimal32 s ∷ decimal64 s
    ∷ decimal128 s ∷ char n ∷ timestamp z ∷ uuid s ∷ binary s ∷ string s ∷ symbol s ∷ []) k null

remade_is : (p : Primitive) → remade (kind_of p) (truth p) (number p) (integer p) (content p) ≡ p
remade_is null = refl
remade_is (boolean b) = refl
remade_is (ubyte n) = refl
remade_is (ushort n) = refl
remade_is (uint n) = refl
remade_is (ulong n) = refl
remade_is (byte z) = refl
remade_is (short z) = refl
remade_is (int z) = refl
remade_is (long z) = refl
remade_is (char n) = refl
remade_is (timestamp z) = refl
remade_is (decimal32 s) = refl
remade_is (decimal64 s) = refl
remade_is (decimal128 s) = refl
remade_is (uuid s) = refl
remade_is (binary s) = refl
remade_is (string s) = refl
remade_is (symbol s) = refl

primitive_equal : (p q : Primitive) → same_primitive p q ≡ true → p ≡ q
primitive_equal p q e =
    let a = and_parts (eqb (kind_of p) (kind_of q)) _ e in
    let b = and_parts (beq (truth p) (truth q)) _ a.1 in
    let c = and_parts (eqb (number p) (number q)) _ b.1 in
    let d = and_parts (int_eq (integer p) (integer q)) _ c.1 in
    sym (remade_is p)
    ∙ (ap (λ k. remade k (truth p) (number p) (integer p) (content p)) ((unsigned_Decides (kind_of p) (kind_of q)).0 a.0)
    ∙ (ap (λ b. remade (kind_of q) b (number p) (integer p) (content p)) ((booleans_Decides (truth p) (truth q)).0 b.0)
    ∙ (ap (λ n. remade (kind_of q) (truth q) n (integer p) (content p)) ((unsigned_Decides (number p) (number q)).0 c.0)
    ∙ (ap (λ z. remade (kind_of q) (truth q) (number q) z (content p)) ((Decides-int_eq (integer p) (integer q)).0 d.0)
    ∙ (ap (remade (kind_of q) (truth q) (number q) (integer q)) ((bytes_eq-Decides (content p) (content q)).0 d.1) ∙ remade_is q)))))

primitive_itself : (p : Primitive) → same_primitive p p ≡ true
primitive_itself p =
    and_from (eqb (kind_of p) (kind_of p)) _ ((unsigned_Decides (kind_of p) (kind_of p)).1 refl)
    (and_from (beq (truth p) (truth p)) _ ((booleans_Decides (truth p) (truth p)).1 refl)
    (and_from (eqb (number p) (number p)) _ ((unsigned_Decides (number p) (number p)).1 refl)
    (and_from (int_eq (integer p) (integer p)) _ ((Decides-int_eq (integer p) (integer p)).1 refl)
    ((bytes_eq-Decides (content p) (content p)).1 refl))))

pub primitives_decide : (p q : Primitive) → Decides (same_primitive p q) (p ≡ q)
primitives_decide p q = (primitive_equal p q, λ e. subst (λ x. same_primitive p x ≡ true) e (primitive_itself p))

container_equal : (k j : Container) → same_container k j ≡ true → k ≡ j
container_equal list list e = refl
container_equal map map e = refl
container_equal array array e = refl
container_equal list map e = cc
container_equal list array e = cc
container_equal map list e = cc
container_equal map array e = cc
container_equal array list e = cc
container_equal array map e = cc

container_itself : (k : Container) → same_container k k ≡ true
container_itself list = refl
container_itself map = refl
container_itself array = refl

-- what a descriptor is made of
abbrev described_so : Primitive → Descriptor
described_so (symbol s) = name s
described_so p = code (number p)

descriptor_is : (d : Descriptor) → described_so (descriptor_value d) ≡ d
descriptor_is (name s) = refl
descriptor_is (code n) = refl

descriptor_equal : (d e : Descriptor) → same_primitive (descriptor_value d) (descriptor_value e) ≡ true → d ≡ e
descriptor_equal d e h =
    sym (descriptor_is d) ∙ ap described_so (primitive_equal (descriptor_value d) (descriptor_value e) h) ∙ descriptor_is e

mutual
  term_equal : (t u : Term) → same_term t u ≡ true → t ≡ u
  term_equal (leaf p) (leaf q) e = ap leaf (primitive_equal p q e)
  term_equal (container k ts) (container j us) e =
      let a = and_parts (same_container k j) (same_terms ts us) e in ap₂ container (container_equal k j a.0) (terms_equal ts us a.1)
  term_equal (described d t) (described f u) e =
      let a = and_parts (same_primitive (descriptor_value d) (descriptor_value f)) (same_term t u) e in
      ap₂ described (descriptor_equal d f a.0) (term_equal t u a.1)
  term_equal (leaf p) (container j us) e = cc
  term_equal (leaf p) (described f u) e = cc
  term_equal (leaf p) (kept b) e = cc
  term_equal (leaf p) (barred r) e = cc
  term_equal (container k ts) (leaf q) e = cc
  term_equal (container k ts) (described f u) e = cc
  term_equal (container k ts) (kept b) e = cc
  term_equal (container k ts) (barred r) e = cc
  term_equal (described d t) (leaf q) e = cc
  term_equal (described d t) (container j us) e = cc
  term_equal (described d t) (kept b) e = cc
  term_equal (described d t) (barred r) e = cc
  term_equal (kept a) u e = cc
  term_equal (barred a) u e = cc

  terms_equal : (ts us : Terms) → same_terms ts us ≡ true → ts ≡ us
  terms_equal none none e = refl
  terms_equal none (more u us) e = cc
  terms_equal (more t ts) none e = cc
  terms_equal (more t ts) (more u us) e =
      let a = and_parts (same_term t u) (same_terms ts us) e in ap₂ more (term_equal t u a.0) (terms_equal ts us a.1)

mutual
  term_itself : (t : Term) → IsTree t → same_term t t ≡ true
  term_itself (leaf p) h = primitive_itself p
  term_itself (container k ts) h = and_from (same_container k k) (same_terms ts ts) (container_itself k) (terms_themselves ts h)
  term_itself (described d t) h =
      and_from (same_primitive (descriptor_value d) (descriptor_value d)) (same_term t t) (primitive_itself (descriptor_value d))
      (term_itself t h)
  term_itself (kept b) h = absurd h
  term_itself (barred r) h = absurd h

  terms_themselves : (ts : Terms) → AreTrees ts → same_terms ts ts ≡ true
  terms_themselves none h = refl
  terms_themselves (more t ts) h = and_from (same_term t t) (same_terms ts ts) (term_itself t h.0) (terms_themselves ts h.1)

pub terms_decide : (t u : Term) → IsTree t → Decides (same_term t u) (t ≡ u)
terms_decide t u h = (term_equal t u, λ e. subst (λ x. same_term t x ≡ true) e (term_itself t h))

-- what holds of either
at_either : {A : Type 0} (P : A → Type 0) (b : Bool) (x y : A) → P x → P y → P (cond b x y)
at_either P true x y p q = p
at_either P false x y p q = q

-- no bytes are kept in it
mutual
  pub maps_plain : (t : Term) → IsTree t → KeepsNoBytes (barred_maps t)
  maps_plain (leaf p) h = tt
  maps_plain (container k ts) h =
      at_either KeepsNoBytes (is_ambiguous k ts) (barred duplicate_key) (container k (all_barred_maps ts)) tt (all_maps_plain ts h)
  maps_plain (described d t) h = maps_plain t h
  maps_plain (kept b) h = absurd h
  maps_plain (barred r) h = tt

  all_maps_plain : (ts : Terms) → AreTrees ts → KeepNoBytes (all_barred_maps ts)
  all_maps_plain none h = tt
  all_maps_plain (more t ts) h = (maps_plain t h.0, all_maps_plain ts h.1)

pub maps_count : (ts : Terms) → count (all_barred_maps ts) ≡ count ts
maps_count none = refl
maps_count (more t ts) = ap suc (maps_count ts)

-- its numbers and texts are those of the term
container_valued : (k : Container) (ts : Terms) → IsValue (container k ts) → IsValue (container k (all_barred_maps ts))
container_valued list ts h = tt
container_valued map ts h = rw (maps_count ts) h
container_valued array ts h = tt

mutual
  pub maps_valued : (t : Term) → Everywhere IsValue t → Everywhere IsValue (barred_maps t)
  maps_valued (leaf p) h = h
  maps_valued (container k ts) h =
      at_either (Everywhere IsValue) (is_ambiguous k ts) (barred duplicate_key) (container k (all_barred_maps ts)) tt
      (container_valued k ts h.0, all_maps_valued ts h.1)
  maps_valued (described d t) h = (h.0, maps_valued t h.1)
  maps_valued (kept b) h = h
  maps_valued (barred r) h = h

  all_maps_valued : (ts : Terms) → EverywhereIn IsValue ts → EverywhereIn IsValue (all_barred_maps ts)
  all_maps_valued none h = tt
  all_maps_valued (more t ts) h = (maps_valued t h.0, all_maps_valued ts h.1)

-- where nothing is barred, it is the term itself
unambiguous : (b : Bool) (k : Container) (ts us : Terms) → (((r : Refusal) → BarsAny r ts → ⊥) → ts ≡ us)
    → IsFree (cond b (barred duplicate_key) (container k ts)) → cond b (barred duplicate_key) (container k ts) ≡ container k us
unambiguous true k ts us f h = absurd (h duplicate_key refl)
unambiguous false k ts us f h = ap (container k) (f h)

mutual
  pub maps_free : (t : Term) → IsFree (barred_maps t) → barred_maps t ≡ t
  maps_free (leaf p) h = refl
  maps_free (container k ts) h = unambiguous (is_ambiguous k ts) k (all_barred_maps ts) ts (all_maps_free ts) h
  maps_free (described d t) h = ap (described d) (maps_free t h)
  maps_free (kept b) h = refl
  maps_free (barred r) h = refl

  all_maps_free : (ts : Terms) → ((r : Refusal) → BarsAny r (all_barred_maps ts) → ⊥) → all_barred_maps ts ≡ ts
  all_maps_free none h = refl
  all_maps_free (more t ts) h =
      ap₂ more (maps_free t (λ r b. h r (inl b))) (all_maps_free ts (λ r b. h r (inr b)))

-- it is null where the term is
pub maps_null : (t : Term) → is_null (barred_maps t) ≡ is_null t
maps_null (leaf p) = refl
maps_null (container k ts) =
    at_either (λ x. is_null x ≡ false) (is_ambiguous k ts) (barred duplicate_key) (container k (all_barred_maps ts)) refl refl
maps_null (described d t) = refl
maps_null (kept b) = refl
maps_null (barred r) = refl
