-- The first code of a term tells its kind.
use Rattle.std.proofs.Common.{◌≡◌, ℕ, Bool, true, false, cond, eqb, List, [], ◌∷◌, Option, Some, None, unwrap_or, refl, sym, ap}
use Rattle.std.proofs.Common.{◌∙◌, subst, arith, length, length-append, append_assoc, ◌++◌, drop}
use Rattle.std.proofs.lemmas.Bool.{eqb-true}
use Rattle.std.proofs.lemmas.List.{drop_at}
use Rattle.amqp_model.specs.Term.{Primitive, Container, list, map, array, Descriptor, Term, leaf, container, described, kept, barred, count}
use Rattle.amqp_model.specs.Constructors.{Format, fixed, variable, compound, unknown, format}
use Rattle.amqp_model.specs.Spelling.{PrimitiveData, ContainerData, Constructor, IsDataOf, AreItemsOf, AreElementsOf, IsSpelling}
use Rattle.amqp_lookahead.specs.Kinds.{kind_of, kind_under, kind_at as number_at}
use Rattle.amqp_lookahead.proofs.KindsOfCodes.{kind_data}
use Rattle.amqp_decoder.specs.State.{State, after_value, counted_in}
use Rattle.amqp_decoder.specs.Reading.{ReadsCode, IsFirst, PeeksCode}
use Rattle.amqp_decoder.specs.Primitives.{standing, SpellsAs, Stands}
use Rattle.amqp_decoder.proofs.Counts.{may_begin}
use Rattle.amqp_decoder.proofs.ReadPrimitives.{begun_same}
use Rattle.amqp_decoder.proofs.Steps.{has_less}
use Rattle.amqp_kinds.specs.declared.kind.Kind.{Kind}
use Rattle.amqp_kinds.specs.declared.kind.Kind.TheVariants as kind
use Rattle.amqp_kinds.specs.Kinds.{kind_numbered, container_kind, term_kind, format_kind, kind_at}

-- a code that isn't 0
behind_zero : (c : ℕ) (k : Kind) → (c ≡ 0 → ⊥) → format_kind (format c) ≡ k → kind_at c ≡ k
behind_zero c k some e = by_test (eqb c 0) refl
  where
    by_test : (t : Bool) → eqb c 0 ≡ t → cond t kind.Described (format_kind (format c)) ≡ k
    by_test true z = absurd (some (eqb-true c 0 z))
    by_test false z = e

primitive_under : (F : Format) (p : Primitive) (b : List ℕ) (n : ℕ) → PrimitiveData F p b → kind_under F ≡ Some n
    → format_kind F ≡ kind_numbered n
primitive_under (fixed w v) p b n h e = ap (λ o. kind_numbered (unwrap_or o 0)) e
primitive_under (variable w v) p b n h e = ap (λ o. kind_numbered (unwrap_or o 0)) e
primitive_under (compound j w) p b n h e = absurd h
primitive_under unknown p b n h e = absurd h

leaf_kind : (p : Primitive) (c : ℕ) (b : List ℕ) → PrimitiveData (format c) p b → kind_at c ≡ kind_numbered (kind_of p)
unfolding number_at
leaf_kind p c b h =
    behind_zero c (kind_numbered (kind_of p)) (λ e. subst (λ k. PrimitiveData (format k) p b) e h)
    (primitive_under (format c) p b (kind_of p) h (kind_data c p b h))

container_under : (F : Format) (k : Container) (n : ℕ) (C : List ℕ → Type 0) (b : List ℕ) → ContainerData F k n C b
    → format_kind F ≡ container_kind k
container_under (fixed w v) k n C b h = absurd h
container_under (variable w v) k n C b h = absurd h
container_under (compound j w) k n C b h = ap container_kind h.0
container_under unknown k n C b h = absurd h

container_at : (k : Container) (n : ℕ) (C : List ℕ → Type 0) (c : ℕ) (b : List ℕ) → ContainerData (format c) k n C b
    → kind_at c ≡ container_kind k
container_at k n C c b h =
    behind_zero c (container_kind k) (λ e. subst (λ x. ContainerData (format x) k n C b) e h) (container_under (format c) k n C b h)

pub data_kind : (t : Term) (c : ℕ) (b : List ℕ) → IsDataOf t [] c b → kind_at c ≡ term_kind t
data_kind (leaf p) c b h = leaf_kind p c b h
data_kind (container list ts) c b h = container_at list (count ts) (AreItemsOf ts) c b h
data_kind (container map ts) c b h = container_at map (count ts) (AreItemsOf ts) c b h.1
data_kind (container array ts) c b h = container_at array (count ts) (AreElementsOf ts) c b h
data_kind (described d t) c b h = absurd h
data_kind (kept x) c b h = absurd h
data_kind (barred r) c b h = absurd h

named_kind : (t : Term) (d : Descriptor) (ds : List Descriptor) (c : ℕ) (b : List ℕ) → IsDataOf t (d ∷ ds) c b → kind.Described ≡ term_kind t
named_kind (leaf p) d ds c b h = absurd h
named_kind (container list ts) d ds c b h = absurd h
named_kind (container map ts) d ds c b h = absurd h
named_kind (container array ts) d ds c b h = absurd h
named_kind (described e t) d ds c b h = refl
named_kind (kept x) d ds c b h = absurd h
named_kind (barred r) d ds c b h = absurd h

-- the first code of a term, and its kind
record Begins (o : Option (List Descriptor × ℕ)) (s : List ℕ) (t : Term) : Type 0 where
  code : ℕ
  own : List ℕ
  others : List ℕ
  first : IsFirst o code own
  whole : s ≡ own ++ others
  tells : kind_at code ≡ term_kind t

begins_own : (ds : List Descriptor) (c : ℕ) (x y s : List ℕ) (t : Term) → s ≡ x ++ y → Constructor ds c x
    → IsDataOf t ds c y → Begins None s t
begins_own [] c x y s t e k h = record { code = c; own = x; others = y; first = k.0; whole = e; tells = data_kind t c y h }
begins_own (d ∷ ds) c x y s t e (first, second, is, names, k) h = record {
  code = 0;
  own = 0 ∷ [];
  others = (first ++ second) ++ y;
  first = refl;
  whole = e ∙ ap (λ z. z ++ y) is;
  tells = named_kind t d ds c y h;
}

begins : (o : Option (List Descriptor × ℕ)) (s : List ℕ) (t : Term) → SpellsAs (standing o s) t → Begins o s t
unfolding IsSpelling
begins None s t (ds, c, few, (x, y, e, k, h)) = begins_own ds c x y s t e k h
begins (Some ([], k)) s t h =
    record { code = k; own = []; others = s; first = (refl, refl); whole = refl; tells = data_kind t k s h }
begins (Some (d ∷ ds, k)) s t h =
    record { code = 0; own = []; others = s; first = (refl, refl); whole = refl; tells = named_kind t d ds k s h }

-- the code that was looked at tells the kind of the term that stands there
pub kind_there : (st : State) (c : ℕ) (mid : State) (s : List ℕ) (t : Term) → PeeksCode st c mid → Stands st s t → kind_at c ≡ term_kind t
kind_there st c mid s t p h =
    let f = begins st.top.shared s t h.spelled in
    let own = f.own in
    let whole : st.rest ≡ own ++ (f.others ++ h.after) = h.rest ∙ ap (λ x. x ++ h.after) f.whole ∙ append_assoc own f.others h.after in
    let b : ReadsCode st f.code (after_value (length own) (counted_in st.top.shared f.code) st) = record {
      going = h.going;
      item = h.item;
      own = own;
      first = f.first;
      room = has_less st.top.left (length own) (length s) (omega (arith, ap length f.whole, length-append own f.others)) h.room;
      rest = whole ∙ ap (λ x. own ++ x) (sym (drop_at own (f.others ++ h.after) (length own) refl) ∙ ap (drop (length own)) (sym whole));
      few = may_begin st.quota st.top.shared t s f.code h.spelled h.few;
      moved = refl;
    } in
    ap kind_at (begun_same st c f.code p.after (after_value (length own) (counted_in st.top.shared f.code) st) p.begun b).0 ∙ f.tells
