-- A fault whose error says of the bytes that they are no term stands only where none stands.
use Rattle.std.proofs.Common.{◌≡◌, ℕ, ◌+◌, Option, Some, None, List, [], ◌∷◌, ◌++◌, length, drop, unwrap_or, refl, sym, ap, ◌∙◌, subst}
use Rattle.std.proofs.Common.{append_assoc, length-append}
use Rattle.std.proofs.lemmas.List.{drop_at}
use Rattle.amqp_model.specs.Term.{Refusal, Primitive, list, map, array, Container, Term, Terms, leaf, container, described, kept, barred}
use Rattle.amqp_model.specs.Term.{Descriptor}
use Rattle.amqp_model.specs.Constructors.{Format, fixed, variable, compound, unknown, format}
use Rattle.amqp_model.specs.Spelling.{PrimitiveData, IsKnown, IsDataOf, IsSpelling}
use Rattle.amqp_model.proofs.Forms.{primitive_known}
use Rattle.amqp_wire.specs.declared.error.Error.{Error}
use Rattle.amqp_wire.specs.Codes.{refusal_of}
use Rattle.amqp_lookahead.specs.Kinds.{kind_of, kind_under, kind_at}
use Rattle.amqp_lookahead.specs.Members.{Member}
use Rattle.amqp_lookahead.proofs.KindsOfCodes.{kind_data}
use Rattle.amqp_decoder.specs.declared.frame.Place.{Place}
use Rattle.amqp_decoder.specs.State.{State, Has, after_value, counted_in, weight_at}
use Rattle.amqp_decoder.specs.Reading.{IsFirst, ReadsCode, BeginFault}
use Rattle.amqp_decoder.specs.Primitives.{standing, SpellsAs, Stands, ReadsValue, Means, PrimitiveFault, not_begun, wrong_code, no_data}
use Rattle.amqp_decoder.specs.Primitives.{bad_data}
use Rattle.amqp_decoder.specs.Containers.{EndFault, other_place, nothing_open, items_left, OpenFault}
use Rattle.amqp_decoder.specs.Containers as containers
use Rattle.amqp_decoder.specs.Described.{OpensDescribed, DescribedFault, not_open, nameless, OneOfFault, not_described, no_descriptor}
use Rattle.amqp_decoder.specs.Described.{no_member}
use Rattle.amqp_decoder.specs.Described as described
use Rattle.amqp_decoder.specs.Arrays.{ArrayFault}
use Rattle.amqp_decoder.specs.Arrays as arrays
use Rattle.amqp_decoder.specs.Rooms.{HasRoom}
use Rattle.amqp_decoder.specs.Terms.{TermFault, missing, in_array, misspelled, too_many}
use Rattle.amqp_decoder.specs.Items.{Next}
use Rattle.amqp_decoder.specs.Misspelled.{IsMisspelling, NothingStands}
use Rattle.amqp_decoder.proofs.Counts.{may_begin}
use Rattle.amqp_decoder.proofs.ReadPrimitives.{has_front, split_leaf, value_leaf, begun_same, fault_not_begun, fault_not_leaf}
use Rattle.amqp_decoder.proofs.Opening.{opens_not_faulty}
use Rattle.amqp_decoder.proofs.ContainerTerms.{IsRow, container_bare, front_of, container_split, known, parts}
use Rattle.amqp_decoder.proofs.Descriptors.{fault_not_open}
use Rattle.amqp_decoder.proofs.Descriptions.{described_split, term_described}
use Rattle.amqp_decoder.proofs.OpenedArrays.{arrays_not}
use Rattle.amqp_decoder.proofs.ArrayTerms.{array_parts}
use Rattle.amqp_decoder.proofs.Rooms.{room_for_array}
use Rattle.amqp_decoder.proofs.KeptTerms.{misspelled_not, counted_not}
use Rattle.amqp_decoder.proofs.TermErrors.{refusal_misspelled}

-- The term is one of those that begin with the code.
abbrev pub IsUnder : ℕ → Term → Type 0
IsUnder c (leaf p) = (b : List ℕ) × PrimitiveData (format c) p b
IsUnder c (container kind us) = (w : ℕ) × (format c ≡ compound kind w)
IsUnder c (described d t) = c ≡ 0
IsUnder c (kept b) = ⊥
IsUnder c (barred r) = ⊥

-- the first bytes of a term, and what follows them
record First (o : Option (List Descriptor × ℕ)) (t : Term) (s : List ℕ) : Type 0 where
  pub code : ℕ
  pub own : List ℕ
  pub others : List ℕ
  pub whole : s ≡ own ++ others
  pub first : IsFirst o code own
  pub under : IsUnder code t

container_under : (kind : Container) (us : Terms) (c : ℕ) (b : List ℕ) → IsDataOf (container kind us) [] c b → IsUnder c (container kind us)
container_under list us c b h = let s = container_split (format c) list _ _ b h in (s.width, s.announced)
container_under map us c b h = let s = container_split (format c) map _ _ b h.1 in (s.width, s.announced)
container_under array us c b h = let s = container_split (format c) array _ _ b h in (s.width, s.announced)

unspelled : (o : Option (List Descriptor × ℕ)) (t : Term) (s : List ℕ)
    → ((ds : List Descriptor) (c : ℕ) (b : List ℕ) → IsDataOf t ds c b → ⊥) → SpellsAs (standing o s) t → ⊥
unfolding IsSpelling
unspelled None t s never (ds, c, few, (x, y, e, k, d)) = never ds c y d
unspelled (Some (ds, c)) t s never d = never ds c s d

never_kept : (l : List ℕ) (ds : List Descriptor) (c : ℕ) (b : List ℕ) → IsDataOf (kept l) ds c b → ⊥
never_kept l [] c b d = d
never_kept l (e ∷ ds) c b d = d

never_barred : (r : Refusal) (ds : List Descriptor) (c : ℕ) (b : List ℕ) → IsDataOf (barred r) ds c b → ⊥
never_barred r [] c b d = d
never_barred r (e ∷ ds) c b d = d

first_of : (o : Option (List Descriptor × ℕ)) (t : Term) (s : List ℕ) → SpellsAs (standing o s) t → First o t s
first_of o (leaf p) s h =
    let f = split_leaf o p s h in
    record { code = f.code; own = f.own; others = f.data_; whole = f.whole; first = f.first; under = (f.data_, f.spelled) }
first_of o (container kind us) s h =
    let f = front_of o (container kind us) s (container_bare kind us) h in
    record {
      code = f.code;
      own = f.own;
      others = f.data_;
      whole = f.whole;
      first = f.first;
      under = container_under kind us f.code f.data_ f.spelled;
    }
first_of o (described d t) s h =
    let f = described_split o s d t h in
    record { code = 0; own = f.0; others = f.1 ++ f.2; whole = f.5; first = f.3; under = refl }
first_of o (kept l) s h = absurd (unspelled o (kept l) s (never_kept l) h)
first_of o (barred r) s h = absurd (unspelled o (barred r) s (never_barred r) h)

-- The first code of a term that stands there.
record Stood (st : State) (t : Term) : Type 0 where
  pub code : ℕ
  pub mid : State
  pub begun : ReadsCode st code mid
  pub under : IsUnder code t

stood : (st : State) (s : List ℕ) (t : Term) → Stands st s t → Stood st t
stood st s t k =
    let f = first_of st.top.shared t s k.spelled in
    let n : length s ≡ length f.own + length f.others = ap length f.whole ∙ length-append f.own f.others in
    let here : st.rest ≡ f.own ++ (f.others ++ k.after) = k.rest ∙ ap (λ l. l ++ k.after) f.whole ∙ append_assoc f.own f.others k.after in
    let behind : drop (length f.own) st.rest ≡ f.others ++ k.after =
    ap (drop (length f.own)) here ∙ drop_at f.own (f.others ++ k.after) (length f.own) refl in
    record {
      code = f.code;
      mid = after_value (length f.own) (counted_in st.top.shared f.code) st;
      begun = record {
        going = k.going;
        item = k.item;
        own = f.own;
        first = f.first;
        room = has_front st.top.left (length f.own) (length f.others) (subst (Has st.top.left) n k.room);
        rest = here ∙ ap (λ l. f.own ++ l) (sym behind);
        few = may_begin st.quota st.top.shared t s f.code k.spelled k.few;
        moved = refl;
      };
      under = f.under;
    }

pub term_under : (st : State) (c : ℕ) (m : State) (s : List ℕ) (t : Term) → ReadsCode st c m → Stands st s t → IsUnder c t
term_under st c m s t g k = let x = stood st s t k in subst (λ z. IsUnder z t) (begun_same st x.code c x.mid m x.begun g).0 x.under

-- a code that is refused as that of no term begins none
not_under : (c : ℕ) (t : Term) → (c ≡ 0 → ⊥) → (IsKnown (format c) → ⊥) → IsUnder c t → ⊥
not_under c (leaf p) some none (b, d) = none (primitive_known (format c) p b d)
not_under c (container kind us) some none (w, e) = none (known (format c) kind w e)
not_under c (described d t) some none e = some e
not_under c (kept l) some none h = h
not_under c (barred r) some none h = h

pub code_misspelled : (st : State) (c : ℕ) (m : State) (e : Error) → ReadsCode st c m → IsMisspelling e
    → e ≡ refusal_of c → NothingStands st
code_misspelled st c m e g h is = λ s t k.
    let r = refusal_misspelled c (subst IsMisspelling is h) in not_under c t r.0 r.1 (term_under st c m s t g k)

pub begin_misspelled : (st : State) (e : Error) → IsMisspelling e → BeginFault st e → NothingStands st
begin_misspelled st e h f = λ s t k. let x = stood st s t k in fault_not_begun st e x.code x.mid f x.begun

-- the term under a code of a kind is a primitive of it
leaf_under : (c k : ℕ) (t : Term) → kind_at c ≡ Some k → IsUnder c t → (p : Primitive) × (t ≡ leaf p) × (kind_of p ≡ k)
unfolding kind_at
leaf_under c k (leaf p) is (b, d) =
    let same : Some (kind_of p) ≡ Some k = sym (kind_data c p b d) ∙ is in
    (p, refl, ap (λ o. unwrap_or o 0) same)
leaf_under c k (container kind us) is (w, e) = let same : Some k ≡ None = sym is ∙ ap kind_under e in absurd (cc)
leaf_under c k (described d t) is e = let same : Some k ≡ None = sym is ∙ ap kind_at e in absurd (cc)
leaf_under c k (kept l) is h = absurd h
leaf_under c k (barred r) is h = absurd h

data_misspelled : (k c : ℕ) (st m : State) (e : Error) → ReadsCode st c m → kind_at c ≡ Some k → PrimitiveFault k st e → NothingStands st
data_misspelled k c st m e g kind f = λ s t x.
    let y = leaf_under c k t kind (term_under st c m s t g x) in
    let b = after_value (length s) (weight_at st t) st in
    let v : ReadsValue (Means (λ p. p)) st y.0 b = record { bytes = s; term = t; stands = x; moved = refl; meant = y.1 } in
    fault_not_leaf k st e y.0 b y.2 f (value_leaf (λ p. p) st y.0 b v)

pub primitive_misspelled : (k : ℕ) (st : State) (e : Error) → IsMisspelling e → PrimitiveFault k st e → NothingStands st
primitive_misspelled k st e h (not_begun f) = begin_misspelled st e h f
primitive_misspelled k st e h (wrong_code {c} {m} g other is) = code_misspelled st c m e g h is
primitive_misspelled k st e h (no_data {c} {m} g kind l) = data_misspelled k c st m e g kind (no_data g kind l)
primitive_misspelled k st e h (bad_data {c} {m} g kind t whole none is) =
    data_misspelled k c st m e g kind (bad_data g kind t whole none is)

held : Format → Option Container
held (fixed w f) = None
held (variable w f) = None
held (compound kind w) = Some kind
held unknown = None

one_kind : (F : Format) (kind j : Container) (w v : ℕ) → F ≡ compound kind w → F ≡ compound j v → kind ≡ j
unfolding held
one_kind F kind j w v e f = let same : Some kind ≡ Some j = sym (ap held e) ∙ ap held f in cc

-- the term under a container's code is one of its kind
pub container_there : (c : ℕ) (kind : Container) (w : ℕ) (t : Term) → format c ≡ compound kind w → IsUnder c t
    → (us : Terms) × (t ≡ container kind us)
container_there c kind w (leaf p) is (b, d) = absurd (subst (λ F. PrimitiveData F p b) is d)
container_there c kind w (container j us) is (v, e) = (us, ap (λ x. container x us) (one_kind (format c) j kind v w e is))
container_there c kind w (described d t) is e = absurd (subst (λ z. IsKnown (format z)) e (known (format c) kind w is))
container_there c kind w (kept l) is h = absurd h
container_there c kind w (barred r) is h = absurd h

-- what stands there is taken
pub next_of : (st : State) (s : List ℕ) (t u : Term) → Stands st s t → t ≡ u → Next st u (after_value (length s) (weight_at st t) st)
next_of st s t u k is =
    record { bytes = s; stands = subst (Stands st s) is k; moved = ap (λ x. after_value (length s) (weight_at st x) st) is }

pub open_misspelled : (kind : Container) → IsRow kind → (st : State) (e : Error) → IsMisspelling e → OpenFault kind st e → NothingStands st
open_misspelled kind row st e h (containers.not_begun f) = begin_misspelled st e h f
open_misspelled kind row st e h (containers.wrong_code {c} {m} g never is) = code_misspelled st c m e g h is
open_misspelled kind row st e h (containers.no_data {c} {width = w} {m} g is f) = λ s t k.
    let x = container_there c kind w t is (term_under st c m s t g k) in
    let y = parts kind row st x.0 (after_value (length s) (weight_at st t) st) (next_of st s t (container kind x.0) k x.1) in
    opens_not_faulty kind st y.count y.mid e (containers.no_data g is f) y.opened

-- the term behind the code 0 is described
pub described_there : (c : ℕ) (t : Term) → c ≡ 0 → IsUnder c t → (d : Descriptor) × (u : Term) × (t ≡ described d u)
described_there c (leaf p) is (b, d) = absurd (subst (λ z. PrimitiveData (format z) p b) is d)
described_there c (container kind us) is (w, e) = absurd (subst (λ z. IsKnown (format z)) is (known (format c) kind w e))
described_there c (described d t) is e = (d, t, refl)
described_there c (kept l) is h = absurd h
described_there c (barred r) is h = absurd h

mark_misspelled : (st m : State) (e : Error) → ReadsCode st 0 m → described.OpenFault st e → NothingStands st
mark_misspelled st m e g f = λ s t k.
    let x = described_there 0 t refl (term_under st 0 m s t g k) in
    let y = term_described st x.0 x.1 (after_value (length s) (weight_at st t) st) (next_of st s t (described x.0 x.1) k x.2) in
    fault_not_open st e x.0 y.inner f y.opens

pub described_misspelled : (st : State) (e : Error) → IsMisspelling e → described.OpenFault st e → NothingStands st
described_misspelled st e h (not_open (described.not_begun f)) = begin_misspelled st e h f
described_misspelled st e h (not_open (described.other_code {c} {m} g other is)) = code_misspelled st c m e g h is
described_misspelled st e h (not_open (described.too_deep {m} g deep is)) =
    mark_misspelled st m e g (not_open (described.too_deep g deep is))
described_misspelled st e h (nameless {m} g none f) = mark_misspelled st m e g (nameless g none f)

pub one_of_misspelled : (members : List Member) (st : State) (e : Error) → IsMisspelling e → OneOfFault members st e → NothingStands st
one_of_misspelled members st e h (not_described f) = described_misspelled st e h (not_open f)
one_of_misspelled members st e h (no_descriptor g none f) = described_misspelled st e h (nameless g none f)
one_of_misspelled members st e h (no_member g t is) = absurd (subst IsMisspelling is h)

pub end_misspelled : (place : Place) (st : State) (e : Error) → IsMisspelling e → EndFault place st e → ⊥
end_misspelled place st e h (other_place other is) = subst IsMisspelling is h
end_misspelled place st e h (nothing_open none is) = subst IsMisspelling is h
end_misspelled place st e h (items_left open_ some is) = subst IsMisspelling is h

pub term_misspelled : (st : State) (e : Error) → IsMisspelling e → TermFault st e → NothingStands st
term_misspelled st e h (missing none is) = absurd (subst IsMisspelling is h)
term_misspelled st e h (in_array item shared is) = absurd (subst IsMisspelling is h)
term_misspelled st e h (misspelled item none f) =
    λ s t k. misspelled_not st e s k.after t f k.room k.rest (subst (λ o. SpellsAs (standing o s) t) none k.spelled) k.nested
term_misspelled st e h (too_many {s = r} {m} g full is) = λ s t k. counted_not st r m s t g full k

pub array_misspelled : (st : State) (e : Error) → HasRoom st → IsMisspelling e → ArrayFault st e → NothingStands st
array_misspelled st e room h (arrays.not_begun f) = begin_misspelled st e h f
array_misspelled st e room h (arrays.wrong_code c m g never is) = code_misspelled st c m e g h is
array_misspelled st e room h (arrays.no_data c w m g is f) = λ s t k.
    let x = container_there c array w t is (term_under st c m s t g k) in
    let few = room_for_array st x.0 s room (subst (Stands st s) x.1 k) in
    let y = array_parts st x.0 (after_value (length s) (weight_at st t) st) few (next_of st s t (container array x.0) k x.1) in
    arrays_not st y.count y.mid e (arrays.no_data c w m g is f) y.opened
