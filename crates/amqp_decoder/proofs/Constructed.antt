-- Constructors, and the arrays whose items share them.
use Rattle.std.proofs.Common.{◌<◌, ◌≡◌, ◌≤◌, ℕ, ◌+◌, ◌⊎◌, inl, inr, Bool, true, false, not, eqb, leb, ◌↔◌, IsTrue, None, List, [], ◌∷◌, ◌++◌}
use Rattle.std.proofs.Common.{suc, length, drop, map, get_or, refl, sym, ap, ◌∙◌, subst, arith, append_assoc, length-append}
use Rattle.std.proofs.lemmas.Bool.{eqb-true, leb-true, le-leb, or_cases, or_right}
use Rattle.std.proofs.lemmas.List.{drop_at, map-append}
use Rattle.amqp_wire.specs.declared.descriptor.Descriptor.{Descriptor as DescriptorValue}
use Rattle.amqp_model.specs.Term.{Descriptor}
use Rattle.amqp_model.specs.Constructors.{Format, fixed, variable, compound, unknown, format}
use Rattle.amqp_model.specs.Spelling.{IsKnown, HasWidthZero, Names, Constructor}
use Rattle.amqp_model.proofs.Same.{names_same, constructor_same}
use Rattle.amqp_wire.specs.declared.error.Error.{Error}
use Rattle.amqp_wire.specs.declared.error.Error.TheVariants.{Depth}
use Rattle.amqp_wire.specs.Codes.{refusal_of}
use Rattle.amqp_lengths.specs.Pieces.{IsPrimitive}
use Rattle.amqp_lengths.specs.Lengths.{Marks}
use Rattle.amqp_lengths.proofs.Descriptors.{marks_more, marks_done}
use Rattle.amqp_lengths.proofs.Codes.{zero_at, is_container, Divided, container_at}
use Rattle.amqp_decoder.specs.State.{refused_at, IsPlaceOf, State, DescriptorValues, descriptor_of, Has, after_data}
use Rattle.amqp_decoder.specs.Steps.{Answers, Takes, Lacks}
use Rattle.amqp_decoder.specs.Places.{Located, Here, At, StandsBefore, StopsAt}
use Rattle.amqp_decoder.specs.Described.{IsDescriptor, TakesDescriptor, DescriptorFault, MissesDescriptor}
use Rattle.amqp_decoder.specs.Arrays.{TakesMarks, TakesConstructor, ConstructorFault, no_code, no_mark, too_many, no_known_code, NoMarked, constructor_left, IsFlat}
use Rattle.amqp_decoder.proofs.ReadPrimitives.{has_front, has_rest, took_none}
use Rattle.amqp_decoder.proofs.Opening.{took_both, after_data-after_data}
use Rattle.amqp_decoder.proofs.Descriptors.{fault_not_names}
use Rattle.amqp_decoder.proofs.Steps.{answered, answered_took, not_lacking}
use Rattle.amqp_decoder.proofs.Places.{before_later, stops_as, stops_later}
use Rattle.amqp_lookahead.proofs.Looks.{front_is, rest_is}

-- a known code whose data has no bytes
pub known_zero : (c : ℕ) (none : Bool) → IsTrue none ↔ ((0x40 ≤ c) × (c ≤ 0x45)) → IsKnown (format c) → IsTrue none
    ↔ HasWidthZero (format c)
known_zero c none is k = (λ e. (zero_at c).1 (is.0 e) k, λ z. is.1 ((zero_at c).0 z))

container_is : (c : ℕ) → is_container c ≡ true → (c ≡ 0x45) ⊎ (0xc0 ≤ c)
container_is c h = elim (or_cases (eqb c 0x45) (leb 0xc0 c) h) [ inl x ↦ inl (eqb-true c 0x45 x) | inr y ↦ inr (leb-true 0xc0 c y) ]

is_container_of : (c : ℕ) → (c ≡ 0x45) ⊎ (0xc0 ≤ c) → is_container c ≡ true
is_container_of c (inl e) = subst (λ n. is_container n ≡ true) (sym e) refl
is_container_of c (inr h) = or_right (eqb c 0x45) (leb 0xc0 c) (le-leb 0xc0 c h)

primitive_flat : (F : Format) → IsPrimitive F → IsFlat [] F
primitive_flat (fixed w f) h = tt
primitive_flat (variable w f) h = tt
primitive_flat (compound k w) h = absurd h
primitive_flat unknown h = absurd h

flat_divided : (c : ℕ) (holds : Bool) → IsTrue holds ↔ ((c ≡ 0x45) ⊎ (0xc0 ≤ c)) → Divided c (format c)
    → IsTrue (not holds) ↔ IsFlat [] (format c)
flat_divided c true is (inl (p, e)) = let h = is_container_of c (is.0 refl) in absurd (cc)
flat_divided c false is (inl (p, e)) = (λ x. primitive_flat (format c) p, λ f. refl)
flat_divided c true is (inr (kind, w, f, e)) = (λ x. absurd (cc), λ h. absurd (subst (IsFlat []) f h))
flat_divided c false is (inr (kind, w, f, e)) = let h = is.1 (container_is c e) in absurd (cc)

pub flat_items : (c : ℕ) (l : DescriptorValues) (holds : Bool) → true ≡ eqb (length l) 0 → IsTrue holds ↔ ((c ≡ 0x45) ⊎ (0xc0 ≤ c))
    → IsKnown (format c) → IsTrue (not holds) ↔ IsFlat (map descriptor_of l) (format c)
flat_items c [] holds none is k = flat_divided c holds is (container_at c k)
flat_items c (d ∷ ds) holds none is k = let h = eqb-true (length (d ∷ ds)) 0 (sym none) in absurd (omega arith)

flat_any : (F : Format) → (IsKnown F → IsFlat [] F) → IsFlat [] F
flat_any (fixed w f) h = h tt
flat_any (variable w f) h = h tt
flat_any (compound k w) h = h tt
flat_any unknown h = tt

-- a code that isn't known holds no others, either
pub flat_found : (c : ℕ) (l : DescriptorValues) (holds : Bool) → true ≡ eqb (length l) 0 → IsTrue holds ↔ ((c ≡ 0x45) ⊎ (0xc0 ≤ c))
    → IsTrue (not holds) → IsFlat (map descriptor_of l) (format c)
flat_found c [] holds none is h = flat_any (format c) (λ k. (flat_items c [] holds none is k).0 h)
flat_found c (d ∷ ds) holds none is h = let h = eqb-true (length (d ∷ ds)) 0 (sym none) in absurd (omega arith)

-- the code of a constructor
pub code_known : (ds : List Descriptor) (c : ℕ) (b : List ℕ) → Constructor ds c b → IsKnown (format c)
code_known [] c b h = h.1
code_known (d ∷ ds) c b (first, second, is, names, h) = code_known ds c second h

-- marks in front of a constructor are marks of it
pub record Behind (ds es : List Descriptor) (c : ℕ) (a b y x : List ℕ) : Type 0 where
  pub others : List Descriptor
  pub rest : List ℕ
  pub spelled : Constructor others c rest
  pub is : b ≡ a ++ rest
  pub tail : y ≡ rest ++ x
  pub count : length es ≡ length ds + length others

behind_mark : (ds es : List Descriptor) (c : ℕ) (f a b y x : List ℕ) (d e : Descriptor) → Behind ds es c a b y x
    → Behind (d ∷ ds) (e ∷ es) c (0 ∷ (f ++ a)) (0 ∷ (f ++ b)) y x
behind_mark ds es c f a b y x d e h = record {
  others = h.others;
  rest = h.rest;
  spelled = h.spelled;
  is = ap (λ l. 0 ∷ (f ++ l)) h.is ∙ ap (λ l. 0 ∷ l) (sym (append_assoc f a h.rest));
  tail = h.tail;
  count = omega (arith, h.count);
}

pub marks_behind : (ds es : List Descriptor) (c : ℕ) (a b y x : List ℕ) → Marks ds a → Constructor es c b → a ++ y ≡ b ++ x
    → Behind ds es c a b y x
marks_behind [] es c a b y x h k e = record {
  others = es;
  rest = b;
  spelled = k;
  is = ap (λ l. l ++ b) (sym h);
  tail = ap (λ l. l ++ y) (sym h) ∙ e;
  count = omega arith;
}
marks_behind (d ∷ ds) [] c a b y x (first, second, is, names, h) k e =
    let same : 0 ≡ c = ap (λ l. get_or l 0 0) (ap (λ l. l ++ y) (sym is) ∙ e ∙ ap (λ l. l ++ x) k.0) in
    absurd (subst (λ z. IsKnown (format z)) (sym same) k.1)
marks_behind (d ∷ ds) (g ∷ es) c a b y x (first, second, is, names, h) (first', second', is', names', k) e =
    let whole : first ++ (second ++ y) ≡ first' ++ (second' ++ x) =
    sym (append_assoc first second y) ∙ ap (drop 1) (ap (λ l. l ++ y) (sym is) ∙ e ∙ ap (λ l. l ++ x) is')
    ∙ append_assoc first' second' x in
    let same = (names_same d g first first' (second ++ y) (second' ++ x) names names' whole).0 in
    let tail : second ++ y ≡ second' ++ x =
    sym (drop_at first (second ++ y) (length first) refl) ∙ ap (drop (length first)) whole
    ∙ ap (λ l. drop (length first) (l ++ (second' ++ x))) (sym same) ∙ drop_at first (second' ++ x) (length first) refl in
    let r = behind_mark ds es c first second second' y x d g (marks_behind ds es c second second' y x h k tail) in
    subst (λ l. Behind (d ∷ ds) (g ∷ es) c l b y x) (sym is)
    (subst (λ l. Behind (d ∷ ds) (g ∷ es) c (0 ∷ (first ++ second)) l y x) (ap (λ l. 0 ∷ (l ++ second')) same ∙ sym is') r)

-- bytes that were taken at once, one after another
pub took_parts : (st : State) (new : State) (a b : List ℕ) → Takes st (a ++ b) new → Takes st a (after_data (length a) st)
    × Takes (after_data (length a) st) b new
took_parts st new a b t =
    let long : length (a ++ b) ≡ length a + length b = length-append a b in
    let room : Has st.top.left (length a + length b) = subst (Has st.top.left) long t.room in
    let after = drop (length (a ++ b)) st.rest in
    let whole : st.rest ≡ a ++ (b ++ after) = t.rest ∙ append_assoc a b after in (
      record {
        room = has_front st.top.left (length a) (length b) room;
        rest = front_is a st.rest (b ++ after) (length a) refl whole;
        moved = refl;
      },
      record {
        room = has_rest st.top.left (length a) (length b) room;
        rest = front_is b (drop (length a) st.rest) after (length b) refl (sym (rest_is a st.rest (b ++ after) (length a) refl whole));
        moved = t.moved ∙ ap (λ n. after_data n st) long ∙ sym (after_data-after_data (length a) (length b) st);
      },
    )

constructor_long : (ds : List Descriptor) (c : ℕ) (b : List ℕ) → Constructor ds c b → 1 ≤ length b
constructor_long [] c b h = omega (arith, ap length h.0)
constructor_long (d ∷ ds) c b (first, second, is, names, h) = omega (arith, ap length is)

-- a further code in front of which marks stand
begins : (ds : List Descriptor) (c k : ℕ) (b z x : List ℕ) → Constructor ds c b → k ∷ z ≡ b ++ x → ((k ≡ c) × IsKnown (format c))
    ⊎ ((k ≡ 0) × (1 ≤ length ds))
begins [] c k b z x h e = inl (ap (λ l. get_or l 0 0) (e ∙ ap (λ l. l ++ x) h.0), h.1)
begins (d ∷ ds) c k b z x (first, second, is, names, h) e = inr (ap (λ l. get_or l 0 0) (e ∙ ap (λ l. l ++ x) is), omega arith)

code_behind : (st : State) (gs ds : List Descriptor) (c k : ℕ) (m : State) (new : State) (t : TakesMarks st gs k m)
    (h : TakesConstructor st ds c new)
    → Behind gs ds c t.own h.own (k ∷ drop (length (t.own ++ (k ∷ []))) st.rest) (drop (length h.own) st.rest)
code_behind st gs ds c k m new t h =
    marks_behind gs ds c t.own h.own (k ∷ drop (length (t.own ++ (k ∷ []))) st.rest) (drop (length h.own) st.rest) t.marks h.spelled
    (sym (append_assoc t.own (k ∷ []) (drop (length (t.own ++ (k ∷ []))) st.rest)) ∙ sym t.took.rest ∙ h.took.rest)

not_marked : (st : State) (os : List Descriptor) (c : ℕ) (own whole rest x z : List ℕ) (m : State) (new : State) (e : Error)
    → Constructor os c rest → Takes st (own ++ (0 ∷ [])) m → Takes st whole new → whole ≡ own ++ rest → 0 ∷ z ≡ rest ++ x
    → DescriptorFault m e → ⊥
not_marked st [] c own whole rest x z m new e h t u is tail f =
    let same : 0 ≡ c = ap (λ l. get_or l 0 0) (tail ∙ ap (λ l. l ++ x) h.0) in
    subst (λ n. IsKnown (format n)) (sym same) h.1
not_marked st (d ∷ ds) c own whole rest x z m new e (first, second, is_rest, (k, data_, is_first, spelled), h) t u is tail f =
    let regroup : whole ≡ ((own ++ (0 ∷ [])) ++ first) ++ second =
    is ∙ ap (λ l. own ++ l) is_rest ∙ sym (append_assoc own (0 ∷ []) (first ++ second))
    ∙ sym (append_assoc (own ++ (0 ∷ [])) first second) in
    let v = took_parts st new ((own ++ (0 ∷ [])) ++ first) second (subst (λ s. Takes st s new) regroup u) in
    let w = took_parts st (after_data (length ((own ++ (0 ∷ [])) ++ first)) st) (own ++ (0 ∷ [])) first v.0 in
    let names = subst (λ s. Takes m s (after_data (length ((own ++ (0 ∷ [])) ++ first)) st)) is_first
    (subst (λ s. Takes s first (after_data (length ((own ++ (0 ∷ [])) ++ first)) st)) (sym t.moved) w.1) in
    fault_not_names m e d (after_data (length ((own ++ (0 ∷ [])) ++ first)) st) k data_ f spelled names

pub constructor_not : (st : State) (e : Error) (ds : List Descriptor) (c : ℕ) (new : State) → ConstructorFault st e
    → TakesConstructor st ds c new → ⊥
constructor_not st e ds c new (no_code gs own m few marks t l) h =
    let r = marks_behind gs ds c own h.own (drop (length own) st.rest) (drop (length h.own) st.rest) marks h.spelled
    (sym t.rest ∙ h.took.rest) in
    let v = (took_parts st new own r.rest (subst (λ s. Takes st s new) r.is h.took)).1 in
    not_lacking 1 (after_data (length own) st) e r.rest (drop (length r.rest) (drop (length own) st.rest))
    (subst (λ (z : State). Lacks 1 z e) t.moved l) (constructor_long r.others c r.rest r.spelled) v.room v.rest
constructor_not st e ds c new (no_mark gs m few t f) h =
    let r = code_behind st gs ds c 0 m new t h in
    not_marked st r.others c t.own h.own r.rest (drop (length h.own) st.rest) (drop (length (t.own ++ (0 ∷ []))) st.rest) m new e r.spelled
    t.took h.took r.is r.tail f
constructor_not st e ds c new (too_many gs m many t is) h =
    let r = code_behind st gs ds c 0 m new t h in
    elim (begins r.others c 0 r.rest (drop (length (t.own ++ (0 ∷ []))) st.rest) (drop (length h.own) st.rest) r.spelled r.tail) [
      | inl x ↦ subst (λ n. IsKnown (format n)) (sym x.0) x.1
      | inr x ↦ let few = h.few in let n = r.count in omega (arith, few, n, many, x.1)
    ]
constructor_not st e ds c new (no_known_code gs k m few t some never is) h =
    let r = code_behind st gs ds c k m new t h in
    elim (begins r.others c k r.rest (drop (length (t.own ++ (k ∷ []))) st.rest) (drop (length h.own) st.rest) r.spelled r.tail) [
      | inl x ↦ never (subst (λ n. IsKnown (format n)) (sym x.0) x.1)
      | inr x ↦ some x.0
    ]

-- one constructor stands in one place
pub one_constructor : (st : State) (ds es : List Descriptor) (c k : ℕ) (m m' : State) → TakesConstructor st ds c m
    → TakesConstructor st es k m' → (ds ≡ es) × (c ≡ k) × (m ≡ m')
one_constructor st ds es c k m m' t u =
    let s = constructor_same ds es c k t.own u.own (drop (length t.own) st.rest) (drop (length u.own) st.rest) t.spelled u.spelled
    (sym t.took.rest ∙ u.took.rest) in
    (s.1.0, s.1.1, t.took.moved ∙ ap (λ l. after_data (length l) st) s.0 ∙ sym u.took.moved)

marked_none : (st : State) (ds : List Descriptor) (c : ℕ) (m : State) → TakesMarks st ds c m → st.top.shared ≡ None → m.top.shared ≡ None
marked_none st ds c m t none = ap (λ (z : State). z.top.shared) t.took.moved ∙ none

pub unshared_behind : (st : State) (ds : List Descriptor) (c : ℕ) (m : State) → TakesMarks st ds c m
    → st.top.shared ≡ None → m.top.shared ≡ None
unshared_behind st ds c m t none = marked_none st ds c m t none

-- a descriptor behind a mark
pub record TookNamed (st : State) (ds : List Descriptor) (m : State) : Type 0 where
  pub own : List ℕ
  pub marks : Marks ds own
  pub took : Takes st own m

pub named_behind : (st : State) (ds : List Descriptor) (m : State) (d : Descriptor) (new : State) → st.top.shared ≡ None
    → TakesMarks st ds 0 m → TakesDescriptor m d new → TookNamed st (ds ++ (d ∷ [])) new
named_behind st ds m d new none t u =
    let names : Names d u.own = subst (λ o. IsDescriptor o d u.own) (marked_none st ds 0 m t none) u.descriptor in
    record {
      own = t.own ++ (0 ∷ u.own);
      marks = marks_more ds d t.own u.own t.marks names;
      took = subst (λ l. Takes st l new) (append_assoc t.own (0 ∷ []) u.own) (took_both st m new (t.own ++ (0 ∷ [])) u.own t.took u.took);
    }

pub code_after : (st : State) (ds : List Descriptor) (m : State) (c : ℕ) (new : State) → TookNamed st ds m → Takes m (c ∷ []) new
    → TakesMarks st ds c new
code_after st ds m c new t u = record { own = t.own; marks = t.marks; took = took_both st m new t.own (c ∷ []) t.took u }

-- a code that may end a constructor, and isn't 0
pub ends_known : (c : ℕ) → (c ≡ 0 → ⊥) → (c ≡ 0) ⊎ IsKnown (format c) → IsKnown (format c)
ends_known c some (inl none) = absurd (some none)
ends_known c some (inr known) = known

pub constructor_took : (st : State) (ds : List Descriptor) (c : ℕ) (m : State) (new : State) → length ds ≤ 128 → (c ≡ 0 → ⊥)
    → TakesMarks st ds c m → ((c ≡ 0) ⊎ IsKnown (format c)) × (new ≡ m) → TakesConstructor st ds c new
constructor_took st ds c m new few some t (known, same) =
    subst (TakesConstructor st ds c) (sym same)
    (record { own = t.own ++ (c ∷ []); few = few; spelled = marks_done ds c t.own t.marks (ends_known c some known); took = t.took })

-- why none is taken
pub stopped_first : (st : State) (e : Error) (new : State) → StopsAt true (Here (Lacks 1) st) st e new
    → StopsAt true (At constructor_left st) st e new
stopped_first st e new s = stops_as {st = st} (λ f h. (no_code [] [] st (omega arith) refl (took_none st) h.0, h.1)) s

took_failed : (st m : State) (s : List ℕ) → Takes st s m → m.failed ≡ st.failed
took_failed st m s t = ap (λ (z : State). z.failed) t.moved

pub stopped_code : (st : State) (ds : List Descriptor) (m : State) (e : Error) (new : State) → length ds ≤ 128 → TookNamed st ds m
    → StopsAt true (Here (Lacks 1) m) m e new → StopsAt true (At constructor_left st) st e new
stopped_code st ds m e new few t s =
    stops_later {st = st} {m = m} (took_failed st m t.own t.took) (λ f h. (no_code ds t.own m few t.marks t.took h.0, h.1)) s

marked_fault : (st : State) (ds : List Descriptor) (n : ℕ) (m : State) (f : Located) → n ≡ length ds → n ≤ 128 → TakesMarks st ds 0 m
    → NoMarked n m f
    → At constructor_left st f
marked_fault st ds n m f is most t (inl z) = (too_many ds m (let many = z.1 in omega (arith, is, most, many)) t z.0, z.2)
marked_fault st ds n m f is most t (inr z) = (no_mark ds m (let few = z.0 in omega (arith, is, few)) t z.1.0, z.1.1)

pub stopped_mark : (st : State) (ds : List Descriptor) (n : ℕ) (m : State) (e : Error) (new : State) → n ≡ length ds → n ≤ 128
    → TakesMarks st ds 0 m
    → StopsAt true (NoMarked n m) m e new → StopsAt true (At constructor_left st) st e new
stopped_mark st ds n m e new is most t s =
    stops_later {st = st} {m = m} (took_failed st m (t.own ++ (0 ∷ [])) t.took) (λ f h. marked_fault st ds n m f is most t h) s

pub stopped_unknown : (st : State) (ds : List Descriptor) (c : ℕ) (m : State) (e : Error) (new : State) → length ds ≤ 128 → TakesMarks st ds c m
    → (c ≡ 0 → ⊥) × (IsKnown (format c) → ⊥) × (e ≡ refusal_of c) × Answers m e new → StandsBefore (suc (length m.rest)) m new
    → StopsAt true (At constructor_left st) st e new
stopped_unknown st ds c m e new few t (some, never, is, kept) p = record {
  kept = answered_took t.took kept;
  why = inr (
    suc (length m.rest),
    (no_known_code ds c m few t some never is, refl),
    before_later st m (suc (length m.rest)) new (took_failed st m (t.own ++ (c ∷ [])) t.took) p,
  );
}

pub more_named : (st : State) (l l' : DescriptorValues) (m : State) (new : State) → st.top.shared ≡ None
    → TakesMarks st (map descriptor_of l) 0 m → (d : DescriptorValue) × TakesDescriptor m (descriptor_of d) new × (l' ≡ l ++ (d ∷ []))
    → TookNamed st (map descriptor_of l') new
more_named st l l' m new none t (d, u, is) =
    subst (λ ds. TookNamed st ds new) (sym (map-append descriptor_of l (d ∷ [])) ∙ ap (map descriptor_of) (sym is))
    (named_behind st (map descriptor_of l) m (descriptor_of d) new none t u)

pub stopped_descriptor : (st : State) (n : ℕ) (e : Error) (new : State) → n < 128 → MissesDescriptor true st e new
    → IsPlaceOf new.source.fault st → StopsAt true (NoMarked n st) st e new
stopped_descriptor st n e new few f p =
    record { kept = f.kept; why = elim f.why [ inl x ↦ inl x | inr (none, x) ↦ inr (length st.rest, inr (few, (x, refl)), p) ] }

-- a descriptor more than may stand
pub stopped_many : (st : State) (n : ℕ) (e : Error) (new : State) → 128 ≤ n → e ≡ Depth → new ≡ refused_at Depth new.source.fault st
    → StandsBefore (suc (length st.rest)) st new → StopsAt true (NoMarked n st) st e new
stopped_many st n e new many is kept p =
    record { kept = answered st new e Depth kept is; why = inr (suc (length st.rest), inl (is, many, refl), p) }
