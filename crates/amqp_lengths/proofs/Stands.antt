-- A fault stands where its place is.
use Rattle.std.proofs.Common.{◌≡◌, ℕ, suc, ◌+◌, ◌≤◌, inl, inr, Bool, true, false, cond, eqb, List, [], ◌∷◌, ◌++◌, length}
use Rattle.std.proofs.Common.{Option, Some, None, refl, sym, ap, ◌∙◌, subst, subst₂, arith, append_assoc}
use Rattle.std.proofs.lemmas.Bool.{eqb-true}
use Rattle.amqp_wire.specs.declared.error.Error.{Error}
use Rattle.amqp_wire.specs.declared.error.Error.TheVariants.{Cut, UnknownCode, FloatCode, Size, OddCount, Depth, ZeroWidthItems, WrongType}
use Rattle.amqp_wire.specs.Codes.{is_known, refusal_of}
use Rattle.amqp_model.specs.Term.{Primitive, char, string, symbol, Container, list, map, array, Descriptor}
use Rattle.amqp_model.specs.Constructors.{Format, compound, unknown, format}
use Rattle.amqp_model.specs.Spelling.{IsKnown, Constructor}
use Rattle.amqp_lengths.specs.Fronts.{Behind}
use Rattle.amqp_lengths.specs.Pieces.{value_of}
use Rattle.amqp_lengths.specs.Announced.{Wants}
use Rattle.amqp_lengths.specs.Contents.{IsContent}
use Rattle.amqp_lengths.specs.Lengths.{Marks, HasMarks, Constructs, IsTerm, IsData, Row, HasPairs, levels_of}
use Rattle.amqp_lengths.specs.Faults.{ValueFault, PrimitiveFault, primitive_wanting, primitive_no_value, DescriptorFault}
use Rattle.amqp_lengths.specs.Faults.{descriptor_missing, descriptor_other, descriptor_unknown, descriptor_data, ConstructorFault}
use Rattle.amqp_lengths.specs.Faults.{constructor_ends, constructor_unknown, constructor_long, constructor_descriptor, ContentFault}
use Rattle.amqp_lengths.specs.Faults.{content_wanting, content_small, content_counted, inside, TermFault, term_constructor, term_nests}
use Rattle.amqp_lengths.specs.Faults.{term_data, DataFault, data_of_primitive, data_of_container, data_of_array, ContainerFault}
use Rattle.amqp_lengths.specs.Faults.{container_content, container_deep, container_unpaired, container_items, ItemsFault, items_fault}
use Rattle.amqp_lengths.specs.Faults.{items_over, ArrayFault, array_content, array_elements, ElementsFault, elements_missing}
use Rattle.amqp_lengths.specs.Faults.{elements_constructor, elements_over, elements_empty, elements_deep, elements_data, SharedFault}
use Rattle.amqp_lengths.specs.Faults.{shared_fault, shared_over}
use Rattle.amqp_lengths.specs.Stands.{Piece, a_value, an_item, an_element, a_descriptor, an_array, a_code, an_end, Around, unbounded}
use Rattle.amqp_lengths.specs.Stands.{whole_one, cut_one, outermost, IsOwn, IsUnder, AnyTerm, AnyData, all_there, level_of, Step}
use Rattle.amqp_lengths.specs.Stands.{to_descriptor, to_described, to_item, to_end, to_array, to_code, to_its_descriptor, to_element}
use Rattle.amqp_lengths.specs.Stands.{to_array_end, to_its_described, Leads, no_step, steps, IsWanting, HasUnknown, HasNoValue, IsWrong}
use Rattle.amqp_lengths.specs.Stands.{StandsFrom}
use Rattle.amqp_lengths.proofs.DeeperFaults.{row_part, behind_part}

-- The same, where no container around is cut.
record Placed (around : Around) (P : Piece) (d : ℕ) (z : List ℕ) (e : Error) (left : ℕ) : Type 0 where
  pub piece : Piece
  pub depth : ℕ
  pub bytes : List ℕ
  pub inner : Around
  pub behind : ℕ
  pub leads : Leads P d z piece depth bytes inner behind
  pub uncut : inner ≡ cut_one → ⊥
  pub place : left ≡ length bytes + behind
  pub wrong : IsWrong e (outermost around inner) piece depth bytes

-- at the place itself
at_place : (around : Around) (P : Piece) (d : ℕ) (z : List ℕ) (e : Error) → IsWrong e around P d z → Placed around P d z e (length z)
at_place unbounded P d z e h = record {
  piece = P;
  depth = d;
  bytes = z;
  inner = unbounded;
  behind = 0;
  leads = no_step P d z;
  uncut = λ is. cc;
  place = omega arith;
  wrong = h;
}
at_place whole_one P d z e h = record {
  piece = P;
  depth = d;
  bytes = z;
  inner = unbounded;
  behind = 0;
  leads = no_step P d z;
  uncut = λ is. cc;
  place = omega arith;
  wrong = h;
}
at_place cut_one P d z e h = record {
  piece = P;
  depth = d;
  bytes = z;
  inner = unbounded;
  behind = 0;
  leads = no_step P d z;
  uncut = λ is. cc;
  place = omega arith;
  wrong = h;
}

-- one step before it, without a container
before : (around : Around) (P Q : Piece) (d k : ℕ) (z y : List ℕ) (e : Error) (left : ℕ) → Step P d z Q k y unbounded 0
    → Placed around Q k y e left → Placed around P d z e left
before around P Q d k z y e left s h = record {
  piece = h.piece;
  depth = h.depth;
  bytes = h.bytes;
  inner = h.inner;
  behind = 0 + h.behind;
  leads = steps P Q h.piece d k h.depth z y h.bytes unbounded h.inner 0 h.behind s h.leads;
  uncut = h.uncut;
  place = omega (arith, h.place);
  wrong = h.wrong;
}

-- one step before it, into a whole container
around_it : (P Q : Piece) (d k behind : ℕ) (z y : List ℕ) (e : Error) (left : ℕ) → Step P d z Q k y whole_one behind
    → Placed whole_one Q k y e left → Placed unbounded P d z e (left + behind)
around_it P Q d k behind z y e left s h = record {
  piece = h.piece;
  depth = h.depth;
  bytes = h.bytes;
  inner = whole_one;
  behind = behind + h.behind;
  leads = steps P Q h.piece d k h.depth z y h.bytes whole_one h.inner behind h.behind s h.leads;
  uncut = λ is. cc;
  place = omega (arith, h.place);
  wrong = h.wrong;
}

-- what is wrong by itself, in a whole container
inside_wrong : (e : Error) (inner : Around) (P : Piece) (d : ℕ) (z : List ℕ) → (inner ≡ cut_one → ⊥) → IsWrong e inner P d z
    → IsWrong (inside e) whole_one P d z
inside_wrong Cut inner P d z uncut (inl (open_, h)) = inl (refl, h)
inside_wrong Cut inner P d z uncut (inr (cut, h)) = absurd (uncut cut)
inside_wrong Size inner P d z uncut (inl (whole, h)) = inl (refl, h)
inside_wrong Size inner P d z uncut (inr h) = inr h
inside_wrong e inner P d z uncut h = h

closed : (P : Piece) (d : ℕ) (z : List ℕ) (e : Error) (left : ℕ) → Placed unbounded P d z e left → Placed whole_one P d z (inside e) left
closed P d z e left h = record {
  piece = h.piece;
  depth = h.depth;
  bytes = h.bytes;
  inner = h.inner;
  behind = h.behind;
  leads = h.leads;
  uncut = h.uncut;
  place = h.place;
  wrong = inside_wrong e h.inner h.piece h.depth h.bytes h.uncut h.wrong;
}

-- unknown codes
refusal_cases : (s t u v : Bool) (c : ℕ) (around : Around) (P : Piece) (d : ℕ) (z : List ℕ) → u ≡ false → v ≡ false
    → (s ≡ true → c ≡ 0x72) → (t ≡ true → c ≡ 0x82) → HasUnknown P z c
    → IsWrong (cond s (FloatCode c) (cond t (FloatCode c) (cond u (WrongType c) (cond v (WrongType c) (UnknownCode c))))) around P d z
refusal_cases true t u v c around P d z some none float double h = (h, inl (float refl))
refusal_cases false true u v c around P d z some none float double h = (h, inr (double refl))
refusal_cases false false false false c around P d z some none float double h = h
refusal_cases false false true v c around P d z some none float double h = absurd (cc)
refusal_cases false false false true c around P d z some none float double h = absurd (cc)

not_so : (t : Bool) → (t ≡ true → ⊥) → t ≡ false
not_so true h = absurd (h refl)
not_so false h = refl

unknown_so : (F : Format) → (IsKnown F → ⊥) → is_known F ≡ false
unknown_so unknown h = refl
unknown_so F h = absurd (h tt)

refusal_wrong : (c : ℕ) (around : Around) (P : Piece) (d : ℕ) (z : List ℕ) → (c ≡ 0 → ⊥) → (IsKnown (format c) → ⊥) → HasUnknown P z c
    → IsWrong (refusal_of c) around P d z
refusal_wrong c around P d z some none h =
    refusal_cases (eqb c 0x72) (eqb c 0x82) (eqb c 0) (is_known (format c)) c around P d z (not_so (eqb c 0) (λ e. some (eqb-true c 0 e)))
    (unknown_so (format c) none) (eqb-true c 0x72) (eqb-true c 0x82) h

-- values
value_wrong : (o : Option Primitive) (e : Error) (around : Around) (P : Piece) (d : ℕ) (z : List ℕ) → ValueFault o e → HasNoValue e P z
    → IsWrong e around P d z
value_wrong None e around P d z is h = subst (λ x. HasNoValue x P z → IsWrong x around P d z) (sym is) (λ k. k) h
value_wrong (Some (char n)) e around P d z (bad, is) h = subst (λ x. HasNoValue x P z → IsWrong x around P d z) (sym is) (λ k. k) h
value_wrong (Some (string s)) e around P d z (bad, is) h = subst (λ x. HasNoValue x P z → IsWrong x around P d z) (sym is) (λ k. k) h
value_wrong (Some (symbol s)) e around P d z (bad, is) h = subst (λ x. HasNoValue x P z → IsWrong x around P d z) (sym is) (λ k. k) h
value_wrong (Some p) e around P d z bad h = absurd bad

-- what has data: a value with its own constructor, or an element that shares it
abbrev pub Bears : Piece → Type 0
Bears a_value = Unit {0}
Bears (an_item kind n i) = Unit {0}
Bears (an_element ds s n i) = Unit {0}
Bears _ = ⊥

wanting : (P : Piece) (z : List ℕ) (c : ℕ) (data_ : List ℕ) → Bears P → IsUnder P z c data_ → Wants (format c) data_ → IsWanting P z
wanting a_value z c data_ b u w = inr (c, data_, u, w)
wanting (an_item kind n i) z c data_ b u w = inr (c, data_, u, w)
wanting (an_element [] s n i) z c data_ b (code, all) w =
    (refl, subst₂ (λ x l. Wants (format x) l) code all w)
wanting (an_element (e ∷ ds) s n i) z c data_ b u w = absurd u
wanting a_descriptor z c data_ b u w = absurd b
wanting (an_array n) z c data_ b u w = absurd b
wanting (a_code k) z c data_ b u w = absurd b
wanting (an_end kind n) z c data_ b u w = absurd b

primitive_wrong : (P : Piece) (d : ℕ) (z : List ℕ) (c : ℕ) (data_ : List ℕ) (e : Error) → Bears P → IsUnder P z c data_
    → PrimitiveFault (format c) data_ e → IsWrong e unbounded P d z
primitive_wrong P d z c data_ e b u (primitive_wanting p w) = inl ((λ is. cc), wanting P z c data_ b u w)
primitive_wrong P d z c data_ e b u (primitive_no_value content after x there h) =
    value_wrong (value_of (format c) content) x unbounded P d z h (c, data_, content, after, u, there, h)

descriptor_wrong : (d : ℕ) (z : List ℕ) (e : Error) → DescriptorFault z e → IsWrong e unbounded a_descriptor d z
descriptor_wrong d z e (descriptor_missing is) = inl ((λ is. cc), inl is)
descriptor_wrong d z e (descriptor_other c after is known other) = (refl, (c, (after, is), known, other))
descriptor_wrong d z e (descriptor_unknown c after is some none) =
    refusal_wrong c unbounded a_descriptor d z some none ((after, is), some, none)
descriptor_wrong d z e (descriptor_data c after x is code (primitive_wanting p w)) = inl ((λ is. cc), inr (c, after, is, code, w))
descriptor_wrong d z e (descriptor_data c after x is code (primitive_no_value content more y there h)) =
    value_wrong (value_of (format c) content) y unbounded a_descriptor d z h (c, after, content, more, is, there, h)

content_wrong : (P : Piece) (d : ℕ) (z : List ℕ) (c w : ℕ) (data_ : List ℕ) (kind : Container) (e : Error) → Bears P → IsUnder P z c data_
    → format c ≡ compound kind w → ContentFault kind w data_ e → IsWrong e unbounded P d z
content_wrong P d z c w data_ kind e b u is (content_wanting h) =
    inl ((λ is. cc), wanting P z c data_ b u (subst (λ F. Wants F data_) (sym is) h))
content_wrong P d z c w data_ kind e b u is (content_small h) = inr (inl (kind, w, data_, (c, u, is), content_small h))
content_wrong P d z c w data_ kind e b u is (content_counted k h) = inr (inl (kind, w, data_, (c, u, is), content_counted k h))

-- a place, where there are as many bytes as are told
told : (around : Around) (P : Piece) (d : ℕ) (z : List ℕ) (e : Error) (left : ℕ) → length z ≡ left → IsWrong e around P d z
    → Placed around P d z e left
told around P d z e left is h = subst (Placed around P d z e) is (at_place around P d z e h)

-- pieces that have a constructor of their own
own_wanting : (P : Piece) → IsOwn P → IsWanting P []
own_wanting a_value h = inl refl
own_wanting (an_item kind n i) h = inl refl
own_wanting _ h = absurd h

own_unknown : (P : Piece) (c : ℕ) (after : List ℕ) → IsOwn P → (c ≡ 0 → ⊥) → (IsKnown (format c) → ⊥) → HasUnknown P (c ∷ after) c
own_unknown a_value c after h some none = ((after, refl), some, none)
own_unknown (an_item kind n i) c after h some none = ((after, refl), some, none)
own_unknown _ c after h some none = absurd h

own_bears : (P : Piece) → IsOwn P → Bears P
own_bears a_value h = tt
own_bears (an_item kind n i) h = tt
own_bears _ h = absurd h

own_under : (P : Piece) (c : ℕ) (after : List ℕ) → IsOwn P → IsUnder P (c ∷ after) c after
own_under a_value c after h = refl
own_under (an_item kind n i) c after h = refl
own_under _ c after h = absurd h

own_deep : (P : Piece) (d : ℕ) (after : List ℕ) → IsOwn P → 128 ≤ d → IsWrong Depth unbounded P d (0 ∷ after)
own_deep a_value d after h deep = inl (inl ((h, (after, refl)), deep))
own_deep (an_item kind n i) d after h deep = inl (inl ((h, (after, refl)), deep))
own_deep _ d after h deep = absurd h

-- through the descriptors of a constructor
through_marks : (ds : List Descriptor) (P : Piece) (d : ℕ) (z front after : List ℕ) (e : Error) (left : ℕ) → IsOwn P → Marks ds front
    → z ≡ front ++ after → ((Q : Piece) → IsOwn Q → Placed unbounded Q (d + length ds) after e left) → Placed unbounded P d z e left
through_marks [] P d z front after e left own none is h =
    let same : d + 0 ≡ d = omega arith in
    let there : after ≡ z = sym (is ∙ ap (λ l. l ++ after) none) in
    subst (λ l. Placed unbounded P d l e left) there (subst (λ k. Placed unbounded P k after e left) same (h P own))
through_marks (x ∷ ds) P d z front after e left own (first, second, s, names, marks) is h =
    let deeper : d + suc (length ds) ≡ suc d + length ds = omega arith in
    let all : z ≡ 0 ∷ (first ++ (second ++ after)) =
    is ∙ ap (λ l. l ++ after) s ∙ ap (λ l. 0 ∷ l) (append_assoc first second after) in
    subst (λ l. Placed unbounded P d l e left) (sym all)
    (before unbounded P a_value d (suc d) (0 ∷ (first ++ (second ++ after))) (second ++ after) e left
    (to_described P d (first ++ (second ++ after)) (second ++ after) own (record { front = first; is = refl; spelled = (x, names) }))
    (through_marks ds a_value (suc d) (second ++ after) second after e left tt marks refl
    (λ Q o. subst (λ k. Placed unbounded Q k after e left) deeper (h Q o))))

behind_marks : (n : ℕ) (P : Piece) (d : ℕ) (z after : List ℕ) (e : Error) (left : ℕ) → IsOwn P → Behind (HasMarks n) z after
    → ((Q : Piece) → IsOwn Q → Placed unbounded Q (d + n) after e left) → Placed unbounded P d z e left
behind_marks n P d z after e left own b h =
    let (ds, l, marks) = b.spelled in
    through_marks ds P d z b.front after e left own marks b.is (λ Q o. subst (λ k. Placed unbounded Q (d + k) after e left) (sym l) (h Q o))

-- a constructor's descriptors, and its code
code_behind : (ds : List Descriptor) (c : ℕ) (b : List ℕ) → Constructor ds c b → (front : List ℕ) × Marks ds front × (b ≡ front ++ (c ∷ []))
code_behind [] c b (s, k) = ([], refl, s)
code_behind (x ∷ ds) c b (first, second, s, names, k) =
    let (front, marks, is) = code_behind ds c second k in (
      0 ∷ (first ++ front),
      (first, front, refl, names, marks),
      s ∙ ap (λ l. 0 ∷ (first ++ l)) is ∙ ap (λ l. 0 ∷ l) (sym (append_assoc first front (c ∷ []))),
    )

behind_code : (n c : ℕ) (P : Piece) (d : ℕ) (z after : List ℕ) (e : Error) (left : ℕ) → IsOwn P → Behind (Constructs n c) z after
    → ((Q : Piece) → IsOwn Q → Placed unbounded Q (d + n) (c ∷ after) e left) → Placed unbounded P d z e left
behind_code n c P d z after e left own b h =
    let (ds, l, few, k) = b.spelled in
    let (front, marks, is) = code_behind ds c b.front k in
    through_marks ds P d z front (c ∷ after) e left own marks
    (b.is ∙ ap (λ x. x ++ after) is ∙ append_assoc front (c ∷ []) after)
    (λ Q o. subst (λ k. Placed unbounded Q (d + k) (c ∷ after) e left) (sym l) (h Q o))

own_code_stands : (P : Piece) (d : ℕ) (z : List ℕ) (e : Error) (left : ℕ) → IsOwn P → ConstructorFault z e left → Placed unbounded P d z e left
own_code_stands P d z e left own (constructor_ends n few h) =
    behind_marks n P d z [] Cut 0 own h (λ Q o. at_place unbounded Q (d + n) [] Cut (inl ((λ is. cc), own_wanting Q o)))
own_code_stands P d z e left own (constructor_unknown n c after few h some none) =
    behind_marks n P d z (c ∷ after) (refusal_of c) (suc (length after)) own h
    (λ Q o. at_place unbounded Q (d + n) (c ∷ after) (refusal_of c)
    (refusal_wrong c unbounded Q (d + n) (c ∷ after) some none (own_unknown Q c after o some none)))
own_code_stands P d z e left own (constructor_long after h) =
    behind_marks 128 P d z (0 ∷ after) Depth (suc (length after)) own h
    (λ Q o. at_place unbounded Q (d + 128) (0 ∷ after) Depth (own_deep Q (d + 128) after o (omega arith)))
own_code_stands P d z e left own (constructor_descriptor n after x few h f) =
    behind_marks n P d z (0 ∷ after) x (length after) own h
    (λ Q o. before unbounded Q a_descriptor (d + n) (d + n) (0 ∷ after) after x (length after) (to_descriptor Q (d + n) after o)
    (at_place unbounded a_descriptor (d + n) after x (descriptor_wrong (d + n) after x f)))

shared_code_stands : (n d : ℕ) (z : List ℕ) (e : Error) (left : ℕ) → ConstructorFault z e left → Placed whole_one (an_array n) d z (inside e) left
shared_code_stands n d z e left (constructor_ends k few h) =
    before whole_one (an_array n) (a_code k) d d z [] Size 0 (to_code n d z [] k few h) (at_place whole_one (a_code k) d [] Size (inl (refl, refl)))
shared_code_stands n d z e left (constructor_unknown k c after few h some none) =
    before whole_one (an_array n) (a_code k) d d z (c ∷ after) (inside (refusal_of c)) (suc (length after)) (to_code n d z (c ∷ after) k few h)
    (at_place whole_one (a_code k) d (c ∷ after) (inside (refusal_of c))
    (inside_wrong (refusal_of c) unbounded (a_code k) d (c ∷ after) (λ is. cc)
    (refusal_wrong c unbounded (a_code k) d (c ∷ after) some none ((after, refl), some, none))))
shared_code_stands n d z e left (constructor_long after h) =
    before whole_one (an_array n) (a_code 128) d d z (0 ∷ after) Depth (suc (length after)) (to_code n d z (0 ∷ after) 128 (omega arith) h)
    (at_place whole_one (a_code 128) d (0 ∷ after) Depth (inr (refl, (after, refl))))
shared_code_stands n d z e left (constructor_descriptor k after x few h f) =
    before whole_one (an_array n) (a_code k) d d z (0 ∷ after) (inside x) (length after) (to_code n d z (0 ∷ after) k (omega arith) h)
    (before whole_one (a_code k) a_descriptor d d (0 ∷ after) after (inside x) (length after) (to_its_descriptor k d after few)
    (at_place whole_one a_descriptor d after (inside x)
    (inside_wrong x unbounded a_descriptor d after (λ is. cc) (descriptor_wrong d after x f))))

-- whole terms and whole data, however deep
any_terms : (k n : ℕ) (z after : List ℕ) → Behind (Row (IsTerm k) n) z after → Behind (Row AnyTerm n) z after
any_terms k n z after h =
    behind_part (Row (IsTerm k) n) (Row AnyTerm n) z after (row_part (IsTerm k) AnyTerm (λ b (t, s, deep). (t, s)) n) h

any_data : (c k n : ℕ) (z after : List ℕ) → Behind (Row (IsData c k) n) z after → Behind (Row (AnyData c) n) z after
any_data c k n z after h =
    behind_part (Row (IsData c k) n) (Row (AnyData c) n) z after (row_part (IsData c k) (AnyData c) (λ b (t, s, deep). (t, s)) n) h

unpaired_map : (kind : Container) (n : ℕ) → (kind ≡ array → ⊥) → (HasPairs kind n → ⊥) → kind ≡ map
unpaired_map map n other odd = refl
unpaired_map list n other odd = absurd (odd tt)
unpaired_map array n other odd = absurd (other refl)

-- through the descriptors that an element shares
through_shared : (ds : List Descriptor) (c n i d : ℕ) (z : List ℕ) (e : Error) (left : ℕ)
    → Placed whole_one (an_element [] c n i) (d + length ds) z e left → Placed whole_one (an_element ds c n i) d z e left
through_shared [] c n i d z e left h =
    let same : d + 0 ≡ d = omega arith in subst (λ k. Placed whole_one (an_element [] c n i) k z e left) same h
through_shared (x ∷ ds) c n i d z e left h =
    let deeper : d + suc (length ds) ≡ suc d + length ds = omega arith in
    before whole_one (an_element (x ∷ ds) c n i) (an_element ds c n i) d (suc d) z z e left (to_its_described x ds c n i d z)
    (through_shared ds c n i (suc d) z e left (subst (λ k. Placed whole_one (an_element [] c n i) k z e left) deeper h))

mutual
  term_stands : (P : Piece) (d k : ℕ) (z : List ℕ) (e : Error) (left : ℕ) → IsOwn P → d + k ≡ 128 → TermFault Depth k z e left
      → Placed unbounded P d z e left
  term_stands P d k z e left own level (term_constructor j b x l h) = own_code_stands P d b x l own h
  term_stands P d k z e left own level (term_nests j b n c after h deep) =
      at_place unbounded P d b Depth (inl (inr (inl (own, (n, c, after, h, omega (arith, level, deep))))))
  term_stands P d k z e left own level (term_data j b x n c inner l after h is f) =
      behind_code n c P d b after x l own h
      (λ Q o. data_stands 1 Q (d + n) inner (c ∷ after) c after x l (own_bears Q o) (own_under Q c after o) (omega arith) (omega (arith, level, is)) f)

  data_stands : (own : ℕ) (P : Piece) (d k : ℕ) (z : List ℕ) (c : ℕ) (data_ : List ℕ) (e : Error) (left : ℕ) → Bears P → IsUnder P z c data_
      → length z ≡ own + length data_ → d + k ≡ 128 → DataFault Depth own c k data_ e left → Placed unbounded P d z e left
  data_stands own P d k z c data_ e left b u all level (data_of_primitive o s j y x h) =
      told unbounded P d z x (o + length y) all (primitive_wrong P d z s y x b u h)
  data_stands own P d k z c data_ e left b u all level (data_of_container o s j y x l kind w is other h) =
      container_stands o P d j z s w y kind x l b u is other all level h
  data_stands own P d k z c data_ e left b u all level (data_of_array o s j y x l w is h) =
      array_stands o P d j z s w y x l b u is all level h

  container_stands : (own : ℕ) (P : Piece) (d k : ℕ) (z : List ℕ) (c w : ℕ) (data_ : List ℕ) (kind : Container) (e : Error) (left : ℕ)
      → Bears P → IsUnder P z c data_ → format c ≡ compound kind w → (kind ≡ array → ⊥) → length z ≡ own + length data_ → d + k ≡ 128
      → ContainerFault Depth own kind w k data_ e left → Placed unbounded P d z e left
  container_stands own P d k z c w data_ kind e left b u is other all level (container_content o i v j y x h) =
      told unbounded P d z x (o + length y) all (content_wrong P d z c v y i x b u is h)
  container_stands own P d k z c w data_ kind e left b u is other all level (container_deep o i v j y after h none) =
      told unbounded P d z Depth (o + length y) all (inl (inr (inr (inl (i, v, y, (c, u, is), other, omega (arith, level, none))))))
  container_stands own P d k z c w data_ kind e left b u is other all level (container_unpaired o i v j y n items after h odd) =
      let same = unpaired_map i n other odd in
      told unbounded P d z OddCount (o + length y) all (
        v,
        n,
        length after,
        y,
        items,
        whole_one,
        (c, u, subst (λ x. format c ≡ compound x v) same is),
        all_there after (subst (λ x. Behind (IsContent x v n items) y after) same h),
        subst (λ x. HasPairs x n → ⊥) same odd,
      )
  container_stands own P d k z c w data_ kind e left b u is other all level (container_items o i v j y x n inner l items after h deeper f) =
      items_stand P d inner z c v y i items after n x l u is other h (omega (arith, level, deeper)) f

  items_stand : (P : Piece) (d k : ℕ) (z : List ℕ) (c w : ℕ) (data_ : List ℕ) (kind : Container) (items after : List ℕ) (n : ℕ) (e : Error) (left : ℕ)
      → IsUnder P z c data_ → format c ≡ compound kind w → (kind ≡ array → ⊥) → Behind (IsContent kind w n items) data_ after
      → suc d + k ≡ 128 → ItemsFault Depth k n items e left → Placed unbounded P d z e (left + length after)
  items_stand P d k z c w data_ kind items after n e left u is other h level (items_fault j i y x done l rest less front f) =
      around_it P (an_item kind i done) d (suc d) (length after) z rest (inside x) l
      (to_item P d z data_ y rest c w i done (length after) kind whole_one u is other (all_there after h) less (any_terms j done y rest front))
      (closed (an_item kind i done) (suc d) rest x l (term_stands (an_item kind i done) (suc d) j rest x l tt level f))
  items_stand P d k z c w data_ kind items after n e left u is other h level (items_over j i y rest front some) =
      around_it P (an_end kind i) d (suc d) (length after) z rest Size (length rest)
      (to_end P d z data_ y rest c w i (length after) kind whole_one u is other (all_there after h) (any_terms j i y rest front))
      (at_place whole_one (an_end kind i) (suc d) rest Size (inr (inr (tt, some))))

  array_stands : (own : ℕ) (P : Piece) (d k : ℕ) (z : List ℕ) (c w : ℕ) (data_ : List ℕ) (e : Error) (left : ℕ) → Bears P
      → IsUnder P z c data_ → format c ≡ compound array w → length z ≡ own + length data_ → d + k ≡ 128
      → ArrayFault Depth own w k data_ e left → Placed unbounded P d z e left
  array_stands own P d k z c w data_ e left b u is all level (array_content o v j y x h) =
      told unbounded P d z x (o + length y) all (content_wrong P d z c v y array x b u is h)
  array_stands own P d k z c w data_ e left b u is all level (array_elements o v j y x n l items after h f) =
      around_it P (an_array n) d d (length after) z items x l
      (to_array P d z y items c v n (length after) whole_one u is (all_there after h)) (elements_stand n d j items x l level f)

  elements_stand : (n d k : ℕ) (content : List ℕ) (e : Error) (left : ℕ) → d + k ≡ 128 → ElementsFault Depth k n content e left
      → Placed whole_one (an_array n) d content e left
  elements_stand n d k content e left level (elements_missing j i y none some) =
      told whole_one (an_array i) d y Size 0 (ap length none) (inl (refl, (none, some)))
  elements_stand n d k content e left level (elements_constructor j i y x l some h) = shared_code_stands i d y x l h
  elements_stand n d k content e left level (elements_over j i y m c after h none some) =
      let rest : Behind (Row (AnyData c) i) after after = record { front = []; is = refl; spelled = subst (λ x. Row (AnyData c) x []) (sym none) refl } in
      before whole_one (an_array i) (an_end array i) d d y after Size (length after) (to_array_end i d y after after m c h rest)
      (at_place whole_one (an_end array i) d after Size (inr (inr (tt, some))))
  elements_stand n d k content e left level (elements_empty j i y m c after h some wide) =
      at_place whole_one (an_array i) d y ZeroWidthItems (i, m, c, after, refl, h, some, wide)
  elements_stand n d k content e left level (elements_deep j i y m c after h some deep) =
      at_place whole_one (an_array i) d y Depth (inl (inr (inr (inr (i, m, c, after, refl, h, some, omega (arith, level, deep))))))
  elements_stand n d k content e left level (elements_data j i y x m c inner l after h some is f) =
      let (ds, long, few, k) = h.spelled in
      let level_there : (d + level_of (length ds) c) + length ds + inner ≡ 128 =
      omega (arith, level, is, long, ap (λ x. levels_of x c) long, ap (λ x. level_of x c) long) in
      shared_stand i d inner y after ds c x l (omega (arith, few, long)) (record { front = h.front; is = h.is; spelled = k }) level_there f

  shared_stand : (n d k : ℕ) (content data_ : List ℕ) (ds : List Descriptor) (c : ℕ) (e : Error) (left : ℕ) → length ds ≤ 128
      → Behind (Constructor ds c) content data_ → (d + level_of (length ds) c) + length ds + k ≡ 128 → SharedFault Depth c k n data_ e left
      → Placed whole_one (an_array n) d content e left
  shared_stand n d k content data_ ds c e left few h level (shared_fault s j i y x done l rest less front f) =
      let here = d + level_of (length ds) s in
      before whole_one (an_array i) (an_element ds s i done) d here content rest (inside x) l
      (to_element i d content y rest ds s done few h less (any_data s j done y rest front))
      (through_shared ds s i done here rest (inside x) l
      (closed (an_element [] s i done) (here + length ds) rest x l
      (data_stands 0 (an_element [] s i done) (here + length ds) j rest s rest x l tt (refl, refl) (omega arith) level f)))
  shared_stand n d k content data_ ds c e left few h level (shared_over s j i y rest front some) =
      before whole_one (an_array i) (an_end array i) d d content rest Size (length rest)
      (to_array_end i d content y rest (length ds) s (record { front = h.front; is = h.is; spelled = (ds, refl, few, h.spelled) })
      (any_data s j i y rest front))
      (at_place whole_one (an_end array i) d rest Size (inr (inr (tt, some))))

-- a fault of a term that begins the input
pub fault_stands : (input : List ℕ) (e : Error) (left : ℕ) → TermFault Depth 128 input e left → StandsFrom unbounded a_value 0 input e left
fault_stands input e left f =
    let h = term_stands a_value 0 128 input e left tt refl f in
    record {
      piece = h.piece;
      depth = h.depth;
      bytes = h.bytes;
      inner = h.inner;
      behind = h.behind;
      leads = h.leads;
      place = h.place;
      wrong = h.wrong;
    }
