-- The section whose descriptor stands next.
use Rattle.std.proofs.Common.{◌≡◌, ◌≤◌, ◌<◌, ℕ, zero, suc, ◌+◌, ◌-◌, ◌^◌, ◌⊎◌, inl, inr, ◌↔◌, Bool, true, false, ◌&&◌, ltb, IsAscii, Option}
use Rattle.std.proofs.Common.{Some, None, option_map, unwrap_or, Result, Ok, Err, IfOk, List, [], ◌∷◌, ◌++◌, length, take, drop, map}
use Rattle.std.proofs.Common.{get_or, refl, sym, ap, ap₂, ◌∙◌, subst, arith, append_assoc, length-append, length-drop, drop-cons}
use Rattle.std.proofs.lemmas.List.{length-take-le, take-append-drop, take-append-le, take_at, drop-append-le}
use Rattle.std.proofs.lemmas.Bool.{eqb-true, ltb-true}
use Rattle.std.proofs.lemmas.Slice.Eq.{bytes_eq-Decides}
use Rattle.std.proofs.lemmas.List.Quantifiers.{position-Some}
use Rattle.std.specs.Int.{w8, w64, from_be_bytes, byte_at, bytes_high_first}
use Rattle.amqp_model.specs.Term.{ulong, symbol, Descriptor, name, code}
use Rattle.amqp_model.specs.Constructors.{fixed, variable, format}
use Rattle.amqp_model.specs.Spelling.{PrimitiveData, descriptor_value}
use Rattle.amqp_model.proofs.Bytes.{length-bytes, field}
use Rattle.amqp_model.proofs.Same.{names_same}
use Rattle.amqp_lookahead.specs.State.{State, after_look}
use Rattle.amqp_lookahead.specs.Members.{Member, place_of, as_name, is_named, name_place}
use Rattle.amqp_lookahead.specs.Sections.{LooksOn, sections, IsOfSection, IsSectionAhead, IsNameAhead, IsLongNameAhead, IsLongCodeAhead}
use Rattle.amqp_lookahead.proofs.KindsOfCodes.{kind_data, not_two, not_three}
use Rattle.amqp_lookahead.proofs.Members.{place_is}
use Rattle.amqp_lookahead.proofs.SectionLooks.{looks_more, looks_once, front_all}

abbrev title : ℕ → List ℕ
title i = (get_or sections i (0, [])).1

row_is : (i : ℕ) (x : ℕ × List ℕ) → i < 9 → get_or sections i x ≡ (0x70 + i, title i)
row_is zero x h = refl
row_is (suc zero) x h = refl
row_is (suc (suc zero)) x h = refl
row_is (suc (suc (suc zero))) x h = refl
row_is (suc (suc (suc (suc zero)))) x h = refl
row_is (suc (suc (suc (suc (suc zero))))) x h = refl
row_is (suc (suc (suc (suc (suc (suc zero)))))) x h = refl
row_is (suc (suc (suc (suc (suc (suc (suc zero))))))) x h = refl
row_is (suc (suc (suc (suc (suc (suc (suc (suc zero)))))))) x h = refl
row_is (suc (suc (suc (suc (suc (suc (suc (suc (suc i))))))))) x h = absurd (omega (arith, h))

code_place : (i : ℕ) → i < 9 → name_place sections (code (0x70 + i)) ≡ Some i
code_place zero h = refl
code_place (suc zero) h = refl
code_place (suc (suc zero)) h = refl
code_place (suc (suc (suc zero))) h = refl
code_place (suc (suc (suc (suc zero)))) h = refl
code_place (suc (suc (suc (suc (suc zero))))) h = refl
code_place (suc (suc (suc (suc (suc (suc zero)))))) h = refl
code_place (suc (suc (suc (suc (suc (suc (suc zero))))))) h = refl
code_place (suc (suc (suc (suc (suc (suc (suc (suc zero)))))))) h = refl
code_place (suc (suc (suc (suc (suc (suc (suc (suc (suc i))))))))) h = absurd (omega (arith, h))

title_place : (i : ℕ) → i < 9 → name_place sections (name (title i)) ≡ Some i
title_place zero h = refl
title_place (suc zero) h = refl
title_place (suc (suc zero)) h = refl
title_place (suc (suc (suc zero))) h = refl
title_place (suc (suc (suc (suc zero)))) h = refl
title_place (suc (suc (suc (suc (suc zero))))) h = refl
title_place (suc (suc (suc (suc (suc (suc zero)))))) h = refl
title_place (suc (suc (suc (suc (suc (suc (suc zero))))))) h = refl
title_place (suc (suc (suc (suc (suc (suc (suc (suc zero)))))))) h = refl
title_place (suc (suc (suc (suc (suc (suc (suc (suc (suc i))))))))) h = absurd (omega (arith, h))

named_by : (d : Descriptor) (c : ℕ) (s : List ℕ) → is_named d (c, s) ≡ true → (d ≡ code c) ⊎ (d ≡ name s)
named_by (code n) c s e = inl (ap code (sym (eqb-true c n e)))
named_by (name t) c s e = inr (ap name (sym ((bytes_eq-Decides s t).0 e)))

of_place : (d : Descriptor) (i : ℕ) → name_place sections d ≡ Some i → IsOfSection (0x70 + i) d
of_place d i e =
    let p = position-Some (is_named d) sections i (0, []) e in (
      title i,
      (i, p.0, row_is i (0x70 + i, title i) p.0),
      named_by d (0x70 + i) (title i) (ap (is_named d) (sym (row_is i (0, []) p.0)) ∙ p.1),
    )

place_at : (d : Descriptor) (c i : ℕ) (s : List ℕ) → i < 9 → c ≡ 0x70 + i → s ≡ title i → (d ≡ code c) ⊎ (d ≡ name s)
    → name_place sections d ≡ Some i
place_at d c i s h f g (inl e) = ap (name_place sections) (e ∙ ap code f) ∙ code_place i h
place_at d c i s h f g (inr e) = ap (name_place sections) (e ∙ ap name g) ∙ title_place i h

pub place_of_section : (d : Descriptor) (c : ℕ) → IsOfSection c d → option_map (λ i. 0x70 + i) (name_place sections d) ≡ Some c
place_of_section d c (s, (i, few, at_), is) =
    let row : (c, s) ≡ (0x70 + i, title i) = sym at_ ∙ row_is i (c, s) few in
    let f : c ≡ 0x70 + i = ap (λ (r : ℕ × List ℕ). r.0) row in
    let g : s ≡ title i = ap (λ (r : ℕ × List ℕ). r.1) row in
    ap (option_map (λ i. 0x70 + i)) (place_at d c i s few f g is) ∙ ap Some (sym f)

-- a descriptor is that of one section at most, and one input begins with that of one
section_of_one : (d : Descriptor) (b c : ℕ) → IsOfSection b d → IsOfSection c d → b ≡ c
section_of_one d b c h i = ap (λ o. unwrap_or o b) (sym (place_of_section d b h) ∙ place_of_section d c i)

pub one_ahead : (rest : List ℕ) (b c : ℕ) → IsSectionAhead rest b → IsSectionAhead rest c → b ≡ c
one_ahead rest b c h i =
    let same = names_same h.descriptor i.descriptor h.own i.own h.after i.after h.spelled i.spelled (ap (drop 1) (sym h.split ∙ i.split)) in
    section_of_one h.descriptor b c h.is (subst (IsOfSection c) (sym same.1) i.is)

section_at : (d : Descriptor) (c : ℕ) (o : Option ℕ) → name_place sections d ≡ o → option_map (λ i. 0x70 + i) o ≡ Some c → IsOfSection c d
section_at d c None e f = absurd (cc)
section_at d c (Some i) e f = subst (λ k. IsOfSection k d) (ap (λ o. unwrap_or o c) f) (of_place d i e)

-- a section is found by its code and by its name alone
pub section_is : (members : List Member) → map as_name members ≡ sections → (d : Descriptor) (place section : Option ℕ)
    → place ≡ place_of members d → section ≡ option_map (λ i. 0x70 + i) place → (c : ℕ) → (section ≡ Some c) ↔ IsOfSection c d
section_is members is d place section at_ by c =
    let whole : section ≡ option_map (λ i. 0x70 + i) (name_place sections d) =
    by ∙ ap (option_map (λ i. 0x70 + i)) (at_ ∙ place_is d members ∙ ap (λ l. name_place l d) is) in (
      λ e. section_at d c (name_place sections d) refl (sym whole ∙ e),
      λ h. whole ∙ place_of_section d c h,
    )

abbrev is_short : List ℕ → Bool
is_short [] = true
is_short (x ∷ xs) = ltb x 128 && is_short xs

both : (a b : Bool) → a && b ≡ true → (a ≡ true) × (b ≡ true)
both true b e = (refl, e)
both false b e = absurd (cc)

short_ascii : (xs : List ℕ) → is_short xs ≡ true → IsAscii xs
short_ascii [] e i = omega arith
short_ascii (x ∷ xs) e zero = ltb-true x 128 (both (ltb x 128) (is_short xs) e).0
short_ascii (x ∷ xs) e (suc i) = short_ascii xs (both (ltb x 128) (is_short xs) e).1 i

title_ascii : (i : ℕ) → i < 9 → IsAscii (title i)
title_ascii i h = short_ascii (title i) (short i h)
  where
    short : (i : ℕ) → i < 9 → is_short (title i) ≡ true
    short zero h = refl
    short (suc zero) h = refl
    short (suc (suc zero)) h = refl
    short (suc (suc (suc zero))) h = refl
    short (suc (suc (suc (suc zero)))) h = refl
    short (suc (suc (suc (suc (suc zero))))) h = refl
    short (suc (suc (suc (suc (suc (suc zero)))))) h = refl
    short (suc (suc (suc (suc (suc (suc (suc zero))))))) h = refl
    short (suc (suc (suc (suc (suc (suc (suc (suc zero)))))))) h = refl
    short (suc (suc (suc (suc (suc (suc (suc (suc (suc i))))))))) h = absurd (omega (arith, h))

section_ascii : (c : ℕ) (s : List ℕ) → IsOfSection c (name s) → IsAscii s
section_ascii c s (t, (i, few, at_), inl is) = absurd (cc)
section_ascii c s (t, (i, few, at_), inr is) =
    let e : t ≡ title i = ap (λ (r : ℕ × List ℕ). r.1) (sym at_ ∙ row_is i (c, t) few) in
    let f : s ≡ t = ap name_of is in
    subst IsAscii (sym (f ∙ e)) (title_ascii i few)
  where
    name_of : Descriptor → List ℕ
    name_of (name s) = s
    name_of (code n) = []

no_section : (c : ℕ) → IsOfSection c (code 0) → ⊥
no_section c h = let e : ◌≡◌ {A = Option ℕ} None (Some c) = place_of_section (code 0) c h in cc

-- a section's descriptor with this code, whose data stands at the front
record Ahead (y : ℕ) (more : List ℕ) (c : ℕ) : Type 0 where
  pub data_ : List ℕ
  pub after : List ℕ
  pub split : more ≡ data_ ++ after
  pub few : length data_ ≤ 62
  pub descriptor : Descriptor
  pub spelled : PrimitiveData (format y) (descriptor_value descriptor) data_
  pub is : IsOfSection c descriptor

ahead_of : (st : State) (y c : ℕ) (more : List ℕ) → st.rest ≡ 0 ∷ y ∷ more → IsSectionAhead st.rest c → Ahead y more c
ahead_of st y c more e a =
    let n = a.spelled in
    let whole : 0 ∷ y ∷ more ≡ 0 ∷ n.0 ∷ (n.1 ++ a.after) = sym e ∙ a.split ∙ ap (λ l. (0 ∷ l) ++ a.after) n.2 in
    let long = ap length n.2 in
    record {
      data_ = n.1;
      after = a.after;
      split = ap (drop 2) whole;
      few = let f = a.few in omega (arith, f, long);
      descriptor = a.descriptor;
      spelled = subst (λ k. PrimitiveData (format k) (descriptor_value a.descriptor) n.1) (sym (ap (λ l. get_or l 1 0) whole)) n.3;
      is = a.is;
    }

of_ahead : (st : State) (y c : ℕ) (more : List ℕ) → st.rest ≡ 0 ∷ y ∷ more → Ahead y more c → IsSectionAhead st.rest c
of_ahead st y c more e a = record {
  own = y ∷ a.data_;
  after = a.after;
  split = e ∙ ap (λ l. 0 ∷ y ∷ l) a.split;
  few = let f = a.few in omega (arith, f);
  descriptor = a.descriptor;
  spelled = (y, a.data_, refl, a.spelled);
  is = a.is;
}

pub through : {A B C : Type 0} → (B ↔ C) → (A ↔ B) → (A ↔ C)
through f g = (λ a. f.0 (g.0 a), λ c. g.1 (f.1 c))

ahead_is : (P : Type 0) (st : State) (y c : ℕ) (more : List ℕ) → st.rest ≡ 0 ∷ y ∷ more → (P ↔ Ahead y more c)
    → (P ↔ IsSectionAhead st.rest c)
ahead_is P st y c more e f = through (of_ahead st y c more e, ahead_of st y c more e) f

is_code : (d : Descriptor) (n : ℕ) → Some (ulong n) ≡ Some (descriptor_value d) → d ≡ code n
is_code (code m) n e = let f : n ≡ m = cc in ap code (sym f)
is_code (name s) n e = absurd (cc)

is_name : (d : Descriptor) (s : List ℕ) → Some (symbol s) ≡ Some (descriptor_value d) → d ≡ name s
is_name (name t) s e = let f : s ≡ t = cc in ap name (sym f)
is_name (code n) s e = absurd (cc)

one_byte : (z : ℕ) → from_be_bytes w8 (z ∷ []) ≡ z
one_byte z = omega arith

one_front : (b after r : List ℕ) (z : ℕ) → z ∷ r ≡ b ++ after → length b ≡ 1 → b ≡ z ∷ []
one_front [] after r z e h = absurd (omega (arith, h))
one_front (x ∷ []) after r z e h = ap (λ k. k ∷ []) (ap (λ l. get_or l 0 0) (sym e))
one_front (x ∷ y ∷ b) after r z e h = absurd (omega (arith, h))

small : (z c : ℕ) (r : List ℕ) → IsOfSection c (code z) ↔ Ahead 0x53 (z ∷ r) c
small z c r = (
  λ h. record {
    data_ = z ∷ [];
    after = r;
    split = refl;
    few = omega arith;
    descriptor = code z;
    spelled = (refl, ap (λ n. Some (ulong n)) (one_byte z), tt);
    is = h;
  },
  λ a.
      let b = one_front a.data_ a.after r z a.split a.spelled.0 in
      let n : from_be_bytes w8 a.data_ ≡ z = ap (from_be_bytes w8) b ∙ one_byte z in
      subst (IsOfSection c) (is_code a.descriptor (from_be_bytes w8 a.data_) a.spelled.1 ∙ ap code n) a.is,
)

large : (c : ℕ) (more : List ℕ) → ((8 ≤ length more) × IsOfSection c (code (from_be_bytes w64 (take 8 more)))) ↔ Ahead 0x80 more c
large c more = (
  λ h.
      let long : length (take 8 more) ≡ 8 = length-take-le 8 more h.0 in
      record {
        data_ = take 8 more;
        after = drop 8 more;
        split = sym (take-append-drop 8 more);
        few = omega (arith, long);
        descriptor = code (from_be_bytes w64 (take 8 more));
        spelled = (long, refl, tt);
        is = h.1;
      },
  λ a.
      let long : length a.data_ ≡ 8 = a.spelled.0 in
      let b : take 8 more ≡ a.data_ = ap (take 8) a.split ∙ take_at a.data_ a.after 8 long in (
        omega (arith, long, ap length a.split, length-append a.data_ a.after),
        subst (IsOfSection c) (is_code a.descriptor (from_be_bytes w64 a.data_) a.spelled.1
            ∙ ap (λ l. code (from_be_bytes w64 l)) (sym b)) a.is,
      ),
)

text : (y w z c : ℕ) (r : List ℕ) → format y ≡ variable w (λ b. Some (symbol b)) → z < 256 ^ w
    → ((w + z ≤ 62) × (z ≤ length r) × IsOfSection c (name (take z r))) ↔ Ahead y (bytes_high_first w z ++ r) c
text y w z c r is fits = (
  λ h.
      let s = take z r in
      let long : length s ≡ z = length-take-le z r h.1 in
      record {
        data_ = bytes_high_first w z ++ s;
        after = drop z r;
        split = ap (λ l. bytes_high_first w z ++ l) (sym (take-append-drop z r)) ∙ sym (append_assoc (bytes_high_first w z) s (drop z r));
        few = omega (arith, h.0, long, length-append (bytes_high_first w z) s, length-bytes w z);
        descriptor = name s;
        spelled = subst (λ F. PrimitiveData F (symbol s) (bytes_high_first w z ++ s)) (sym is)
            (s, subst (λ k. k < 256 ^ w) (sym long) fits, ap (λ k. bytes_high_first w k ++ s) (sym long), refl, section_ascii c s h.2);
        is = h.2;
      },
  λ a.
      let p = subst (λ F. PrimitiveData F (descriptor_value a.descriptor) a.data_) is a.spelled in
      let s = p.0 in
      let whole : bytes_high_first w z ++ r ≡ bytes_high_first w (length s) ++ (s ++ a.after) =
      a.split ∙ ap (λ l. l ++ a.after) p.2 ∙ append_assoc (bytes_high_first w (length s)) s a.after in
      let f = field w z (length s) r (s ++ a.after) fits p.1 whole in
      let t : take z r ≡ s = ap₂ (λ k l. take k l) f.0 f.1 ∙ take_at s a.after (length s) refl in
      let few_ = a.few in (
        omega (arith, few_, f.0, ap length p.2, length-append (bytes_high_first w (length s)) s, length-bytes w (length s)),
        omega (arith, f.0, ap length f.1, length-append s a.after),
        subst (IsOfSection c) (is_name a.descriptor s p.3 ∙ ap name (sym t)) a.is,
      ),
)

zero_data : (n : ℕ) (b : List ℕ) → PrimitiveData (fixed 0 (λ b. Some (ulong 0))) (ulong n) b → code n ≡ code 0
zero_data n b d = is_code (code n) 0 d.1

no_zero : (y n c : ℕ) (b : List ℕ) → PrimitiveData (format y) (ulong n) b → IsOfSection c (code n) → y ≡ 0x44 → ⊥
no_zero y n c b d is e = no_section c (subst (IsOfSection c) (zero_data n b (subst (λ F. PrimitiveData F (ulong n) b) (ap format e) d)) is)

no_ulong : (y n c : ℕ) (b : List ℕ) → (y ≡ 0x53 → ⊥) → (y ≡ 0x80 → ⊥) → PrimitiveData (format y) (ulong n) b → IsOfSection c (code n) → ⊥
no_ulong y n c b f g d is = not_three 5 y 0x44 0x53 0x80 refl (no_zero y n c b d is) f g (kind_data y (ulong n) b d)

none_under : (y c : ℕ) (b : List ℕ) (d : Descriptor) → (y ≡ 0x53 → ⊥) → (y ≡ 0x80 → ⊥) → (y ≡ 0xa3 → ⊥) → (y ≡ 0xb3 → ⊥)
    → PrimitiveData (format y) (descriptor_value d) b → IsOfSection c d → ⊥
none_under y c b (code n) small large narrow wide p is = no_ulong y n c b small large p is
none_under y c b (name s) small large narrow wide p is = not_two 18 y 0xa3 0xb3 refl narrow wide (kind_data y (symbol s) b p)

-- the first bytes of those that were looked at
first_three : (l : List ℕ) → 3 ≤ length l → (r : List ℕ) × (l ≡ get_or l 0 0 ∷ get_or l 1 0 ∷ get_or l 2 0 ∷ r)
first_three [] h = absurd (omega (arith, h))
first_three (x ∷ []) h = absurd (omega (arith, h))
first_three (x ∷ y ∷ []) h = absurd (omega (arith, h))
first_three (x ∷ y ∷ z ∷ r) h = (r, refl)

-- a described value with this code, and a further byte, were looked at
pub record Shows (st m : State) (y z : ℕ) : Type 0 where
  pub more : List ℕ
  pub rest : st.rest ≡ 0 ∷ y ∷ z ∷ more
  pub same : m.rest ≡ st.rest

pub shows : (st m : State) (n y : ℕ) (l : List ℕ) → m ≡ after_look n st → st.rest ≡ l ++ drop n st.rest → 3 ≤ length l → get_or l 0 0 ≡ 0
    → get_or l 1 0 ≡ y → Shows st m y (get_or l 2 0)
shows st m n y l is e long first second =
    let t = first_three l long in
    record {
      more = t.0 ++ drop n st.rest;
      rest = e ∙ ap (λ x. x ++ drop n st.rest) t.1
          ∙ ap₂ (λ a b. a ∷ b ∷ get_or l 2 0 ∷ (t.0 ++ drop n st.rest)) first second;
      same = ap (λ (z : State). z.rest) is;
    }

-- a look at three bytes, the first of which are these
pub looked_first : (st m : State) (n y : ℕ) (l : List ℕ) → length l ≡ 3 → n ≤ 3 → 3 ≤ n → st.rest ≡ take n l ++ drop n st.rest
    → m ≡ after_look n st → get_or l 0 0 ≡ 0 → get_or l 1 0 ≡ y → LooksOn st m × Shows st m y (get_or l 2 0)
looked_first st m n y l whole few there front is first second = (
  looks_once n st m l (omega (arith, few)) (omega (arith, few, whole)) front is,
  shows st m n y l is (front_all n l st.rest (omega (arith, whole, there)) front) (omega (arith, whole)) first second,
)

pub small_code : (st m : State) (z c : ℕ) → Shows st m 0x53 z → IsOfSection c (code z) ↔ IsSectionAhead st.rest c
small_code st m z c s = ahead_is _ st 0x53 c (z ∷ s.more) s.rest (small z c s.more)

pub large_code : (st m : State) (z c : ℕ) → Shows st m 0x80 z → IsLongCodeAhead m.rest c ↔ IsSectionAhead st.rest c
large_code st m z c s =
    let at_ : m.rest ≡ 0 ∷ 0x80 ∷ z ∷ s.more = s.same ∙ s.rest in
    ahead_is _ st 0x80 c (z ∷ s.more) s.rest
    (through (large c (z ∷ s.more)) (
      λ h. let k = subst (λ r. IsLongCodeAhead r c) at_ h in (omega (arith, k.0), k.1),
      λ h. subst (λ r. IsLongCodeAhead r c) (sym at_) (omega (arith, h.0), h.1),
    ))

one_size : (z : ℕ) → z < 256 → bytes_high_first 1 z ≡ z ∷ []
one_size z h = let e : byte_at 0 z ≡ z = omega (arith, h) in ap (λ k. k ∷ []) e

short_under : (z c : ℕ) (r : List ℕ) → z < 256 → IsNameAhead 3 z (0 ∷ 0xa3 ∷ z ∷ r) c ↔ Ahead 0xa3 (z ∷ r) c
short_under z c r fits =
    let sized : bytes_high_first 1 z ++ r ≡ z ∷ r = ap (λ l. l ++ r) (one_size z fits) in
    subst (λ l. IsNameAhead 3 z (0 ∷ 0xa3 ∷ z ∷ r) c ↔ Ahead 0xa3 l c) sized
    (through (text 0xa3 1 z c r refl (omega (arith, fits)))
    (λ h. (omega (arith, h.0), omega (arith, h.1), h.2), λ h. (omega (arith, h.0), omega (arith, h.1), h.2)))

-- a size of one byte
byte_of : (z c : ℕ) (r : List ℕ) → Ahead 0xa3 (z ∷ r) c → z < 256
byte_of z c r a =
    let p : PrimitiveData (variable 1 (λ b. Some (symbol b))) (descriptor_value a.descriptor) a.data_ = a.spelled in
    let n = length p.0 in
    let fits : n < 256 = omega (arith, p.1) in
    let first : z ≡ n = ap (λ l. get_or l 0 0) (a.split ∙ ap (λ l. l ++ a.after) (p.2 ∙ ap (λ l. l ++ p.0) (one_size n fits))) in
    omega (arith, first, fits)

pub short_name : (st m : State) (z c : ℕ) → Shows st m 0xa3 z → IsNameAhead 3 z m.rest c ↔ IsSectionAhead st.rest c
short_name st m z c s =
    let at_ : m.rest ≡ 0 ∷ 0xa3 ∷ z ∷ s.more = s.same ∙ s.rest in
    ahead_is _ st 0xa3 c (z ∷ s.more) s.rest (subst (λ r. IsNameAhead 3 z r c ↔ Ahead 0xa3 (z ∷ s.more) c) (sym at_) (
      λ h. (short_under z c s.more (omega (arith, h.0))).0 h,
      λ a. (short_under z c s.more (byte_of z c s.more a)).1 a,
    ))

pub none_ahead : (st m : State) (y z c : ℕ) → (y ≡ 0x53 → ⊥) → (y ≡ 0x80 → ⊥) → (y ≡ 0xa3 → ⊥) → (y ≡ 0xb3 → ⊥) → Shows st m y z
    → IsSectionAhead st.rest c → ⊥
none_ahead st m y z c f g h k s a =
    let b = ahead_of st y c (z ∷ s.more) s.rest a in none_under y c b.data_ b.descriptor f g h k b.spelled b.is

-- what was looked at is the front of what stands there
part_front : (n i : ℕ) (l x : List ℕ) → i + n ≤ length l → take n (drop i (l ++ x)) ≡ take n (drop i l)
part_front n i l x h =
    ap (take n) (drop-append-le i l x (omega (arith, h))) ∙ take-append-le n (drop i l) x (omega (arith, h, length-drop i l))

pub named_front : (st : State) (n start len : ℕ) (l s : List ℕ) (o : Option ℕ) → st.rest ≡ l ++ drop n st.rest
    → start + len ≤ 64 → length l ≡ start + len → s ≡ take (length l - start) (drop start l)
    → ((c : ℕ) → (o ≡ Some c) ↔ IsOfSection c (name s)) → (c : ℕ) → (o ≡ Some c) ↔ IsNameAhead start len st.rest c
named_front st n start len l s o e few long at_ f c =
    let x = drop n st.rest in
    let whole : len ≡ length l - start = omega (arith, long) in
    let front : take len (drop start st.rest) ≡ s =
    ap (λ r. take len (drop start r)) e ∙ part_front len start l x (omega (arith, long)) ∙ ap (λ k. take k (drop start l)) whole ∙ sym at_ in
    through (
      λ h. (few, omega (arith, long, ap length e, length-append l x), subst (λ b. IsOfSection c (name b)) (sym front) h),
      λ h. subst (λ b. IsOfSection c (name b)) front h.2,
    ) (f c)

-- the bytes of a list from one on
abbrev pub bytes_at : ℕ → ℕ → List ℕ → List ℕ
bytes_at zero i l = []
bytes_at (suc n) i l = get_or l i 0 ∷ bytes_at n (suc i) l

pub bytes_are : (n i : ℕ) (l : List ℕ) → i + n ≤ length l → take n (drop i l) ≡ bytes_at n i l
bytes_are zero i l h = refl
bytes_are (suc n) i l h =
    ap (take (suc n)) (drop-cons l i 0 (omega (arith, h))) ∙ ap (λ x. get_or l i 0 ∷ x) (bytes_are n (suc i) l (omega (arith, h)))

shown : (st : State) (n k i : ℕ) (l : List ℕ) → st.rest ≡ l ++ drop n st.rest → i + k ≤ length l
    → take k (drop i st.rest) ≡ bytes_at k i l
shown st n k i l e few =
    ap (λ r. take k (drop i r)) e ∙ part_front k i l (drop n st.rest) few ∙ bytes_are k i l few

pub large_shown : (st : State) (n v : ℕ) (l : List ℕ) (o : Option ℕ) → st.rest ≡ l ++ drop n st.rest → 10 ≤ length l
    → v ≡ from_be_bytes w64 (bytes_at 8 2 l) → ((c : ℕ) → (o ≡ Some c) ↔ IsOfSection c (code v)) → (c : ℕ) → (o ≡ Some c)
    ↔ IsLongCodeAhead st.rest c
large_shown st n v l o e few at_ f c =
    let value : v ≡ from_be_bytes w64 (take 8 (drop 2 st.rest)) = at_ ∙ ap (from_be_bytes w64) (sym (shown st n 8 2 l e few)) in
    through (
      λ h. (
        omega (arith, few, ap length e, length-append l (drop n st.rest)),
        subst (λ k. IsOfSection c (code k)) value h,
      ),
      λ h. subst (λ k. IsOfSection c (code k)) (sym value) h.1,
    ) (f c)

pub size_shown : (st m : State) (n v : ℕ) (l : List ℕ) → m ≡ after_look n st → st.rest ≡ l ++ drop n st.rest → 6 ≤ length l → v < 256 ^ 4
    → bytes_high_first 4 v ≡ bytes_at 4 2 l → (c : ℕ) → IsNameAhead 6 v m.rest c ↔ IsLongNameAhead st.rest c
size_shown st m n v l is e few fits at_ c =
    let same : m.rest ≡ st.rest = ap (λ (z : State). z.rest) is in
    let sized : take 4 (drop 2 st.rest) ≡ bytes_high_first 4 v = shown st n 4 2 l e few ∙ sym at_ in (
      λ h. (v, fits, sized, subst (λ r. IsNameAhead 6 v r c) same h),
      λ h.
          let one : h.0 ≡ v = (field 4 h.0 v [] [] h.1 fits (ap (λ l. l ++ []) (sym h.2 ∙ sized))).0 in
          subst (λ r. IsNameAhead 6 v r c) (sym same) (subst (λ k. IsNameAhead 6 k st.rest c) one h.3),
    )

long_under : (n c : ℕ) (r : List ℕ) → n < 256 ^ 4 → IsNameAhead 6 n (0 ∷ 0xb3 ∷ (bytes_high_first 4 n ++ r)) c
    ↔ Ahead 0xb3 (bytes_high_first 4 n ++ r) c
long_under n c r fits =
    through (text 0xb3 4 n c r refl fits)
    (λ h. (omega (arith, h.0), omega (arith, h.1), h.2), λ h. (omega (arith, h.0), omega (arith, h.1), h.2))

size_of : (c : ℕ) (more : List ℕ) → Ahead 0xb3 more c → (n : ℕ) × (n < 256 ^ 4) × (more ≡ bytes_high_first 4 n ++ drop 4 more)
size_of c more a =
    let p : PrimitiveData (variable 4 (λ b. Some (symbol b))) (descriptor_value a.descriptor) a.data_ = a.spelled in
    let n = length p.0 in
    let whole : more ≡ bytes_high_first 4 n ++ (p.0 ++ a.after) =
    a.split ∙ ap (λ l. l ++ a.after) p.2 ∙ append_assoc (bytes_high_first 4 n) p.0 a.after in
    (n, p.1, whole ∙ ap (λ l. bytes_high_first 4 n ++ l) (sym (ap (drop 4) whole)))

pub long_name : (st m : State) (z c : ℕ) → Shows st m 0xb3 z → IsLongNameAhead m.rest c ↔ IsSectionAhead st.rest c
long_name st m z c s =
    let more = z ∷ s.more in
    let at_ : m.rest ≡ 0 ∷ 0xb3 ∷ more = s.same ∙ s.rest in
    ahead_is _ st 0xb3 c more s.rest (
      λ h.
          let n = h.0 in
          let front : take 4 more ≡ bytes_high_first 4 n = subst (λ r. take 4 (drop 2 r) ≡ bytes_high_first 4 n) at_ h.2 in
          let whole : more ≡ bytes_high_first 4 n ++ drop 4 more = sym (take-append-drop 4 more) ∙ ap (λ l. l ++ drop 4 more) front in
          subst (λ l. Ahead 0xb3 l c) (sym whole)
          ((long_under n c (drop 4 more) h.1).0 (subst (λ r. IsNameAhead 6 n r c) (at_ ∙ ap (λ l. 0 ∷ 0xb3 ∷ l) whole) h.3)),
      λ a.
          let t = size_of c more a in
          let n = t.0 in
          let r = drop 4 more in
          let to : m.rest ≡ 0 ∷ 0xb3 ∷ (bytes_high_first 4 n ++ r) = at_ ∙ ap (λ l. 0 ∷ 0xb3 ∷ l) t.2 in (
            n,
            t.1,
            ap (λ l. take 4 (drop 2 l)) to,
            subst (λ l. IsNameAhead 6 n l c) (sym to) ((long_under n c r t.1).1 (subst (λ l. Ahead 0xb3 l c) t.2 a)),
          ),
    )

-- what a look and a further call find
pub ahead_map : {E : Type 0} (r : Result (Option ℕ) E) (P Q : ℕ → Type 0) (st m new : State) → LooksOn st m → ((c : ℕ) → P c ↔ Q c)
    → IfOk r (λ o. LooksOn m new × ((c : ℕ) → (o ≡ Some c) ↔ P c)) → IfOk r (λ o. LooksOn st new × ((c : ℕ) → (o ≡ Some c) ↔ Q c))
ahead_map (Ok o) P Q st m new looks f h = (looks_more st m new looks h.0, λ c. through (f c) (h.1 c))
ahead_map (Err e) P Q st m new looks f h = tt
