-- The data of primitives.
use Rattle.std.proofs.Common.{◌≡◌, ℕ, [], append_assoc, append-nil, unwrap_or, None, ◌+◌, ◌^◌, ◌<◌, ◌≤◌, Bool, true, false, List, ◌++◌, length, take, drop, Option, Some, refl, sym, ap, ◌∙◌, subst}
use Rattle.std.proofs.Common.{arith}
use Rattle.std.proofs.Math.Dec.{leb}
use Rattle.std.proofs.Math.Seq.{take-add}
use Rattle.std.proofs.lemmas.Bool.{leb-true, leb-false}
use Rattle.std.proofs.lemmas.List.{take-append-drop, length-append, length-drop, length-take-le}
use Rattle.std.specs.Int.{bytes_high_first}
use Rattle.amqp_model.specs.Term.{Primitive, leaf}
use Rattle.amqp_model.specs.Constructors.{Format, fixed, variable, compound, unknown, format}
use Rattle.amqp_model.specs.Spelling.{IsKnown, PrimitiveData}
use Rattle.amqp_lengths.specs.Fronts.{IsFront, NoFront}
use Rattle.amqp_lengths.specs.Pieces.{width_of, IsPrimitive, HasWidth, IsNumber, IsValue, value_of, fixed_width}
use Rattle.amqp_lengths.specs.Stands.{AnyData}
use Rattle.amqp_lengths.proofs.Codes.{fixed_at, sized_at}
use Rattle.amqp_model.specs.Term.{Container}
use Rattle.amqp_model.specs.Measures.{nest}
use Rattle.amqp_model.proofs.Bytes.{length-bytes, front, field}
use Rattle.amqp_lengths.specs.Announced.{IsAnnounced}
use Rattle.amqp_lengths.specs.Pieces.{PrimitiveOf}
use Rattle.amqp_lengths.proofs.Announced.{announced_data}
use Rattle.amqp_lengths.proofs.Containers.{data_primitive}
use Rattle.std.specs.Option.{MatchOption}
use Rattle.amqp_paths.specs.Steps.{NoneWithin}
use Rattle.amqp_paths.proofs.Containers.{number_then}
use Rattle.amqp_paths.proofs.Named.{front_of_front}

pub primitive_of : (F : Format) → IsKnown F → ((kind : Container) (w : ℕ) → F ≡ compound kind w → ⊥) → IsPrimitive F
primitive_of (fixed w value) known other = tt
primitive_of (variable w value) known other = tt
primitive_of (compound kind w) known other = other kind w refl
primitive_of unknown known other = known

pub fixed_wide : (c : ℕ) (bytes : List ℕ) → c < 0xa0 → IsPrimitive (format c) → length bytes ≡ fixed_width c → HasWidth (format c) bytes
fixed_wide c bytes small p l = let (value, is) = fixed_at c small p in subst (λ F. HasWidth F bytes) (sym is) l

pub fixed_data : (c n : ℕ) (input bytes : List ℕ) → c < 0xa0 → IsPrimitive (format c) → n ≡ fixed_width c → n ≤ length input
    → bytes ≡ take n input → IsValue (format c) bytes → IsFront (AnyData c) input n
fixed_data c n input bytes small prim width few is (p, v, ok) =
    let (value, at) = fixed_at c small prim in
    let v' : value bytes ≡ Some p = subst (λ F. value_of F bytes ≡ Some p) at v in
    let l : length bytes ≡ fixed_width c = ap length is ∙ length-take-le n input few ∙ width in
    record {
      within = few;
      spelled = (leaf p, subst (PrimitiveData (format c) p) is (subst (λ F. PrimitiveData F p bytes) (sym at) (l, v', ok)));
    }

pub sized_primitive : (c w : ℕ) (value : List ℕ → Option Primitive) → format c ≡ variable w value → IsPrimitive (format c)
sized_primitive c w value is = subst IsPrimitive (sym is) tt

pub sized_wide : (c w : ℕ) (value : List ℕ → Option Primitive) (bytes : List ℕ) → format c ≡ variable w value → HasWidth (format c) bytes
sized_wide c w value bytes is = subst (λ F. HasWidth F bytes) (sym is) tt

pub sized_data : (c w n end : ℕ) (value : List ℕ → Option Primitive) (input bytes : List ℕ) → format c ≡ variable w value → IsFront (IsNumber w n) input w
    → end ≡ w + n → end ≤ length input → bytes ≡ take n (drop w input) → IsValue (format c) bytes → IsFront (AnyData c) input end
sized_data c w n end value input bytes at h ends few is (p, v, ok) =
    let v' : value bytes ≡ Some p = subst (λ F. value_of F bytes ≡ Some p) at v in
    let l : n ≡ length bytes = sym (ap length is ∙ length-take-le n (drop w input) (omega (arith, few, ends, length-drop w input))) in
    let fits : length bytes < 256 ^ w = subst (λ x. x < 256 ^ w) l h.spelled.0 in
    let all : take end input ≡ bytes_high_first w (length bytes) ++ bytes =
    ap (λ k. take k input) ends ∙ take-add w n input ∙ ap (λ x. x ++ take n (drop w input)) h.spelled.1
    ∙ ap (λ x. bytes_high_first w n ++ x) (sym is) ∙ ap (λ k. bytes_high_first w k ++ bytes) l in
    record {
      within = few;
      spelled = (leaf p, subst (λ F. PrimitiveData F p (take end input)) (sym at) (bytes, fits, all, v', ok));
    }

-- the width of the size
pub sized_short : (c : ℕ) → 0xa0 ≤ c → c < 0xb0 → IsPrimitive (format c) → (value : List ℕ → Option Primitive) × (format c ≡ variable 1 value)
sized_short c some small p = by_test (leb 0xb0 c) refl (sized_at c some p)
  where
    by_test : (t : Bool) → leb 0xb0 c ≡ t → (value : List ℕ → Option Primitive) × (format c ≡ variable (width_of (leb 0xb0 c)) value)
        → (value : List ℕ → Option Primitive) × (format c ≡ variable 1 value)
    by_test true e h = absurd (omega (arith, leb-true 0xb0 c e))
    by_test false e (value, is) = (value, is ∙ ap (λ t. variable (width_of t) value) e)

pub sized_long : (c : ℕ) → 0xb0 ≤ c → IsPrimitive (format c) → (value : List ℕ → Option Primitive) × (format c ≡ variable 4 value)
sized_long c some p = by_test (leb 0xb0 c) refl (sized_at c (omega arith) p)
  where
    by_test : (t : Bool) → leb 0xb0 c ≡ t → (value : List ℕ → Option Primitive) × (format c ≡ variable (width_of (leb 0xb0 c)) value)
        → (value : List ℕ → Option Primitive) × (format c ≡ variable 4 value)
    by_test true e (value, is) = (value, is ∙ ap (λ t. variable (width_of t) value) e)
    by_test false e h = absurd (omega (arith, leb-false 0xb0 c e))

-- what data of a primitive holds
value_in : (c : ℕ) (b : List ℕ) → IsPrimitive (format c) → AnyData c b → PrimitiveOf c b
value_in c b prim (t, d) = data_primitive c (nest t) b prim (t, d, omega arith)

fixed_in : (c w : ℕ) (value : List ℕ → Option Primitive) (b : List ℕ) → format c ≡ fixed w value → PrimitiveOf c b
    → (length b ≡ w) × IsValue (format c) b
fixed_in c w value b is (p, h) =
    let (l, v, ok) = subst (λ F. PrimitiveData F p b) is h in (l, subst (λ F. IsValue F b) (sym is) (p, v, ok))

pub fixed_none : (c n : ℕ) (input : List ℕ) → c < 0xa0 → IsPrimitive (format c) → n ≡ fixed_width c → length input < n → NoFront (AnyData c) input
fixed_none c n input small prim width few = λ b after is d.
    let (value, at) = fixed_at c small prim in
    let (l, v) = fixed_in c (fixed_width c) value b at (value_in c b prim d) in
    omega (arith, l, width, few, ap length is, length-append b after)

pub fixed_wrong : (c n : ℕ) (input bytes : List ℕ) → c < 0xa0 → IsPrimitive (format c) → n ≡ fixed_width c → n ≤ length input → bytes ≡ take n input
    → (IsValue (format c) bytes → ⊥) → NoFront (AnyData c) input
fixed_wrong c n input bytes small prim width few is wrong = λ b after all d.
    let (value, at) = fixed_at c small prim in
    let (l, v) = fixed_in c (fixed_width c) value b at (value_in c b prim d) in
    let same : take n input ≡ b =
    front (take n input) b (drop n input) after (length-take-le n input few ∙ width ∙ sym l) (take-append-drop n input ∙ all) in
    wrong (subst (IsValue (format c)) (sym (is ∙ same)) v)

-- what is behind a size
record Sized (c w n : ℕ) (input after : List ℕ) : Type 0 where
  pub content : List ℕ
  pub long : n ≡ length content
  pub there : drop w input ≡ content ++ after
  pub value : IsValue (format c) content

sized_in : (c w : ℕ) (value : List ℕ → Option Primitive) (b : List ℕ) → format c ≡ variable w value → PrimitiveOf c b
    → (content : List ℕ) × (length content < 256 ^ w) × (b ≡ bytes_high_first w (length content) ++ content) × IsValue (format c) content
sized_in c w value b is (p, h) =
    let (content, fits, s, v, ok) = subst (λ F. PrimitiveData F p b) is h in (content, fits, s, subst (λ F. IsValue F content) (sym is) (p, v, ok))

sized_there : (c w n : ℕ) (value : List ℕ → Option Primitive) (input b after : List ℕ) → format c ≡ variable w value → IsFront (IsNumber w n) input w
    → input ≡ b ++ after → AnyData c b → Sized c w n input after
sized_there c w n value input b after at h is d =
    let (content, fits, s, v) = sized_in c w value b at (value_in c b (sized_primitive c w value at) d) in
    let all : bytes_high_first w n ++ drop w input ≡ bytes_high_first w (length content) ++ (content ++ after) =
    sym (number_then w n input h) ∙ is ∙ ap (λ x. x ++ after) s ∙ append_assoc (bytes_high_first w (length content)) content after in
    let (long, there) = field w n (length content) (drop w input) (content ++ after) h.spelled.0 fits all in
    record { content = content; long = long; there = there; value = v }

pub sized_unbegun : (c w : ℕ) (value : List ℕ → Option Primitive) (input : List ℕ) → format c ≡ variable w value → length input < w
    → NoFront (AnyData c) input
sized_unbegun c w value input at few = λ b after is d.
    let (content, fits, s, v) = sized_in c w value b at (value_in c b (sized_primitive c w value at) d) in
    omega (
      arith,
      few,
      ap length is,
      length-append b after,
      ap length s,
      length-append (bytes_high_first w (length content)) content,
      length-bytes w (length content),
    )

pub sized_none : (c w n : ℕ) (value : List ℕ → Option Primitive) (input : List ℕ) → format c ≡ variable w value → IsFront (IsNumber w n) input w
    → length (drop w input) < n → NoFront (AnyData c) input
sized_none c w n value input at h few = λ b after is d.
    let k = sized_there c w n value input b after at h is d in
    omega (arith, few, k.long, ap length k.there, length-append k.content after)

pub sized_wrong : (c w n : ℕ) (value : List ℕ → Option Primitive) (input bytes : List ℕ) → format c ≡ variable w value → IsFront (IsNumber w n) input w
    → n ≤ length (drop w input) → bytes ≡ take n (drop w input) → (IsValue (format c) bytes → ⊥) → NoFront (AnyData c) input
sized_wrong c w n value input bytes at h few same wrong = λ b after is d.
    let k = sized_there c w n value input b after at h is d in
    let one : take n (drop w input) ≡ k.content =
    front (take n (drop w input)) k.content (drop n (drop w input)) after (length-take-le n (drop w input) few ∙ k.long)
    (take-append-drop n (drop w input) ∙ k.there) in
    wrong (subst (IsValue (format c)) (sym (same ∙ one)) k.value)

-- what is known of data by what it announces
abbrev pub Told : ℕ → List ℕ → Option ℕ → Type 0
Told c input made = (b after : List ℕ) → input ≡ b ++ after → IsAnnounced (format c) b → made ≡ Some (length b)

told_length : (c n : ℕ) (input b after : List ℕ) (made : Option ℕ) → Told c input made → made ≡ Some n → input ≡ b ++ after → AnyData c b → n ≡ length b
told_length c n input b after made told is all (t, d) =
    ap (λ z. unwrap_or z 0) (sym is ∙ told b after all (announced_data t [] c b d))

pub untold_beyond : (c room : ℕ) (input : List ℕ) (made : Option ℕ) → Told c input made → made ≡ None → NoneWithin (AnyData c) input room
untold_beyond c room input made told is b after all (t, d) = let e = told b after all (announced_data t [] c b d) in absurd (cc)

pub told_beyond : (c n room : ℕ) (input : List ℕ) (made : Option ℕ) → Told c input made → made ≡ Some n → room < n → NoneWithin (AnyData c) input room
told_beyond c n room input made told is far b after all d = omega (arith, far, told_length c n input b after made told is all d)

pub told_cut : (c n room : ℕ) (input : List ℕ) (made : Option ℕ) → Told c input made → made ≡ Some n → length input < n
    → NoneWithin (AnyData c) input room
told_cut c n room input made told is cut b after all d =
    absurd (omega (arith, cut, told_length c n input b after made told is all d, ap length all, length-append b after))

pub told_answered : (c n room : ℕ) (input bytes : List ℕ) (made o : Option ℕ) (X Y : Type 0) → Told c input made → made ≡ Some n → n ≤ length input
    → bytes ≡ take n input → n ≤ room → MatchOption o (NoFront (AnyData c) bytes) (λ m. IsFront (AnyData c) bytes m)
    → MatchOption o (X → Y → NoneWithin (AnyData c) input room) (λ m. IsFront (AnyData c) input m × (m ≤ room))
told_answered c n room input bytes made (Some m) X Y told is few same near f =
    let (g, less) = front_of_front (AnyData c) input n m few (subst (λ l. IsFront (AnyData c) l m) same f) in (g, omega (arith, less, near))
told_answered c n room input bytes made None X Y told is few same near none = λ x y b after all d.
    let l = told_length c n input b after made told is all d in
    let one : take n input ≡ b = front (take n input) b (drop n input) after (length-take-le n input few ∙ l) (take-append-drop n input ∙ all) in
    absurd (none b [] (same ∙ one ∙ sym (append-nil b)) d)

pub no_container : (c w : ℕ) (kind : Container) → format c ≡ compound kind w → IsPrimitive (format c) → ⊥
no_container c w kind is prim = subst IsPrimitive is prim
