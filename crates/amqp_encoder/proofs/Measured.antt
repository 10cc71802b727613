-- What holds of a term that the measuring pass takes, and of one that it refuses.
use Rattle.std.proofs.Common.{◌≡◌, ℕ, ◌+◌, ◌<◌, ◌≤◌, List, [], ◌++◌, length, drop, refl, sym, inl, inr, ◌⊎◌, arith, length-append}
use Rattle.std.proofs.lemmas.List.{drop_at}
use Rattle.amqp_model.specs.Term.{null, Term, Terms, leaf, container, described, kept, none, more, count}
use Rattle.amqp_model.specs.Spelling.{descriptor_value}
use Rattle.amqp_model.specs.Text.{Place, Alone, First, Later, next, wide, wide_code, text, texts}
use Rattle.amqp_model.specs.Ranges.{IsInRange}
use Rattle.amqp_model.specs.Refusals.{Somewhere, SomewhereIn, IsItem, core, HasForm}
use Rattle.amqp_model.proofs.Primitives.{IsWritten}
use Rattle.amqp_wire.specs.declared.error.Error.{Error}
use Rattle.amqp_wire.specs.declared.error.Error.TheVariants.{Depth, ZeroWidthItems, MixedArray, TooLarge, LazyInArray}
use Rattle.amqp_encoder.specs.Measuring.{MAX, descriptor_bytes}
use Rattle.amqp_encoder.specs.Reasons.{HasReason, nest_by}
use Rattle.amqp_encoder.specs.Sound.{IsSound, AreSound}

abbrev pub InArray : Place → Type 0
InArray Alone = ⊥
InArray First = Unit {0}
InArray Later = Unit {0}

-- the descriptors of a term in canonical form, and the code under them that it has in an array
abbrev pub descs : Term → List ℕ
descs (described d t) = descriptor_bytes d ++ descs t
descs _ = []

abbrev pub core_code : Term → ℕ
core_code (leaf p) = (wide p).0
core_code (container k ts) = wide_code k
core_code (described d t) = core_code t
core_code _ = 0

abbrev pub code_after : Place → ℕ → ℕ → ℕ
code_after Alone cd x = cd
code_after First cd x = x
code_after Later cd x = cd

abbrev pub descs_after : Place → List ℕ → List ℕ → List ℕ
descs_after Alone D ds = D
descs_after First D ds = D ++ ds
descs_after Later D ds = D

-- where the constructor of the next value goes on
abbrev pub Fit : Place → ℕ → List ℕ → Type 0
Fit Alone s D = Unit {0}
Fit First s D = s ≡ length D
Fit Later s D = s ≤ length D

-- the same constructor, or another one
abbrev pub Same : Place → ℕ → List ℕ → ℕ → List ℕ → ℕ → Type 0
Same Alone s D cd ds x = Unit {0}
Same First s D cd ds x = Unit {0}
Same Later s D cd ds x = (drop s D ≡ ds) × (cd ≡ x)

-- no descriptor is left and the code is this one, which isn't so
abbrev pub OtherCode : Place → ℕ → List ℕ → ℕ → ℕ → Type 0
OtherCode Alone s D cd x = ⊥
OtherCode First s D cd x = ⊥
OtherCode Later s D cd x = (drop s D ≡ []) × (cd ≡ x) → ⊥

-- these bytes of descriptors and this code aren't the constructor of the term, as far as it has one
abbrev pub IsOther : List ℕ → ℕ → Term → Type 0
IsOther ds x (described d t) = (rest : List ℕ) → ds ≡ descriptor_bytes d ++ rest → IsOther rest x t
IsOther ds x t = HasForm t × ((ds ≡ []) × (x ≡ core_code t) → ⊥)

abbrev pub Other : Place → ℕ → List ℕ → ℕ → Term → Type 0
Other Alone s D cd t = ⊥
Other First s D cd t = ⊥
Other Later s D cd t = IsOther (drop s D) cd t

-- the descriptors of a term are of their types
abbrev pub Chain : Term → Type 0
Chain (described d t) = IsInRange (descriptor_value d) × IsWritten (descriptor_value d) × Chain t
Chain _ = Unit {0}

-- it takes bytes, unless it is kept and has none
abbrev pub TakesBytes : Term → Place → Type 0
TakesBytes t p = (1 ≤ length (text t p)) ⊎ (kept [] ≡ t)

module _ (deep : List ℕ → ℕ) where
  abbrev pub IsWithin : ℕ → Term → Type 0
  IsWithin d (container k ts) = d + nest_by deep (container k ts) ≤ 128
  IsWithin d (described e t) = d + nest_by deep (described e t) ≤ 128
  IsWithin d (kept b) = d + deep b ≤ 128
  IsWithin d _ = Unit {0}

  abbrev pub AllWithin : ℕ → Terms → Type 0
  AllWithin d none = Unit {0}
  AllWithin d (more t ts) = IsWithin d t × AllWithin d ts

  abbrev pub IsPast : Place → ℕ → Term → Type 0
  IsPast p d (container k ts) = 128 < d + nest_by deep (container k ts)
  IsPast p d (described e t) = 128 < d + nest_by deep (described e t)
  IsPast Alone d (kept b) = 128 < d + deep b
  IsPast p d _ = ⊥

  abbrev pub AnyPast : Place → ℕ → Terms → Type 0
  AnyPast p d none = ⊥
  AnyPast p d (more t ts) = IsPast p d t ⊎ AnyPast (next p) d ts

  pub record AcceptedAt (t : Term) (p : Place) (c n d s cd : ℕ) (D : List ℕ) : Type 0 where
    pub sound : IsSound t p
    pub clean : (e : Error) → Somewhere (HasReason e) t → ⊥
    pub within : IsWithin d t
    pub long : c + length (text t p) ≤ MAX
    pub many : n + 1 ≤ MAX
    pub formed : InArray p → HasForm t
    pub chain : Chain t
    pub same : Same p s D cd (descs t) (core_code t)

  pub data RefusedAt (t : Term) (p : Place) (c n d s cd : ℕ) (D : List ℕ) (e : Error) : Type 0 where
    inside : Somewhere (HasReason e) t → RefusedAt t p c n d s cd D e
    past : e ≡ Depth → IsPast p d t → RefusedAt t p c n d s cd D e
    too_long : e ≡ TooLarge → MAX < c + length (text t p) → RefusedAt t p c n d s cd D e
    too_many : e ≡ TooLarge → MAX < n + 1 → RefusedAt t p c n d s cd D e
    null_item : e ≡ ZeroWidthItems → InArray p → core t ≡ leaf null → RefusedAt t p c n d s cd D e
    kept_item : e ≡ LazyInArray → InArray p → (b : List ℕ) → core t ≡ kept b → RefusedAt t p c n d s cd D e
    other : e ≡ MixedArray → Other p s D cd t → RefusedAt t p c n d s cd D e

  -- each has this constructor
  abbrev pub AllAlike : List ℕ → ℕ → Terms → Type 0
  AllAlike ds x none = Unit {0}
  AllAlike ds x (more t ts) = (ds ≡ descs t) × (x ≡ core_code t) × AllAlike ds x ts

  abbrev pub Uniform : Place → ℕ → List ℕ → ℕ → Terms → Type 0
  Uniform Alone s D cd ts = Unit {0}
  Uniform First s D cd none = Unit {0}
  Uniform First s D cd (more t ts) = AllAlike (descs t) (core_code t) ts
  Uniform Later s D cd ts = AllAlike (drop s D) cd ts

  -- one has another
  abbrev pub Unlike : List ℕ → ℕ → Terms → Type 0
  Unlike ds x ts = (u : Term) × IsItem u ts × IsOther ds x u

  abbrev pub MixedAt : Place → ℕ → List ℕ → ℕ → Terms → Type 0
  MixedAt Alone s D cd ts = ⊥
  MixedAt First s D cd none = ⊥
  MixedAt First s D cd (more t ts) = HasForm t × Unlike (descs t) (core_code t) ts
  MixedAt Later s D cd ts = Unlike (drop s D) cd ts

  abbrev pub AllFormed : Terms → Type 0
  AllFormed none = Unit {0}
  AllFormed (more t ts) = HasForm t × Chain t × AllFormed ts

  pub record AcceptedAll (ts : Terms) (p : Place) (c n d s cd : ℕ) (D : List ℕ) : Type 0 where
    pub all_sound : AreSound ts p
    pub all_clean : (e : Error) → SomewhereIn (HasReason e) ts → ⊥
    pub all_within : AllWithin d ts
    pub all_long : c + length (texts ts p) ≤ MAX
    pub all_many : n + count ts ≤ MAX
    pub all_formed : InArray p → AllFormed ts
    pub uniform : Uniform p s D cd ts

  pub data RefusedAll (ts : Terms) (p : Place) (c n d s cd : ℕ) (D : List ℕ) (e : Error) : Type 0 where
    some_inside : SomewhereIn (HasReason e) ts → RefusedAll ts p c n d s cd D e
    some_past : e ≡ Depth → AnyPast p d ts → RefusedAll ts p c n d s cd D e
    all_too_long : e ≡ TooLarge → MAX < c + length (texts ts p) → RefusedAll ts p c n d s cd D e
    all_too_many : e ≡ TooLarge → MAX < n + count ts → (MAX ≤ n + length (texts ts p)) ⊎ IsItem (kept []) ts
        → RefusedAll ts p c n d s cd D e
    some_null : e ≡ ZeroWidthItems → InArray p → (t : Term) → IsItem t ts → core t ≡ leaf null → RefusedAll ts p c n d s cd D e
    some_kept : e ≡ LazyInArray → InArray p → (t : Term) (b : List ℕ) → IsItem t ts → core t ≡ kept b → RefusedAll ts p c n d s cd D e
    some_other : e ≡ MixedArray → MixedAt p s D cd ts → RefusedAll ts p c n d s cd D e

  -- one more term

  in_array_on : (p : Place) → InArray p → InArray (next p)
  in_array_on Alone h = h
  in_array_on First h = tt
  in_array_on Later h = tt

  in_array_back : (p : Place) → InArray (next p) → InArray p
  in_array_back Alone h = h
  in_array_back First h = tt
  in_array_back Later h = tt

  uniform_on : (p : Place) (t : Term) (ts : Terms) (s cd : ℕ) (D : List ℕ) → Fit p s D → Same p s D cd (descs t) (core_code t)
      → Uniform (next p) s (descs_after p D (descs t)) (code_after p cd (core_code t)) ts → Uniform p s D cd (more t ts)
  uniform_on Alone t ts s cd D f a b = tt
  uniform_on First t ts s cd D f a b = rw (← drop_at D (descs t) s (sym f)) b
  uniform_on Later t ts s cd D f a b = (a.0, a.1, b)

  mixed_on : (p : Place) (t : Term) (ts : Terms) (s cd : ℕ) (D : List ℕ) → Fit p s D → (InArray p → HasForm t)
      → MixedAt (next p) s (descs_after p D (descs t)) (code_after p cd (core_code t)) ts → MixedAt p s D cd (more t ts)
  mixed_on Alone t ts s cd D f g m = m
  mixed_on First t ts s cd D f g m = (g tt, rw (← drop_at D (descs t) s (sym f)) m)
  mixed_on Later t ts s cd D f g m = (m.0, inr m.1, m.2)

  mixed_here : (p : Place) (t : Term) (ts : Terms) (s cd : ℕ) (D : List ℕ) → Other p s D cd t → MixedAt p s D cd (more t ts)
  mixed_here Alone t ts s cd D m = m
  mixed_here First t ts s cd D m = absurd m
  mixed_here Later t ts s cd D m = (t, inl refl, m)

  pub accepted_more : (t : Term) (ts : Terms) (p : Place) (c n d s cd : ℕ) (D : List ℕ) → Fit p s D → AcceptedAt t p c n d s cd D
      → AcceptedAll ts (next p) (c + length (text t p)) (n + 1) d s (code_after p cd (core_code t)) (descs_after p D (descs t))
      → AcceptedAll (more t ts) p c n d s cd D
  unfolding text
  accepted_more t ts p c n d s cd D f a b = record {
    all_sound = (a.sound, b.all_sound);
    all_clean = (λ e. elim [ inl r ↦ a.clean e r | inr r ↦ b.all_clean e r ]);
    all_within = (a.within, b.all_within);
    all_long = (let h : (c + length (text t p)) + length (texts ts (next p)) ≤ MAX = b.all_long in
        omega (arith, length-append (text t p) (texts ts (next p))));
    all_many = (let h : (n + 1) + count ts ≤ MAX = b.all_many in omega arith);
    all_formed = (λ i. (a.formed i, a.chain, b.all_formed (in_array_on p i)));
    uniform = uniform_on p t ts s cd D f a.same b.uniform;
  }

  pub refused_here : (t : Term) (ts : Terms) (p : Place) (c n d s cd : ℕ) (D : List ℕ) (e : Error) → RefusedAt t p c n d s cd D e
      → RefusedAll (more t ts) p c n d s cd D e
  unfolding text
  refused_here t ts p c n d s cd D e (inside r) = some_inside (inl r)
  refused_here t ts p c n d s cd D e (past i h) = some_past i (inl h)
  refused_here t ts p c n d s cd D e (too_long i h) = all_too_long i (omega (arith, length-append (text t p) (texts ts (next p))))
  refused_here t ts p c n d s cd D e (too_many i h) = all_too_many i (omega arith) (inl (omega arith))
  refused_here t ts p c n d s cd D e (null_item i a h) = some_null i a t (inl refl) h
  refused_here t ts p c n d s cd D e (kept_item i a b h) = some_kept i a t b (inl refl) h
  refused_here t ts p c n d s cd D e (other i h) = some_other i (mixed_here p t ts s cd D h)

  many_later : (t : Term) (ts : Terms) (p : Place) (n : ℕ) → TakesBytes t p
      → (MAX ≤ (n + 1) + length (texts ts (next p))) ⊎ IsItem (kept []) ts
      → (MAX ≤ n + length (texts (more t ts) p)) ⊎ IsItem (kept []) (more t ts)
  unfolding text
  many_later t ts p n (inl w) (inl m) = inl (omega (arith, length-append (text t p) (texts ts (next p))))
  many_later t ts p n (inl w) (inr m) = inr (inr m)
  many_later t ts p n (inr w) m = inr (inl w)

  pub refused_later : (t : Term) (ts : Terms) (p : Place) (c n d s cd : ℕ) (D : List ℕ) (e : Error) → Fit p s D → TakesBytes t p
      → AcceptedAt t p c n d s cd D
      → RefusedAll ts (next p) (c + length (text t p)) (n + 1) d s (code_after p cd (core_code t)) (descs_after p D (descs t)) e
      → RefusedAll (more t ts) p c n d s cd D e
  unfolding text
  refused_later t ts p c n d s cd D e f w a (some_inside r) = some_inside (inr r)
  refused_later t ts p c n d s cd D e f w a (some_past i h) = some_past i (inr h)
  refused_later t ts p c n d s cd D e f w a (all_too_long i h) =
      all_too_long i (omega (arith, length-append (text t p) (texts ts (next p))))
  refused_later t ts p c n d s cd D e f w a (all_too_many i h m) = all_too_many i (omega arith) (many_later t ts p n w m)
  refused_later t ts p c n d s cd D e f w a (some_null i j u k h) = some_null i (in_array_back p j) u (inr k) h
  refused_later t ts p c n d s cd D e f w a (some_kept i j u b k h) = some_kept i (in_array_back p j) u b (inr k) h
  refused_later t ts p c n d s cd D e f w a (some_other i h) = some_other i (mixed_on p t ts s cd D f a.formed h)
