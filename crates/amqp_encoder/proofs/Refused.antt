-- Why terms aren't written, from the model's words and to them.
use Rattle.std.proofs.Common.{◌≡◌, ℕ, zero, suc, ◌<◌, ◌≤◌, List, [], ◌∷◌, length, refl, sym, ap, subst, le_trans, inl, inr, ◌⊎◌, arith}
use Rattle.std.proofs.Common.{length-append}
use Rattle.std.specs.Prelude.{Any}
use Rattle.std.proofs.lemmas.List.{append-nil}
use Rattle.amqp_model.specs.Term.{Refusal, depth, lazy_in_array, Container, list, map, array, Term, Terms, leaf, container, described, kept}
use Rattle.amqp_model.specs.Term.{barred, none, more, count}
use Rattle.amqp_model.specs.Items.{terms_of}
use Rattle.amqp_model.specs.Text.{Alone, text, texts}
use Rattle.amqp_model.specs.Measures.{nest, nests, array_nest}
use Rattle.amqp_model.specs.Ranges.{Everywhere, EverywhereIn, IsValue}
use Rattle.amqp_model.specs.Kept.{ExpandsTo, EachExpandsTo}
use Rattle.amqp_model.specs.Refusals.{Somewhere, SomewhereIn, IsItem, core, HasKeptItem, IsRefused, IsTooDeep, Refuses}
use Rattle.amqp_model.proofs.Lengths.{spelling_length}
use Rattle.amqp_wire.specs.Refusals.{error_of}
use Rattle.amqp_wire.specs.declared.error.Error.{Error}
use Rattle.amqp_wire.specs.declared.error.Error.TheVariants.{Depth, LazyInArray}
use Rattle.amqp_encoder.specs.Measuring.{MAX}
use Rattle.amqp_encoder.specs.Reasons.{HasReason, IsOddMap, nest_by, nests_by, array_nest_by}
use Rattle.amqp_encoder.specs.Passes.{row_text, AreValues, AreRefused}
use Rattle.amqp_encoder.specs.Refused.{IsNesting, KnowsDepth, KnowDepths, AllRead, IsNamed, IsUncounted, HasCause, TermHasCause}
use Rattle.amqp_encoder.proofs.Measuring.{lt_cases}
use Rattle.amqp_encoder.proofs.Rows.{somewhere_as}

pub any_first : {X : Type 0} (P : X → Type 0) (x : X) (xs : List X) → P x → Any P (x ∷ xs)
any_first P x xs h = (0, x, omega arith, refl, h)

any_later : {X : Type 0} (P : X → Type 0) (x : X) (xs : List X) → Any P xs → Any P (x ∷ xs)
any_later P x xs (k, y, l, e, h) = (suc k, y, omega arith, e, h)

any_cases : {X : Type 0} (P : X → Type 0) (x : X) (xs : List X) → Any P (x ∷ xs) → P x ⊎ Any P xs
any_cases P x xs (zero, y, l, e, h) = inl (subst P (sym e) h)
any_cases P x xs (suc k, y, l, e, h) = inr (k, y, omega arith, e, h)

any_none : {X : Type 0} (P : X → Type 0) → Any P [] → ⊥
any_none P (k, y, l, e, h) = omega arith

-- From the model's refusals.

array_most : (ts : Terms) → array_nest ts ≤ suc (nests ts)
array_most none = omega arith
array_most (more (leaf p) ts) = omega (arith, array_most ts)
array_most (more (container k us) ts) = omega arith
array_most (more (described d t) ts) = omega arith
array_most (more (kept b) ts) = omega (arith, array_most ts)
array_most (more (barred r) ts) = omega (arith, array_most ts)

array_later : (t : Term) (ts : Terms) → array_nest ts ≤ array_nest (more t ts)
array_later (leaf p) ts = omega arith
array_later (container k us) ts = omega (arith, array_most ts)
array_later (described d t) ts = omega (arith, array_most ts)
array_later (kept b) ts = omega arith
array_later (barred r) ts = omega arith

abbrev SomeKept : Terms → Type 0
SomeKept us = (t : Term) × (b : List ℕ) × IsItem t us × (core t ≡ kept b)

one_more : (u : Term) (us : Terms) → SomeKept us → SomeKept (more u us)
one_more u us (t, b, i, e) = (t, b, inr i, e)

more_items : (u : Term) (us : Terms) (m n : ℕ) → (m ≤ n) ⊎ (SomeKept us ⊎ SomewhereIn HasKeptItem us)
    → (m ≤ n) ⊎ (SomeKept (more u us) ⊎ SomewhereIn HasKeptItem (more u us))
more_items u us m n (inl h) = inl h
more_items u us m n (inr (inl h)) = inr (inl (one_more u us h))
more_items u us m n (inr (inr h)) = inr (inr (inr h))

-- no bytes spell no term
no_empty : (us ts : Terms) → EachExpandsTo us ts → IsItem (kept []) us → ⊥
no_empty none ts h i = i
no_empty (more u us) none h i = h
no_empty (more u us) (more t ts) h (inl i) = let l : 1 ≤ 0 = spelling_length [] t (subst (λ z. ExpandsTo z t) (sym i) h.0) in omega arith
no_empty (more u us) (more t ts) h (inr i) = no_empty us ts h.1 i

no_odd : (k : Container) (us : Terms) → IsValue (container k us) → IsOddMap (container k us) → ⊥
no_odd list us v h = h
no_odd map us v h = h v
no_odd array us v h = h

pub count_of : (us : List Term) → count (terms_of us) ≡ length us
count_of [] = refl
count_of (u ∷ us) = ap suc (count_of us)

pub uncounted : (us : List Term) → IsUncounted us → (MAX < length (row_text us)) ⊎ (MAX < count (terms_of us))
uncounted us (inl h) = inl h
uncounted us (inr h) = inr (omega (arith, count_of us))

-- the bytes of a term are those of a row of one
pub one_text : (u : Term) → row_text (u ∷ []) ≡ text u Alone
unfolding text
one_text u = append-nil (text u Alone)

pub has_reason : (r : Refusal) (t : Term) → IsRefused r t → HasReason (error_of r) t
has_reason r t h = inl (r, refl, h)

-- an encoder's reason that lies in a term is one of the model
mutual
  pub reason_named : (e : Error) (u t : Term) → Everywhere IsValue u → ExpandsTo u t → Somewhere (HasReason e) u
      → (r : Refusal) × (e ≡ error_of r) × Somewhere (IsRefused r) u
  reason_named e (leaf p) t v h (inl w) = w
  reason_named e (leaf p) t v h (inr (inl c)) = absurd c.1
  reason_named e (leaf p) t v h (inr (inr c)) = absurd c.1
  reason_named e (container k us) (container l ts) v h (inl (inl w)) = (w.0, w.1, inl w.2)
  reason_named e (container k us) (container l ts) v h (inl (inr (inl c))) = absurd (no_empty us ts h.1 c.1.1)
  reason_named e (container k us) (container l ts) v h (inl (inr (inr c))) = absurd (no_odd k us v.0 c.1)
  reason_named e (container k us) (container l ts) v h (inr w) = let n = some_reason_named e us ts v.1 h.1 w in (n.0, n.1, inr n.2)
  reason_named e (described d u) (described f t) v h (inl (inl w)) = (w.0, w.1, inl w.2)
  reason_named e (described d u) (described f t) v h (inl (inr (inl c))) = absurd c.1
  reason_named e (described d u) (described f t) v h (inl (inr (inr c))) = absurd c.1
  reason_named e (described d u) (described f t) v h (inr w) = let n = reason_named e u t v.1 h.1 w in (n.0, n.1, inr n.2)
  reason_named e (kept b) t v h (inl w) = w
  reason_named e (kept b) t v h (inr (inl c)) = absurd c.1
  reason_named e (kept b) t v h (inr (inr c)) = absurd c.1
  reason_named e (barred r) t v h (inl w) = w
  reason_named e (barred r) t v h (inr (inl c)) = absurd c.1
  reason_named e (barred r) t v h (inr (inr c)) = absurd c.1
  reason_named e u t v h w = let no_way : ⊥ = grind arith in absurd no_way

  pub some_reason_named : (e : Error) (us ts : Terms) → EverywhereIn IsValue us → EachExpandsTo us ts → SomewhereIn (HasReason e) us
      → (r : Refusal) × (e ≡ error_of r) × SomewhereIn (IsRefused r) us
  some_reason_named e none ts v h w = absurd w
  some_reason_named e (more u us) none v h w = absurd h
  some_reason_named e (more u us) (more t ts) v h (inl w) = let n = reason_named e u t v.0 h.0 w in (n.0, n.1, inl n.2)
  some_reason_named e (more u us) (more t ts) v h (inr w) = let n = some_reason_named e us ts v.1 h.1 w in (n.0, n.1, inr n.2)

module _ (deep : List ℕ → ℕ) where
  mutual
    knows : IsNesting deep → (u : Term) → Everywhere (KnowsDepth deep) u
    knows exact (leaf p) = tt
    knows exact (container k us) = (tt, all_know exact us)
    knows exact (described d u) = (tt, knows exact u)
    knows exact (kept b) = exact b
    knows exact (barred r) = tt

    all_know : IsNesting deep → (us : Terms) → EverywhereIn (KnowsDepth deep) us
    all_know exact none = tt
    all_know exact (more u us) = (knows exact u, all_know exact us)

  pub know_depths : IsNesting deep → (us : List Term) → KnowDepths deep us
  know_depths exact us = all_know exact (terms_of us)

  mutual
    -- a term nests no deeper than it reads, and as deep unless bytes are kept in an array
    no_deeper : (u t : Term) → Everywhere (KnowsDepth deep) u → ExpandsTo u t → nest_by deep u ≤ nest t
    no_deeper (leaf p) (leaf q) x h = omega arith
    no_deeper (container list us) (container list ts) x h = omega (arith, none_deeper us ts x.1 h.1)
    no_deeper (container map us) (container map ts) x h = omega (arith, none_deeper us ts x.1 h.1)
    no_deeper (container array us) (container array ts) x h = items_no_deeper us ts x.1 h.1
    no_deeper (described d u) (described e t) x h = omega (arith, no_deeper u t x.1 h.1)
    no_deeper (kept b) t x h = omega (arith, x t h)
    no_deeper (barred r) (barred s) x h = omega arith
    no_deeper u t x h = let no_way : ⊥ = grind arith in absurd no_way

    pub none_deeper : (us ts : Terms) → EverywhereIn (KnowsDepth deep) us → EachExpandsTo us ts → nests_by deep us ≤ nests ts
    none_deeper none none x h = omega arith
    none_deeper none (more t ts) x h = absurd h
    none_deeper (more u us) none x h = absurd h
    none_deeper (more u us) (more t ts) x h = omega (arith, no_deeper u t x.0 h.0, none_deeper us ts x.1 h.1)

    items_no_deeper : (us ts : Terms) → EverywhereIn (KnowsDepth deep) us → EachExpandsTo us ts → array_nest_by deep us ≤ array_nest ts
    items_no_deeper none none x h = omega arith
    items_no_deeper none (more t ts) x h = absurd h
    items_no_deeper (more u us) none x h = absurd h
    items_no_deeper (more (leaf p) us) (more (leaf q) ts) x h = items_no_deeper us ts x.1 h.1
    items_no_deeper (more (barred r) us) (more (barred s) ts) x h = items_no_deeper us ts x.1 h.1
    items_no_deeper (more (container k us') us) (more (container l ts') ts) x h =
        omega (arith, no_deeper (container k us') (container l ts') x.0 h.0, none_deeper us ts x.1 h.1)
    items_no_deeper (more (described d u) us) (more (described e t) ts) x h =
        omega (arith, no_deeper (described d u) (described e t) x.0 h.0, none_deeper us ts x.1 h.1)
    items_no_deeper (more (kept b) us) (more t ts) x h = le_trans (items_no_deeper us ts x.1 h.1) (array_later t ts)
    items_no_deeper (more u us) (more t ts) x h = let no_way : ⊥ = grind arith in absurd no_way

  mutual
    as_deep : (u t : Term) → Everywhere (KnowsDepth deep) u → ExpandsTo u t → (nest t ≤ nest_by deep u) ⊎ Somewhere HasKeptItem u
    as_deep (leaf p) (leaf q) x h = inl (omega arith)
    as_deep (container list us) (container list ts) x h =
        elim (all_as_deep us ts x.1 h.1) [ inl l ↦ inl (omega arith) | inr s ↦ inr (inr s) ]
    as_deep (container map us) (container map ts) x h = elim (all_as_deep us ts x.1 h.1) [ inl l ↦ inl (omega arith) | inr s ↦ inr (inr s) ]
    as_deep (container array us) (container array ts) x h =
        elim (items_as_deep us ts x.1 h.1) [ inl l ↦ inl l | inr s ↦ elim s [ inl i ↦ inr (inl i) | inr w ↦ inr (inr w) ] ]
    as_deep (described d u) (described e t) x h = elim (as_deep u t x.1 h.1) [ inl l ↦ inl (omega arith) | inr s ↦ inr (inr s) ]
    as_deep (kept b) t x h = inl (omega (arith, x t h))
    as_deep (barred r) (barred s) x h = inl (omega arith)
    as_deep u t x h = let no_way : ⊥ = grind arith in absurd no_way

    pub all_as_deep : (us ts : Terms) → EverywhereIn (KnowsDepth deep) us → EachExpandsTo us ts → (nests ts ≤ nests_by deep us)
        ⊎ SomewhereIn HasKeptItem us
    all_as_deep none none x h = inl (omega arith)
    all_as_deep none (more t ts) x h = absurd h
    all_as_deep (more u us) none x h = absurd h
    all_as_deep (more u us) (more t ts) x h = elim (as_deep u t x.0 h.0) [
      | inr s ↦ inr (inl s)
      | inl l ↦ elim (all_as_deep us ts x.1 h.1) [ inr s ↦ inr (inr s) | inl m ↦ inl (omega arith) ]
    ]

    items_as_deep : (us ts : Terms) → EverywhereIn (KnowsDepth deep) us → EachExpandsTo us ts → (array_nest ts ≤ array_nest_by deep us)
        ⊎ (SomeKept us ⊎ SomewhereIn HasKeptItem us)
    items_as_deep none none x h = inl (omega arith)
    items_as_deep none (more t ts) x h = absurd h
    items_as_deep (more u us) none x h = absurd h
    items_as_deep (more (leaf p) us) (more (leaf q) ts) x h =
        more_items (leaf p) us (array_nest ts) (array_nest_by deep us) (items_as_deep us ts x.1 h.1)
    items_as_deep (more (barred r) us) (more (barred s) ts) x h =
        more_items (barred r) us (array_nest ts) (array_nest_by deep us) (items_as_deep us ts x.1 h.1)
    items_as_deep (more (container k us') us) (more (container l ts') ts) x h = elim (as_deep (container k us') (container l ts') x.0 h.0) [
      | inr s ↦ inr (inr (inl s))
      | inl l ↦ elim (all_as_deep us ts x.1 h.1) [ inr s ↦ inr (inr (inr s)) | inl m ↦ inl (omega arith) ]
    ]
    items_as_deep (more (described d u) us) (more (described e t) ts) x h = elim (as_deep (described d u) (described e t) x.0 h.0) [
      | inr s ↦ inr (inr (inl s))
      | inl l ↦ elim (all_as_deep us ts x.1 h.1) [ inr s ↦ inr (inr (inr s)) | inl m ↦ inl (omega arith) ]
    ]
    items_as_deep (more (kept b) us) (more t ts) x h = inr (inl (kept b, b, inl refl, refl))
    items_as_deep (more u us) (more t ts) x h = let no_way : ⊥ = grind arith in absurd no_way

  kept_reason : (t : Term) → HasKeptItem t → HasReason LazyInArray t
  kept_reason t h = inl (lazy_in_array, refl, inr h)

  refused_more : (u : Term) (us : List Term) (e : Error) → AreRefused deep us e → AreRefused deep (u ∷ us) e
  unfolding text
  refused_more u us e (inl w) = inl (inr w)
  refused_more u us e (inr (inl w)) = inr (inl (w.0, omega (arith, w.1)))
  refused_more u us e (inr (inr (i, inl w))) = inr (inr (i, inl (omega (arith, length-append (text u Alone) (texts (terms_of us) Alone)))))
  refused_more u us e (inr (inr (i, inr w))) = inr (inr (i, inr (omega arith)))

  too_deep : (u : Term) (us : List Term) → Everywhere (KnowsDepth deep) u → IsTooDeep u → AreRefused deep (u ∷ us) Depth
      ⊎ AreRefused deep (u ∷ us) LazyInArray
  too_deep u us x (t, h, l) = elim (as_deep u t x h) [
    | inl m ↦ inl (inr (inl (refl, omega arith)))
    | inr s ↦ inr (inl (inl (somewhere_as HasKeptItem (HasReason LazyInArray) kept_reason u s)))
  ]

  refused_first : (u : Term) (us : List Term) (r : Refusal) → Everywhere (KnowsDepth deep) u → Refuses r u
      → AreRefused deep (u ∷ us) (error_of r) ⊎ ((r ≡ depth) × AreRefused deep (u ∷ us) LazyInArray)
  unfolding Refuses
  refused_first u us r x (inl w) = inl (inl (inl (somewhere_as (IsRefused r) (HasReason (error_of r)) (has_reason r) u w)))
  refused_first u us r x (inr (i, w)) = rw i (elim (too_deep u us x w) [ inl d ↦ inl d | inr k ↦ inr (refl, k) ])

  -- what the model refuses is refused
  pub refused : (us : List Term) (r : Refusal) → KnowDepths deep us → Any (Refuses r) us → AreRefused deep us (error_of r)
      ⊎ ((r ≡ depth) × AreRefused deep us LazyInArray)
  refused [] r x h = absurd (any_none (Refuses r) h)
  refused (u ∷ us) r x h = elim (any_cases (Refuses r) u us h) [
    | inl i ↦ refused_first u us r x.0 i
    | inr i ↦ elim (refused us r x.1 i) [
      | inl w ↦ inl (refused_more u us (error_of r) w)
      | inr w ↦ inr (w.0, refused_more u us LazyInArray w.1)
    ]
  ]

  -- To the model's refusals.

  later_named : (u : Term) (us : List Term) (e : Error) → IsNamed us e → IsNamed (u ∷ us) e
  later_named u us e (r, i, h) = (r, i, any_later (Refuses r) u us h)

  row_named : (e : Error) (us ts : List Term) → AreValues us → AllRead us ts → SomewhereIn (HasReason e) (terms_of us) → IsNamed us e
  unfolding Refuses
  row_named e [] ts v h w = absurd w
  row_named e (u ∷ us) [] v h w = absurd h
  row_named e (u ∷ us) (t ∷ ts) v h (inl w) = let n = reason_named e u t v.0 h.0 w in (n.0, n.1, any_first (Refuses n.0) u us (inl n.2))
  row_named e (u ∷ us) (t ∷ ts) v h (inr w) = later_named u us e (row_named e us ts v.1 h.1 w)

  row_deep : (e : Error) (us ts : List Term) → KnowDepths deep us → AllRead us ts → e ≡ Depth
      → 128 < nests_by deep (terms_of us) → IsNamed us e
  unfolding Refuses
  row_deep e [] ts x h i l = absurd (omega arith)
  row_deep e (u ∷ us) [] x h i l = absurd h
  row_deep e (u ∷ us) (t ∷ ts) x h i l = elim (lt_cases 128 (nest_by deep u)) [
    | inl a ↦ (depth, i, any_first (Refuses depth) u us (inr (refl, (t, h.0, omega (arith, no_deeper u t x.0 h.0)))))
    | inr a ↦ later_named u us e (row_deep e us ts x.1 h.1 i (omega arith))
  ]

  -- what is refused the model refuses
  pub has_cause : (us ts : List Term) (e : Error) → KnowDepths deep us → AreValues us → AllRead us ts → AreRefused deep us e → HasCause us e
  has_cause us ts e x v h (inl w) = inl (row_named e us ts v h w)
  has_cause us ts e x v h (inr (inl w)) = inl (row_deep e us ts x h w.0 w.1)
  has_cause us ts e x v h (inr (inr (i, inl w))) = inr (i, inl w)
  has_cause us ts e x v h (inr (inr (i, inr w))) = inr (i, inr (omega (arith, count_of us)))

  pub term_has_cause : (u t : Term) (e : Error) → KnowDepths deep (u ∷ []) → AreValues (u ∷ []) → ExpandsTo u t
      → AreRefused deep (u ∷ []) e → TermHasCause u e
  term_has_cause u t e x v h w = elim (has_cause (u ∷ []) (t ∷ []) e x v (h, tt) w) [
    | inl n ↦ elim (any_cases (Refuses n.0) u [] n.2) [ inl x ↦ inl (n.0, n.1, x) | inr x ↦ absurd (any_none (Refuses n.0) x) ]
    | inr x ↦ elim x.1 [ inl l ↦ inr (x.0, (omega (arith, ap length (one_text u)))) | inr l ↦ absurd (omega arith) ]
  ]
