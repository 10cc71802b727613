-- The measuring pass keeps the sizes of a term, or refuses it with reason.
use Rattle.std.proofs.Common.{◌≡◌, ℕ, suc, ◌+◌, ◌-◌, ◌<◌, ◌≤◌, List, [], ◌∷◌, ◌++◌, length, drop, map, refl, sym, ◌∙◌, ap, inl, inr, ◌⊎◌}
use Rattle.std.proofs.Common.{arith, Bool, true, false, add-one, Option, IsAscii}
use Rattle.std.specs.Prelude.{Ok, Err, ltb, eqb}
use Rattle.std.proofs.lemmas.Bool.{ltb-true, ltb-false, eqb-true, eqb-false}
use Rattle.std.proofs.lemmas.List.{append-nil, drop_all, length-drop}
use Rattle.amqp_model.specs.Term.{Primitive, null, binary, string, symbol, Refusal, non_ascii, too_large, mixed_array, zero_width_items}
use Rattle.amqp_model.specs.Term.{lazy_in_array, Container, Term, Terms, leaf, container, kept, none, more, count}
use Rattle.amqp_model.specs.Text.{Place, Alone, First, Later, next, wide, wide_code, primitive_text, text, texts, sizes_of, all_sizes}
use Rattle.amqp_model.specs.Refusals.{HasForm, IsNonAscii, IsLong, HasFlaw}
use Rattle.amqp_wire.specs.declared.error.Error.{Error}
use Rattle.amqp_wire.specs.declared.error.Error.TheVariants.{NonAscii, MixedArray, TooLarge}
use Rattle.amqp_encoder.specs.declared.size.Size.{Size}
use Rattle.amqp_encoder.specs.State.{Pass, Measuring, Stopped}
use Rattle.amqp_encoder.specs.Tokens.{Token, put, tokens, all_tokens}
use Rattle.amqp_encoder.specs.State.{Open, Measured}
use Rattle.amqp_encoder.specs.Measuring.{◌>>=◌, MAX, is_full, take_form, enter, leave, all_ascii, checked, measure_value, measure_put}
use Rattle.amqp_encoder.specs.Writes.{measure, measuring, steps}
use Rattle.amqp_encoder.specs.Reasons.{HasReason}
use Rattle.amqp_encoder.specs.Sound.{MayStand}
use Rattle.amqp_encoder.proofs.Texts.{ascii_tested, ascii_from}
use Rattle.amqp_encoder.proofs.Joined.{steps_stopped}
use Rattle.amqp_encoder.specs.Passes.{as_size}
use Rattle.amqp_encoder.proofs.Filled.{last}
use Rattle.amqp_encoder.proofs.Measured.{InArray, descs, core_code, code_after, descs_after, Fit, Same, OtherCode, Other, AcceptedAt}
use Rattle.amqp_encoder.proofs.Measured.{RefusedAt, too_long, too_many, other, AcceptedAll, RefusedAll}
use Rattle.amqp_encoder.proofs.Lifted.{Tested}

abbrev pub fr : Option Container → Place → ℕ → ℕ → ℕ → ℕ → ℕ → Open
fr k p cd c n i s = record { container = k; place = p; code = cd; content = c; count = n; index = i; form = s }

abbrev pub mk : Open → List Open → List Size → List ℕ → Measured
mk f outer sizes D = record { frame = f; outer = outer; sizes = sizes; descriptors = D }

-- a row goes on, or stops with reason
pub data Goes (start : Pass) (row : List Token) (after : Pass) (others : List Token) (Good : Type 0) (Why : Error → Type 0) : Type 0 where
  goes : Good → steps start row ≡ steps after others → Goes start row after others Good Why
  stops : (e : Error) → Why e → steps start row ≡ Stopped e → Goes start row after others Good Why

pub first_step : (m n : Measured) (t : Token) (ts : List Token) → measure t m ≡ Ok n → steps (Measuring m) (t ∷ ts) ≡ steps (Measuring n) ts
unfolding steps
first_step m n t ts h = ap (λ r. steps (measuring r) ts) h

pub stop_step : (m : Measured) (e : Error) (t : Token) (ts : List Token) → measure t m ≡ Err e → steps (Measuring m) (t ∷ ts) ≡ Stopped e
unfolding steps
stop_step m e t ts h = ap (λ r. steps (measuring r) ts) h ∙ steps_stopped e ts

lt_cases_of : (a b : ℕ) (v : Bool) → ltb a b ≡ v → ((ltb a b ≡ true) × (a < b)) ⊎ ((ltb a b ≡ false) × (b ≤ a))
lt_cases_of a b true e = inl (e, ltb-true a b e)
lt_cases_of a b false e = inr (e, ltb-false a b e)

pub lt_cases : (a b : ℕ) → ((ltb a b ≡ true) × (a < b)) ⊎ ((ltb a b ≡ false) × (b ≤ a))
lt_cases a b = lt_cases_of a b (ltb a b) refl

pub bool_cases : (b : Bool) → (b ≡ true) ⊎ (b ≡ false)
bool_cases true = inl refl
bool_cases false = inr refl

-- Values begin and end.

pub leave_case : (len : ℕ) (k : Option Container) (p : Place) (cd c n i s : ℕ) (outer : List Open) (sizes : List Size) (D : List ℕ) →
    ((leave len (mk (fr k p cd c n i s) outer sizes D) ≡ Ok (mk (fr k (next p) cd (c + len) (n + 1) i s) outer sizes D))
    × (c + len ≤ MAX) × (n + 1 ≤ MAX))
    ⊎ ((leave len (mk (fr k p cd c n i s) outer sizes D) ≡ Err TooLarge) × ((MAX < c + len) ⊎ (MAX < n + 1)))
leave_case len k p cd c n i s outer sizes D =
    elim (lt_cases MAX (c + len)) [
      | inl a ↦ inr (rw (a.0) refl, inl a.1)
      | inr a ↦ elim (lt_cases MAX (n + 1)) [
        | inl b ↦ inr (rw (a.0, b.0) refl, inr b.1)
        | inr b ↦ inl (rw (a.0, b.0) refl, a.1, b.1)
      ]
    ]

nothing_left : (s : ℕ) (D : List ℕ) → s ≤ length D → drop s D ≡ [] → s ≡ length D
nothing_left s D f h = let e : length D - s ≡ 0 = sym (length-drop s D) ∙ ap length h in omega arith

later_case : (x : ℕ) (k : Option Container) (cd c n i s : ℕ) (outer : List Open) (sizes : List Size) (D : List ℕ) → s ≤ length D →
    ((take_form Later x (mk (fr k Later cd c n i s) outer sizes D) ≡ Ok (mk (fr k Later cd c n i s) outer sizes D))
    × Same Later s D cd [] x)
    ⊎ ((take_form Later x (mk (fr k Later cd c n i s) outer sizes D) ≡ Err MixedArray) × OtherCode Later s D cd x)
later_case x k cd c n i s outer sizes D f =
    elim (bool_cases (eqb cd x)) [
      | inr a ↦ inr (rw a refl, λ h. eqb-false cd x a h.1)
      | inl a ↦ elim (bool_cases (eqb s (length D))) [
        | inr b ↦ inr (rw (a, b) refl, λ h. eqb-false s (length D) b (nothing_left s D f h.0))
        | inl b ↦ inl (rw (a, b) refl, (drop_all s D (let e : s ≡ length D = eqb-true s (length D) b in omega arith), eqb-true cd x a))
      ]
    ]

form_case : (x : ℕ) (k : Option Container) (p : Place) (cd c n i s : ℕ) (outer : List Open) (sizes : List Size) (D : List ℕ) → Fit p s D →
    ((take_form p x (mk (fr k p cd c n i s) outer sizes D) ≡ Ok (mk (fr k p (code_after p cd x) c n i s) outer sizes D))
    × Same p s D cd [] x)
    ⊎ ((take_form p x (mk (fr k p cd c n i s) outer sizes D) ≡ Err MixedArray) × OtherCode p s D cd x)
form_case x k Alone cd c n i s outer sizes D f = inl (refl, tt)
form_case x k First cd c n i s outer sizes D f = inl (refl, tt)
form_case x k Later cd c n i s outer sizes D f = later_case x k cd c n i s outer sizes D f

pub enter_case : (x : ℕ) (k : Option Container) (p : Place) (cd c n i s : ℕ) (outer : List Open) (sizes : List Size) (D : List ℕ)
    → is_full (fr k p cd c n i s) ≡ false → Fit p s D →
    ((enter x (mk (fr k p cd c n i s) outer sizes D) ≡ Ok (mk (fr k p (code_after p cd x) c n i s) outer sizes D)) × Same p s D cd [] x)
    ⊎ ((enter x (mk (fr k p cd c n i s) outer sizes D) ≡ Err MixedArray) × OtherCode p s D cd x)
enter_case x k p cd c n i s outer sizes D r f = rw r (form_case x k p cd c n i s outer sizes D f)

pub no_descs : (p : Place) (D : List ℕ) → descs_after p D [] ≡ D
no_descs Alone D = refl
no_descs First D = append-nil D
no_descs Later D = refl

-- What a call tests of a primitive.

pub data Check (p : Primitive) : Type 0 where
  tested : checked p ≡ Ok (tt {0}) → Tested p → Check p
  foreign : checked p ≡ Err NonAscii → IsNonAscii p → Check p
  overlong : checked p ≡ Err TooLarge → IsLong p → Check p

binary_check : (s : List ℕ) → Check (binary s)
binary_check s = elim (lt_cases 0xffff_ffff (length s)) [
  | inl a ↦ overlong (rw (a.0) refl) (omega arith)
  | inr a ↦ tested (rw (a.0) refl)
      (record { fits = rw (a.0) refl; is_ascii = (λ h. h); is_short = (λ h. omega arith); is_written = omega arith })
]

string_check : (s : List ℕ) → Check (string s)
string_check s = elim (lt_cases 0xffff_ffff (length s)) [
  | inl a ↦ overlong (rw (a.0) refl) (omega arith)
  | inr a ↦ tested (rw (a.0) refl)
      (record { fits = rw (a.0) refl; is_ascii = (λ h. h); is_short = (λ h. omega arith); is_written = omega arith })
]

clash : (b : Bool) → b ≡ true → b ≡ false → ⊥
clash b h k = let e : true ≡ false = sym h ∙ k in cc

ascii_back : (s : List ℕ) → all_ascii s ≡ true → IsAscii s
ascii_back s h = ascii_from s h

symbol_check : (s : List ℕ) → Check (symbol s)
symbol_check s = elim (bool_cases (all_ascii s)) [
  | inr b ↦ foreign (rw b refl) (λ h. clash (all_ascii s) (ascii_tested s h) b)
  | inl b ↦ elim (lt_cases 0xffff_ffff (length s)) [
    | inl a ↦ overlong (rw (b, a.0) refl) (omega arith)
    | inr a ↦ tested (rw (b, a.0) refl)
        (record {
          fits = rw (a.0) refl;
          is_ascii = (λ h. h (ascii_back s b));
          is_short = (λ h. omega arith);
          is_written = (omega arith, ascii_back s b);
        })
  ]
]

pub check_of : (p : Primitive) → Check p
check_of (binary s) = binary_check s
check_of (string s) = string_check s
check_of (symbol s) = symbol_check s
check_of p = tested refl (record { fits = refl; is_ascii = (λ h. h); is_short = (λ h. h); is_written = tt })

leaf_flawless : (x : Primitive) → Tested x → (r : Refusal) → HasFlaw r (leaf x) → ⊥
leaf_flawless x g mixed_array h = h
leaf_flawless x g zero_width_items h = h
leaf_flawless x g lazy_in_array h = h
leaf_flawless x g non_ascii h = g.is_ascii h
leaf_flawless x g too_large h = g.is_short h
leaf_flawless x g _ h = h

leaf_clean : (x : Primitive) → Tested x → (e : Error) → HasReason e (leaf x) → ⊥
leaf_clean x g e (inl (r, i, inl q)) = cc
leaf_clean x g e (inl (r, i, inr h)) = leaf_flawless x g r h
leaf_clean x g e (inr (inl h)) = h.1
leaf_clean x g e (inr (inr h)) = h.1

kept_flawless : (b : List ℕ) (r : Refusal) → HasFlaw r (kept b) → ⊥
kept_flawless b mixed_array h = h
kept_flawless b zero_width_items h = h
kept_flawless b lazy_in_array h = h
kept_flawless b non_ascii h = h
kept_flawless b too_large h = h
kept_flawless b _ h = h

pub kept_clean : (b : List ℕ) (e : Error) → HasReason e (kept b) → ⊥
kept_clean b e (inl (r, i, inl q)) = cc
kept_clean b e (inl (r, i, inr h)) = kept_flawless b r h
kept_clean b e (inr (inl h)) = h.1
kept_clean b e (inr (inr h)) = h.1

pub primitive_has_form : (x : Primitive) → (x ≡ null → ⊥) → HasForm (leaf x)
primitive_has_form null h = absurd (h refl)
primitive_has_form x h = (([], (wide x).0), refl)

pub is_one : (d : ℕ) → suc d ≡ d + 1
is_one d = sym (add-one d)

-- where a constructor's code is another one
pub other_leaf : (x : Primitive) (p : Place) (s cd : ℕ) (D : List ℕ) → (InArray p → HasForm (leaf x)) → OtherCode p s D cd (wide x).0
    → Other p s D cd (leaf x)
other_leaf x Alone s cd D h n = n
other_leaf x First s cd D h n = n
other_leaf x Later s cd D h n = (h tt, n)

pub other_container : (k : Container) (ts : Terms) (p : Place) (s cd : ℕ) (D : List ℕ) → OtherCode p s D cd (wide_code k)
    → Other p s D cd (container k ts)
other_container k ts Alone s cd D n = n
other_container k ts First s cd D n = n
other_container k ts Later s cd D n = ((([], wide_code k), refl), n)

module _ (deep : List ℕ → ℕ) where
  abbrev pub TermGoes : Term → Option Container → Place → ℕ → ℕ → ℕ → ℕ → ℕ → List Open → List Size → List ℕ → List Token → Type 0
  TermGoes t k p cd c n i s outer sizes D others =
      Goes (Measuring (mk (fr k p cd c n i s) outer sizes D)) (tokens deep t ++ others)
      (Measuring (mk (fr k (next p) (code_after p cd (core_code t)) (c + length (text t p)) (n + 1) i s) outer
      (sizes ++ map as_size (sizes_of t)) (descs_after p D (descs t)))) others
      (AcceptedAt deep t p c n (length outer) s cd D) (RefusedAt deep t p c n (length outer) s cd D)

  abbrev pub codes_after : Terms → Place → ℕ → ℕ
  codes_after none p cd = cd
  codes_after (more t ts) p cd = codes_after ts (next p) (code_after p cd (core_code t))

  abbrev pub all_descs : Terms → Place → List ℕ → List ℕ
  all_descs none p D = D
  all_descs (more t ts) p D = all_descs ts (next p) (descs_after p D (descs t))

  abbrev pub TermsGo : Terms → Option Container → Place → ℕ → ℕ → ℕ → ℕ → ℕ → List Open → List Size → List ℕ → List Token → Type 0
  TermsGo ts k p cd c n i s outer sizes D others =
      Goes (Measuring (mk (fr k p cd c n i s) outer sizes D)) (all_tokens deep ts ++ others)
      (Measuring (mk (fr k (last ts p) (codes_after ts p cd) (c + length (texts ts p)) (n + count ts) i s) outer
      (sizes ++ map as_size (all_sizes ts)) (all_descs ts p D))) others
      (AcceptedAll deep ts p c n (length outer) s cd D) (RefusedAll deep ts p c n (length outer) s cd D)

  -- primitives

  pub leaf_goes : (x : Primitive) (k : Option Container) (p : Place) (cd c n i s : ℕ) (outer : List Open) (sizes : List Size) (D : List ℕ)
      (others : List Token) → is_full (fr k p cd c n i s) ≡ false → Fit p s D →
      Tested x → MayStand x p → (InArray p → HasForm (leaf x)) →
      measure_put x (mk (fr k p cd c n i s) outer sizes D)
      ≡ measure_value (wide x).0 (length (primitive_text p x)) (mk (fr k p cd c n i s) outer sizes D) →
      TermGoes (leaf x) k p cd c n i s outer sizes D others
  unfolding text sizes_of
  leaf_goes x k p cd c n i s outer sizes D others r f g m h is =
      rw (append-nil sizes, no_descs p D)
      (elim (enter_case (wide x).0 k p cd c n i s outer sizes D r f) [
        | inr a ↦ stops MixedArray (other refl (other_leaf x p s cd D h a.1))
            (stop_step _ MixedArray (put x) others (is ∙ ap (λ r. r >>= leave (length (primitive_text p x))) (a.0)))
        | inl a ↦ elim (leave_case (length (primitive_text p x)) k p (code_after p cd (wide x).0) c n i s outer sizes D) [
          | inl b ↦ goes (record {
            sound = (g.fits, m);
            clean = leaf_clean x g;
            within = tt;
            long = b.1;
            many = b.2;
            formed = h;
            chain = tt;
            same = a.1;
          })
              (first_step _ _ (put x) others (is ∙ (ap (λ r. r >>= leave (length (primitive_text p x))) (a.0) ∙ b.0)))
          | inr b ↦ stops TooLarge (elim b.1 [ inl u ↦ too_long refl u | inr u ↦ too_many refl u ])
              (stop_step _ TooLarge (put x) others (is ∙ (ap (λ r. r >>= leave (length (primitive_text p x))) (a.0) ∙ b.0)))
        ]
      ])
