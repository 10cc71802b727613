-- The measuring pass over every term, and over terms in a row.
use Rattle.std.proofs.Common.{◌≡◌, ℕ, suc, ◌+◌, ◌-◌, ◌%◌, ◌<◌, ◌≤◌, ◌^◌, List, [], ◌∷◌, ◌++◌, length, set, take, drop, map, refl, sym, ◌∙◌}
use Rattle.std.proofs.Common.{ap, subst, inl, inr, ◌⊎◌, append_assoc, arith, Bool, true, false, length-append, zero-add, add-zero, Option}
use Rattle.std.proofs.Common.{Some, None}
use Rattle.std.specs.Prelude.{Ok, Err, min, ltb, eqb, not}
use Rattle.std.specs.Cmp.Lexicographic.{bytes_decides}
use Rattle.std.proofs.lemmas.Bool.{lt-ltb}
use Rattle.std.proofs.lemmas.List.{append-nil, map-append, take_at, take_all, length-take, length-drop}
use Rattle.std.proofs.Math.Seq.{set-append_seam}
use Rattle.amqp_model.specs.Term as model
use Rattle.amqp_model.specs.Term.{null, non_ascii, too_large, Container, array, Term, Terms, leaf, container, described}
use Rattle.amqp_model.specs.Term.{kept, barred, none, more, Descriptor, count}
use Rattle.amqp_model.specs.Spelling.{descriptor_value}
use Rattle.amqp_model.specs.Text.{Place, Alone, First, Later, next, first_place, wide, wide_code, descriptor_text, text, texts, sizes_of}
use Rattle.amqp_model.specs.Text.{all_sizes}
use Rattle.amqp_model.specs.Ranges.{Everywhere, EverywhereIn, IsValue, IsInRange}
use Rattle.amqp_wire.specs.Refusals.{error_of}
use Rattle.amqp_wire.specs.declared.error.Error.TheVariants.{OddCount, Depth, ZeroWidthItems, NonAscii, MixedArray, TooLarge, LazyInArray}
use Rattle.amqp_encoder.specs.declared.size.Size.{Size}
use Rattle.amqp_encoder.specs.State.{Measuring}
use Rattle.amqp_encoder.specs.Tokens.{Token, put, keep, begin, end, begin_described, end_described, refuse, tokens, all_tokens}
use Rattle.amqp_encoder.specs.State.{Open}
use Rattle.amqp_encoder.specs.Opening.{opening}
use Rattle.amqp_encoder.specs.Measuring.{◌>>=◌, MAX, is_full, leave, measure_checked, around, no_size, opened, holds, is_odd_map, size_of}
use Rattle.amqp_encoder.specs.Measuring.{measure_end, goes_on, descriptor_bytes, describe_at}
use Rattle.amqp_encoder.specs.Writes.{steps}
use Rattle.amqp_encoder.specs.Reasons.{IsOddMap, nest_by}
use Rattle.amqp_encoder.specs.Sound.{HasSize}
use Rattle.amqp_encoder.proofs.Openings.{opened_text}
use Rattle.amqp_encoder.specs.Passes.{as_size}
use Rattle.amqp_encoder.proofs.Filled.{last}
use Rattle.amqp_encoder.proofs.Measured.{descs, core_code, code_after, descs_after, Fit, Same, Other, AcceptedAt, RefusedAt, inside, past}
use Rattle.amqp_encoder.proofs.Measured.{too_long, too_many, null_item, kept_item, other, Uniform, AcceptedAll, RefusedAll, accepted_more}
use Rattle.amqp_encoder.proofs.Measured.{refused_here, refused_later}
use Rattle.amqp_encoder.proofs.Lifted.{Tested, form_in, descs_in, GoesOn, accepted_described, refused_described, accepted_container}
use Rattle.amqp_encoder.proofs.Lifted.{refused_container, refused_size}
use Rattle.amqp_encoder.proofs.TakenBytes.{takes_bytes, unfit}
use Rattle.amqp_encoder.proofs.Measuring.{fr, mk, goes, stops, first_step, stop_step, lt_cases, bool_cases, leave_case, enter_case}
use Rattle.amqp_encoder.proofs.Measuring.{no_descs, tested, foreign, overlong, check_of, kept_clean, is_one, TermGoes, TermsGo}
use Rattle.amqp_encoder.proofs.Measuring.{other_container, leaf_goes, codes_after, all_descs}

-- kept bytes

too_deep : (n d : ℕ) → (128 < n) ⊎ (128 - n < d) → 128 < d + n
too_deep n d (inl h) = omega arith
too_deep n d (inr h) = omega arith

-- descriptors

fits_on : (b : List ℕ) (s : ℕ) (D : List ℕ) → s ≤ length D → take (length b) (drop s D) ≡ b → s + length b ≤ length D
fits_on b s D f h = let e : min (length b) (length D - s) ≡ length b =
    sym (length-take (length b) (drop s D) ∙ ap (min (length b)) (length-drop s D)) ∙ ap length h in omega arith

front_of : (b ds : List ℕ) (s : ℕ) (D : List ℕ) → drop s D ≡ b ++ ds → take (length b) (drop s D) ≡ b
front_of b ds s D h = ap (take (length b)) h ∙ take_at b ds (length b) refl

later_descriptor : (x : Descriptor) (k : Option Container) (cd c n i s : ℕ) (outer : List Open) (sizes : List Size) (D : List ℕ)
    → s ≤ length D → (v : Bool) → goes_on (descriptor_bytes x) s D ≡ v →
    ((describe_at Later (descriptor_bytes x) (mk (fr k Later cd c n i s) outer sizes D)
    ≡ Ok (mk (fr None Later cd (length (descriptor_text Later x)) 0 0 (s + length (descriptor_bytes x)))
    (fr k Later cd c n i s ∷ outer) sizes D))
    × GoesOn Later s D (descriptor_bytes x) × Fit Later (s + length (descriptor_bytes x)) D)
    ⊎ ((describe_at Later (descriptor_bytes x) (mk (fr k Later cd c n i s) outer sizes D) ≡ Err MixedArray)
    × ((t : Term) → Other Later s D cd (described x t)))
later_descriptor x k cd c n i s outer sizes D f true e =
    let h : take (length (descriptor_bytes x)) (drop s D) ≡ descriptor_bytes x =
    (bytes_decides (take (length (descriptor_bytes x)) (drop s D)) (descriptor_bytes x)).0 e in
    inl (rw e refl, h, fits_on (descriptor_bytes x) s D f h)
later_descriptor x k cd c n i s outer sizes D f false e =
    inr (
      rw e refl,
      λ t ds h.
          let yes : goes_on (descriptor_bytes x) s D ≡ true =
          (bytes_decides (take (length (descriptor_bytes x)) (drop s D)) (descriptor_bytes x)).1
          (front_of (descriptor_bytes x) ds s D h) in
          let clash : true ≡ false = sym yes ∙ e in absurd (cc),
    )

describe_case : (x : Descriptor) (k : Option Container) (p : Place) (cd c n i s : ℕ) (outer : List Open) (sizes : List Size) (D : List ℕ)
    → Fit p s D →
    ((describe_at p (descriptor_bytes x) (mk (fr k p cd c n i s) outer sizes D)
    ≡ Ok (mk (fr None p cd (length (descriptor_text p x)) 0 0 (form_in p s D (descriptor_bytes x))) (fr k p cd c n i s ∷ outer) sizes
    (descs_in p D (descriptor_bytes x))))
    × GoesOn p s D (descriptor_bytes x) × Fit p (form_in p s D (descriptor_bytes x)) (descs_in p D (descriptor_bytes x)))
    ⊎ ((describe_at p (descriptor_bytes x) (mk (fr k p cd c n i s) outer sizes D) ≡ Err MixedArray)
    × ((t : Term) → Other p s D cd (described x t)))
describe_case x k Alone cd c n i s outer sizes D f = inl (refl, tt, tt)
describe_case x k First cd c n i s outer sizes D f = inl (refl, tt, refl)
describe_case x k Later cd c n i s outer sizes D f = later_descriptor x k cd c n i s outer sizes D f (goes_on (descriptor_bytes x) s D) refl

joined_descs : (p : Place) (D b ds : List ℕ) → descs_after p (descs_in p D b) ds ≡ descs_after p D (b ++ ds)
joined_descs Alone D b ds = refl
joined_descs First D b ds = append_assoc D b ds
joined_descs Later D b ds = refl

-- containers

holds_itself : (k : Container) → holds (Some k) k ≡ true
holds_itself model.list = refl
holds_itself model.map = refl
holds_itself model.array = refl

odd_of : (k : Container) (ts : Terms) → is_odd_map k (count ts) ≡ true → IsOddMap (container k ts)
odd_of model.list ts h = cc
odd_of model.array ts h = cc
odd_of model.map ts h = λ e. let q : eqb (count ts % 2) 0 ≡ true = rw e refl in let z : not true ≡ true = ap not (sym q) ∙ h in cc

fits_itself : (k : Container) (ts : Terms) (p : Place) (D : List ℕ) → Fit (first_place k) (length D) D
fits_itself model.list ts p D = tt
fits_itself model.map ts p D = tt
fits_itself model.array ts p D = refl

within_sizes : (sizes all : List Size) (z : Size) → ltb (length sizes) (length ((sizes ++ z ∷ []) ++ all)) ≡ true
within_sizes sizes all z =
    lt-ltb (length sizes) (length ((sizes ++ z ∷ []) ++ all))
    (rw (length-append (sizes ++ z ∷ []) all, length-append sizes (z ∷ [])) (omega arith))

deep_container : (deep : List ℕ → ℕ) (k : Container) (d : ℕ) (ts : Terms) → around k < d → 128 < d + nest_by deep (container k ts)
deep_container deep model.list d ts h = omega arith
deep_container deep model.map d ts h = omega arith
deep_container deep model.array d ts h = omega arith

kept_size : (sizes all : List Size) (z s : Size) → set ((sizes ++ z ∷ []) ++ all) (length sizes) s ≡ sizes ++ (s ∷ all)
kept_size sizes all z s = rw (append_assoc sizes (z ∷ []) all) (set-append_seam sizes z all s)

-- the container's size, or why it has none
data SizeCase (k : Option Container) (p : Place) (cd c n i s : ℕ) : Type 0 where
  sized_ : size_of (fr k p cd c n i s) ≡ Ok (as_size (c, n)) → HasSize c n → SizeCase k p cd c n i s
  unsized : size_of (fr k p cd c n i s) ≡ Err TooLarge → (2 ^ 32 ≤ 4 + c) ⊎ (2 ^ 32 ≤ n) → SizeCase k p cd c n i s

size_case : (k : Option Container) (p : Place) (cd c n i s : ℕ) → SizeCase k p cd c n i s
size_case k p cd c n i s = elim (lt_cases 0xffff_fffb c) [
  | inl a ↦ unsized (rw (a.0) refl) (inl (omega arith))
  | inr a ↦ elim (lt_cases 0xffff_ffff n) [
    | inl b ↦ unsized (rw (a.0, b.0) refl) (inr (omega arith))
    | inr b ↦ sized_ (rw (a.0, b.0) refl) (omega arith, omega arith)
  ]
]

trimmed_later : (ts : Terms) (deep : List ℕ → ℕ) (D : List ℕ) → all_descs deep ts Later D ≡ D
trimmed_later none deep D = refl
trimmed_later (more t ts) deep D = trimmed_later ts deep D

trimmed_plain : (ts : Terms) (deep : List ℕ → ℕ) (D : List ℕ) → all_descs deep ts Alone D ≡ D
trimmed_plain none deep D = refl
trimmed_plain (more t ts) deep D = trimmed_plain ts deep D

trimmed_first : (ts : Terms) (deep : List ℕ → ℕ) (D : List ℕ) → take (length D) (all_descs deep ts First D) ≡ D
trimmed_first none deep D = take_all (length D) D (omega arith)
trimmed_first (more t ts) deep D = ap (take (length D)) (trimmed_later ts deep (D ++ descs t)) ∙ take_at D (descs t) (length D) refl

trimmed : (k : Container) (ts : Terms) (deep : List ℕ → ℕ) (D : List ℕ) → take (length D) (all_descs deep ts (first_place k) D) ≡ D
trimmed model.list ts deep D = ap (take (length D)) (trimmed_plain ts deep D) ∙ take_all (length D) D (omega arith)
trimmed model.map ts deep D = ap (take (length D)) (trimmed_plain ts deep D) ∙ take_all (length D) D (omega arith)
trimmed model.array ts deep D = trimmed_first ts deep D

fit_on : (p : Place) (s : ℕ) (D ds : List ℕ) → Fit p s D → Fit (next p) s (descs_after p D ds)
fit_on Alone s D ds f = tt
fit_on First s D ds f = omega (arith, length-append D ds)
fit_on Later s D ds f = f

module _ (deep : List ℕ → ℕ) where
  keep_goes : (b : List ℕ) (k : Option Container) (cd c n i s : ℕ) (outer : List Open) (sizes : List Size) (D : List ℕ)
      (others : List Token) → is_full (fr k Alone cd c n i s) ≡ false →
      TermGoes deep (kept b) k Alone cd c n i s outer sizes D others
  unfolding text sizes_of
  keep_goes b k cd c n i s outer sizes D others r =
      rw (append-nil sizes)
      (elim (lt_cases 128 (deep b)) [
        | inl a ↦ stops Depth (past refl (too_deep (deep b) (length outer) (inl a.1)))
            (stop_step _ Depth (keep b (deep b)) others (rw (a.0) refl))
        | inr a ↦ elim (lt_cases (128 - deep b) (length outer)) [
          | inl q ↦ stops Depth (past refl (too_deep (deep b) (length outer) (inr q.1)))
              (stop_step _ Depth (keep b (deep b)) others (rw (a.0, q.0) refl))
          | inr q ↦ elim (leave_case (length b) k Alone cd c n i s outer sizes D) [
            | inl l ↦ goes (record {
              sound = tt;
              clean = kept_clean b;
              within = (let low : deep b ≤ 128 = a.1 in let room : length outer ≤ 128 - deep b = q.1 in omega arith);
              long = l.1;
              many = l.2;
              formed = (λ o. absurd o);
              chain = tt;
              same = tt;
            })
                (first_step _ _ (keep b (deep b)) others (rw (a.0, q.0, r) (l.0)))
            | inr l ↦ stops TooLarge (elim l.1 [ inl u ↦ too_long refl u | inr u ↦ too_many refl u ])
                (stop_step _ TooLarge (keep b (deep b)) others (rw (a.0, q.0, r) (l.0)))
          ]
        ]
      ])

  described_goes : (x : Descriptor) (t : Term) (k : Option Container) (p : Place) (cd c n i s : ℕ) (outer : List Open) (sizes : List Size)
      (D : List ℕ) (others : List Token) →
      length outer ≤ 127 → Tested (descriptor_value x) → IsInRange (descriptor_value x) → GoesOn p s D (descriptor_bytes x) →
      steps (Measuring (mk (fr k p cd c n i s) outer sizes D)) (tokens deep (described x t) ++ others)
      ≡ steps (Measuring (mk (fr None p cd (length (descriptor_text p x)) 0 0 (form_in p s D (descriptor_bytes x)))
      (fr k p cd c n i s ∷ outer) sizes (descs_in p D (descriptor_bytes x)))) (tokens deep t ++ end_described ∷ others) →
      TermGoes deep t None p cd (length (descriptor_text p x)) 0 0 (form_in p s D (descriptor_bytes x)) (fr k p cd c n i s ∷ outer) sizes
      (descs_in p D (descriptor_bytes x)) (end_described ∷ others) →
      TermGoes deep (described x t) k p cd c n i s outer sizes D others
  unfolding text sizes_of
  described_goes x t k p cd c n i s outer sizes D others low g v on first (stops e w q) =
      stops e (refused_described deep x t p c n (length outer) s cd D e
      (subst (λ z. RefusedAt deep t p (length (descriptor_text p x)) 0 z (form_in p s D (descriptor_bytes x)) cd
      (descs_in p D (descriptor_bytes x)) e) (is_one (length outer)) w)) (first ∙ q)
  described_goes x t k p cd c n i s outer sizes D others low g v on first (goes a q) =
      let a' = subst (λ z. AcceptedAt deep t p (length (descriptor_text p x)) 0 z (form_in p s D (descriptor_bytes x)) cd
      (descs_in p D (descriptor_bytes x))) (is_one (length outer)) a in
      rw (length-append (descriptor_text p x) (text t p), ← joined_descs p D (descriptor_bytes x) (descs t))
      (elim (leave_case (length (descriptor_text p x) + length (text t p)) k p (code_after p cd (core_code t)) c n i s outer
      (sizes ++ map as_size (sizes_of t)) (descs_after p (descs_in p D (descriptor_bytes x)) (descs t))) [
        | inl b ↦ goes (accepted_described deep x t p c n (length outer) s cd D low g v on a' b.1 b.2)
            (first ∙ (q ∙ first_step _ _ end_described others b.0))
        | inr b ↦ stops TooLarge
            (elim b.1 [ inl u ↦ too_long refl (rw (length-append (descriptor_text p x) (text t p)) u) | inr u ↦ too_many refl u ])
            (first ∙ (q ∙ stop_step _ TooLarge end_described others b.0))
      ])

  -- a container ends
  end_case : (k : Container) (kd : Option Container) (p q : Place) (cd cd' c n m s u : ℕ) (count_ : ℕ) (outer : List Open)
      (sizes all : List Size) (D D' : List ℕ) (i : ℕ) →
      is_odd_map k count_ ≡ false → size_of (fr (Some k) q cd' m count_ (length sizes) u) ≡ Ok (as_size (m, count_)) → take u D' ≡ D →
      measure_end k (mk (fr (Some k) q cd' m count_ (length sizes) u) (fr kd p cd c n i s ∷ outer) ((sizes ++ no_size ∷ []) ++ all) D')
      ≡ leave (length (opening p k count_ m) + m) (mk (fr kd p cd c n i s) outer (sizes ++ (as_size (m, count_) ∷ all)) D)
  end_case k kd p q cd cd' c n m s u count_ outer sizes all D D' i odd z d =
      rw (holds_itself k, within_sizes sizes all no_size, odd, z, d, kept_size sizes all no_size (as_size (m, count_))) refl

  odd_case : (k : Container) (kd : Option Container) (p q : Place) (cd cd' c n m s u : ℕ) (count_ : ℕ) (outer : List Open)
      (sizes all : List Size) (D' : List ℕ) (i : ℕ) →
      is_odd_map k count_ ≡ true →
      measure_end k (mk (fr (Some k) q cd' m count_ (length sizes) u) (fr kd p cd c n i s ∷ outer) ((sizes ++ no_size ∷ []) ++ all) D')
      ≡ Err OddCount
  odd_case k kd p q cd cd' c n m s u count_ outer sizes all D' i odd = rw (holds_itself k, within_sizes sizes all no_size, odd) refl

  unsized_case : (k : Container) (kd : Option Container) (p q : Place) (cd cd' c n m s u : ℕ) (count_ : ℕ) (outer : List Open)
      (sizes all : List Size) (D' : List ℕ) (i : ℕ) →
      is_odd_map k count_ ≡ false → size_of (fr (Some k) q cd' m count_ (length sizes) u) ≡ Err TooLarge →
      measure_end k (mk (fr (Some k) q cd' m count_ (length sizes) u) (fr kd p cd c n i s ∷ outer) ((sizes ++ no_size ∷ []) ++ all) D')
      ≡ Err TooLarge
  unsized_case k kd p q cd cd' c n m s u count_ outer sizes all D' i odd z =
      rw (holds_itself k, within_sizes sizes all no_size, odd, z) refl

  -- once its values are there
  container_ends : (k : Container) (ts : Terms) (kd : Option Container) (p : Place) (cd c n i s : ℕ) (outer : List Open) (sizes : List Size)
      (D : List ℕ) (others : List Token) →
      length outer ≤ around k → EverywhereIn IsValue ts → Same p s D cd [] (wide_code k)
      → AcceptedAll deep ts (first_place k) 0 0 (length outer + 1) (length D) 0 D →
      steps (Measuring (mk (fr kd p cd c n i s) outer sizes D)) (tokens deep (container k ts) ++ others)
      ≡ steps (Measuring (mk (fr (Some k) (last ts (first_place k)) (codes_after deep ts (first_place k) 0)
      (length (texts ts (first_place k))) (count ts) (length sizes) (length D))
      (fr kd p (code_after p cd (wide_code k)) c n i s ∷ outer) ((sizes ++ no_size ∷ []) ++ map as_size (all_sizes ts))
      (all_descs deep ts (first_place k) D))) (end k ∷ others) →
      TermGoes deep (container k ts) kd p cd c n i s outer sizes D others
  unfolding text sizes_of
  container_ends k ts kd p cd c n i s outer sizes D others low v same_ a first =
      let m = length (texts ts (first_place k)) in
      let l = ap length (opened_text p k ts (first_place k)) ∙ length-append (opening p k (count ts) m) (texts ts (first_place k)) in
      elim (bool_cases (is_odd_map k (count ts))) [
        | inl o ↦ stops OddCount (inside (inl (inr (inr (refl, odd_of k ts o)))))
            (first ∙ stop_step _ OddCount (end k) others
            (odd_case k kd p (last ts (first_place k)) (code_after p cd (wide_code k)) (codes_after deep ts (first_place k) 0) c n m s
            (length D) (count ts) outer sizes (map as_size (all_sizes ts)) (all_descs deep ts (first_place k) D) i o))
        | inr o ↦ elim (size_case (Some k) (last ts (first_place k)) (codes_after deep ts (first_place k) 0) m (count ts)
            (length sizes) (length D)) [
              | unsized z w ↦ stops TooLarge (inside (refused_size deep k ts TooLarge refl (unfit k ts v a.all_sound w)))
                  (first ∙ stop_step _ TooLarge (end k) others
                  (unsized_case k kd p (last ts (first_place k)) (code_after p cd (wide_code k)) (codes_after deep ts (first_place k) 0) c n
                  m s (length D) (count ts) outer sizes (map as_size (all_sizes ts)) (all_descs deep ts (first_place k) D) i o z))
              | sized_ z w ↦
                  let e = end_case k kd p (last ts (first_place k)) (code_after p cd (wide_code k))
                  (codes_after deep ts (first_place k) 0) c n
                  m s (length D) (count ts) outer sizes (map as_size (all_sizes ts)) D (all_descs deep ts (first_place k) D) i o z
                  (trimmed k ts deep D) in
                  rw (no_descs p D, l)
                  (elim (leave_case (length (opening p k (count ts) m) + m) kd p (code_after p cd (wide_code k)) c n i s outer
                  (sizes ++ (as_size (m, count ts) ∷ map as_size (all_sizes ts))) D) [
                    | inl b ↦ goes (accepted_container deep k ts p c n (length outer) s cd D low o w same_ a (rw l b.1) b.2)
                        (first ∙ first_step _ _ (end k) others (e ∙ b.0))
                    | inr b ↦ stops TooLarge (elim b.1 [ inl u ↦ too_long refl (rw l u) | inr u ↦ too_many refl u ])
                        (first ∙ stop_step _ TooLarge (end k) others (e ∙ b.0))
                  ])
            ]
      ]

  container_goes : (k : Container) (ts : Terms) (kd : Option Container) (p : Place) (cd c n i s : ℕ) (outer : List Open) (sizes : List Size)
      (D : List ℕ) (others : List Token) →
      length outer ≤ around k → EverywhereIn IsValue ts → Same p s D cd [] (wide_code k) →
      steps (Measuring (mk (fr kd p cd c n i s) outer sizes D)) (tokens deep (container k ts) ++ others)
      ≡ steps (Measuring (mk (fr (Some k) (first_place k) 0 0 0 (length sizes) (length D))
      (fr kd p (code_after p cd (wide_code k)) c n i s ∷ outer) (sizes ++ no_size ∷ []) D)) (all_tokens deep ts ++ end k ∷ others) →
      TermsGo deep ts (Some k) (first_place k) 0 0 0 (length sizes) (length D) (fr kd p (code_after p cd (wide_code k)) c n i s ∷ outer)
      (sizes ++ no_size ∷ []) D (end k ∷ others) →
      TermGoes deep (container k ts) kd p cd c n i s outer sizes D others
  container_goes k ts kd p cd c n i s outer sizes D others low v same_ first (stops e w q) =
      stops e (refused_container deep k ts p c n (length outer) s cd D e
      (subst (λ z. RefusedAll deep ts (first_place k) 0 0 z (length D) 0 D e) (is_one (length outer)) w)) (first ∙ q)
  container_goes k ts kd p cd c n i s outer sizes D others low v same_ first (goes a q) =
      container_ends k ts kd p cd c n i s outer sizes D others low v same_
      (subst (λ z. AcceptedAll deep ts (first_place k) 0 0 z (length D) 0 D) (is_one (length outer)) a)
      (first ∙ (rw (zero-add, zero-add) at q))

  terms_goes : (t : Term) (ts : Terms) (k : Option Container) (p : Place) (cd c n i s : ℕ) (outer : List Open) (sizes : List Size)
      (D : List ℕ) (others : List Token) → Fit p s D → Everywhere IsValue t →
      TermGoes deep t k p cd c n i s outer sizes D (all_tokens deep ts ++ others) →
      (AcceptedAt deep t p c n (length outer) s cd D
      → TermsGo deep ts k (next p) (code_after p cd (core_code t)) (c + length (text t p)) (n + 1) i s outer
      (sizes ++ map as_size (sizes_of t)) (descs_after p D (descs t)) others) →
      TermsGo deep (more t ts) k p cd c n i s outer sizes D others
  unfolding text sizes_of
  terms_goes t ts k p cd c n i s outer sizes D others f v (stops e w q) g =
      stops e (refused_here deep t ts p c n (length outer) s cd D e w) (rw (append_assoc (tokens deep t) (all_tokens deep ts) others) q)
  terms_goes t ts k p cd c n i s outer sizes D others f v (goes a q) g =
      elim (g a) [
        | stops e w r ↦ stops e (refused_later deep t ts p c n (length outer) s cd D e f (takes_bytes t p v a.sound) a w)
            (rw (append_assoc (tokens deep t) (all_tokens deep ts) others) (q ∙ r))
        | goes b r ↦
            let x : c + length (text t p ++ texts ts (next p)) ≡ (c + length (text t p)) + length (texts ts (next p)) =
            omega (arith, length-append (text t p) (texts ts (next p))) in
            let y : n + suc (count ts) ≡ (n + 1) + count ts = omega arith in
            rw (
              x,
              y,
              map-append as_size (sizes_of t) (all_sizes ts),
              ← append_assoc sizes (map as_size (sizes_of t)) (map as_size (all_sizes ts)),
              append_assoc (tokens deep t) (all_tokens deep ts) others,
            )
            (goes (accepted_more deep t ts p c n (length outer) s cd D f a b) (q ∙ r))
      ]

  uniform_none : (p : Place) (s : ℕ) (D : List ℕ) (cd : ℕ) → Uniform deep p s D cd none
  uniform_none Alone s D cd = tt
  uniform_none First s D cd = tt
  uniform_none Later s D cd = tt

  mutual
    unfolding text sizes_of

    pub measure_term : (t : Term) (k : Option Container) (p : Place) (cd c n i s : ℕ) (outer : List Open) (sizes : List Size)
        (D : List ℕ) (others : List Token) →
        is_full (fr k p cd c n i s) ≡ false → Fit p s D → Everywhere IsValue t → TermGoes deep t k p cd c n i s outer sizes D others
    measure_term (leaf null) k Alone cd c n i s outer sizes D others r f v =
        leaf_goes deep null k Alone cd c n i s outer sizes D others r f
        (record { fits = refl; is_ascii = (λ h. h); is_short = (λ h. h); is_written = tt }) tt (λ o. absurd o) refl
    measure_term (leaf null) k First cd c n i s outer sizes D others r f v =
        stops ZeroWidthItems (null_item refl tt refl) (stop_step _ ZeroWidthItems (put null) others refl)
    measure_term (leaf null) k Later cd c n i s outer sizes D others r f v =
        stops ZeroWidthItems (null_item refl tt refl) (stop_step _ ZeroWidthItems (put null) others refl)
    measure_term (leaf x) k p cd c n i s outer sizes D others r f v = elim (check_of x) [
      | foreign e h ↦ stops NonAscii (inside (inl (non_ascii, refl, inr h)))
          (stop_step _ NonAscii (put x) others (ap (λ r. r >>= λ _. measure_checked x (mk (fr k p cd c n i s) outer sizes D)) e))
      | overlong e h ↦ stops TooLarge (inside (inl (too_large, refl, inr h)))
          (stop_step _ TooLarge (put x) others (ap (λ r. r >>= λ _. measure_checked x (mk (fr k p cd c n i s) outer sizes D)) e))
      | tested e g ↦ leaf_goes deep x k p cd c n i s outer sizes D others r f g tt (λ o. (([], (wide x).0), refl))
          (ap (λ r. r >>= λ _. measure_checked x (mk (fr k p cd c n i s) outer sizes D)) e)
    ]
    measure_term (kept b) k Alone cd c n i s outer sizes D others r f v = keep_goes b k cd c n i s outer sizes D others r
    measure_term (kept b) k First cd c n i s outer sizes D others r f v =
        stops LazyInArray (kept_item refl tt b refl) (stop_step _ LazyInArray (keep b (deep b)) others refl)
    measure_term (kept b) k Later cd c n i s outer sizes D others r f v =
        stops LazyInArray (kept_item refl tt b refl) (stop_step _ LazyInArray (keep b (deep b)) others refl)
    measure_term (barred e) k p cd c n i s outer sizes D others r f v =
        stops (error_of e) (inside (inl (e, refl, inl refl))) (stop_step _ (error_of e) (refuse (error_of e)) others refl)
    measure_term (described x t) k p cd c n i s outer sizes D others r f v =
        elim (lt_cases 127 (length outer)) [
          | inl a ↦ stops Depth (past refl (omega arith)) (stop_step _ Depth (begin_described x) _ (rw (a.0) refl))
          | inr a ↦ elim (check_of (descriptor_value x)) [
            | foreign e h ↦ stops NonAscii (inside (inl (inl (non_ascii, refl, inr h))))
                (stop_step _ NonAscii (begin_described x) _
                (rw (a.0, r) (ap (λ r. r >>= λ _. describe_at p (descriptor_bytes x) (mk (fr k p cd c n i s) outer sizes D)) e)))
            | overlong e h ↦ stops TooLarge (inside (inl (inl (too_large, refl, inr h))))
                (stop_step _ TooLarge (begin_described x) _
                (rw (a.0, r) (ap (λ r. r >>= λ _. describe_at p (descriptor_bytes x) (mk (fr k p cd c n i s) outer sizes D)) e)))
            | tested e g ↦ elim (describe_case x k p cd c n i s outer sizes D f) [
              | inr b ↦ stops MixedArray (other refl (b.1 t))
                  (stop_step _ MixedArray (begin_described x) _
                  (rw (a.0, r) (ap (λ r. r >>= λ _. describe_at p (descriptor_bytes x) (mk (fr k p cd c n i s) outer sizes D)) e ∙ b.0)))
              | inl b ↦ described_goes x t k p cd c n i s outer sizes D others a.1 g v.0 b.1
                  (first_step _ _ (begin_described x) ((tokens deep t ++ end_described ∷ []) ++ others)
                  (rw (a.0, r) (ap (λ r. r >>= λ _. describe_at p (descriptor_bytes x) (mk (fr k p cd c n i s) outer sizes D)) e ∙ b.0))
                  ∙ ap (steps _) (append_assoc (tokens deep t) (end_described ∷ []) others))
                  (measure_term t None p cd (length (descriptor_text p x)) 0 0 (form_in p s D (descriptor_bytes x))
                  (fr k p cd c n i s ∷ outer) sizes (descs_in p D (descriptor_bytes x)) (end_described ∷ others) refl b.2 v.1)
            ]
          ]
        ]
    measure_term (container h ts) k p cd c n i s outer sizes D others r f v =
        elim (lt_cases (around h) (length outer)) [
          | inl a ↦ stops Depth (past refl (deep_container deep h (length outer) ts a.1)) (stop_step _ Depth (begin h) _ (rw (a.0) refl))
          | inr a ↦ elim (enter_case (wide_code h) k p cd c n i s outer sizes D r f) [
            | inr b ↦ stops MixedArray (other refl (other_container h ts p s cd D b.1))
                (stop_step _ MixedArray (begin h) _ (rw (a.0) (ap (λ r. r >>= λ n. Ok (opened h n)) (b.0))))
            | inl b ↦ container_goes h ts k p cd c n i s outer sizes D others a.1 v.1 b.1
                (first_step _ _ (begin h) ((all_tokens deep ts ++ end h ∷ []) ++ others)
                (rw (a.0) (ap (λ r. r >>= λ n. Ok (opened h n)) (b.0)))
                ∙ ap (steps _) (append_assoc (all_tokens deep ts) (end h ∷ []) others))
                (measure_terms ts h (first_place h) 0 0 0 (length sizes) (length D) (fr k p (code_after p cd (wide_code h)) c n i s ∷ outer)
                (sizes ++ no_size ∷ []) D (end h ∷ others) (fits_itself h ts p D) (omega arith) (omega arith) v.1)
          ]
        ]

    pub measure_terms : (ts : Terms) (k : Container) (p : Place) (cd c n i s : ℕ) (outer : List Open) (sizes : List Size)
        (D : List ℕ) (others : List Token) →
        Fit p s D → c ≤ MAX → n ≤ MAX → EverywhereIn IsValue ts → TermsGo deep ts (Some k) p cd c n i s outer sizes D others
    measure_terms none k p cd c n i s outer sizes D others f l m v =
        rw (append-nil, add-zero, add-zero)
        (goes (record {
          all_sound = tt;
          all_clean = (λ e h. h);
          all_within = tt;
          all_long = omega arith;
          all_many = omega arith;
          all_formed = (λ o. tt);
          uniform = uniform_none p s D cd;
        }) refl)
    measure_terms (more t ts) k p cd c n i s outer sizes D others f l m v =
        terms_goes t ts (Some k) p cd c n i s outer sizes D others f v.0
        (measure_term t (Some k) p cd c n i s outer sizes D (all_tokens deep ts ++ others) refl f v.0)
        (λ a. measure_terms ts k (next p) (code_after p cd (core_code t)) (c + length (text t p)) (n + 1) i s outer
        (sizes ++ map as_size (sizes_of t)) (descs_after p D (descs t)) others (fit_on p s D (descs t) f) a.long a.many v.1)
