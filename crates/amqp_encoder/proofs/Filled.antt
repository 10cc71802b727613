-- The filling pass writes the text of a term, given the sizes of its containers.
use Rattle.std.proofs.Common.{◌≡◌, ℕ, ◌+◌, ◌<◌, ◌≤◌, ◌^◌, List, [], ◌∷◌, ◌++◌, length, refl, ◌∙◌, ap, append_assoc, arith, length-append}
use Rattle.std.proofs.Common.{map}
use Rattle.std.specs.Prelude.{Ok}
use Rattle.std.proofs.lemmas.List.{append-nil, map-append}
use Rattle.std.proofs.lemmas.Bool.{le-ltb}
use Rattle.amqp_model.specs.Term.{Primitive, null, Container, Term, Terms, leaf, container, described, kept, barred, none, more, Descriptor}
use Rattle.amqp_model.specs.Term.{count}
use Rattle.amqp_model.specs.Spelling.{descriptor_value}
use Rattle.amqp_model.specs.Text.{Place, Alone, First, Later, next, first_place, primitive_text, descriptor_text, text, texts, sizes_of}
use Rattle.amqp_model.specs.Text.{all_sizes}
use Rattle.amqp_encoder.specs.declared.size.Size.{Size}
use Rattle.amqp_encoder.specs.State.{Filling}
use Rattle.amqp_encoder.specs.Tokens.{Token, put, keep, begin, end, begin_described, end_described, tokens, all_tokens}
use Rattle.amqp_encoder.specs.State.{Filled}
use Rattle.amqp_encoder.specs.Opening.{opening}
use Rattle.amqp_encoder.specs.Measuring.{◌>>=◌}
use Rattle.amqp_encoder.specs.Filling.{emit, sized, fill_value, fill_sized, fill_put, fill_keep, fill_open, fill_begin}
use Rattle.amqp_encoder.specs.Filling.{fill_begin_described, fill_end}
use Rattle.amqp_encoder.specs.Writes.{fill, filling, steps}
use Rattle.amqp_encoder.specs.Passes.{as_size}
use Rattle.amqp_encoder.specs.Sound.{MayStand, IsSound, AreSound, IsAlone, levels, all_levels}
use Rattle.amqp_encoder.proofs.Openings.{opened_text}

-- the place after the terms
abbrev pub last : Terms → Place → Place
last none p = p
last (more t ts) p = last ts (next p)

-- one step of a row
first_step : (f g : Filled) (t : Token) (ts : List Token) → fill t f ≡ Ok g → steps (Filling f) (t ∷ ts) ≡ steps (Filling g) ts
unfolding steps
first_step f g t ts h = ap (λ r. steps (filling r) ts) h

room_before : (out a b : List ℕ) (limit : ℕ) → length out + length (a ++ b) ≤ limit → length out + length a ≤ limit
room_before out a b limit h = omega (arith, length-append a b)

room_after : (out a b : List ℕ) (limit : ℕ) → length out + length (a ++ b) ≤ limit → length (out ++ a) + length b ≤ limit
room_after out a b limit h = omega (arith, length-append a b, length-append out a)

-- a value is open, or has passed
abbrev pub opened : Place → Filled → Filled
opened q f = record f { place = q; outer = f.place ∷ f.outer }

abbrev passed : Filled → Filled
passed f = record f { place = next f.place }

-- A pass that writes into the same memory all along.
module _ (loan : ℕ) where
  abbrev pub filled : Place → List Place → List Size → List ℕ → ℕ → Filled
  filled p outer sizes out limit = record { place = p; outer = outer; sizes = sizes; out = out; limit = limit; loan = loan }

  pub emits : (bs : List ℕ) (p : Place) (outer : List Place) (sizes : List Size) (out : List ℕ) (limit : ℕ) → length out + length bs ≤ limit →
      emit bs (filled p outer sizes out limit) ≡ Ok (filled p outer sizes (out ++ bs) limit)
  emits bs p outer sizes out limit h = rw (le-ltb limit (length out + length bs) h) refl

  pub opens : (bs : List ℕ) (q p : Place) (outer : List Place) (sizes : List Size) (out : List ℕ) (limit : ℕ) → length outer + 1 ≤ 129
      → length out + length bs ≤ limit →
      fill_open bs q (filled p outer sizes out limit) ≡ Ok (filled q (p ∷ outer) sizes (out ++ bs) limit)
  opens bs q p outer sizes out limit low h =
      rw (le-ltb 128 (length outer) (omega arith))
      (ap (λ r. r >>= λ g. Ok (opened q g)) (emits bs p outer sizes out limit h))

  fills_value : (bs : List ℕ) (p : Place) (outer : List Place) (sizes : List Size) (out : List ℕ) (limit : ℕ)
      → length out + length bs ≤ limit →
      fill_value bs (filled p outer sizes out limit) ≡ Ok (filled (next p) outer sizes (out ++ bs) limit)
  fills_value bs p outer sizes out limit h =
      ap (λ r. r >>= λ g. Ok (passed g)) (emits bs p outer sizes out limit h)

  sized_value : (p : Primitive) (place : Place) (outer : List Place) (sizes : List Size) (out : List ℕ) (limit : ℕ) → MayStand p place →
      fill_sized p (filled place outer sizes out limit) ≡ fill_value (primitive_text place p) (filled place outer sizes out limit)
  sized_value null Alone outer sizes out limit h = refl
  sized_value null First outer sizes out limit h = absurd h
  sized_value null Later outer sizes out limit h = absurd h
  sized_value p place outer sizes out limit h = refl

  fills_put : (p : Primitive) (place : Place) (outer : List Place) (sizes : List Size) (out : List ℕ) (limit : ℕ) → sized p ≡ Ok tt
      → MayStand p place → length out + length (primitive_text place p) ≤ limit →
      fill_put p (filled place outer sizes out limit) ≡ Ok (filled (next place) outer sizes (out ++ primitive_text place p) limit)
  fills_put p place outer sizes out limit s m h =
      ap (λ r. r >>= λ _. fill_sized p (filled place outer sizes out limit)) s ∙ sized_value p place outer sizes out limit m
      ∙ fills_value (primitive_text place p) place outer sizes out limit h

  around : (inner : List Token) (begin_ end_ : Token) (p q r : Place) (outer : List Place) (sizes within rest : List Size)
      (out head body : List ℕ) (limit : ℕ) (others : List Token) →
      fill begin_ (filled p outer sizes out limit) ≡ Ok (filled q (p ∷ outer) within (out ++ head) limit) →
      ((m : List Token) → steps (Filling (filled q (p ∷ outer) within (out ++ head) limit)) (inner ++ m)
      ≡ steps (Filling (filled r (p ∷ outer) rest ((out ++ head) ++ body) limit)) m) →
      ((f : Filled) → fill end_ f ≡ fill_end f) →
      steps (Filling (filled p outer sizes out limit)) (begin_ ∷ ((inner ++ end_ ∷ []) ++ others))
      ≡ steps (Filling (filled (next p) outer rest (out ++ (head ++ body)) limit)) others
  around inner begin_ end_ p q r outer sizes within rest out head body limit others b i e =
      first_step _ _ begin_ ((inner ++ end_ ∷ []) ++ others) b
      ∙ (rw (append_assoc inner (end_ ∷ []) others) (i (end_ ∷ others))
      ∙ (first_step _ _ end_ others (e (filled r (p ∷ outer) rest ((out ++ head) ++ body) limit))
      ∙ ap (λ o. steps (Filling (filled (next p) outer rest o limit)) others) (append_assoc out head body)))

  pub begins : (k : Container) (items n : ℕ) (p : Place) (outer : List Place) (rest : List Size) (out : List ℕ) (limit : ℕ) → items + 4 < 2 ^ 32
      → length outer + 1 ≤ 129 →
      length out + length (opening p k n items) ≤ limit →
      fill_begin k (filled p outer (record { content = items; count = n } ∷ rest) out limit)
      ≡ Ok (filled (first_place k) (p ∷ outer) rest (out ++ opening p k n items) limit)
  begins k items n p outer rest out limit s low h =
      rw (le-ltb 0xffff_fffb items (omega arith)) (opens (opening p k n items) (first_place k) p outer rest out limit low h)

  pub describes : (d : Descriptor) (p : Place) (outer : List Place) (sizes : List Size) (out : List ℕ) (limit : ℕ)
      → sized (descriptor_value d) ≡ Ok tt → length outer + 1 ≤ 129 →
      length out + length (descriptor_text p d) ≤ limit →
      fill_begin_described d (filled p outer sizes out limit) ≡ Ok (filled p (p ∷ outer) sizes (out ++ descriptor_text p d) limit)
  describes d Alone outer sizes out limit s low h =
      ap (λ r. r >>= λ _. fill_open (descriptor_text Alone d) Alone (filled Alone outer sizes out limit)) s
      ∙ opens (descriptor_text Alone d) Alone Alone outer sizes out limit low h
  describes d First outer sizes out limit s low h =
      ap (λ r. r >>= λ _. fill_open (descriptor_text First d) First (filled First outer sizes out limit)) s
      ∙ opens (descriptor_text First d) First First outer sizes out limit low h
  describes d Later outer sizes out limit s low h = opens [] Later Later outer sizes out limit low h

  keeps : (b : List ℕ) (p : Place) (outer : List Place) (sizes : List Size) (out : List ℕ) (limit : ℕ) → IsAlone p
      → length out + length b ≤ limit →
      fill_keep b (filled p outer sizes out limit) ≡ Ok (filled (next p) outer sizes (out ++ b) limit)
  keeps b Alone outer sizes out limit s h = fills_value b Alone outer sizes out limit h
  keeps b First outer sizes out limit s h = absurd s
  keeps b Later outer sizes out limit s h = absurd s

  module _ (deep : List ℕ → ℕ) where
    mutual
      unfolding text sizes_of

      pub fill_term : (t : Term) (p : Place) (outer : List Place) (rest : List Size) (out : List ℕ) (limit : ℕ) (others : List Token) →
          IsSound t p → length outer + levels t ≤ 129 → length out + length (text t p) ≤ limit →
          steps (Filling (filled p outer (map as_size (sizes_of t) ++ rest) out limit)) (tokens deep t ++ others)
          ≡ steps (Filling (filled (next p) outer rest (out ++ text t p) limit)) others
      fill_term (leaf x) p outer rest out limit others s low h = first_step _ _ (put x) others (fills_put x p outer rest out limit s.0 s.1 h)
      fill_term (kept b) p outer rest out limit others s low h = first_step _ _ (keep b (deep b)) others (keeps b p outer rest out limit s h)
      fill_term (container k ts) p outer rest out limit others s low h =
          let front = opening p k (count ts) (length (texts ts (first_place k))) in
          let body = texts ts (first_place k) in
          let whole = opened_text p k ts (first_place k) in
          let fits : length out + length (front ++ body) ≤ limit = rw whole at h in
          rw whole
          (around (all_tokens deep ts) (begin k) (end k) p (first_place k) (last ts (first_place k)) outer _
          (map as_size (all_sizes ts) ++ rest) rest out front body limit others
          (begins k (length body) (count ts) p outer (map as_size (all_sizes ts) ++ rest) out limit s.0.0 (omega arith)
          (room_before out front body limit fits))
          (λ m. fill_terms ts (first_place k) (p ∷ outer) rest (out ++ front) limit m s.1 (omega arith)
          (room_after out front body limit fits))
          (λ f. refl))
      fill_term (described d t) p outer rest out limit others s low h =
          let front = descriptor_text p d in
          around (tokens deep t) (begin_described d) end_described p p (next p) outer _ (map as_size (sizes_of t) ++ rest) rest out
          front (text t p) limit others
          (describes d p outer (map as_size (sizes_of t) ++ rest) out limit s.0 (omega arith) (room_before out front (text t p) limit h))
          (λ m. fill_term t p (p ∷ outer) rest (out ++ front) limit m s.1 (omega arith) (room_after out front (text t p) limit h))
          (λ f. refl)
      fill_term (barred r) p outer rest out limit others s low h = absurd s

      pub fill_terms : (ts : Terms) (p : Place) (outer : List Place) (rest : List Size) (out : List ℕ) (limit : ℕ) (others : List Token) →
          AreSound ts p → length outer + all_levels ts ≤ 129 → length out + length (texts ts p) ≤ limit →
          steps (Filling (filled p outer (map as_size (all_sizes ts) ++ rest) out limit)) (all_tokens deep ts ++ others)
          ≡ steps (Filling (filled (last ts p) outer rest (out ++ texts ts p) limit)) others
      fill_terms none p outer rest out limit others s low h = rw append-nil refl
      fill_terms (more t ts) p outer rest out limit others s low h =
          rw (
            map-append as_size (sizes_of t) (all_sizes ts),
            append_assoc (map as_size (sizes_of t)) (map as_size (all_sizes ts)) rest,
            append_assoc (tokens deep t) (all_tokens deep ts) others,
          )
          (fill_term t p outer (map as_size (all_sizes ts) ++ rest) out limit (all_tokens deep ts ++ others) s.0 (omega arith)
          (room_before out (text t p) (texts ts (next p)) limit h)
          ∙ (fill_terms ts (next p) outer rest (out ++ text t p) limit others s.1 (omega arith)
          (room_after out (text t p) (texts ts (next p)) limit h)
          ∙ ap (λ o. steps (Filling (filled (last ts (next p)) outer rest o limit)) others)
          (append_assoc out (text t p) (texts ts (next p)))))
