-- From the parts of a described value or a container to itself.
use Rattle.std.proofs.Common.{◌≡◌, ℕ, suc, zero, ◌+◌, ◌%◌, ◌<◌, ◌≤◌, ◌^◌, List, [], ◌∷◌, ◌++◌, length, take, drop, refl, sym, ◌∙◌, ap}
use Rattle.std.proofs.Common.{subst, inl, inr, ◌⊎◌, arith, Bool, true, false, length-append, option_map}
use Rattle.std.specs.Prelude.{Ok, eqb, not}
use Rattle.std.proofs.lemmas.Bool.{eqb-true}
use Rattle.std.proofs.lemmas.List.{drop_at, drop-drop, take-append-drop}
use Rattle.amqp_model.specs.Term.{Primitive, Refusal, zero_width_items, mixed_array, too_large, lazy_in_array, non_ascii, Container, list}
use Rattle.amqp_model.specs.Term.{map, array, Term, Terms, leaf, container, described, kept, barred, none, more, Descriptor, count}
use Rattle.amqp_model.specs.Spelling.{descriptor_value}
use Rattle.amqp_model.specs.Text.{Place, Alone, First, Later, next, first_place, wide_code, form, text, texts, content_of, descriptor_text}
use Rattle.amqp_model.specs.Ranges.{IsInRange}
use Rattle.amqp_model.specs.Refusals.{Somewhere, SomewhereIn, IsItem, HasForm, IsNonAscii, IsLong, HasFlaw}
use Rattle.amqp_model.proofs.Primitives.{IsWritten}
use Rattle.amqp_model.proofs.Mixed.{one_form_shared}
use Rattle.amqp_wire.specs.declared.error.Error.{Error}
use Rattle.amqp_wire.specs.declared.error.Error.TheVariants.{TooLarge}
use Rattle.amqp_encoder.specs.Measuring.{MAX, descriptor_bytes, around, is_odd_map}
use Rattle.amqp_encoder.specs.Filling.{sized}
use Rattle.amqp_encoder.specs.Reasons.{HasReason, IsOddMap, nest_by, nests_by, array_nest_by}
use Rattle.amqp_encoder.specs.Sound.{HasSize}
use Rattle.amqp_encoder.proofs.Measured.{InArray, descs, core_code, Same, IsOther, Other, Chain, IsWithin, AllWithin, IsPast, AnyPast}
use Rattle.amqp_encoder.proofs.Measured.{AcceptedAt, RefusedAt, inside, past, too_long, too_many, null_item, kept_item, other, AllAlike}
use Rattle.amqp_encoder.proofs.Measured.{Uniform, MixedAt, AllFormed, AcceptedAll, RefusedAll, some_inside, some_past, all_too_long}
use Rattle.amqp_encoder.proofs.Measured.{all_too_many, some_null, some_kept, some_other}
use Rattle.amqp_encoder.proofs.Constructors.{alike_forms, other_differs, null_form, kept_form, formless}

-- what a call has tested of a primitive
pub record Tested (p : Primitive) : Type 0 where
  pub fits : sized p ≡ Ok (tt {0})
  pub is_ascii : IsNonAscii p → ⊥
  pub is_short : IsLong p → ⊥
  pub is_written : IsWritten p

abbrev pub form_in : Place → ℕ → List ℕ → List ℕ → ℕ
form_in Alone s D b = 0
form_in First s D b = length (D ++ b)
form_in Later s D b = s + length b

abbrev pub descs_in : Place → List ℕ → List ℕ → List ℕ
descs_in Alone D b = D
descs_in First D b = D ++ b
descs_in Later D b = D

-- the descriptor goes on where it must
abbrev pub GoesOn : Place → ℕ → List ℕ → List ℕ → Type 0
GoesOn Alone s D b = Unit {0}
GoesOn First s D b = Unit {0}
GoesOn Later s D b = take (length b) (drop s D) ≡ b

seam : (s : ℕ) (D b : List ℕ) → take (length b) (drop s D) ≡ b → drop s D ≡ b ++ drop (s + length b) D
seam s D b h = sym (take-append-drop (length b) (drop s D)) ∙ ap (λ l. l ++ drop (length b) (drop s D)) h
    ∙ ap (λ l. b ++ l) (drop-drop (length b) s D)

same_on : (p : Place) (s : ℕ) (D : List ℕ) (cd : ℕ) (b ds : List ℕ) (x : ℕ) → GoesOn p s D b
    → Same p (form_in p s D b) (descs_in p D b) cd ds x → Same p s D cd (b ++ ds) x
same_on Alone s D cd b ds x g h = tt
same_on First s D cd b ds x g h = tt
same_on Later s D cd b ds x g h = (seam s D b g ∙ ap (λ l. b ++ l) h.0, h.1)

rest_of : (s : ℕ) (D b ds : List ℕ) → drop s D ≡ b ++ ds → drop (s + length b) D ≡ ds
rest_of s D b ds h = sym (drop-drop (length b) s D) ∙ ap (drop (length b)) h ∙ drop_at b ds (length b) refl

other_on : (p : Place) (s : ℕ) (D : List ℕ) (cd : ℕ) (x : Descriptor) (t : Term)
    → Other p (form_in p s D (descriptor_bytes x)) (descs_in p D (descriptor_bytes x)) cd t
    → Other p s D cd (described x t)
other_on Alone s D cd x t h = h
other_on First s D cd x t h = h
other_on Later s D cd x t h = λ rest e. subst (λ ds. IsOther ds cd t) (rest_of s D (descriptor_bytes x) rest e) h

described_flawless : (x : Descriptor) (t : Term) → Tested (descriptor_value x) → (r : Refusal) → HasFlaw r (described x t) → ⊥
described_flawless x t g mixed_array h = h
described_flawless x t g zero_width_items h = h
described_flawless x t g lazy_in_array h = h
described_flawless x t g non_ascii h = g.is_ascii h
described_flawless x t g too_large h = g.is_short h
described_flawless x t g _ h = h

described_clean : (x : Descriptor) (t : Term) → Tested (descriptor_value x) → ((e : Error) → Somewhere (HasReason e) t → ⊥) → (e : Error)
    → Somewhere (HasReason e) (described x t) → ⊥
described_clean x t g h e (inl (inl (r, i, inl q))) = cc
described_clean x t g h e (inl (inl (r, i, inr f))) = described_flawless x t g r f
described_clean x t g h e (inl (inr (inl c))) = c.1
described_clean x t g h e (inl (inr (inr c))) = c.1
described_clean x t g h e (inr k) = h e k

described_form : (x : Descriptor) (t : Term) → HasForm t → HasForm (described x t)
described_form x t (f, e) = ((x ∷ f.0, f.1), ap (option_map (λ f. (x ∷ f.0, f.1))) e)

not_false : (b : Bool) → not b ≡ false → b ≡ true
not_false true h = refl
not_false false h = cc

even_of : (n : ℕ) → not (eqb n 0) ≡ false → n ≡ 0
even_of n h = eqb-true n 0 (not_false (eqb n 0) h)

module _ (deep : List ℕ → ℕ) where
  within_at : (d : ℕ) (t : Term) → d ≤ 128 → IsWithin deep d t → d + nest_by deep t ≤ 128
  within_at d (leaf p) l h = omega arith
  within_at d (container k ts) l h = h
  within_at d (described x t) l h = h
  within_at d (kept b) l h = h
  within_at d (barred r) l h = omega arith

  pub alls_at : (d : ℕ) (ts : Terms) → d ≤ 128 → AllWithin deep d ts → d + nests_by deep ts ≤ 128
  alls_at d none l h = omega arith
  alls_at d (more t ts) l h = omega (arith, within_at d t l h.0, alls_at d ts l h.1)

  array_at : (d : ℕ) (ts : Terms) → d ≤ 128 → AllWithin deep (d + 1) ts → d + array_nest_by deep ts ≤ 128
  array_at d none l h = omega arith
  array_at d (more (leaf p) ts) l h = array_at d ts l h.1
  array_at d (more (kept b) ts) l h = array_at d ts l h.1
  array_at d (more (barred r) ts) l h = array_at d ts l h.1
  array_at d (more (container k us) ts) l h =
      let one : (d + 1) + nest_by deep (container k us) ≤ 128 = h.0 in
      let low : d + 1 ≤ 128 = omega arith in
      let two : (d + 1) + nests_by deep ts ≤ 128 = alls_at (d + 1) ts low h.1 in
      omega arith
  array_at d (more (described x t) ts) l h =
      let one : (d + 1) + nest_by deep (described x t) ≤ 128 = h.0 in
      let low : d + 1 ≤ 128 = omega arith in
      let two : (d + 1) + nests_by deep ts ≤ 128 = alls_at (d + 1) ts low h.1 in
      omega arith

  past_at : (p : Place) (d : ℕ) (t : Term) → IsPast deep p d t → 128 < d + nest_by deep t
  past_at p d (leaf x) h = absurd h
  past_at p d (container k ts) h = h
  past_at p d (described x t) h = h
  past_at Alone d (kept b) h = h
  past_at First d (kept b) h = absurd h
  past_at Later d (kept b) h = absurd h
  past_at p d (barred r) h = absurd h

  pub any_past : (p : Place) (d : ℕ) (ts : Terms) → AnyPast deep p d ts → 128 < d + nests_by deep ts
  any_past p d none h = absurd h
  any_past p d (more t ts) (inl h) = omega (arith, past_at p d t h)
  any_past p d (more t ts) (inr h) = omega (arith, any_past (next p) d ts h)

  no_kept : (p : Place) (d : ℕ) (b : List ℕ) → InArray p → IsPast deep p d (kept b) → ⊥
  no_kept Alone d b a h = a
  no_kept First d b a h = h
  no_kept Later d b a h = h

  still : (p : Place) → InArray p → InArray (next p)
  still Alone h = h
  still First h = tt
  still Later h = tt

  array_past : (p : Place) (d : ℕ) (ts : Terms) → InArray p → AnyPast deep p (d + 1) ts → 128 < d + array_nest_by deep ts
  array_past p d none a h = absurd h
  array_past p d (more (leaf x) ts) a (inl h) = absurd h
  array_past p d (more (leaf x) ts) a (inr h) = array_past (next p) d ts (still p a) h
  array_past p d (more (kept b) ts) a (inl h) = absurd (no_kept p (d + 1) b a h)
  array_past p d (more (kept b) ts) a (inr h) = array_past (next p) d ts (still p a) h
  array_past p d (more (barred r) ts) a (inl h) = absurd h
  array_past p d (more (barred r) ts) a (inr h) = array_past (next p) d ts (still p a) h
  array_past p d (more (container k us) ts) a (inl h) = let f : 128 < (d + 1) + nest_by deep (container k us) = h in omega arith
  array_past p d (more (container k us) ts) a (inr h) = omega (arith, any_past (next p) (d + 1) ts h)
  array_past p d (more (described x t) ts) a (inl h) = let f : 128 < (d + 1) + nest_by deep (described x t) = h in omega arith
  array_past p d (more (described x t) ts) a (inr h) = omega (arith, any_past (next p) (d + 1) ts h)

  -- described values

  pub accepted_described : (x : Descriptor) (t : Term) (p : Place) (c n d s cd : ℕ) (D : List ℕ) → d ≤ 127 → Tested (descriptor_value x)
      → IsInRange (descriptor_value x) → GoesOn p s D (descriptor_bytes x)
      → AcceptedAt deep t p (length (descriptor_text p x)) 0 (d + 1) (form_in p s D (descriptor_bytes x)) cd
      (descs_in p D (descriptor_bytes x))
      → c + (length (descriptor_text p x) + length (text t p)) ≤ MAX → n + 1 ≤ MAX → AcceptedAt deep (described x t) p c n d s cd D
  unfolding text
  accepted_described x t p c n d s cd D low g v on a l m = record {
    sound = (g.fits, a.sound);
    clean = described_clean x t g a.clean;
    within = (let h : (d + 1) + nest_by deep t ≤ 128 = within_at (d + 1) t (omega arith) a.within in omega arith);
    long = rw (length-append (descriptor_text p x) (text t p)) l;
    many = m;
    formed = (λ i. described_form x t (a.formed i));
    chain = (v, g.is_written, a.chain);
    same = same_on p s D cd (descriptor_bytes x) (descs t) (core_code t) on a.same;
  }

  pub refused_described : (x : Descriptor) (t : Term) (p : Place) (c n d s cd : ℕ) (D : List ℕ) (e : Error)
      → RefusedAt deep t p (length (descriptor_text p x)) 0 (d + 1) (form_in p s D (descriptor_bytes x)) cd
      (descs_in p D (descriptor_bytes x)) e → RefusedAt deep (described x t) p c n d s cd D e
  unfolding text
  refused_described x t p c n d s cd D e (inside r) = inside (inr r)
  refused_described x t p c n d s cd D e (past i h) = past i (let f : 128 < (d + 1) + nest_by deep t = past_at p (d + 1) t h in omega arith)
  refused_described x t p c n d s cd D e (too_long i h) = too_long i (omega (arith, length-append (descriptor_text p x) (text t p)))
  refused_described x t p c n d s cd D e (too_many i h) = absurd (omega arith)
  refused_described x t p c n d s cd D e (null_item i a h) = null_item i a h
  refused_described x t p c n d s cd D e (kept_item i a b h) = kept_item i a b h
  refused_described x t p c n d s cd D e (other i h) = other i (other_on p s D cd x t h)

  -- containers

  item_formed : (t : Term) (ts : Terms) → IsItem t ts → AllFormed deep ts → HasForm t × Chain t
  item_formed t none i a = absurd i
  item_formed t (more u ts) (inl i) a = rw i (a.0, a.1)
  item_formed t (more u ts) (inr i) a = item_formed t ts i a.2

  item_alike : (ds : List ℕ) (x : ℕ) (t : Term) (ts : Terms) → IsItem t ts → AllAlike deep ds x ts → (ds ≡ descs t) × (x ≡ core_code t)
  item_alike ds x t none i a = absurd i
  item_alike ds x t (more u ts) (inl i) a = rw i (a.0, a.1)
  item_alike ds x t (more u ts) (inr i) a = item_alike ds x t ts i a.2

  -- as the first one
  first_alike : (u t : Term) (ts : Terms) → IsItem u (more t ts) → AllAlike deep (descs t) (core_code t) ts
      → (descs t ≡ descs u) × (core_code t ≡ core_code u)
  first_alike u t ts (inl i) a = rw i (refl, refl)
  first_alike u t ts (inr i) a = item_alike (descs t) (core_code t) u ts i a

  unmixed : (ts : Terms) (s cd : ℕ) (D : List ℕ) → AllFormed deep ts → Uniform deep First s D cd ts → (t u : Term) → IsItem t ts
      → IsItem u ts → form t ≡ form u
  unmixed none s cd D f a t u i j = absurd i
  unmixed (more v ts) s cd D f a t u i j =
      let x = first_alike t v ts i a in
      let y = first_alike u v ts j a in
      let g = item_formed t (more v ts) i f in
      let h = item_formed u (more v ts) j f in
      alike_forms t u g.0 h.0 g.1 h.1 (sym x.0 ∙ y.0) (sym x.1 ∙ y.1)

  content_fits : (k : Container) (n : ℕ) (items : List ℕ) → HasSize (length items) n → 2 ^ 32 ≤ 4 + length (content_of k n items) → ⊥
  content_fits list n items h l = omega (arith, h.0)
  content_fits map n items h l = omega (arith, h.0)
  content_fits array zero items h l = omega arith
  content_fits array (suc n) items h l = omega (arith, h.0)

  array_flawless : (ts : Terms) (s cd : ℕ) (D : List ℕ) → AllFormed deep ts → Uniform deep First s D cd ts
      → HasSize (length (texts ts First)) (count ts) → (r : Refusal) → HasFlaw r (container array ts) → ⊥
  array_flawless ts s cd D f a z mixed_array (t, u, i, j, n) =
      one_form_shared t u (item_formed t ts i f).0 (unmixed ts s cd D f a t u i j) n
  array_flawless ts s cd D f a z zero_width_items (t, i, h) = formless t (item_formed t ts i f).0 (null_form t h)
  array_flawless ts s cd D f a z lazy_in_array (t, b, i, h) = formless t (item_formed t ts i f).0 (kept_form t b h)
  array_flawless ts s cd D f a z non_ascii h = h
  array_flawless ts s cd D f a z too_large h = content_fits array (count ts) (texts ts First) z h
  array_flawless ts s cd D f a z _ h = h

  container_flawless : (k : Container) (ts : Terms) (s cd : ℕ) (D : List ℕ) → (InArray (first_place k) → AllFormed deep ts)
      → Uniform deep (first_place k) s D cd ts → HasSize (length (texts ts (first_place k))) (count ts) → (r : Refusal)
      → HasFlaw r (container k ts) → ⊥
  container_flawless array ts s cd D f a z r h = array_flawless ts s cd D (f tt) a z r h
  container_flawless list ts s cd D f a z mixed_array h = h
  container_flawless list ts s cd D f a z zero_width_items h = h
  container_flawless list ts s cd D f a z lazy_in_array h = h
  container_flawless list ts s cd D f a z non_ascii h = h
  container_flawless list ts s cd D f a z too_large h = content_fits list (count ts) (texts ts Alone) z h
  container_flawless list ts s cd D f a z _ h = h
  container_flawless map ts s cd D f a z mixed_array h = h
  container_flawless map ts s cd D f a z zero_width_items h = h
  container_flawless map ts s cd D f a z lazy_in_array h = h
  container_flawless map ts s cd D f a z non_ascii h = h
  container_flawless map ts s cd D f a z too_large h = content_fits map (count ts) (texts ts Alone) z h
  container_flawless map ts s cd D f a z _ h = h

  even_map : (k : Container) (ts : Terms) → is_odd_map k (count ts) ≡ false → IsOddMap (container k ts) → ⊥
  even_map list ts e h = h
  even_map array ts e h = h
  even_map map ts e h = h (even_of (count ts % 2) e)

  container_clean : (k : Container) (ts : Terms) (s cd : ℕ) (D : List ℕ) → is_odd_map k (count ts) ≡ false
      → HasSize (length (texts ts (first_place k))) (count ts) → (InArray (first_place k) → AllFormed deep ts)
      → Uniform deep (first_place k) s D cd ts
      → ((e : Error) → SomewhereIn (HasReason e) ts → ⊥) → (e : Error) → Somewhere (HasReason e) (container k ts) → ⊥
  container_clean k ts s cd D o z f a h e (inl (inl (r, i, inl q))) = cc
  container_clean k ts s cd D o z f a h e (inl (inl (r, i, inr w))) = container_flawless k ts s cd D f a z r w
  container_clean k ts s cd D o z f a h e (inl (inr (inl c))) = let x : 2 ^ 32 ≤ count ts = c.1.0 in omega (arith, z.1)
  container_clean k ts s cd D o z f a h e (inl (inr (inr c))) = even_map k ts o c.1
  container_clean k ts s cd D o z f a h e (inr w) = h e w

  container_within : (k : Container) (d : ℕ) (ts : Terms) → d ≤ around k → AllWithin deep (d + 1) ts
      → d + nest_by deep (container k ts) ≤ 128
  container_within list d ts l h = let f : (d + 1) + nests_by deep ts ≤ 128 = alls_at (d + 1) ts (omega arith) h in omega arith
  container_within map d ts l h = let f : (d + 1) + nests_by deep ts ≤ 128 = alls_at (d + 1) ts (omega arith) h in omega arith
  container_within array d ts l h = array_at d ts l h

  pub accepted_container : (k : Container) (ts : Terms) (p : Place) (c n d s cd : ℕ) (D : List ℕ) → d ≤ around k
      → is_odd_map k (count ts) ≡ false → HasSize (length (texts ts (first_place k))) (count ts)
      → Same p s D cd [] (wide_code k) → AcceptedAll deep ts (first_place k) 0 0 (d + 1) (length D) 0 D
      → c + length (text (container k ts) p) ≤ MAX → n + 1 ≤ MAX → AcceptedAt deep (container k ts) p c n d s cd D
  accepted_container k ts p c n d s cd D low o z same_ a l m = record {
    sound = (z, a.all_sound);
    clean = container_clean k ts (length D) 0 D o z a.all_formed a.uniform a.all_clean;
    within = container_within k d ts low a.all_within;
    long = l;
    many = m;
    formed = (λ i. (([], wide_code k), refl));
    chain = tt;
    same = same_;
  }

  container_past : (k : Container) (d : ℕ) (ts : Terms) → AnyPast deep (first_place k) (d + 1) ts → 128 < d + nest_by deep (container k ts)
  container_past list d ts h = omega (arith, any_past Alone (d + 1) ts h)
  container_past map d ts h = omega (arith, any_past Alone (d + 1) ts h)
  container_past array d ts h = array_past First d ts tt h

  long_content : (k : Container) (ts : Terms) → 2 ^ 32 ≤ 4 + length (texts ts (first_place k))
      → 2 ^ 32 ≤ 4 + length (content_of k (count ts) (texts ts (first_place k)))
  unfolding texts
  long_content list ts h = h
  long_content map ts h = h
  long_content array none h = absurd (omega arith)
  long_content array (more t ts) h = h

  pub refused_size : (k : Container) (ts : Terms) (e : Error) → e ≡ TooLarge → (2 ^ 32 ≤ 4 + length (texts ts (first_place k)))
      ⊎ ((2 ^ 32 ≤ count ts) × IsItem (kept []) ts) → Somewhere (HasReason e) (container k ts)
  refused_size k ts e i (inl h) = inl (inl (too_large, i, inr (long_content k ts h)))
  refused_size k ts e i (inr h) = inl (inr (inl (i, h)))

  mixed_container : (ts : Terms) (s cd : ℕ) (D : List ℕ) → MixedAt deep First s D cd ts → HasFlaw mixed_array (container array ts)
  mixed_container none s cd D h = absurd h
  mixed_container (more t ts) s cd D (g, (u, i, n)) = (t, u, inl refl, inr i, other_differs t u g n)

  pub refused_container : (k : Container) (ts : Terms) (p : Place) (c n d s cd : ℕ) (D : List ℕ) (e : Error)
      → RefusedAll deep ts (first_place k) 0 0 (d + 1) (length D) 0 D e → RefusedAt deep (container k ts) p c n d s cd D e
  refused_container k ts p c n d s cd D e (some_inside r) = inside (inr r)
  refused_container k ts p c n d s cd D e (some_past i h) = past i (container_past k d ts h)
  refused_container k ts p c n d s cd D e (all_too_long i h) = inside (refused_size k ts e i (inl (omega arith)))
  refused_container k ts p c n d s cd D e (all_too_many i h (inl m)) = inside (refused_size k ts e i (inl (omega arith)))
  refused_container k ts p c n d s cd D e (all_too_many i h (inr m)) = inside (refused_size k ts e i (inr (omega arith, m)))
  refused_container list ts p c n d s cd D e (some_null i a t j h) = absurd a
  refused_container map ts p c n d s cd D e (some_null i a t j h) = absurd a
  refused_container array ts p c n d s cd D e (some_null i a t j h) = inside (inl (inl (zero_width_items, i, inr (t, j, h))))
  refused_container list ts p c n d s cd D e (some_kept i a t b j h) = absurd a
  refused_container map ts p c n d s cd D e (some_kept i a t b j h) = absurd a
  refused_container array ts p c n d s cd D e (some_kept i a t b j h) = inside (inl (inl (lazy_in_array, i, inr (t, b, j, h))))
  refused_container list ts p c n d s cd D e (some_other i h) = absurd h
  refused_container map ts p c n d s cd D e (some_other i h) = absurd h
  refused_container array ts p c n d s cd D e (some_other i h) =
      inside (inl (inl (mixed_array, i, inr (mixed_container ts (length D) 0 D h))))
