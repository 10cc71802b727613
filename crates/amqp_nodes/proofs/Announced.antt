-- As much data as a code announces, and data that isn't all there.
use Rattle.std.proofs.Common.{◌≡◌, ℕ, ◌+◌, ◌<◌, ◌≤◌, inl, inr, Bool, true, false, ◌||◌, eqb, leb, List, [], ◌++◌, take, drop, length, refl, sym, ap}
use Rattle.std.proofs.Common.{◌∙◌, subst, arith}
use Rattle.std.proofs.Math.Seq.{take-add}
use Rattle.std.proofs.lemmas.Bool.{eqb-true, leb-true}
use Rattle.std.proofs.lemmas.List.{take-append-drop, length-drop, length-take-le}
use Rattle.amqp_wire.specs.Codes.{refusal_of}
use Rattle.amqp_wire.specs.declared.error.Error.TheVariants.{Cut}
use Rattle.amqp_model.specs.Constructors.{Format, fixed, variable, compound, unknown, format}
use Rattle.amqp_model.specs.Spelling.{IsKnown}
use Rattle.amqp_lengths.specs.Announced.{SizeThen, content_size, IsAnnounced, WantsSized, Wants}
use Rattle.amqp_lengths.specs.Fronts.{IsFront}
use Rattle.amqp_lengths.specs.Pieces.{IsNumber, fixed_width}
use Rattle.amqp_lengths.proofs.Announced.{announced_data, announced_wants}
use Rattle.amqp_lengths.proofs.Codes.{Divided, container_at, fixed_at}
use Rattle.amqp_nodes.specs.Items.{size_of, behind_size, RefusesItem}

-- the bytes are enough, or too few
abbrev pub Either : Format → ℕ → List ℕ → Type 0
Either F n b = (n ≤ length b → IsFront (IsAnnounced F) b n) × (length b < n → Wants F b)

-- behind a size
sized_front : (w size k : ℕ) (announced : ℕ → ℕ) (b : List ℕ) → IsFront (IsNumber w size) b w → k ≡ announced size → w + k ≤ length b
    → SizeThen w (λ size behind. length behind ≡ announced size) (take (w + k) b)
sized_front w size k announced b h is l = (
  size,
  take k (drop w b),
  h.spelled.0,
  take-add w k b ∙ ap (λ x. x ++ take k (drop w b)) h.spelled.1,
  length-take-le k (drop w b) (omega (arith, l, length-drop w b)) ∙ is,
)

sized_wants : (w size k : ℕ) (announced : ℕ → ℕ) (b : List ℕ) → IsFront (IsNumber w size) b w → k ≡ announced size → length b < w + k
    → WantsSized w announced b
sized_wants w size k announced b h is l =
    let few : length (drop w b) < announced size = omega (arith, l, is, length-drop w b, h.within) in
    inr (size, drop w b, h.spelled.0, sym (take-append-drop w b) ∙ ap (λ x. x ++ drop w b) h.spelled.1, few)

pub sized : (F : Format) (w size : ℕ) (b : List ℕ) → size_of F ≡ w → 1 ≤ w → IsFront (IsNumber w size) b w
    → Either F (w + behind_size F size) b
sized (fixed v f) w size b is some h = absurd (omega arith)
sized (variable v f) w size b is some h = (
  λ l. record {
    within = l;
    spelled = subst (λ z. SizeThen z (λ size behind. length behind ≡ size) (take (w + size) b)) (sym is)
        (sized_front w size size (λ n. n) b h refl l);
  },
  λ l. subst (λ z. WantsSized z (λ n. n) b) (sym is) (sized_wants w size size (λ n. n) b h refl l),
)
sized (compound kind v) w size b is some h =
    let all = content_size kind v size in (
      λ l. record {
        within = l;
        spelled = subst (λ z. SizeThen z (λ size behind. length behind ≡ content_size kind v size) (take (w + all) b))
            (sym is) (sized_front w size all (content_size kind v) b h refl l);
      },
      λ l. subst (λ z. WantsSized z (content_size kind v) b) (sym is) (sized_wants w size all (content_size kind v) b h refl l),
    )
sized unknown w size b is some h = absurd (omega arith)

-- there is no whole size
pub unsized : (F : Format) (w : ℕ) (b : List ℕ) → size_of F ≡ w → 1 ≤ w → length b < w → Wants F b
unsized (fixed v f) w b is some l = absurd (omega arith)
unsized (variable v f) w b is some l = inl (omega arith)
unsized (compound kind v) w b is some l = inl (omega arith)
unsized unknown w b is some l = absurd (omega arith)

-- the code of the empty list is the only one of a container below 0xa0
empty_list : (c : ℕ) → c < 0xa0 → (eqb c 0x45 || leb 0xc0 c) ≡ true → c ≡ 0x45
empty_list c small e = by_test (eqb c 0x45) refl e
  where
    by_test : (t : Bool) → eqb c 0x45 ≡ t → (t || leb 0xc0 c) ≡ true → c ≡ 0x45
    by_test true is e = eqb-true c 0x45 is
    by_test false is e = let much : 0xc0 ≤ c = leb-true 0xc0 c e in absurd (omega arith)

pub unmoving : (c : ℕ) (b : List ℕ) → IsKnown (format c) → c < 0xa0 → Either (format c) (fixed_width c) b
unmoving c b known small = by_kind (container_at c known)
  where
    by_kind : Divided c (format c) → Either (format c) (fixed_width c) b
    by_kind (inl (p, e)) =
        let (value, is) = fixed_at c small p in
        subst (λ F. Either F (fixed_width c) b) (sym is)
        (λ l. record { within = l; spelled = length-take-le (fixed_width c) b l }, λ l. l)
    by_kind (inr (kind, w, is, e)) =
        subst (λ k. Either (format k) (fixed_width k) b) (sym (empty_list c small e))
        (λ l. record { within = l; spelled = (0, take 0 b, omega arith, refl, refl) }, λ l. absurd (omega arith))

unannounced : (F : Format) (b : List ℕ) → (IsKnown F → ⊥) → IsAnnounced F b → ⊥
unannounced (fixed w v) b never h = never tt
unannounced (variable w v) b never h = never tt
unannounced (compound k w) b never h = never tt
unannounced unknown b never h = h

pub refused_unknown : (c : ℕ) (bytes : List ℕ) → (IsKnown (format c) → ⊥) → RefusesItem c bytes (refusal_of c)
refused_unknown c bytes never = record {
  none = λ t front after is h. unannounced (format c) front never (announced_data t [] c front h);
  fault = inl (never, refl);
}

pub refused_short : (c : ℕ) (bytes : List ℕ) → Wants (format c) bytes → RefusesItem c bytes Cut
refused_short c bytes few = record {
  none = λ t front after is h. announced_wants (format c) front after bytes (announced_data t [] c front h) is few;
  fault = inr (few, refl);
}
