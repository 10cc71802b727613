-- How deep bytes that are kept nest, and why terms can't be written.
use Rattle.std.proofs.Common.{◌≡◌, inl, inr, ℕ, ◌≤◌, max, Bool, true, false, cond, List, [], refl, ap, subst, arith}
use Rattle.std.specs.Str.{bytes_eq}
use Rattle.std.proofs.lemmas.Slice.Eq.{bytes_eq-Decides}
use Rattle.amqp_model.specs.Term.{lazy_in_array, Term, Terms, leaf, container, described, kept, barred, none, more}
use Rattle.amqp_model.specs.Spelling.{IsSpelling}
use Rattle.amqp_model.specs.Measures.{nest, nests}
use Rattle.amqp_model.specs.Ranges.{Everywhere, EverywhereIn}
use Rattle.amqp_model.specs.Refusals.{SomewhereIn, HasKeptItem, IsRefused}
use Rattle.amqp_model.specs.Kept.{EachExpandsTo}
use Rattle.amqp_model.specs.Items.{terms_of}
use Rattle.amqp_model.proofs.Unique.{one_term}
use Rattle.amqp_wire.specs.declared.error.Error.{Error}
use Rattle.amqp_encoder.specs.declared.size.Size.{Size}
use Rattle.amqp_encoder.specs.Reasons.{nests_by}
use Rattle.amqp_encoder.specs.Passes.{AreRefused, IsMeasured}
use Rattle.amqp_encoder.specs.Refused.{KnowsDepth, KnowDepths}
use Rattle.amqp_encoder.proofs.Rows.{somewhere_in_as}
use Rattle.amqp_encoder.proofs.Refused.{none_deeper, all_as_deep}
use Rattle.amqp_codec.specs.Written.{IsProper, AreProper, AreUnwritable, AreWritable}
use Rattle.amqp_codec.specs.laws.Proper.{everywhere_as, everywhere_in_as, proper_reads_each}

-- no depth is too great
abbrev IsSafe : (List ℕ → ℕ) → Type 0
IsSafe deep = (b : List ℕ) (t : Term) → IsSpelling b t → deep b ≤ nest t

raised : (f g : List ℕ → ℕ) → ((b : List ℕ) → f b ≤ g b) → IsSafe g → (t : Term) → KnowsDepth f t → KnowsDepth g t
raised f g l s (leaf p) h = tt
raised f g l s (container k ts) h = tt
raised f g l s (described d t) h = tt
raised f g l s (kept b) h = λ t e. omega (arith, h t e, l b, s b t e)
raised f g l s (barred r) h = tt

same_term : (b : List ℕ) (t u : Term) → IsSpelling b t → IsSpelling b u → t ≡ u
same_term b t u h k = one_term b b [] [] t u h k refl

abbrev depth_at : List ℕ → ℕ → List ℕ → ℕ
depth_at b n c = cond (bytes_eq b c) n 0

at_least : (b c : List ℕ) (t u : Term) (test : Bool) → bytes_eq b c ≡ test → IsSpelling b t → IsSpelling c u → cond test (nest t) 0 ≤ nest u
at_least b c t u true e h k = let i : b ≡ c = (bytes_eq-Decides b c).0 e in let j : t ≡ u = same_term c t u (subst (λ x. IsSpelling x t) i h) k in
    omega (arith, ap nest j)
at_least b c t u false e h k = omega arith

at_itself : (b : List ℕ) (t u : Term) → IsSpelling b t → IsSpelling b u → depth_at b (nest t) b ≡ nest u
at_itself b t u h k = rw ((bytes_eq-Decides b b).1 refl) (ap nest (same_term b t u h k))

-- bytes that are kept nest as deep as the term that they spell, where there is one
mutual
  depth : (t : Term) → Everywhere IsProper t → (deep : List ℕ → ℕ) × IsSafe deep × Everywhere (KnowsDepth deep) t
  depth (leaf p) h = (λ b. 0, (λ b t e. omega arith), tt)
  depth (container k ts) h = let d = depths_in ts h.1 in (d.0, d.1, (tt, d.2))
  depth (described d t) h = let x = depth t h.1 in (x.0, x.1, (tt, x.2))
  depth (kept b) h = (depth_at b (nest h.0), (λ c u e. at_least b c h.0 u (bytes_eq b c) refl h.1 e), λ u e. at_itself b h.0 u h.1 e)
  depth (barred r) h = (λ b. 0, (λ b t e. omega arith), tt)

  depths_in : (ts : Terms) → EverywhereIn IsProper ts → (deep : List ℕ → ℕ) × IsSafe deep × EverywhereIn (KnowsDepth deep) ts
  depths_in none h = (λ b. 0, (λ b t e. omega arith), tt)
  depths_in (more t ts) h =
      let f = depth t h.0 in
      let g = depths_in ts h.1 in
      let both : List ℕ → ℕ = λ b. max (f.0 b) (g.0 b) in
      let safe : IsSafe both = λ b u e. omega (arith, f.1 b u e, g.1 b u e) in (
        both,
        safe,
        (
          everywhere_as (KnowsDepth f.0) (KnowsDepth both) (raised f.0 both (λ b. omega arith) safe) t f.2,
          everywhere_in_as (KnowsDepth g.0) (KnowsDepth both) (raised g.0 both (λ b. omega arith) safe) ts g.2,
        ),
      )

pub depths : (ts : List Term) → AreProper ts → (deep : List ℕ → ℕ) × KnowDepths deep ts
depths ts h = let d = depths_in (terms_of ts) h in (d.0, d.2)

is_lazy : (t : Term) → HasKeptItem t → IsRefused lazy_in_array t
is_lazy t h = inr h

module _ (deep : List ℕ → ℕ) where
  -- terms are as deep as what they read as, where no array has an item that is kept
  read_nests : (us ts : Terms) → EachExpandsTo us ts → EverywhereIn (KnowsDepth deep) us → (SomewhereIn (IsRefused lazy_in_array) us → ⊥)
      → nests ts ≤ nests_by deep us
  read_nests us ts r h f =
      elim (all_as_deep deep us ts h r) [
        | inl l ↦ l
        | inr k ↦ absurd (f (somewhere_in_as HasKeptItem (IsRefused lazy_in_array) is_lazy us k))
      ]

  -- an encoder's reasons are those of the terms
  pub unwritable : (ts : List Term) (e : Error) → AreProper ts → KnowDepths deep ts → AreRefused deep ts e → AreUnwritable ts e
  unwritable ts e i h (inl s) = inl s
  unwritable ts e i h (inr (inl (d, l))) = let r = proper_reads_each (terms_of ts) i in
      inr (inl (d, (r.0, r.1, omega (arith, l, none_deeper deep (terms_of ts) r.0 h r.1))))
  unwritable ts e i h (inr (inr x)) = inr (inr x)

  -- and there are none where they were measured
  pub writable : (ts : List Term) (len : ℕ) (sizes : List Size) → KnowDepths deep ts → IsMeasured deep ts len sizes → AreWritable ts
  writable ts len sizes h m e (inl s) = m.unrefused e (inl s)
  writable ts len sizes h m e (inr (inl (d, (us, r, l)))) =
      omega (arith, l, m.nested, read_nests (terms_of ts) us r h (m.free lazy_in_array))
  writable ts len sizes h m e (inr (inr x)) = m.unrefused e (inr (inr x))
