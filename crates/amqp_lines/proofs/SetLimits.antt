-- A line that sets limits is read at its spaces.
use Rattle.std.proofs.Common.{◌≡◌, ◌<◌, ◌^◌, ℕ, List, [], ◌∷◌, ◌++◌, codes, Option, Some, None, MatchOption, drop, sym, ap, ◌∙◌, subst, arith, append_assoc}
use Rattle.std.specs.Fmt.{decimal}
use Rattle.std.proofs.lemmas.Fmt.{decimal_by_steps, decimal_injective}
use Rattle.amqp_wire.specs.declared.limits.Limits.{Limits}
use Rattle.amqp_lines.specs.Lines.{HasNo}
use Rattle.amqp_lines.specs.Answers.{IsNumber, limits_line, SetsLimits}
use Rattle.amqp_lines.proofs.Pieces.{no_more}
use Rattle.amqp_lines.proofs.Requests.{split_once, has_it}

-- the line with its line feed
pub with_its_feed : (set : Limits) → limits_line set ++ (10 ∷ [])
    ≡ codes "limits " ++ (decimal set.nesting ++ (32 ∷ (decimal set.bytes ++ (32 ∷ (decimal set.items ++ (10 ∷ []))))))
with_its_feed set = simp append_assoc

-- no digit is a space
no_space : (n : ℕ) → n < 2 ^ 64 → HasNo 32 (decimal n)
no_space n small =
    decimal_by_steps (λ n digits. HasNo 32 digits) (λ n low. (λ e. omega (arith, e), tt))
    (λ n digits low h. no_more 32 digits _ h (λ e. omega (arith, e), tt)) n small

-- a number of the line, and what stands behind it
pub there_is_a_space : (bytes rest : List ℕ) (n : ℕ) → bytes ≡ decimal n ++ (32 ∷ rest) → HasNo 32 bytes → ⊥
there_is_a_space bytes rest n e h = has_it 32 (decimal n) rest (subst (HasNo 32) e h)

pub at_the_space : (bytes rest front back : List ℕ) (n : ℕ) → n < 2 ^ 64 → bytes ≡ decimal n ++ (32 ∷ rest)
    → HasNo 32 front × (bytes ≡ front ++ (32 ∷ back)) → (front ≡ decimal n) × (back ≡ rest)
at_the_space bytes rest front back n small e (h, f) = split_once 32 front (decimal n) back rest h (no_space n small) (sym f ∙ e)

-- digits are one number's
pub one_number : (digits : List ℕ) (m n : ℕ) → IsNumber digits m → digits ≡ decimal n → n < 10 ^ 19 → m ≡ n
one_number digits m n (e, small) f low = decimal_injective m n (omega (arith, small)) (omega (arith, low)) (sym e ∙ f)

-- the numbers of a line that sets limits
abbrev pub last_two : Limits → List ℕ
last_two limits = decimal limits.bytes ++ (32 ∷ decimal limits.items)

abbrev pub all_three : Limits → List ℕ
all_three limits = decimal limits.nesting ++ (32 ∷ last_two limits)

pub its_numbers : (line numbers : List ℕ) (limits : Limits) → numbers ≡ drop 7 line → SetsLimits line limits → numbers ≡ all_three limits
its_numbers line numbers limits e h = e ∙ ap (drop 7) h.0

-- what the first space parts, and what the second
pub record Parts (line numbers nesting others : List ℕ) : Type 0 where
  pub first : (limits : Limits) → SetsLimits line limits → nesting ≡ decimal limits.nesting
  pub rest : (limits : Limits) → SetsLimits line limits → others ≡ last_two limits

pub parts : (line numbers nesting others : List ℕ) → numbers ≡ drop 7 line
    → HasNo 32 nesting × (numbers ≡ nesting ++ (32 ∷ others)) → Parts line numbers nesting others
parts line numbers nesting others e h = record {
  first = λ limits s. (at_the_space numbers (last_two limits) nesting others limits.nesting (let most = limits.nests in omega (arith, most))
      (its_numbers line numbers limits e s) h).0;
  rest = λ limits s. (at_the_space numbers (last_two limits) nesting others limits.nesting (let most = limits.nests in omega (arith, most))
      (its_numbers line numbers limits e s) h).1;
}

pub record Numbers (line bytes items : List ℕ) : Type 0 where
  pub second : (limits : Limits) → SetsLimits line limits → IsNumber bytes limits.bytes
  pub third : (limits : Limits) → SetsLimits line limits → IsNumber items limits.items

pub numbers : (line all nesting others bytes items : List ℕ) → Parts line all nesting others
    → HasNo 32 bytes × (others ≡ bytes ++ (32 ∷ items)) → Numbers line bytes items
numbers line all nesting others bytes items p h = record {
  second = λ limits s. (
    (at_the_space others (decimal limits.items) bytes items limits.bytes (let low = s.1 in omega (arith, low)) (p.rest limits s) h).0,
    s.1,
  );
  third = λ limits s. (
    (at_the_space others (decimal limits.items) bytes items limits.bytes (let low = s.1 in omega (arith, low)) (p.rest limits s) h).1,
    s.2,
  );
}

-- a line that is made of such numbers
pub joined : (line all nesting others bytes items : List ℕ) (n b i : ℕ) → line ≡ codes "limits " ++ all
    → HasNo 32 nesting × (all ≡ nesting ++ (32 ∷ others)) → HasNo 32 bytes × (others ≡ bytes ++ (32 ∷ items))
    → IsNumber nesting n → IsNumber bytes b → IsNumber items i
    → line ≡ codes "limits " ++ (decimal n ++ (32 ∷ (decimal b ++ (32 ∷ decimal i))))
joined line all nesting others bytes items n b i e (h, f) (k, g) (en, ln) (eb, lb) (ei, li) =
    e
    ∙ ap (λ x. codes "limits " ++ x) (f
    ∙ (ap (λ x. x ++ (32 ∷ others)) en
    ∙ ap (λ x. decimal n ++ (32 ∷ x)) (g ∙ (ap (λ x. x ++ (32 ∷ items)) eb ∙ ap (λ x. decimal b ++ (32 ∷ x)) ei))))

pub limits_made : (line : List ℕ) (made : Option Limits) (n b i : ℕ)
    → MatchOption made (128 < n) (λ l. (l.nesting ≡ n) × (l.bytes ≡ b) × (l.items ≡ i) × (l.hash_seed ≡ 0))
    → ((limits : Limits) → SetsLimits line limits → n ≡ limits.nesting)
    → line ≡ codes "limits " ++ (decimal n ++ (32 ∷ (decimal b ++ (32 ∷ decimal i)))) → b < 10 ^ 19 → i < 10 ^ 19
    → MatchOption made ((limits : Limits) → SetsLimits line limits → ⊥) (λ l. SetsLimits line l)
limits_made line None n b i h same e lb li = λ limits s. let most = limits.nests in omega (arith, h, same limits s, most)
limits_made line (Some l) n b i (x, y, z, none) same e lb li = (rw (x, y, z) e, rw y lb, rw z li, none)
