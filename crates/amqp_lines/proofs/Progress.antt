-- How the answers grow, line by line.
use Rattle.std.proofs.Common.{◌≡◌, ◌∷◌, ℕ, ◌+◌, ◌-◌, ◌≤◌, inl, inr, Bool, true, ◌&&◌, List, [], ◌++◌, length, take, drop, Option, Some}
use Rattle.std.proofs.Common.{None, refl, sym, ap, subst, arith, append_assoc, append-nil, MatchOption, IfSome}
use Rattle.std.proofs.lemmas.List.{take_all, length-drop, length-append}
use Rattle.std.proofs.Math.Seq.{take-add}
use Rattle.std.proofs.Math.Bool.{and_assoc, and-true}
use Rattle.std.specs.Io.KnownBytes.{Appends, Keeps}
use Rattle.std.proofs.KnownBytes.{Appends-kept, Appends-nil, Appends-trans}
use Rattle.amqp_lines.specs.Lines.{TakesLine}
use Rattle.std.proofs.Math.Bridge.{le_prop}
use Rattle.amqp_wire.specs.declared.limits.Limits.{Limits}
use Rattle.amqp_wire.specs.Limits.{unlimited}
use Rattle.amqp_codec.specs.Reading.{greatest, IsGreatest}
use Rattle.amqp_lines.specs.Answers.{IsAnswer, AreAnswers, done, next, rewritten, refused, limited, other, printed_of, is_good}
use Rattle.amqp_lines.specs.Answers.{limits_after, AnswersLine}
use Rattle.amqp_lines.specs.declared.answer.Answer.{Answer}
use Rattle.amqp_lines.specs.declared.answer.Answer.TheVariants.{Rewritten, Refused, Limited, NoRequest}

-- a further piece of the bytes
pub piece_more : (a b c : Option (List ℕ)) (bytes : List ℕ) (m n : ℕ) → Appends a b (take m bytes)
    → Appends b c (take n (take (length bytes - m) (drop m bytes))) → Appends a c (take (m + n) bytes)
piece_more a b c bytes m n h k =
    subst (Appends a c) (sym (take-add m n bytes))
    (Appends-trans a b c (take m bytes) (take n (drop m bytes)) h
    (subst (λ l. Appends b c (take n l)) (take_all (length bytes - m) (drop m bytes) (omega (arith, length-drop m bytes))) k))

pub is_answer : (limits : Limits) (line : List ℕ) (answer : Answer) → AnswersLine limits line answer
    → IsAnswer limits line (printed_of answer) (is_good answer) (limits_after limits answer)
is_answer limits line (Rewritten text left) (named, input, n, asks, t, l) = rewritten named input text.items n left asks t l
is_answer limits line (Refused e) (named, input, asks, why) = refused named input e asks why
is_answer limits line (Limited set) h =
    subst (λ l. IsAnswer limits line (l ++ (10 ∷ [])) true set) h.0 (limited set h)
is_answer limits line NoRequest (asks, sets) = other asks sets

-- the three greatest numbers without a seed are the greatest limits
of_numbers : (nesting bytes items seed : ℕ) (most : nesting ≤ 128) → nesting ≡ 128 → bytes ≡ unlimited → items ≡ unlimited → seed ≡ 0
    → record { nesting = nesting; bytes = bytes; items = items; hash_seed = seed; nests = most } ≡ greatest
of_numbers nesting bytes items seed most e f g none =
    subst (λ n. (most : n ≤ 128) → record { nesting = n; bytes = bytes; items = items; hash_seed = seed; nests = most } ≡ greatest) (sym e)
    (λ most. rw (f, g, none)
    (ap (λ m. record { nesting = 128; bytes = unlimited; items = unlimited; hash_seed = 0; nests = m }) (le_prop most greatest.nests))) most

pub greatest_is : (limits : Limits) → IsGreatest limits → limits.hash_seed ≡ 0 → limits ≡ greatest
greatest_is limits (e, f, g) none = of_numbers limits.nesting limits.bytes limits.items limits.hash_seed limits.nests e f g none

-- So many lines at least were taken.
abbrev pub IsShorter : Option (List ℕ) → Option (List ℕ) → ℕ → Type 0
IsShorter input now n = IfSome input (λ xs. MatchOption now ⊥ (λ rest. n + length rest ≤ length xs))

-- With the answers to the rest, within these limits, the output answers all, at first within the greatest.
abbrev pub AnswersOn : Limits → Option (List ℕ) → Option (List ℕ) → List ℕ → Bool → Type 0
AnswersOn limits input now output all = IfSome input (λ xs. MatchOption now ⊥ (λ rest. (o : List ℕ) (a : Bool) → AreAnswers limits rest o a
    → AreAnswers greatest xs (output ++ o) (all && a)))

-- The output answers the lines up to here, which are so many and leave these limits.
pub record Progress (limits : Limits) (input now before after : Option (List ℕ)) (n : ℕ) (all : Bool) : Type 0 where
  pub counted : IsShorter input now n
  pub output : List ℕ
  pub appended : Appends before after output
  pub answered : AnswersOn limits input now output all

begun_at : (limits : Limits) (input now : Option (List ℕ)) → limits ≡ greatest → Keeps input now → AnswersOn limits input now [] true
begun_at limits None now g k = tt
begun_at limits (Some xs) None g k = k
begun_at limits (Some xs) (Some rest) g k =
    λ o a h. subst (λ z. AreAnswers greatest z o a) k (subst (λ l. AreAnswers l rest o a) g h)

unshortened : (input now : Option (List ℕ)) → Keeps input now → IsShorter input now 0
unshortened None now k = tt
unshortened (Some xs) None k = k
unshortened (Some xs) (Some rest) k = omega (arith, ap length k)

line_shortens : (xs line rest : List ℕ) → TakesLine xs line rest → 1 + length rest ≤ length xs
line_shortens xs line rest (h, inl e) = omega (arith, ap length e, length-append line (10 ∷ rest))
line_shortens xs [] rest (h, inr (e, f, n)) = absurd (n refl)
line_shortens xs (c ∷ line) rest (h, inr (e, f, n)) = omega (arith, ap length e, ap length f)

shorter : (input now new : Option (List ℕ)) (line : List ℕ) (n : ℕ) → IfSome now (λ xs. MatchOption new ⊥ (λ rest. TakesLine xs line rest))
    → IsShorter input now n → IsShorter input new (n + 1)
shorter None now new line n t h = tt
shorter (Some xs) None new line n t h = absurd h
shorter (Some xs) (Some r) None line n t h = t
shorter (Some xs) (Some r) (Some rest) line n t h = omega (arith, h, line_shortens r line rest t)

pub begun : (limits : Limits) (input now before : Option (List ℕ)) → IsGreatest limits → limits.hash_seed ≡ 0 → Keeps input now
    → Progress limits input now before before 0 true
begun limits input now before g none k = record {
  counted = unshortened input now k;
  output = [];
  appended = Appends-nil before;
  answered = begun_at limits input now (greatest_is limits g none) k;
}

further : (limits after : Limits) (input now new : Option (List ℕ)) (line output text : List ℕ) (all good : Bool)
    → IsAnswer limits line text good after → IfSome now (λ xs. MatchOption new ⊥ (λ rest. TakesLine xs line rest))
    → AnswersOn limits input now output all → AnswersOn after input new (output ++ text) (all && good)
further limits after None now new line output text all good i t h = tt
further limits after (Some xs) None new line output text all good i t h = absurd h
further limits after (Some xs) (Some r) None line output text all good i t h = t
further limits after (Some xs) (Some r) (Some rest) line output text all good i t h =
    λ o a k. rw (append_assoc output text o, and_assoc all good a) (h (text ++ o) (good && a) (next t i k))

one_line : {V : Type 0} (items : V → List ℕ) (now new : Option (List ℕ)) (o : Option V) (line : V) → o ≡ Some line
    → IfSome now (λ xs. MatchOption new ⊥ (λ rest. MatchOption o (xs ≡ []) (λ l. TakesLine xs (items l) rest)))
    → IfSome now (λ xs. MatchOption new ⊥ (λ rest. TakesLine xs (items line) rest))
one_line items now new o line e t =
    subst (λ z. IfSome now (λ xs. MatchOption new ⊥ (λ rest. MatchOption z (xs ≡ []) (λ l. TakesLine xs (items l) rest)))) e t

-- one more line is answered
pub one_more : {V : Type 0} (items : V → List ℕ) (limits set : Limits) (input now new before middle after : Option (List ℕ)) (o : Option V)
    (line : V) (n : ℕ) (all good : Bool) → o ≡ Some line → Progress limits input now before middle n all
    → IfSome now (λ xs. MatchOption new ⊥ (λ rest. MatchOption o (xs ≡ []) (λ l. TakesLine xs (items l) rest)))
    → (text : List ℕ) × IsAnswer limits (items line) text good set × Appends middle after text
    → Progress set input new before after (n + 1) (all && good)
one_more items limits set input now new before middle after o line n all good e p t (text, i, k) = record {
  counted = shorter input now new (items line) n (one_line items now new o line e t) p.counted;
  output = p.output ++ text;
  appended = Appends-trans before middle after p.output text p.appended k;
  answered = further limits set input now new (items line) p.output text all good i (one_line items now new o line e t) p.answered;
}

all_done : (limits : Limits) (input now new : Option (List ℕ)) (output : List ℕ) (all : Bool)
    → IfSome now (λ xs. MatchOption new ⊥ (λ rest. xs ≡ [])) → AnswersOn limits input now output all
    → IfSome input (λ xs. AreAnswers greatest xs output all)
all_done limits None now new output all e h = tt
all_done limits (Some xs) None new output all e h = absurd h
all_done limits (Some xs) (Some r) None output all e h = absurd e
all_done limits (Some xs) (Some r) (Some rest) output all e h =
    rw (sym (append-nil output), sym (and-true all)) (h [] true (subst (λ z. AreAnswers limits z [] true) (sym e) done))

told : (input : Option (List ℕ)) (before after : Option (List ℕ)) (output : List ℕ) (all : Bool)
    → IfSome input (λ xs. AreAnswers greatest xs output all) → Appends before after output
    → IfSome input (λ xs. (o : List ℕ) × AreAnswers greatest xs o all × Appends before after o)
told None before after output all h k = tt
told (Some xs) before after output all h k = (output, h, k)

-- no line is left
pub ended : {V : Type 0} (items : V → List ℕ) (limits : Limits) (input now new before middle after : Option (List ℕ)) (o : Option V) (n : ℕ)
    (all : Bool) → o ≡ None → Progress limits input now before middle n all
    → IfSome now (λ xs. MatchOption new ⊥ (λ rest. MatchOption o (xs ≡ []) (λ l. TakesLine xs (items l) rest)))
    → Keeps middle after → IfSome input (λ xs. (out : List ℕ) × AreAnswers greatest xs out all × Appends before after out)
ended items limits input now new before middle after o n all e p t k =
    told input before after p.output all
    (all_done limits input now new p.output all
    (subst (λ z. IfSome now (λ xs. MatchOption new ⊥ (λ rest. MatchOption z (xs ≡ []) (λ l. TakesLine xs (items l) rest)))) e t)
    p.answered) (Appends-kept before middle after p.output p.appended k)
