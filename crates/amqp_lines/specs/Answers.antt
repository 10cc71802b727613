-- What a line asks for or sets, and what it is answered.
use Rattle.std.specs.Prelude.{◌≡◌, ◌⊎◌, ◌≤◌, ◌<◌, ℕ, ◌+◌, ◌^◌, Bool, true, false, ◌&&◌, List, [], ◌∷◌, ◌++◌, length, codes, Ok, Option, IfSome}
use Rattle.std.specs.Fmt.{decimal}
use Rattle.hex.specs.Hex.{decode_of, encode_lower}
use Rattle.amqp_wire.specs.declared.error.Error.{Error}
use Rattle.amqp_wire.specs.declared.error.Error.TheVariants.{Memory, Read}
use Rattle.amqp_wire.specs.declared.limits.Limits.{Limits}
use Rattle.amqp_wire.specs.Error.{number_of, name_of}
use Rattle.amqp_catalogue.specs.NamedTypes.{type_name, IsText, HasNoText}
use Rattle.amqp_catalogue.specs.declared.type_name.TypeName.{TypeName}
use Rattle.amqp_lines.specs.Lines.{TakesLine}
use Rattle.amqp_lines.specs.declared.answer.Answer.{Answer}
use Rattle.amqp_lines.specs.declared.answer.Answer.TheVariants.{Rewritten, Refused, Limited, NoRequest}

-- Memory ran out, or the reader or the writer failed.
abbrev pub IsOutside : Error → Type 0
IsOutside Memory = Unit {0}
IsOutside (Read kind) = Unit {0}
IsOutside _ = ⊥

-- It has 2^64 - 1 bytes or more, if it tells.
abbrev pub IsOverfull : Option (List ℕ) → Type 0
IsOverfull input = IfSome input (λ bytes. 18446744073709551615 ≤ length bytes)

-- The digits stand for the bytes: an even, positive number of them, or `-` for none.
abbrev pub StandsFor : List ℕ → List ℕ → Type 0
StandsFor digits input = ((digits ≡ codes "-") × (input ≡ [])) ⊎ ((digits ≡ [] → ⊥) × (decode_of digits ≡ Ok input))

-- The line asks for the canonical text of the type's value that the bytes begin with.
abbrev pub Asks : List ℕ → TypeName → List ℕ → Type 0
Asks line named input = (digits : List ℕ) × (line ≡ type_name named ++ (32 ∷ digits)) × StandsFor digits input

-- The digits are the number's, without a leading zero, and at most 19.
abbrev pub IsNumber : List ℕ → ℕ → Type 0
IsNumber digits n = (digits ≡ decimal n) × (n < 10 ^ 19)

-- The line that sets the limits: how deep values nest, how many bytes they have, and how many they are.
abbrev pub limits_line : Limits → List ℕ
limits_line limits = codes "limits " ++ (decimal limits.nesting ++ (32 ∷ (decimal limits.bytes ++ (32 ∷ decimal limits.items))))

-- The line sets these limits. Its numbers have at most 19 digits.
abbrev pub SetsLimits : List ℕ → Limits → Type 0
SetsLimits line limits = (line ≡ limits_line limits) × (limits.bytes < 10 ^ 19) × (limits.items < 10 ^ 19) × (limits.hash_seed ≡ 0)

-- The hexadecimal digits of bytes, and `-` for none.
abbrev pub digits_of : List ℕ → List ℕ
digits_of [] = codes "-"
digits_of (b ∷ bs) = encode_lower (b ∷ bs)

-- The answers, as they are printed.
abbrev pub ok_line : List ℕ → ℕ → List ℕ
ok_line text left = codes "ok " ++ (digits_of text ++ (32 ∷ (decimal left ++ (10 ∷ []))))

abbrev pub no_line : Error → List ℕ
no_line e = codes "no " ++ (decimal (number_of e) ++ (32 ∷ (name_of e ++ (10 ∷ []))))

abbrev pub other_line : List ℕ
other_line = codes "no 0 Line\n"

-- Within the limits the line is answered so, this says whether that counts as `ok`, and these limits hold behind it. The answer is the
-- canonical text and the number of the bytes behind the value, or why there is none, which may be want of memory; or the line itself,
-- if it sets limits.
pub data IsAnswer (limits : Limits) (line : List ℕ) : List ℕ → Bool → Limits → Type 0 where
  rewritten : (named : TypeName) (input : List ℕ) (text : List ℕ) (n left : ℕ) → Asks line named input
      → IsText limits named input text n → left + n ≡ length input → IsAnswer limits line (ok_line text left) true limits
  refused : (named : TypeName) (input : List ℕ) (e : Error) → Asks line named input → (e ≡ Memory) ⊎ HasNoText limits named input e
      → IsAnswer limits line (no_line e) false limits
  limited : (after : Limits) → SetsLimits line after → IsAnswer limits line (line ++ (10 ∷ [])) true after
  other : ((named : TypeName) (input : List ℕ) → Asks line named input → ⊥) → ((set : Limits) → SetsLimits line set → ⊥)
      → IsAnswer limits line other_line false limits

-- Line by line the input is answered by the output, at first within these limits, and this says whether all answers count as `ok`.
pub data AreAnswers : Limits → List ℕ → List ℕ → Bool → Type 0 where
  done : {limits : Limits} → AreAnswers limits [] [] true
  next : {limits after : Limits} {input line rest text output : List ℕ} {good all : Bool} → TakesLine input line rest
      → IsAnswer limits line text good after → AreAnswers after rest output all → AreAnswers limits input (text ++ output) (good && all)

-- What one answer is made of.
abbrev pub printed_of : Answer → List ℕ
printed_of (Rewritten text left) = ok_line text.items left
printed_of (Refused e) = no_line e
printed_of (Limited set) = limits_line set ++ (10 ∷ [])
printed_of NoRequest = other_line

abbrev pub is_good : Answer → Bool
is_good (Rewritten text left) = true
is_good (Refused e) = false
is_good (Limited set) = true
is_good NoRequest = false

-- The limits behind the line.
abbrev pub limits_after : Limits → Answer → Limits
limits_after before (Limited set) = set
limits_after before _ = before

-- It answers the line.
abbrev pub AnswersLine : Limits → List ℕ → Answer → Type 0
AnswersLine limits line (Rewritten text left) = (named : TypeName) × (input : List ℕ) × (n : ℕ) × Asks line named input
    × IsText limits named input text.items n × (left + n ≡ length input)
AnswersLine limits line (Refused e) =
    (named : TypeName) × (input : List ℕ) × Asks line named input × ((e ≡ Memory) ⊎ HasNoText limits named input e)
AnswersLine limits line (Limited set) = SetsLimits line set
AnswersLine limits line NoRequest =
    ((named : TypeName) (input : List ℕ) → Asks line named input → ⊥) × ((set : Limits) → SetsLimits line set → ⊥)
