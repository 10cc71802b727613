-- A user's own type, which is a sum by kind: a number or a name.
use Rattle.std.proofs.Common.{◌≡◌, ◌⊎◌, inl, inr, ℕ, Bool, ◌||◌, eqb, Option, Some, None, List, refl, sym, ap, ◌∙◌, arith}
use Rattle.amqp_model.specs.Term.{Descriptor}
use Rattle.amqp_model.specs.Text.{form}
use Rattle.amqp_model.specs.FieldType.{unchanged}
use Rattle.amqp_wire.specs.declared.symbol.Symbol.{Symbol}
use Rattle.amqp_codec.specs.TermType.{TermType}
use Rattle.amqp_codec.specs.PrimitiveTypes.{ulong_type}
use Rattle.amqp_codec.specs.Wrappers.{via, symbol_type}
use Rattle.amqp_codec.specs.EitherType.{either_of, either_faults}
use Rattle.amqp_codec.specs.EitherMeaning.{FormsApart}
use Rattle.amqp_user_types.specs.declared.identifier.Identifier.{Identifier}
use Rattle.amqp_user_types.specs.declared.identifier.Identifier.TheVariants as identifier

-- a number begins by a code of a ulong (Part 1, section 1.6.6)
abbrev pub is_number : ℕ → Bool
is_number c = eqb c 0x44 || eqb c 0x53 || eqb c 0x80

-- the member that an identifier is
abbrev pub member : Identifier → ℕ ⊎ Symbol
member (identifier.Number n) = inl n
member (identifier.Name s) = inr s

form_code : Option (List Descriptor × ℕ) → ℕ
form_code None = 0
form_code (Some f) = f.1

-- a ulong has another constructor in an array than a symbol
pub kinds_apart : FormsApart ulong_type symbol_type
unfolding form_code
kinds_apart s z t r n v h k e = let f : 0x80 ≡ 0xb3 = ap form_code (ap form (sym h.0) ∙ e ∙ ap form k.0) in absurd (omega (arith, f))

abbrev pub identifier_type : TermType Identifier
identifier_type =
    via (either_of ulong_type symbol_type kinds_apart (either_faults is_number ulong_type.faults symbol_type.faults))
    member unchanged (λ v. refl)
