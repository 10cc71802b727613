-- An identifier is read: its first code is looked at, and then the member that it tells is read.
use Rattle.std.proofs.Common.{◌≡◌, ◌⊎◌, inl, inr, ℕ, Bool, true, false, List, [], ◌∷◌, Some, string_bytes, refl, ap, ◌∙◌}
use Rattle.std.proofs.lemmas.Bool.{ne_eqb}
use Rattle.amqp_model.specs.Term.{Primitive, ulong, symbol}
use Rattle.amqp_model.specs.laws.Item.{clash}
use Rattle.amqp_wire.specs.declared.error.Error.{Error}
use Rattle.amqp_wire.specs.declared.symbol.Symbol.{Symbol}
use Rattle.amqp_lookahead.specs.Kinds.{kind_of, kind_at, codes_of, ulongs, symbols}
use Rattle.amqp_lookahead.proofs.KindsOfCodes.{OneOf, kind_data, kind_codes}
use Rattle.amqp_decoder.specs.State.{State}
use Rattle.amqp_decoder.specs.Places.{RefusesAt}
use Rattle.amqp_decoder.specs.Reading.{PeeksCode}
use Rattle.amqp_decoder.specs.Primitives.{ReadsValue, Means}
use Rattle.amqp_decoder.proofs.ReadPrimitives.{value_leaf, begun_same}
use Rattle.amqp_decoder.proofs.Peeks.{value-peeked}
use Rattle.amqp_codec.specs.PrimitiveTypes.{ulong_type}
use Rattle.amqp_codec.specs.Wrappers.{symbol_type}
use Rattle.amqp_codec.specs.EitherMeaning.{in_first, in_second}
use Rattle.amqp_codec.specs.laws.Refusal.{no_memory, NoneStands, refused_later}
use Rattle.amqp_codec.specs.laws.Peek.{peeked_failed, peeked_going}
use Rattle.amqp_user_types.specs.declared.identifier.Identifier.{Identifier}
use Rattle.amqp_user_types.specs.declared.identifier.Identifier.TheVariants as identifier
use Rattle.amqp_user_types.specs.IdentifierType.{is_number, identifier_type}

abbrev IsNumber : State → ℕ → State → Type 0
IsNumber = ReadsValue ulong_type.means

abbrev IsName : State → Symbol → State → Type 0
IsName = ReadsValue symbol_type.means

abbrev IsIdentifier : State → Identifier → State → Type 0
IsIdentifier = ReadsValue identifier_type.means

-- no identifier stands there, and the error names the fault of the member that the first code tells
abbrev NoIdentifier : State → Error → State → Type 0
NoIdentifier = RefusesAt true IsIdentifier identifier_type.faults.fault

abbrev of_name : Symbol → Primitive
of_name s = symbol (string_bytes s.0)

-- what the test says of each code of a kind, it says of the code of what stands there
abbrev AllTested : Bool → List ℕ → Type 0
AllTested t [] = Unit {0}
AllTested t (x ∷ xs) = (is_number x ≡ t) × AllTested t xs

tested : (t : Bool) (c : ℕ) (codes : List ℕ) → AllTested t codes → OneOf c codes → is_number c ≡ t
tested t c [] h k = absurd k
tested t c (x ∷ xs) h (inl e) = ap is_number e ∙ h.0
tested t c (x ∷ xs) h (inr k) = tested t c xs h.1 k

-- what the match on the code tells
pub tests_number : (c : ℕ) → (c ≡ 0x44) ⊎ ((c ≡ 0x53) ⊎ (c ≡ 0x80)) → is_number c ≡ true
tests_number c (inl e) = ap is_number e
tests_number c (inr (inl e)) = ap is_number e
tests_number c (inr (inr e)) = ap is_number e

pub tests_name : (c : ℕ) → (c ≡ 0x44 → ⊥) → (c ≡ 0x53 → ⊥) → (c ≡ 0x80 → ⊥) → is_number c ≡ false
tests_name c f g h = rw (ne_eqb c 0x44 f, ne_eqb c 0x53 g, ne_eqb c 0x80 h) refl

module _ (st : State) (c : ℕ) (mid : State) (p : PeeksCode st c mid) where
  -- a primitive that stands there is of the kind that its first code announces
  kind_peeked : {A : Type 0} (make : A → Primitive) (v : A) (b : State) → ReadsValue (Means make) st v b
      → kind_at c ≡ Some (kind_of (make v))
  kind_peeked make v b h =
      let l = value_leaf make st v b h in
      ap kind_at (begun_same st c l.code p.after l.mid p.begun l.begun).0 ∙ kind_data l.code (make v) l.data_ l.spelled

  number_of : (n : ℕ) (b : State) → IsIdentifier st (identifier.Number n) b → IsNumber st n b
  number_of n b h = record { bytes = h.bytes; term = h.term; stands = h.stands; moved = h.moved; meant = h.meant }

  name_of : (s : Symbol) (b : State) → IsIdentifier st (identifier.Name s) b → IsName st s b
  name_of s b h = record { bytes = h.bytes; term = h.term; stands = h.stands; moved = h.moved; meant = h.meant }

  number_code : (n : ℕ) (b : State) → IsNumber st n b → is_number c ≡ true
  number_code n b h =
      let k : ReadsValue (Means ulong) st n b =
      record { bytes = h.bytes; term = h.term; stands = h.stands; moved = h.moved; meant = h.meant.0 } in
      tested true c (codes_of ulongs) (refl, (refl, (refl, tt))) (kind_codes c ulongs (kind_peeked ulong n b k))

  name_code : (s : Symbol) (b : State) → IsName st s b → is_number c ≡ false
  name_code s b h =
      let k : ReadsValue (Means of_name) st s b =
      record { bytes = h.bytes; term = h.term; stands = h.stands; moved = h.moved; meant = h.meant.0 } in
      tested false c (codes_of symbols) (refl, (refl, tt)) (kind_codes c symbols (kind_peeked of_name s b k))

  pub number_read : (n : ℕ) (b : State) → IsNumber mid n b → IsIdentifier st (identifier.Number n) b
  number_read n b h =
      let k = (value-peeked ulong_type.means st mid b c n p).0 h in
      record { bytes = k.bytes; term = k.term; stands = k.stands; moved = k.moved; meant = k.meant }

  pub name_read : (s : Symbol) (b : State) → IsName mid s b → IsIdentifier st (identifier.Name s) b
  name_read s b h =
      let k = (value-peeked symbol_type.means st mid b c s p).0 h in
      record { bytes = k.bytes; term = k.term; stands = k.stands; moved = k.moved; meant = k.meant }

  no_number : is_number c ≡ true → NoneStands IsNumber mid → NoneStands IsIdentifier st
  no_number is none (identifier.Number n) b h = none n b ((value-peeked ulong_type.means st mid b c n p).1 (number_of n b h))
  no_number is none (identifier.Name s) b h = clash is (name_code s b (name_of s b h))

  no_name : is_number c ≡ false → NoneStands IsName mid → NoneStands IsIdentifier st
  no_name is none (identifier.Number n) b h = clash (number_code n b (number_of n b h)) is
  no_name is none (identifier.Name s) b h = none s b ((value-peeked symbol_type.means st mid b c s p).1 (name_of s b h))

  pub number_refused : (e : Error) (new : State) → is_number c ≡ true
      → RefusesAt false IsNumber ulong_type.faults.fault mid e new → NoIdentifier st e new
  number_refused e new is h =
      let going = peeked_going st c mid p in
      refused_later IsNumber ulong_type.faults.fault IsIdentifier _ st mid e new no_memory (peeked_failed st c mid p) going.0 going.1
      (λ _. in_first p is) (no_number is) h

  pub name_refused : (e : Error) (new : State) → is_number c ≡ false
      → RefusesAt true IsName symbol_type.faults.fault mid e new → NoIdentifier st e new
  name_refused e new is h =
      let going = peeked_going st c mid p in
      refused_later IsName symbol_type.faults.fault IsIdentifier _ st mid e new (λ t. t) (peeked_failed st c mid p) going.0 going.1
      (λ _. in_second p is) (no_name is) h
