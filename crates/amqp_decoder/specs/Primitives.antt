-- What the calls that read primitives promise (Part 1, section 1.6).
use Rattle.std.specs.Prelude.{◌≡◌, ℕ, ◌-◌, ◌^◌, ◌<◌, ◌≤◌, ◌⊎◌, Bool, List, ◌++◌, length, cond, eqb, Option, Some, None}
use Rattle.std.specs.Int.{bytes_high_first}
use Rattle.amqp_model.specs.Term.{Primitive, Descriptor, Term, leaf}
use Rattle.amqp_model.specs.Constructors.{Format, fixed, variable, compound, unknown, format}
use Rattle.amqp_model.specs.Spelling.{PrimitiveData, IsDataOf, IsSpelling}
use Rattle.amqp_model.specs.Measures.{nest}
use Rattle.amqp_model.specs.Standing.{Standing, whole, part}
use Rattle.amqp_wire.specs.declared.error.Error.{Error}
use Rattle.amqp_wire.specs.declared.error.Error.TheVariants.{BadBool, BadChar, BadUtf8, NonAscii, InvalidValue}
use Rattle.amqp_wire.specs.Codes.{refusal_of}
use Rattle.amqp_decoder.specs.State.{State, Has, lower, after_value, weight_at}
use Rattle.amqp_decoder.specs.Steps.{Answers, IsExcused, SourceFailed, Takes, Lacks}
use Rattle.amqp_decoder.specs.Reading.{ReadsCode, BeginFault}
use Rattle.amqp_lookahead.specs.Kinds.{kind_at, booleans, chars, strings, symbols}

-- How a value stands: as bytes of its own, or as the data of an array's item under the constructor that is shared.
abbrev pub standing : Option (List Descriptor × ℕ) → List ℕ → Standing
standing None s = whole s
standing (Some (ds, c)) s = part ds c s

abbrev pub SpellsAs : Standing → Term → Type 0
SpellsAs (whole b) t = IsSpelling b t
SpellsAs (part ds c b) t = IsDataOf t ds c b

-- The term stands next, as these bytes.
pub record Stands (st : State) (s : List ℕ) (t : Term) : Type 0 where
  pub going : st.error ≡ None
  pub item : Has st.top.items 1
  pub room : Has st.top.left (length s)
  pub after : List ℕ
  pub rest : st.rest ≡ s ++ after
  pub spelled : SpellsAs (standing st.top.shared s) t
  pub nested : nest t ≤ st.nesting - length st.saved
  pub few : Has st.quota (weight_at st t)

-- A term that means the value stood next, and was taken.
pub record ReadsValue {A : Type 0} (means : Standing → Term → A → Type 0) (st : State) (v : A) (st' : State) : Type 0 where
  pub bytes : List ℕ
  pub term : Term
  pub stands : Stands st bytes term
  pub moved : st' ≡ after_value (length bytes) (weight_at st term) st
  pub meant : means (standing st.top.shared bytes) term v

-- The term is the primitive that is made of the value.
abbrev pub Means : {A : Type 0} → (A → Primitive) → Standing → Term → A → Type 0
Means make s t v = t ≡ leaf (make v)

-- The primitive stood next: a code, and its data.
pub record ReadsPrimitive (st : State) (p : Primitive) (st' : State) : Type 0 where
  pub code : ℕ
  pub mid : State
  pub data_ : List ℕ
  pub begun : ReadsCode st code mid
  pub spelled : PrimitiveData (format code) p data_
  pub took : Takes mid data_ st'

-- The data that a format announces can't be taken.
abbrev pub LacksData : Format → State → Error → Type 0
LacksData (fixed width value) st e = Lacks width st e
LacksData (variable width value) st e =
    Lacks width st e ⊎ ((n : ℕ) × (st' : State) × (n < 256 ^ width) × Takes st (bytes_high_first width n) st' × Lacks n st' e)
LacksData (compound kind width) st e = ⊥
LacksData unknown st e = ⊥

-- The data of the primitive under the code stood next.
pub record ReadsData (code : ℕ) (p : Primitive) (st : State) (st' : State) : Type 0 where
  pub data_ : List ℕ
  pub spelled : PrimitiveData (format code) p data_
  pub took : Takes st data_ st'

-- The data of a kind under a code of it can't be taken.
pub record LacksDataOf (k code : ℕ) (st : State) (e : Error) (st' : State) : Type 0 where
  pub kept : Answers st e st'
  pub kind : kind_at code ≡ Some k
  pub why : SourceFailed e st' ⊎ LacksData (format code) st e

-- b is as long as the format announces.
abbrev pub IsWhole : Format → List ℕ → Type 0
IsWhole (fixed width value) b = length b ≡ width
IsWhole (variable width value) b = (content : List ℕ) × (length content < 256 ^ width)
    × (b ≡ bytes_high_first width (length content) ++ content)
IsWhole (compound kind width) b = ⊥
IsWhole unknown b = ⊥

-- The error for data that is no value of its kind.
abbrev pub bad : ℕ → Error
bad k = cond (eqb k booleans) BadBool
    (cond (eqb k chars) BadChar (cond (eqb k strings) BadUtf8 (cond (eqb k symbols) NonAscii InvalidValue)))

-- Why no primitive of a kind is read.
pub data PrimitiveFault (k : ℕ) (st : State) (e : Error) : Type 0 where
  not_begun : BeginFault st e → PrimitiveFault k st e
  wrong_code : {c : ℕ} {m : State} → ReadsCode st c m → (kind_at c ≡ Some k → ⊥) → e ≡ refusal_of c → PrimitiveFault k st e
  no_data : {c : ℕ} {m : State} → ReadsCode st c m → kind_at c ≡ Some k → LacksData (format c) m e → PrimitiveFault k st e
  bad_data : {c : ℕ} {m : State} {b : List ℕ} {m' : State} → ReadsCode st c m → kind_at c ≡ Some k → Takes m b m' → IsWhole (format c) b
      → ((p : Primitive) → PrimitiveData (format c) p b → ⊥) → e ≡ bad k → PrimitiveFault k st e

-- Why no data of n bytes is read under this code.
pub data FixedFault (code n : ℕ) (st : State) (e : Error) : Type 0 where
  unbegun : BeginFault st e → FixedFault code n st e
  other_code : {c : ℕ} {m : State} → ReadsCode st c m → (c ≡ code → ⊥) → e ≡ refusal_of c → FixedFault code n st e
  too_few : {m : State} → ReadsCode st code m → Lacks n m e → FixedFault code n st e

-- The code and n bytes of data stood next.
pub record ReadsFixed (code n : ℕ) (st : State) (b : List ℕ) (st' : State) : Type 0 where
  pub mid : State
  pub begun : ReadsCode st code mid
  pub took : Takes mid b st'
  pub width : length b ≡ n

-- The error is kept for each later call, and names a fault that stands there.
pub record AnswersFault (takes : Bool) (fault : State → Error → Type 0) (old : State) (e : Error) (new : State) : Type 0 where
  pub kept : Answers old e new
  pub again : (d : Error) → old.error ≡ Some d → (d ≡ e) × (new ≡ old)
  pub named : old.error ≡ None → IsExcused takes e new ⊎ fault old e

-- A size stood next, and as many bytes have room in the open container.
pub record ReadsSize (w : ℕ) (st : State) (n : ℕ) (st' : State) : Type 0 where
  pub mid : State
  pub fits : n < 256 ^ w
  pub took : Takes st (bytes_high_first w n) mid
  pub room : Has mid.top.left n
  pub lowered : st' ≡ record mid { top = record mid.top { left = lower mid.top.left n } }

-- A size and as many bytes stood next.
pub record ReadsSized (w : ℕ) (st : State) (s : List ℕ) (st' : State) : Type 0 where
  pub fits : length s < 256 ^ w
  pub took : Takes st (bytes_high_first w (length s) ++ s) st'

-- A size or as many bytes can't be taken.
abbrev pub LacksSized : ℕ → State → Error → Type 0
LacksSized w st e = Lacks w st e ⊎ ((n : ℕ) × (st' : State) × (n < 256 ^ w) × Takes st (bytes_high_first w n) st' × Lacks n st' e)

pub record SizedFault (takes : Bool) (w : ℕ) (st : State) (e : Error) (st' : State) : Type 0 where
  pub kept : Answers st e st'
  pub why : IsExcused takes e st' ⊎ LacksSized w st e

-- One of the two codes, a size of one byte or of four, and as many bytes stood next.
pub record ReadsText (narrow wide : ℕ) (st : State) (s : List ℕ) (st' : State) : Type 0 where
  pub code : ℕ
  pub mid : State
  pub begun : ReadsCode st code mid
  pub sized : ((code ≡ narrow) × ReadsSized 1 mid s st') ⊎ ((code ≡ wide) × ReadsSized 4 mid s st')

-- Why no such bytes are read.
pub data TextFault (narrow wide : ℕ) (st : State) (e : Error) : Type 0 where
  no_text : BeginFault st e → TextFault narrow wide st e
  no_text_code : {c : ℕ} {m : State} → ReadsCode st c m → (c ≡ narrow → ⊥) → (c ≡ wide → ⊥) → e ≡ refusal_of c → TextFault narrow wide st e
  narrow_short : {m : State} → ReadsCode st narrow m → LacksSized 1 m e → TextFault narrow wide st e
  wide_short : {m : State} → ReadsCode st wide m → LacksSized 4 m e → TextFault narrow wide st e
