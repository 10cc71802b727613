-- What the calls that keep the bytes of terms promise (Part 1, section 1.2).
use Rattle.std.specs.Prelude.{◌≡◌, ◌≤◌, ◌<◌, ◌^◌, ◌-◌, ◌⊎◌, ◌+◌, ℕ, false, cond, List, ◌++◌, length, Some, None, IsAscii}
use Rattle.std.specs.Int.{bytes_high_first}
use Rattle.amqp_model.specs.Term.{Descriptor, Term}
use Rattle.amqp_model.specs.Constructors.{Format, fixed, variable, compound, format}
use Rattle.amqp_model.specs.Spelling.{Constructor}
use Rattle.amqp_wire.specs.declared.error.Error.{Error}
use Rattle.amqp_wire.specs.declared.error.Error.TheVariants.{NonAscii, Missing, Size, LazyInArray, Limit}
use Rattle.amqp_lengths.specs.Pieces.{IsSized}
use Rattle.amqp_lengths.specs.Fronts.{Refuses}
use Rattle.amqp_lengths.specs.Faults.{HasFault as FaultIn}
use Rattle.amqp_lengths.specs.Lengths.{IsTerm}
use Rattle.amqp_lengths.specs.Announced.{content_size, IsAnnounced}
use Rattle.amqp_decoder.specs.declared.terms.Data.{Data}
use Rattle.amqp_decoder.specs.declared.terms.Data.TheVariants.{Fixed as of_width, Sized as of_size}
use Rattle.amqp_decoder.specs.State.{State, depth_error, Has, after_value, weight_at, uncounted}
use Rattle.amqp_decoder.specs.Steps.{Takes, Lacks, SizeError}
use Rattle.amqp_decoder.specs.Primitives.{Stands, LacksData, LacksSized, ReadsSized}
use Rattle.amqp_decoder.specs.Containers.{is_list}
use Rattle.amqp_decoder.specs.Arrays.{TakesConstructor, ConstructorFault, constructor_left}

-- Bytes that are P were taken, and added to those before.
pub record Keeps (P : List ℕ → Type 0) (before : List ℕ) (st : State) (after : List ℕ) (st' : State) : Type 0 where
  pub own : List ℕ
  pub is : P own
  pub took : Takes st own st'
  pub added : after ≡ before ++ own

-- The bytes are a size and the ASCII text that it announces.
abbrev pub IsSymbol : ℕ → List ℕ → Type 0
IsSymbol w b = (s : List ℕ) × IsAscii s × IsSized w s b

-- Why no such bytes are taken.
pub data SymbolFault (w : ℕ) (st : State) (e : Error) : Type 0 where
  no_text : LacksSized w st e → SymbolFault w st e
  no_ascii : {s : List ℕ} {m : State} → ReadsSized w st s m → (IsAscii s → ⊥) → e ≡ NonAscii → SymbolFault w st e

-- The bytes are a constructor of at most 128 descriptors and this code.
abbrev pub IsConstructor : ℕ → List ℕ → Type 0
IsConstructor c b = (ds : List Descriptor) × (length ds ≤ 128) × Constructor ds c b

-- What a format announces: data of a known width, or a size and what belongs behind it. The code of the empty list (Part 1,
-- section 1.6.22) announces no bytes.
abbrev pub Announces : Format → Data → Type 0
Announces (fixed w value) (of_width n) = n ≡ w
Announces (variable w value) (of_size wide listed) = (w ≡ cond wide 4 1) × (listed ≡ false)
Announces (compound kind w) (of_width n) = (n ≡ 0) × (w ≡ 0)
Announces (compound kind w) (of_size wide listed) = (w ≡ cond wide 4 1) × (listed ≡ is_list kind)
Announces _ _ = ⊥

-- The data that a format announces can't be taken: a primitive's, or a container's size or as many bytes as belong behind it.
abbrev pub LacksAnnounced : Format → State → Error → Type 0
LacksAnnounced (compound kind w) st e =
    Lacks w st e ⊎ ((n : ℕ) × (st' : State) × (n < 256 ^ w) × Takes st (bytes_high_first w n) st' × Lacks (content_size kind w n) st' e)
LacksAnnounced F st e = LacksData F st e

-- The bytes, which were taken in front of the state, are no term that nests at most so deep: no bytes that begin so begin with
-- one, and the fault is named that stands in them. A wrong size is named where all is there that the open containers announce.
pub data NoTerm (nesting : ℕ) (b : List ℕ) (st : State) (e : Error) : Type 0 where
  wrong_size : Refuses (IsTerm nesting) b Size → FaultIn (depth_error st.nesting) nesting b Size → SizeError 0 st e → NoTerm nesting b st e
  wrong_term : Refuses (IsTerm nesting) b e → FaultIn (depth_error st.nesting) nesting b e → (e ≡ Size → ⊥) → NoTerm nesting b st e

-- It stands in these bytes, or behind them.
abbrev pub term_left : (nesting : ℕ) (b : List ℕ) (st : State) (e : Error) → NoTerm nesting b st e → ℕ
term_left nesting b st e (wrong_size refused fault size) = fault.0 + length st.rest
term_left nesting b st e (wrong_term refused fault other) = fault.0 + length st.rest

-- Why no bytes of a term are taken.
pub data SpellingFault (st : State) (e : Error) : Type 0 where
  no_constructor : ConstructorFault st e → SpellingFault st e
  no_data : {ds : List Descriptor} {c : ℕ} {m : State} → TakesConstructor st ds c m → LacksAnnounced (format c) m e → SpellingFault st e
  no_term : {ds : List Descriptor} {c : ℕ} {m : State} {b : List ℕ} {m' : State} (t : TakesConstructor st ds c m) → Takes m b m'
      → IsAnnounced (format c) b
      → NoTerm (st.nesting - length st.saved) (t.own ++ b) m' e → SpellingFault st e

-- It stands where the term begins, or in it.
abbrev pub spelling_left : (st : State) (e : Error) → SpellingFault st e → ℕ
spelling_left st e (no_constructor fault) = constructor_left st e fault
spelling_left st e (no_data took fault) = length st.rest
spelling_left st e (no_term {b = b} {m' = m'} took data_ announced fault) = term_left (st.nesting - length st.saved) (took.own ++ b) m' e fault

-- A term stood next as these bytes, a constructor of its own among them, and was taken.
pub record TakesTerm (st : State) (s : List ℕ) (st' : State) : Type 0 where
  pub term : Term
  pub stands : Stands st s term
  pub unshared : st.top.shared ≡ None
  pub moved : st' ≡ after_value (length s) (weight_at st term) st

-- Why no term is read.
pub data TermFault (st : State) (e : Error) : Type 0 where
  missing : st.top.items ≡ Some 0 → e ≡ Missing → TermFault st e
  in_array : Has st.top.items 1 → (st.top.shared ≡ None → ⊥) → e ≡ LazyInArray → TermFault st e
  misspelled : Has st.top.items 1 → st.top.shared ≡ None → SpellingFault st e → TermFault st e
  too_many : {s : List ℕ} {m : State} (h : TakesTerm (uncounted st) s m) → (Has st.quota (weight_at st h.term) → ⊥) → e ≡ Limit → TermFault st e

-- It stands where the term begins, or in it.
abbrev pub term_fault_left : (st : State) (e : Error) → TermFault st e → ℕ
term_fault_left st e (missing none is) = length st.rest
term_fault_left st e (in_array item shared is) = length st.rest
term_fault_left st e (misspelled item own fault) = spelling_left st e fault
term_fault_left st e (too_many took full is) = length st.rest
