-- What is told of a block is in its bytes, and each byte of a frame belongs to one part of it.
use Rattle.std.specs.Prelude.{◌≡◌, ◌⊎◌, ℕ, ◌*◌, ◌<◌, ◌≤◌, Bool, false, List, length, Option, IfSome, MatchOption}
use Rattle.std.specs.List.{All}
use Rattle.amqp_wire.specs.declared.refusal.Refusal.{Refusal}
use Rattle.amqp_frames.specs.declared.frame_header.FrameHeader.{FrameHeader}
use Rattle.amqp_frames.specs.declared.frame_header.FrameKind.{FrameKind}
use Rattle.amqp_frames.specs.Frames.{BeginsWithFrame}
use Rattle.amqp_frames.specs.Headers.{BeginsWithHeader}
use Rattle.amqp_outlines.specs.Spans.{IsOutline}
use Rattle.amqp_faults.specs.declared.fault.Fault.{Fault}
use Rattle.amqp_faults.specs.declared.options.Form.{Form}
use Rattle.amqp_faults.specs.declared.options.Form.TheVariants as form
use Rattle.amqp_blocks.specs.declared.block.Block.{Block}
use Rattle.amqp_blocks.specs.declared.block.Subject.{Subject}
use Rattle.amqp_blocks.specs.declared.block.Subject.TheVariants.{ProtocolHeader, Frame, NoFrame, CutFrame, Section, Term, Rest}
use Rattle.amqp_blocks.specs.declared.frames.Performed.{Performed}
use Rattle.amqp_blocks.specs.declared.frames.Performed.TheVariants.{WithMessage, Other, Refused}
use Rattle.amqp_blocks.specs.declared.message.Sections.{Sections}
use Rattle.amqp_blocks.specs.declared.source.Source.{Source}
use Rattle.amqp_blocks.specs.declared.source.Source.TheVariants as source

-- The fault is at one of the first n bytes, or at their end.
abbrev pub StandsWithin : ℕ → Fault → Type 0
StandsWithin n fault = fault.at ≤ n

-- The block has n bytes. Its value is from the place l to the place m, the sections of its payload come behind that, and its faults are in it.
pub record IsBlock (s : Subject) (l m n : ℕ) (b : Block) : Type 0 where
  pub subject : b.subject ≡ s
  pub len : b.len ≡ n
  pub value : IsOutline l m b.value.items
  pub message : IsOutline m n b.message.items
  pub faults : All (StandsWithin n) b.faults.items

-- The span is from one place to the other, and there is none if no byte is there.
abbrev pub IsTile : ℕ → ℕ → Option (ℕ × ℕ) → Type 0
IsTile from to span = MatchOption span (to ≤ from) (λ s. (s.0 ≡ from) × (s.1 ≡ to) × (from < to))

-- The first n bytes are a frame of this kind, whose body begins at the place l.
pub record IsFrameOf (input : List ℕ) (kind : FrameKind) (l n : ℕ) : Type 0 where
  pub max : ℕ
  pub header : FrameHeader
  pub extended : List ℕ
  pub body : List ℕ
  pub begins : BeginsWithFrame max input header extended body
  pub is_kind : header.kind ≡ kind
  pub size : header.size ≡ n
  pub data_offset : 4 * header.data_offset ≡ l

-- A frame is its header of eight bytes, the extended header, the value and the payload. A protocol header has eight bytes.
abbrev pub HasParts : List ℕ → Subject → (l m : ℕ) → Block → Type 0
HasParts input (Frame kind) l m b = IsFrameOf input kind l b.len × (8 ≤ l) × IsTile 8 l b.extended × IsTile m b.len b.payload
HasParts input (ProtocolHeader header) l m b = BeginsWithHeader input header × (b.len ≡ 8)
HasParts input NoFrame l m b = Unit {0}
HasParts input CutFrame l m b = Unit {0}
HasParts input Section l m b = Unit {0}
HasParts input Term l m b = Unit {0}
HasParts input Rest l m b = Unit {0}

-- The block has n bytes, and its value begins at the place l.
abbrev pub HasValue : (l n : ℕ) → Block × ℕ → Type 0
HasValue l n found = (l ≤ found.1) × (found.1 ≤ n) × IsBlock NoFrame l found.1 n found.0

-- The same, and its payload is all that is behind its value.
abbrev pub HasBody : (l n : ℕ) → Block → Type 0
HasBody l n b = (m : ℕ) × (l ≤ m) × (m ≤ n) × IsBlock NoFrame l m n b × IsTile m n b.payload

-- The block is of the first bytes of the input, and has one if there is one.
pub record BeginsInput (input : List ℕ) (b : Block) : Type 0 where
  pub from : ℕ
  pub to : ℕ
  pub order : from ≤ to
  pub ends : to ≤ b.len
  pub within : b.len ≤ length input
  pub moves : 0 < length input → 0 < b.len
  pub is : IsBlock b.subject from to b.len b
  pub parts : HasParts input b.subject from to b

-- What the input is read as.
abbrev pub IsSourceOf : Form → Source → Type 0
IsSourceOf form.Frames (source.Frames frames) = Unit {0}
IsSourceOf form.Message (source.Message sections) = Unit {0}
IsSourceOf form.Strict (source.Message sections) = Unit {0}
IsSourceOf form.Term (source.Term term) = Unit {0}
IsSourceOf (form.Type named) (source.Term term) = Unit {0}
IsSourceOf _ _ = ⊥

-- There is no block to come: there are no bytes, or more of them may come.
abbrev pub IsAllTold : List ℕ → Bool → Type 0
IsAllTold input is_end = (length input ≡ 0) ⊎ (is_end ≡ false)

-- The fault that has not been told yet is in the n bytes that come next, or at their end.
abbrev pub IsAhead : ℕ → Sections → Type 0
IsAhead n s = IfSome s.fault (StandsWithin n)

-- The same of what the input is
abbrev pub IsNext : ℕ → Source → Type 0
IsNext n (source.Frames frames) = Unit {0}
IsNext n (source.Message sections) = IsAhead n sections
IsNext n (source.Term term) = Unit {0}

-- P of why there is no performative, if there is none
abbrev pub IfRefused : (Refusal → Type 0) → Performed → Type 0
IfRefused P WithMessage = Unit {0}
IfRefused P Other = Unit {0}
IfRefused P (Refused refusal) = P refusal
