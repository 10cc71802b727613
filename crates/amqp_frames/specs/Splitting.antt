-- The transfers of a message that is split (Part 2, sections 2.6.14 and 2.7.5).
use Rattle.std.specs.Prelude.{◌≡◌, ℕ, zero, suc, ◌+◌, ◌<◌, ◌≤◌, ◌⊎◌, Bool, true, false, List, [], ◌∷◌, ◌++◌, length, map, flat_map, codes, None}
use Rattle.std.specs.List.{All}
use Rattle.amqp_model.specs.Term.{Term}
use Rattle.amqp_model.specs.Composite.{canonical_term}
use Rattle.amqp_wire.specs.declared.error.Error.TheVariants.{Memory}
use Rattle.amqp_encoder.specs.Passes.{row_text}
use Rattle.amqp_codec.specs.Composite.{table_of}
use Rattle.amqp_codec.specs.Written.{AreUnwritable}
use Rattle.amqp_performatives.specs.Tables.{transfer}
use Rattle.amqp_performatives.specs.declared.transfer.Transfer.{Transfer}
use Rattle.amqp_frames.specs.declared.pieces.Piece.{Piece}
use Rattle.amqp_frames.specs.declared.split_error.SplitError.{SplitError}
use Rattle.amqp_frames.specs.declared.split_error.SplitError.TheVariants.{FrameTooSmall, Value}

-- A later transfer of the same delivery has the handle and `settled`, and omits the rest.
abbrev pub later_of : Transfer → Transfer
later_of t = record t {
  delivery_id = None;
  delivery_tag = None;
  message_format = None;
  more = false;
  rcv_settle_mode = None;
  state = None;
  resume = false;
  aborted = false;
  batchable = false;
}

-- whether more transfers follow it
abbrev pub with_more : Bool → Transfer → Transfer
with_more more t = record t { more = more }

-- the transfer after n others
unfoldable pub after : Transfer → ℕ → Transfer
after t zero = t
after t (suc n) = after (later_of t) n

-- the first n transfers, each of which others follow
unfoldable pub first_transfers : Transfer → ℕ → List Transfer
first_transfers t zero = []
first_transfers t (suc n) = with_more true t ∷ first_transfers (later_of t) n

-- the transfers of a delivery, of which n follow the first
unfoldable pub transfers_of : Transfer → ℕ → List Transfer
transfers_of t zero = with_more false t ∷ []
transfers_of t (suc n) = with_more true t ∷ transfers_of (later_of t) n

-- the canonical term of a transfer, and its text
abbrev pub transfer_terms : Transfer → List Term
transfer_terms t = canonical_term (table_of transfer) t ∷ []

abbrev pub transfer_text : Transfer → List ℕ
transfer_text t = row_text (transfer_terms t)

-- the bytes of all pieces, joined
abbrev pub payloads_of : List Piece → List ℕ
payloads_of = flat_map (λ p. p.payload.now)

-- The piece is a frame of at most so many bytes.
abbrev pub FitsFrame : ℕ → Piece → Type 0
FitsFrame max p = 8 + length (transfer_text p.transfer) + length p.payload.now ≤ max

-- So many bytes don't fit one frame with this transfer.
abbrev pub PassesOne : ℕ → Transfer → ℕ → Type 0
PassesOne max t left = max < 8 + length (transfer_text (with_more false t)) + left

-- If others follow this transfer, its frame has no byte for a payload.
abbrev pub LeavesNone : ℕ → Transfer → Type 0
LeavesNone max t = max ≤ 8 + length (transfer_text (with_more true t))

-- The piece fills its frame. What is left of the message, with this piece, doesn't fit one frame.
pub record IsFull (max : ℕ) (p : Piece) (left : ℕ) : Type 0 where
  pub full : 8 + length (transfer_text p.transfer) + length p.payload.now ≡ max
  pub some : 0 < length p.payload.now
  pub needed : PassesOne max p.transfer left

-- Each of the pieces is full, where so many bytes of the message follow them.
abbrev pub AreFull : ℕ → List Piece → ℕ → Type 0
AreFull max [] rest = Unit {0}
AreFull max (p ∷ ps) rest = IsFull max p (length (payloads_of (p ∷ ps)) + rest) × AreFull max ps rest

-- All pieces but the last are full. The last one has a byte, if the message has one.
pub record AreFilled (max : ℕ) (message : List ℕ) (pieces : List Piece) : Type 0 where
  pub front : List Piece
  pub last : Piece
  pub parts : pieces ≡ front ++ last ∷ []
  pub full : AreFull max front (length last.payload.now)
  pub some : 0 < length message → 0 < length last.payload.now

-- A transfer of the delivery, whether others follow it or not.
abbrev pub Carries : Transfer → Transfer → Type 0
Carries t u = (n : ℕ) × (more : Bool) × (u ≡ with_more more (after t n))

-- Why a message isn't split: it doesn't fit one frame, and the first of several transfers leaves no byte for its payload; or a transfer
-- can't be written.
abbrev pub SplitFault : Transfer → List ℕ → ℕ → SplitError → Type 0
SplitFault t message max FrameTooSmall = PassesOne max t (length message) × LeavesNone max t
SplitFault t message max (Value e) = (e ≡ Memory) ⊎ ((u : Transfer) × Carries t u × AreUnwritable (transfer_terms u) e)

-- the error condition of the standard (Part 2, section 2.8.15)
abbrev pub split_condition_of : SplitError → List ℕ
split_condition_of FrameTooSmall = codes "amqp:frame-size-too-small"
split_condition_of (Value _) = codes "amqp:internal-error"

-- The pieces of a message: their bytes are its bytes, each fits its frame, all but the last fill it, and their transfers are those of one
-- delivery.
pub record IsSplit (t : Transfer) (message : List ℕ) (max : ℕ) (pieces : List Piece) : Type 0 where
  pub joined : payloads_of pieces ≡ message
  pub fits : All (FitsFrame max) pieces
  pub filled : AreFilled max message pieces
  pub count : ℕ
  pub transfers : map (λ p. p.transfer) pieces ≡ transfers_of t count

-- why a transfer can't be written
abbrev pub IsUnwritten : List Term → SplitError → Type 0
IsUnwritten terms FrameTooSmall = ⊥
IsUnwritten terms (Value e) = (e ≡ Memory) ⊎ AreUnwritable terms e

-- Why no part of so many bytes of a message goes with this transfer, whether others follow it or not.
abbrev pub PartFault : Transfer → ℕ → ℕ → SplitError → Type 0
PartFault t left max FrameTooSmall = PassesOne max t left × LeavesNone max t
PartFault t left max (Value e) = (e ≡ Memory) ⊎ ((more : Bool) × AreUnwritable (transfer_terms (with_more more t)) e)
