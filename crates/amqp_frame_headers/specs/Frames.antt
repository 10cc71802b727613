-- Frames (Part 2, section 2.3; Part 5, section 5.3.1). A byte is a number, and byte 0 of a list is its first.
use Rattle.std.specs.Prelude.{◌≡◌, ℕ, ◌+◌, ◌*◌, ◌^◌, ◌<◌, ◌≤◌, ◌⊎◌, List, [], ◌∷◌, ◌++◌, length, take, slice_index, slice_range}
use Rattle.std.specs.Int.{w16, w32, to_be_bytes}
use Rattle.amqp_frame_headers.specs.declared.frame_error.FrameError.{FrameError}
use Rattle.amqp_frame_headers.specs.declared.frame_error.FrameError.TheVariants.{SizeBelowHeader, SizeAboveMaximum}
use Rattle.amqp_frame_headers.specs.declared.frame_error.FrameError.TheVariants.{DataOffsetBelowHeader, DataOffsetPastSize, UnknownType}
use Rattle.amqp_frame_headers.specs.declared.frame_error.FrameError.TheVariants.{SaslAboveLimit, NotProtocolHeader}
use Rattle.amqp_frame_headers.specs.declared.frame_header.FrameKind.{FrameKind}
use Rattle.amqp_frame_headers.specs.declared.frame_header.FrameKind.TheVariants.{Amqp, Sasl}
use Rattle.amqp_frame_headers.specs.declared.frame_header.FrameHeader.{FrameHeader}

-- SIZE: bytes 0 to 3, the highest first
unfoldable pub size_of : List ℕ → ℕ
size_of bytes =
    256 ^ 3 * slice_index bytes 0 + 256 ^ 2 * slice_index bytes 1 + 256 * slice_index bytes 2 + slice_index bytes 3

-- DOFF: byte 4
abbrev pub data_offset_of : List ℕ → ℕ
data_offset_of bytes = slice_index bytes 4

-- TYPE: byte 5
abbrev pub type_of : List ℕ → ℕ
type_of bytes = slice_index bytes 5

-- the channel of an AMQP frame: bytes 6 and 7, the highest first
unfoldable pub channel_of : List ℕ → ℕ
channel_of bytes = 256 * slice_index bytes 6 + slice_index bytes 7

-- ---- the rules, in the order of the fields

-- SIZE is there. It counts the eight bytes of the header, and is at most the maximum.
pub record HasSize (max : ℕ) (bytes : List ℕ) : Type 0 where
  pub there : 4 ≤ length bytes
  pub least : 8 ≤ size_of bytes
  pub most : size_of bytes ≤ max

-- DOFF is there, too. In words of four bytes, it is not within the header and not past SIZE.
pub record HasDataOffset (max : ℕ) (bytes : List ℕ) : Type 0 where
  pub size : HasSize max bytes
  pub there : 5 ≤ length bytes
  pub least : 2 ≤ data_offset_of bytes
  pub most : 4 * data_offset_of bytes ≤ size_of bytes

-- TYPE is there, too: 0 for AMQP, or 1 for SASL, whose frames have at most 512 bytes.
pub record HasType (max : ℕ) (bytes : List ℕ) : Type 0 where
  pub data_offset : HasDataOffset max bytes
  pub there : 6 ≤ length bytes
  pub known : (type_of bytes ≡ 0) ⊎ ((type_of bytes ≡ 1) × (size_of bytes ≤ 512))

-- ---- frames

-- The kind is that of TYPE. For AMQP, bytes 6 and 7 are the channel.
abbrev pub IsOfKind : List ℕ → FrameKind → Type 0
IsOfKind bytes (Amqp channel) = (type_of bytes ≡ 0) × (channel ≡ channel_of bytes)
IsOfKind bytes Sasl = type_of bytes ≡ 1

-- The bytes are one frame: they break no rule, there are SIZE of them, the extended header is bytes 8 to 4 * DOFF, and the body is the rest.
pub record IsFrame (max : ℕ) (bytes : List ℕ) (header : FrameHeader) (extended body : List ℕ) : Type 0 where
  pub sound : HasType max bytes
  pub whole : length bytes ≡ size_of bytes
  pub size : header.size ≡ size_of bytes
  pub data_offset : header.data_offset ≡ data_offset_of bytes
  pub kind : IsOfKind bytes header.kind
  pub extended_is : extended ≡ slice_range bytes 8 (4 * data_offset_of bytes)
  pub body_is : body ≡ slice_range bytes (4 * data_offset_of bytes) (size_of bytes)

-- The first bytes of the input, as many as the header's size, are the frame.
pub record BeginsWithFrame (max : ℕ) (input : List ℕ) (header : FrameHeader) (extended body : List ℕ) : Type 0 where
  pub there : header.size ≤ length input
  pub is : IsFrame max (take header.size input) header extended body

-- ---- why no frame is returned

-- For each error, the rule that is broken: its field is there, and no rule before it is broken.
abbrev pub FrameFault : ℕ → List ℕ → FrameError → Type 0
FrameFault max input SizeBelowHeader = (4 ≤ length input) × (size_of input < 8)
FrameFault max input SizeAboveMaximum = (4 ≤ length input) × (8 ≤ size_of input) × (max < size_of input)
FrameFault max input DataOffsetBelowHeader = HasSize max input × (5 ≤ length input) × (data_offset_of input < 2)
FrameFault max input DataOffsetPastSize =
    HasSize max input × (5 ≤ length input) × (2 ≤ data_offset_of input) × (size_of input < 4 * data_offset_of input)
FrameFault max input (UnknownType code) =
    HasDataOffset max input × (6 ≤ length input) × (1 < type_of input) × (code ≡ type_of input)
FrameFault max input SaslAboveLimit =
    HasDataOffset max input × (6 ≤ length input) × (type_of input ≡ 1) × (512 < size_of input)
FrameFault max input NotProtocolHeader = ⊥

-- No rule is broken by the fields that are there.
pub record BreaksNoRule (max : ℕ) (input : List ℕ) : Type 0 where
  pub size : 4 ≤ length input → HasSize max input
  pub data_offset : 5 ≤ length input → HasDataOffset max input
  pub frame_type : 6 ≤ length input → HasType max input

-- No rule is broken, and the input lacks n bytes: of its frame, or of the eight of a header where SIZE isn't there yet.
pub record NeedsMore (max : ℕ) (input : List ℕ) (n : ℕ) : Type 0 where
  pub sound : BreaksNoRule max input
  pub missing : 0 < n
  pub before_size : length input < 4 → length input + n ≡ 8
  pub after_size : 4 ≤ length input → length input + n ≡ size_of input

-- ---- what is written

-- TYPE, then the channel or two bytes 0
abbrev pub kind_bytes : FrameKind → List ℕ
kind_bytes (Amqp channel) = 0 ∷ to_be_bytes w16 channel
kind_bytes Sasl = 1 ∷ 0 ∷ 0 ∷ []

-- the eight bytes of a header
abbrev pub frame_header_bytes : FrameHeader → List ℕ
frame_header_bytes header = to_be_bytes w32 header.size ++ header.data_offset ∷ kind_bytes header.kind

-- the header of a frame without an extended header, whose body has so many bytes
abbrev pub header_of_body : FrameKind → ℕ → FrameHeader
header_of_body kind body_len = record { size = 8 + body_len; data_offset = 2; kind = kind }

-- A frame of this kind may have so many bytes, and the channel is a number of 16 bits.
abbrev pub MayHave : FrameKind → ℕ → Type 0
MayHave (Amqp channel) size = channel < 2 ^ 16
MayHave Sasl size = size ≤ 512

-- how many bytes a frame of this kind may have, where the caller's maximum is max
abbrev pub greatest_size : FrameKind → ℕ → ℕ
greatest_size (Amqp channel) max = max
greatest_size Sasl max = 512

-- the error of a frame of this kind that would have more
abbrev pub too_large : FrameKind → FrameError
too_large (Amqp channel) = SizeAboveMaximum
too_large Sasl = SaslAboveLimit
