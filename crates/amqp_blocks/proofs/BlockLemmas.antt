-- Blocks begin the input that they are made of.
use Rattle.std.proofs.Common.{◌≡◌, ℕ, Bool, ◌≤◌, ◌<◌, ◌-◌, ◌*◌, ◌∙◌, min, take, drop, List, length, Option, Some, None, IfSome, unwrap_or, sym, ap, subst, arith, Result, Ok, Err, IfOk, inl}
use Rattle.std.specs.Prelude.{IfNone}
use Rattle.std.proofs.lemmas.List.{length-take, length-drop}
use Rattle.amqp_frames.specs.FrameErrors.{place_of}
use Rattle.amqp_frames.specs.Frames.{BeginsWithFrame, data_offset_of, size_of}
use Rattle.amqp_frames.specs.Headers.{BeginsWithHeader}
use Rattle.amqp_frames.specs.declared.frame_header.FrameHeader.{FrameHeader}
use Rattle.amqp_frames.specs.declared.protocol_header.ProtocolHeader.{ProtocolHeader}
use Rattle.amqp_frames.specs.declared.frame_error.FrameError.{FrameError}
use Rattle.amqp_frames.specs.declared.frame_error.FrameError.TheVariants.{SizeBelowHeader, SizeAboveMaximum, DataOffsetBelowHeader}
use Rattle.amqp_frames.specs.declared.frame_error.FrameError.TheVariants.{DataOffsetPastSize, UnknownType, SaslAboveLimit, NotProtocolHeader}
use Rattle.amqp_blocks.specs.declared.block.Block.{Block}
use Rattle.amqp_blocks.specs.declared.block.Subject.{Subject}
use Rattle.amqp_blocks.specs.Blocks.{IsBlock, HasParts, BeginsInput, IsAllTold}

pub block_begins : (s : Subject) (l m n : ℕ) (b : Block) (input : List ℕ) → IsBlock s l m n b → l ≤ m → m ≤ n → n ≤ length input
    → (0 < length input → 0 < n) → HasParts input s l m b → BeginsInput input b
block_begins s l m n b input is order ends within moves parts = record {
  from = l;
  to = m;
  order = order;
  ends = subst (λ k. m ≤ k) (sym is.len) ends;
  within = subst (λ k. k ≤ length input) (sym is.len) within;
  moves = subst (λ k. 0 < length input → 0 < k) (sym is.len) moves;
  is = subst (λ k. IsBlock b.subject l m k b) (sym is.len) (subst (λ t. IsBlock t l m n b) (sym is.subject) is);
  parts = subst (λ t. HasParts input t l m b) (sym is.subject) parts;
}

-- a result that is such a block
pub blocks_begin : {E : Type 0} (s : Subject) (l m n : ℕ) (r : Result Block E) (input : List ℕ) → ((b : Block) → HasParts input s l m b) → l ≤ m
    → m ≤ n → n ≤ length input → (0 < length input → 0 < n) → IfOk r (IsBlock s l m n) → IfOk r (BeginsInput input)
blocks_begin s l m n (Ok b) input parts order ends within moves is = block_begins s l m n b input is order ends within moves (parts b)
blocks_begin s l m n (Err e) input parts order ends within moves is = tt

-- where a term ends, or else the bytes
pub at_most_the_end : (o : Option ℕ) (at n : ℕ) → at ≤ n → IfSome o (λ e. (at < e) × (e ≤ n)) → (at ≤ unwrap_or o n) × (unwrap_or o n ≤ n)
at_most_the_end None at n le h = (le, omega arith)
at_most_the_end (Some e) at n le h = let past = h.0 in (omega (arith, past), h.1)

-- which is past its begin
pub past_the_begin : (o : Option ℕ) (at n : ℕ) → IfSome o (λ e. (at < e) × (e ≤ n)) → at < n → at < unwrap_or o n
past_the_begin None at n h lt = lt
past_the_begin (Some e) at n h lt = h.0

-- a frame's error is in its header
pub in_a_header : (e : FrameError) → place_of e ≤ 8
in_a_header SizeBelowHeader = omega arith
in_a_header SizeAboveMaximum = omega arith
in_a_header DataOffsetBelowHeader = omega arith
in_a_header DataOffsetPastSize = omega arith
in_a_header (UnknownType code) = omega arith
in_a_header SaslAboveLimit = omega arith
in_a_header NotProtocolHeader = omega arith

-- a protocol header has eight bytes
pub eight : (input : List ℕ) (h : ProtocolHeader) → BeginsWithHeader input h → 8 ≤ length input
eight input h begins = omega (arith, ap length begins, length-take 8 input)

-- the body of a frame begins behind its header
pub body_begins : (max : ℕ) (input : List ℕ) (header : FrameHeader) (extended body : List ℕ) → BeginsWithFrame max input header extended body
    → (len at : ℕ) → len ≡ min header.size (length input) → at ≡ len - length body
    → (8 ≤ at) × (at ≤ len) × (len ≤ length input) × (header.size ≡ len) × (4 * header.data_offset ≡ at)
body_begins max input header extended body h len at is behind =
    let bytes = take header.size input in
    let f = h.is in
    let from = 4 * data_offset_of bytes in
    let parts = f.sound.data_offset in
    let cut : length body ≡ min (size_of bytes - from) (length (drop from bytes)) =
    ap length f.body_is ∙ length-take (size_of bytes - from) (drop from bytes) in
    let all : length (drop from bytes) ≡ length bytes - from = length-drop from bytes in
    let there = h.there in
    let least = parts.least in
    let most = parts.most in
    let offset = f.data_offset in (
      omega (arith, cut, all, f.whole, f.size, is, behind, there, least, most),
      omega (arith, behind),
      omega (arith, is),
      omega (arith, is, there),
      omega (arith, cut, all, f.whole, f.size, is, behind, there, least, most, offset),
    )

-- No block comes, since there are no bytes.
pub nothing_left : (input : List ℕ) (is_end : Bool) (found : Option Block) → IfNone found (length input ≡ 0) → IfNone found (IsAllTold input is_end)
nothing_left input is_end None h = inl h
nothing_left input is_end (Some block) h = tt
