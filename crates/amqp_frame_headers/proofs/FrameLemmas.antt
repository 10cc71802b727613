-- The fields of bytes, of more bytes and of fewer; and that an input begins with one frame.
use Rattle.std.proofs.Common.{◌≡◌, ℕ, ◌<◌, ◌≤◌, List, ◌++◌, length, take, get_or, refl, sym, ◌∙◌, ap, subst, inl, inr, arith}
use Rattle.std.proofs.lemmas.List.{get_or_append_left, get_or-take, length-append, length-take-le, take-append-le}
use Rattle.amqp_frame_headers.specs.declared.frame_error.FrameError.{FrameError}
use Rattle.amqp_frame_headers.specs.declared.frame_error.FrameError.TheVariants.{SizeBelowHeader, SizeAboveMaximum}
use Rattle.amqp_frame_headers.specs.declared.frame_error.FrameError.TheVariants.{DataOffsetBelowHeader, DataOffsetPastSize, UnknownType}
use Rattle.amqp_frame_headers.specs.declared.frame_error.FrameError.TheVariants.{SaslAboveLimit, NotProtocolHeader}
use Rattle.amqp_frame_headers.specs.declared.frame_header.FrameKind.{FrameKind}
use Rattle.amqp_frame_headers.specs.declared.frame_header.FrameKind.TheVariants.{Amqp, Sasl}
use Rattle.amqp_frame_headers.specs.declared.frame_header.FrameHeader.{FrameHeader}
use Rattle.amqp_frame_headers.specs.Frames.{size_of, data_offset_of, type_of, HasSize, HasDataOffset, HasType, IsOfKind, IsFrame, BeginsWithFrame, FrameFault}

-- Both have n bytes, and the first n are the same.
pub record Agree (n : ℕ) (xs ys : List ℕ) : Type 0 where
  pub there : n ≤ length ys
  pub same : (i : ℕ) → i < n → get_or xs i 0 ≡ get_or ys i 0

pub agree-append : (n : ℕ) (xs more : List ℕ) → n ≤ length xs → Agree n xs (xs ++ more)
agree-append n xs more h = record {
  there = omega (arith, length-append xs more);
  same = λ i l. sym (get_or_append_left xs more 0 i (omega arith));
}

pub agree-take : (n m : ℕ) (xs : List ℕ) → n ≤ m → m ≤ length xs → Agree n xs (take m xs)
agree-take n m xs h k = record {
  there = omega (arith, length-take-le m xs k);
  same = λ i l. sym (get_or-take m xs i 0 (omega arith));
}

pub agree-take_back : (n m : ℕ) (xs : List ℕ) → n ≤ m → m ≤ length xs → Agree n (take m xs) xs
agree-take_back n m xs h k = record {
  there = omega arith;
  same = λ i l. get_or-take m xs i 0 (omega arith);
}

pub agree_fewer : (n m : ℕ) (xs ys : List ℕ) → n ≤ m → Agree m xs ys → Agree n xs ys
agree_fewer n m xs ys h a = record {
  there = omega arith;
  same = λ i l. a.same i (omega arith);
}

pub size-agree : (xs ys : List ℕ) → Agree 4 xs ys → size_of xs ≡ size_of ys
unfolding size_of
size-agree xs ys a =
    omega (arith, a.same 0 (omega arith), a.same 1 (omega arith), a.same 2 (omega arith), a.same 3 (omega arith))

pub has_size-agree : (max : ℕ) (xs ys : List ℕ) → Agree 4 xs ys → HasSize max xs → HasSize max ys
has_size-agree max xs ys a h =
    let e : size_of xs ≡ size_of ys = size-agree xs ys a in
    record { there = a.there; least = omega arith; most = omega arith }

pub has_data_offset-agree : (max : ℕ) (xs ys : List ℕ) → Agree 5 xs ys → HasDataOffset max xs → HasDataOffset max ys
has_data_offset-agree max xs ys a h =
    let four : Agree 4 xs ys = agree_fewer 4 5 xs ys (omega arith) a in
    let e : size_of xs ≡ size_of ys = size-agree xs ys four in
    let o : data_offset_of xs ≡ data_offset_of ys = a.same 4 (omega arith) in
    record {
      size = has_size-agree max xs ys four h.size;
      there = a.there;
      least = omega (arith, o, h.least);
      most = omega (arith, e, o, h.most);
    }

pub has_type-agree : (max : ℕ) (xs ys : List ℕ) → Agree 6 xs ys → HasType max xs → HasType max ys
has_type-agree max xs ys a h =
    let five : Agree 5 xs ys = agree_fewer 5 6 xs ys (omega arith) a in
    let e : size_of xs ≡ size_of ys = size-agree xs ys (agree_fewer 4 6 xs ys (omega arith) a) in
    let t : type_of xs ≡ type_of ys = a.same 5 (omega arith) in
    record {
      data_offset = has_data_offset-agree max xs ys five h.data_offset;
      there = a.there;
      known = elim h.known [ inl p ↦ inl (sym t ∙ p) | inr p ↦ inr (sym t ∙ p.0, omega (arith, e, p.1)) ];
    }

-- The first m bytes, if they are a header and more, have the same type.
pub has_type-take : (max m : ℕ) (xs : List ℕ) → 6 ≤ m → m ≤ length xs → HasType max xs → HasType max (take m xs)
has_type-take max m xs h k = has_type-agree max xs (take m xs) (agree-take 6 m xs h k)

-- A fault stays when bytes are added.
pub fault_longer : (max : ℕ) (input more : List ℕ) (e : FrameError) → FrameFault max input e → FrameFault max (input ++ more) e
fault_longer max input more SizeBelowHeader f =
    let a : Agree 4 input (input ++ more) = agree-append 4 input more f.0 in
    (a.there, omega (arith, size-agree input (input ++ more) a, f.1))
fault_longer max input more SizeAboveMaximum f =
    let a : Agree 4 input (input ++ more) = agree-append 4 input more f.0 in
    let e : size_of input ≡ size_of (input ++ more) = size-agree input (input ++ more) a in
    (a.there, omega (arith, e, f.1), omega (arith, e, f.2))
fault_longer max input more DataOffsetBelowHeader f =
    let a : Agree 5 input (input ++ more) = agree-append 5 input more f.1 in
    let four : Agree 4 input (input ++ more) = agree_fewer 4 5 input (input ++ more) (omega arith) a in
    (has_size-agree max input (input ++ more) four f.0, a.there, omega (arith, a.same 4 (omega arith), f.2))
fault_longer max input more DataOffsetPastSize f =
    let a : Agree 5 input (input ++ more) = agree-append 5 input more f.1 in
    let four : Agree 4 input (input ++ more) = agree_fewer 4 5 input (input ++ more) (omega arith) a in
    let e : size_of input ≡ size_of (input ++ more) = size-agree input (input ++ more) four in
    let o : data_offset_of input ≡ data_offset_of (input ++ more) = a.same 4 (omega arith) in
    (has_size-agree max input (input ++ more) four f.0, a.there, omega (arith, o, f.2), omega (arith, e, o, f.3))
fault_longer max input more (UnknownType code) f =
    let a : Agree 6 input (input ++ more) = agree-append 6 input more f.1 in
    let five : Agree 5 input (input ++ more) = agree_fewer 5 6 input (input ++ more) (omega arith) a in
    let t : type_of input ≡ type_of (input ++ more) = a.same 5 (omega arith) in
    (has_data_offset-agree max input (input ++ more) five f.0, a.there, omega (arith, t, f.2), f.3 ∙ t)
fault_longer max input more SaslAboveLimit f =
    let a : Agree 6 input (input ++ more) = agree-append 6 input more f.1 in
    let five : Agree 5 input (input ++ more) = agree_fewer 5 6 input (input ++ more) (omega arith) a in
    let e : size_of input ≡ size_of (input ++ more) =
    size-agree input (input ++ more) (agree_fewer 4 6 input (input ++ more) (omega arith) a) in
    let t : type_of input ≡ type_of (input ++ more) = a.same 5 (omega arith) in
    (has_data_offset-agree max input (input ++ more) five f.0, a.there, sym t ∙ f.2, omega (arith, e, f.3))
fault_longer max input more NotProtocolHeader f = absurd f

-- A frame stays when bytes are added.
pub frame_longer : (max : ℕ) (input more : List ℕ) (h : FrameHeader) (x b : List ℕ) → BeginsWithFrame max input h x b
    → BeginsWithFrame max (input ++ more) h x b
frame_longer max input more h x b f = record {
  there = omega (arith, length-append input more, f.there);
  is = subst (λ (l : List ℕ). IsFrame max l h x b) (sym (take-append-le h.size input more f.there)) f.is;
}

-- A frame that begins an input has a whole header.
pub eight_bytes : (max : ℕ) (input : List ℕ) (h : FrameHeader) (x b : List ℕ) → BeginsWithFrame max input h x b → 8 ≤ h.size
eight_bytes max input h x b f = omega (arith, f.is.sound.data_offset.size.least, f.is.size)

-- The size of the frame that begins an input is SIZE.
pub size_is : (max : ℕ) (input : List ℕ) (h : FrameHeader) (x b : List ℕ) → BeginsWithFrame max input h x b → h.size ≡ size_of input
size_is max input h x b f =
    let least : 8 ≤ h.size = eight_bytes max input h x b f in
    f.is.size ∙ sym (size-agree input (take h.size input) (agree-take 4 h.size input (omega arith) f.there))

-- An input that begins with a frame breaks no rule.
pub frame_sound : (max : ℕ) (input : List ℕ) (h : FrameHeader) (x b : List ℕ) → BeginsWithFrame max input h x b → HasType max input
frame_sound max input h x b f =
    let least : 8 ≤ h.size = eight_bytes max input h x b f in
    has_type-agree max (take h.size input) input (agree-take_back 6 h.size input (omega arith) f.there) f.is.sound

same_kind : (bytes : List ℕ) (j k : FrameKind) → IsOfKind bytes j → IsOfKind bytes k → j ≡ k
same_kind bytes (Amqp c) (Amqp d) p q = ap (λ (n : ℕ). Amqp n) (p.1 ∙ sym q.1)
same_kind bytes (Amqp c) Sasl p q = absurd (omega (arith, p.0, q))
same_kind bytes Sasl (Amqp d) p q = absurd (omega (arith, p, q.0))
same_kind bytes Sasl Sasl p q = refl

abbrev header_from : ℕ → ℕ → FrameKind → FrameHeader
header_from s d k = record { size = s; data_offset = d; kind = k }

same_header : (h k : FrameHeader) → h.size ≡ k.size → h.data_offset ≡ k.data_offset → h.kind ≡ k.kind → h ≡ k
same_header h k s d j =
    ap (λ (n : ℕ). header_from n h.data_offset h.kind) s ∙ ap (λ (n : ℕ). header_from k.size n h.kind) d
    ∙ ap (λ (n : FrameKind). header_from k.size k.data_offset n) j

-- Bytes are at most one frame.
frame_once : (max limit : ℕ) (bytes : List ℕ) (h k : FrameHeader) (x y b c : List ℕ) → IsFrame max bytes h x b → IsFrame limit bytes k y c
    → (h ≡ k) × (x ≡ y) × (b ≡ c)
frame_once max limit bytes h k x y b c f g = (
  same_header h k (f.size ∙ sym g.size) (f.data_offset ∙ sym g.data_offset) (same_kind bytes h.kind k.kind f.kind g.kind),
  f.extended_is ∙ sym g.extended_is,
  f.body_is ∙ sym g.body_is,
)

pub one_frame : (max limit : ℕ) (input : List ℕ) (h k : FrameHeader) (x y b c : List ℕ) → BeginsWithFrame max input h x b
    → BeginsWithFrame limit input k y c → (h ≡ k) × (x ≡ y) × (b ≡ c)
one_frame max limit input h k x y b c f g =
    let e : k.size ≡ h.size = size_is limit input k y c g ∙ sym (size_is max input h x b f) in
    frame_once max limit (take h.size input) h k x y b c f.is (subst (λ (n : ℕ). IsFrame limit (take n input) k y c) e g.is)
