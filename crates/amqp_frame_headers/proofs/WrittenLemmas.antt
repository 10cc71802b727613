-- The bytes of a header, and then a body of that length, are a frame.
use Rattle.std.proofs.Common.{◌≡◌, ℕ, ◌+◌, ◌-◌, ◌^◌, ◌<◌, ◌≤◌, ◌⊎◌, List, [], ◌∷◌, ◌++◌, length, take, refl, sym, ◌∙◌, ap, subst, inl, inr, arith}
use Rattle.std.specs.Int.{w16, w32, to_be_bytes}
use Rattle.std.proofs.lemmas.Nat.{from_be_bytes-to_be_bytes_2, from_be_bytes-to_be_bytes_4}
use Rattle.std.proofs.lemmas.List.{take_all}
use Rattle.amqp_frame_headers.specs.declared.frame_header.FrameKind.{FrameKind}
use Rattle.amqp_frame_headers.specs.declared.frame_header.FrameKind.TheVariants.{Amqp, Sasl}
use Rattle.amqp_frame_headers.specs.Frames.{size_of, channel_of, IsOfKind, IsFrame, BeginsWithFrame, frame_header_bytes, header_of_body, MayHave}
use Rattle.amqp_frame_headers.proofs.FrameLemmas.{frame_longer}

-- Eight bytes with an empty extended header, and a body.
eight_and_body : (max : ℕ) (kind : FrameKind) (a b c d code high low : ℕ) (body : List ℕ)
    → size_of (a ∷ b ∷ c ∷ d ∷ 2 ∷ code ∷ high ∷ low ∷ body) ≡ 8 + length body → 8 + length body ≤ max
    → (code ≡ 0) ⊎ ((code ≡ 1) × (8 + length body ≤ 512)) → IsOfKind (a ∷ b ∷ c ∷ d ∷ 2 ∷ code ∷ high ∷ low ∷ body) kind
    → IsFrame max (a ∷ b ∷ c ∷ d ∷ 2 ∷ code ∷ high ∷ low ∷ body) (header_of_body kind (length body)) [] body
eight_and_body max kind a b c d code high low body size fits known is = record {
  sound = record {
    data_offset = record {
      size = record { there = omega arith; least = omega (arith, size); most = omega (arith, size, fits) };
      there = omega arith;
      least = omega arith;
      most = omega (arith, size);
    };
    there = omega arith;
    known = elim known [ inl p ↦ inl p | inr p ↦ inr (p.0, omega (arith, size, p.1)) ];
  };
  whole = omega (arith, size);
  size = sym size;
  data_offset = refl;
  kind = is;
  extended_is = refl;
  body_is = sym (ap (λ (n : ℕ). take (n - 8) body) size ∙ take_all (8 + length body - 8) body (omega arith));
}

size_written : (n code : ℕ) (rest : List ℕ) → n < 2 ^ 32 → size_of (to_be_bytes w32 n ++ 2 ∷ code ∷ rest) ≡ n
unfolding size_of
size_written n code rest fits = omega (arith, from_be_bytes-to_be_bytes_4 n fits)

channel_written : (a b c d offset code n : ℕ) (body : List ℕ) → n < 2 ^ 16
    → n ≡ channel_of (a ∷ b ∷ c ∷ d ∷ offset ∷ code ∷ (to_be_bytes w16 n ++ body))
unfolding channel_of
channel_written a b c d offset code n body fits = omega (arith, from_be_bytes-to_be_bytes_2 n fits)

frame_written : (max : ℕ) (kind : FrameKind) (body : List ℕ) → max < 2 ^ 32 → 8 + length body ≤ max → MayHave kind (8 + length body)
    → IsFrame max (frame_header_bytes (header_of_body kind (length body)) ++ body) (header_of_body kind (length body)) [] body
frame_written max (Amqp channel) body small fits may =
    eight_and_body max (Amqp channel) _ _ _ _ 0 _ _ body (size_written (8 + length body) 0 (to_be_bytes w16 channel ++ body) (omega (arith, small, fits))) fits
    (inl refl) (refl, channel_written _ _ _ _ 2 0 channel body may)
frame_written max Sasl body small fits may =
    eight_and_body max Sasl _ _ _ _ 1 0 0 body (size_written (8 + length body) 1 (0 ∷ 0 ∷ body) (omega (arith, small, fits))) fits
    (inr (refl, may)) refl

pub written_is_read : (max : ℕ) (kind : FrameKind) (body more : List ℕ) → max < 2 ^ 32 → 8 + length body ≤ max
    → MayHave kind (8 + length body)
    → BeginsWithFrame max (frame_header_bytes (header_of_body kind (length body)) ++ body ++ more) (header_of_body kind (length body)) [] body
written_is_read max kind body more small fits may =
    let bytes : List ℕ = frame_header_bytes (header_of_body kind (length body)) ++ body in
    let whole : IsFrame max bytes (header_of_body kind (length body)) [] body = frame_written max kind body small fits may in
    let long : length bytes ≡ 8 + length body = whole.whole ∙ sym whole.size in
    frame_longer max bytes more (header_of_body kind (length body)) [] body (record {
      there = omega (arith, long);
      is = subst (λ (l : List ℕ). IsFrame max l (header_of_body kind (length body)) [] body)
          (sym (take_all (8 + length body) bytes (omega (arith, long)))) whole;
    })
