-- Why values aren't written.
use Rattle.std.proofs.Common.{◌≡◌, ◌⊎◌, ◌++◌, ◌<◌, ◌^◌, ℕ, List, length, take, drop, inl, inr, ap, sym, ◌∙◌, append_assoc, arith}
use Rattle.std.specs.Prelude.{Result, Ok, Err, OnOk}
use Rattle.std.proofs.Math.Seq.{take-append_seam}
use Rattle.std.proofs.lemmas.List.{take-append-drop}
use Rattle.amqp_wire.specs.declared.error.Error.{Error}
use Rattle.amqp_wire.specs.declared.error.Error.TheVariants.{Memory}
use Rattle.amqp_encoder.specs.Refused.{TermHasCause}
use Rattle.amqp_codec.specs.TermType.{TermType}
use Rattle.amqp_codec.specs.Written.{Writing, AreUnwritable}
use Rattle.amqp_frame_headers.specs.declared.frame_header.FrameKind.{FrameKind}
use Rattle.amqp_frame_headers.specs.declared.frame_header.FrameKind.TheVariants.{Amqp, Sasl}
use Rattle.amqp_frame_headers.specs.declared.frame_header.FrameHeader.{FrameHeader}
use Rattle.amqp_frame_headers.specs.Frames.{greatest_size, header_of_body}
use Rattle.amqp_frames.specs.Writing.{IsUnwritable}

-- What refuses a value's canonical terms refuses its one term.
pub unwritable : {T : Type 0} (u : TermType T) (w : Writing T)
    → ((v : T) (e : Error) → w.is_value v → AreUnwritable (w.canons v) e → TermHasCause (u.canon v) e) → (v : T) (e : Error)
    → w.is_value v → (e ≡ Memory) ⊎ AreUnwritable (w.canons v) e → IsUnwritable u v e
unwritable u w law v e is_value (inl memory) = inl memory
unwritable u w law v e is_value (inr cause) = inr (law v e is_value cause)

-- If what stands before a seam and some bytes behind it are kept, the former is.
pub kept_front : (n : ℕ) (front more ys : List ℕ) → n ≡ length front → take (length (front ++ more)) ys ≡ front ++ more → take n ys ≡ front
kept_front n front more ys e kept =
    let m = length (front ++ more) in
    let whole : ys ≡ front ++ (more ++ drop m ys) =
    sym (take-append-drop m ys) ∙ (ap (λ xs. xs ++ drop m ys) kept ∙ append_assoc front more (drop m ys)) in
    rw e (ap (take (length front)) whole ∙ take-append_seam front (more ++ drop m ys))

-- What holds where a result is `Ok` does so if something else follows from it.
pub on_ok : {X Y : Type 0} (P Q : Type 0) (r : Result X Y) → (P → Q) → OnOk r P → OnOk r Q
on_ok P Q (Ok x) f h = f h
on_ok P Q (Err y) f h = tt

-- No frame has more bytes than a number of 32 bits says.
pub greatest_below : (kind : FrameKind) (max : ℕ) → max < 2 ^ 32 → greatest_size kind max < 2 ^ 32
greatest_below (Amqp channel) max small = small
greatest_below Sasl max small = omega arith

-- A header is that of a body as long as another.
pub sized : (kind : FrameKind) (n m : ℕ) (header : FrameHeader) → header ≡ header_of_body kind n → n ≡ m → header ≡ header_of_body kind m
sized kind n m header is same = is ∙ ap (header_of_body kind) same

-- What was written in four pieces is what stood there, a head, and a body.
pub framed : (front head row payload items whole body : List ℕ) → items ≡ (front ++ head) ++ row → whole ≡ items ++ payload
    → row ++ payload ≡ body → whole ≡ front ++ (head ++ body)
framed front head row payload items whole body e f g =
    f
    ∙ (ap (λ xs. xs ++ payload) e
    ∙ (append_assoc (front ++ head) row payload
    ∙ (append_assoc front head (row ++ payload) ∙ ap (λ xs. front ++ (head ++ xs)) g)))
