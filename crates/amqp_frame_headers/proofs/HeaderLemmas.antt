-- Protocol headers: what an input agrees with, and that it begins with one header.
use Rattle.std.proofs.Common.{◌≡◌, ℕ, ◌+◌, ◌≤◌, List, ◌++◌, length, take, refl, sym, ◌∙◌, ap, inl, inr, arith}
use Rattle.std.specs.Prelude.{codes}
use Rattle.std.proofs.lemmas.Bool.Decides.{leb_tells}
use Rattle.std.proofs.lemmas.List.{length-append, length-take, take-append-le, take-take, take_all}
use Rattle.amqp_frame_headers.specs.declared.frame_error.FrameError.{FrameError}
use Rattle.amqp_frame_headers.specs.declared.protocol_header.ProtocolHeader.{ProtocolHeader}
use Rattle.amqp_frame_headers.specs.Headers.{protocol_header_bytes, AgreesWithName, BeginsWithHeader, NeedsHeader, IsNoHeader}

-- A whole header is eight bytes of the input.
pub eight_there : (input : List ℕ) (h : ProtocolHeader) → BeginsWithHeader input h → 8 ≤ length input
eight_there input h begins = omega (arith, ap length begins, length-take 8 input)

pub header_agrees : (input : List ℕ) (h : ProtocolHeader) → BeginsWithHeader input h → AgreesWithName input
header_agrees input h begins =
    let eight : 8 ≤ length input = eight_there input h begins in
    sym (take-take 4 8 input (omega arith)) ∙ ap (λ (l : List ℕ). take 4 l) begins ∙ sym (take_all (length input) (codes "AMQP") (omega arith))

abbrev header_from : ℕ → ℕ → ℕ → ℕ → ProtocolHeader
header_from id major minor revision = record { id = record { 0 = id }; major = major; minor = minor; revision = revision }

same_header : (h k : ProtocolHeader) → h.id.0 ≡ k.id.0 → h.major ≡ k.major → h.minor ≡ k.minor → h.revision ≡ k.revision → h ≡ k
same_header h k i a b r =
    ap (λ (n : ℕ). header_from n h.major h.minor h.revision) i ∙ ap (λ (n : ℕ). header_from k.id.0 n h.minor h.revision) a
    ∙ ap (λ (n : ℕ). header_from k.id.0 k.major n h.revision) b ∙ ap (λ (n : ℕ). header_from k.id.0 k.major k.minor n) r

pub one_header : (input : List ℕ) (h k : ProtocolHeader) → BeginsWithHeader input h → BeginsWithHeader input k → h ≡ k
one_header input h k p q =
    let e : protocol_header_bytes h ≡ protocol_header_bytes k = sym p ∙ q in
    same_header h k (cc e) (cc e) (cc e) (cc e)

pub header_longer : (input more : List ℕ) (h : ProtocolHeader) → BeginsWithHeader input h → BeginsWithHeader (input ++ more) h
header_longer input more h begins = take-append-le 8 input more (eight_there input h begins) ∙ begins

pub header_written : (h : ProtocolHeader) (more : List ℕ) → BeginsWithHeader (protocol_header_bytes h ++ more) h
header_written h more = refl

-- What more bytes agree with, their first ones do.
agrees_shorter : (input more : List ℕ) → AgreesWithName (input ++ more) → AgreesWithName input
agrees_shorter input more agrees =
    let l : length (input ++ more) ≡ length input + length more = length-append input more in
    elim (leb_tells 4 (length input)) [
      | inl four ↦
          sym (take-append-le 4 input more four.1) ∙ agrees ∙ take_all (length (input ++ more)) (codes "AMQP") (omega (arith, four.1, l))
          ∙ sym (take_all (length input) (codes "AMQP") (omega (arith, four.1)))
      | inr few ↦
          take_all 4 input (omega (arith, few.1)) ∙ sym (take_all (length input) input (omega arith))
          ∙ sym (take-append-le (length input) input more (omega arith))
          ∙ sym (take-take (length input) 4 (input ++ more) (omega (arith, few.1)))
          ∙ ap (λ (s : List ℕ). take (length input) s) agrees
          ∙ take-take (length input) (length (input ++ more)) (codes "AMQP") (omega (arith, l))
    ]

pub no_header_longer : (input more : List ℕ) (e : FrameError) → IsNoHeader input e → IsNoHeader (input ++ more) e
no_header_longer input more e none = record {
  differs = λ agrees. none.differs (agrees_shorter input more agrees);
  error = none.error;
}

-- ---- one answer

pub header_or_need : (input : List ℕ) (h : ProtocolHeader) (n : ℕ) → BeginsWithHeader input h → NeedsHeader input n → ⊥
header_or_need input h n begins needs =
    let eight : 8 ≤ length input = eight_there input h begins in
    omega (arith, needs.missing, needs.rest)

pub header_or_none : (input : List ℕ) (h : ProtocolHeader) (e : FrameError) → BeginsWithHeader input h → IsNoHeader input e → ⊥
header_or_none input h e begins none = none.differs (header_agrees input h begins)

pub need_or_none : (input : List ℕ) (n : ℕ) (e : FrameError) → NeedsHeader input n → IsNoHeader input e → ⊥
need_or_none input n e needs none = none.differs needs.agrees
