-- Protocol headers (Part 2, section 2.2; Part 5, sections 5.2.1 and 5.3.2).
use Rattle.std.specs.Prelude.{◌≡◌, ℕ, ◌+◌, ◌<◌, ◌⊎◌, List, [], ◌∷◌, ◌++◌, length, take, codes, Result, Ok, Err, ⊤}
use Rattle.std.specs.Fmt.{decimal}
use Rattle.amqp_frame_headers.specs.declared.frame_error.FrameError.{FrameError}
use Rattle.amqp_frame_headers.specs.declared.frame_error.FrameError.TheVariants.{NotProtocolHeader}
use Rattle.amqp_frame_headers.specs.declared.protocol_header.ProtocolHeader.{ProtocolHeader}
use Rattle.amqp_frame_headers.specs.declared.protocol_header.HeaderStep.{HeaderStep}
use Rattle.amqp_frame_headers.specs.declared.protocol_header.HeaderStep.TheVariants.{Needs, Header}

-- the eight bytes: the name, the protocol id, the version
abbrev pub protocol_header_bytes : ProtocolHeader → List ℕ
protocol_header_bytes h = codes "AMQP" ++ h.id.0 ∷ h.major ∷ h.minor ∷ h.revision ∷ []

-- what is printed: the name, the protocol id, the version
abbrev pub protocol_header_text : ProtocolHeader → List ℕ
protocol_header_text h =
    codes "AMQP " ++ decimal h.id.0 ++ codes " " ++ decimal h.major ++ codes "." ++ decimal h.minor ++ codes "." ++ decimal h.revision

-- AMQP is 0, TLS is 2 and SASL is 3, each in version 1.0.0.
pub record IsSupported (h : ProtocolHeader) : Type 0 where
  pub known : (h.id.0 ≡ 0) ⊎ (h.id.0 ≡ 2) ⊎ (h.id.0 ≡ 3)
  pub major : h.major ≡ 1
  pub minor : h.minor ≡ 0
  pub revision : h.revision ≡ 0

-- The first eight bytes are those of the header.
abbrev pub BeginsWithHeader : List ℕ → ProtocolHeader → Type 0
BeginsWithHeader input h = take 8 input ≡ protocol_header_bytes h

-- The first four bytes, as far as they are there, are those of the name.
abbrev pub AgreesWithName : List ℕ → Type 0
AgreesWithName input = take 4 input ≡ take (length input) (codes "AMQP")

-- The input agrees with the name, and lacks n of the eight bytes.
pub record NeedsHeader (input : List ℕ) (n : ℕ) : Type 0 where
  pub agrees : AgreesWithName input
  pub missing : 0 < n
  pub rest : length input + n ≡ 8

-- The input doesn't agree with the name.
pub record IsNoHeader (input : List ℕ) (e : FrameError) : Type 0 where
  pub differs : AgreesWithName input → ⊥
  pub error : e ≡ NotProtocolHeader

-- P of the header, if one is returned
abbrev pub IfHeader : Result HeaderStep FrameError → (ProtocolHeader → Type 0) → Type 0
IfHeader (Ok (Header h)) P = P h
IfHeader (Ok (Needs n)) P = ⊤
IfHeader (Err e) P = ⊤

-- P of the number of bytes that are needed, if it is returned
abbrev pub IfHeaderNeeds : Result HeaderStep FrameError → (ℕ → Type 0) → Type 0
IfHeaderNeeds (Ok (Header h)) P = ⊤
IfHeaderNeeds (Ok (Needs n)) P = P n
IfHeaderNeeds (Err e) P = ⊤
