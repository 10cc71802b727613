-- Values behind a descriptor of their own (Part 1, section 1.2).
use Rattle.std.proofs.Common.{◌≡◌, true, refl}
use Rattle.amqp_model.specs.Term.{Descriptor}
use Rattle.amqp_model.specs.FieldType.{Norm, normal, unchanged, by_norm}
use Rattle.amqp_lookahead.specs.Members.{descriptor_of}
use Rattle.amqp_codec.specs.TermType.{TermType}
use Rattle.amqp_codec.specs.DescribedPairType.{described_pair}
use Rattle.amqp_codec.specs.DescribedPairMeaning.{any_descriptor, norm_second}
use Rattle.amqp_codec.specs.DescribedPairWriting.{pair_writing, pair_agreement}
use Rattle.amqp_codec.specs.Wrappers.{via}
use Rattle.amqp_codec.specs.Written.{Writing}
use Rattle.amqp_codec.specs.Agreement.{Agreement, via_writing, via_agreement}
use Rattle.amqp_described.specs.DescribedReading.{described_faults}
use Rattle.amqp_described.specs.declared.described.Described.{Described}

abbrev pub pair_of : {T : Type 0} → Described T → Descriptor × T
pair_of v = (descriptor_of v.descriptor, v.value)

abbrev pub norm_described : {T : Type 0} → Norm T → Norm (Described T)
norm_described unchanged = unchanged
norm_described (by_norm f) = by_norm (λ v. record v { value = f v.value })

pub described_normal : {T : Type 0} (n : Norm T) (v : Described T)
    → pair_of (normal (norm_described n) v) ≡ normal (norm_second n) (pair_of v)
described_normal unchanged v = refl
described_normal (by_norm f) v = refl

-- A described value is as its descriptor, which may be any, and its value.
abbrev pub described_of : {T : Type 0} → TermType T → TermType (Described T)
described_of u =
    via (described_pair any_descriptor u (described_faults u.faults) true) pair_of (norm_described u.norm) (described_normal u.norm)

pub described_agreement : {T : Type 0} {u : TermType T} {w : Writing T} → Agreement u w
    → Agreement (described_of u) (via_writing pair_of (pair_writing any_descriptor w))
described_agreement {u = u} a =
    via_agreement pair_of (norm_described u.norm) (described_normal u.norm)
    (pair_agreement any_descriptor (described_faults u.faults) true a)
