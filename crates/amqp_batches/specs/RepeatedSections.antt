-- The sections of which several may stand in a message, one after another (Part 3, section 3.2).
use Rattle.std.proofs.Common.{[], ◌∷◌, codes, inl, refl, arith}
use Rattle.amqp_codec.specs.Wrappers.{Holds}
use Rattle.amqp_codec.specs.Written.{Writing}
use Rattle.amqp_sections.specs.SectionType.{section_writing}
use Rattle.amqp_sections.specs.Sections.{data_naming, sequence_naming}
use Rattle.amqp_batches.specs.Sections.{IsSectionCode, IsSection}

-- Part 3, section 3.2.6
data_code : IsSectionCode 0x75
data_code = record {
  is_code = (codes "amqp:data:binary", (5, omega arith, refl), inl refl);
  short = refl;
  names = (0x53, 0x75 ∷ [], refl, (refl, refl, tt));
}

-- Part 3, section 3.2.7
sequence_code : IsSectionCode 0x76
sequence_code = record {
  is_code = (codes "amqp:amqp-sequence:list", (6, omega arith, refl), inl refl);
  short = refl;
  names = (0x53, 0x76 ∷ [], refl, (refl, refl, tt));
}

pub data_section : {V T : Type 0} (h : Holds V T) (w : Writing T) → IsSection 0x75 (section_writing h data_naming w)
data_section h w = record { is_section = data_code; content = _; canon_is = λ v. refl }

pub sequence_section : {V T : Type 0} (h : Holds V T) (w : Writing T) → IsSection 0x76 (section_writing h sequence_naming w)
sequence_section h w = record { is_section = sequence_code; content = _; canon_is = λ v. refl }
