-- Sections of a message that are one value behind a descriptor (Part 3, section 3.2; Part 1, section 1.5).
use Rattle.std.proofs.Common.{◌≡◌, ℕ, true, List, [], ◌∷◌, refl, ap, arith, ltb}
use Rattle.std.proofs.lemmas.Bool.{ltb-true}
use Rattle.amqp_model.specs.Term.{Descriptor, name, code}
use Rattle.amqp_model.specs.Composite.{Table, Describes}
use Rattle.amqp_model.specs.FieldType.{Norm, normal, unchanged, by_norm}
use Rattle.amqp_decoder.specs.laws.OtherSource.{value}
use Rattle.amqp_decoder.specs.Primitives.{ReadsValue}
use Rattle.amqp_codec.specs.TermType.{TermType}
use Rattle.amqp_codec.specs.Wrappers.{Holds, norm_held, via}
use Rattle.amqp_codec.specs.Fieldless.{fieldless}
use Rattle.amqp_codec.specs.Composite.{table_of}
use Rattle.amqp_codec.specs.laws.Descriptor.{descriptor_short}
use Rattle.amqp_codec.specs.DescribedPairMeaning.{DescriptorType, norm_second}
use Rattle.amqp_codec.specs.DescribedPairType.{described_pair}
use Rattle.amqp_codec.specs.DescribedPairWriting.{pair_writing, pair_agreement}
use Rattle.amqp_codec.specs.Members.{Members}
use Rattle.amqp_codec.specs.OtherSource.{member_faults}
use Rattle.amqp_codec.specs.Written.{Writing}
use Rattle.amqp_codec.specs.Agreement.{Agreement, via_writing, via_agreement}
use Rattle.amqp_codec.specs.laws.Within.{value_shrinks}

-- The descriptor of a section: its code, which takes two bytes at most, and its name.
pub record Naming : Type 0 where
  pub code : ℕ
  pub name : List ℕ
  pub is_small : ltb code 256 ≡ true

-- The descriptor is the code or the name.
abbrev pub IsCalled : Naming → Descriptor → Type 0
IsCalled c (code n) = n ≡ c.code
IsCalled c (name s) = s ≡ c.name

-- as that of a composite without fields
abbrev pub as_table : Naming → Table (Unit {0})
as_table c = table_of (fieldless c.code c.name c.is_small)

pub called_describes : (c : Naming) (d : Descriptor) → IsCalled c d → Describes (as_table c) d
called_describes c (code n) h = h
called_describes c (name s) h = h

-- The one descriptor of a section, in both its spellings, of which the code is canonical.
abbrev pub called : Naming → DescriptorType (Unit {0})
called c = record {
  is_value = λ _. Unit {0};
  means = λ d _. IsCalled c d;
  canon = λ _. code c.code;
  one = λ d v w h k. refl;
  value = λ d v h. tt;
  canon_means = λ v i. refl;
  in_range = λ v i. (let s = ltb-true c.code 256 c.is_small in omega arith);
  valid = λ d v h i. tt;
  least = λ d v b h. descriptor_short (as_table c) c.is_small d b (called_describes c d h);
}

-- How what the descriptor describes is read.
abbrev pub content_of : {T : Type 0} → Naming → TermType T → Members T
content_of c u = record {
  names = (c.code, c.name) ∷ [];
  reads = λ i. ReadsValue u.means;
  faults = λ i. u.faults;
  takes_at = λ i. u.takes_memory;
  takes_memory = u.takes_memory;
  takes = λ i h. h;
  shrinks = λ i. value_shrinks u.means;
  reads_elsewhere = λ s i st v b. value s u.means;
}

module _ {V T : Type 0} (h : Holds V T) where
  -- a section is as its content, behind the one descriptor
  abbrev pub behind : V → Unit {0} × T
  behind v = (tt, h.get v)

  pub behind_normal : (n : Norm T) (v : V) → behind (normal (norm_held h n) v) ≡ normal (norm_second n) (behind v)
  behind_normal unchanged v = refl
  behind_normal (by_norm f) v = ap (λ x. (tt, x)) (h.is_put (f (h.get v)) v)

  -- The type of a section: what it holds, behind its descriptor. It looks at how the content stands where the content's type does.
  abbrev pub section_of : Naming → TermType T → TermType V
  section_of c u =
      via (described_pair (called c) u (member_faults (content_of c u)) u.takes_memory) behind (norm_held h u.norm) (behind_normal u.norm)

  -- How it is written.
  abbrev pub section_writing : Naming → Writing T → Writing V
  section_writing c w = via_writing behind (pair_writing (called c) w)

  pub section_agreement : (c : Naming) {u : TermType T} {w : Writing T} → Agreement u w → Agreement (section_of c u) (section_writing c w)
  section_agreement c {u = u} a =
      via_agreement behind (norm_held h u.norm) (behind_normal u.norm)
      (pair_agreement (called c) (member_faults (content_of c u)) u.takes_memory a)
