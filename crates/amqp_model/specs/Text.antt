-- The canonical text of a term: of all spellings that Part 1 allows, one that this project chooses.
use Rattle.std.specs.Prelude.{ℕ, zero, ◌+◌, Bool, true, false, ◌&&◌, cond, eqb, ltb, ℤ, pos, negsuc, List, [], ◌∷◌, ◌++◌, length, Option}
use Rattle.std.specs.Prelude.{Some, None, option_map}
use Rattle.std.specs.Int.{Width, w8, w16, w32, w64, bytes_high_first, to_be_bytes, cast_unsigned}
use Rattle.amqp_model.specs.Term.{Primitive, null, boolean, ubyte, ushort, uint, ulong, byte, short, int, long, char, timestamp, decimal32}
use Rattle.amqp_model.specs.Term.{decimal64, decimal128, uuid, binary, string, symbol, Container, list, map, array, Term, Terms, leaf}
use Rattle.amqp_model.specs.Term.{container, described, kept, barred, none, more, Descriptor, count}
use Rattle.amqp_model.specs.Spelling.{descriptor_value}

-- Part 1, section 1.2.4: where a value stands: by itself, or as the first item of an array, which brings the constructor of all,
-- or as a later one, which is data alone.
pub data Place : Type 0 where
  Alone First Later : Place

-- Where the item stands that follows.
abbrev pub next : Place → Place
next Alone = Alone
next First = Later
next Later = Later

-- Where the first item of a container stands.
abbrev pub first_place : Container → Place
first_place list = Alone
first_place map = Alone
first_place array = First

-- A number from -128 to 127.
abbrev pub is_small : ℤ → Bool
is_small (pos n) = ltb n 128
is_small (negsuc n) = ltb n 128

abbrev pub signed_bytes : Width → ℤ → List ℕ
signed_bytes w z = to_be_bytes w (cast_unsigned w z)

-- Part 1, section 1.2.2: a size of this width, and the content.
abbrev pub with_size : ℕ → List ℕ → List ℕ
with_size width content = bytes_high_first width (length content) ++ content

-- Part 1, sections 1.2.4 and 1.6: the code and the data of a primitive among the items of an array, one code for each type.
abbrev pub wide : Primitive → ℕ × List ℕ
wide null = (0x40, [])
wide (boolean true) = (0x56, 1 ∷ [])
wide (boolean false) = (0x56, 0 ∷ [])
wide (ubyte n) = (0x50, to_be_bytes w8 n)
wide (ushort n) = (0x60, to_be_bytes w16 n)
wide (uint n) = (0x70, to_be_bytes w32 n)
wide (ulong n) = (0x80, to_be_bytes w64 n)
wide (byte z) = (0x51, signed_bytes w8 z)
wide (short z) = (0x61, signed_bytes w16 z)
wide (int z) = (0x71, signed_bytes w32 z)
wide (long z) = (0x81, signed_bytes w64 z)
wide (char n) = (0x73, to_be_bytes w32 n)
wide (timestamp z) = (0x83, signed_bytes w64 z)
wide (decimal32 b) = (0x74, b)
wide (decimal64 b) = (0x84, b)
wide (decimal128 b) = (0x94, b)
wide (uuid b) = (0x98, b)
wide (binary s) = (0xb0, with_size 4 s)
wide (string s) = (0xb1, with_size 4 s)
wide (symbol s) = (0xb3, with_size 4 s)

-- Part 1, section 1.6: the code and the data that it has elsewhere, the shortest.
abbrev pub shortest : Primitive → ℕ × List ℕ
shortest (boolean true) = (0x41, [])
shortest (boolean false) = (0x42, [])
shortest (uint n) = cond (eqb n 0) (0x43, []) (cond (ltb n 256) (0x52, to_be_bytes w8 n) (wide (uint n)))
shortest (ulong n) = cond (eqb n 0) (0x44, []) (cond (ltb n 256) (0x53, to_be_bytes w8 n) (wide (ulong n)))
shortest (int z) = cond (is_small z) (0x54, signed_bytes w8 z) (wide (int z))
shortest (long z) = cond (is_small z) (0x55, signed_bytes w8 z) (wide (long z))
shortest (binary s) = cond (ltb (length s) 256) (0xa0, with_size 1 s) (wide (binary s))
shortest (string s) = cond (ltb (length s) 256) (0xa1, with_size 1 s) (wide (string s))
shortest (symbol s) = cond (ltb (length s) 256) (0xa3, with_size 1 s) (wide (symbol s))
shortest p = wide p

abbrev pub spell : ℕ × List ℕ → List ℕ
spell s = s.0 ∷ s.1

abbrev pub primitive_text : Place → Primitive → List ℕ
primitive_text Alone p = spell (shortest p)
primitive_text First p = spell (wide p)
primitive_text Later p = (wide p).1

-- Part 1, section 1.2: a descriptor stands after a 0.
abbrev pub descriptor_text : Place → Descriptor → List ℕ
descriptor_text Later d = []
descriptor_text _ d = 0 ∷ spell (shortest (descriptor_value d))

-- Part 1, sections 1.6.22 to 1.6.24: the codes with one byte for the size, and with four.
abbrev pub short_code : Container → ℕ
short_code list = 0xc0
short_code map = 0xc1
short_code array = 0xe0

abbrev pub wide_code : Container → ℕ
wide_code list = 0xd0
wide_code map = 0xd1
wide_code array = 0xf0

-- Part 1, section 1.2.3: the size of the count and the content, and the count, in this width each.
abbrev pub size_and_count : ℕ → ℕ → ℕ → List ℕ
size_and_count width n content = bytes_high_first width (width + content) ++ bytes_high_first width n

-- Whether one byte each is enough. The size counts the count's byte too.
abbrev pub is_short : ℕ → ℕ → Bool
is_short n content = ltb content 255 && ltb n 256

abbrev pub compact_head : Container → ℕ → ℕ → List ℕ
compact_head k n content = cond (is_short n content) (short_code k ∷ size_and_count 1 n content) (wide_code k ∷ size_and_count 4 n content)

-- Part 1, section 1.2.3: what stands before the content of a container of n items, of so many bytes of content.
-- A list without items is one byte by itself (section 1.6.22).
abbrev pub head : Place → Container → ℕ → ℕ → List ℕ
head First k n content = wide_code k ∷ size_and_count 4 n content
head Later k n content = size_and_count 4 n content
head Alone list zero content = 0x45 ∷ []
head Alone k n content = compact_head k n content

-- Part 1, section 1.2.4: the content of a container of n items: the items, or for an array without items null's constructor.
abbrev pub content_of : Container → ℕ → List ℕ → List ℕ
content_of array zero items = 0x40 ∷ []
content_of k n items = items

abbrev pub container_text : Place → Container → ℕ → List ℕ → List ℕ
container_text place k n content = head place k n (length content) ++ content

-- The canonical bytes of a term in its place.
unfoldable mutual
  pub text : Term → Place → List ℕ
  text (leaf p) place = primitive_text place p
  text (container k ts) place = container_text place k (count ts) (content_of k (count ts) (texts ts (first_place k)))
  text (described d t) place = descriptor_text place d ++ text t place
  text (kept b) place = b
  text (barred r) place = []

  pub texts : Terms → Place → List ℕ
  texts none place = []
  texts (more t ts) place = text t place ++ texts ts (next place)

-- The bytes that its items take, and how many they are, of each list, map and array, in the order in which they begin.
unfoldable mutual
  pub sizes_of : Term → List (ℕ × ℕ)
  sizes_of (container k ts) = (length (texts ts (first_place k)), count ts) ∷ all_sizes ts
  sizes_of (described d t) = sizes_of t
  sizes_of _ = []

  pub all_sizes : Terms → List (ℕ × ℕ)
  all_sizes none = []
  all_sizes (more t ts) = sizes_of t ++ all_sizes ts

abbrev pub primitive_form : Primitive → Option (List Descriptor × ℕ)
primitive_form null = None
primitive_form p = Some ([], (wide p).0)

-- Part 1, section 1.2.4: the constructor that a term has in an array: its descriptors, outermost first, and the code of what stands under
-- them.
-- Null has none, nor has what brings a constructor of its own.
abbrev pub form : Term → Option (List Descriptor × ℕ)
form (leaf p) = primitive_form p
form (container k ts) = Some ([], wide_code k)
form (described d t) = option_map (λ f. (d ∷ f.0, f.1)) (form t)
form (kept b) = None
form (barred r) = None
