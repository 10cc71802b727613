-- What a term is but for the terms that it holds, and how that is ordered and hashed.
use Rattle.std.proofs.Common.{ℕ, Bool, true, false, ℤ, pos, List, [], ◌++◌}
use Rattle.std.specs.declared.cmp.Ordering.{Ordering}
use Rattle.std.specs.Ordering.{nat_cmp, int_cmp, bool_cmp, ordering_then}
use Rattle.std.specs.Cmp.Lexicographic.{slice_cmp}
use Rattle.std.specs.Hash as fed
use Rattle.amqp_model.specs.Term.{Primitive, Container, list, map, array, Descriptor, name, code, Term, leaf, container, described}
use Rattle.amqp_model.specs.Term.{kept, barred}
use Rattle.amqp_lookahead.specs.Kinds.{kind_of}
use Rattle.amqp_codec.specs.PrimitiveTypes.{truth as truth_of, number as number_of, integer as integer_of, content}
use Rattle.amqp_values.specs.declared.leaf.Leaf.{Leaf}

-- The place of the kind among the kinds, and what the kind has of a truth, a number and bytes: of the others false, zero or none.
pub record Label : Type 0 where
  pub place : ℕ
  pub truth : Bool
  pub number : ℕ
  pub integer : ℤ
  pub bytes : List ℕ

abbrev pub label : Leaf → Label
label l = record { place = l.place; truth = l.truth; number = l.number; integer = l.integer; bytes = l.bytes.now }

-- Of a kind that says all, an unsigned number, a signed one, and bytes.
abbrev pub bare : ℕ → Label
bare k = record { place = k; truth = false; number = 0; integer = pos 0; bytes = [] }

abbrev pub with_number : ℕ → ℕ → Label
with_number k n = record { place = k; truth = false; number = n; integer = pos 0; bytes = [] }

abbrev pub with_integer : ℕ → ℤ → Label
with_integer k z = record { place = k; truth = false; number = 0; integer = z; bytes = [] }

abbrev pub with_bytes : ℕ → List ℕ → Label
with_bytes k b = record { place = k; truth = false; number = 0; integer = pos 0; bytes = b }

-- Part 1, sections 1.6.1 to 1.6.21: the kinds of primitives stand in their order there.
abbrev pub primitive_label : Primitive → Label
primitive_label p =
    record { place = kind_of p; truth = truth_of p; number = number_of p; integer = integer_of p; bytes = content p }

-- A descriptor: names come before codes.
abbrev pub descriptor_label : ℕ → Descriptor → Label
descriptor_label k (name s) = with_bytes k s
descriptor_label k (code n) = record { place = k; truth = true; number = n; integer = pos 0; bytes = [] }

-- Behind primitives stand described values, lists, maps and arrays.
abbrev pub container_place : Container → ℕ
container_place list = 20
container_place map = 21
container_place array = 22

abbrev pub label_of : Term → Label
label_of (leaf p) = primitive_label p
label_of (described d t) = descriptor_label 19 d
label_of (container k ts) = bare (container_place k)
label_of (kept b) = bare 23
label_of (barred r) = bare 23

-- The order of labels: by the first of these that differ.
abbrev pub label_cmp : Label → Label → Ordering
label_cmp l m =
    ordering_then (nat_cmp l.place m.place)
    (ordering_then (bool_cmp l.truth m.truth)
    (ordering_then (nat_cmp l.number m.number) (ordering_then (int_cmp l.integer m.integer) (slice_cmp nat_cmp l.bytes m.bytes))))

-- What a hasher is fed of a label.
abbrev pub label_fed : Label → fed.HashWrites
label_fed l = fed.u8 l.place ++ fed.bool l.truth ++ fed.u64 l.number ++ fed.i64 l.integer ++ fed.slice fed.u8 l.bytes
