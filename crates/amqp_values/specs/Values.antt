-- The term that a value of any kind is (Part 1, section 1.6).
use Rattle.std.proofs.Common.{List, string_bytes}
use Rattle.amqp_model.specs.Term.{null, boolean, ubyte, ushort, uint, ulong, byte, short, int, long, char, timestamp, decimal32, decimal64}
use Rattle.amqp_model.specs.Term.{decimal128, uuid, binary, string, symbol, list, map, array, Term, Terms, leaf, container, described, none}
use Rattle.amqp_model.specs.Term.{more}
use Rattle.amqp_lookahead.specs.Members.{descriptor_of}
use Rattle.amqp_values.specs.declared.map.ValueMap.{ValueMap, out-ValueMap}
use Rattle.amqp_values.specs.declared.value.Value.{Value, Null, Bool, Ubyte, Ushort, Uint, Ulong, Byte, Short, Int, Long, Decimal32}
use Rattle.amqp_values.specs.declared.value.Value.{Decimal64, Decimal128, Char, Timestamp, Uuid, Binary, String, Symbol, Described', List'}
use Rattle.amqp_values.specs.declared.value.Value.{Map', Array', Row_of-Value, end_of-Value, more_of-Value, Row_of-ValueMap-0-2}
use Rattle.amqp_values.specs.declared.value.Value.{end_of-ValueMap-0-2, more_of-ValueMap-0-2}

abbrev mutual
  pub value_term : Value → Term
  value_term Null = leaf null
  value_term (Bool b) = leaf (boolean b)
  value_term (Ubyte n) = leaf (ubyte n)
  value_term (Ushort n) = leaf (ushort n)
  value_term (Uint n) = leaf (uint n)
  value_term (Ulong n) = leaf (ulong n)
  value_term (Byte z) = leaf (byte z)
  value_term (Short z) = leaf (short z)
  value_term (Int z) = leaf (int z)
  value_term (Long z) = leaf (long z)
  value_term (Decimal32 v) = leaf (decimal32 v.0)
  value_term (Decimal64 v) = leaf (decimal64 v.0)
  value_term (Decimal128 v) = leaf (decimal128 v.0)
  value_term (Char n) = leaf (char n)
  value_term (Timestamp v) = leaf (timestamp v.0)
  value_term (Uuid v) = leaf (uuid v.0)
  value_term (Binary v) = leaf (binary v.0.items)
  value_term (String s) = leaf (string (string_bytes s))
  value_term (Symbol v) = leaf (symbol (string_bytes v.0))
  value_term (Described' p d v) = described (descriptor_of d) (value_term v)
  value_term (List' shape vs) = container list (row_terms vs)
  value_term (Map' shape ps) = container map (pair_terms ps)
  value_term (Array' shape vs) = container array (row_terms vs)

  pub row_terms : {m : _} → Row_of-Value m → Terms
  row_terms end_of-Value = none
  row_terms (more_of-Value v rest) = more (value_term v) (row_terms rest)

  pub pair_terms : {m : _} → Row_of-ValueMap-0-2 m → Terms
  pair_terms end_of-ValueMap-0-2 = none
  pair_terms (more_of-ValueMap-0-2 k v rest) = more (value_term k) (more (value_term v) (pair_terms rest))

-- The pairs of a map.
abbrev pub pairs_of : ValueMap → List (Value × Value)
pairs_of m = (out-ValueMap m).0.items
