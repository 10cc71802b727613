use Rattle.amqp_lookahead.specs.Kinds.{nulls, booleans, ubytes, ushorts, uints, ulongs, bytes, shorts, ints, longs, decimals32, decimals64}
use Rattle.amqp_lookahead.specs.Kinds.{decimals128, chars, timestamps, uuids, binaries, strings, symbols}
use Rattle.amqp_placed.proofs.Primitives.{primitive_shown}
use Rattle.amqp_placed.proofs.laws.primitives.Goals as goal

pub returns-clause-kind : goal.returns-clause-kind
returns-clause-kind c = λ e k st f is. primitive_shown k st f

pub returns-clause-null : goal.returns-clause-null
returns-clause-null c = λ e st f is. primitive_shown nulls st f

pub returns-clause-boolean : goal.returns-clause-boolean
returns-clause-boolean c = λ e st f is. primitive_shown booleans st f

pub returns-clause-ubyte : goal.returns-clause-ubyte
returns-clause-ubyte c = λ e st f is. primitive_shown ubytes st f

pub returns-clause-ushort : goal.returns-clause-ushort
returns-clause-ushort c = λ e st f is. primitive_shown ushorts st f

pub returns-clause-uint : goal.returns-clause-uint
returns-clause-uint c = λ e st f is. primitive_shown uints st f

pub returns-clause-ulong : goal.returns-clause-ulong
returns-clause-ulong c = λ e st f is. primitive_shown ulongs st f

pub returns-clause-byte : goal.returns-clause-byte
returns-clause-byte c = λ e st f is. primitive_shown bytes st f

pub returns-clause-short : goal.returns-clause-short
returns-clause-short c = λ e st f is. primitive_shown shorts st f

pub returns-clause-int : goal.returns-clause-int
returns-clause-int c = λ e st f is. primitive_shown ints st f

pub returns-clause-long : goal.returns-clause-long
returns-clause-long c = λ e st f is. primitive_shown longs st f

pub returns-clause-character : goal.returns-clause-character
returns-clause-character c = λ e st f is. primitive_shown chars st f

pub returns-clause-string : goal.returns-clause-string
returns-clause-string c = λ e st f is. primitive_shown strings st f

pub returns-clause-symbol : goal.returns-clause-symbol
returns-clause-symbol c = λ e st f is. primitive_shown symbols st f

pub returns-clause-decimal32 : goal.returns-clause-decimal32
returns-clause-decimal32 c = λ e st f is. primitive_shown decimals32 st f

pub returns-clause-decimal64 : goal.returns-clause-decimal64
returns-clause-decimal64 c = λ e st f is. primitive_shown decimals64 st f

pub returns-clause-decimal128 : goal.returns-clause-decimal128
returns-clause-decimal128 c = λ e st f is. primitive_shown decimals128 st f

pub returns-clause-timestamp : goal.returns-clause-timestamp
returns-clause-timestamp c = λ e st f is. primitive_shown timestamps st f

pub returns-clause-uuid : goal.returns-clause-uuid
returns-clause-uuid c = λ e st f is. primitive_shown uuids st f

pub returns-clause-binary : goal.returns-clause-binary
returns-clause-binary c = λ e st f is. primitive_shown binaries st f
