use Rattle.std.proofs.Common.{sym}
use Rattle.std.proofs.lemmas.Slice.Eq.{bytes_eq-Decides}
use Rattle.amqp_message_headers.specs.declared.message_id.MessageId.TheVariants.{Ulong, Uuid, Binary, String}
use Rattle.amqp_message_headers.proofs.CopiesEqual.{same_number, copied_bytes}
use Rattle.amqp_message_headers.proofs.laws.copies_of_identifiers_are_equal.Goals as goal

pub returns : goal.returns
returns c (Ulong n) (Ulong m) h = same_number n m h
returns c (Uuid x) (Uuid y) h = (bytes_eq-Decides x.0 y.0).1 (sym h)
returns c (Binary x) (Binary y) h = copied_bytes x.0.items y.0.items h.0
returns c (String x) (String y) h = (bytes_eq-Decides x.bytes.items y.bytes.items).1 (sym h)
returns c (Ulong n) (Uuid y) h = absurd h
returns c (Ulong n) (Binary y) h = absurd h
returns c (Ulong n) (String y) h = absurd h
returns c (Uuid x) (Ulong m) h = absurd h
returns c (Uuid x) (Binary y) h = absurd h
returns c (Uuid x) (String y) h = absurd h
returns c (Binary x) (Ulong m) h = absurd h
returns c (Binary x) (Uuid y) h = absurd h
returns c (Binary x) (String y) h = absurd h
returns c (String x) (Ulong m) h = absurd h
returns c (String x) (Uuid y) h = absurd h
returns c (String x) (Binary y) h = absurd h
