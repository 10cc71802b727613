-- The keys of annotations that are borrowed.
use Rattle.amqp_model.specs.Term.{Primitive, ulong, symbol}
use Rattle.amqp_annotations.specs.declared.borrowed_key.BorrowedKey.{BorrowedKey}
use Rattle.amqp_annotations.specs.declared.borrowed_key.BorrowedKey.TheVariants as key

abbrev pub borrowed_primitive : BorrowedKey → Primitive
borrowed_primitive (key.Symbol s) = symbol s.0.now
borrowed_primitive (key.Ulong n) = ulong n.now
