use Rattle.std.proofs.Common.{rules, sym}
use Rattle.std.proofs.lemmas.Slice.Eq.{bytes_eq-Decides}
use Rattle.amqp_annotations.specs.declared.owned_key.OwnedKey.TheVariants.{Symbol, Ulong}
use Rattle.amqp_map_sections.proofs.laws.copies_of_keys_are_equal.Goals as goal

pub returns : goal.returns
returns c (Symbol x) (Symbol y) h = (bytes_eq-Decides x.0.bytes.items y.0.bytes.items).1 (sym h)
returns c (Ulong n) (Ulong m) h = search rules
returns c (Symbol x) (Ulong m) h = absurd h
returns c (Ulong n) (Symbol y) h = absurd h
