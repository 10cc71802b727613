use Rattle.std.proofs.Common.{length}
use Rattle.amqp_wire.specs.Sources.{known}
use Rattle.amqp_wire.specs.Limits.{limit_of}
use Rattle.amqp_read_write.specs.Reserved.{reserved}
use Rattle.amqp_read_write.proofs.reader.read_placed.Given as goal

abbrev pub ghosts-read_named : goal.ghosts-read_named
ghosts-read_named g a = record {
  name = a.source.ghost_name;
  origin = known (g.R.ByteSource.remaining a.source.now);
  reserve = reserved g.T.Deserialize.reading.one_term (limit_of a.limits.now.bytes) (length (known (g.R.ByteSource.remaining a.source.now)));
}
