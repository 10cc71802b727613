use Rattle.std.proofs.Common.{◌≡◌, ◌≤◌, ◌+◌, ◌++◌, length, take}
use Rattle.amqp_encoder.proofs.room.write_each.Given as goal

abbrev pub invariant-loop-byte : goal.invariant-loop-byte
invariant-loop-byte l = record {
  place : l.place ≡ l.start + l.byte-index;
  bytes : take l.place l.memory ≡ take l.start l.initial.memory ++ take l.byte-index l.bytes;
  fits : l.start + length l.bytes ≤ length l.memory;
}
