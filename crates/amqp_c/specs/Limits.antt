-- Limits as they cross.
use Rattle.std.specs.Prelude.{◌≡◌, ℕ}
use Rattle.amqp_wire.specs.Limits.{unlimited}
use Rattle.amqp_wire.specs.declared.limits.Limits.{Limits}
use Rattle.amqp_c.specs.declared.limits.GivenLimits.{GivenLimits}

-- The limits are of these numbers.
abbrev pub AreLimits : GivenLimits → Limits → Type 0
AreLimits given within =
    (within.nesting ≡ given.nesting) × (within.bytes ≡ given.bytes) × (within.items ≡ given.items) × (within.hash_seed ≡ given.hash_seed)

-- The limits under which all is read that nests at most 128 deep, without a seed.
abbrev pub greatest_given : GivenLimits
greatest_given = record { nesting = 128; bytes = unlimited; items = unlimited; hash_seed = 0 }

-- Limits for input of so many bytes that a peer sent.
abbrev pub peers_given : ℕ → GivenLimits
peers_given bytes = record { nesting = 128; bytes = bytes; items = bytes; hash_seed = 0 }
