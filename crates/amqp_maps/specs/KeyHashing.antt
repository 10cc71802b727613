-- How the keys of a map are hashed.
use Rattle.std.specs.Prelude.{ℕ, List, if◌then◌else◌, eqb}
use Rattle.std.specs.List.{fold}
use Rattle.std.specs.Hash as fed
use Rattle.std.specs.Hash.FoldHasher as quick
use Rattle.std.specs.Hash.DefaultHasher as sip
use Rattle.amqp_maps.specs.declared.key_hashing.KeyHasher.{KeyHasher}
use Rattle.amqp_maps.specs.declared.key_hashing.KeyHasher.TheVariants.{Quick, Seeded}

-- Without a seed quickly, and with one by SipHash behind it.
abbrev pub started : ℕ → KeyHasher
started seed = if eqb seed 0 then Quick quick.initial else Seeded (fold sip.write sip.initial (fed.u64 seed))

abbrev pub fed_with : KeyHasher → List ℕ → KeyHasher
fed_with (Quick s) bs = Quick (quick.write s bs)
fed_with (Seeded s) bs = Seeded (sip.write s bs)

abbrev pub finished : KeyHasher → ℕ
finished (Quick s) = quick.finish s
finished (Seeded s) = sip.finish s
