-- Values that stand one after another, with nothing around them.
use Rattle.std.proofs.Common.{Global, Vec}
use Rattle.amqp_batches.specs.declared.transparent_vec.TransparentVec.{TransparentVec}

-- The vector of the values.
abbrev pub vec_in : {T : Type 0} → TransparentVec T → Vec T Global
vec_in run = run.0
