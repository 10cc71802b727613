-- A value takes no more bytes than the input has.
use Rattle.std.proofs.Common.{◌≤◌, ℕ, List, length, Result, Ok, Err, IfOk, arith}
use Rattle.amqp_model.specs.Term.{Term}
use Rattle.amqp_wire.specs.declared.error.Error.{Error}
use Rattle.amqp_wire.specs.declared.limits.Limits.{Limits}
use Rattle.amqp_codec.specs.Reading.{Reading}
use Rattle.amqp_read_write.specs.Rewritten.{IsRewrittenWithin}

pub taken_within : {A T : Type 0} (limits : Limits) (r : Reading T) (canons : T → List Term) (input : List ℕ) (text : A → List ℕ)
    (count : A → ℕ) (result : Result A Error) → IfOk result (λ a. IsRewrittenWithin limits r canons input (text a) (count a))
    → IfOk result (λ a. count a ≤ length input)
taken_within limits r canons input text count (Ok a) h = (let e = h.read.left in omega (arith, e))
taken_within limits r canons input text count (Err e) h = tt
