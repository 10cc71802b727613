use Rattle.std.proofs.Common.{◌++◌, take, All}
use Rattle.amqp_lookahead.specs.Members.{Member, BeginsNot}
use Rattle.amqp_lookahead.proofs.names.longer_front.Given as goal

abbrev pub invariant-loop-member : goal.invariant-loop-member
invariant-loop-member l = All (λ (m : Member). BeginsNot m l.fn.len (l.fn.known ++ l.fn.piece)) (take l.member-index l.fn.members)
