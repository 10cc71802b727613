use Rattle.std.proofs.Common.{◌≡◌, ◌-◌, ◌≤◌, ◌↔◌, IsTrue, length, take, IfSome, IsAscii}
use Rattle.amqp_wire.specs.Sources.{Tells}
use Rattle.amqp_decoder.specs.State.{after_bytes}
use Rattle.amqp_lookahead.specs.Members.{FrontIs}
use Rattle.amqp_decoder.specs.Steps.{GoesOn}
use Rattle.amqp_decoder.proofs.decoder.Decoder.place_of_text.Given as goal

abbrev pub invariant-loop-left : goal.invariant-loop-left
invariant-loop-left g l = record {
  few : l.left ≤ l.fn.len;
  long : IfSome l.known (λ front. length front.now ≡ l.fn.len - l.left);
  there : Tells g.R.ByteSource.remaining → l.fn.len - l.left ≤ length l.fn.self.rest;
  moved_ : Tells g.R.ByteSource.remaining → l.self ≡ after_bytes (l.fn.len - l.left) l.fn.self;
  ascii : Tells g.R.ByteSource.remaining → IsTrue l.is_ascii ↔ IsAscii (take (l.fn.len - l.left) l.fn.self.rest);
  front : Tells g.R.ByteSource.remaining → FrontIs l.fn.members l.fn.len (take (l.fn.len - l.left) l.fn.self.rest) l.known;
  goes : GoesOn l.fn.self l.self;
}

abbrev pub decreases-loop-left : goal.decreases-loop-left
decreases-loop-left g l = l.left
