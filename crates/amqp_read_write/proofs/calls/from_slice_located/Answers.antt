use Rattle.std.proofs.Common.{arith, refl}
use Rattle.amqp_codec.specs.laws.Reading.{read_one, read_bounded, is_read}
use Rattle.amqp_read_write.proofs.FromReader.{refused_whole, placed_whole}
use Rattle.amqp_read_write.proofs.calls.from_slice_located.Goals as goal

pub returns-in-Ok-clause-found : goal.returns-in-Ok-clause-found
returns-in-Ok-clause-found g c =
    let read = rw c.decoder_within-cursor.ensures at (c.in-Ok.ensures.read (λ s. (s.now, refl))) in
    is_read c.args.limits.now g.T.Deserialize.reading c.args.input.now _ c.deserialize-read.new.decoder _ read (omega (arith, c.unread-behind.ensures.count))

pub returns-in-Ok-clause-one : goal.returns-in-Ok-clause-one
returns-in-Ok-clause-one g c v w n m h k = read_one c.args.limits.now g.T.Deserialize.reading c.args.input.now v w n m h k

pub returns-in-Ok-clause-bounded : goal.returns-in-Ok-clause-bounded
returns-in-Ok-clause-bounded g c v n h =
    omega (arith, h.left, read_bounded c.args.limits.now g.T.Deserialize.reading c.args.input.now v h.after h.read)

pub returns-clause-refused : goal.returns-clause-refused
returns-clause-refused g c =
    refused_whole c.args.limits.now g.T.Deserialize.reading c.args.input.now _ c.deserialize-read.new.decoder c.unread-behind.ensures.whole
    (rw c.decoder_within-cursor.ensures at (c.in-Err.ensures.read (λ s. (s.now, refl))))

pub returns-clause-one : goal.returns-clause-one
returns-clause-one g c v w n m h k = read_one c.args.limits.now g.T.Deserialize.reading c.args.input.now v w n m h k

pub returns-clause-place : goal.returns-clause-place
returns-clause-place g c =
    placed_whole c.args.limits.now g.T.Deserialize.reading c.args.input.now _ c.deserialize-read.new.decoder c.unread-behind.ensures.whole
    (rw c.decoder_within-cursor.ensures at (c.in-Err.ensures.read (λ s. (s.now, refl)))) _
    (grind (arith, c.fault.ensures)) (omega arith) (omega arith)
