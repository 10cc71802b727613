use Rattle.std.proofs.Common.{arith}
use Rattle.amqp_codec.specs.Reading.{greatest, IsGreatest}
use Rattle.amqp_codec.specs.laws.Reading.{read_one, read_bounded}
use Rattle.amqp_read_write.proofs.FromReader.{never_limited, counted_greatest, refused_whole_greatest}
use Rattle.amqp_read_write.proofs.calls.from_slice_counted.Goals as goal

pub returns-clause-found : goal.returns-clause-found
returns-clause-found g c =
    let limits : IsGreatest c.greatest.result = (c.greatest.ensures.nesting, c.greatest.ensures.bytes, c.greatest.ensures.items) in
    counted_greatest _ limits g.T.Deserialize.reading c.args.input.now _ c.from_slice_within.ensures.found

pub returns-clause-one : goal.returns-clause-one
returns-clause-one g c v w n m h k = read_one greatest g.T.Deserialize.reading c.args.input.now v w n m h k

pub returns-clause-bounded : goal.returns-clause-bounded
returns-clause-bounded g c v n h =
    omega (arith, h.left, read_bounded greatest g.T.Deserialize.reading c.args.input.now v h.after h.read)

pub returns-clause-refused : goal.returns-clause-refused
returns-clause-refused g c =
    let limits : IsGreatest c.greatest.result = (c.greatest.ensures.nesting, c.greatest.ensures.bytes, c.greatest.ensures.items) in
    refused_whole_greatest _ limits g.T.Deserialize.reading c.args.input.now _ c.from_slice_within.ensures.refused

pub returns-clause-unlimited : goal.returns-clause-unlimited
returns-clause-unlimited g c =
    let limits : IsGreatest c.greatest.result = (c.greatest.ensures.nesting, c.greatest.ensures.bytes, c.greatest.ensures.items) in
    never_limited c.greatest.result limits _ c.from_slice_within.ensures.limited
