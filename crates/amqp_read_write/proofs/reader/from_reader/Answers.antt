use Rattle.amqp_wire.specs.Sources.{known}
use Rattle.amqp_codec.specs.Reading.{IsGreatest}
use Rattle.amqp_read_write.proofs.FromReader.{never_limited, one_greatest, behind_greatest, refused_greatest}
use Rattle.amqp_read_write.proofs.reader.from_reader.Goals as goal

pub returns-clause-one : goal.returns-clause-one
returns-clause-one g c = λ told.
    let limits : IsGreatest c.greatest.result = (c.greatest.ensures.nesting, c.greatest.ensures.bytes, c.greatest.ensures.items) in
    one_greatest _ limits g.T.Deserialize.reading (known (g.R.ByteSource.remaining c.args.reader.now)) _ (c.from_reader_within.ensures.one told)

pub returns-clause-behind : goal.returns-clause-behind
returns-clause-behind g c = λ told own.
    let limits : IsGreatest c.greatest.result = (c.greatest.ensures.nesting, c.greatest.ensures.bytes, c.greatest.ensures.items) in
    behind_greatest _ limits g.T.Deserialize.reading (known (g.R.ByteSource.remaining c.args.reader.now)) _ _
    (c.from_reader_within.ensures.behind told own)

pub returns-clause-refused : goal.returns-clause-refused
returns-clause-refused g c = λ told.
    let limits : IsGreatest c.greatest.result = (c.greatest.ensures.nesting, c.greatest.ensures.bytes, c.greatest.ensures.items) in
    refused_greatest _ limits g.T.Deserialize.reading (known (g.R.ByteSource.remaining c.args.reader.now)) _ _
    (c.from_reader_within.ensures.refused told)

pub returns-clause-unlimited : goal.returns-clause-unlimited
returns-clause-unlimited g c =
    let limits : IsGreatest c.greatest.result = (c.greatest.ensures.nesting, c.greatest.ensures.bytes, c.greatest.ensures.items) in
    never_limited c.greatest.result limits _ c.from_reader_within.ensures.limited
