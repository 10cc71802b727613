use Rattle.std.proofs.Common.{length, drop, refl, sym, ap, ap₂, ◌∙◌}
use Rattle.amqp_wire.specs.Sources.{known}
use Rattle.amqp_wire.specs.Limits.{limit_of}
use Rattle.amqp_decoder.specs.State.{Reader}
use Rattle.amqp_read_write.specs.Reserved.{reserved}
use Rattle.amqp_read_write.proofs.FromReader.{found, one, behind, refused, placed, memory, limited, failed, failing, read_among, still_alone}
use Rattle.amqp_read_write.proofs.Reserved.{reserve_left, taken_within}
use Rattle.amqp_read_write.proofs.reader.read_named.Goals as goal

pub decoder_for-decoder-requires : goal.decoder_for-decoder-requires
decoder_for-decoder-requires g c = λ told term.
    let one = g.T.Deserialize.reading.one_term in
    let limit = limit_of c.args.limits.now.bytes in
    reserve_left one limit (length (known (g.S.ByteSource.remaining c.args.source))) g.N.Name.reserve term
    (c.requires.reserve ∙ ap (λ s. reserved one limit (length s)) (sym c.requires.origin))

pub returns-clause-found : goal.returns-clause-found
returns-clause-found g c = λ told.
    let read = rw c.decoder_for-decoder.ensures at (c.deserialize-read.ensures.read (λ s. told s.source)) in
    let y = read_among g.T.Deserialize.reading _ refl _ _ read in
    found c.args.limits.now g.T.Deserialize.reading (known (g.S.ByteSource.remaining c.args.source)) _ _ _ y.after y.read

pub returns-clause-one : goal.returns-clause-one
returns-clause-one g c = λ told.
    let read = rw c.decoder_for-decoder.ensures at (c.deserialize-read.ensures.read (λ s. told s.source)) in
    let y = read_among g.T.Deserialize.reading _ refl _ _ read in
    one c.args.limits.now g.T.Deserialize.reading (known (g.S.ByteSource.remaining c.args.source)) _ _ _ y.after y.read

pub returns-clause-behind : goal.returns-clause-behind
returns-clause-behind g c = λ told own.
    let read = rw c.decoder_for-decoder.ensures at (c.deserialize-read.ensures.read (λ s. told s.source)) in
    let y = read_among g.T.Deserialize.reading _ refl _ _ read in
    behind c.args.limits.now g.T.Deserialize.reading (known (g.S.ByteSource.remaining c.args.source)) _ _ _ y.after y.read own _
    (c.source_of-source.ensures.rest ∙ ap₂ (λ n s. drop n s) (sym y.ahead) (sym y.rest))

pub returns-clause-refused : goal.returns-clause-refused
returns-clause-refused g c = λ told.
    let read = rw c.decoder_for-decoder.ensures at (c.deserialize-read.ensures.read (λ s. told s.source)) in
    let y = read_among g.T.Deserialize.reading _ refl _ _ read in
    refused c.args.limits.now g.T.Deserialize.reading (known (g.S.ByteSource.remaining c.args.source)) _ _ _ y.after y.read _
    (c.source_of-source.ensures.failed ∙ sym y.broken)

pub returns-clause-place : goal.returns-clause-place
returns-clause-place g c = λ told.
    let read = rw c.decoder_for-decoder.ensures at (c.deserialize-read.ensures.read (λ s. told s.source)) in
    let y = read_among g.T.Deserialize.reading _ refl _ _ read in
    placed c.args.limits.now g.T.Deserialize.reading (known (g.S.ByteSource.remaining c.args.source)) _ _ _ y.after refl y.read _
    (c.source_of-source.ensures.failed ∙ sym y.broken) _
    (c.fault-place.ensures ∙ ap (λ (s : Reader). s.fault) (sym y.source))

pub returns-clause-memory : goal.returns-clause-memory
returns-clause-memory g c =
    let tries = rw c.decoder_for-decoder.ensures at c.deserialize-read.ensures.tries in
    memory g.T.Deserialize.reading.takes_memory _ _ _ refl tries

pub returns-clause-limited : goal.returns-clause-limited
returns-clause-limited g c =
    let tries = rw c.decoder_for-decoder.ensures at c.deserialize-read.ensures.tries in
    limited g.T.Deserialize.reading.takes_memory c.args.limits.now _ _ _ refl refl tries

pub returns-clause-failed : goal.returns-clause-failed
returns-clause-failed g c =
    let tries = rw c.decoder_for-decoder.ensures at c.deserialize-read.ensures.tries in
    failed g.T.Deserialize.reading.takes_memory _ _ _ refl tries _ c.source_of-source.ensures.failed

pub returns-clause-failing : goal.returns-clause-failing
returns-clause-failing g c =
    let tries = rw c.decoder_for-decoder.ensures at c.deserialize-read.ensures.tries in
    failing g.T.Deserialize.reading.takes_memory _ _ _ refl tries _ _ c.source_of-source.ensures.failed refl

pub returns-clause-taken : goal.returns-clause-taken
returns-clause-taken g c = λ told term sound.
    let tries = rw c.decoder_for-decoder.ensures at c.deserialize-read.ensures.tries in
    let whole = sym c.source_of-source.ensures.failed ∙ sound in
    let alone = still_alone g.T.Deserialize.reading.takes_memory _ _ _ refl tries whole ∙ term in
    rw c.requires.origin (taken_within g.T.Deserialize.reading.one_term (limit_of c.args.limits.now.bytes) g.N.Name.origin _ g.N.Name.reserve
    term c.requires.reserve (c.source_of-source.result.is_rest told sound) (c.source_of-source.ensures.kept (λ s. told s.source) alone whole))
