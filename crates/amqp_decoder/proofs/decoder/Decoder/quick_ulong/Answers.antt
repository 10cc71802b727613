use Rattle.std.proofs.Common.{refl, ap, sym, Some, subst}
use Rattle.amqp_model.specs.Term.{ulong}
use Rattle.amqp_lookahead.proofs.SectionsAhead.{bytes_at}
use Rattle.amqp_decoder.specs.Primitives.{ReadsFixed}
use Rattle.amqp_decoder.proofs.Quick.{behind_code}
use Rattle.amqp_decoder.proofs.ReadPrimitives.{fixed_value}
use Rattle.amqp_decoder.proofs.decoder.Decoder.quick_ulong.Goals as goal

pub returns-in_ok-bytes-in-83-clause-read : goal.returns-in_ok-bytes-in-83-clause-read
returns-in_ok-bytes-in-83-clause-read g c = λ told.
    let f = c.in_ok-bytes-in-83.ensures.read told in
    let e = behind_code 0 c.in_ok-bytes-in-83.bytes f.width in
    fixed_value ulong 83 1 _ (bytes_at 1 1 c.in_ok-bytes-in-83.bytes) _ _ (refl, ap (λ n. Some (ulong n)) (sym c.from.ensures), tt)
    (subst (λ b. ReadsFixed 83 1 c.args.self.now b c.take_plain.new.self) e f)

pub returns-in_ok-_code-in-68-clause-read : goal.returns-in_ok-_code-in-68-clause-read
returns-in_ok-_code-in-68-clause-read g c = λ told.
    let f = c.in_ok-_code-in-68.ensures.read told in fixed_value ulong 68 0 _ _ _ _ (f.width, refl, tt) f

pub returns-in_ok-bytes-in-128-clause-read : goal.returns-in_ok-bytes-in-128-clause-read
returns-in_ok-bytes-in-128-clause-read g c = λ told.
    let f = c.in_ok-bytes-in-128.ensures.read told in
    let e = behind_code 7 c.in_ok-bytes-in-128.bytes f.width in
    fixed_value ulong 128 8 _ (bytes_at 8 1 c.in_ok-bytes-in-128.bytes) _ _ (refl, ap (λ n. Some (ulong n)) (sym c.from_be_bytes.ensures), tt)
    (subst (λ b. ReadsFixed 128 8 c.args.self.now b c.take_plain-in-128.new.self) e f)
