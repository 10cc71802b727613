use Rattle.std.proofs.Common.{refl, ap, sym, Some, subst}
use Rattle.amqp_model.specs.Term.{uint}
use Rattle.amqp_lookahead.proofs.SectionsAhead.{bytes_at}
use Rattle.amqp_decoder.specs.Primitives.{ReadsFixed}
use Rattle.amqp_decoder.proofs.Quick.{behind_code}
use Rattle.amqp_decoder.proofs.ReadPrimitives.{fixed_value}
use Rattle.amqp_decoder.proofs.decoder.Decoder.quick_uint.Goals as goal

pub returns-in_ok-bytes-in-112-clause-read : goal.returns-in_ok-bytes-in-112-clause-read
returns-in_ok-bytes-in-112-clause-read g c = λ told.
    let f = c.in_ok-bytes-in-112.ensures.read told in
    let e = behind_code 3 c.in_ok-bytes-in-112.bytes f.width in
    fixed_value uint 112 4 _ (bytes_at 4 1 c.in_ok-bytes-in-112.bytes) _ _ (refl, ap (λ n. Some (uint n)) (sym c.from_be_bytes.ensures), tt)
    (subst (λ b. ReadsFixed 112 4 c.args.self.now b c.take_plain.new.self) e f)

pub returns-in_ok-bytes-in-82-clause-read : goal.returns-in_ok-bytes-in-82-clause-read
returns-in_ok-bytes-in-82-clause-read g c = λ told.
    let f = c.in_ok-bytes-in-82.ensures.read told in
    let e = behind_code 0 c.in_ok-bytes-in-82.bytes f.width in
    fixed_value uint 82 1 _ (bytes_at 1 1 c.in_ok-bytes-in-82.bytes) _ _ (refl, ap (λ n. Some (uint n)) (sym c.from.ensures), tt)
    (subst (λ b. ReadsFixed 82 1 c.args.self.now b c.take_plain-in-82.new.self) e f)

pub returns-in_ok-_code-in-67-clause-read : goal.returns-in_ok-_code-in-67-clause-read
returns-in_ok-_code-in-67-clause-read g c = λ told.
    let f = c.in_ok-_code-in-67.ensures.read told in fixed_value uint 67 0 _ _ _ _ (f.width, refl, tt) f
