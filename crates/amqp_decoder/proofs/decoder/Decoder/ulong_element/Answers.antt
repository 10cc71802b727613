use Rattle.std.proofs.Common.{Some, ap, sym}
use Rattle.amqp_model.specs.Term.{ulong}
use Rattle.amqp_decoder.proofs.ReadPrimitives.{fixed_value}
use Rattle.amqp_decoder.proofs.decoder.Decoder.ulong_element.Goals as goal

pub returns-clause-read : goal.returns-clause-read
returns-clause-read g c = λ told.
    let f = c.in_ok-data.ensures.read told in
    fixed_value ulong 0x80 8 _ _ _ _ (f.width, ap (λ n. Some (ulong n)) (sym c.from_be_bytes.ensures), tt) f
