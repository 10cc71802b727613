use Rattle.std.proofs.Common.{Some, ap, sym}
use Rattle.amqp_model.specs.Term.{uint}
use Rattle.amqp_decoder.proofs.ReadPrimitives.{fixed_value}
use Rattle.amqp_decoder.proofs.decoder.Decoder.uint_element.Goals as goal

pub returns-clause-read : goal.returns-clause-read
returns-clause-read g c = λ told.
    let f = c.in_ok-data.ensures.read told in
    fixed_value uint 0x70 4 _ _ _ _ (f.width, ap (λ n. Some (uint n)) (sym c.from_be_bytes.ensures), tt) f
