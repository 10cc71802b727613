use Rattle.std.proofs.Common.{true}
use Rattle.amqp_lengths.specs.Pieces.{NamesAny}
use Rattle.amqp_decoder.specs.Described.{DescriptorFault}
use Rattle.amqp_decoder.specs.Terms.{Keeps}
use Rattle.amqp_decoder.proofs.Places.{placed_ok, placed_stops_here, placed_goes}
use Rattle.amqp_decoder.proofs.decoder.Decoder.keep_descriptor_bytes.Goals as goal

pub returns-clause-ok : goal.returns-clause-ok
returns-clause-ok g c = λ told. rw (c.placed.ensures.same, c.placed.ensures.kept)
    (placed_ok (λ _. Keeps NamesAny _ _ _) _ _ _ (c.keep_any_descriptor-kept.ensures.ok told))

pub returns-clause-err : goal.returns-clause-err
returns-clause-err g c = λ told. rw (c.placed.ensures.same, c.placed.ensures.kept)
    (placed_stops_here true DescriptorFault c.args.self.now _ c.place-place.result _ (c.keep_any_descriptor-kept.ensures.err told)
    c.place-place.ensures)

pub returns-clause-goes : goal.returns-clause-goes
returns-clause-goes g c = rw (c.placed.ensures.same, c.placed.ensures.kept)
    (search (placed_goes, c.keep_any_descriptor-kept.ensures.goes))
