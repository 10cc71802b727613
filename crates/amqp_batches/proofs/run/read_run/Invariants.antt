use Rattle.std.proofs.Common.{◌≡◌, ◌-◌, ◌^◌, true, false, vec_len}
use Rattle.amqp_wire.specs.Sources.{Tells}
use Rattle.amqp_lookahead.specs.Sections.{IsSectionAhead}
use Rattle.amqp_decoder.specs.Steps.{Began, Passed}
use Rattle.amqp_codec.specs.TermReading.{reading_of}
use Rattle.amqp_batches.specs.Walk.{IsAtTop, IsNext}
use Rattle.amqp_batches.specs.Runs.{run_walk}
use Rattle.amqp_batches.proofs.WalkSteps.{SoFar}
use Rattle.amqp_batches.proofs.run.read_run.Given as goal

abbrev pub invariant-loop-comes : goal.invariant-loop-comes
invariant-loop-comes g l = record {
  so_far : Tells g.R.ByteSource.remaining → IsNext g.T.BatchItem.code l.fn.decoder
      → SoFar (run_walk g.T.BatchItem.code (reading_of g.T.DeserializeTerm.term)) l.fn.decoder l.sections.items l.decoder;
  next : Tells g.R.ByteSource.remaining → IsNext g.T.BatchItem.code l.fn.decoder → l.comes ≡ true → IsNext g.T.BatchItem.code l.decoder;
  ended : Tells g.R.ByteSource.remaining → IsNext g.T.BatchItem.code l.fn.decoder → l.comes ≡ false
      → IsAtTop l.decoder × (IsSectionAhead l.decoder.rest g.T.BatchItem.code → ⊥);
  passed : Passed l.fn.decoder l.decoder;
  began : l.comes ≡ false → Began l.fn.decoder l.decoder;
}

abbrev pub decreases-loop-comes : goal.decreases-loop-comes
decreases-loop-comes g l = 2 ^ 64 - vec_len l.sections
