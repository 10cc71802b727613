use Rattle.std.proofs.Common.{◌∙◌}
use Rattle.amqp_read_write.proofs.Reserved.{ready_rest}
use Rattle.amqp_read_write.proofs.reader.NamedByteSource.pull_ready.Goals as goal

pub invariant_of-self : goal.invariant_of-self
invariant_of-self g c =
    let old = c.args.self.now in
    let s = g.S.ByteSource in
    record {
      is_named = c.pull_ready.ensures.named ∙ old.is_named;
      is_rest = λ told sound. ready_rest g.N.Name.origin c.pull_ready.new.buffer (s.remaining old.source) (s.remaining c.pull_ready.new.self) (s.failed old.source) (s.failed c.pull_ready.new.self) c.pull_ready.result
          (told old.source) c.pull_ready.ensures.taken c.pull_ready.ensures.left c.pull_ready.ensures.kept (old.is_rest told) sound;
    }
