use Rattle.std.proofs.Common.{◌∙◌}
use Rattle.amqp_read_write.proofs.Reserved.{pulled_rest}
use Rattle.amqp_read_write.proofs.reader.NamedByteSource.pull.Goals as goal

pub invariant_of-self : goal.invariant_of-self
invariant_of-self g c =
    let old = c.args.self.now in
    let s = g.S.ByteSource in
    record {
      is_named = c.pull.ensures.named ∙ old.is_named;
      is_rest = λ told sound. pulled_rest g.N.Name.origin c.pull.new.buffer (s.remaining old.source) (s.remaining c.pull.new.self) (s.failed old.source) (s.failed c.pull.new.self) c.pull.result
          (told old.source) c.pull.ensures.bytes c.pull.ensures.kept c.pull.ensures.fails (old.is_rest told) sound;
    }
