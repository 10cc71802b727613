use Rattle.std.proofs.Common.{◌∙◌}
use Rattle.amqp_read_write.proofs.Reserved.{appended_rest}
use Rattle.amqp_read_write.proofs.reader.NamedByteSource.append_ready.Goals as goal

pub invariant_of-self : goal.invariant_of-self
invariant_of-self g c =
    let old = c.args.self.now in
    let s = g.S.ByteSource in
    record {
      is_named = c.append_ready.ensures.named ∙ old.is_named;
      is_rest = λ told sound. appended_rest g.N.Name.origin c.args.count c.args.bytes.now.items c.append_ready.new.bytes.items
          (s.remaining old.source) (s.remaining c.append_ready.new.self) (s.failed old.source) (s.failed c.append_ready.new.self) c.append_ready.result
          (told old.source) c.append_ready.ensures.taken c.append_ready.ensures.left c.append_ready.ensures.kept (old.is_rest told) sound;
    }
