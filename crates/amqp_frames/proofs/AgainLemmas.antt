-- What was written is read again.
use Rattle.std.proofs.Common.{ℕ, List, [], ◌++◌, length, sym, subst}
use Rattle.std.proofs.lemmas.List.{append-nil}
use Rattle.std.proofs.Math.Seq.{drop-append_seam}
use Rattle.amqp_model.specs.FieldType.{normal}
use Rattle.amqp_wire.specs.declared.limits.Limits.{Limits}
use Rattle.amqp_codec.specs.TermType.{TermType}
use Rattle.amqp_codec.specs.Reading.{BeginsWithin, IsGreatest}
use Rattle.amqp_codec.specs.TermReading.{reading_of}
use Rattle.amqp_codec.specs.Spelled.{written, IsWritable}
use Rattle.amqp_codec.specs.laws.Reading.{greatest_begins}
use Rattle.amqp_codec.specs.laws.Spelling.{spelled_read}
use Rattle.amqp_codec.specs.laws.Term.{spelled_again}
use Rattle.amqp_attach.specs.Tables.{performative}
use Rattle.amqp_attach.specs.declared.performative.Performative.{Performative}
use Rattle.amqp_frames.specs.Bodies.{IsAmqpBody, IsSaslBody}
use Rattle.amqp_frame_headers.specs.Tables.{sasl_frame}
use Rattle.amqp_frames.specs.Writing.{amqp_body}
use Rattle.amqp_frame_headers.specs.declared.sasl_frame.SaslFrame.{SaslFrame}

read_again : {T : Type 0} (u : TermType T) (limits : Limits) (v : T) (more : List ℕ) → IsGreatest limits → u.is_value v → IsWritable u v
    → BeginsWithin limits (reading_of u) (written u v ++ more) (normal u.norm v) (length (written u v))
read_again u limits v more greatest is_value writable =
    greatest_begins limits (reading_of u) (written u v ++ more) (normal u.norm v) (length (written u v)) greatest
    (spelled_read u (written u v) more (normal u.norm v) (spelled_again u v is_value writable))

pub amqp_again : (limits : Limits) (p : Performative) (payload : List ℕ) → IsGreatest limits → performative.is_value p
    → IsWritable performative p → IsAmqpBody limits (amqp_body p payload) (normal performative.norm p) payload
amqp_again limits p payload greatest is_value writable = record {
  len = length (written performative p);
  begins = read_again performative limits p payload greatest is_value writable;
  rest = sym (drop-append_seam (written performative p) payload);
}

pub sasl_again : (limits : Limits) (v : SaslFrame) → IsGreatest limits → sasl_frame.is_value v → IsWritable sasl_frame v
    → IsSaslBody limits (written sasl_frame v) (normal sasl_frame.norm v)
sasl_again limits v greatest is_value writable =
    subst (λ b. BeginsWithin limits (reading_of sasl_frame) b (normal sasl_frame.norm v) (length (written sasl_frame v)))
    (append-nil (written sasl_frame v)) (read_again sasl_frame limits v [] greatest is_value writable)
