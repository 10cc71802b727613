use Rattle.std.proofs.Common.{length, ap, sym, ◌∙◌}
use Rattle.amqp_decoder.specs.State.{State}
use Rattle.amqp_decoder.proofs.Rows.{length-stack}
use Rattle.amqp_decoder.proofs.decoder.Decoder.depth.Goals as goal

pub returns : goal.returns
returns g c = sym (length-stack c.self.inside.descriptors.items _ c.self.inside.depth c.self.inside.frames)
    ∙ ap (λ (st : State). length st.saved) c.self.view_is
