use Rattle.std.proofs.Common.{string_bytes}
use Rattle.std.proofs.lemmas.Result.{IfOk-weaker}
use Rattle.serde_json.specs.Data.{Data}
use Rattle.serde_json.specs.View.{view}
use Rattle.serde_json.specs.Written.{IsInOrder}
use Rattle.amqp_inspect.proofs.json.text_of.Goals as goal

pub returns : goal.returns
returns c =
    IfOk-weaker c.to_string.result (λ s. IsInOrder (string_bytes s) (view c.args.value.now)) (λ s. (d : Data) × IsInOrder (string_bytes s) d)
    (λ s h. (view c.args.value.now, h)) c.to_string.ensures.order
