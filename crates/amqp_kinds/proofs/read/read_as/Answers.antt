use Rattle.std.proofs.lemmas.Result.{err_from_is_err_and}
use Rattle.amqp_decoder.specs.Primitives.{ReadsValue}
use Rattle.amqp_codec.specs.laws.Refusal.{refused_first}
use Rattle.amqp_kinds.specs.KindReading.{ReadsMember}
use Rattle.amqp_kinds.proofs.read.read_as.Goals as goal

pub returns-in_err-value-clause-read : goal.returns-in_err-value-clause-read
returns-in_err-value-clause-read g c tells =
    let u = g.T.DeserializeTerm.term in
    let p = err_from_is_err_and c.from_residual.result c.from_residual.ensures.1 in
    rw (p.1, p.2)
    (refused_first (ReadsValue u.means) u.faults.fault (ReadsMember u.means g.V.From.from_gives) u.faults.fault _ _ _ (λ h. h) (λ _ f. f)
    (λ none v b h. none h.0 b h.2) (c.in_err-value.ensures.read tells))

pub returns-clause-read : goal.returns-clause-read
returns-clause-read g c tells = (c.in_ok-value.value, c.from.ensures, c.in_ok-value.ensures.read tells)
