use Rattle.std.proofs.Common.{sym, ◌∙◌}
use Rattle.std.proofs.lemmas.Slice.Eq.{bytes_eq-Decides}
use Rattle.amqp_uses.proofs.are_of_one_value.Goals as goal

pub returns-clause-apart : goal.returns-clause-apart
returns-clause-apart g c =
    let bytes = bytes_eq-Decides c.args.first.now c.args.second.now in
    λ v w spelled other writable also first second equal. c.one_text_for_one_value.ensures.apart _ _ v w spelled other writable also
    (sym first ∙ (bytes.0 (sym c.eq.ensures ∙ equal) ∙ second))
