use Rattle.std.proofs.Common.{false, [], ◌∷◌, ap₂}
use Rattle.std.proofs.lemmas.Result.{err_from_is_err_and}
use Rattle.amqp_decoder.proofs.Places.{refused_here}
use Rattle.amqp_sections.proofs.SectionReads.{begin_refused, value_refused, end_refused, whole_read}
use Rattle.amqp_codec.proofs.Tries.{taking_none, taking_so, refused_more, refused_behind}
use Rattle.amqp_sections.proofs.section.read_section.Goals as goal

pub returns-in_err-begin_one_of-clause-read : goal.returns-in_err-begin_one_of-clause-read
returns-in_err-begin_one_of-clause-read g c tells =
    let names = ap₂ (λ a b. (a, b) ∷ []) c.descriptor.ensures.code c.descriptor.ensures.name in
    let p = err_from_is_err_and c.from_residual.result c.from_residual.ensures.1 in
    rw (p.1, p.2)
    (begin_refused g.S.Section.holds g.S.Section.naming g.T.DeserializeTerm.term (c.descriptor.result ∷ []) _ _ _ names
    (c.in_err-begin_one_of.ensures.opened tells))

pub returns-in-Ok-end_described-clause-read : goal.returns-in-Ok-end_described-clause-read
returns-in-Ok-end_described-clause-read g c tells =
    let names = ap₂ (λ a b. (a, b) ∷ []) c.descriptor.ensures.code c.descriptor.ensures.name in
    whole_read g.S.Section.holds g.S.Section.naming g.T.DeserializeTerm.term (c.descriptor.result ∷ []) _ _ _ names
    (c.in_ok-begin_one_of.ensures.nesting tells) (c.in_ok-begin_one_of.ensures.opened tells) _ _ _ _ c.of_content.ensures
    (c.in-Ok.ensures.read tells) c.in-Ok-end_described.ensures.read

pub returns-in-Err-end_described-clause-read : goal.returns-in-Err-end_described-clause-read
returns-in-Err-end_described-clause-read g c tells =
    let names = ap₂ (λ a b. (a, b) ∷ []) c.descriptor.ensures.code c.descriptor.ensures.name in
    end_refused g.S.Section.holds g.S.Section.naming g.T.DeserializeTerm.term (c.descriptor.result ∷ []) _ _ _ names
    (c.in_ok-begin_one_of.ensures.nesting tells) (c.in_ok-begin_one_of.ensures.opened tells) _ _ _ _ (c.in-Ok.ensures.read tells)
    (refused_here c.in-Err-end_described.ensures.read c.in-Err-end_described.ensures.place)

pub returns-in-Err-clause-read : goal.returns-in-Err-clause-read
returns-in-Err-clause-read g c tells =
    let names = ap₂ (λ a b. (a, b) ∷ []) c.descriptor.ensures.code c.descriptor.ensures.name in
    value_refused g.S.Section.holds g.S.Section.naming g.T.DeserializeTerm.term (c.descriptor.result ∷ []) _ _ _ names
    (c.in_ok-begin_one_of.ensures.nesting tells) (c.in_ok-begin_one_of.ensures.opened tells) _ _ (c.in-Err.ensures.read tells)

pub returns-in_err-begin_one_of-clause-tries : goal.returns-in_err-begin_one_of-clause-tries
returns-in_err-begin_one_of-clause-tries g c =
    let p = err_from_is_err_and c.from_residual.result c.from_residual.ensures.1 in
    rw (p.1, p.2)
    (refused_more false _ c.args.decoder.now _ _ (taking_none _) c.in_err-begin_one_of.ensures.tries)

pub returns-in-Err-clause-tries : goal.returns-in-Err-clause-tries
returns-in-Err-clause-tries g c =
    refused_behind _ _ c.args.decoder.now c.begin_one_of.new.self _ _ (taking_so _) c.in_ok-begin_one_of.ensures.tries c.in-Err.ensures.tries
