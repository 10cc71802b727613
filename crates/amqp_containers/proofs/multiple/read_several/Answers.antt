use Rattle.std.proofs.Common.{false, true, rules}
use Rattle.std.proofs.lemmas.List.{nil_from_length}
use Rattle.std.proofs.lemmas.Result.{err_from_is_err_and}
use Rattle.amqp_decoder.specs.Reading.{PeeksCode, BeginFault}
use Rattle.amqp_decoder.specs.Places.{Here}
use Rattle.amqp_decoder.proofs.Places.{refused_here}
use Rattle.amqp_codec.specs.laws.Refusal.{no_memory, refused_first}
use Rattle.amqp_codec.specs.laws.Peek.{value_peeked}
use Rattle.amqp_codec.specs.EitherMeaning.{no_value}
use Rattle.amqp_containers.proofs.MultipleReads.{array_refused, items_read, no_items_read, item_refused, item_read}
use Rattle.amqp_codec.proofs.Tries.{taking_some, refused_more, refused_behind}
use Rattle.amqp_containers.proofs.multiple.read_several.Goals as goal

pub returns-in_err-peek_code-clause-read : goal.returns-in_err-peek_code-clause-read
returns-in_err-peek_code-clause-read g c tells =
    let p = err_from_is_err_and c.from_residual.result c.from_residual.ensures.1 in
    rw (p.1, p.2) (refused_first PeeksCode (Here BeginFault) _ _ _ _ _ no_memory (λ _. no_value) (value_peeked _ _)
    (refused_here (c.in_err-peek_code.ensures.read tells) c.in_err-peek_code.ensures.place))

pub returns-in_err-items-in-224-clause-read : goal.returns-in_err-items-in-224-clause-read
returns-in_err-items-in-224-clause-read g c tells =
    let r = c.from_residual-in_err-items-in-224 in
    let p = err_from_is_err_and r.result r.ensures.1 in
    rw (p.1, p.2)
    (array_refused g.T.DeserializeTerm.term _ _ _ (c.in_ok-peek_code.ensures.read tells) c.in-224.is (record { 0 = c.new.result })
    c.new.ensures.items _ _ (c.in_err-items-in-224.ensures.read tells))

pub returns-then-is_empty-clause-read : goal.returns-then-is_empty-clause-read
returns-then-is_empty-clause-read g c tells =
    no_items_read g.T.DeserializeTerm.term _ _ _ (c.in_ok-peek_code.ensures.read tells) _ _
    (nil_from_length c.in_ok-items-in-224.items.0.items (search rules)) (c.in_ok-items-in-224.ensures.read tells)

pub returns-else-is_empty-clause-read : goal.returns-else-is_empty-clause-read
returns-else-is_empty-clause-read g c tells =
    items_read g.T.DeserializeTerm.term _ _ _ (c.in_ok-peek_code.ensures.read tells) _ _ (search rules) (c.in_ok-items-in-224.ensures.read tells)

pub returns-in_err-item-in_default-clause-read : goal.returns-in_err-item-in_default-clause-read
returns-in_err-item-in_default-clause-read g c tells =
    let r = c.from_residual-in_err-item-in_default in
    let p = err_from_is_err_and r.result r.ensures.1 in
    rw (p.1, p.2)
    (item_refused g.T.DeserializeTerm.term _ c.in_ok-peek_code.field-0 _ (c.in_ok-peek_code.ensures.read tells) (search rules) (search rules)
    _ _ (c.in_err-item-in_default.ensures.read tells))

pub returns-else-is_err-clause-read : goal.returns-else-is_err-clause-read
returns-else-is_err-clause-read g c tells =
    item_read g.T.DeserializeTerm.term _ c.in_ok-peek_code.field-0 _ (c.in_ok-peek_code.ensures.read tells) (search rules) (search rules)
    _ _ _ (search rules) (c.in_ok-item-in_default.ensures.read tells)

pub returns-in_err-peek_code-clause-tries : goal.returns-in_err-peek_code-clause-tries
returns-in_err-peek_code-clause-tries g c =
    let p = err_from_is_err_and c.from_residual.result c.from_residual.ensures.1 in
    rw (p.1, p.2)
    (refused_more false true c.args.decoder.now _ _ (taking_some _) c.in_err-peek_code.ensures.tries)

pub returns-in_err-items-in-224-clause-tries : goal.returns-in_err-items-in-224-clause-tries
returns-in_err-items-in-224-clause-tries g c =
    let p = err_from_is_err_and c.from_residual-in_err-items-in-224.result c.from_residual-in_err-items-in-224.ensures.1 in
    rw (p.1, p.2)
    (refused_behind true true c.args.decoder.now c.peek_code.new.self _ _ (taking_some _) c.in_ok-peek_code.ensures.tries
    c.in_err-items-in-224.ensures.tries)

pub returns-in_err-item-in_default-clause-tries : goal.returns-in_err-item-in_default-clause-tries
returns-in_err-item-in_default-clause-tries g c =
    let p = err_from_is_err_and c.from_residual-in_err-item-in_default.result c.from_residual-in_err-item-in_default.ensures.1 in
    rw (p.1, p.2)
    (refused_behind _ true c.args.decoder.now c.peek_code.new.self _ _ (taking_some _) c.in_ok-peek_code.ensures.tries
    c.in_err-item-in_default.ensures.tries)
