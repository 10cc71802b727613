use Rattle.std.proofs.Common.{true, false, subst}
use Rattle.amqp_codec.specs.FieldReading.{TakesNull}
use Rattle.amqp_codec.proofs.FieldSteps.{item_unbegun, filled_step, null_step}
use Rattle.amqp_codec.proofs.Tries.{taking_so, tries_behind}
use Rattle.amqp_codec.proofs.fields.read_item.Goals as goal

pub returns-in-Ok-true-clause-read : goal.returns-in-Ok-true-clause-read
returns-in-Ok-true-clause-read g c tells =
    let taken : TakesNull c.args.decoder.now true c.takes_null.new.decoder =
    subst (λ t. TakesNull c.args.decoder.now t c.takes_null.new.decoder) c.in-Ok-true.field-0-test (c.in-Ok-true.ensures.read tells) in
    null_step g.L.FieldList.list.fields c.args.index _ _ _ _ _ _ c.requires.its_rule taken c.check_absent.ensures.ok c.check_absent.ensures.err
    c.check_absent.ensures.place

pub returns-in-Ok-false-clause-read : goal.returns-in-Ok-false-clause-read
returns-in-Ok-false-clause-read g c tells =
    let other : TakesNull c.args.decoder.now false c.takes_null.new.decoder =
    subst (λ t. TakesNull c.args.decoder.now t c.takes_null.new.decoder) c.in-Ok-false.field-0-test (c.in-Ok-false.ensures.read tells) in
    filled_step g.L.FieldList.list.fields c.args.index _ _ _ _ other.0 _ _ c.requires.within other.1 other.2 (c.fill_field.ensures.read tells)

pub returns-in-Ok-false-clause-tries : goal.returns-in-Ok-false-clause-tries
returns-in-Ok-false-clause-tries g c =
    tries_behind _ _ c.args.decoder.now c.takes_null.new.decoder _ _ (taking_so _) c.in-Ok-false.ensures.tries c.fill_field.ensures.tries

pub returns-in-Err-clause-read : goal.returns-in-Err-clause-read
returns-in-Err-clause-read g c tells = item_unbegun g.L.FieldList.list.fields c.args.index _ _ _ (c.in-Err.ensures.read tells)
