use Rattle.std.specs.Cmp.Derive.{both_true}
use Rattle.amqp_messages.proofs.laws.copies_are_equal.Goals as goal

pub returns : goal.returns
returns g c same message copy h =
    let headers = c.copies_of_options_are_equal.ensures c.copies_are_equal.ensures.header in
    let delivery_annotations = c.copies_of_options_are_equal-2.ensures c.copies_are_equal-2.ensures.delivery_annotations in
    let message_annotations = c.copies_of_options_are_equal-3.ensures c.copies_are_equal-2.ensures.message_annotations in
    let properties = c.copies_of_options_are_equal-4.ensures c.copies_are_equal.ensures.properties in
    let application_properties = c.copies_of_options_are_equal-5.ensures c.copies_are_equal-2.ensures.application_properties in
    let footers = c.copies_of_options_are_equal-6.ensures c.copies_are_equal-2.ensures.footer in
    both_true (headers message.header copy.header h.0)
    (both_true (delivery_annotations message.delivery_annotations copy.delivery_annotations h.1.0)
    (both_true (message_annotations message.message_annotations copy.message_annotations h.1.1.0)
    (both_true (properties message.properties copy.properties h.1.1.1.0)
    (both_true (application_properties message.application_properties copy.application_properties h.1.1.1.1.0)
    (both_true (same message.body copy.body h.1.1.1.1.1.0)
    (footers message.footer copy.footer h.1.1.1.1.1.1))))))
