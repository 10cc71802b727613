use Rattle.std.proofs.Common.{sym}
use Rattle.std.proofs.lemmas.Slice.Eq.{bytes_eq-Decides}
use Rattle.std.specs.Cmp.Derive.{both_true}
use Rattle.amqp_message_headers.proofs.CopiesEqual.{same_number, same_integer, copied_bytes}
use Rattle.amqp_message_headers.proofs.laws.copies_are_equal.Goals as goal

pub returns-clause-properties : goal.returns-clause-properties
returns-clause-properties c v copy h =
    let ids = c.copies_of_options_are_equal.ensures c.copies_of_identifiers_are_equal.ensures in
    let binaries = c.copies_of_options_are_equal-2.ensures (λ x y k. copied_bytes x.0.items y.0.items k.0) in
    let strings = c.copies_of_options_are_equal-3.ensures (λ x y k. (bytes_eq-Decides x.bytes.items y.bytes.items).1 (sym k)) in
    let symbols = c.copies_of_options_are_equal-4.ensures (λ x y k. (bytes_eq-Decides x.0.bytes.items y.0.bytes.items).1 (sym k)) in
    let times = c.copies_of_options_are_equal-5.ensures (λ x y k. same_integer x.0 y.0 k) in
    let numbers = c.copies_of_options_are_equal-6.ensures same_number in
    both_true (ids v.message_id copy.message_id h.0)
    (both_true (binaries v.user_id copy.user_id h.1.0)
    (both_true (strings v.to copy.to h.1.1.0)
    (both_true (strings v.subject copy.subject h.1.1.1.0)
    (both_true (strings v.reply_to copy.reply_to h.1.1.1.1.0)
    (both_true (ids v.correlation_id copy.correlation_id h.1.1.1.1.1.0)
    (both_true (symbols v.content_type copy.content_type h.1.1.1.1.1.1.0)
    (both_true (symbols v.content_encoding copy.content_encoding h.1.1.1.1.1.1.1.0)
    (both_true (times v.absolute_expiry_time copy.absolute_expiry_time h.1.1.1.1.1.1.1.1.0)
    (both_true (times v.creation_time copy.creation_time h.1.1.1.1.1.1.1.1.1.0)
    (both_true (strings v.group_id copy.group_id h.1.1.1.1.1.1.1.1.1.1.0)
    (both_true (numbers v.group_sequence copy.group_sequence h.1.1.1.1.1.1.1.1.1.1.1.0)
    (strings v.reply_to_group_id copy.reply_to_group_id h.1.1.1.1.1.1.1.1.1.1.1.1))))))))))))
