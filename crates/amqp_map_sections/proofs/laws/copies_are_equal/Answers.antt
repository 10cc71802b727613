use Rattle.std.proofs.Common.{sym}
use Rattle.std.proofs.lemmas.Slice.Eq.{bytes_eq-Decides}
use Rattle.amqp_map_sections.proofs.CopiesEqual.{same_values, same_simple_values}
use Rattle.amqp_map_sections.proofs.laws.copies_are_equal.Goals as goal

pub returns-clause-delivery_annotations : goal.returns-clause-delivery_annotations
returns-clause-delivery_annotations c v copy h =
    c.copies_are_equal.ensures c.copies_of_keys_are_equal.ensures same_values v.0 copy.0 h

pub returns-clause-message_annotations : goal.returns-clause-message_annotations
returns-clause-message_annotations c v copy h =
    c.copies_are_equal.ensures c.copies_of_keys_are_equal.ensures same_values v.0 copy.0 h

pub returns-clause-application_properties : goal.returns-clause-application_properties
returns-clause-application_properties c v copy h =
    c.copies_are_equal-2.ensures (λ s t k. (bytes_eq-Decides s.bytes.items t.bytes.items).1 (sym k)) same_simple_values v.0 copy.0 h

pub returns-clause-footer : goal.returns-clause-footer
returns-clause-footer c v copy h = c.copies_are_equal.ensures c.copies_of_keys_are_equal.ensures same_values v.0 copy.0 h
