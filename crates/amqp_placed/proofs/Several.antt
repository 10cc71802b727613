-- A fault of a field of several values is shown by bytes, where those of its values are (Part 1, section 1.4).
use Rattle.std.proofs.Common.{inr}
use Rattle.amqp_wire.specs.declared.error.Error.{Error}
use Rattle.amqp_wire.specs.declared.error.Error.TheVariants.{EmptyMultiple}
use Rattle.amqp_codec.specs.TermType.{TermType}
use Rattle.amqp_containers.specs.ArrayType.{array_of}
use Rattle.amqp_containers.specs.Several.{is_array_code, multiple_faults, MandatoryFault, not_read, no_items}
use Rattle.amqp_placed.specs.Facing.{bytes_open, AreShown}
use Rattle.amqp_placed.proofs.Here.{wrong_as, here_shows, next_left}
use Rattle.amqp_placed.proofs.Wholes.{whole_next}
use Rattle.amqp_placed.proofs.Formers.{either_shown}
use Rattle.amqp_placed.proofs.Elements.{array_shown}

module _ (e : Error) {T : Type 0} (u : TermType T)
    (shown : AreShown e u.faults.fault) where
  pub multiple_shown : AreShown e (multiple_faults u).fault
  multiple_shown = either_shown e is_array_code (array_of u).faults u.faults
      (array_shown u.means u.faults.fault e shown) shown

  pub mandatory_shown : AreShown e (MandatoryFault u)
  mandatory_shown st f is (not_read h) P d around faces = multiple_shown st f is h P d around faces
  mandatory_shown st f is (no_items {b} value error place) P d around h =
      here_shows st f P d around place (wrong_as f.error EmptyMultiple around P d (bytes_open st) error
      (inr (whole_next st P value.bytes value.term value.stands (next_left st.top.items st.top.shared P value.stands.item h.next))))
