-- The tables of delivery states that hold no error and no map (Part 3, section 3.4), and of requests for transactions and the outcome of
-- one (Part 4, section 4.5).
use Rattle.amqp_sums.specs.Types.{codes, refl, boolean_type, uint_type, ulong_type, mandatory, optional}
use Rattle.amqp_sums.specs.Types.{none, field, ◌▸◌, plain, Table, fieldless}
use Rattle.amqp_primitives.specs.Types.{binary_type}
use Rattle.amqp_plain_states.specs.declared.accepted.Accepted.{Accepted}
use Rattle.amqp_plain_states.specs.declared.declare.Declare.{Declare}
use Rattle.amqp_plain_states.specs.declared.declared.Declared.{Declared}
use Rattle.amqp_plain_states.specs.declared.discharge.Discharge.{Discharge}
use Rattle.amqp_plain_states.specs.declared.received.Received.{Received}
use Rattle.amqp_plain_states.specs.declared.released.Released.{Released}

-- Part 3, section 3.4.2
abbrev pub accepted : Table Accepted
accepted = fieldless 0x24 (codes "amqp:accepted:list") refl

-- Part 3, section 3.4.1
abbrev pub received : Table Received
received = plain 0x23 (codes "amqp:received:list")
    (field (λ v. v.section_number) (mandatory uint_type refl refl)
    ▸ field (λ v. v.section_offset) (mandatory ulong_type refl refl)
    ▸ none)
    refl refl

-- Part 3, section 3.4.4
abbrev pub released : Table Released
released = fieldless 0x26 (codes "amqp:released:list") refl

-- Part 4, section 4.5.2
abbrev pub declare : Table Declare
declare = plain 0x31 (codes "amqp:declare:list")
    (field (λ v. v.global_id) (optional binary_type refl refl)
    ▸ none)
    refl refl

-- Part 4, section 4.5.3
abbrev pub discharge : Table Discharge
discharge = plain 0x32 (codes "amqp:discharge:list")
    (field (λ v. v.txn_id) (mandatory binary_type refl refl)
    ▸ field (λ v. v.fail) (optional boolean_type refl refl)
    ▸ none)
    refl refl

-- Part 4, section 4.5.5
abbrev pub declared : Table Declared
declared = plain 0x33 (codes "amqp:declared:list")
    (field (λ v. v.txn_id) (mandatory binary_type refl refl)
    ▸ none)
    refl refl
