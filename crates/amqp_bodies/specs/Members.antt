-- What a body holds, what its iterators have left, and how it is printed (Part 3, sections 3.2.6 to 3.2.8).
use Rattle.std.specs.Prelude.{Option, Some, None, Vec, List, ℕ, map, codes}
use Rattle.std.specs.declared.alloc.Global.{Global}
use Rattle.std.specs.Slice.Iter.{iter_rest}
use Rattle.std.specs.Vec.Iter.{into_iter_items}
use Rattle.amqp_primitives.specs.declared.binary.Binary.{Binary}
use Rattle.amqp_sections.specs.declared.amqp_sequence.AmqpSequence.{AmqpSequence}
use Rattle.amqp_sections.specs.declared.amqp_value.AmqpValue.{AmqpValue}
use Rattle.amqp_sections.specs.declared.data.Data.{Data as DataSection}
use Rattle.amqp_batches.specs.Batches.{sections_in}
use Rattle.amqp_batches.specs.declared.transparent_vec.TransparentVec.{TransparentVec}
use Rattle.amqp_bodies.specs.declared.body.Body.{Body}
use Rattle.amqp_bodies.specs.declared.body.Body.TheVariants.{Value, Data, Sequence, Empty}
use Rattle.amqp_bodies.specs.declared.iterators.IntoData.{IntoData}
use Rattle.amqp_bodies.specs.declared.iterators.IntoSequence.{IntoSequence}
use Rattle.amqp_bodies.specs.declared.iterators.DataIter.{DataIter}
use Rattle.amqp_bodies.specs.declared.iterators.SequenceIter.{SequenceIter}

-- The bytes of each section, in order.
abbrev pub bytes_of : List DataSection → List Binary
bytes_of sections = map (λ section. section.0) sections

-- The list of each section, in order.
abbrev pub lists_of : {T : Type 0} → List (AmqpSequence T) → List (Vec T Global)
lists_of sections = map (λ section. section.0) sections

abbrev pub body_value : {T : Type 0} → Body T → Option T
body_value (Value value) = Some value.0
body_value _ = None

abbrev pub body_data : {T : Type 0} → Body T → Option (List Binary)
body_data (Data batch) = Some (bytes_of (sections_in batch))
body_data _ = None

abbrev pub body_sequences : {T : Type 0} → Body T → Option (List (Vec T Global))
body_sequences (Sequence batch) = Some (lists_of (sections_in batch))
body_sequences _ = None

-- What iterators have left.
abbrev pub data_left : IntoData → List Binary
data_left i = bytes_of (into_iter_items i.0)

abbrev pub sequences_left : {T : Type 0} → IntoSequence T → List (Vec T Global)
sequences_left i = lists_of (into_iter_items i.0)

abbrev pub data_lent : DataIter → List Binary
data_lent i = bytes_of (iter_rest i.0)

abbrev pub sequences_lent : {T : Type 0} → SequenceIter T → List (Vec T Global)
sequences_lent i = lists_of (iter_rest i.0)

-- A value is printed as its section is; of the others the kind alone.
abbrev pub printed : {T : Type 0} → (AmqpValue T → Option (List ℕ)) → Body T → Option (List ℕ)
printed shown (Value value) = shown value
printed shown (Data _) = Some (codes "Data")
printed shown (Sequence _) = Some (codes "Sequence")
printed shown Empty = Some (codes "Nothing")

-- Two bodies of one kind, whose contents are related so.
abbrev pub AreRelated : {T : Type 0} → (AmqpValue T → AmqpValue T → Type 0) → (TransparentVec DataSection → TransparentVec DataSection → Type 0)
    → (TransparentVec (AmqpSequence T) → TransparentVec (AmqpSequence T) → Type 0) → Body T → Body T → Type 0
AreRelated values bytes sequences (Value v) (Value w) = values v w
AreRelated values bytes sequences (Data v) (Data w) = bytes v w
AreRelated values bytes sequences (Sequence v) (Sequence w) = sequences v w
AreRelated values bytes sequences Empty Empty = Unit {0}
AreRelated _ _ _ _ _ = ⊥
