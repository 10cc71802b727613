-- Tables of fields.
use Rattle.std.proofs.Common.{ℕ, zero, ◌+◌, Bool, true, false, ◌&&◌, ◌||◌, suc}
use Rattle.amqp_model.specs.Term.{null, Term, Terms, leaf}
use Rattle.amqp_model.specs.Items.{terms_of}
use Rattle.amqp_model.specs.Fields.{canonical_items}
use Rattle.amqp_model.specs.Fields as table
use Rattle.amqp_codec.specs.Slots.{Field}

-- The fields of V in their order: for each, how it is got from the value, and its kind and type.
pub data Fields (V : Type 0) : Type 1 where
  none : Fields V
  field : {T : Type 0} → (V → T) → Field T → Fields V → Fields V

infixr 5 ◌▸◌
-- this field, and then those
abbrev pub ◌▸◌ : {V : Type 0} → (Fields V → Fields V) → Fields V → Fields V
f ▸ fs = f fs

-- as the model's table
abbrev pub slots : {V : Type 0} → Fields V → table.Fields V
slots none = table.none
slots (field get f fs) = table.field get f.slot (slots fs)

-- the canonical term of the field of a number, null past the last
abbrev pub canon_at : {V : Type 0} → Fields V → ℕ → V → Term
canon_at none i v = leaf null
canon_at (field get f fs) zero v = f.slot.meaning.canon (get v)
canon_at (field get f fs) (suc i) v = canon_at fs i v

-- the canonical items, as the terms of a list
abbrev pub items : {V : Type 0} → Fields V → V → Terms
items fs v = terms_of (canonical_items (slots fs) v)

abbrev pub count_of : {V : Type 0} → Fields V → V → ℕ
count_of none v = 0
count_of (field get f fs) v = f.laws.count (get v) + count_of fs v

abbrev pub are_least : {V : Type 0} → Fields V → Bool
are_least none = true
are_least (field get f fs) = f.laws.is_least && are_least fs

abbrev pub take_memory : {V : Type 0} → Fields V → Bool
take_memory none = false
take_memory (field get f fs) = f.takes_memory || take_memory fs

-- whether the field of this number takes memory as it is read
abbrev pub takes_at : {V : Type 0} → Fields V → ℕ → Bool
takes_at none i = false
takes_at (field get f fs) zero = f.takes_memory
takes_at (field get f fs) (suc i) = takes_at fs i
