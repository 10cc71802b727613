-- The type of the items of a list or an array, with why they aren't read.
use Rattle.std.proofs.Common.{List}
use Rattle.amqp_model.specs.Term.{Term}
use Rattle.amqp_model.specs.Standing.{Standing}
use Rattle.amqp_codec.specs.Faults.{Faults}
use Rattle.amqp_codec.specs.TermType.{TermType}
use Rattle.amqp_codec.specs.ItemsType.{items_type}
use Rattle.amqp_codec.specs.ItemsReading.{Opening, ItemsFault}
use Rattle.amqp_codec.specs.laws.ItemsReading.{items_not_outside, items_elsewhere, items_misspelled, items_within}

-- Why the items of a list or an array that is opened so aren't read.
abbrev pub items_faults : {T : Type 0} → Opening → (Standing → Term → T → Type 0) → Faults → Faults
items_faults o means f = record {
  fault = ItemsFault o means f.fault;
  not_outside = λ e out. items_not_outside o means f out;
  fault_elsewhere = items_elsewhere o means f;
  misspelled = items_misspelled o means f;
  within = items_within o means f;
}

-- The type of its items.
abbrev pub items_of : {T : Type 0} → Opening → TermType T → TermType (List T)
items_of o u = items_type u o.kind o.is_list_or_array (items_faults o u.means u.faults)
