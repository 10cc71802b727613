-- What has to be shown of the parts of a type.
use Rattle.amqp_wire.specs.declared.error.Error.{Error}
use Rattle.amqp_wire.specs.declared.error.Error.TheVariants.{Cut, Size}
use Rattle.amqp_codec.specs.Fields.{Fields, none, field}
use Rattle.amqp_sums.specs.Choices.{Choices, no_more, member}
use Rattle.amqp_placed.specs.Facing.{AreShown}

-- Of each field, that its faults by this error are shown.
abbrev pub FieldsShown : {V : Type 0} → Error → Fields V → Type 0
FieldsShown e none = Unit {0}
FieldsShown e (field get f fs) = AreShown e f.faults.fault × FieldsShown e fs

-- Of each member of a sum, that those of its fields are.
abbrev pub ChoicesShown : {V : Type 0} → Error → Choices V → Type 0
ChoicesShown e no_more = Unit {0}
ChoicesShown e (member c make cs) = FieldsShown e c.fields × ChoicesShown e cs

-- It says neither that bytes end nor that a size is wrong.
abbrev pub IsOfNoEnd : Error → Type 0
IsOfNoEnd Cut = ⊥
IsOfNoEnd Size = ⊥
IsOfNoEnd _ = Unit {0}
