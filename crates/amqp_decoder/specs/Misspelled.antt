-- Where bytes are no term.
use Rattle.std.specs.Prelude.{ℕ, List}
use Rattle.amqp_model.specs.Term.{Term}
use Rattle.amqp_wire.specs.declared.error.Error.{Error}
use Rattle.amqp_wire.specs.declared.error.Error.TheVariants.{UnknownCode, FloatCode, Size, OddCount, Depth, ZeroWidthItems, BadBool}
use Rattle.amqp_wire.specs.declared.error.Error.TheVariants.{BadChar, BadUtf8, NonAscii, BadDescriptor, Limit}
use Rattle.amqp_decoder.specs.State.{State}
use Rattle.amqp_decoder.specs.Primitives.{Stands}

-- The errors that say of bytes that they are no term, whatever type is read.
abbrev pub IsMisspelling : Error → Type 0
IsMisspelling (UnknownCode c) = Unit {0}
IsMisspelling (FloatCode c) = Unit {0}
IsMisspelling Size = Unit {0}
IsMisspelling OddCount = Unit {0}
IsMisspelling Depth = Unit {0}
IsMisspelling ZeroWidthItems = Unit {0}
IsMisspelling BadBool = Unit {0}
IsMisspelling BadChar = Unit {0}
IsMisspelling BadUtf8 = Unit {0}
IsMisspelling NonAscii = Unit {0}
IsMisspelling BadDescriptor = Unit {0}
IsMisspelling Limit = Unit {0}
IsMisspelling _ = ⊥

-- No term stands next.
abbrev pub NothingStands : State → Type 0
NothingStands st = (s : List ℕ) (t : Term) → Stands st s t → ⊥
