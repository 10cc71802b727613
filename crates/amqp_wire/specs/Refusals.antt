-- The error by which a value without canonical text is refused.
use Rattle.amqp_model.specs.Term.{Refusal, duplicate_key, depth, zero_width_items, non_ascii, empty_multiple, mixed_array, too_large}
use Rattle.amqp_model.specs.Term.{lazy_in_array, custom}
use Rattle.amqp_wire.specs.declared.error.Error.{Error}
use Rattle.amqp_wire.specs.declared.error.Error.TheVariants.{DuplicateKey, Depth, ZeroWidthItems, NonAscii, EmptyMultiple, MixedArray}
use Rattle.amqp_wire.specs.declared.error.Error.TheVariants.{TooLarge, LazyInArray, Custom}

abbrev pub error_of : Refusal → Error
error_of duplicate_key = DuplicateKey
error_of depth = Depth
error_of zero_width_items = ZeroWidthItems
error_of non_ascii = NonAscii
error_of empty_multiple = EmptyMultiple
error_of mixed_array = MixedArray
error_of too_large = TooLarge
error_of lazy_in_array = LazyInArray
error_of (custom n) = Custom n
