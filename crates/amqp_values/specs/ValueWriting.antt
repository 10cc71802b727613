-- How a value of any kind is written.
use Rattle.amqp_codec.specs.Written.{Writing}
use Rattle.amqp_values.specs.declared.value.Value.{Value}
use Rattle.amqp_values.specs.Typing.{IsTyped}
use Rattle.amqp_values.specs.Canon.{value_canons}
use Rattle.amqp_values.specs.laws.Canon.{value_proper}

-- How a value is written.
abbrev pub value_writing : Writing Value
value_writing = record { canons = value_canons; is_value = IsTyped; proper = value_proper }
