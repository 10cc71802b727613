-- What stands in the wrappers through which a message is written and read.
use Rattle.amqp_messages.specs.declared.wrappers.Serializable.{Serializable}
use Rattle.amqp_messages.specs.declared.wrappers.Deserializable.{Deserializable}

abbrev pub written_in : {T : Type 0} → Serializable T → T
written_in v = v.0

abbrev pub read_in : {T : Type 0} → Deserializable T → T
read_in v = v.0
