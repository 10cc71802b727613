-- A key of a user's own: the number of a port, which is a uint (Part 1, section 1.6.5).
use Rattle.std.proofs.Common.{refl}
use Rattle.amqp_model.specs.FieldType.{unchanged}
use Rattle.amqp_codec.specs.TermType.{TermType}
use Rattle.amqp_codec.specs.PrimitiveTypes.{uint_type}
use Rattle.amqp_codec.specs.Wrappers.{via}
use Rattle.amqp_user_types.specs.declared.port.Port.{Port}

abbrev pub port_type : TermType Port
port_type = via uint_type (λ p. p.0) unchanged (λ p. refl)
