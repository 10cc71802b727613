-- What copies of values have in common with them: their terms.
use Rattle.amqp_model.specs.Term.{Term, described}
use Rattle.amqp_lookahead.specs.Members.{descriptor_of}
use Rattle.amqp_described.specs.declared.described.Described.{Described}
use Rattle.amqp_values.specs.declared.value.Value.{Value}
use Rattle.amqp_values.specs.Values.{value_term}

-- The term of a described value.
abbrev pub described_term : Described Value → Term
described_term d = described (descriptor_of d.descriptor) (value_term d.value)

-- The terms of a key and its value.
abbrev pub terms_of_pair : Value × Value → Term × Term
terms_of_pair p = (value_term p.0, value_term p.1)
