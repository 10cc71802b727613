use Rattle.amqp_values.proofs.FormatCodes.{boolean_code}
use Rattle.amqp_values.proofs.value.Value.format_code.Goals as goal

pub returns-in-Bool : goal.returns-in-Bool
returns-in-Bool c = boolean_code c.args.self.now _ c.in-Bool.is
