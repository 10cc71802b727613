use Rattle.amqp_codec.specs.Composite.{table_with}
use Rattle.amqp_placed.proofs.Composites.{composite_shown}
use Rattle.amqp_placed.proofs.laws.composites.Goals as goal

pub returns : goal.returns
returns c = λ _ e shown. composite_shown e (table_with c.C.Composite.names c.C.FieldList.list) shown
