use Rattle.std.proofs.Common.{Ok, Err}
use Rattle.amqp_codec.proofs.ListReads.{list_reads}
use Rattle.amqp_codec.proofs.fields.read_list.Goals as goal

pub returns-in-Ok-clause-read : goal.returns-in-Ok-clause-read
returns-in-Ok-clause-read g c tells = list_reads g.L.FieldList.list.fields _ (Ok _) _ (c.in-Ok.ensures.read c.blank-value.ensures tells)

pub returns-in-Err-clause-read : goal.returns-in-Err-clause-read
returns-in-Err-clause-read g c tells = list_reads g.L.FieldList.list.fields _ (Err _) _ (c.in-Err.ensures.read c.blank-value.ensures tells)
