use Rattle.amqp_annotations.proofs.BorrowedKeyLaws.{equal_alike, ordered_alike}
use Rattle.amqp_annotations.proofs.laws.borrowed_keys_compare_as_owned.Goals as goal

pub returns-clause-equality : goal.returns-clause-equality
returns-clause-equality c = equal_alike

pub returns-clause-order : goal.returns-clause-order
returns-clause-order c = ordered_alike
