use Rattle.amqp_decoder.proofs.Constructed.{flat_items, flat_found}
use Rattle.amqp_decoder.proofs.arrays.is_flat.Goals as goal

pub returns-then-is_empty-clause-is : goal.returns-then-is_empty-clause-is
returns-then-is_empty-clause-is c =
    λ known. flat_items c.args.code c.args.descriptors.now c.is_compound.result c.if-is_empty.ensures c.is_compound.ensures known

pub returns-then-is_empty-clause-flat : goal.returns-then-is_empty-clause-flat
returns-then-is_empty-clause-flat c =
    λ flat. flat_found c.args.code c.args.descriptors.now c.is_compound.result c.if-is_empty.ensures c.is_compound.ensures flat
