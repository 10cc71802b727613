use Rattle.std.proofs.Common.{sym, subst}
use Rattle.amqp_model.specs.Constructors.{format}
use Rattle.amqp_model.specs.Spelling.{IsKnown}
use Rattle.amqp_nodes.specs.Items.{RefusesItem}
use Rattle.amqp_nodes.proofs.Announced.{refused_unknown, refused_short}
use Rattle.amqp_nodes.proofs.nodes.item_len.Goals as goal

pub returns-then-code-eq-DESCRIBED-clause-refused : goal.returns-then-code-eq-DESCRIBED-clause-refused
returns-then-code-eq-DESCRIBED-clause-refused c =
    subst (λ e. RefusesItem c.args.code c.args.bytes.now e) (sym c.refusal.ensures)
    (refused_unknown c.args.code c.args.bytes.now (λ k. subst (λ z. IsKnown (format z)) c.if-code-eq-DESCRIBED.true k))

pub returns-in-Some-clause-refused : goal.returns-in-Some-clause-refused
returns-in-Some-clause-refused c =
    subst (λ e. RefusesItem c.args.code c.args.bytes.now e) (sym c.in-Some.ensures.0)
    (refused_unknown c.args.code c.args.bytes.now c.in-Some.ensures.1)

pub returns-in_default-announced_len-clause-refused : goal.returns-in_default-announced_len-clause-refused
returns-in_default-announced_len-clause-refused c =
    refused_short c.args.code c.args.bytes.now (c.in-Some-announced_len.ensures.1 c.if-len-bytes.false)

pub returns-in_default-announced_len-2-clause-refused : goal.returns-in_default-announced_len-2-clause-refused
returns-in_default-announced_len-2-clause-refused c = refused_short c.args.code c.args.bytes.now c.in_default-announced_len.ensures
