use Rattle.std.proofs.lemmas.Result.{IfOk-weaker}
use Rattle.std.specs.Prelude.{◌≡◌, length, IfNone}
use Rattle.amqp_blocks.specs.Blocks.{IsAllTold}
use Rattle.amqp_blocks.proofs.BlockLemmas.{nothing_left}
use Rattle.amqp_blocks.proofs.source.Source.next_block.Goals as goal

pub returns-in-Message-clause-none : goal.returns-in-Message-clause-none
returns-in-Message-clause-none c =
    let input = c.args.input.now in
    IfOk-weaker c.next_block-in-Message.result (λ found. IfNone found (length input ≡ 0)) (λ found. IfNone found (IsAllTold input c.args.is_end))
    (nothing_left input c.args.is_end) c.next_block-in-Message.ensures.none

pub returns-in-Term-clause-none : goal.returns-in-Term-clause-none
returns-in-Term-clause-none c =
    let input = c.args.input.now in
    IfOk-weaker c.next_block-in-Term.result (λ found. IfNone found (length input ≡ 0)) (λ found. IfNone found (IsAllTold input c.args.is_end))
    (nothing_left input c.args.is_end) c.next_block-in-Term.ensures.none
