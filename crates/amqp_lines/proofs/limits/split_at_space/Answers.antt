use Rattle.std.proofs.Common.{◌∷◌, ◌++◌, take, ◌+◌, sym, ap, ◌∙◌}
use Rattle.amqp_lines.proofs.Pieces.{nowhere, first_some}
use Rattle.amqp_lines.proofs.Requests.{split_line, to_its_end}
use Rattle.amqp_lines.proofs.limits.split_at_space.Goals as goal

pub returns-in_err-space : goal.returns-in_err-space
returns-in_err-space c = rw c.from_residual.ensures (nowhere 32 c.args.bytes.now c.in_err-space.ensures)

pub returns : goal.returns
returns c =
    let bytes = c.args.bytes.now in
    let space = c.in_ok-space.space in (
      first_some 32 bytes space c.in_ok-space.ensures,
      split_line bytes space c.in_ok-space.ensures
          ∙ ap (λ behind. take space bytes ++ (32 ∷ behind)) (sym (to_its_end bytes (space + 1))),
    )
