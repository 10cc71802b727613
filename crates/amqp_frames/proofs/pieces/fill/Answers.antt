use Rattle.std.proofs.Common.{◌≡◌, length}
use Rattle.std.proofs.lemmas.List.{take-append-drop}
use Rattle.std.proofs.lemmas.Result.{err_from_is_err_and}
use Rattle.amqp_frames.proofs.PieceLemmas.{none_so_far, part_fault, part_added, rest_added}
use Rattle.amqp_frames.proofs.pieces.fill.Goals as goal

pub parts-init : goal.parts-init
parts-init c = rw c.requires (record { so_far = none_so_far _ _ _ })

pub returns-in_err-len-clause-err : goal.returns-in_err-len-clause-err
returns-in_err-len-clause-err c =
    let p = err_from_is_err_and c.from_residual.result c.from_residual.ensures.1 in
    rw (p.1, p.2) (part_fault c.parts.invariant.so_far _ c.in_err-len.ensures.err)

pub parts-preserved : goal.parts-preserved
parts-preserved c =
    let part = rw c.in-Some.is at c.in_ok-len.ensures.part in
    let front : length c.split_at.result.0.now ≡ c.in-Some.len = c.split_at.ensures.front_len in
    record {
      so_far =
          part_added c.parts.invariant.so_far c.part_len.new.next _ c.split_at.result.0.now c.split_at.result.1.now _
          c.in_ok-push_piece.ensures.pushed c.in_ok-push_piece.ensures.next part.0
          (rw (c.split_at.ensures.front, c.split_at.ensures.back) (take-append-drop _ _)) (rw front part.1) (rw front part.2)
          (rw front part.3) part.4;
    }

pub returns-clause-ok : goal.returns-clause-ok
returns-clause-ok c =
    let last = c.in_ok-len.ensures.last c.in_default.is in
    rest_added c.parts.invariant.so_far c.part_len.new.next _ c.in_ok-push_piece-2.ensures.pushed last.0 last.1
