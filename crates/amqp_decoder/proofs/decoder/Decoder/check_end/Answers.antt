use Rattle.std.proofs.Common.{rules, refl}
use Rattle.amqp_decoder.proofs.Steps.{answered}
use Rattle.amqp_decoder.proofs.Rows.{split_saved}
use Rattle.amqp_decoder.proofs.Closing.{end_items_left}
use Rattle.amqp_decoder.proofs.decoder.Decoder.check_end.Goals as goal

pub returns-then-not-is_done-clause-read : goal.returns-then-not-is_done-clause-read
returns-then-not-is_done-clause-read g c =
    let s = split_saved c.args.self.now.saved (search rules) in
    let end = c.stop-then-not-is_done.ensures in
    end_items_left _ _ _ _ (search rules) (record { here = search rules; outer = s.0; others = s.1; saved = s.2 }) (search rules) end.answer
    (answered _ _ _ _ end.kept end.answer)

pub returns-clause-read : goal.returns-clause-read
returns-clause-read g c =
    let s = split_saved c.args.self.now.saved (search rules) in
    record { going = search rules; here = search rules; items = search rules; outer = s.0; others = s.1; saved = s.2; kept = refl }
