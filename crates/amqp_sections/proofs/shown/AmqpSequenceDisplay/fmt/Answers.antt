use Rattle.std.proofs.Common.{[], rules, Some, Ok, ◌+◌, cond, ltb, take, codes, sym, ap, ◌∙◌, arith}
use Rattle.std.proofs.lemmas.Bool.{lt-ltb}
use Rattle.std.proofs.Debugs.{debug_items-take}
use Rattle.std.proofs.Output.{displays_on_IsOk_append, displays_on_ok_of_eq, then_text_assoc}
use Rattle.std.specs.Fmt.{◌++?◌, comma_space, debug_items}
use Rattle.amqp_sections.proofs.shown.AmqpSequenceDisplay.fmt.Goals as goal

pub loop-value-preserved : goal.loop-value-preserved
loop-value-preserved g c =
    let took = g.W.Write.write_str_gives in
    let text = g.T.Display.output in
    let i = c.loop-value.value-index in
    let values = c.deref-value-items.result.now in
    let x = c.value-item.result in
    let opening = Some (codes "AmqpSequence([") in
    let shown = Some (cond (ltb 0 i) comma_space []) ++? text x in
    let so_far = debug_items text [] (take i values) in (
      search rules,
      ap (λ b. cond b comma_space []) (sym (lt-ltb 0 (i + 1) (omega arith))),
      displays_on_ok_of_eq took c.args.f.now c.write-in-loop-value.new.self (Ok tt) ((opening ++? so_far) ++? shown) _
          (then_text_assoc opening so_far shown
          ∙ ap (λ o. opening ++? o) (sym (debug_items-take text values i x c.loop-value-test.true c.value-item.is)))
          (displays_on_IsOk_append took c.args.f.now c.loop-value.f c.write-in-loop-value.new.self (Ok tt) (Ok tt) (opening ++? so_far) shown (λ k. k) c.loop-value.invariant.2
          (rw c.loop-value.invariant.1 at c.in_ok-write-2.ensures.writes)),
    )
