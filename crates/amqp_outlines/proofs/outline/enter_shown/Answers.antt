use Rattle.std.proofs.Common.{◌+◌, refl, subst, Option, IfSome}
use Rattle.amqp_outlines.specs.declared.outline.Open.{Open}
use Rattle.amqp_outlines.specs.Outlines.{IsInside}
use Rattle.amqp_outlines.proofs.OutlineLemmas.{entered, entered_open}
use Rattle.amqp_outlines.proofs.outline.enter_shown.Goals as goal

pub returns-in-None : goal.returns-in-None
returns-in-None c = λ l n g m.
    let e = c.entry_of.ensures in
    rw c.in_ok-push.ensures.items
    (entered l n c.args.depth c.args.entries.now.items c.args.opened.now.items c.args.met.now c.entry_of.result g m c.requires.met e.depth e.from e.to)

pub returns-in-Some : goal.returns-in-Some
returns-in-Some c = λ l n g m.
    let e = c.entry_of.ensures in
    let inside : IsInside c.args.met.now c.in-Some.parts = subst (λ (o : Option Open). IfSome o (IsInside c.args.met.now)) c.in-Some.is c.requires.inside in
    c.open_parts.ensures l n c.push.new.self.items
    (rw c.in_ok-push.ensures.items
    (entered l n c.args.depth c.args.entries.now.items c.args.opened.now.items c.args.met.now c.entry_of.result g m c.requires.met e.depth e.from e.to))
    (rw c.in_ok-push.ensures.items
    (entered_open l n c.args.depth c.args.entries.now.items c.args.opened.now.items c.args.met.now c.entry_of.result c.in-Some.parts
    (record c.in-Some.parts { depth = c.args.depth + 1 }) g m c.requires.met e.depth e.from e.to inside refl refl refl))
