use Rattle.std.proofs.Common.{false, arith, rules, add-one, ap, sym, ◌∙◌, ◌≡◌, ◌<◌, length, get_or}
use Rattle.std.proofs.lemmas.Result.{err_from_is_err_and}
use Rattle.amqp_model.specs.Fields.{rules_of}
use Rattle.amqp_model.specs.declared.tables.FieldRule.TheVariants.{Mandatory}
use Rattle.amqp_decoder.specs.declared.frame.Place.TheVariants.{InList}
use Rattle.amqp_decoder.specs.Containers.{Closes, CloseFault}
use Rattle.amqp_codec.specs.Fields.{slots}
use Rattle.amqp_codec.specs.FieldReading.{absence, rule_at}
use Rattle.amqp_codec.specs.laws.FieldReading.{not_absent}
use Rattle.amqp_codec.proofs.FieldSteps.{open_refused, none_so_far, item_refused, left_out_refused, one_more, one_less}
use Rattle.amqp_codec.proofs.FieldSteps.{all_filled, so_far_still}
use Rattle.amqp_codec.proofs.Tries.{taking_none, taking_at, refused_behind, tries_behind, absent_refused}
use Rattle.amqp_codec.proofs.fields.fill_fields.Goals as goal
use Rattle.amqp_codec.proofs.fields.fill_fields.Goals.{then-index-count+in_ok-read_item, else-index-count+in_default}
use Rattle.amqp_decoder.proofs.Places.{refused_here, answered_here}

pub returns-in_err-count-clause-read : goal.returns-in_err-count-clause-read
returns-in_err-count-clause-read g c blank tells =
    let p = err_from_is_err_and c.from_residual.result c.from_residual.ensures.1 in
    rw (p.1, p.2) (open_refused g.L.FieldList.list.fields _ _ _ (refused_here (c.in_err-count.ensures.read tells) c.in_err-count.ensures.place))

pub loop-index-init : goal.loop-index-init
loop-index-init g c = record {
  fields = λ blank tells. none_so_far g.L.FieldList.list.fields _ _ _ _ (c.in_ok-count.ensures.read tells) blank;
  began = search rules;
}

pub returns-in_err-read_item-clause-read : goal.returns-in_err-read_item-clause-read
returns-in_err-read_item-clause-read g c blank tells =
    let fs = g.L.FieldList.list.fields in
    let within : c.loop-index.index < length (rules_of (slots fs)) =
    omega (arith, ap length c.field_rules-rule-items.ensures, c.loop-index-test.true) in
    let h = c.loop-index.invariant.fields blank tells in
    let p = err_from_is_err_and c.from_residual-in_err-read_item.result c.from_residual-in_err-read_item.ensures.1 in
    rw (p.1, p.2) (item_refused fs _ _ _ _ _ _ _ c.if-index-count.true within (so_far_still fs _ _ _ _ _ h) h
    (c.in_err-read_item.ensures.read tells))

pub returns-in-Some-clause-read : goal.returns-in-Some-clause-read
returns-in-Some-clause-read g c blank tells =
    let fs = g.L.FieldList.list.fields in
    let i = c.loop-index.index in
    let within : i < length (rules_of (slots fs)) = omega (arith, ap length c.field_rules-rule-items.ensures, c.loop-index-test.true) in
    left_out_refused fs _ _ _ _ _ _ _ c.if-index-count.false within
    (ap (λ l. absence (get_or l i Mandatory)) (sym c.field_rules-rule-items.ensures) ∙ sym c.in-Some.ensures) c.refuse.ensures.first
    c.refuse.ensures.place (c.loop-index.invariant.fields blank tells)

pub returns-in-Some-clause-tries : goal.returns-in-Some-clause-tries
returns-in-Some-clause-tries g c =
    let i = c.loop-index.index in
    absent_refused _ c.args.decoder.now c.loop-index.decoder (rule_at g.L.FieldList.list.fields i) _ _ _
    (ap (λ l. absence (get_or l i Mandatory)) (sym c.field_rules-rule-items.ensures) ∙ sym c.in-Some.ensures)
    c.loop-index.invariant.began c.refuse.ensures.first

pub loop-index-preserved : goal.loop-index-preserved
loop-index-preserved g c =
    let fs = g.L.FieldList.list.fields in
    let i = c.loop-index.index in
    let within : i < length (rules_of (slots fs)) = omega (arith, ap length c.field_rules-rule-items.ensures, c.loop-index-test.true) in
    elim c.if-index-count.branch [
      | then-index-count+in_ok-read_item w ↦ record {
        fields = λ blank tells. rw (w.decoder-is, w.value-is, add-one)
            (one_more fs _ _ _ _ _ _ _ w.if-index-count.true within (c.loop-index.invariant.fields blank tells)
            (w.in_ok-read_item.ensures.read tells));
        began = rw w.decoder-is (search rules);
      }
      | else-index-count+in_default w ↦ record {
        fields = λ blank tells. rw (w.decoder-is, w.value-is, add-one) (one_less fs _ _ _ _ _ w.if-index-count.false within
            (not_absent _ (ap (λ l. absence (get_or l i Mandatory)) (sym c.field_rules-rule-items.ensures) ∙ sym w.in_default.ensures))
            (c.loop-index.invariant.fields blank tells));
        began = rw w.decoder-is c.loop-index.invariant.began;
      }
    ]

pub returns-clause-read : goal.returns-clause-read
returns-clause-read g c blank tells =
    let fs = g.L.FieldList.list.fields in
    let all : c.loop-index.index ≡ length (rules_of (slots fs)) =
    omega (arith, ap length c.field_rules-rule-items.ensures, c.loop-index-test.false, c.loop-index.auto.index-end) in
    all_filled fs _ _ _ _ _ _ _ all (c.loop-index.invariant.fields blank tells)
    (answered_here false (λ st (_ : Unit {0}) b. Closes InList st b) (CloseFault InList) c.loop-index.decoder c.end_list.result
    c.end_list.new.self (c.end_list.ensures.read tells) c.end_list.ensures.place)

pub returns-in_err-read_item-clause-tries : goal.returns-in_err-read_item-clause-tries
returns-in_err-read_item-clause-tries g c =
    let p = err_from_is_err_and c.from_residual-in_err-read_item.result c.from_residual-in_err-read_item.ensures.1 in
    rw (p.1, p.2) (refused_behind _ _ c.args.decoder.now c.loop-index.decoder _ _ (taking_at g.L.FieldList.list.fields c.loop-index.index) c.loop-index.invariant.began
    c.in_err-read_item.ensures.tries)

pub returns-clause-tries : goal.returns-clause-tries
returns-clause-tries g c =
    tries_behind false _ c.args.decoder.now c.loop-index.decoder _ _ (taking_none _) c.loop-index.invariant.began c.end_list.ensures.tries
