-- The texts of the transfers of one delivery, by their lengths.
use Rattle.std.proofs.Common.{◌≡◌, ℕ, ◌+◌, ◌≤◌, Bool, true, false, List, [], ◌∷◌, length, arith, length-append, Option, None, Some, cond, not}
use Rattle.amqp_model.specs.Term.{null, boolean, list, Term, leaf, container, described, code}
use Rattle.amqp_model.specs.Items.{terms_of, without_last_nulls}
use Rattle.amqp_model.specs.Fields.{canonical_terms, canonical_items}
use Rattle.amqp_model.specs.FieldRules.{option_canon}
use Rattle.amqp_model.specs.Text.{Alone, container_text, text, texts}
use Rattle.amqp_encoder.specs.Passes.{row_text}
use Rattle.amqp_codec.specs.Fields.{slots}
use Rattle.amqp_delivery.specs.Tables.{delivery_state}
use Rattle.amqp_delivery.specs.declared.state.DeliveryState.{DeliveryState}
use Rattle.amqp_delivery.specs.declared.state.DeliveryState.TheVariants as state
use Rattle.amqp_performatives.specs.Tables.{transfer}
use Rattle.amqp_performatives.specs.declared.transfer.Transfer.{Transfer}
use Rattle.amqp_frames.specs.Splitting.{later_of, with_more, transfer_text}
use Rattle.amqp_frames.proofs.LengthLemmas.{IsBelow, AreBelow, number, same_below, null_below, all_fewer, list_length}

abbrev terms : Transfer → List Term
terms t = canonical_terms (slots transfer.fields) t

abbrev list_text : List Term → List ℕ
list_text ts = container_text Alone list (number ts) (texts (terms_of ts) Alone)

described_length : (ts : List Term) → length (row_text (described (code 0x14) (container list (terms_of ts)) ∷ [])) ≡ 3 + length (list_text ts)
unfolding text
described_length ts = omega (arith, length-append (0 ∷ 0x53 ∷ 0x14 ∷ list_text ts) [])

text_length : (t : Transfer) → length (transfer_text t) ≡ 3 + length (list_text (without_last_nulls (terms t)))
unfolding canonical_items
text_length t = described_length (without_last_nulls (terms t))

no_longer : (t u : Transfer) → AreBelow (terms t) (terms u) → length (transfer_text t) ≤ length (transfer_text u)
no_longer t u below =
    let ts = without_last_nulls (terms t) in
    let us = without_last_nulls (terms u) in
    let fewer = all_fewer (terms t) (terms u) below in
    let lists : length (list_text ts) ≤ length (list_text us) =
    list_length (number ts) (number us) (texts (terms_of ts) Alone) (texts (terms_of us) Alone) fewer.items fewer.content in
    omega (arith, text_length t, text_length u, lists)

-- ---- an omitted field takes no more than what is there

option_below : {T : Type 0} (canon : T → Term) (o : Option T) → ((v : T) → 1 ≤ length (text (canon v) Alone))
    → IsBelow (leaf null) (option_canon canon o)
option_below canon None some = same_below (leaf null)
option_below canon (Some v) some = null_below (canon v) (some v)

state_length : (s : DeliveryState) → 1 ≤ length (text (delivery_state.canon s) Alone)
unfolding text
state_length (state.Received v) = omega arith
state_length (state.Accepted v) = omega arith
state_length (state.Rejected v) = omega arith
state_length (state.Released v) = omega arith
state_length (state.Modified v) = omega arith
state_length (state.Declared v) = omega arith
state_length (state.TransactionalState v) = omega arith

flag_below : (more : Bool) → IsBelow (leaf null) (cond (not more) (leaf null) (leaf (boolean more)))
unfolding text
flag_below true = null_below _ (omega arith)
flag_below false = same_below _

-- The text of a transfer isn't shorter if others follow it.
pub more_grows : (t : Transfer) → length (transfer_text (with_more false t)) ≤ length (transfer_text (with_more true t))
more_grows t =
    no_longer (with_more false t) (with_more true t)
    (same_below _, (same_below _, (same_below _, (same_below _, (same_below _, (flag_below true, (same_below _, (same_below _, (same_below _, (same_below _, (same_below _, tt)))))))))))

-- A later transfer's text isn't longer than the first one's.
pub later_shrinks : (more : Bool) (t : Transfer) → length (transfer_text (with_more more (later_of t))) ≤ length (transfer_text (with_more more t))
unfolding text
later_shrinks more t =
    no_longer (with_more more (later_of t)) (with_more more t)
    (same_below _, (option_below _ t.delivery_id (λ v. omega arith), (option_below _ t.delivery_tag (λ v. omega arith), (option_below _ t.message_format (λ v. omega arith), (same_below _, (same_below _, (option_below _ t.rcv_settle_mode (λ v. omega arith), (option_below _ t.state state_length, (flag_below t.resume, (flag_below t.aborted, (flag_below t.batchable, tt)))))))))))
