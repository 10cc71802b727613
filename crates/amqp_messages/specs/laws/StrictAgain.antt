-- A strict message is written as any other, and read again strictly (Part 3, section 3.2).
use Rattle.std.specs.Prelude.{String}
use Rattle.std.proofs.Common.{◌≡◌, ℕ, Global, List, [], refl, false}
use Rattle.amqp_codec.specs.Written.{Writing}
use Rattle.amqp_codec.specs.Agreement.{Agreement}
use Rattle.amqp_codec.specs.Rewriting.{Rewriting}
use Rattle.amqp_values.specs.declared.value.Value.{Value}
use Rattle.amqp_simple_values.specs.declared.simple.SimpleValue.{SimpleValue}
use Rattle.amqp_annotations.specs.declared.owned_key.OwnedKey.{OwnedKey}
use Rattle.amqp_annotations.specs.AnnotationsType.{annotations_type}
use Rattle.amqp_map_sections.specs.SimpleMaps.{simple_map_type}
use Rattle.amqp_batches.specs.Spellings.{Spells}
use Rattle.amqp_batches.specs.WalkReading.{walk_reading, reading_via}
use Rattle.amqp_batches.specs.laws.ReadAs.{IsReadAs}
use Rattle.amqp_batches.specs.laws.ViaRewriting.{via_rewrites}
use Rattle.amqp_bodies.specs.Bodies.{Made}
use Rattle.amqp_bodies.specs.BodyTexts.{IsBodyText}
use Rattle.amqp_messages.specs.declared.order.Order.TheVariants.{Written}
use Rattle.amqp_messages.specs.declared.strict.Strict.{Strict}
use Rattle.amqp_messages.specs.MessageWalk.{message_walk}
use Rattle.amqp_messages.specs.Messages.{message_of, message_in, as_strict}
use Rattle.amqp_messages.specs.MessageAgain.{message_again, written, message_is_rewritten}

pub strict_is_rewritten : {wa : Writing (List (OwnedKey × Value))} {ws : Writing (List (String Global × SimpleValue))}
    (a : Agreement annotations_type wa) (s : Agreement simple_map_type ws) {B : Type 0} {made : Made B B} {writing : Writing B}
    {follows : List ℕ → Type 0} {again : B → B} {kept lasts : B → Type 0} (body : IsBodyText made writing follows again kept lasts)
    {group : Spells B} (l : IsReadAs made.group group)
    → Rewriting (reading_via (walk_reading (message_walk Written (message_of made))) message_in)
    (λ (v : Strict B). (written a s body l).canons (message_in v)) (λ v. (written a s body l).is_value (message_in v))
    (λ rest. rest ≡ []) (λ v. as_strict (message_again again (message_in v))) (λ v. kept (message_in v).body)
    (λ v. lasts (message_in v).body) false
strict_is_rewritten a s {again = again} body l =
    via_rewrites _ message_in (λ v. as_strict (message_again again (message_in v))) (λ v. refl) (message_is_rewritten a s body l Written)
