-- The default values of performatives (Part 2, section 2.7).
use Rattle.std.proofs.Common.{◌≡◌, ◌<◌, ◌^◌, Bool, true, false, refl, arith}
use Rattle.amqp_model.specs.FieldRules.{DefaultValue}
use Rattle.amqp_codec.specs.FieldTypes.{field_type}
use Rattle.amqp_restricted_types.specs.ToldByDefault.{numbered_default}
use Rattle.amqp_restricted_types.specs.Transport.{channel_max_type, handle_type, max_frame_size_type}
use Rattle.amqp_restricted_types.specs.Transport.{sender_settle_mode_type, receiver_settle_mode_type}
use Rattle.amqp_restricted_types.specs.declared.sender_settle_mode.SenderSettleMode.{SenderSettleMode}
use Rattle.amqp_restricted_types.specs.declared.sender_settle_mode.SenderSettleMode.TheVariants as sender_mode
use Rattle.amqp_restricted_types.specs.declared.receiver_settle_mode.ReceiverSettleMode.{ReceiverSettleMode}
use Rattle.amqp_restricted_types.specs.declared.receiver_settle_mode.ReceiverSettleMode.TheVariants as receiver_mode

pub below_four_bytes : 4294967295 < 2 ^ 32
below_four_bytes = omega arith

pub below_two_bytes : 65535 < 2 ^ 16
below_two_bytes = omega arith

-- 2.7.1: of max-frame-size
abbrev pub greatest_frame_size : DefaultValue (field_type max_frame_size_type refl refl).meaning
greatest_frame_size =
    numbered_default (field_type max_frame_size_type refl refl).meaning (λ v. v.0) (record { 0 = 4294967295 })
    (λ v e. e) (λ v e. e) (λ v. refl) below_four_bytes

-- 2.7.1: of channel-max
abbrev pub greatest_channel : DefaultValue (field_type channel_max_type refl refl).meaning
greatest_channel =
    numbered_default (field_type channel_max_type refl refl).meaning (λ v. v.0) (record { 0 = 65535 })
    (λ v e. e) (λ v e. e) (λ v. refl) below_two_bytes

-- 2.7.2: of handle-max
abbrev pub greatest_handle : DefaultValue (field_type handle_type refl refl).meaning
greatest_handle =
    numbered_default (field_type handle_type refl refl).meaning (λ v. v.0) (record { 0 = 4294967295 })
    (λ v e. e) (λ v e. e) (λ v. refl) below_four_bytes

-- 2.7.3: of snd-settle-mode
abbrev pub is_mixed : SenderSettleMode → Bool
is_mixed sender_mode.Unsettled = false
is_mixed sender_mode.Settled = false
is_mixed sender_mode.Mixed = true

pub mixed : (v : SenderSettleMode) → is_mixed v ≡ true → v ≡ sender_mode.Mixed
mixed sender_mode.Unsettled e = cc
mixed sender_mode.Settled e = cc
mixed sender_mode.Mixed e = refl

abbrev pub mixed_by_default : DefaultValue (field_type sender_settle_mode_type refl refl).meaning
mixed_by_default = record {
  value = sender_mode.Mixed;
  test = is_mixed;
  sound = mixed;
  complete = λ v e. rw e refl;
  test_normal = λ v. refl;
  is_value = tt;
}

-- 2.7.3: of rcv-settle-mode
abbrev pub is_first : ReceiverSettleMode → Bool
is_first receiver_mode.First = true
is_first receiver_mode.Second = false

pub first : (v : ReceiverSettleMode) → is_first v ≡ true → v ≡ receiver_mode.First
first receiver_mode.First e = refl
first receiver_mode.Second e = cc

abbrev pub first_by_default : DefaultValue (field_type receiver_settle_mode_type refl refl).meaning
first_by_default = record {
  value = receiver_mode.First;
  test = is_first;
  sound = first;
  complete = λ v e. rw e refl;
  test_normal = λ v. refl;
  is_value = tt;
}
