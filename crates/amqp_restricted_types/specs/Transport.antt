-- The types of connections, links and deliveries (Part 2, sections 2.7.1 and 2.8): the number of each value.
use Rattle.std.proofs.Common.{ℕ, ◌<◌, ◌^◌, Bool, true, false, refl, rules}
use Rattle.amqp_sums.specs.Types.{TermType, IsDistinct, boolean_base, ubyte_base, restricted_number, ushort_type, uint_type, via, unchanged}
use Rattle.amqp_restricted_types.specs.declared.channel_max.ChannelMax.{ChannelMax}
use Rattle.amqp_restricted_types.specs.declared.handle.Handle.{Handle}
use Rattle.amqp_restricted_types.specs.declared.max_frame_size.MaxFrameSize.{MaxFrameSize}
use Rattle.amqp_restricted_types.specs.declared.role.Role.{Role}
use Rattle.amqp_restricted_types.specs.declared.role.Role.TheVariants as role
use Rattle.amqp_restricted_types.specs.declared.sender_settle_mode.SenderSettleMode.{SenderSettleMode}
use Rattle.amqp_restricted_types.specs.declared.sender_settle_mode.SenderSettleMode.TheVariants as sender_mode
use Rattle.amqp_restricted_types.specs.declared.receiver_settle_mode.ReceiverSettleMode.{ReceiverSettleMode}
use Rattle.amqp_restricted_types.specs.declared.receiver_settle_mode.ReceiverSettleMode.TheVariants as receiver_mode

-- 2.8.1, of boolean
abbrev pub role_numbers : Role → Bool
role_numbers role.Sender = false
role_numbers role.Receiver = true

pub role_distinct : IsDistinct role_numbers
role_distinct v w e = search rules

abbrev pub role_type : TermType Role
role_type = restricted_number boolean_base role_numbers role_distinct (λ v. tt)

-- 2.8.2, of ubyte
abbrev pub sender_settle_mode_numbers : SenderSettleMode → ℕ
sender_settle_mode_numbers sender_mode.Unsettled = 0
sender_settle_mode_numbers sender_mode.Settled = 1
sender_settle_mode_numbers sender_mode.Mixed = 2

pub sender_settle_mode_distinct : IsDistinct sender_settle_mode_numbers
sender_settle_mode_distinct v w e = search rules

pub sender_settle_mode_in_range : (v : SenderSettleMode) → sender_settle_mode_numbers v < 2 ^ 8
sender_settle_mode_in_range v = search rules

abbrev pub sender_settle_mode_type : TermType SenderSettleMode
sender_settle_mode_type = restricted_number ubyte_base sender_settle_mode_numbers sender_settle_mode_distinct sender_settle_mode_in_range

-- 2.8.3, of ubyte
abbrev pub receiver_settle_mode_numbers : ReceiverSettleMode → ℕ
receiver_settle_mode_numbers receiver_mode.First = 0
receiver_settle_mode_numbers receiver_mode.Second = 1

pub receiver_settle_mode_distinct : IsDistinct receiver_settle_mode_numbers
receiver_settle_mode_distinct v w e = search rules

pub receiver_settle_mode_in_range : (v : ReceiverSettleMode) → receiver_settle_mode_numbers v < 2 ^ 8
receiver_settle_mode_in_range v = search rules

abbrev pub receiver_settle_mode_type : TermType ReceiverSettleMode
receiver_settle_mode_type =
    restricted_number ubyte_base receiver_settle_mode_numbers receiver_settle_mode_distinct receiver_settle_mode_in_range

-- 2.8.4, a uint
abbrev pub handle_type : TermType Handle
handle_type = via uint_type (λ v. v.0) unchanged (λ v. refl)

-- 2.7.1, a uint
abbrev pub max_frame_size_type : TermType MaxFrameSize
max_frame_size_type = via uint_type (λ v. v.0) unchanged (λ v. refl)

-- 2.7.1, a ushort
abbrev pub channel_max_type : TermType ChannelMax
channel_max_type = via ushort_type (λ v. v.0) unchanged (λ v. refl)
