-- The places of values in their orders.
use Rattle.std.specs.Prelude.{ℕ}
use Rattle.amqp_restricted_types.specs.declared.role.Role.{Role}
use Rattle.amqp_restricted_types.specs.declared.role.Role.TheVariants as role
use Rattle.amqp_restricted_types.specs.declared.txn_capability.TxnCapability.{TxnCapability}
use Rattle.amqp_restricted_types.specs.declared.txn_capability.TxnCapability.TheVariants as capability

-- Part 2, section 2.8.1
abbrev pub role_place : Role → ℕ
role_place role.Sender = 0
role_place role.Receiver = 1

-- Part 4, section 4.5.7
abbrev pub txn_capability_place : TxnCapability → ℕ
txn_capability_place capability.LocalTransactions = 0
txn_capability_place capability.DistributedTransactions = 1
txn_capability_place capability.PromotableTransactions = 2
txn_capability_place capability.MultiTxnsPerSsn = 3
txn_capability_place capability.MultiSsnsPerTxn = 4
