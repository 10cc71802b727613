-- The restricted types of transactions (Part 4, section 4.5): the text of each value.
use Rattle.std.proofs.Common.{ℕ, List, codes, rules}
use Rattle.amqp_sums.specs.Types.{TermType, IsDistinct, restricted_text}
use Rattle.amqp_restricted_types.specs.declared.txn_capability.TxnCapability.{TxnCapability}
use Rattle.amqp_restricted_types.specs.declared.txn_capability.TxnCapability.TheVariants as capability

-- 4.5.7, of symbol
abbrev pub txn_capability_texts : TxnCapability → List ℕ
txn_capability_texts capability.LocalTransactions = codes "amqp:local-transactions"
txn_capability_texts capability.DistributedTransactions = codes "amqp:distributed-transactions"
txn_capability_texts capability.PromotableTransactions = codes "amqp:promotable-transactions"
txn_capability_texts capability.MultiTxnsPerSsn = codes "amqp:multi-txns-per-ssn"
txn_capability_texts capability.MultiSsnsPerTxn = codes "amqp:multi-ssns-per-txn"

pub txn_capability_distinct : IsDistinct txn_capability_texts
txn_capability_distinct v w e = search rules

abbrev pub txn_capability_type : TermType TxnCapability
txn_capability_type = restricted_text txn_capability_texts txn_capability_distinct
