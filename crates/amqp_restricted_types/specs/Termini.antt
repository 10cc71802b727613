-- The restricted types of termini (Part 3, section 3.5): the number or the text of each value.
use Rattle.std.proofs.Common.{ℕ, ◌<◌, ◌^◌, List, codes, rules}
use Rattle.amqp_sums.specs.Types.{TermType, IsDistinct, uint_base, restricted_number, restricted_text}
use Rattle.amqp_restricted_types.specs.declared.distribution_mode.DistributionMode.{DistributionMode}
use Rattle.amqp_restricted_types.specs.declared.distribution_mode.DistributionMode.TheVariants as mode
use Rattle.amqp_restricted_types.specs.declared.terminus_durability.TerminusDurability.{TerminusDurability}
use Rattle.amqp_restricted_types.specs.declared.terminus_durability.TerminusDurability.TheVariants as durability
use Rattle.amqp_restricted_types.specs.declared.terminus_expiry_policy.TerminusExpiryPolicy.{TerminusExpiryPolicy}
use Rattle.amqp_restricted_types.specs.declared.terminus_expiry_policy.TerminusExpiryPolicy.TheVariants as policy

-- 3.5.5, of uint
abbrev pub terminus_durability_numbers : TerminusDurability → ℕ
terminus_durability_numbers durability.None = 0
terminus_durability_numbers durability.Configuration = 1
terminus_durability_numbers durability.UnsettledState = 2

pub terminus_durability_distinct : IsDistinct terminus_durability_numbers
terminus_durability_distinct v w e = search rules

pub terminus_durability_in_range : (v : TerminusDurability) → terminus_durability_numbers v < 2 ^ 32
terminus_durability_in_range v = search rules

abbrev pub terminus_durability_type : TermType TerminusDurability
terminus_durability_type = restricted_number uint_base terminus_durability_numbers terminus_durability_distinct terminus_durability_in_range

-- 3.5.6, of symbol
abbrev pub terminus_expiry_policy_texts : TerminusExpiryPolicy → List ℕ
terminus_expiry_policy_texts policy.LinkDetach = codes "link-detach"
terminus_expiry_policy_texts policy.SessionEnd = codes "session-end"
terminus_expiry_policy_texts policy.ConnectionClose = codes "connection-close"
terminus_expiry_policy_texts policy.Never = codes "never"

pub terminus_expiry_policy_distinct : IsDistinct terminus_expiry_policy_texts
terminus_expiry_policy_distinct v w e = search rules

abbrev pub terminus_expiry_policy_type : TermType TerminusExpiryPolicy
terminus_expiry_policy_type = restricted_text terminus_expiry_policy_texts terminus_expiry_policy_distinct

-- 3.5.7, of symbol
abbrev pub distribution_mode_texts : DistributionMode → List ℕ
distribution_mode_texts mode.Move = codes "move"
distribution_mode_texts mode.Copy = codes "copy"

pub distribution_mode_distinct : IsDistinct distribution_mode_texts
distribution_mode_distinct v w e = search rules

abbrev pub distribution_mode_type : TermType DistributionMode
distribution_mode_type = restricted_text distribution_mode_texts distribution_mode_distinct
