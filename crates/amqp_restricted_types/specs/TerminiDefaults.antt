-- The default values of termini (Part 3, sections 3.5.3 and 3.5.4).
use Rattle.std.proofs.Common.{◌≡◌, ◌<◌, ◌^◌, Bool, true, false, refl, arith}
use Rattle.amqp_model.specs.FieldRules.{DefaultValue}
use Rattle.amqp_codec.specs.FieldTypes.{field_type}
use Rattle.amqp_sums.specs.Types.{uint_type}
use Rattle.amqp_restricted_types.specs.ToldByDefault.{numbered_default}
use Rattle.amqp_restricted_types.specs.Termini.{terminus_durability_type, terminus_expiry_policy_type}
use Rattle.amqp_restricted_types.specs.declared.terminus_durability.TerminusDurability.{TerminusDurability}
use Rattle.amqp_restricted_types.specs.declared.terminus_durability.TerminusDurability.TheVariants as durability
use Rattle.amqp_restricted_types.specs.declared.terminus_expiry_policy.TerminusExpiryPolicy.{TerminusExpiryPolicy}
use Rattle.amqp_restricted_types.specs.declared.terminus_expiry_policy.TerminusExpiryPolicy.TheVariants as policy

-- of durable
abbrev pub is_not_durable : TerminusDurability → Bool
is_not_durable durability.None = true
is_not_durable durability.Configuration = false
is_not_durable durability.UnsettledState = false

pub not_durable : (v : TerminusDurability) → is_not_durable v ≡ true → v ≡ durability.None
not_durable durability.None e = refl
not_durable durability.Configuration e = cc
not_durable durability.UnsettledState e = cc

abbrev pub not_durable_by_default : DefaultValue (field_type terminus_durability_type refl refl).meaning
not_durable_by_default = record {
  value = durability.None;
  test = is_not_durable;
  sound = not_durable;
  complete = λ v e. rw e refl;
  test_normal = λ v. refl;
  is_value = tt;
}

-- of expiry-policy
abbrev pub is_session_end : TerminusExpiryPolicy → Bool
is_session_end policy.LinkDetach = false
is_session_end policy.SessionEnd = true
is_session_end policy.ConnectionClose = false
is_session_end policy.Never = false

pub session_end : (v : TerminusExpiryPolicy) → is_session_end v ≡ true → v ≡ policy.SessionEnd
session_end policy.LinkDetach e = cc
session_end policy.SessionEnd e = refl
session_end policy.ConnectionClose e = cc
session_end policy.Never e = cc

abbrev pub session_end_by_default : DefaultValue (field_type terminus_expiry_policy_type refl refl).meaning
session_end_by_default = record {
  value = policy.SessionEnd;
  test = is_session_end;
  sound = session_end;
  complete = λ v e. rw e refl;
  test_normal = λ v. refl;
  is_value = tt;
}

pub zero_below : 0 < 2 ^ 32
zero_below = omega arith

-- of timeout
abbrev pub zero_by_default : DefaultValue (field_type uint_type refl refl).meaning
zero_by_default =
    numbered_default (field_type uint_type refl refl).meaning (λ v. v) 0 (λ v e. e) (λ v e. e) (λ v. refl) zero_below
