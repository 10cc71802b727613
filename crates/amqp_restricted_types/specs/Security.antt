-- The restricted type of the security layer (Part 5, section 5.3.3): the number of each value.
use Rattle.std.proofs.Common.{ℕ, ◌<◌, ◌^◌, rules}
use Rattle.amqp_sums.specs.Types.{TermType, IsDistinct, ubyte_base, restricted_number}
use Rattle.amqp_restricted_types.specs.declared.sasl_code.SaslCode.{SaslCode}
use Rattle.amqp_restricted_types.specs.declared.sasl_code.SaslCode.TheVariants as code

-- 5.3.3.6, of ubyte
abbrev pub sasl_code_numbers : SaslCode → ℕ
sasl_code_numbers code.Ok = 0
sasl_code_numbers code.Auth = 1
sasl_code_numbers code.Sys = 2
sasl_code_numbers code.SysPerm = 3
sasl_code_numbers code.SysTemp = 4

pub sasl_code_distinct : IsDistinct sasl_code_numbers
sasl_code_distinct v w e = search rules

pub sasl_code_in_range : (v : SaslCode) → sasl_code_numbers v < 2 ^ 8
sasl_code_in_range v = search rules

abbrev pub sasl_code_type : TermType SaslCode
sasl_code_type = restricted_number ubyte_base sasl_code_numbers sasl_code_distinct sasl_code_in_range
