-- A fault within limits of the caller is one without them, unless it is by depth or by a limit.
use Rattle.std.proofs.Common.{◌≡◌, ℕ, ◌+◌, ◌%◌, ◌^◌, ◌<◌, ◌≤◌, max, true, Option, Some, None, List, refl, ap₂, subst, arith}
use Rattle.amqp_wire.specs.declared.limits.Limits.{Limits}
use Rattle.amqp_wire.specs.Limits.{limit_of, unlimited}
use Rattle.amqp_decoder.specs.State.{State, is_free, greatest}
use Rattle.amqp_decoder.specs.OtherSource.{Setting, under, freed, IsByDepth}
use Rattle.amqp_decoder.specs.Places.{Located}
use Rattle.amqp_codec.specs.Faults.{Faults}
use Rattle.amqp_codec.specs.Reading.{start_within}

-- no limits
without : State → Setting
without st = record {
  source = st.source;
  deepen = λ n. max n 128;
  grows = λ n. omega arith;
  free = true;
  lift = true;
  course = λ f. record f { free = is_free 128 unlimited unlimited };
}

freed_all : (o : Option ℕ) → freed true o ≡ None
freed_all None = refl
freed_all (Some n) = refl

without_is : (limits : Limits) (input : List ℕ)
    → under (without (start_within limits input)) (start_within limits input) ≡ start_within greatest input
unfolding without
without_is limits input =
    let most : max limits.nesting 128 ≡ 128 = omega (arith, limits.nests) in
    ap₂ (λ q n. record (start_within greatest input) { quota = q; nesting = n }) (freed_all (limit_of limits.items)) most

pub fault_without : (u : Faults) (limits : Limits) (input : List ℕ) (f : Located) → (IsByDepth f.error → ⊥)
    → u.fault (start_within limits input) f → u.fault (start_within greatest input) f
fault_without u limits input f other h =
    subst (λ x. u.fault x f) (without_is limits input)
    (u.fault_elsewhere (without (start_within limits input)) (start_within limits input) f (λ deep. absurd (other deep)) h)

-- a place in a reader, as a number of 64 bits
pub place_is : (at left n : ℕ) → at < 2 ^ 64 → n < 2 ^ 64 → left ≤ n → (at + left) % 2 ^ 64 ≡ n % 2 ^ 64 → at + left ≡ n
place_is at left n few short within is = omega (arith, few, short, within, is)
