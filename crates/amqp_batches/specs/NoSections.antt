-- Why no section begins where bytes are left (Part 3, section 3.2).
use Rattle.std.proofs.Common.{◌≡◌, ℕ, Bool, length, ap, subst, ◌≤◌, arith}
use Rattle.amqp_model.specs.Term.{Descriptor}
use Rattle.amqp_wire.specs.declared.error.Error.{Error}
use Rattle.amqp_wire.specs.declared.error.Error.TheVariants.{NotSection}
use Rattle.amqp_decoder.specs.State.{Source, State}
use Rattle.amqp_decoder.specs.Steps.{IsOutside}
use Rattle.amqp_decoder.specs.Reading.{ReadsCode, BeginFault}
use Rattle.amqp_decoder.specs.Described.{OpensDescribed, open_left}
use Rattle.amqp_decoder.specs.OtherSource.{another, under, elsewhere}
use Rattle.amqp_decoder.specs.laws.OtherSource.{keeps_another, begun, begin_fault, opens_described, open_described_placed}
use Rattle.amqp_decoder.proofs.NotOutside.{begin_not_outside, open_described_not_outside}
use Rattle.amqp_decoder.specs.Places.{Located, Here, At}
use Rattle.amqp_codec.specs.Reading.{AreAlike}
use Rattle.amqp_codec.specs.TermReading.{another_is}
use Rattle.amqp_codec.specs.laws.Within.{open_within}

-- No value begins there; or one that isn't described; or its descriptor is cut or malformed; or it is whole, and no section's.
pub data NoSection (st : State) (e : Located) : Type 0 where
  no_code : Here BeginFault st e → NoSection st e
  other_value : {c : ℕ} {m : State} → ReadsCode st c m → (c ≡ 0 → ⊥) → e.error ≡ NotSection → e.left ≡ length st.rest → NoSection st e
  no_descriptor : {seen : State} → AreAlike st seen → At open_left seen e → NoSection st e
  other_descriptor : {seen : State} {d : Descriptor} {m : State} → AreAlike st seen → OpensDescribed seen d m → e.error ≡ NotSection
      → e.left ≡ length st.rest → NoSection st e

no_outside : (e : Error) → IsOutside e → e ≡ NotSection → ⊥
no_outside e o i = subst IsOutside i o

pub no_section_not_outside : (e : Located) → IsOutside e.error → (st : State) → NoSection st e → ⊥
no_section_not_outside e o st (no_code f) = begin_not_outside o st f.0
no_section_not_outside e o st (other_value b n i place) = no_outside e.error o i
no_section_not_outside e o st (no_descriptor {seen} a f) = open_described_not_outside o seen f.0
no_section_not_outside e o st (other_descriptor a d i place) = no_outside e.error o i

pub no_section_within : (st : State) (e : Located) → NoSection st e → e.left ≤ length st.rest
no_section_within st e (no_code f) = omega (arith, f.1)
no_section_within st e (other_value b n i place) = omega (arith, place)
no_section_within st e (no_descriptor {seen} a f) = omega (arith, open_within seen e f, ap (λ (x : State). length x.rest) a)
no_section_within st e (other_descriptor a d i place) = omega (arith, place)

pub no_section_elsewhere : (source : Source) (failed : Bool) (st : State) (e : Located) → NoSection st e
    → NoSection (elsewhere source failed st) e
no_section_elsewhere source failed st e (no_code f) =
    no_code (
      subst (λ x. BeginFault x e.error) (another_is source failed st)
          (begin_fault (another source failed) (keeps_another source failed e.error) f.0),
      f.1,
    )
no_section_elsewhere source failed st e (other_value {c} {m} b n i place) =
    other_value {m = elsewhere source failed m}
    (subst (λ x. ReadsCode x c (elsewhere source failed m)) (another_is source failed st)
    (subst (λ x. ReadsCode (under (another source failed) st) c x) (another_is source failed m) (begun (another source failed) b))) n i place
no_section_elsewhere source failed st e (no_descriptor {seen} a f) =
    no_descriptor {seen = elsewhere source failed seen} (ap (elsewhere source failed) a)
    (subst (λ x. At open_left x e) (another_is source failed seen)
    (open_described_placed (another source failed) (keeps_another source failed e.error) f))
no_section_elsewhere source failed st e (other_descriptor {seen} {d} {m} a o i place) =
    other_descriptor {seen = elsewhere source failed seen} {m = elsewhere source failed m} (ap (elsewhere source failed) a)
    (subst (λ x. OpensDescribed x d (elsewhere source failed m)) (another_is source failed seen)
    (subst (λ x. OpensDescribed (under (another source failed) seen) d x) (another_is source failed m)
    (opens_described (another source failed) o))) i place
