-- How it is found why no section begins.
use Rattle.std.proofs.Common.{◌≡◌, inr, ℕ, true, false, Option, Some, None, List, length, refl, sym, ap, ◌∙◌, subst}
use Rattle.amqp_model.specs.Term.{Descriptor}
use Rattle.amqp_wire.specs.declared.error.Error.{Error}
use Rattle.amqp_wire.specs.declared.error.Error.TheVariants.{NotSection}
use Rattle.amqp_decoder.specs.State.{IsPlaceOf, State}
use Rattle.amqp_decoder.specs.Steps.{RefusesBy}
use Rattle.amqp_decoder.specs.Reading.{RefusesRead, BeginFault, PeeksCode, after_peek}
use Rattle.amqp_decoder.specs.Described.{OpensDescribed, open_left}
use Rattle.amqp_decoder.proofs.Steps.{answered_later, first_kept}
use Rattle.amqp_decoder.proofs.Places.{before_at, before_later}
use Rattle.amqp_decoder.specs.Places.{Here, At, RefusesAt, StandsHere, StandsBefore}
use Rattle.amqp_decoder.proofs.Places.{refused_here}
use Rattle.amqp_codec.specs.Reading.{AreAlike}
use Rattle.amqp_codec.specs.laws.Peek.{peeked_failed, peeked_going}
use Rattle.amqp_codec.specs.laws.Refusal.{refused_first, refused_later, described_going, described_sound}
use Rattle.amqp_batches.specs.NoSections.{NoSection, no_code, other_value, no_descriptor, other_descriptor}

abbrev pub Nothing : State → Unit {0} → State → Type 0
Nothing st none b = ⊥

abbrev pub Refuses : State → Error → State → Type 0
Refuses st e new = RefusesAt true Nothing NoSection st e new

pub not_begun : (st : State) (e : Error) (new : State) → RefusesRead false PeeksCode BeginFault st e new → StandsHere st new
    → Refuses st e new
not_begun st e new r here =
    refused_first PeeksCode (Here BeginFault) Nothing NoSection st e new (λ t. refl) (λ _. no_code) (λ n v b h. h) (refused_here r here)

seen_alike : (st : State) (c : ℕ) (mid : State) → PeeksCode st c mid → AreAlike st mid
seen_alike st c mid p = subst (AreAlike st) (sym p.kept) (by_shared st.top.shared)
  where
    by_shared : (o : Option (List Descriptor × ℕ)) → AreAlike st (after_peek o st)
    by_shared None = refl
    by_shared (Some x) = refl

seen_long : (st : State) (c : ℕ) (mid : State) → PeeksCode st c mid → length mid.rest ≡ length st.rest
seen_long st c mid p = ap (λ (z : State). length z.rest) p.kept ∙ by_shared st.top.shared
  where
    by_shared : (o : Option (List Descriptor × ℕ)) → length (after_peek o st).rest ≡ length st.rest
    by_shared None = refl
    by_shared (Some x) = refl

-- an error was kept here, behind calls that kept none
kept_here : (st mid : State) (e : Error) (new : State) → st.error ≡ None → mid.error ≡ None → mid.failed ≡ st.failed
    → RefusesBy NotSection mid e new → (e ≡ NotSection → NoSection st (record { error = e; left = length st.rest }))
    → StandsBefore (length st.rest) st new → Refuses st e new
kept_here st mid e new was going same refused named at = record {
  kept = answered_later same (first_kept {st = mid} going refused);
  again = λ d x. absurd (cc);
  named = λ _. inr (length st.rest, named (refused going).0, at);
  none = inr (λ v b h. h);
}

pub other : (st : State) (c : ℕ) (mid : State) (e : Error) (new : State) → PeeksCode st c mid → (c ≡ 0 → ⊥)
    → RefusesBy NotSection mid e new → StandsHere mid new → Refuses st e new
other st c mid e new p n refused here =
    let g = peeked_going st c mid p in
    kept_here st mid e new g.0 g.1 (peeked_failed st c mid p) refused (λ i. other_value {m = p.after} p.begun n i refl)
    (before_later st mid (length st.rest) new (peeked_failed st c mid p) (subst (λ k. StandsBefore k mid new) (seen_long st c mid p) (here g.1)))

pub undescribed : {D : Type 0} (reads : State → D → State → Type 0) (st : State) (c : ℕ) (mid : State) (e : Error) (new : State)
    → PeeksCode st c mid → RefusesAt true reads (At open_left) mid e new → Refuses st e new
undescribed reads st c mid e new p r =
    let g = peeked_going st c mid p in
    refused_later reads (At open_left) Nothing NoSection st mid e new (λ t. t) (peeked_failed st c mid p) g.0 g.1
    (λ _ f. no_descriptor (seen_alike st c mid p) f) (λ n v b h. h) r

pub unknown : (st : State) (c : ℕ) (mid : State) (d : Descriptor) (inner : State) (e : Error) (new : State) → PeeksCode st c mid
    → OpensDescribed mid d inner → RefusesBy NotSection inner e new → (place : ℕ) → (inner.error ≡ None → new.source.fault ≡ place)
    → IsPlaceOf place st → Refuses st e new
unknown st c mid d inner e new p o refused place there at =
    let g = peeked_going st c mid p in
    kept_here st inner e new g.0 (described_going o) (described_sound o ∙ peeked_failed st c mid p) refused
    (λ i. other_descriptor (seen_alike st c mid p) o i refl) (before_at st (length st.rest) _ new (there (described_going o)) at)
