-- The bytes of a term are read where the term stands.
use Rattle.std.proofs.Common.{◌≡◌, ℕ, true, Vec, Global, List, Option, Some, None, refl, ap, ◌∙◌, subst}
use Rattle.amqp_model.specs.Term.{Term, Descriptor}
use Rattle.amqp_wire.specs.declared.error.Error.{Error}
use Rattle.amqp_decoder.specs.State.{State}
use Rattle.amqp_decoder.specs.Primitives.{standing, SpellsAs, ReadsValue}
use Rattle.amqp_decoder.specs.Terms.{TakesTerm, term_fault_left}
use Rattle.amqp_decoder.specs.Places.{At, RefusesAt}
use Rattle.amqp_codec.specs.laws.Refusal.{refused_first}
use Rattle.amqp_model.specs.Measures.{nodes}
use Rattle.amqp_lengths.specs.Measured.{IsMeasured}
use Rattle.amqp_lazy.specs.LazyType.{Counted, Lazy, lazy_counted, MeansBytes, one_spelled, lazy_type}

abbrev Taken : State → Vec ℕ Global → State → Type 0
Taken st v b = TakesTerm st v.items b

-- under no shared constructor
means_own : (o : Option (List Descriptor × ℕ)) (b : List ℕ) (n k : ℕ) (t : Term) → o ≡ None → SpellsAs (standing o b) t
    → IsMeasured n k b → MeansBytes (standing o b) t (record { bytes = b; nodes = n })
means_own None b n k t e h (u, spelled, counted, deep, few) = (refl, h, ap nodes (one_spelled b t u h spelled) ∙ counted)
means_own (Some x) b n k t e h m = absurd (cc)

own_means : (o : Option (List Descriptor × ℕ)) (s : List ℕ) (t : Term) (v : Counted) → MeansBytes (standing o s) t v
    → (o ≡ None) × (s ≡ v.bytes)
own_means None s t v m = (refl, m.0)
own_means (Some x) s t v m = absurd m

-- the bytes that were taken, and measured
pub value_read : (st : State) (v : Lazy) (k : ℕ) (b : State) → Taken st v.bytes b → IsMeasured v.nodes k v.bytes.items
    → ReadsValue lazy_type.means st v b
value_read st v k b h m = record {
  bytes = v.bytes.items;
  term = h.term;
  stands = h.stands;
  moved = h.moved;
  meant = means_own st.top.shared v.bytes.items v.nodes k h.term h.unshared h.stands.spelled m;
}

value_taken : (st : State) (v : Lazy) (b : State) → ReadsValue lazy_type.means st v b → Taken st v.bytes b
value_taken st v b h =
    let own = own_means st.top.shared h.bytes h.term (lazy_counted v) h.meant in
    subst (λ s. TakesTerm st s b) own.1
    (record { term = h.term; stands = h.stands; unshared = own.0; moved = h.moved })

pub term_refused : (st : State) (e : Error) (new : State) → RefusesAt true Taken (At term_fault_left) st e new
    → RefusesAt true (ReadsValue lazy_type.means) (At term_fault_left) st e new
term_refused st e new =
    refused_first Taken (At term_fault_left) (ReadsValue lazy_type.means) (At term_fault_left) st e new (λ h. h) (λ _ f. f)
    (λ none v b h. none v.bytes b (value_taken st v b h))
