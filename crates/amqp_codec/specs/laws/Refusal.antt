-- Refusals of a call that is made of other calls.
use Rattle.std.proofs.Common.{◌≡◌, ◌≤◌, ◌<◌, arith, zero, suc, inl, inr, ℕ, Bool, true, false, Option, Some, None, ◌⊎◌, refl, sym, ap, ◌∙◌}
use Rattle.amqp_model.specs.Term.{Container, Descriptor, Term}
use Rattle.amqp_model.specs.Standing.{Standing}
use Rattle.amqp_wire.specs.declared.error.Error.{Error}
use Rattle.amqp_wire.specs.declared.error.Error.TheVariants.{Memory}
use Rattle.amqp_decoder.specs.State.{State}
use Rattle.amqp_decoder.specs.Steps.{IsExcused, RefusesBy}
use Rattle.amqp_decoder.specs.Primitives.{ReadsValue}
use Rattle.amqp_decoder.specs.Containers.{Opens}
use Rattle.amqp_decoder.specs.Described.{OpensDescribed}
use Rattle.amqp_decoder.proofs.Steps.{answered_later, first_kept}
use Rattle.amqp_decoder.specs.Places.{Located, RefusesAt}
use Rattle.amqp_decoder.proofs.Places.{placed_later}

-- a call that takes memory at most where another does
pub excused_as : {a b : Bool} (e : Error) (st : State) → (a ≡ true → b ≡ true) → IsExcused a e st → IsExcused b e st
excused_as e st may (inl x) = inl (may x.0, x.1)
excused_as e st may (inr x) = inr x

-- a call that takes none
pub no_memory : {b : Bool} → false ≡ true → b ≡ true
no_memory h = absurd (cc)

-- a call that opened a container came with no error kept, and its source hasn't begun to fail
pub opened_going : {kind : Container} {st first : State} {n : ℕ} → Opens kind st n first → first.error ≡ None
opened_going o = ap (λ (x : State). x.error) o.data_.entered ∙ ap (λ (x : State). x.error) o.data_.header.took.moved
    ∙ ap (λ (x : State). x.error) o.begun.moved ∙ o.begun.going

pub opened_sound : {kind : Container} {st first : State} {n : ℕ} → Opens kind st n first → first.failed ≡ st.failed
opened_sound o = ap (λ (x : State). x.failed) o.data_.entered ∙ ap (λ (x : State). x.failed) o.data_.header.took.moved
    ∙ ap (λ (x : State). x.failed) o.begun.moved

-- so did one that read a value
pub value_going : {A : Type 0} {means : Standing → Term → A → Type 0} {st : State} {v : A} {b : State} → ReadsValue means st v b
    → b.error ≡ None
value_going r = ap (λ (x : State). x.error) r.moved ∙ r.stands.going

-- and so of a described value
pub described_going : {st inner : State} {d : Descriptor} → OpensDescribed st d inner → inner.error ≡ None
described_going o = ap (λ (x : State). x.error) o.opened ∙ ap (λ (x : State). x.error) o.descriptor.took.moved
    ∙ ap (λ (x : State). x.error) o.begun.moved ∙ o.begun.going

pub described_sound : {st inner : State} {d : Descriptor} → OpensDescribed st d inner → inner.failed ≡ st.failed
described_sound o = ap (λ (x : State). x.failed) o.opened ∙ ap (λ (x : State). x.failed) o.descriptor.took.moved
    ∙ ap (λ (x : State). x.failed) o.begun.moved

-- nothing that could be read stands there, unless the refusal is excused
abbrev pub NoneStands : {A : Type 0} → (State → A → State → Type 0) → State → Type 0
NoneStands {A} reads st = (v : A) (b : State) → reads st v b → ⊥

-- memory is wanted for some of the items that are announced
pub some_reserved : (count n : ℕ) → n ≤ count → (n ≡ 0 → false ≡ true) → 0 < count
some_reserved zero n few wanted = absurd (let no : false ≡ true = wanted (omega (arith, few)) in cc)
some_reserved (suc count) n few wanted = omega arith

-- memory was wanted before anything was read
pub unreserved : {A : Type 0} (reads : State → A → State → Type 0) (fault : State → Located → Type 0) (st : State) (e : Error) (new : State)
    → ((v : A) (b : State) → reads st v b → st.error ≡ None) → RefusesBy Memory st e new
    → ((d : Error) → st.error ≡ Some d → (e ≡ d) × (new ≡ st)) → RefusesAt true reads fault st e new
unreserved {A} reads fault st e new going refused again = by st.error refl
  where
    by : (o : Option Error) → st.error ≡ o → RefusesAt true reads fault st e new
    by None none = record {
      kept = first_kept {st = st} none refused;
      again = λ d x. absurd (cc);
      named = λ _. inl (inl (refl, (refused none).0));
      none = inl (inl (refl, (refused none).0));
    }
    by (Some d) stood = let k = again d stood in record {
      kept = record { error = ap (λ (x : State). x.error) k.1 ∙ stood ∙ ap Some (sym k.0); source = inl (ap (λ (x : State). x.failed) k.1) };
      again = λ f x. (let same = again f x in (sym same.0, same.1));
      named = λ none. absurd (cc);
      none = inr (λ v b r. let none = going v b r in absurd (cc));
    }

pub or_else : {E H F G : Type 0} → (E → H) → (F → G) → E ⊎ F → H ⊎ G
or_else g f (inl x) = inl (g x)
or_else g f (inr y) = inr (f y)

-- the first call was refused
pub refused_first : {A B : Type 0} {a b : Bool} (p : State → A → State → Type 0) (f : State → Located → Type 0)
    (q : State → B → State → Type 0) (g : State → Located → Type 0) (old : State) (e : Error) (new : State)
    → (a ≡ true → b ≡ true) → ((x : Located) → f old x → g old x) → (NoneStands p old → NoneStands q old) → RefusesAt a p f old e new
    → RefusesAt b q g old e new
refused_first p f q g old e new may named none h = record {
  kept = h.kept;
  again = h.again;
  named = λ going. or_else (excused_as e new may) (placed_later old old new refl named) (h.named going);
  none = or_else (excused_as e new may) none h.none;
}

-- a later call was refused
pub refused_later : {A B : Type 0} {a b : Bool} (p : State → A → State → Type 0) (f : State → Located → Type 0)
    (q : State → B → State → Type 0) (g : State → Located → Type 0) (old mid : State) (e : Error) (new : State)
    → (a ≡ true → b ≡ true) → mid.failed ≡ old.failed → old.error ≡ None → mid.error ≡ None → ((x : Located) → f mid x → g old x)
    → (NoneStands p mid → NoneStands q old) → RefusesAt a p f mid e new → RefusesAt b q g old e new
refused_later p f q g old mid e new may sound going still named none h = record {
  kept = answered_later sound h.kept;
  again = λ d x. absurd (cc);
  named = λ _. or_else (excused_as e new may) (placed_later old mid new sound named) (h.named still);
  none = or_else (excused_as e new may) none h.none;
}
