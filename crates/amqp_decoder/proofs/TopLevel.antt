-- What is found at the top level.
use Rattle.std.proofs.Common.{◌≡◌, ℕ, false, inl, inr, Option, Some, Result, Ok, Err, IfOk, IfErr, ◌↔◌, refl, subst}
use Rattle.amqp_wire.specs.declared.error.Error.{Error}
use Rattle.amqp_lookahead.specs.Sections.{IsSectionAhead}
use Rattle.amqp_decoder.specs.State.{State}
use Rattle.amqp_decoder.specs.Steps.{Answers, SourceFailed}
use Rattle.amqp_decoder.specs.Reading.{RefusesRead}
use Rattle.amqp_decoder.specs.Places.{StandsHere, Here, RefusesAt, AnswersAt}
use Rattle.amqp_decoder.proofs.Places.{refused_here}
use Rattle.amqp_decoder.specs.Sections.{IsTop, NotTop, Ends, LooksOn, PeeksSection}

-- the section that stands next
pub peeked : (r : Result (Option ℕ) Error) (st m new : State) → IsTop st tt m → IfOk r (λ _. LooksOn m new)
    → IfOk r (λ o. (c : ℕ) → (o ≡ Some c) ↔ IsSectionAhead m.rest c) → IfErr r (λ e. Answers m e new × SourceFailed e new)
    → AnswersAt false PeeksSection (Here NotTop) st r new
peeked (Ok o) st m new t looks is f = record {
  going = t.going;
  place = t.place;
  top = t.top;
  saved = t.saved;
  among = t.among;
  answer = λ c. subst (λ (z : State). (o ≡ Some c) ↔ IsSectionAhead z.rest c) t.kept (is c);
  kept = subst (λ z. LooksOn z new) t.kept looks;
}
peeked (Err e) st m new t looks is f =
    record {
      kept = record { error = f.0.error; source = inr f.1.0 };
      again = λ d x. let g = t.going in absurd (cc);
      named = λ g. inl (inr f.1);
      none = inl (inr f.1);
    }

-- nothing is found where something is open
not_top : {A : Type 0} (p : State → A → State → Type 0) (st : State) (e : Error) (new : State)
    → ((v : A) (b : State) → p st v b → IsTop st tt st) → RefusesRead false IsTop NotTop st e new → StandsHere st new
    → RefusesAt false p (Here NotTop) st e new
not_top p st e new top r here =
    let h = refused_here r here in
    record {
      kept = h.kept;
      again = h.again;
      named = h.named;
      none = elim h.none [ inl x ↦ inl x | inr n ↦ inr (λ v b k. n tt st (top v b k)) ];
    }

pub no_end : (st : State) (e : Error) (new : State) → RefusesRead false IsTop NotTop st e new → StandsHere st new
    → RefusesAt false Ends (Here NotTop) st e new
no_end st e new = not_top Ends st e new
    (λ v b k. record { going = k.going; place = k.place; top = k.top; saved = k.saved; among = k.among; kept = refl })

pub no_section : (st : State) (e : Error) (new : State) → RefusesRead false IsTop NotTop st e new → StandsHere st new
    → RefusesAt false PeeksSection (Here NotTop) st e new
no_section st e new = not_top PeeksSection st e new
    (λ v b k. record { going = k.going; place = k.place; top = k.top; saved = k.saved; among = k.among; kept = refl })

-- whether the input ends isn't known, since the source failed
pub end_unknown : (st m : State) (e : Error) (new : State) → IsTop st tt m → Answers m e new × SourceFailed e new
    → RefusesAt false Ends (Here NotTop) st e new
end_unknown st m e new t f = record {
  kept = record { error = f.0.error; source = inr f.1.0 };
  again = λ d x. let g = t.going in absurd (cc);
  named = λ g. inl (inr f.1);
  none = inl (inr f.1);
}
