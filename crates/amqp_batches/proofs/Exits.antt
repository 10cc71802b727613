-- What a call answers that ends by `?`, or behind other calls.
use Rattle.std.proofs.Common.{◌≡◌, Bool, Result, Ok, Err, IsErrAnd, sym, ◌∙◌, subst}
use Rattle.amqp_wire.specs.declared.error.Error.{Error}
use Rattle.amqp_decoder.specs.State.{State}
use Rattle.amqp_decoder.specs.Steps.{Began, Passed}
use Rattle.amqp_decoder.specs.Places.{Located, RefusesAt, AnswersAt}

pub refused_at : {A : Type 0} {takes : Bool} {reads : State → A → State → Type 0} {fault : State → Located → Type 0} {st new : State}
    {error : Error} (answer : Result A Error) → IsErrAnd answer (λ e. e ≡ error) → RefusesAt takes reads fault st error new
    → AnswersAt takes reads fault st answer new
refused_at (Ok v) h r = absurd h
refused_at {takes = takes} {reads} {fault} {st} {new} (Err e) h r = subst (λ x. RefusesAt takes reads fault st x new) (sym h) r

-- a call that was made behind others had kept no error
pub began_later : (a b c : State) → Passed a b → Began b c → Began a c
began_later a b c h k = (sym h.0.0 ∙ k.0, k.1, k.2 ∙ h.0.1)
