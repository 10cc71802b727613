-- What it takes that a pair is inserted.
use Rattle.std.proofs.Common.{◌≡◌, List, Option, Result, Ok, Err, IfOk, string_bytes, ℕ}
use Rattle.amqp_model.specs.Term.{Term}
use Rattle.amqp_wire.specs.declared.symbol.Symbol.{Symbol}
use Rattle.amqp_values.specs.declared.value.Value.{Value}
use Rattle.amqp_values.specs.Values.{value_term}
use Rattle.amqp_lifetimes.specs.Properties.{with_pair, InsertsUnder}

pub inserted_under : {E : Type 0} (before : Option (List (Symbol × Value))) (key : Symbol) (value : Value) (text : List ℕ) (term : Term)
    (r : Result (List (Symbol × Value)) E) → string_bytes key.0 ≡ text → value_term value ≡ term
    → IfOk r (λ made. made ≡ with_pair before key value) → IfOk r (InsertsUnder before text term)
inserted_under before key value text term (Ok made) is_text is_term pairs =
    record { key = key; is_text = is_text; pair = record { value = value; is_term = is_term; pairs = pairs } }
inserted_under before key value text term (Err e) is_text is_term pairs = tt
