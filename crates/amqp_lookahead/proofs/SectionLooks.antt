-- Looks at a section's descriptor.
use Rattle.std.proofs.Common.{◌≡◌, ◌≤◌, ℕ, List, ◌++◌, length, take, drop, max, ap, ◌∙◌, arith, length-append}
use Rattle.std.proofs.lemmas.List.{length-take-le, take_all}
use Rattle.amqp_lookahead.specs.State.{State, after_look}
use Rattle.amqp_lookahead.specs.Sections.{LooksOn}

pub looks_once : (n : ℕ) (st m : State) (l : List ℕ) → n ≤ 64 → n ≤ length l → st.rest ≡ take n l ++ drop n st.rest → m ≡ after_look n st
    → LooksOn st m
looks_once n st m l few there front is =
    (n, few, omega (arith, ap length front, length-append (take n l) (drop n st.rest), length-take-le n l there), is)

-- all of a row was filled
pub front_all : (n : ℕ) (l r : List ℕ) → length l ≤ n → r ≡ take n l ++ drop n r → r ≡ l ++ drop n r
front_all n l r h e = e ∙ ap (λ x. x ++ drop n r) (take_all n l h)

-- a look, and another
pub looks_more : (st m z : State) → LooksOn st m → LooksOn m z → LooksOn st z
looks_more st m z (n, few, there, is) (k, few', there', is') =
    let rest : length m.rest ≡ length st.rest = ap (λ (x : State). length x.rest) is in (
      max n k,
      omega (arith, few, few'),
      omega (arith, there, there', rest),
      is' ∙ ap (after_look k) is ∙ ap (λ a. record st { ahead = a }) (omega arith),
    )
