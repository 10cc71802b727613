-- What bytes begin with.
use Rattle.std.specs.Prelude.{◌≡◌, ℕ, ◌≤◌, List, [], ◌++◌, length, take}
use Rattle.amqp_wire.specs.declared.error.Error.{Error}
use Rattle.amqp_wire.specs.declared.error.Error.TheVariants.{Cut}

-- The first n bytes are a P.
pub record IsFront (P : List ℕ → Type 0) (input : List ℕ) (n : ℕ) : Type 0 where
  pub within : n ≤ length input
  pub spelled : P (take n input)

-- The input is a P and what follows it.
pub record Behind (P : List ℕ → Type 0) (input after : List ℕ) : Type 0 where
  pub front : List ℕ
  pub is : input ≡ front ++ after
  pub spelled : P front

-- No front of the input is a P.
abbrev pub NoFront : (List ℕ → Type 0) → List ℕ → Type 0
NoFront P input = (front after : List ℕ) → input ≡ front ++ after → P front → ⊥

-- What may follow an input that an error refuses: nothing after Cut, since more bytes may mend it, and otherwise anything.
abbrev pub MayFollow : Error → List ℕ → Type 0
MayFollow e more = e ≡ Cut → more ≡ []

-- The error is right of an input that begins with no P: it is Cut, or no bytes that begin so begin with a P.
pub record Refuses (P : List ℕ → Type 0) (input : List ℕ) (e : Error) : Type 0 where
  pub none : (more : List ℕ) → MayFollow e more → NoFront P (input ++ more)
