-- The calls that write a term.
use Rattle.std.specs.Prelude.{ℕ, zero, suc, List, [], ◌∷◌, ◌++◌}
use Rattle.amqp_model.specs.Term.{Primitive, null, Container, Descriptor, Term, Terms, leaf, container, described, kept, barred, none, more}
use Rattle.amqp_model.specs.Text.{Place, First}
use Rattle.amqp_wire.specs.Refusals.{error_of}
use Rattle.amqp_wire.specs.declared.error.Error.{Error}

-- A call of an encoder. Bytes of a term that is kept come with how deep it nests.
pub data Token : Type 0 where
  put : Primitive → Token
  keep : List ℕ → ℕ → Token
  begin : Container → Token
  end : Container → Token
  begin_described : Descriptor → Token
  end_described : Token
  refuse : Error → Token

-- Null, so many times.
abbrev pub nulls : ℕ → List Token
nulls zero = []
nulls (suc n) = put null ∷ nulls n

-- A call that takes memory while it measures: for the size of a container that begins, and for a descriptor of an array's
-- first item.
abbrev pub TakesMemory : Place → Token → Type 0
TakesMemory place (begin k) = Unit {0}
TakesMemory First (begin_described d) = Unit {0}
TakesMemory place t = ⊥

-- The calls for a term, where kept bytes nest so deep.
abbrev mutual
  pub tokens : (List ℕ → ℕ) → Term → List Token
  tokens deep (leaf p) = put p ∷ []
  tokens deep (container k ts) = begin k ∷ (all_tokens deep ts ++ end k ∷ [])
  tokens deep (described d t) = begin_described d ∷ (tokens deep t ++ end_described ∷ [])
  tokens deep (kept b) = keep b (deep b) ∷ []
  tokens deep (barred r) = refuse (error_of r) ∷ []

  pub all_tokens : (List ℕ → ℕ) → Terms → List Token
  all_tokens deep none = []
  all_tokens deep (more t ts) = tokens deep t ++ all_tokens deep ts
