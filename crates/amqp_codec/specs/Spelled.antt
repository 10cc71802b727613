-- Bytes that spell a value of a type.
use Rattle.std.specs.Prelude.{ℕ, ◌≤◌, List}
use Rattle.amqp_model.specs.Term.{Term}
use Rattle.amqp_model.specs.Spelling.{IsSpelling}
use Rattle.amqp_model.specs.Standing.{whole}
use Rattle.amqp_model.specs.Text.{Alone, text}
use Rattle.amqp_model.specs.Measures.{nest}
use Rattle.amqp_codec.specs.TermType.{TermType, IsUnrefused}

-- The bytes are a term, nested no deeper than 128, that means the value.
pub record IsSpelled {T : Type 0} (u : TermType T) (b : List ℕ) (v : T) : Type 0 where
  pub term : Term
  pub spelled : IsSpelling b term
  pub nested : nest term ≤ 128
  pub meant : u.means (whole b) term v

-- The canonical text of a value.
abbrev pub written : {T : Type 0} → TermType T → T → List ℕ
written u v = text (u.canon v) Alone

-- Nothing speaks against writing the value.
abbrev pub IsWritable : {T : Type 0} → TermType T → T → Type 0
IsWritable u v = IsUnrefused (u.canon v)
