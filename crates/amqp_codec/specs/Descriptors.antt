-- Descriptors that mean one type (Part 1, section 1.5).
use Rattle.std.proofs.Common.{ℕ, ◌<◌, ◌≤◌, ◌^◌, List, length}
use Rattle.amqp_model.specs.Term.{Descriptor, code, ulong}
use Rattle.amqp_model.specs.Spelling.{Names}
use Rattle.amqp_model.specs.Text.{shortest, spell}
use Rattle.amqp_model.specs.Ranges.{IsBytes}

-- Descriptors that mean one type. Of them a code is the canonical one, and no other takes fewer bytes.
pub record Descriptors : Type 1 where
  pub describes : Descriptor → Type 0
  pub number : ℕ
  pub by_code : describes (code number)
  pub in_range : number < 2 ^ 64
  pub shortest_code : (d : Descriptor) (b : List ℕ) → describes d → Names d b → IsBytes b
      → length (spell (shortest (ulong number))) ≤ length b
