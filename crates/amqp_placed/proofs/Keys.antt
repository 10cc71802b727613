-- No key begins at the end of an input.
use Rattle.std.proofs.Common.{ℕ, ◌≤◌, List, length, ap, arith}
use Rattle.std.proofs.lemmas.List.{length-append}
use Rattle.amqp_model.proofs.Lengths.{spelling_length}
use Rattle.amqp_wire.specs.declared.error.Error.TheVariants.{DuplicateKey}
use Rattle.amqp_model.specs.Term.{map}
use Rattle.amqp_lengths.specs.Stands.{Piece, an_item, IsKey, IsWhole, StandsAt}

whole_key : (P : Piece) (z : List ℕ) → IsKey P → IsWhole P z → 1 ≤ length z
whole_key (an_item map n i) z key (own, (after, h)) =
    omega (arith, ap length h.is, length-append h.front after, spelling_length h.front h.spelled.0 h.spelled.1)
whole_key _ z key h = absurd key

pub none_at_end : (input : List ℕ) → StandsAt input DuplicateKey (length input) → ⊥
none_at_end input (left, sum, h) = omega (arith, sum, h.place, whole_key h.piece h.bytes h.wrong.0 h.wrong.1)
