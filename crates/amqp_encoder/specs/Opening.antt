-- What stands before the items of a list, map or array (Part 1, sections 1.2.3 and 1.2.4).
use Rattle.std.specs.Prelude.{ℕ, zero, List, [], ◌∷◌, ◌++◌}
use Rattle.amqp_model.specs.Term.{Container, array}
use Rattle.amqp_model.specs.Text.{Place, head}

-- An array without items holds the constructor of null.
abbrev pub filler : Container → ℕ → List ℕ
filler array zero = 0x40 ∷ []
filler k n = []

abbrev pub content_length : Container → ℕ → ℕ → ℕ
content_length array zero items = 1
content_length k n items = items

-- of n items that take so many bytes
abbrev pub opening : Place → Container → ℕ → ℕ → List ℕ
opening place k n items = head place k n (content_length k n items) ++ filler k n
