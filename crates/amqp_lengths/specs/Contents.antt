-- The size, the count and the content of containers.
use Rattle.std.specs.Prelude.{◌≡◌, ℕ, List}
use Rattle.amqp_model.specs.Term.{Container}
use Rattle.amqp_model.specs.Constructors.{compound}
use Rattle.amqp_model.specs.Spelling.{ContainerData}

-- The bytes are the size and the count of a container of n items under a width, and this content.
abbrev pub IsContent : Container → ℕ → ℕ → List ℕ → List ℕ → Type 0
IsContent kind w n items b = ContainerData (compound kind w) kind n (λ content. content ≡ items) b

abbrev pub HasContent : Container → ℕ → List ℕ → Type 0
HasContent kind w b = (n : ℕ) × (items : List ℕ) × IsContent kind w n items b
