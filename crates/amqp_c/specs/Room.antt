-- Room of the caller.
use Rattle.std.specs.Prelude.{◌⊎◌, ℕ, Bool, true, false, List}
use Rattle.amqp_read_write.specs.Room.{StandsIn, HasNoRoom}

-- The text is put into the room's front if there is room for all of it, as is said, and otherwise the room stays as it is.
abbrev pub Puts : List ℕ → List ℕ → List ℕ → Bool → Type 0
Puts text old new true = StandsIn text old new
Puts text old new false = HasNoRoom text old new

-- The same, and it isn't said which.
abbrev pub Fills : List ℕ → List ℕ → List ℕ → Type 0
Fills text old new = StandsIn text old new ⊎ HasNoRoom text old new
