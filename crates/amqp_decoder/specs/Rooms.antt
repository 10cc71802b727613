-- How many containers may be open (a rule of this project: values nest at most so deep).
use Rattle.std.specs.Prelude.{◌≡◌, ◌≤◌, ◌⊎◌, ℕ, List, length, Option, Some, None}
use Rattle.amqp_model.specs.Term.{Descriptor}
use Rattle.amqp_model.specs.Constructors.{format}
use Rattle.amqp_decoder.specs.State.{Open, State}
use Rattle.amqp_decoder.specs.Arrays.{IsFlat}

-- The items share a constructor, and hold no others.
abbrev pub HasFlatItems : Option (List Descriptor × ℕ) → Type 0
HasFlatItems None = ⊥
HasFlatItems (Some (ds, c)) = IsFlat ds (format c)

-- So many containers and described values around this one are no more than may be nested, unless nothing is left in it, or
-- it is an array whose items hold no others.
abbrev pub IsRoomy : ℕ → ℕ → Open → Type 0
IsRoomy nesting depth top = (depth ≤ nesting) ⊎ ((top.items ≡ Some 0) ⊎ HasFlatItems top.shared)

-- No more containers and described values are open than may be nested, unless nothing is left in the innermost, or it is
-- an array whose items hold no others.
abbrev pub HasRoom : State → Type 0
HasRoom st = IsRoomy st.nesting (length st.saved) st.top
