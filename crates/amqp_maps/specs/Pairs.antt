-- A map as the list of its pairs.
use Rattle.std.specs.Prelude.{Bool, List}
use Rattle.std.specs.List.{IsDistinct}
use Rattle.std.specs.Map.{keys_of}

-- No key is equal to one after it.
abbrev pub HaveDistinctKeys : {K V : Type 0} → (K → K → Bool) → List (K × V) → Type 0
HaveDistinctKeys eq pairs = IsDistinct eq (keys_of pairs)
