-- What is refused has a fault, and the fault its place.
use Rattle.std.proofs.Common.{◌⊎◌, inl, inr}

pub refused_at : {X M A B : Type 0} → (X × M) ⊎ A → (X × M) ⊎ B → M ⊎ (A × B)
refused_at (inl m) h = inl m.1
refused_at (inr a) (inl m) = inl m.1
refused_at (inr a) (inr b) = inr (a, b)
