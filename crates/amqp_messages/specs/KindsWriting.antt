-- How groups of some kinds are written, in their order.
use Rattle.std.proofs.Common.{List, [], ◌++◌, Option, Some, None, IfSome}
use Rattle.amqp_model.specs.Term.{Term}
use Rattle.amqp_codec.specs.Written.{AreProper, Writing}
use Rattle.amqp_batches.specs.laws.Row.{both_proper}
use Rattle.std.proofs.Common.{inl, inr}
use Rattle.amqp_messages.specs.Kinds.{Kinds, none, kind, ForEach, Group, Fields}

abbrev pub Writings : Kinds → Type 1
Writings ks = ForEach Writing ks

abbrev pub optional : {A : Type 0} → (A → List Term) → Option A → List Term
optional canons None = []
optional canons (Some g) = canons g

-- The terms of the groups that are there.
abbrev pub row_of : (ks : Kinds) → Writings ks → Fields ks → List Term
row_of none ws m = []
row_of (kind T codes ks) ws m = optional ws.0.canons m.0 ++ row_of ks ws.1 m.1

-- A property of each kind, and what has it: a group, and all that there are.
abbrev pub Properties : Kinds → Type 1
Properties ks = ForEach (λ T. T → Type 0) ks

abbrev pub HasProperty : (ks : Kinds) → Properties ks → Group ks → Type 0
HasProperty none ps g = ⊥
HasProperty (kind T codes ks) ps (inl g) = ps.0 g
HasProperty (kind T codes ks) ps (inr g) = HasProperty ks ps.1 g

abbrev pub AllHave : (ks : Kinds) → Properties ks → Fields ks → Type 0
AllHave none ps m = Unit {0}
AllHave (kind T codes ks) ps m = IfSome m.0 ps.0 × AllHave ks ps.1 m.1

-- Each is a value of its type.
abbrev pub are_values : (ks : Kinds) → Writings ks → Properties ks
are_values none ws = ws
are_values (kind T codes ks) ws = (ws.0.is_value, are_values ks ws.1)

pub one_proper : {A : Type 0} (w : Writing A) (g : Option A) → IfSome g w.is_value → AreProper (optional w.canons g)
one_proper w None i = tt
one_proper w (Some g) i = w.proper g i

pub row_proper : (ks : Kinds) (ws : Writings ks) (m : Fields ks) → AllHave ks (are_values ks ws) m → AreProper (row_of ks ws m)
row_proper none ws m i = tt
row_proper (kind T codes ks) ws m i =
    both_proper (optional ws.0.canons m.0) (row_of ks ws.1 m.1) (one_proper ws.0 m.0 i.0) (row_proper ks ws.1 m.1 i.1)
