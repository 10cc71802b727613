-- What the rules of fields make of the type of a field (Part 1, section 1.4).
use Rattle.std.specs.Prelude.{◌≡◌, ◌⊎◌, Bool, true, cond, List, [], ◌∷◌, map, Option, Some, None, option_map}
use Rattle.std.specs.List.{AllZip}
use Rattle.amqp_model.specs.Term.{null, array, Term, leaf, container}
use Rattle.amqp_model.specs.Items.{terms_of, is_null}
use Rattle.amqp_model.specs.FieldType.{Norm, normal, unchanged, by_norm, Meaning}

-- Optional: null is None, and another term is Some of what it means.
abbrev pub OptionMeans : {T : Type 0} → (Term → T → Type 0) → Term → Option T → Type 0
OptionMeans means t None = is_null t ≡ true
OptionMeans means t (Some v) = means t v

abbrev pub option_canon : {T : Type 0} → (T → Term) → Option T → Term
option_canon canon None = leaf null
option_canon canon (Some v) = canon v

abbrev pub option_norm : {T : Type 0} → Norm T → Norm (Option T)
option_norm unchanged = unchanged
option_norm (by_norm f) = by_norm (option_map f)

abbrev pub SameOption : {T : Type 0} → (T → T → Type 0) → Option T → Option T → Type 0
SameOption same None None = Unit {0}
SameOption same None (Some w) = ⊥
SameOption same (Some v) None = ⊥
SameOption same (Some v) (Some w) = same v w

-- A default value, and the test for it.
pub record DefaultValue {T : Type 0} (m : Meaning T) : Type 0 where
  pub value : T
  pub test : T → Bool
  pub sound : (v : T) → test v ≡ true → m.same v value
  pub complete : (v : T) → m.same v value → test v ≡ true
  pub test_normal : (v : T) → test (normal m.norm v) ≡ test v
  pub is_value : m.is_value value

-- Default: null is the default value, and another term is what it means.
abbrev pub DefaultMeans : {T : Type 0} (m : Meaning T) → DefaultValue m → Term → T → Type 0
DefaultMeans m d t v = m.means t v ⊎ ((is_null t ≡ true) × m.same v d.value)

abbrev pub default_canon : {T : Type 0} (m : Meaning T) → DefaultValue m → T → Term
default_canon m d v = cond (d.test v) (leaf null) (m.canon v)

-- A type that holds any number of values of another.
pub record ArrayOf {A : Type 0} (m : Meaning A) (V : Type 0) : Type 0 where
  pub contents : V → List A
  pub norm : Norm V
  pub norm_contents : (v : V) → contents (normal norm v) ≡ map (normal m.norm) (contents v)

-- the terms mean the values one by one, and there is at least one
abbrev pub SomeMean : {A : Type 0} → (Term → A → Type 0) → List Term → List A → Type 0
SomeMean means [] vs = ⊥
SomeMean means (t ∷ ts) vs = AllZip means (t ∷ ts) vs

-- Multiple: nothing is None, and items are Some of what they mean.
abbrev pub MultipleMeans : {A V : Type 0} (m : Meaning A) → ArrayOf m V → List Term → Option V → Type 0
MultipleMeans m c ts None = ts ≡ []
MultipleMeans m c ts (Some v) = SomeMean m.means ts (c.contents v)

-- an array of the items, or the term t where there is none
abbrev pub array_or : Term → List Term → Term
array_or t [] = t
array_or t (u ∷ us) = container array (terms_of (u ∷ us))

abbrev pub multiple_canon : {A V : Type 0} (m : Meaning A) → ArrayOf m V → Option V → Term
multiple_canon m c None = leaf null
multiple_canon m c (Some v) = array_or (leaf null) (map m.canon (c.contents v))

-- None in the place of no items
abbrev pub some_or_none : {A V : Type 0} → List A → V → Option V
some_or_none [] v = None
some_or_none (x ∷ xs) v = Some v

abbrev pub multiple_normal : {A V : Type 0} (m : Meaning A) → ArrayOf m V → Option V → Option V
multiple_normal m c None = None
multiple_normal m c (Some v) = some_or_none (c.contents v) (normal c.norm v)

abbrev pub SameContents : {A V : Type 0} (m : Meaning A) → ArrayOf m V → V → V → Type 0
SameContents m c v w = AllZip m.same (c.contents v) (c.contents w)
