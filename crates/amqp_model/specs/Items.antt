-- The items of a composite value, a list of terms.
use Rattle.std.specs.Prelude.{◌≡◌, ◌⊎◌, Bool, true, false, cond, eqb, List, [], ◌∷◌}
use Rattle.amqp_model.specs.Term.{Primitive, null, array, Refusal, Term, Terms, leaf, container, described, kept, barred, none, more}

-- the terms of a list, as another term holds them
abbrev pub terms_of : List Term → Terms
terms_of [] = none
terms_of (t ∷ ts) = more t (terms_of ts)

-- the terms that another term holds, as a list
abbrev pub items_of : Terms → List Term
items_of none = []
items_of (more t ts) = t ∷ items_of ts

abbrev pub is_null_primitive : Primitive → Bool
is_null_primitive null = true
is_null_primitive _ = false

-- Part 1, section 1.6.1: the term is null, also as bytes that are kept
abbrev pub is_null : Term → Bool
is_null (leaf p) = is_null_primitive p
is_null (kept (b ∷ [])) = eqb b 0x40
is_null _ = false

-- Part 1, section 1.4: the terms that stand in a multiple field are an array's items, none for null, and any other term alone
abbrev pub several : Term → List Term
several (container array ts) = items_of ts
several t = cond (is_null t) [] (t ∷ [])

-- The refusal stands somewhere in the term.
abbrev mutual
  pub Bars : Refusal → Term → Type 0
  Bars r (leaf p) = ⊥
  Bars r (container k ts) = BarsAny r ts
  Bars r (described d t) = Bars r t
  Bars r (kept b) = ⊥
  Bars r (barred s) = r ≡ s

  pub BarsAny : Refusal → Terms → Type 0
  BarsAny r none = ⊥
  BarsAny r (more t ts) = Bars r t ⊎ BarsAny r ts

-- no refusal stands in the term
abbrev pub IsFree : Term → Type 0
IsFree t = (r : Refusal) → Bars r t → ⊥

-- Part 1, section 1.4: an item at the end is left out if it is null
abbrev pub is_left_out : Term → Bool
is_left_out t = is_null t

abbrev pub before_nulls : Term → List Term → List Term
before_nulls t [] = cond (is_left_out t) [] (t ∷ [])
before_nulls t (u ∷ us) = t ∷ u ∷ us

-- the items without the nulls at the end
abbrev pub without_last_nulls : List Term → List Term
without_last_nulls [] = []
without_last_nulls (t ∷ ts) = before_nulls t (without_last_nulls ts)
