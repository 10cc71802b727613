-- Why terms aren't written, in the model's own words.
use Rattle.std.specs.Prelude.{◌≡◌, ◌<◌, ◌⊎◌, ℕ, List, length, Any}
use Rattle.amqp_model.specs.Term.{Refusal, Term, kept}
use Rattle.amqp_model.specs.Items.{terms_of}
use Rattle.amqp_model.specs.Spelling.{IsSpelling}
use Rattle.amqp_model.specs.Text.{Alone, text}
use Rattle.amqp_model.specs.Measures.{nest}
use Rattle.amqp_model.specs.Ranges.{EverywhereIn}
use Rattle.amqp_model.specs.Kept.{EachExpandsTo}
use Rattle.amqp_model.specs.Refusals.{Refuses}
use Rattle.amqp_wire.specs.Refusals.{error_of}
use Rattle.amqp_wire.specs.declared.error.Error.{Error}
use Rattle.amqp_wire.specs.declared.error.Error.TheVariants.{TooLarge}
use Rattle.amqp_encoder.specs.Measuring.{MAX}
use Rattle.amqp_encoder.specs.Passes.{row_text}

-- Kept bytes nest as deep as the term that they spell.
abbrev pub IsNesting : (List ℕ → ℕ) → Type 0
IsNesting deep = (b : List ℕ) (t : Term) → IsSpelling b t → deep b ≡ nest t

-- The same of the bytes that are kept in terms.
abbrev pub KnowsDepth : (List ℕ → ℕ) → Term → Type 0
KnowsDepth deep (kept b) = (t : Term) → IsSpelling b t → deep b ≡ nest t
KnowsDepth deep _ = Unit {0}

abbrev pub KnowDepths : (List ℕ → ℕ) → List Term → Type 0
KnowDepths deep us = EverywhereIn (KnowsDepth deep) (terms_of us)

-- The terms read as those, one by one.
abbrev pub AllRead : List Term → List Term → Type 0
AllRead us ts = EachExpandsTo (terms_of us) (terms_of ts)

-- The model refuses one of the terms for a reason that has this error.
abbrev pub IsNamed : List Term → Error → Type 0
IsNamed us e = (r : Refusal) × (e ≡ error_of r) × Any (Refuses r) us

-- More bytes, or more terms in the row, than the machine counts.
abbrev pub IsUncounted : List Term → Type 0
IsUncounted us = (MAX < length (row_text us)) ⊎ (MAX < length us)

-- The model refuses one of the terms, or the machine can't count them.
abbrev pub HasCause : List Term → Error → Type 0
HasCause us e = IsNamed us e ⊎ ((e ≡ TooLarge) × IsUncounted us)

-- The model refuses the term for a reason that has this error, or it has more bytes than the machine counts.
abbrev pub TermHasCause : Term → Error → Type 0
TermHasCause u e = ((r : Refusal) × (e ≡ error_of r) × Refuses r u) ⊎ ((e ≡ TooLarge) × (MAX < length (text u Alone)))
