-- How the fields of a value are written one after another. Nulls are written only once a field comes after them.
use Rattle.std.specs.Prelude.{◌≡◌, ℕ, List, ◌++◌, take, replicate, Result, Ok, Err}
use Rattle.amqp_model.specs.Term.{null, Term, leaf}
use Rattle.amqp_model.specs.Items.{without_last_nulls}
use Rattle.amqp_model.specs.Fields.{canonical_terms, canonical_items}
use Rattle.amqp_wire.specs.declared.error.Error.{Error}
use Rattle.amqp_encoder.specs.State.{Encoder}
use Rattle.amqp_codec.specs.Fields.{Fields, slots}
use Rattle.amqp_codec.specs.Written.{WritesTerms}

-- The canonical terms of the first fields.
abbrev pub first_terms : {V : Type 0} → Fields V → V → ℕ → List Term
first_terms fs v i = take i (canonical_terms (slots fs) v)

-- The first fields are written, but for so many nulls at their end.
pub record IsPending {V : Type 0} (fs : Fields V) (v : V) (i nulls : ℕ) (start now : Encoder) : Type 0 where
  pub left : first_terms fs v i ≡ without_last_nulls (first_terms fs v i) ++ replicate nulls (leaf null)
  pub written : WritesTerms (without_last_nulls (first_terms fs v i)) start (Ok tt) now

-- So are they then; or the fields that are written at all were refused.
abbrev pub WritesUpTo : {V : Type 0} → Fields V → V → ℕ → Encoder → Result (Unit {0}) Error → ℕ → Encoder → Type 0
WritesUpTo fs v i start (Ok u) nulls now = IsPending fs v i nulls start now
WritesUpTo fs v i start (Err e) nulls now = WritesTerms (canonical_items (slots fs) v) start (Err e) now
