-- Why terms aren't written.
use Rattle.std.proofs.Common.{◌≡◌, ◌⊎◌, inl, inr, List, subst}
use Rattle.amqp_model.specs.Items.{terms_of}
use Rattle.amqp_model.specs.Refusals.{Somewhere, SomewhereIn}
use Rattle.amqp_model.specs.Term.{Refusal, duplicate_key, depth, zero_width_items, non_ascii, empty_multiple, mixed_array, too_large}
use Rattle.amqp_model.specs.Term.{lazy_in_array, custom, Term, Terms, leaf, container, described, kept, barred, none, more}
use Rattle.amqp_wire.specs.Refusals.{error_of}
use Rattle.amqp_wire.specs.declared.error.Error.{Error}
use Rattle.amqp_wire.specs.declared.error.Error.TheVariants.{Memory, Read, Limit}
use Rattle.amqp_encoder.specs.Reasons.{HasReason}
use Rattle.amqp_decoder.specs.Steps.{IsReadError}
use Rattle.amqp_codec.specs.Written.{AreUnwritable}

-- why terms aren't written is neither a fault of a source nor a limit of the caller
abbrev pub IsOfReading : Error → Type 0
IsOfReading (Read k) = Unit {0}
IsOfReading Limit = Unit {0}
IsOfReading _ = ⊥

named_apart : (r : Refusal) → IsOfReading (error_of r) → ⊥
named_apart duplicate_key h = h
named_apart depth h = h
named_apart zero_width_items h = h
named_apart non_ascii h = h
named_apart empty_multiple h = h
named_apart mixed_array h = h
named_apart too_large h = h
named_apart lazy_in_array h = h
named_apart (custom n) h = h

reason_apart : (e : Error) (t : Term) → HasReason e t → IsOfReading e → ⊥
reason_apart e t (inl (r, is, at)) h = named_apart r (subst IsOfReading is h)
reason_apart e t (inr (inl (is, crowded))) h = subst IsOfReading is h
reason_apart e t (inr (inr (is, odd))) h = subst IsOfReading is h

mutual
  somewhere_apart : (e : Error) (t : Term) → Somewhere (HasReason e) t → IsOfReading e → ⊥
  somewhere_apart e (leaf p) r h = reason_apart e (leaf p) r h
  somewhere_apart e (container k ts) (inl r) h = reason_apart e (container k ts) r h
  somewhere_apart e (container k ts) (inr r) h = somewhere_in_apart e ts r h
  somewhere_apart e (described d t) (inl r) h = reason_apart e (described d t) r h
  somewhere_apart e (described d t) (inr r) h = somewhere_apart e t r h
  somewhere_apart e (kept b) r h = reason_apart e (kept b) r h
  somewhere_apart e (barred x) r h = reason_apart e (barred x) r h

  somewhere_in_apart : (e : Error) (ts : Terms) → SomewhereIn (HasReason e) ts → IsOfReading e → ⊥
  somewhere_in_apart e none r h = r
  somewhere_in_apart e (more t ts) (inl r) h = somewhere_apart e t r h
  somewhere_in_apart e (more t ts) (inr r) h = somewhere_in_apart e ts r h

pub unwritten_apart : (ts : List Term) (e : Error) → (e ≡ Memory) ⊎ AreUnwritable ts e → IsOfReading e → ⊥
unwritten_apart ts e (inl m) h = subst IsOfReading m h
unwritten_apart ts e (inr (inl r)) h = somewhere_in_apart e (terms_of ts) r h
unwritten_apart ts e (inr (inr (inl (is, deep)))) h = subst IsOfReading is h
unwritten_apart ts e (inr (inr (inr (is, large)))) h = subst IsOfReading is h

pub read_apart : (e : Error) → IsReadError e → IsOfReading e
read_apart (Read k) h = tt
read_apart _ h = absurd h
