-- A refusal that stands in a term refuses it.
use Rattle.std.proofs.Common.{refl, inl, inr}
use Rattle.amqp_model.specs.Term.{Refusal, Term, Terms, leaf, container, described, kept, barred, none, more}
use Rattle.amqp_model.specs.Items.{Bars, BarsAny, IsFree}
use Rattle.amqp_model.specs.Refusals.{Somewhere, SomewhereIn, IsRefused, Refuses}

mutual
  bars_somewhere : (r : Refusal) (t : Term) → Bars r t → Somewhere (IsRefused r) t
  bars_somewhere r (leaf p) h = absurd h
  bars_somewhere r (container k ts) h = inr (bars_in r ts h)
  bars_somewhere r (described d t) h = inr (bars_somewhere r t h)
  bars_somewhere r (kept b) h = absurd h
  bars_somewhere r (barred s) h = inl (rw h refl)

  bars_in : (r : Refusal) (ts : Terms) → BarsAny r ts → SomewhereIn (IsRefused r) ts
  bars_in r none h = absurd h
  bars_in r (more t ts) (inl h) = inl (bars_somewhere r t h)
  bars_in r (more t ts) (inr h) = inr (bars_in r ts h)

pub bars_refuses : (r : Refusal) (t : Term) → Bars r t → Refuses r t
unfolding Refuses
bars_refuses r t h = inl (bars_somewhere r t h)

-- no refusal stands in what nothing refuses
pub unrefused_free : (t : Term) → ((r : Refusal) → Refuses r t → ⊥) → IsFree t
unrefused_free t f r h = f r (bars_refuses r t h)
