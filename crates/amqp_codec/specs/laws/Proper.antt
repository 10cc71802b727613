-- Proper terms are of their types, and read as terms.
use Rattle.std.proofs.Common.{List, refl}
use Rattle.amqp_model.specs.Term.{list, map, array, Term, Terms, leaf, container, described, kept, barred, none, more}
use Rattle.amqp_model.specs.Items.{terms_of}
use Rattle.amqp_model.specs.Kept.{ExpandsTo, EachExpandsTo}
use Rattle.amqp_model.specs.Ranges.{Everywhere, EverywhereIn, IsValue}
use Rattle.amqp_encoder.specs.Passes.{AreValues}
use Rattle.amqp_codec.specs.Written.{IsProper, AreProper}

mutual
  pub everywhere_as : (P Q : Term → Type 0) → ((t : Term) → P t → Q t) → (t : Term) → Everywhere P t → Everywhere Q t
  everywhere_as P Q f (leaf p) h = f (leaf p) h
  everywhere_as P Q f (container k ts) h = (f (container k ts) h.0, everywhere_in_as P Q f ts h.1)
  everywhere_as P Q f (described d t) h = (f (described d t) h.0, everywhere_as P Q f t h.1)
  everywhere_as P Q f (kept b) h = f (kept b) h
  everywhere_as P Q f (barred r) h = f (barred r) h

  pub everywhere_in_as : (P Q : Term → Type 0) → ((t : Term) → P t → Q t) → (ts : Terms) → EverywhereIn P ts → EverywhereIn Q ts
  everywhere_in_as P Q f none h = h
  everywhere_in_as P Q f (more t ts) h = (everywhere_as P Q f t h.0, everywhere_in_as P Q f ts h.1)

pub proper_value : (t : Term) → IsProper t → IsValue t
proper_value (leaf p) h = h
proper_value (container list ts) h = h
proper_value (container map ts) h = h
proper_value (container array ts) h = h
proper_value (described d t) h = h
proper_value (kept b) h = tt
proper_value (barred r) h = h

pub proper_values : (ts : List Term) → AreProper ts → AreValues ts
proper_values ts h = everywhere_in_as IsProper IsValue proper_value (terms_of ts) h

-- what terms read as
mutual
  pub proper_reads : (u : Term) → Everywhere IsProper u → (t : Term) × ExpandsTo u t
  proper_reads (leaf p) h = (leaf p, refl)
  proper_reads (container k us) h = let r = proper_reads_each us h.1 in (container k r.0, (refl, r.1))
  proper_reads (described d u) h = let r = proper_reads u h.1 in (described d r.0, (refl, r.1))
  proper_reads (kept b) h = h
  proper_reads (barred r) h = (barred r, refl)

  pub proper_reads_each : (us : Terms) → EverywhereIn IsProper us → (ts : Terms) × EachExpandsTo us ts
  proper_reads_each none h = (none, tt)
  proper_reads_each (more u us) h = let r = proper_reads u h.0 in let s = proper_reads_each us h.1 in (more r.0 s.0, (r.1, s.1))
