-- Terms in which no bytes are kept read as themselves.
use Rattle.std.proofs.Common.{◌≡◌, ◌∷◌, None, option_map, refl, ap, ap₂, sym, subst}
use Rattle.amqp_model.specs.Term.{null, Term, Terms, leaf, container, described, kept, barred, none, more}
use Rattle.amqp_model.specs.Text.{form}
use Rattle.amqp_model.specs.Ranges.{Everywhere, IsValue}
use Rattle.amqp_model.specs.Refusals.{core}
use Rattle.amqp_model.specs.Kept.{ExpandsTo, EachExpandsTo}
use Rattle.amqp_codec.specs.NullsAlike.{nulls_alike, all_nulls_alike}
use Rattle.amqp_model.proofs.Barred.{unrefused_free}
use Rattle.amqp_codec.specs.TermType.{KeepsNoBytes, KeepNoBytes, IsKept, View, IgnoresStanding, Rewrites}

mutual
  pub reads_itself : (u : Term) → KeepsNoBytes u → ExpandsTo u u
  reads_itself (leaf p) h = refl
  reads_itself (container k us) h = (refl, read_themselves us h)
  reads_itself (described d u) h = (refl, reads_itself u h)
  reads_itself (kept b) h = absurd h
  reads_itself (barred r) h = refl

  read_themselves : (us : Terms) → KeepNoBytes us → EachExpandsTo us us
  read_themselves none h = tt
  read_themselves (more u us) h = (reads_itself u h.0, read_themselves us h.1)

mutual
  pub plain_reads : (u t : Term) → KeepsNoBytes u → ExpandsTo u t → t ≡ u
  plain_reads (leaf p) (leaf q) h r = ap leaf (sym r)
  plain_reads (container k us) (container l ts) h r = ap₂ container (sym r.0) (plain_read us ts h r.1)
  plain_reads (described d u) (described e t) h r = ap₂ described (sym r.0) (plain_reads u t h r.1)
  plain_reads (kept b) t h r = absurd h
  plain_reads (barred q) (barred s) h r = ap barred (sym r)
  plain_reads (leaf p) (container l ts) h r = absurd r
  plain_reads (leaf p) (described e t) h r = absurd r
  plain_reads (leaf p) (kept b) h r = absurd r
  plain_reads (leaf p) (barred s) h r = absurd r
  plain_reads (container k us) (leaf q) h r = absurd r
  plain_reads (container k us) (described e t) h r = absurd r
  plain_reads (container k us) (kept b) h r = absurd r
  plain_reads (container k us) (barred s) h r = absurd r
  plain_reads (described d u) (leaf q) h r = absurd r
  plain_reads (described d u) (container l ts) h r = absurd r
  plain_reads (described d u) (kept b) h r = absurd r
  plain_reads (described d u) (barred s) h r = absurd r
  plain_reads (barred q) (leaf p) h r = absurd r
  plain_reads (barred q) (container l ts) h r = absurd r
  plain_reads (barred q) (described e t) h r = absurd r
  plain_reads (barred q) (kept b) h r = absurd r

  plain_read : (us ts : Terms) → KeepNoBytes us → EachExpandsTo us ts → ts ≡ us
  plain_read none none h r = refl
  plain_read none (more t ts) h r = absurd r
  plain_read (more u us) none h r = absurd r
  plain_read (more u us) (more t ts) h r = ap₂ more (plain_reads u t h.0 r.0) (plain_read us ts h.1 r.1)

mutual
  pub nulls_alike-none_kept : (u : Term) → KeepsNoBytes u → nulls_alike u ≡ u
  nulls_alike-none_kept (leaf p) h = refl
  nulls_alike-none_kept (container k us) h = ap (container k) (all_nulls_alike-none_kept us h)
  nulls_alike-none_kept (described d u) h = ap (described d) (nulls_alike-none_kept u h)
  nulls_alike-none_kept (kept b) h = absurd h
  nulls_alike-none_kept (barred r) h = refl

  all_nulls_alike-none_kept : (us : Terms) → KeepNoBytes us → all_nulls_alike us ≡ us
  all_nulls_alike-none_kept none h = refl
  all_nulls_alike-none_kept (more u us) h = ap₂ more (nulls_alike-none_kept u h.0) (all_nulls_alike-none_kept us h.1)

pub plain_core : (u : Term) → KeepsNoBytes u → IsKept (core u) → ⊥
plain_core (leaf p) h k = k
plain_core (container k us) h l = l
plain_core (described d u) h k = plain_core u h k
plain_core (kept b) h k = h
plain_core (barred r) h k = k

-- what is null under its descriptors has no form in an array
pub null_core : (u : Term) → core u ≡ leaf null → form u ≡ None
null_core (leaf p) e = ap form e
null_core (container k us) e = absurd (cc)
null_core (described d u) e = ap (option_map (λ f. (d ∷ f.0, f.1))) (null_core u e)
null_core (kept b) e = absurd (cc)
null_core (barred r) e = absurd (cc)

-- what keeps no bytes is read again as it is meant
pub rewrites_plainly : {v n : View} → IgnoresStanding v n → (v.is_value → Everywhere IsValue v.canon)
    → nulls_alike n.canon ≡ nulls_alike v.canon
    → Rewrites v n
rewrites_plainly {v} {n} h valued canon = record {
  valued = valued;
  reads = λ i f. (v.canon, reads_itself v.canon h.plain);
  means = λ s t i f c r. subst (n.means s) (sym (plain_reads v.canon t h.plain r)) (h.canon_means s i (unrefused_free v.canon f));
  canon = canon;
}
