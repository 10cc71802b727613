-- What a canonical term reads as (a notion of this project).
use Rattle.std.specs.Prelude.{◌≡◌}
use Rattle.amqp_model.specs.Term.{Term, Terms, leaf, container, described, kept, barred, none, more}
use Rattle.amqp_model.specs.Spelling.{IsSpelling}

-- t is u with the term that they spell in place of bytes that are kept.
abbrev mutual
  pub ExpandsTo : Term → Term → Type 0
  ExpandsTo (leaf p) (leaf q) = p ≡ q
  ExpandsTo (container k us) (container l ts) = (k ≡ l) × EachExpandsTo us ts
  ExpandsTo (described d u) (described e t) = (d ≡ e) × ExpandsTo u t
  ExpandsTo (kept b) t = IsSpelling b t
  ExpandsTo (barred r) (barred s) = r ≡ s
  ExpandsTo _ _ = ⊥

  pub EachExpandsTo : Terms → Terms → Type 0
  EachExpandsTo none none = Unit {0}
  EachExpandsTo (more u us) (more t ts) = ExpandsTo u t × EachExpandsTo us ts
  EachExpandsTo _ _ = ⊥
