-- Two canonical terms with one text: kept bytes may be null's.
use Rattle.std.specs.Prelude.{ℕ, cond, eqb, List, [], ◌∷◌}
use Rattle.amqp_model.specs.Term.{null, Term, Terms, leaf, container, described, kept, barred, none, more}

-- kept bytes that are null, as null
abbrev pub kept_null_alike : List ℕ → Term
kept_null_alike (b ∷ []) = cond (eqb b 0x40) (leaf null) (kept (b ∷ []))
kept_null_alike b = kept b

abbrev mutual
  pub nulls_alike : Term → Term
  nulls_alike (leaf p) = leaf p
  nulls_alike (container k ts) = container k (all_nulls_alike ts)
  nulls_alike (described d t) = described d (nulls_alike t)
  nulls_alike (kept b) = kept_null_alike b
  nulls_alike (barred r) = barred r

  pub all_nulls_alike : Terms → Terms
  all_nulls_alike none = none
  all_nulls_alike (more t ts) = more (nulls_alike t) (all_nulls_alike ts)
