-- What a look-up and an insertion do, said by the sameness of the keys' type.
use Rattle.std.proofs.Common.{◌≡◌, Bool, true, false, None, is_some, List, [], ◌∷◌, ◌++◌, refl, sym, ap, ◌∙◌}
use Rattle.std.specs.Prelude.{IsSome}
use Rattle.std.specs.Map.{lookup}
use Rattle.indexmap.specs.IndexMap.{insert_entry}
use Rattle.indexmap.proofs.MapLemmas.{absent_from_lookup, insert_entry-absent}
use Rattle.amqp_codec.specs.TermType.{TermType}
use Rattle.amqp_codec.specs.Keys.{IsKey}
use Rattle.amqp_codec.specs.laws.FoundKeys.{new_unfound, unfound_new, found_known}
use Rattle.amqp_codec.specs.Pairs.{IsNew}

module _ {K : Type 0} {u : TermType K} {eq : K → K → Bool} (key : IsKey u eq) {V : Type 0} where
  -- a key is new exactly if it has no value
  pub absent_new : (k : K) (ps : List (K × V)) → lookup (eq k) ps ≡ None → IsNew u.same k ps
  absent_new k ps h = unfound_new key false k ps refl (sym (ap is_some h))

  pub present_known : (k : K) (ps : List (K × V)) → IsSome (lookup (eq k) ps) → IsNew u.same k ps → ⊥
  present_known k ps h = found_known key true k ps refl (sym h)

  -- a new key goes last
  pub inserted_last : (k : K) (v : V) (ps qs : List (K × V)) → qs ≡ insert_entry eq ps k v → IsNew u.same k ps → qs ≡ ps ++ (k, v) ∷ []
  inserted_last k v ps qs h new = h ∙ insert_entry-absent eq k v ps (absent_from_lookup (eq k) ps (new_unfound key k ps new))
