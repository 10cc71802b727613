-- What a map finds by the equality of keys, said by the sameness of their type.
use Rattle.std.proofs.Common.{◌≡◌, ◌∙◌, Bool, true, false, Option, Some, None, is_some, List, [], ◌∷◌, refl, sym, ap}
use Rattle.std.specs.Map.{lookup}
use Rattle.std.proofs.lemmas.Map.{NonePasses, lookup-none, none_passes_from_lookup}
use Rattle.amqp_model.specs.laws.Item.{clash}
use Rattle.amqp_codec.specs.TermType.{TermType}
use Rattle.amqp_codec.specs.laws.ItemsType.{by_test}
use Rattle.amqp_codec.specs.Keys.{IsKey}
use Rattle.amqp_codec.specs.Pairs.{IsNew}

none_there : {V : Type 0} (o : Option V) → is_some o ≡ false → o ≡ None
none_there None e = refl
none_there (Some v) e = absurd (clash refl e)

module _ {K : Type 0} {u : TermType K} {eq : K → K → Bool} (key : IsKey u eq) {V : Type 0} where
  others_new : (k : K) (ps : List (K × V)) → NonePasses (eq k) ps → IsNew u.same k ps
  others_new k [] h = tt
  others_new k (p ∷ ps) h = (λ s. clash ((key.decides k p.0).1 s) h.0, others_new k ps h.1)

  new_others : (k : K) (ps : List (K × V)) → IsNew u.same k ps → NonePasses (eq k) ps
  new_others k [] h = tt
  new_others k (p ∷ ps) h = (
    by_test (eq k p.0) (eq k p.0 ≡ false) (λ e. absurd (h.0 ((key.decides k p.0).0 e))) (λ e. e),
    new_others k ps h.1,
  )

  -- a key isn't found exactly if it is none of the pairs'
  pub new_unfound : (k : K) (ps : List (K × V)) → IsNew u.same k ps → lookup (eq k) ps ≡ None
  new_unfound k ps h = lookup-none (eq k) ps (new_others k ps h)

  -- b: whether it is found
  pub unfound_new : (b : Bool) (k : K) (ps : List (K × V)) → b ≡ false → b ≡ is_some (lookup (eq k) ps) → IsNew u.same k ps
  unfound_new b k ps f e = others_new k ps (none_passes_from_lookup (eq k) ps (none_there (lookup (eq k) ps) (sym e ∙ f)))

  pub found_known : (b : Bool) (k : K) (ps : List (K × V)) → b ≡ true → b ≡ is_some (lookup (eq k) ps) → IsNew u.same k ps → ⊥
  found_known b k ps t e new = clash t (e ∙ ap is_some (new_unfound k ps new))
