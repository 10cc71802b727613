-- How values are written as the items of a list or an array.
use Rattle.std.proofs.Common.{◌≡◌, List, [], ◌∷◌, ◌++◌, map, All, refl, sym, ap, ◌∙◌, subst}
use Rattle.std.specs.List.{flat_map}
use Rattle.std.proofs.lemmas.List.Concat.{flat_map-cons}
use Rattle.std.proofs.lemmas.List.Elements.{All-head, All-tail, All-weaker}
use Rattle.amqp_model.specs.Term.{Container, list, map as map_kind, array, Term, container}
use Rattle.amqp_model.specs.Items.{terms_of}
use Rattle.amqp_codec.specs.Faults.{Faults}
use Rattle.amqp_codec.specs.TermType.{TermType}
use Rattle.amqp_codec.specs.Each.{IsListOrArray}
use Rattle.amqp_codec.specs.ItemsType.{items_type}
use Rattle.amqp_codec.specs.Written.{AreProper, Writing}
use Rattle.amqp_codec.specs.Agreement.{Agreement}

abbrev pub items_canons : {T : Type 0} → Container → (T → List Term) → List T → List Term
items_canons k canons vs = container k (terms_of (flat_map canons vs)) ∷ []

proper_join : (ts us : List Term) → AreProper ts → AreProper us → AreProper (ts ++ us)
proper_join [] us h k = k
proper_join (t ∷ ts) us h k = (h.0, proper_join ts us h.1 k)

flat_proper : {T : Type 0} (w : Writing T) (vs : List T) → All w.is_value vs → AreProper (flat_map w.canons vs)
flat_proper w [] i = tt
flat_proper w (v ∷ vs) i =
    subst AreProper (sym (flat_map-cons w.canons v vs))
    (proper_join (w.canons v) (flat_map w.canons vs) (w.proper v (All-head w.is_value v vs i))
    (flat_proper w vs (All-tail w.is_value v vs i)))

pub items_proper : {T : Type 0} (k : Container) → IsListOrArray k → (w : Writing T) (vs : List T) → All w.is_value vs
    → AreProper (items_canons k w.canons vs)
items_proper list q w vs i = ((tt, flat_proper w vs i), tt)
items_proper map_kind q w vs i = absurd q
items_proper array q w vs i = ((tt, flat_proper w vs i), tt)

abbrev pub items_writing : {T : Type 0} (k : Container) → IsListOrArray k → Writing T → Writing (List T)
items_writing k q w = record { canons = items_canons k w.canons; is_value = All w.is_value; proper = items_proper k q w }

flat_canons : {T : Type 0} (canons : T → List Term) (canon : T → Term) → ((v : T) → canons v ≡ canon v ∷ []) → (vs : List T)
    → flat_map canons vs ≡ map canon vs
flat_canons canons canon e [] = refl
flat_canons canons canon e (v ∷ vs) =
    flat_map-cons canons v vs ∙ ap (λ ts. ts ++ flat_map canons vs) (e v) ∙ ap (λ ts. canon v ∷ ts) (flat_canons canons canon e vs)

pub items_agreement : {T : Type 0} {u : TermType T} {w : Writing T} (k : Container) (q : IsListOrArray k) (f : Faults) → Agreement u w
    → Agreement (items_type u k q f) (items_writing k q w)
items_agreement {u = u} {w = w} k q f a = record {
  canons_is = λ vs. ap (λ ts. container k (terms_of ts) ∷ []) (flat_canons w.canons u.canon a.canons_is vs);
  value_to = λ vs. All-weaker w.is_value u.is_value a.value_to vs;
  value_from = λ vs. All-weaker u.is_value w.is_value a.value_from vs;
}
