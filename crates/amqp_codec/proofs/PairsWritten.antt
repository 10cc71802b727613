-- The pairs of a map are written one after another, and are of their types.
use Rattle.std.proofs.Common.{◌≡◌, List, [], ◌∷◌, ◌++◌, refl, sym, ap, ◌∙◌, subst, append_assoc}
use Rattle.std.specs.Prelude.{Result, Ok, Err}
use Rattle.std.proofs.lemmas.List.{append-nil}
use Rattle.amqp_wire.specs.declared.error.Error.{Error}
use Rattle.amqp_encoder.specs.State.{Encoder}
use Rattle.amqp_codec.specs.Pairs.{OfPairs}
use Rattle.amqp_codec.specs.Written.{WritesTerms, Writing, IsOneTerm, canon_of}
use Rattle.amqp_codec.specs.MapWriting.{turn_terms}
use Rattle.amqp_codec.proofs.Joining.{terms_join, terms_cut}

-- of the pairs, all but the rest
abbrev pub UpTo : {A : Type 0} → (List A → Type 0) → List A → List A → Type 0
UpTo {A} P all rest = (done : List A) × (all ≡ done ++ rest) × P done

one_further : {A : Type 0} (P : List A → Type 0) (all rest left : List A) (x : A) → ((done : List A) → P done → P (done ++ x ∷ []))
    → rest ≡ x ∷ left → UpTo P all rest → UpTo P all left
one_further P all rest left x f e (done, is, h) =
    (done ++ x ∷ [], is ∙ ap (λ ys. done ++ ys) e ∙ sym (append_assoc done (x ∷ []) left), f done h)

at_end : {A : Type 0} (P : List A → Type 0) (all rest : List A) → rest ≡ [] → UpTo P all rest → P all
at_end P all rest e (done, is, h) = subst P (sym (is ∙ ap (λ ys. done ++ ys) e ∙ append-nil done)) h

module _ {K V : Type 0} (key : Writing K) (value : Writing V) where
  module _ (k : K) (v : V) (one : IsOneTerm key) (other : IsOneTerm value) where
    pub value_written : (a b c : Encoder) (q r : Result (Unit {0}) Error) → q ≡ Ok tt → WritesTerms (key.canons k) a q b
        → WritesTerms (value.canons v) b r c → WritesTerms (canon_of key k ∷ canon_of value v ∷ []) a r c
    value_written a b c q r o w z =
        terms_join (canon_of key k ∷ []) (canon_of value v ∷ []) a b c q r o (subst (λ ts. WritesTerms ts a q b) (one k) w)
        (subst (λ ts. WritesTerms ts b r c) (other v) z)

    pub key_refused : (a b : Encoder) (q r : Result (Unit {0}) Error) (e : Error) → q ≡ Err e → (y : Error) × (r ≡ Err y) × (y ≡ e)
        → WritesTerms (key.canons k) a q b → WritesTerms (canon_of key k ∷ canon_of value v ∷ []) a r b
    key_refused a b q r e o p w =
        terms_cut (canon_of key k ∷ []) (canon_of value v ∷ []) a b q r e o p (subst (λ ts. WritesTerms ts a q b) (one k) w)

  -- The pairs but the rest were written.
  abbrev pub WrittenUpTo : List (K × V) → List (K × V) → Encoder → Encoder → Type 0
  WrittenUpTo all rest a b = UpTo (λ ps. WritesTerms (turn_terms key value ps) a (Ok tt) b) all rest

  joined : (ps qs : List (K × V)) → turn_terms key value (ps ++ qs) ≡ turn_terms key value ps ++ turn_terms key value qs
  joined [] qs = refl
  joined (p ∷ ps) qs = ap (λ ts. canon_of key p.0 ∷ canon_of value p.1 ∷ ts) (joined ps qs)

  pub none_written : (all rest : List (K × V)) (a : Encoder) → rest ≡ all → WritesTerms [] a (Ok tt) a → WrittenUpTo all rest a a
  none_written all rest a e w = ([], sym e, w)

  pub pair_written : (all rest left : List (K × V)) (p : K × V) (a b c : Encoder) (q : Result (Unit {0}) Error) → rest ≡ p ∷ left
      → q ≡ Ok tt → WrittenUpTo all rest a b → WritesTerms (canon_of key p.0 ∷ canon_of value p.1 ∷ []) b q c
      → WrittenUpTo all left a c
  pair_written all rest left p a b c q e o (done, is, w) z = (
    done ++ p ∷ [],
    is ∙ ap (λ ys. done ++ ys) e ∙ sym (append_assoc done (p ∷ []) left),
    subst (λ ts. WritesTerms ts a (Ok tt) c) (sym (joined done (p ∷ [])))
        (terms_join (turn_terms key value done) (turn_terms key value (p ∷ [])) a b c (Ok tt) (Ok tt) refl w
        (subst (λ r. WritesTerms (turn_terms key value (p ∷ [])) b r c) o z)),
  )

  pub pair_refused : (all rest left : List (K × V)) (p : K × V) (a b c : Encoder) (q r : Result (Unit {0}) Error) (e : Error)
      → rest ≡ p ∷ left → q ≡ Err e → (y : Error) × (r ≡ Err y) × (y ≡ e) → WrittenUpTo all rest a b
      → WritesTerms (canon_of key p.0 ∷ canon_of value p.1 ∷ []) b q c → WritesTerms (turn_terms key value all) a r c
  pair_refused all rest left p a b c q r e f o y (done, is, w) z =
      let front = turn_terms key value done ++ turn_terms key value (p ∷ []) in
      let whole : all ≡ (done ++ p ∷ []) ++ left = is ∙ ap (λ ys. done ++ ys) f ∙ sym (append_assoc done (p ∷ []) left) in
      let terms : turn_terms key value all ≡ front ++ turn_terms key value left =
      ap (turn_terms key value) whole ∙ joined (done ++ p ∷ []) left ∙ ap (λ ts. ts ++ turn_terms key value left) (joined done (p ∷ [])) in
      subst (λ ts. WritesTerms ts a r c) (sym terms)
      (terms_cut front (turn_terms key value left) a c q r e o y
      (terms_join (turn_terms key value done) (turn_terms key value (p ∷ [])) a b c (Ok tt) q refl w z))

  pub all_pairs_written : (all rest : List (K × V)) (a b : Encoder) → rest ≡ [] → WrittenUpTo all rest a b
      → WritesTerms (turn_terms key value all) a (Ok tt) b
  all_pairs_written all rest a b e h = at_end (λ ps. WritesTerms (turn_terms key value ps) a (Ok tt) b) all rest e h

-- The pairs but the rest are of their types.
abbrev pub OfPairsUpTo : {K V : Type 0} → (K → Type 0) → (V → Type 0) → List (K × V) → List (K × V) → Type 0
OfPairsUpTo key value all rest = UpTo (OfPairs key value) all rest

module _ {K V : Type 0} (key : K → Type 0) (value : V → Type 0) where
  and_one : (p : K × V) → key p.0 → value p.1 → (ps : List (K × V)) → OfPairs key value ps → OfPairs key value (ps ++ p ∷ [])
  and_one p i j [] h = (i, j, tt)
  and_one p i j (q ∷ ps) h = (h.0, h.1, and_one p i j ps h.2)

  pub none_of_types : (all rest : List (K × V)) → rest ≡ all → OfPairsUpTo key value all rest
  none_of_types all rest e = ([], sym e, tt)

  pub pair_of_types : (all rest left : List (K × V)) (p : K × V) → rest ≡ p ∷ left → OfPairsUpTo key value all rest → key p.0 → value p.1
      → OfPairsUpTo key value all left
  pair_of_types all rest left p e h i j = one_further (OfPairs key value) all rest left p (and_one p i j) e h

  pub all_of_types : (all rest : List (K × V)) → rest ≡ [] → OfPairsUpTo key value all rest → OfPairs key value all
  all_of_types = at_end (OfPairs key value)
