-- What stands at a place stands there in one way.
use Rattle.std.proofs.Common.{◌≡◌, ◌≤◌, ℕ, Option, Some, None, List, [], ◌∷◌, ◌++◌, length, drop, get_or, refl, sym, ap, ap₂, ◌∙◌, subst}
use Rattle.std.proofs.Common.{arith}
use Rattle.amqp_model.specs.Term.{Term, Descriptor}
use Rattle.amqp_model.specs.Standing.{Standing}
use Rattle.amqp_model.proofs.Unique.{fronts, data_same}
use Rattle.amqp_decoder.specs.declared.frame.Place.{Place}
use Rattle.amqp_decoder.specs.State.{State, after_value, weight_at}
use Rattle.amqp_decoder.specs.Containers.{Closes}
use Rattle.amqp_decoder.specs.Primitives.{standing, SpellsAs, Stands, ReadsValue}
use Rattle.amqp_decoder.specs.Items.{Next, Row}

spelled_same : (o : Option (List Descriptor × ℕ)) (s s' x y : List ℕ) (t t' : Term) → SpellsAs (standing o s) t
    → SpellsAs (standing o s') t' → s ++ x ≡ s' ++ y → (s ≡ s') × (t ≡ t')
spelled_same None s s' x y t t' h h' e = fronts s s' x y t t' h h' e
spelled_same (Some (ds, c)) s s' x y t t' h h' e = data_same t t' ds c s s' x y h h' e

pub stands_same : (st : State) (s s' : List ℕ) (t t' : Term) → Stands st s t → Stands st s' t' → (s ≡ s') × (t ≡ t')
stands_same st s s' t t' k k' = spelled_same st.top.shared s s' k.after k'.after t t' k.spelled k'.spelled (sym k.rest ∙ k'.rest)

pub next_same : (st a b : State) (t t' : Term) → Next st t a → Next st t' b → (t ≡ t') × (a ≡ b)
next_same st a b t t' h h' =
    let e = stands_same st h.bytes h'.bytes t t' h.stands h'.stands in (
      e.1,
      h.moved ∙ ap (λ s. after_value (length s) (weight_at st t) st) e.0 ∙ ap (λ x. after_value (length h'.bytes) (weight_at st x) st) e.1 ∙ sym h'.moved,
    )

-- the values that are read at one state are meant by one term, and leave one state
pub value_same : {A : Type 0} (means : Standing → Term → A → Type 0) (st a b : State) (v w : A) → ReadsValue means st v a
    → ReadsValue means st w b → (s : Standing) × (t : Term) × means s t v × means s t w × (a ≡ b)
value_same means st a b v w h h' =
    let e = stands_same st h.bytes h'.bytes h.term h'.term h.stands h'.stands in (
      standing st.top.shared h.bytes,
      h.term,
      h.meant,
      subst (λ s. means (standing st.top.shared s) h.term w) (sym e.0)
          (subst (λ t. means (standing st.top.shared h'.bytes) t w) (sym e.1) h'.meant),
      h.moved ∙ ap (λ s. after_value (length s) (weight_at st h.term) st) e.0 ∙ ap (λ x. after_value (length h'.bytes) (weight_at st x) st) e.1
          ∙ sym h'.moved,
    )

-- what was taken in a row is the front of a longer row
pub row_front : (ts us : List Term) (st m z : State) (b c : List ℕ) → Row st ts b m → Row st us c z → length ts ≤ length us
    → (others : List Term) × (d : List ℕ) × (us ≡ ts ++ others) × Row m others d z
row_front [] us st m z b c (e, f) row h = (us, c, refl, subst (λ x. Row x us c z) (sym f) row)
row_front (t ∷ ts) [] st m z b c r row h = absurd (omega arith)
row_front (t ∷ ts) (u ∷ us) st m z b c (s, o, e, k, r) (s', o', e', k', r') h =
    let same = stands_same st s s' t u k k' in
    let i = row_front ts us (after_value (length s) (weight_at st t) st) m z o o' r
    (subst (λ x. Row (after_value (length s) (weight_at st x) st) us o' z) (sym same.1)
    (subst (λ x. Row (after_value (length x) (weight_at st u) st) us o' z) (sym same.0) r')) (omega arith) in
    (i.0, i.1, ap₂ (λ (x : Term) (xs : List Term). x ∷ xs) (sym same.1) i.2, i.3)

pub closes_same : (p : Place) (st a b : State) → Closes p st a → Closes p st b → a ≡ b
closes_same p st a b x y =
    let e : x.outer ∷ x.others ≡ y.outer ∷ y.others = sym x.saved ∙ y.saved in
    x.moved ∙ ap (λ o. record st { top = o; saved = x.others }) (ap (λ l. get_or l 0 x.outer) e)
    ∙ ap (λ l. record st { top = y.outer; saved = l }) (ap (drop 1) e) ∙ sym y.moved
