-- The items of a list or an array are read one after another: what each exit of the readers answers.
use Rattle.std.proofs.Common.{◌≡◌, inl, ℕ, ◌<◌, Bool, true, false, cond, List, [], ◌∷◌, ◌++◌, length, Some, None, Result, Ok, Err, refl, sym}
use Rattle.std.proofs.Common.{◌∙◌, subst, arith}
use Rattle.std.specs.Result.{is_ok, is_err}
use Rattle.amqp_model.specs.Standing.{Standing}
use Rattle.amqp_model.specs.Term.{Term}
use Rattle.amqp_model.specs.laws.Item.{clash}
use Rattle.amqp_wire.specs.declared.error.Error.{Error}
use Rattle.amqp_wire.specs.declared.error.Error.TheVariants.{Memory}
use Rattle.amqp_decoder.specs.State.{State}
use Rattle.amqp_decoder.specs.Steps.{RefusesBy}
use Rattle.amqp_decoder.specs.Primitives.{ReadsValue}
use Rattle.amqp_decoder.specs.Containers.{place_of, Closes, CloseFault}
use Rattle.amqp_decoder.proofs.Steps.{answered_later, first_kept}
use Rattle.amqp_decoder.specs.Places.{Located, Here, RefusesAt}
use Rattle.amqp_codec.specs.TermType.{TermType}
use Rattle.amqp_codec.specs.laws.Refusal.{refused_first, refused_later, unreserved}
use Rattle.amqp_codec.specs.Each.{MeansItems}
use Rattle.amqp_codec.specs.ItemsReading.{ReadsEach, ReadsRow, RowFault, Opening, ItemsRead, ItemsFault, unopened, at_item, unclosed}
use Rattle.amqp_codec.specs.laws.ItemsReading.{each_next, each_end, each_still, items_value, value_items}

-- a push that isn't refused
pub pushed : {A B E : Type 0} (r : Result A E) (t : Bool) (xs ys zs : List B) → t ≡ false → t ≡ is_err r → xs ≡ cond (is_ok r) ys zs
    → xs ≡ ys
pushed (Ok v) t xs ys zs f e h = h
pushed (Err e) t xs ys zs f g h = absurd (clash g f)

-- so many values, which stand in a value as `to` says
module _ {T V : Type 0} (n : ℕ) (means : Standing → Term → T → Type 0) (fault : State → Located → Type 0) (to : V → List T) where
  abbrev row : State → V → State → Type 0
  row st v b = ReadsRow n means st (to v) b

  abbrev row_fault : State → Located → Type 0
  row_fault = RowFault n means fault

  none_behind : (st mid : State) (vs : List T) → length vs < n → ReadsEach (ReadsValue means) st vs mid
      → ((v : T) (b : State) → ReadsValue means mid v b → ⊥) → (v : V) (b : State) → row st v b → ⊥
  none_behind st mid vs l h none v b k =
      let y = each_next means st mid b vs (to v) h k.each (omega (arith, l, k.long)) in none y.0 y.1 y.2

  pub value_refused : {takes : Bool} (st : State) (vs : List T) (mid : State) (e : Error) (new : State) → length vs < n
      → ReadsEach (ReadsValue means) st vs mid → RefusesAt takes (ReadsValue means) fault mid e new
      → RefusesAt true row row_fault st e new
  value_refused {takes} st [] mid e new l h r =
      refused_first (ReadsValue means) fault row row_fault st e new (λ _. refl)
      (λ _ f. record { before = []; mid = st; each = refl; fewer = l; named = f })
      (none_behind st st [] l refl) (subst (λ x. RefusesAt takes (ReadsValue means) fault x e new) h r)
  value_refused st (v ∷ vs) mid e new l h r =
      let still = each_still means st (v ∷ vs) mid h in
      refused_later (ReadsValue means) fault row row_fault st mid e new (λ _. refl) still.1 h.1.stands.going (still.0 ∙ h.1.stands.going)
      (λ _ f. record { before = v ∷ vs; mid = mid; each = h; fewer = l; named = f })
      (none_behind st mid (v ∷ vs) l h) r

  first_going : (st : State) (vs : List T) (mid : State) → 0 < length vs → ReadsEach (ReadsValue means) st vs mid → st.error ≡ None
  first_going st [] mid some h = absurd (omega (arith, some))
  first_going st (v ∷ vs) mid some h = h.1.stands.going

  one_going : (st : State) (vs : List T) (v : T) (mid : State) → ReadsEach (ReadsValue means) st (vs ++ v ∷ []) mid → st.error ≡ None
  one_going st [] v mid h = h.1.stands.going
  one_going st (w ∷ ws) v mid h = h.1.stands.going

  -- memory for the values was wanted before the first
  pub none_reserved : (st : State) (e : Error) (new : State) → 0 < n → RefusesBy Memory st e new
      → ((d : Error) → st.error ≡ Some d → (e ≡ d) × (new ≡ st)) → RefusesAt true row row_fault st e new
  none_reserved st e new some refused again =
      unreserved row row_fault st e new (λ v b r. first_going st (to v) b (omega (arith, some, r.long)) r.each) refused again

  -- memory for a value was wanted
  pub no_room : (st : State) (vs : List T) (v : T) (mid : State) (e : Error) (new : State) → RefusesBy Memory mid e new
      → ReadsEach (ReadsValue means) st (vs ++ v ∷ []) mid → RefusesAt true row row_fault st e new
  no_room st vs v mid e new refused h =
      let was = one_going st vs v mid h in
      let still = each_still means st (vs ++ v ∷ []) mid h in
      let is = (refused (still.0 ∙ was)).0 in
      record {
        kept = answered_later still.1 (first_kept {st = mid} (still.0 ∙ was) refused);
        again = λ d x. absurd (cc);
        named = λ _. inl (inl (refl, is));
        none = inl (inl (refl, is));
      }

-- a list or an array, whose items stand in a value as `to` says
module _ {T V : Type 0} (o : Opening) (u : TermType T) (to : V → List T) where
  abbrev MeansSo : Standing → Term → V → Type 0
  MeansSo s t v = MeansItems u.ignores_standing u.means o.kind s t (to v)

  abbrev Fault : State → Located → Type 0
  Fault = ItemsFault o u.means u.faults.fault

  items_in : (st : State) (v : V) (b : State) → o.fits st → ReadsValue MeansSo st v b → ItemsRead o u.means st (to v) b
  items_in st v b fits h =
      value_items o u st (to v) b fits
      (record { bytes = h.bytes; term = h.term; stands = h.stands; moved = h.moved; meant = h.meant })

  pub open_refused : {takes : Bool} (st : State) (e : Error) (new : State) → o.fits st → RefusesAt takes o.opens o.fault st e new
      → RefusesAt true (ReadsValue MeansSo) Fault st e new
  open_refused st e new fits r =
      refused_first o.opens o.fault (ReadsValue MeansSo) Fault st e new (λ _. refl) (λ _. unopened)
      (λ none v b h. (let x = items_in st v b fits h in none x.count x.first x.opened)) r

  -- what else stands there was opened so too
  record Others (n : ℕ) (first : State) (v : V) (b : State) : Type 0 where
    last : State
    others : ReadsRow n u.means first (to v) last
    closed : Closes (place_of o.kind) last b

  others_in : (st : State) (n : ℕ) (first : State) (v : V) (b : State) → o.fits st → o.opens st n first → ReadsValue MeansSo st v b
      → Others n first v b
  others_in st n first v b fits h k =
      let x = items_in st v b fits k in
      let s = o.one st x.count n x.first first x.opened h in
      record {
        last = x.last;
        others = record {
          long = x.row.long ∙ s.0;
          each = subst (λ (z : State). ReadsEach (ReadsValue u.means) z (to v) x.last) s.1 x.row.each;
        };
        closed = x.closed;
      }

  -- the row of its items, which stand in a part of the value
  pub row_refused : {W : Type 0} (of : W → List T) (part : V → W) → ((v : V) → of (part v) ≡ to v) → (st : State) (n : ℕ) (first : State)
      (e : Error) (new : State) → o.fits st → o.opens st n first
      → RefusesAt true (λ st w b. ReadsRow n u.means st (of w) b) (RowFault n u.means u.faults.fault) first e new
      → RefusesAt true (ReadsValue MeansSo) Fault st e new
  row_refused of part same st n first e new fits h r =
      refused_later (λ st w b. ReadsRow n u.means st (of w) b) (RowFault n u.means u.faults.fault) (ReadsValue MeansSo) Fault st first e new
      (λ t. t) (o.sound st n first h) (o.was_going st n first h) (o.going st n first h) (λ _. at_item h)
      (λ none v b k.
      (let x = others_in st n first v b fits h k in
      none (part v) x.last (subst (λ vs. ReadsRow n u.means first vs x.last) (sym (same v)) x.others))) r

  pub end_refused : {takes : Bool} (st : State) (n : ℕ) (first : State) (v : V) (last : State) (e : Error) (new : State) → o.fits st
      → o.opens st n first → ReadsRow n u.means first (to v) last
      → RefusesAt takes (λ st (_ : Unit {0}) b. Closes (place_of o.kind) st b) (Here (CloseFault (place_of o.kind))) last e new
      → RefusesAt true (ReadsValue MeansSo) Fault st e new
  end_refused st n first v last e new fits h k r =
      let still = each_still u.means first (to v) last k.each in
      refused_later (λ st (_ : Unit {0}) b. Closes (place_of o.kind) st b) (Here (CloseFault (place_of o.kind))) (ReadsValue MeansSo) Fault
      st last e new (λ _. refl) (still.1 ∙ o.sound st n first h) (o.was_going st n first h) (still.0 ∙ o.going st n first h)
      (λ _. unclosed h k)
      (λ none w b z.
      (let x = others_in st n first w b fits h z in
      none tt b (subst (λ (y : State). Closes (place_of o.kind) y b)
      (each_end u.means first last x.last (to v) (to w) k.each x.others.each (k.long ∙ sym x.others.long)) x.closed))) r

  pub all_read : (st : State) (n : ℕ) (first : State) (v : V) (last b : State) → o.opens st n first → ReadsRow n u.means first (to v) last
      → Closes (place_of o.kind) last b → ReadsValue MeansSo st v b
  all_read st n first v last b h k c =
      let x = items_value o u st (to v) b (record { count = n; first = first; opened = h; last = last; row = k; closed = c }) in
      record { bytes = x.bytes; term = x.term; stands = x.stands; moved = x.moved; meant = x.meant }
