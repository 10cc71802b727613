-- The fields of a composite are read one after another.
use Rattle.std.proofs.Common.{◌≡◌, inl, inr, ℕ, zero, suc, ◌<◌, ◌≤◌, Bool, true, false, List, [], ◌∷◌, ◌++◌, length, get_or, None, Result}
use Rattle.std.proofs.Common.{Ok, Err, IfOk, IfErr, refl, sym, ap, ◌∙◌, subst, arith, length-append, Some}
use Rattle.amqp_model.specs.Term.{null, list, Term, leaf, count}
use Rattle.amqp_model.specs.Items.{is_null, terms_of}
use Rattle.amqp_model.specs.laws.Item.{clash, items_of-terms_of}
use Rattle.amqp_model.specs.Slot.{is_required}
use Rattle.amqp_model.specs.Fields.{Fits, rules_of}
use Rattle.amqp_model.specs.declared.tables.FieldRule.{FieldRule}
use Rattle.amqp_model.specs.declared.tables.FieldRule.TheVariants.{Mandatory}
use Rattle.amqp_wire.specs.declared.error.Error.{Error}
use Rattle.amqp_decoder.specs.declared.frame.Place.TheVariants.{InList}
use Rattle.amqp_decoder.specs.State.{State, after_value, weight_at}
use Rattle.amqp_decoder.specs.Items.{Row}
use Rattle.amqp_decoder.proofs.ContainerTerms.{Together, together, used_up, row_joined, row_of_one}
use Rattle.amqp_decoder.proofs.OneReading.{stands_same, row_front}
use Rattle.amqp_decoder.proofs.Opening.{opens_same}
use Rattle.amqp_decoder.proofs.Peeks.{value-peeked}
use Rattle.amqp_decoder.specs.Reading.{BeginFault, PeeksCode}
use Rattle.amqp_decoder.specs.Primitives.{standing, ReadsValue, Means}
use Rattle.amqp_decoder.specs.Containers.{Opens, OpenFault, Closes, CloseFault}
use Rattle.amqp_decoder.proofs.Steps.{answered_later, first_kept}
use Rattle.amqp_decoder.specs.Steps.{RefusesBy}
use Rattle.amqp_decoder.specs.Places.{Here, RefusesAt, AnswersAt, StandsHere, StandsBefore}
use Rattle.amqp_decoder.proofs.Places.{before_later}
use Rattle.amqp_encoder.proofs.Refused.{count_of}
use Rattle.amqp_codec.specs.Fields.{Fields, slots, take_memory}
use Rattle.amqp_codec.specs.FieldReading.{absence, MeansAt, FaultAt, FitsFront, KeepsBut, FitsAt, ItemRead, ItemFault, no_item, null_item}
use Rattle.amqp_codec.specs.FieldReading.{in_item, FieldsSoFar, FieldsRead, FieldsFault, FillsField, ReadsItem, no_list, at_item, left_out}
use Rattle.amqp_codec.specs.FieldReading.{not_ended, rule_at, IsBlank, TakesNull, FillsAll}
use Rattle.amqp_codec.specs.laws.FieldReading.{not_absent, absent, filled_at, unfilled_at, front_null, front_filled, front_missing, front_end}
use Rattle.amqp_codec.specs.laws.FieldReading.{front_start, fits_value, fits_null, fits_few}
use Rattle.amqp_codec.specs.laws.Refusal.{no_memory, opened_going, opened_sound, refused_first, refused_later, value_going}
use Rattle.amqp_codec.specs.laws.Peek.{peeked_failed, peeked_going, not_null}
use Rattle.amqp_codec.proofs.NullSteps.{value_untaken}

the_item : (ts us : List Term) (t : Term) (rest : List Term) (n : ℕ) → length ts ≡ n → us ≡ ts ++ t ∷ rest → get_or us n (leaf null) ≡ t
the_item [] us t rest n e f = ap (λ l. get_or l n (leaf null)) f ∙ ap (λ k. get_or (t ∷ rest) k (leaf null)) (sym e)
the_item (x ∷ ts) us t rest n e f = ap (λ l. get_or l n (leaf null)) f ∙ ap (λ k. get_or (x ∷ (ts ++ t ∷ rest)) k (leaf null)) (sym e)
    ∙ the_item ts (ts ++ t ∷ rest) t rest (length ts) refl refl

past_end : (us : List Term) (n : ℕ) → length us ≤ n → get_or us n (leaf null) ≡ leaf null
past_end [] n l = refl
past_end (u ∷ us) zero l = absurd (omega arith)
past_end (u ∷ us) (suc n) l = past_end us n (omega arith)

-- what the items that were taken are together
row_together : (st : State) (ts : List Term) (s : List ℕ) (b : State) → Row st ts s b → Together st (terms_of ts) s b
row_together st ts s b h = together (terms_of ts) st s b (subst (λ us. Row st us s b) (sym (items_of-terms_of ts)) h)

-- a list that is closed had as many items as were taken
all_taken : (st first mid b : State) (n : ℕ) (ts : List Term) (s : List ℕ) → Opens list st n first → Row first ts s mid
    → Closes InList mid b → length ts ≡ n
all_taken st first mid b n ts s o h c =
    let t = row_together first ts s mid h in
    sym (used_up first.top.items n (count (terms_of ts)) (ap (λ (x : State). x.top.items) o.data_.entered) t.items
    (sym (ap (λ (x : State). x.top.items) t.moved) ∙ c.items) ∙ count_of ts)

module _ {V : Type 0} (fs : Fields V) where
  so_far_failed : (st : State) (n i : ℕ) (v : V) (mid : State) → FieldsSoFar fs st n i v mid → mid.failed ≡ st.failed
  so_far_failed st n i v mid h = ap (λ (x : State). x.failed) (row_together h.first h.terms h.bytes mid h.each).moved ∙ opened_sound h.opens

  pub so_far_going : (st : State) (n i : ℕ) (v : V) (mid : State) → FieldsSoFar fs st n i v mid → st.error ≡ None
  so_far_going st n i v mid h = h.opens.begun.going

  pub so_far_still : (st : State) (n i : ℕ) (v : V) (mid : State) → FieldsSoFar fs st n i v mid → mid.error ≡ None
  so_far_still st n i v mid h = ap (λ (x : State). x.error) (row_together h.first h.terms h.bytes mid h.each).moved ∙ opened_going h.opens

  -- an item was read
  pub one_more : (st : State) (n i : ℕ) (v w : V) (mid b : State) → i < n → i < length (rules_of (slots fs)) → FieldsSoFar fs st n i v mid
      → ItemRead fs i v w mid b → FieldsSoFar fs st n (suc i) w b
  one_more st n i v w mid b l k h r =
      let long : length h.terms ≡ i = h.long ∙ omega (arith, l) in
      record {
        first = h.first;
        opens = h.opens;
        terms = h.terms ++ r.term ∷ [];
        bytes = h.bytes ++ r.bytes;
        each = row_joined h.terms (r.term ∷ []) h.first mid b h.bytes r.bytes h.each
            (row_of_one r.term mid b (record { bytes = r.bytes; stands = r.stands; moved = r.moved }));
        long = length-append h.terms (r.term ∷ []) ∙ omega (arith, long, l);
        front = elim r.fits [
          | inl x ↦ subst (FitsFront fs (suc i) (h.terms ++ r.term ∷ [])) (sym x.2)
              (subst (λ t. FitsFront fs (suc i) (h.terms ++ t ∷ []) v) (sym x.0) (front_null fs i h.terms v Mandatory k long x.1 h.front))
          | inr x ↦ front_filled fs i h.terms v w (standing mid.top.shared r.bytes) r.term long x.0 x.1 h.front
        ];
      }

  -- an item is left out
  pub one_less : (st : State) (n i : ℕ) (v : V) (mid : State) → n ≤ i → i < length (rules_of (slots fs))
      → is_required (rule_at fs i) ≡ false → FieldsSoFar fs st n i v mid → FieldsSoFar fs st n (suc i) v mid
  one_less st n i v mid l k r h = record {
    first = h.first;
    opens = h.opens;
    terms = h.terms;
    bytes = h.bytes;
    each = h.each;
    long = h.long ∙ omega (arith, l);
    front = front_missing fs i h.terms v Mandatory k (omega (arith, h.long, l)) r h.front;
  }

  -- all that were read so far are the front of any value that stands there
  record Further (n i : ℕ) (terms : List Term) (mid : State) (ts : List Term) : Type 0 where
    last : State
    b : State
    count : length ts ≡ n
    others : List Term
    bytes : List ℕ
    each : Row mid others bytes last
    front : ts ≡ terms ++ others
    closes : Closes InList last b

  further : (st : State) (n i : ℕ) (v w : V) (mid b : State) → (h : FieldsSoFar fs st n i v mid) → (k : FieldsRead fs st w b)
      → Further n i h.terms mid k.terms
  further st n i v w mid b h k =
      let c = k.stand in
      let o = opens_same list st c.count n c.mid h.first c.opened h.opens in
      let long : length k.terms ≡ n = all_taken st c.mid c.last b c.count k.terms c.bytes c.opened c.items c.closed ∙ o.0 in
      let r = row_front h.terms k.terms h.first mid c.last h.bytes c.bytes h.each
      (subst (λ (x : State). Row x k.terms c.bytes c.last) o.1 c.items) (omega (arith, h.long, long)) in
      record { last = c.last; b = b; count = long; others = r.0; bytes = r.1; each = r.3; front = r.2; closes = c.closed }

  next_fits : (i : ℕ) (terms ts rest : List Term) (mid last : State) (z : List ℕ) (w : V) → length terms ≡ i → i < length ts
      → i < length (rules_of (slots fs)) → Row mid rest z last → ts ≡ terms ++ rest → Fits (slots fs) ts w
      → (b : State) × ReadsValue (FitsAt fs i) mid w b
  next_fits i terms ts [] mid last z w e l k r f m = absurd (omega (arith, ap length f, length-append terms [], e, l))
  next_fits i terms ts (t ∷ rest) mid last z w e l k (s, others, j, h, hs) f m =
      let at : get_or ts i (leaf null) ≡ t = the_item terms ts t rest i e f in
      (after_value (length s) (weight_at mid t) mid, record { bytes = s; term = t; stands = h; moved = refl; meant = by_null (is_null t) refl at })
    where
      at_required : (r : Bool) → is_required (rule_at fs i) ≡ r → is_null (get_or ts i (leaf null)) ≡ true
          → is_required (rule_at fs i) ≡ false
      at_required false x z = x
      at_required true x z = absurd (fits_null fs i ts w Mandatory m k x z)

      by_null : (z : Bool) → is_null t ≡ z → get_or ts i (leaf null) ≡ t → FitsAt fs i (standing mid.top.shared s) t w
      by_null true z at = inl (z, at_required (is_required (rule_at fs i)) refl (ap is_null at ∙ z))
      by_null false z at =
          inr (
            z,
            subst (λ x. MeansAt fs i (standing mid.top.shared s) x w) at
                (fits_value fs i ts w (standing mid.top.shared s) m l (ap is_null at ∙ z)),
          )

  -- an item couldn't be read
  pub item_refused : (st : State) (n i : ℕ) (v : V) (mid : State) (e : Error) (new : State) → i < n → i < length (rules_of (slots fs))
      → mid.error ≡ None → FieldsSoFar fs st n i v mid → RefusesAt (take_memory fs) (ReadsValue (FitsAt fs i)) (ItemFault fs i) mid e new
      → RefusesAt (take_memory fs) (FieldsRead fs) (FieldsFault fs) st e new
  item_refused st n i v mid e new l k going h r =
      refused_later (ReadsValue (FitsAt fs i)) (ItemFault fs i) (FieldsRead fs) (FieldsFault fs) st mid e new (λ t. t)
      (so_far_failed st n i v mid h) (so_far_going st n i v mid h) going
      (λ _. at_item h l k)
      (λ none w b q.
      let g = further st n i v w mid b h q in
      let x = next_fits i h.terms q.terms g.others mid g.last g.bytes w (h.long ∙ omega (arith, l)) (omega (arith, g.count, l)) k
      g.each g.front q.fits in
      none w x.0 x.1)
      r

  -- a required item is left out
  pub left_out_refused : (st : State) (n i : ℕ) (v : V) (mid : State) (e : Error) (new : State) → n ≤ i → i < length (rules_of (slots fs))
      → {error : Error} → absence (rule_at fs i) ≡ Some error → RefusesBy error mid e new → StandsHere mid new → FieldsSoFar fs st n i v mid
      → RefusesAt (take_memory fs) (FieldsRead fs) (FieldsFault fs) st e new
  left_out_refused st n i v mid e new l k by refused here h =
      let going = so_far_still st n i v mid h in
      let is = by ∙ ap Some (sym (refused going).0) in
      record {
        kept = answered_later (so_far_failed st n i v mid h) (first_kept {st = mid} going refused);
        again = λ d x. absurd (let y = so_far_going st n i v mid h in cc);
        named = λ _. inr (
          length mid.rest,
          left_out h l k is refl,
          before_later st mid (length mid.rest) new (so_far_failed st n i v mid h) (here going),
        );
        none = inr (λ w b q.
            let g = further st n i v w mid b h q in
            fits_null fs i q.terms w Mandatory q.fits k (absent (rule_at fs i) e is)
            (ap is_null (past_end q.terms i (omega (arith, g.count, l)))));
      }

  nothing_taken : (ts : List Term) (mid last : State) (s : List ℕ) → length ts ≡ 0 → Row mid ts s last → last ≡ mid
  nothing_taken [] mid last s l h = h.1
  nothing_taken (t ∷ ts) mid last s l h = absurd (omega arith)

  -- the list couldn't be closed
  end_refused : (st : State) (n i : ℕ) (v : V) (mid : State) (e : Error) (new : State) → i ≡ length (rules_of (slots fs))
      → mid.error ≡ None → FieldsSoFar fs st n i v mid
      → RefusesAt false (λ st (_ : Unit {0}) b. Closes InList st b) (Here (CloseFault InList)) mid e new
      → RefusesAt (take_memory fs) (FieldsRead fs) (FieldsFault fs) st e new
  end_refused st n i v mid e new all going h r =
      refused_later (λ st (_ : Unit {0}) b. Closes InList st b) (Here (CloseFault InList)) (FieldsRead fs) (FieldsFault fs) st mid e new no_memory
      (so_far_failed st n i v mid h) (so_far_going st n i v mid h) going
      (λ _ f. not_ended (subst (λ k. FieldsSoFar fs st n k v mid) all h) f)
      (λ none w b q.
      let g = further st n i v w mid b h q in
      let few = fits_few fs q.terms w q.fits in
      let same = nothing_taken g.others mid g.last g.bytes
      (omega (arith, h.long, g.count, few, all, ap length g.front, length-append h.terms g.others)) g.each in
      none tt g.b (subst (λ (x : State). Closes InList x g.b) same g.closes))
      r

  -- the list was closed: these are the fields
  all_read : (st : State) (n i : ℕ) (v : V) (mid b : State) → i ≡ length (rules_of (slots fs)) → FieldsSoFar fs st n i v mid
      → Closes InList mid b → FieldsRead fs st v b
  all_read st n i v mid b all h c = record {
    terms = h.terms;
    stand = record { count = n; mid = h.first; opened = h.opens; bytes = h.bytes; last = mid; items = h.each; closed = c };
    fits = front_end fs i h.terms v all (omega (arith, h.long)) h.front;
  }

  -- the list was closed, or couldn't be
  pub all_filled : (st : State) (n i : ℕ) (v : V) (mid : State) (r : Result (Unit {0}) Error) (b : State) → i ≡ length (rules_of (slots fs))
      → FieldsSoFar fs st n i v mid → AnswersAt false (λ st (_ : Unit {0}) b. Closes InList st b) (Here (CloseFault InList)) mid r b
      → FillsAll fs v st r b
  all_filled st n i v mid (Ok u) b all h c = all_read st n i v mid b all h c
  all_filled st n i v mid (Err e) b all h c = end_refused st n i v mid e b all (so_far_still st n i v mid h) h c

  -- the list couldn't be opened
  pub open_refused : (st : State) (e : Error) (new : State) → RefusesAt false (Opens list) (Here (OpenFault list)) st e new
      → RefusesAt (take_memory fs) (FieldsRead fs) (FieldsFault fs) st e new
  open_refused st e new r =
      refused_first (Opens list) (Here (OpenFault list)) (FieldsRead fs) (FieldsFault fs) st e new no_memory (λ _. no_list)
      (λ none w b q. none q.stand.count q.stand.mid q.stand.opened) r

  pub none_so_far : (st : State) (n : ℕ) (v : V) (first : State) → Opens list st n first → IsBlank fs v → FieldsSoFar fs st n 0 v first
  none_so_far st n v first o b =
      record { first = first; opens = o; terms = []; bytes = []; each = (refl, refl); long = omega arith; front = front_start fs [] v b }

-- Steps of one item.
module _ {V : Type 0} (fs : Fields V) (i : ℕ) where
  pub item_unbegun : (st : State) (e : Error) (new : State) → RefusesAt false TakesNull (Here BeginFault) st e new
      → RefusesAt (take_memory fs) (ReadsValue (FitsAt fs i)) (ItemFault fs i) st e new
  item_unbegun st e new r =
      refused_first TakesNull (Here BeginFault) (ReadsValue (FitsAt fs i)) (ItemFault fs i) st e new no_memory (λ _. no_item)
      (value_untaken (FitsAt fs i) st) r

  -- null was taken, and fits
  pub null_read : (v : V) (st b : State) → is_required (rule_at fs i) ≡ false → ReadsValue (Means (λ (_ : Unit {0}). null)) st tt b
      → ItemRead fs i v v st b
  null_read v st b r h = record { bytes = h.bytes; term = h.term; stands = h.stands; moved = h.moved; fits = inl (h.meant, r, refl) }

  -- null was taken, and doesn't fit
  pub null_unfit : (st b : State) (e : Error) (new : State) {error : Error} → absence (rule_at fs i) ≡ Some error → RefusesBy error b e new
      → (b.error ≡ None → StandsBefore (suc (length b.rest)) b new) → ReadsValue (Means (λ (_ : Unit {0}). null)) st tt b
      → RefusesAt (take_memory fs) (ReadsValue (FitsAt fs i)) (ItemFault fs i) st e new
  null_unfit st b e new by refused before h =
      let is = by ∙ ap Some (sym (refused (value_going h)).0) in
      record {
        kept = answered_later (ap (λ (x : State). x.failed) h.moved) (first_kept {st = b} (value_going h) refused);
        again = λ d x. absurd (let going = h.stands.going in cc);
        named = λ _. inr (
          suc (length b.rest),
          null_item h is refl,
          before_later st b (suc (length b.rest)) new (ap (λ (x : State). x.failed) h.moved) (before (value_going h)),
        );
        none = inr (λ w c k.
            let o = stands_same st h.bytes k.bytes h.term k.term h.stands k.stands in
            let z : is_null k.term ≡ true = ap is_null (sym o.1 ∙ h.meant) in
            elim k.meant [ inl x ↦ clash (absent (rule_at fs i) e is) x.1 | inr x ↦ clash z x.0 ]);
      }

  -- null was taken, and fits or not
  pub null_step : (v : V) (st mid : State) (r : Result (Unit {0}) Error) (b : State) (k : FieldRule) → k ≡ rule_at fs i
      → ReadsValue (Means (λ (_ : Unit {0}). null)) st tt mid → IfOk r (λ _. (absence k ≡ None) × (b ≡ mid))
      → IfErr r (λ e. (error : Error) × (absence k ≡ Some error) × RefusesBy error mid e b)
      → IfErr r (λ _. mid.error ≡ None → StandsBefore (suc (length mid.rest)) mid b) → ReadsItem fs i v v st r b
  null_step v st mid (Ok u) b k its h (fits, same) e before =
      subst (ItemRead fs i v v st) (sym same) (null_read v st mid (not_absent _ (ap absence (sym its) ∙ fits)) h)
  null_step v st mid (Err e) b k its h o (error, is, refused) before =
      null_unfit st mid e b (ap absence (sym its) ∙ is) refused before h

  -- the field was filled
  pub value_read : (v w : V) (st mid b : State) (c : ℕ) → PeeksCode st c mid → ReadsValue (MeansAt fs i) mid w b → KeepsBut fs i v w
      → ItemRead fs i v w st b
  value_read v w st mid b c p h k =
      let x = (value-peeked (MeansAt fs i) st mid b c w p).0 h in
      record { bytes = x.bytes; term = x.term; stands = x.stands; moved = x.moved; fits = inr (x.meant, k) }

  -- the field wasn't filled
  pub value_refused : (st mid : State) (c : ℕ) (e : Error) (new : State) → PeeksCode st c mid → (c ≡ 0x40 → ⊥)
      → RefusesAt (take_memory fs) (ReadsValue (MeansAt fs i)) (FaultAt fs i) mid e new
      → RefusesAt (take_memory fs) (ReadsValue (FitsAt fs i)) (ItemFault fs i) st e new
  value_refused st mid c e new p other r =
      let going = peeked_going st c mid p in
      refused_later (ReadsValue (MeansAt fs i)) (FaultAt fs i) (ReadsValue (FitsAt fs i)) (ItemFault fs i) st mid e new (λ t. t)
      (peeked_failed st c mid p) going.0 going.1 (λ _. in_item p other)
      (λ none w b h.
      let n = not_null (FitsAt fs i) st c mid w b p other h in
      elim h.meant [
        | inl x ↦ clash x.0 n
        | inr x ↦ none w b ((value-peeked (MeansAt fs i) st mid b c w p).1
            (record { bytes = h.bytes; term = h.term; stands = h.stands; moved = h.moved; meant = x.1 }))
      ])
      r

  pub filled_step : (v w : V) (st mid : State) (c : ℕ) (r : Result (Unit {0}) Error) (b : State) → i < length (rules_of (slots fs))
      → PeeksCode st c mid → (c ≡ 0x40 → ⊥) → FillsField fs i v w mid r b → ReadsItem fs i v w st r b
  filled_step v w st mid c (Ok u) b k p other h = let x = filled_at fs i v w mid b k h in value_read v w st mid b c p x.0 x.1
  filled_step v w st mid c (Err e) b k p other h = value_refused st mid c e b p other (unfilled_at fs i v w mid e b k h)
