-- The reading of a type of terms: one term that means the value.
use Rattle.std.proofs.Common.{◌≡◌, Bool, true, false, refl, sym, ap, ap₂, ◌∙◌, subst, arith}
use Rattle.amqp_decoder.specs.State.{Source, State}
use Rattle.amqp_decoder.specs.OtherSource.{Setting, another, under, elsewhere}
use Rattle.amqp_decoder.specs.laws.OtherSource.{freed_kept, unlifted, keeps_another, value}
use Rattle.amqp_decoder.specs.Primitives.{ReadsValue}
use Rattle.amqp_codec.specs.TermType.{TermType}
use Rattle.amqp_codec.specs.Reading.{Reading, apart}
use Rattle.amqp_codec.specs.laws.Reading.{value_counted, value_taken, value_stays, value_looked, value_alike, term_unspelled}

pub another_is : (source : Source) (failed : Bool) (st : State) → under (another source failed) st ≡ elsewhere source failed st
another_is source failed st =
    ap₂ (λ q fs. record (elsewhere source failed st) { quota = q; saved = fs }) (freed_kept st.quota) (unlifted st.saved)

-- Whether one term is read alone.
abbrev pub lonely : Bool → State → Setting
lonely alone st =
    record { source = st.source; deepen = λ n. n; grows = λ n. omega arith; free = false; lift = false; course = λ f. record f { alone = alone } }

pub lonely_is : (alone : Bool) (st b : State) → b.source ≡ st.source → under (lonely alone st) b ≡ apart alone b
lonely_is alone st b source =
    ap (λ s. record (under (lonely alone st) b) { source = s }) (sym source)
    ∙ ap₂ (λ q fs. record (apart alone b) { quota = q; saved = fs }) (freed_kept b.quota) (unlifted b.saved)

-- The reading of a type of terms.
abbrev pub reading_of : {T : Type 0} → TermType T → Reading T
reading_of u = record {
  same = u.same;
  reads = ReadsValue u.means;
  fault = u.faults.fault;
  not_outside = u.faults.not_outside;
  takes_memory = u.takes_memory;
  count = u.count;
  same_sym = u.sameness.sym;
  same_trans = u.sameness.trans;
  one = value_alike u.same u.means u.sameness.one;
  going = λ st v b h. h.stands.going;
  counted = value_counted u;
  looks_on = false;
  one_term = true;
  misspelled = λ _. term_unspelled u;
  within = u.faults.within;
  taken = value_taken u.means;
  stays = value_stays u.means;
  looked = value_looked u.means;
  reads_elsewhere = λ source failed st v b h. subst (λ x. ReadsValue u.means x v (elsewhere source failed b)) (another_is source failed st)
      (subst (ReadsValue u.means (under (another source failed) st) v) (another_is source failed b)
      (value (another source failed) u.means h));
  fault_elsewhere = λ source failed st e h. subst (λ x. u.faults.fault x e) (another_is source failed st)
      (u.faults.fault_elsewhere (another source failed) st e (keeps_another source failed e.error) h);
  reads_alone = λ _ alone st v b h. (let k = value_stays u.means st v b h in
      subst (λ x. ReadsValue u.means x v (apart alone b)) (lonely_is alone st st refl)
      (subst (ReadsValue u.means (under (lonely alone st) st) v) (lonely_is alone st b k.source)
      (value (lonely alone st) u.means h)));
  fault_alone = λ _ alone st e h. subst (λ x. u.faults.fault x e) (lonely_is alone st st refl)
      (u.faults.fault_elsewhere (lonely alone st) st e (λ deep. (λ n. refl, refl, refl)) h);
}
