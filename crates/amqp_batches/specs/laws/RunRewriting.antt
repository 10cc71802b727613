-- A run is read again from its canonical text.
use Rattle.std.proofs.Common.{◌≡◌, inl, inr, ℕ, zero, suc, Bool, List, [], ◌∷◌, ◌++◌, length, map, All, refl, sym, ap, ap₂, ◌∙◌, subst}
use Rattle.std.proofs.Common.{arith, append_assoc, length-append}
use Rattle.std.proofs.lemmas.List.{append-nil}
use Rattle.std.proofs.lemmas.List.Concat.{flat_map-cons}
use Rattle.std.proofs.lemmas.List.Elements.{All-head, All-tail, All-nil, All-cons, All-push}
use Rattle.std.specs.List.{AllZip, flat_map}
use Rattle.amqp_model.specs.Term.{Term}
use Rattle.amqp_wire.specs.declared.error.Error.{Error}
use Rattle.amqp_wire.specs.declared.error.Error.TheVariants.{TooLarge}
use Rattle.amqp_lookahead.specs.Sections.{IsSectionAhead}
use Rattle.amqp_encoder.specs.Passes.{row_text}
use Rattle.amqp_decoder.specs.State.{State}
use Rattle.amqp_codec.specs.Written.{AreUnwritable, AreWritable, Writing}
use Rattle.amqp_codec.specs.Reading.{Reading, start, BeginsWith}
use Rattle.amqp_codec.specs.Rewriting.{Rewriting}
use Rattle.amqp_batches.specs.Walk.{Walk, Steps, Walked}
use Rattle.amqp_batches.specs.WalkReading.{walk_reading}
use Rattle.amqp_batches.specs.Runs.{run_walk}
use Rattle.amqp_batches.specs.Sections.{IsSection, begins_as_section}
use Rattle.amqp_batches.specs.laws.Row.{row_text_none, row_text_joined, each_proper, front_writable, back_writable, front_or_back}
use Rattle.amqp_batches.specs.laws.Row.{none_refused}
use Rattle.amqp_batches.specs.Bounds.{IsFresh, IsBoundByLimits}
use Rattle.amqp_batches.specs.laws.Bound.{still_fresh}
use Rattle.amqp_batches.specs.laws.Resuming.{IsUnlimited, fresh_top, start_unlimited, IsRead, is_read_so, IsReadHere, read_here}

-- of a section anything may follow the text, and every value is kept and lasts
abbrev pub SectionRewriting : {T : Type 0} → Reading T → Writing T → (T → T) → Bool → Type 0
SectionRewriting r w again is_least =
    Rewriting r w.canons w.is_value (λ _. Unit {0}) again (λ _. Unit {0}) (λ _. Unit {0}) is_least

module _ {T : Type 0} (c : ℕ) (r : Reading T) (bound : IsBoundByLimits r) (w : Writing T) (s : IsSection c w) {again : T → T}
    {is_least : Bool} (laws : SectionRewriting r w again is_least) where
  abbrev pub canons_all : List T → List Term
  canons_all vs = flat_map w.canons vs

  abbrev texts_of : List T → List ℕ
  texts_of vs = row_text (canons_all vs)

  abbrev walk : Walk (List T) (List T)
  walk = run_walk c r

  text_more : (v : T) (vs : List T) → texts_of (v ∷ vs) ≡ row_text (w.canons v) ++ texts_of vs
  text_more v vs = ap row_text (flat_map-cons w.canons v vs) ∙ row_text_joined (w.canons v) (canons_all vs)

  -- both the first and the others can be written
  record BothWritable (v : T) (vs : List T) : Type 0 where
    value : w.is_value v
    values : All w.is_value vs
    first : AreWritable (w.canons v)
    others : AreWritable (canons_all vs)

  both_writable : (v : T) (vs : List T) → All w.is_value (v ∷ vs) → AreWritable (canons_all (v ∷ vs)) → BothWritable v vs
  both_writable v vs i f =
      let value = All-head w.is_value v vs i in
      let values = All-tail w.is_value v vs i in
      let g = subst AreWritable (flat_map-cons w.canons v vs) f in
      record {
        value = value;
        values = values;
        first = front_writable (w.canons v) (canons_all vs) (each_proper w vs values) g;
        others = back_writable (w.canons v) (canons_all vs) (w.proper v value) g;
      }

  -- The text of a run is read to its end, behind what was read before.
  record RunRead (st : State) (xs vs : List T) (more : List ℕ) : Type 0 where
    number : ℕ
    last : State
    steps : Steps walk number st xs (xs ++ map again vs) last
    left : last.rest ≡ more

  run_read : (st : State) (xs vs : List T) (more : List ℕ) → IsUnlimited st → st.rest ≡ texts_of vs ++ more → All w.is_value vs
      → AreWritable (canons_all vs) → RunRead st xs vs more
  run_read st xs [] more fresh here i f = record {
    number = 0;
    last = st;
    steps = (append-nil xs, refl);
    left = here ∙ ap (λ b. b ++ more) row_text_none;
  }
  run_read st xs (v ∷ vs) more fresh here i f =
      let b = both_writable v vs i f in
      let text = row_text (w.canons v) in
      let next = texts_of vs ++ more in
      let split : st.rest ≡ text ++ next = here ∙ ap (λ b. b ++ more) (text_more v vs) ∙ append_assoc text (texts_of vs) more in
      let one : IsReadHere r st (again v) next =
      read_here r bound st (again v) text next fresh split (laws.reads_again v next b.value tt b.first tt) in
      let ahead = subst (λ z. IsSectionAhead z c) (sym split) (begins_as_section c w s v next) in
      let all = run_read one.last (xs ++ again v ∷ []) vs more one.fresh one.left b.values b.others in
      record {
        number = suc all.number;
        last = all.last;
        steps = (
          xs ++ again v ∷ [],
          one.last,
          record { top = fresh_top st fresh.0; item = again v; grows = refl; ahead = ahead; read = one.read },
          subst (λ ys. Steps walk all.number one.last (xs ++ again v ∷ []) ys all.last) (append_assoc xs (again v ∷ []) (map again vs))
              all.steps,
        );
        left = all.left;
      }

  -- behind the text no section of the kind follows
  pub run_again : (vs : List T) (more : List ℕ) → All w.is_value vs → AreWritable (canons_all vs) → (IsSectionAhead more c → ⊥)
      → BeginsWith (walk_reading walk) (texts_of vs ++ more) (map again vs) (length (texts_of vs))
  run_again vs more i f ends =
      let k = run_read (start (texts_of vs ++ more)) [] vs more (start_unlimited (texts_of vs ++ more)) refl i f in
      record {
        after = k.last;
        read = record {
          top = (refl, refl, refl, refl);
          number = k.number;
          part = map again vs;
          last = k.last;
          steps = k.steps;
          done = λ h. ends (subst (λ z. IsSectionAhead z c) k.left h);
          made = refl;
          left = refl;
        };
        left = omega (arith, ap length k.left, length-append (texts_of vs) more);
      }

  -- each was read
  steps_read : (n : ℕ) (st : State) (xs ys : List T) (b : State) → IsFresh st → Steps walk n st xs ys b → All (IsRead r) xs
      → All (IsRead r) ys
  steps_read zero st xs ys b fresh (i, j) h = subst (All (IsRead r)) (sym i) h
  steps_read (suc n) st xs ys b fresh (zs, mid, k, m) h =
      steps_read n mid zs ys b (still_fresh st mid fresh (r.stays st k.item mid k.read)) m
      (subst (All (IsRead r)) (sym k.grows) (All-push (IsRead r) xs k.item h (is_read_so r bound st k.item mid fresh k.read)))

  pub run_was_read : (input : List ℕ) (vs : List T) (b : State) → Walked walk (start input) vs b → All (IsRead r) vs
  run_was_read input vs b h =
      subst (All (IsRead r)) (sym h.made)
      (steps_read h.number (start input) [] h.part h.last (start_unlimited input).0 h.steps (All-nil (IsRead r)))

  -- the laws of one section, of each
  pub all_same_canons : (vs us : List T) → AllZip r.same vs us → canons_all vs ≡ canons_all us
  all_same_canons [] [] h = refl
  all_same_canons [] (u ∷ us) h = absurd h
  all_same_canons (v ∷ vs) [] h = absurd h
  all_same_canons (v ∷ vs) (u ∷ us) h =
      flat_map-cons w.canons v vs ∙ ap₂ (λ a b. a ++ b) (laws.canons_same v u h.0) (all_same_canons vs us h.1)
      ∙ sym (flat_map-cons w.canons u us)

  pub all_texts_again : (vs : List T) → All w.is_value vs → AreWritable (canons_all vs) → texts_of (map again vs) ≡ texts_of vs
  all_texts_again [] i f = refl
  all_texts_again (v ∷ vs) i f =
      let b = both_writable v vs i f in
      text_more (again v) (map again vs)
      ∙ ap₂ (λ a b. a ++ b) (laws.text_again v b.value b.first) (all_texts_again vs b.values b.others)
      ∙ sym (text_more v vs)

  pub all_own : (vs : List T) → All (IsRead r) vs → AllZip r.same (map again vs) vs
  all_own [] h = tt
  all_own (v ∷ vs) h =
      let k = All-head (IsRead r) v vs h in (laws.own k.input v k.number k.front tt, all_own vs (All-tail (IsRead r) v vs h))

  pub all_values : (vs : List T) → All (IsRead r) vs → All w.is_value vs
  all_values [] h = All-nil w.is_value
  all_values (v ∷ vs) h =
      let k = All-head (IsRead r) v vs h in
      All-cons w.is_value v vs (laws.value k.input v k.number k.front) (all_values vs (All-tail (IsRead r) v vs h))

  pub all_large : (vs : List T) (e : Error) → All (IsRead r) vs → AreUnwritable (canons_all vs) e → e ≡ TooLarge
  all_large [] e h x = none_refused e x
  all_large (v ∷ vs) e h x =
      let k = All-head (IsRead r) v vs h in
      let later = all_large vs e (All-tail (IsRead r) v vs h) in
      elim (front_or_back (w.canons v) (canons_all vs) e (subst (λ ts. AreUnwritable ts e) (flat_map-cons w.canons v vs) x)) [
        | inl y ↦ laws.large k.input v k.number e k.front y
        | inr y ↦ elim y [ inl z ↦ later z | inr z ↦ z ]
      ]
