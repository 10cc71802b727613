-- Groups of sections of one kind: one section, or a run of at least one.
use Rattle.std.proofs.Common.{◌≡◌, ℕ, zero, suc, ◌≤◌, Bool, true, false, List, [], ◌∷◌, ◌++◌, length, refl, sym, ap, ◌∙◌, subst, arith}
use Rattle.std.proofs.Common.{append_assoc, length-append}
use Rattle.std.proofs.lemmas.List.Concat.{flat_map-cons}
use Rattle.std.specs.List.{flat_map}
use Rattle.amqp_model.specs.FieldType.{normal}
use Rattle.amqp_wire.specs.declared.error.Error.{Error}
use Rattle.amqp_wire.specs.declared.error.Error.TheVariants.{WrongDescriptor, InvalidValue}
use Rattle.amqp_lookahead.specs.Sections.{IsSectionAhead}
use Rattle.amqp_encoder.specs.Passes.{row_text}
use Rattle.amqp_decoder.specs.State.{Source, State}
use Rattle.amqp_decoder.specs.Steps.{IsOutside}
use Rattle.amqp_decoder.specs.Sections.{NotTop}
use Rattle.amqp_decoder.specs.OtherSource.{elsewhere}
use Rattle.amqp_decoder.specs.Places.{Located, Here}
use Rattle.amqp_codec.specs.TermType.{TermType}
use Rattle.amqp_codec.specs.TermReading.{reading_of}
use Rattle.amqp_codec.specs.Written.{Writing}
use Rattle.amqp_codec.specs.Agreement.{Agreement}
use Rattle.amqp_codec.specs.Reading.{Reading, BeginsWith}
use Rattle.amqp_codec.specs.Rewriting.{Rewriting, rewrites}
use Rattle.amqp_batches.specs.declared.transparent_vec.TransparentVec.{TransparentVec}
use Rattle.amqp_batches.specs.laws.State.{any_taken}
use Rattle.amqp_batches.specs.Bounds.{IsBoundByLimits}
use Rattle.amqp_batches.specs.laws.Bound.{term_bound, takes_so, begins_without_limits}
use Rattle.amqp_batches.specs.Walk.{Steps, Walked}
use Rattle.amqp_batches.specs.laws.Walk.{no_term}
use Rattle.amqp_batches.specs.Runs.{run_walk}
use Rattle.amqp_batches.specs.laws.Row.{row_text_joined}
use Rattle.amqp_batches.specs.Sections.{IsSection, begins_as_section}
use Rattle.amqp_batches.specs.Batches.{sections_in, batch_writing, batch_reading, batch_bound, batch_again, batch_rewrites}
use Rattle.amqp_batches.specs.GroupTexts.{GroupText}

-- One section, by the record of its type.
abbrev pub section_text : {T : Type 0} (c : ℕ) {u : TermType T} {w : Writing T} → IsSection c w → Agreement u w
    → GroupText (reading_of u) (λ k. k ≡ c)
section_text c {u} {w} s a = record {
  writing = w;
  follows = λ _. Unit {0};
  again = normal u.norm;
  kept = λ _. Unit {0};
  lasts = λ _. Unit {0};
  is_least = u.is_least;
  bound = term_bound u;
  rewriting = rewrites a;
  lasting = λ input v n h. tt;
  begins = λ v i l more. (c, refl, begins_as_section c w s v more);
  ends = λ more f. tt;
}

outside_other : (e error : Error) → (IsOutside error → ⊥) → IsOutside e → e ≡ error → ⊥
outside_other e error plain o i = plain (subst IsOutside i o)

module _ {V : Type 0} (c : ℕ) (r : Reading V) where
  -- A section of this code comes next, and what begins with it was read.
  abbrev pub RunReads : State → V → State → Type 0
  RunReads st v b = IsSectionAhead st.rest c × r.reads st v b

  -- Why it isn't: a container is open; or what begins with the section has the fault; or no section of this code comes next.
  pub data RunFault (st : State) (e : Located) : Type 0 where
    not_top : Here NotTop st e → RunFault st e
    in_run : IsSectionAhead st.rest c → r.fault st e → RunFault st e
    other_section : (IsSectionAhead st.rest c → ⊥) → e.error ≡ WrongDescriptor → e.left ≡ length st.rest → RunFault st e

  pub run_fault_elsewhere : (source : Source) (failed : Bool) (st : State) (e : Located) → RunFault st e → RunFault (elsewhere source failed st) e
  run_fault_elsewhere source failed st e (not_top n) = not_top n
  run_fault_elsewhere source failed st e (in_run a f) = in_run a (r.fault_elsewhere source failed st e f)
  run_fault_elsewhere source failed st e (other_section n i place) = other_section n i place

  pub run_not_outside : (e : Located) → IsOutside e.error → (st : State) → RunFault st e → ⊥
  run_not_outside e o st (not_top n) = outside_other e.error InvalidValue (λ x. x) o n.0.1
  run_not_outside e o st (in_run a f) = r.not_outside e o st f
  run_not_outside e o st (other_section n i place) = outside_other e.error WrongDescriptor (λ x. x) o i

  pub run_within : (st : State) (e : Located) → RunFault st e → e.left ≤ length st.rest
  run_within st e (not_top n) = omega (arith, n.1)
  run_within st e (in_run a f) = r.within st e f
  run_within st e (other_section n i place) = omega (arith, place)

  -- How it is read as a group.
  abbrev pub run_reading : Reading V
  run_reading = record {
    same = r.same;
    reads = RunReads;
    fault = RunFault;
    not_outside = run_not_outside;
    takes_memory = r.takes_memory;
    count = r.count;
    looks_on = true;
    one_term = false;
    same_sym = r.same_sym;
    same_trans = r.same_trans;
    one = λ st v w a b h k. r.one st v w a b h.1 k.1;
    going = λ st v b h. r.going st v b h.1;
    counted = λ st v b e h. r.counted st v b e h.1;
    taken = λ st v b h. any_taken (r.taken st v b h.1);
    stays = λ st v b h. r.stays st v b h.1;
    misspelled = λ h. absurd (no_term h);
    within = run_within;
    reads_alone = λ h. absurd (no_term h);
    fault_alone = λ h. absurd (no_term h);
    looked = λ n st v b h. (let f = r.looked n st v b h.1 in (f.0, (h.0, f.1)));
    reads_elsewhere = λ source failed st v b h. (h.0, r.reads_elsewhere source failed st v b h.1);
    fault_elsewhere = run_fault_elsewhere;
  }

-- limits of the caller bound it as a group
pub group_bound : {T : Type 0} (c : ℕ) (u : TermType T) → IsBoundByLimits (run_reading c (batch_reading c (reading_of u)))
group_bound c u st v b fresh h =
    let batch = batch_reading c (reading_of u) in
    takes_so (λ first last. batch.reads first v last) (λ first last. RunReads c batch first v last) st b st b refl refl
    (λ free nesting left quota l q read. (h.0, read)) (batch_bound c (reading_of u) (term_bound u) st v b fresh h.1)

module _ {T : Type 0} (c : ℕ) {u : TermType T} {w : Writing T} (s : IsSection c w) (a : Agreement u w) where
  abbrev r : Reading T
  r = reading_of u

  grows : (n : ℕ) (st : State) (xs ys : List T) (b : State) → Steps (run_walk c r) n st xs ys b → length xs ≤ length ys
  grows zero st xs ys b (i, j) = omega (arith, ap length i)
  grows (suc n) st xs ys b (zs, mid, k, h) =
      omega (arith, grows n mid zs ys b h, ap length k.grows, length-append xs (k.item ∷ []))

  -- what was read where a section came next isn't empty
  pub some_read : (st : State) (vs : List T) (b : State) → IsSectionAhead st.rest c → Walked (run_walk c r) st vs b → vs ≡ [] → ⊥
  some_read st vs b ahead h e = by_steps h.number h.steps
    where
      by_steps : (n : ℕ) → Steps (run_walk c r) n st [] h.part h.last → ⊥
      by_steps zero (i, j) = h.done (subst (λ (q : State). IsSectionAhead q.rest c) (sym j) ahead)
      by_steps (suc n) (zs, mid, k, m) =
          omega (arith, grows n mid zs h.part h.last m, ap length k.grows, ap length h.made, ap length e)

  pub begins_so : (vs : List T) → (vs ≡ [] → ⊥) → (more : List ℕ) → IsSectionAhead (row_text (flat_map w.canons vs) ++ more) c
  begins_so [] some more = absurd (some refl)
  begins_so (v ∷ vs) some more =
      let others = flat_map w.canons vs in
      let whole : row_text (flat_map w.canons (v ∷ vs)) ++ more ≡ row_text (w.canons v) ++ (row_text others ++ more) =
      ap (λ ts. row_text ts ++ more) (flat_map-cons w.canons v vs) ∙ ap (λ b. b ++ more) (row_text_joined (w.canons v) others)
      ∙ append_assoc (row_text (w.canons v)) (row_text others) more in
      subst (λ b. IsSectionAhead b c) (sym whole) (begins_as_section c w s v (row_text others ++ more))

  abbrev group : Reading (TransparentVec T)
  group = run_reading c (batch_reading c r)

  as_batch : (input : List ℕ) (b : TransparentVec T) (n : ℕ) → BeginsWith group input b n → BeginsWith (batch_reading c r) input b n
  as_batch input b n h = record { after = h.after; read = h.read.1; left = h.left }

  pub run_rewrites : Rewriting group (batch_writing w).canons (batch_writing w).is_value (λ more. IsSectionAhead more c → ⊥) (batch_again u)
      (λ _. Unit {0}) (λ b. sections_in b ≡ [] → ⊥) false
  run_rewrites =
      let x = batch_rewrites c s a in
      record {
        alone = x.alone;
        canons_same = x.canons_same;
        reads_again = λ v more i l f ends.
            (let k = x.reads_again v more i tt f ends in
            record { after = k.after; read = (begins_so (sections_in v) l more, k.read); left = k.left });
        text_again = x.text_again;
        value = λ input v n h. x.value input v n (as_batch input v n h);
        own = λ input v n h. x.own input v n (as_batch input v n h);
        large = λ input v n e h. x.large input v n e (as_batch input v n h);
        bounded = begins_without_limits group (group_bound c u);
        least = λ l. absurd (no_term l);
      }

  -- A batch, which isn't empty.
  abbrev pub batch_text : GroupText (run_reading c (batch_reading c (reading_of u))) (λ k. k ≡ c)
  batch_text = record {
    writing = batch_writing w;
    follows = λ more. IsSectionAhead more c → ⊥;
    again = batch_again u;
    kept = λ _. Unit {0};
    lasts = λ b. sections_in b ≡ [] → ⊥;
    is_least = false;
    bound = group_bound c u;
    rewriting = run_rewrites;
    lasting = λ input b n h. some_read _ (sections_in b) h.after h.read.0 h.read.1;
    begins = λ b i l more. (c, refl, begins_so (sections_in b) l more);
    ends = λ more f. f c refl;
  }
