-- The faults of terms, batches and sections are those of their bytes.
use Rattle.std.proofs.Common.{◌≡◌, ℕ, [], ◌++◌, sym, ap, ◌∙◌, subst}
use Rattle.amqp_decoder.specs.State.{State}
use Rattle.amqp_decoder.specs.Places.{Located}
use Rattle.amqp_codec.specs.TermType.{TermType}
use Rattle.amqp_codec.specs.TermReading.{reading_of}
use Rattle.amqp_codec.specs.Reading.{Reading, start}
use Rattle.amqp_batches.specs.Batches.{batch_reading}
use Rattle.amqp_batches.specs.laws.Resuming.{IsUnlimited, start_unlimited, fresh_top}
use Rattle.amqp_batches.specs.laws.State.{alike_rest}
use Rattle.amqp_batches.specs.Runs.{run_walk}
use Rattle.amqp_batches.specs.Walk.{WalkFault, not_top, in_step, not_made}
use Rattle.amqp_batches.specs.SectionGroups.{RunFault, in_run, other_section, run_reading}
use Rattle.amqp_batches.specs.SectionGroups as groups
use Rattle.amqp_batches.specs.Spellings.{IsSection, IsTerm, Are}
use Rattle.amqp_batches.specs.SpellingFaults.{Faults, IsNoTerm, IsRefusedFor, IsRunFault, IsSectionFault, begun, other}
use Rattle.amqp_batches.specs.laws.ReadAs.{term_is_read}
use Rattle.amqp_batches.specs.laws.SpelledRuns.{took_some}
use Rattle.amqp_batches.specs.laws.NoTerms.{faults_named, also_free}

-- At the top level, without limits.
pub record IsNamedAs {T : Type 0} (r : Reading T) (fault : Faults) : Type 0 where
  pub named : (st : State) (e : Located) → IsUnlimited st → r.fault st e → fault st.rest e.error

-- Of a whole input.
pub of_input : {T : Type 0} {r : Reading T} {fault : Faults} → IsNamedAs r fault → IsRefusedFor r fault
of_input l input e h = l.named (start input) (record { error = e; left = h.left }) (start_unlimited input) h.fault

pub term_named : {T : Type 0} (u : TermType T) → IsNamedAs (reading_of u) IsNoTerm
term_named u = record { named = faults_named u.faults }

module _ {T : Type 0} (c : ℕ) (u : TermType T) where
  run_named : (st : State) (e : Located) → IsUnlimited st → WalkFault (run_walk c (reading_of u)) st e → IsRunFault c u st.rest e.error
  run_named st e free (not_top n) = (let t = fresh_top st free.0 in absurd (n.0.0 t.1 t.2 t.3))
  run_named st e free (in_step n part last mid steps a x) =
      let k = took_some c (term_is_read u) n st [] part last free steps in
      let same : mid.rest ≡ last.rest = alike_rest last mid a in
      record {
        bytes = k.bytes;
        values = k.values;
        at = mid.rest;
        split = k.split ∙ ap (λ z. k.bytes ++ z) (sym same);
        are = subst (Are (IsSection c (IsTerm u)) k.bytes k.values) (sym same) k.are;
        next = x.0;
        has = (term_named u).named mid e (also_free last mid k.free a) x.1;
      }
  run_named st e free (not_made n part last steps done none left) = absurd none

  pub batch_named : IsNamedAs (batch_reading c (reading_of u)) (IsRunFault c u)
  batch_named = record { named = run_named }

pub section_named : {V : Type 0} (c : ℕ) {r : Reading V} {fault : Faults} → IsNamedAs r fault
    → IsNamedAs (run_reading c r) (IsSectionFault c fault)
section_named c {r} {fault} l = record { named = by_fault }
  where
    by_fault : (st : State) (e : Located) → IsUnlimited st → RunFault c r st e → IsSectionFault c fault st.rest e.error
    by_fault st e free (groups.not_top n) = (let t = fresh_top st free.0 in absurd (n.0.0 t.1 t.2 t.3))
    by_fault st e free (in_run a f) = begun a (l.named st e free f)
    by_fault st e free (other_section n i left) = other n i
