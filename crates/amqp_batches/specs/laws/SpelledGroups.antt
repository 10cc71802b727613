-- Groups of sections are read as they are spelled: batches, and what begins with a section.
use Rattle.std.proofs.Common.{ℕ, refl, sym, subst}
use Rattle.std.proofs.lemmas.List.{take-append-drop}
use Rattle.amqp_lookahead.specs.Sections.{IsSectionAhead}
use Rattle.amqp_codec.specs.TermType.{TermType}
use Rattle.amqp_codec.specs.TermReading.{reading_of}
use Rattle.amqp_codec.specs.Reading.{Reading}
use Rattle.amqp_batches.specs.Batches.{sections_in, batch_reading, batch_bound}
use Rattle.amqp_batches.specs.laws.Bound.{term_bound, takes_so}
use Rattle.amqp_batches.specs.SectionGroups.{RunReads, run_reading}
use Rattle.amqp_batches.specs.Spellings.{Spells, IsSection, IsTerm, IsBatch}
use Rattle.amqp_batches.specs.laws.ReadAs.{IsReadAs, term_is_read}
use Rattle.amqp_batches.specs.laws.SpelledRuns.{run_is_read}

pub batch_is_read : {T : Type 0} (c : ℕ) (u : TermType T) → IsReadAs (batch_reading c (reading_of u)) (IsBatch c (IsTerm u))
batch_is_read c u =
    let l = run_is_read c (term_is_read u) in
    record {
      bound = batch_bound c (reading_of u) (term_bound u);
      spelled = λ input v n h. l.spelled input (sections_in v) n (record { after = h.after; read = h.read; left = h.left });
      read = λ b more v s.
          (let h = l.read b more (sections_in v) s in record { after = h.after; read = h.read; left = h.left });
    }

-- As a group, which begins with its section.
pub section_is_read : {V : Type 0} (c : ℕ) {r : Reading V} {spells : Spells V} → IsReadAs r spells
    → IsReadAs (run_reading c r) (IsSection c spells)
section_is_read c {r} l = record {
  bound = λ st v b fresh h.
      takes_so (λ first last. r.reads first v last) (λ first last. RunReads c r first v last) st b st b refl refl
      (λ free nesting left quota l q read. (h.0, read)) (l.bound st v b fresh h.1);
  spelled = λ input v n h.
      (let s = l.spelled input v n (record { after = h.after; read = h.read.1; left = h.left }) in
      (s.0, (subst (λ z. IsSectionAhead z c) (sym (take-append-drop n input)) h.read.0, s.1)));
  read = λ b more v s.
      (let h = l.read b more v s.1 in record { after = h.after; read = (s.0, h.read); left = h.left });
}
