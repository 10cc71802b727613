-- Two ways of reading that read the same, and refuse the same.
use Rattle.std.proofs.Common.{◌≡◌, ◌↔◌, ℕ, List, refl}
use Rattle.amqp_decoder.specs.State.{State}
use Rattle.amqp_decoder.specs.Places.{Located}
use Rattle.amqp_codec.specs.Reading.{Reading, BeginsWith}
use Rattle.amqp_batches.specs.Spellings.{Spells}
use Rattle.amqp_batches.specs.SpellingFaults.{Faults}
use Rattle.amqp_batches.specs.laws.Bound.{takes_so}
use Rattle.amqp_batches.specs.laws.ReadAs.{IsReadAs}
use Rattle.amqp_batches.specs.laws.NamedAs.{IsNamedAs}

pub record ReadsAs {T : Type 0} (r q : Reading T) : Type 0 where
  pub takes_memory : r.takes_memory ≡ q.takes_memory
  pub reads : (st : State) (v : T) (b : State) → r.reads st v b ↔ q.reads st v b
  pub fault : (st : State) (f : Located) → r.fault st f ↔ q.fault st f

pub reads_itself : {T : Type 0} (r : Reading T) → ReadsAs r r
reads_itself r = record { takes_memory = refl; reads = λ st v b. (λ h. h, λ h. h); fault = λ st f. (λ h. h, λ h. h) }

module _ {T : Type 0} {r q : Reading T} (same : ReadsAs r q) where
  begins_as : (input : List ℕ) (v : T) (n : ℕ) → BeginsWith r input v n → BeginsWith q input v n
  begins_as input v n h = record { after = h.after; read = (same.reads _ v h.after).0 h.read; left = h.left }

  begins_so : (input : List ℕ) (v : T) (n : ℕ) → BeginsWith q input v n → BeginsWith r input v n
  begins_so input v n h = record { after = h.after; read = (same.reads _ v h.after).1 h.read; left = h.left }

  pub read_as : {spells : Spells T} → IsReadAs q spells → IsReadAs r spells
  read_as l = record {
    bound = λ st v b fresh h.
        takes_so (λ first last. q.reads first v last) (λ first last. r.reads first v last) st b st b refl refl
        (λ free nesting left quota l q read. (same.reads _ v _).1 read) (l.bound st v b fresh ((same.reads st v b).0 h));
    spelled = λ input v n h. l.spelled input v n (begins_as input v n h);
    read = λ b more v s. begins_so _ v _ (l.read b more v s);
  }

  pub named_as : {fault : Faults} → IsNamedAs q fault → IsNamedAs r fault
  named_as l = record { named = λ st f free h. l.named st f free ((same.fault st f).0 h) }
