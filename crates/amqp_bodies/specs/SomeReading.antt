-- What may be absent, where it is there: it is read as what it holds.
use Rattle.std.proofs.Common.{◌≡◌, ℕ, ◌+◌, ◌≤◌, Bool, true, length, Option, Some, None}
use Rattle.amqp_model.specs.FieldRules.{SameOption}
use Rattle.amqp_model.specs.laws.Option.{option_sym, option_trans}
use Rattle.amqp_decoder.specs.State.{Source, State}
use Rattle.amqp_decoder.specs.OtherSource.{elsewhere}
use Rattle.amqp_codec.specs.Reading.{Reading, Taken, Stays, apart, looking, AreAlike}
use Rattle.amqp_batches.specs.Bounds.{IsBoundByLimits}

module _ {T : Type 0} (r : Reading T) where
  abbrev pub SomeReads : State → Option T → State → Type 0
  SomeReads st None b = ⊥
  SomeReads st (Some v) b = r.reads st v b

  abbrev pub count_there : Option T → ℕ
  count_there None = 0
  count_there (Some v) = r.count v

  pub some_one : (st : State) (v w : Option T) (a b : State) → SomeReads st v a → SomeReads st w b → SameOption r.same v w × AreAlike a b
  some_one st None w a b h k = absurd h
  some_one st (Some v) None a b h k = absurd k
  some_one st (Some v) (Some w) a b h k = r.one st v w a b h k

  pub some_going : (st : State) (v : Option T) (b : State) → SomeReads st v b → st.error ≡ None
  some_going st None b h = absurd h
  some_going st (Some v) b h = r.going st v b h

  pub some_counted : (st : State) (v : Option T) (b : State) → st.top.shared ≡ None → SomeReads st v b
      → count_there v + length b.rest ≤ length st.rest
  some_counted st None b e h = absurd h
  some_counted st (Some v) b e h = r.counted st v b e h

  pub some_taken : (st : State) (v : Option T) (b : State) → SomeReads st v b → Taken r.looks_on st b
  some_taken st None b h = absurd h
  some_taken st (Some v) b h = r.taken st v b h

  pub some_stays : (st : State) (v : Option T) (b : State) → SomeReads st v b → Stays st b
  some_stays st None b h = absurd h
  some_stays st (Some v) b h = r.stays st v b h

  pub some_looked : (n : ℕ) (st : State) (v : Option T) (b : State) → SomeReads st v b → (m : ℕ) × SomeReads (looking n st) v (looking m b)
  some_looked n st None b h = absurd h
  some_looked n st (Some v) b h = r.looked n st v b h

  pub some_elsewhere : (source : Source) (failed : Bool) (st : State) (v : Option T) (b : State) → SomeReads st v b
      → SomeReads (elsewhere source failed st) v (elsewhere source failed b)
  some_elsewhere source failed st None b h = absurd h
  some_elsewhere source failed st (Some v) b h = r.reads_elsewhere source failed st v b h

  pub some_alone : r.one_term ≡ true → (alone : Bool) (st : State) (v : Option T) (b : State) → SomeReads st v b
      → SomeReads (apart alone st) v (apart alone b)
  some_alone one alone st None b h = absurd h
  some_alone one alone st (Some v) b h = r.reads_alone one alone st v b h

  -- It is never read as absent.
  abbrev pub some_reading : Reading (Option T)
  some_reading = record {
    same = SameOption r.same;
    reads = SomeReads;
    fault = r.fault;
    not_outside = r.not_outside;
    takes_memory = r.takes_memory;
    count = count_there;
    looks_on = r.looks_on;
    one_term = r.one_term;
    same_sym = option_sym r.same r.same_sym;
    same_trans = option_trans r.same r.same_trans;
    one = some_one;
    going = some_going;
    counted = some_counted;
    taken = some_taken;
    stays = some_stays;
    misspelled = r.misspelled;
    within = r.within;
    reads_alone = some_alone;
    fault_alone = r.fault_alone;
    looked = some_looked;
    reads_elsewhere = some_elsewhere;
    fault_elsewhere = r.fault_elsewhere;
  }

  pub some_bound : IsBoundByLimits r → IsBoundByLimits some_reading
  some_bound bound st None b fresh h = absurd h
  some_bound bound st (Some v) b fresh h = bound st v b fresh h
