-- What is read behind a look at what comes next.
use Rattle.std.proofs.Common.{◌≡◌, ℕ, ◌+◌, ◌≤◌, Bool, true, false, List, length, drop, None, refl, sym, ap, ◌∙◌, subst, arith}
use Rattle.amqp_model.specs.Term.{Term}
use Rattle.amqp_decoder.specs.State.{Source, State}
use Rattle.amqp_decoder.specs.OtherSource.{elsewhere}
use Rattle.amqp_decoder.specs.Places.{Located}
use Rattle.amqp_codec.specs.Reading.{Reading, Taken, looking, AreAlike, greatest, start_within, BeginsWith, BeginsWithin}
use Rattle.amqp_wire.specs.declared.limits.Limits.{Limits}
use Rattle.amqp_codec.specs.Rewriting.{Rewriting}
use Rattle.amqp_batches.specs.Bounds.{limited_to, IsBoundByLimits}
use Rattle.amqp_batches.specs.laws.Bound.{still_fresh, takes_so}
use Rattle.amqp_batches.specs.laws.State.{stays_then, alike_stays, alike_rest, alike_sym, alike_trans, any_taken}
use Rattle.amqp_batches.specs.laws.Walk.{no_term}
use Rattle.amqp_batches.specs.GroupTexts.{GroupText}

module _ {V : Type 0} (r : Reading V) where
  -- Some of the next bytes were looked at, and then it was read.
  pub record SeenReads (st : State) (v : V) (b : State) : Type 0 where
    pub seen : State
    pub alike : AreAlike st seen
    pub read : r.reads seen v b

  pub record SeenFault (st : State) (e : Located) : Type 0 where
    pub seen : State
    pub alike : AreAlike st seen
    pub fault : r.fault seen e

  -- what is read behind one look is read behind another
  pub read_behind : (st seen here : State) (v : V) (b : State) → AreAlike st seen → AreAlike st here → r.reads seen v b
      → (m : ℕ) × r.reads here v (looking m b)
  read_behind st seen here v b a h k =
      let f = r.looked here.ahead seen v b k in
      let same : looking here.ahead seen ≡ here = sym (alike_trans seen st here (alike_sym st seen a) h) in
      (f.0, subst (λ (q : State). r.reads q v (looking f.0 b)) same f.1)

  pub seen_one : (st : State) (v w : V) (a b : State) → SeenReads st v a → SeenReads st w b → r.same v w × AreAlike a b
  seen_one st v w a b h k =
      let f = read_behind st h.seen k.seen v a h.alike k.alike h.read in
      let o = r.one k.seen v w (looking f.0 a) b f.1 k.read in
      (o.0, alike_trans a (looking f.0 a) b refl o.1)

  pub seen_counted : (st : State) (v : V) (b : State) → st.top.shared ≡ None → SeenReads st v b
      → r.count v + length b.rest ≤ length st.rest
  seen_counted st v b e h =
      omega (
        arith,
        r.counted h.seen v b ((alike_stays st h.seen h.alike).shared ∙ e) h.read,
        ap length (alike_rest st h.seen h.alike),
      )

  pub seen_taken : (st : State) (v : V) (b : State) → SeenReads st v b → Taken true st b
  seen_taken st v b h =
      let t = any_taken (r.taken h.seen v b h.read) in
      let same = alike_rest st h.seen h.alike in
      record {
        count = t.count;
        within = omega (arith, t.within, ap length same);
        rest = t.rest ∙ ap (drop t.count) same;
        ahead = λ e. absurd (cc);
      }

  pub seen_elsewhere : (source : Source) (failed : Bool) (st : State) (v : V) (b : State) → SeenReads st v b
      → SeenReads (elsewhere source failed st) v (elsewhere source failed b)
  seen_elsewhere source failed st v b h = record {
    seen = elsewhere source failed h.seen;
    alike = ap (elsewhere source failed) h.alike;
    read = r.reads_elsewhere source failed h.seen v b h.read;
  }

  pub seen_fault_elsewhere : (source : Source) (failed : Bool) (st : State) (e : Located) → SeenFault st e
      → SeenFault (elsewhere source failed st) e
  seen_fault_elsewhere source failed st e h = record {
    seen = elsewhere source failed h.seen;
    alike = ap (elsewhere source failed) h.alike;
    fault = r.fault_elsewhere source failed h.seen e h.fault;
  }

  abbrev pub seen_reading : Reading V
  seen_reading = record {
    same = r.same;
    reads = SeenReads;
    fault = SeenFault;
    not_outside = λ e o st h. r.not_outside e o h.seen h.fault;
    takes_memory = r.takes_memory;
    count = r.count;
    looks_on = true;
    one_term = false;
    same_sym = r.same_sym;
    same_trans = r.same_trans;
    one = seen_one;
    going = λ st v b h. sym (alike_stays st h.seen h.alike).error ∙ r.going h.seen v b h.read;
    counted = seen_counted;
    taken = seen_taken;
    stays = λ st v b h. stays_then (alike_stays st h.seen h.alike) (r.stays h.seen v b h.read);
    misspelled = λ h. absurd (no_term h);
    within = λ st e h. omega (arith, r.within h.seen e h.fault, ap length (alike_rest st h.seen h.alike));
    reads_alone = λ h. absurd (no_term h);
    fault_alone = λ h. absurd (no_term h);
    looked = λ n st v b h. (b.ahead, record { seen = h.seen; alike = h.alike; read = h.read });
    reads_elsewhere = seen_elsewhere;
    fault_elsewhere = seen_fault_elsewhere;
  }

  pub seen_bound : IsBoundByLimits r → IsBoundByLimits seen_reading
  seen_bound bound st v b fresh h =
      takes_so (λ first last. r.reads first v last) (λ first last. SeenReads first v last) h.seen b st b (alike_sym st h.seen h.alike) refl
      (λ free nesting left quota l q read. record {
        seen = limited_to free nesting left quota h.seen;
        alike = ap (limited_to free nesting left quota) h.alike;
        read = read;
      })
      (bound h.seen v b (still_fresh st h.seen fresh (alike_stays st h.seen h.alike)) h.read)

  -- of a whole input it makes no difference
  unseen_within : (limits : Limits) (input : List ℕ) (v : V) (n : ℕ) → BeginsWithin limits seen_reading input v n
      → BeginsWithin limits r input v n
  unseen_within limits input v n h =
      let k = h.read in
      let f = read_behind (start_within limits input) k.seen (start_within limits input) v h.after k.alike refl k.read in
      record { after = looking f.0 h.after; read = f.1; left = h.left }

  pub unseen : (input : List ℕ) (v : V) (n : ℕ) → BeginsWith seen_reading input v n → BeginsWith r input v n
  unseen = unseen_within greatest

  pub seen_rewrites : {canons : V → List Term} {is_value : V → Type 0} {follows : List ℕ → Type 0} {again : V → V}
      {kept lasts : V → Type 0} {is_least : Bool} → Rewriting r canons is_value follows again kept lasts is_least
      → Rewriting seen_reading canons is_value follows again kept lasts is_least
  seen_rewrites x = record {
    alone = x.alone;
    canons_same = x.canons_same;
    reads_again = λ v more i l f ends.
        (let k = x.reads_again v more i l f ends in
        record { after = k.after; read = record { seen = _; alike = refl; read = k.read }; left = k.left });
    text_again = x.text_again;
    value = λ input v n h. x.value input v n (unseen input v n h);
    own = λ input v n h. x.own input v n (unseen input v n h);
    large = λ input v n e h. x.large input v n e (unseen input v n h);
    bounded = λ limits input v n h.
        (let k = x.bounded limits input v n (unseen_within limits input v n h) in
        record { after = k.after; read = record { seen = _; alike = refl; read = k.read }; left = k.left });
    least = λ l input v n bytes none h. x.least l input v n bytes none (unseen input v n h);
  }

  -- How it is written and read again as a group.
  abbrev pub seen_text : {is_code : ℕ → Type 0} → GroupText r is_code → GroupText seen_reading is_code
  seen_text t = record {
    writing = t.writing;
    follows = t.follows;
    again = t.again;
    kept = t.kept;
    lasts = t.lasts;
    is_least = t.is_least;
    bound = seen_bound t.bound;
    rewriting = seen_rewrites t.rewriting;
    lasting = λ input v n h. t.lasting input v n (unseen input v n h);
    begins = t.begins;
    ends = t.ends;
  }
