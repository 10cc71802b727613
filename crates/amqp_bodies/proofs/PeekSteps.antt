-- What is read where a section comes next, or behind a look at it.
use Rattle.std.proofs.Common.{◌≡◌, inr, ℕ, Bool, true, false, Option, Some, None, Result, Ok, Err, ◌⊎◌, length, refl, sym, ◌∙◌, subst}
use Rattle.amqp_wire.specs.declared.error.Error.{Error}
use Rattle.amqp_lookahead.specs.Sections.{IsSectionAhead}
use Rattle.amqp_decoder.specs.State.{State}
use Rattle.amqp_decoder.specs.Steps.{IsExcused, RefusesBy}
use Rattle.amqp_decoder.specs.Sections.{NotTop, PeeksSection}
use Rattle.amqp_decoder.proofs.Steps.{answered_later, first_kept}
use Rattle.amqp_decoder.specs.Places.{Located, Here, RefusesAt, AnswersAt, StandsHere}
use Rattle.amqp_decoder.proofs.Places.{placed_later}
use Rattle.amqp_codec.specs.Reading.{Reading, AreAlike, looking}
use Rattle.amqp_codec.specs.laws.Refusal.{NoneStands, excused_as, no_memory, or_else, refused_first}
use Rattle.amqp_batches.specs.laws.State.{still_among, alike_stays, alike_rest, alike_sym, alike_trans}
use Rattle.amqp_batches.specs.Walk.{IsAtTop, IsNext}
use Rattle.amqp_batches.proofs.WalkSteps.{peeked_alike}
use Rattle.amqp_bodies.specs.SeenReading.{SeenReads, SeenFault, read_behind, seen_reading}

pub next_here : (st : State) (o : Option ℕ) (here : State) (c : ℕ) → PeeksSection st o here → o ≡ Some c → IsNext c here
next_here st o here c p i =
    let alike = peeked_alike st o here p in
    let s = alike_stays st here alike in
    let a = p.answer c in (
      (s.error ∙ p.going, s.place ∙ p.place, s.saved ∙ p.saved, still_among s ∙ p.among),
      subst (λ b. IsSectionAhead b c) (sym (alike_rest st here alike)) (a.0 i),
    )

pub no_section_here : (st : State) (o : Option ℕ) (here : State) → PeeksSection st o here → o ≡ None → (c : ℕ)
    → IsSectionAhead here.rest c → ⊥
no_section_here st o here p i c h =
    let a = p.answer c in
    let e = a.1 (subst (λ b. IsSectionAhead b c) (alike_rest st here (peeked_alike st o here p)) h) in
    let z = sym i ∙ e in absurd (cc)

-- behind a look the same section comes next
pub still_next : (st here : State) (c : ℕ) → AreAlike st here → IsNext c st → IsNext c here
still_next st here c alike (top, ahead) =
    let s = alike_stays st here alike in (
      (s.error ∙ top.0, s.place ∙ top.1, s.saved ∙ top.2, still_among s ∙ top.3),
      subst (λ b. IsSectionAhead b c) (sym (alike_rest st here alike)) ahead,
    )

module _ {V : Type 0} (r : Reading V) where
  abbrev Refuses : State → Error → State → Type 0
  Refuses st e new = RefusesAt r.takes_memory (SeenReads r) (SeenFault r) st e new

  -- the look was refused
  pub peek_refused : (st : State) (e : Error) (new : State) → ((x : Located) → Here NotTop st x → r.fault st x)
      → ((seen : State) (v : V) (b : State) → r.reads seen v b → IsAtTop seen) → RefusesAt false PeeksSection (Here NotTop) st e new
      → Refuses st e new
  peek_refused st e new named top q = record {
    kept = q.kept;
    again = q.again;
    named = λ g.
        or_else (excused_as e new no_memory)
        (placed_later {g = SeenFault r st} st st new refl (λ x n. record { seen = st; alike = refl; fault = named x n })) (q.named g);
    none = by_error st.error refl;
  }
    where
      by_error : (o : Option Error) → st.error ≡ o → IsExcused r.takes_memory e new ⊎ NoneStands (SeenReads r) st
      by_error None i =
          or_else (excused_as e new no_memory)
          (λ n v b h.
          (let s = alike_stays st h.seen h.alike in
          let t = top h.seen v b h.read in n.1.0.0 (sym s.place ∙ t.1) (sym s.saved ∙ t.2) (sym (still_among s) ∙ t.3))) (q.named i)
      by_error (Some d) i = inr (λ v b h. (let g = (seen_reading r).going st v b h in absurd (cc)))

  -- it was read, or refused, without a further look
  pub read_here : (st : State) (v : V) (b : State) → r.reads st v b → SeenReads r st v b
  read_here st v b h = record { seen = st; alike = refl; read = h }

  pub refused_here : {A : Type 0} {a : Bool} (p : State → A → State → Type 0) (f : State → Located → Type 0) (st : State) (e : Error)
      (new : State) → (a ≡ true → r.takes_memory ≡ true) → ((x : Located) → f st x → r.fault st x)
      → (NoneStands p st → NoneStands r.reads st) → RefusesAt a p f st e new → Refuses st e new
  refused_here p f st e new may named none q =
      refused_first p f (SeenReads r) (SeenFault r) st e new may (λ x n. record { seen = st; alike = refl; fault = named x n })
      (λ n v b h. (let m = read_behind r st h.seen st v b h.alike refl h.read in none n v (looking m.0 b) m.1)) q

  -- by an error of its own
  pub kept_here : (st : State) (error e : Error) (new : State) → IsAtTop st
      → r.fault st (record { error = error; left = length st.rest }) → NoneStands r.reads st → RefusesBy error st e new
      → StandsHere st new → Refuses st e new
  kept_here st error e new top named none refused at = record {
    kept = first_kept {st = st} top.0 refused;
    again = λ d x. (let g = top.0 in absurd (cc));
    named = λ g. inr (
      length st.rest,
      record {
        seen = st;
        alike = refl;
        fault = subst (λ x. r.fault st (record { error = x; left = length st.rest })) (sym (refused top.0).0) named;
      },
      at top.0,
    );
    none = inr (λ v b h. (let m = read_behind r st h.seen st v b h.alike refl h.read in none v (looking m.0 b) m.1));
  }

  -- it was read, or refused, behind a look
  pub behind : (st here : State) (x : Result V Error) (new : State) → IsAtTop st → AreAlike st here
      → AnswersAt r.takes_memory (SeenReads r) (SeenFault r) here x new → AnswersAt r.takes_memory (SeenReads r) (SeenFault r) st x new
  behind st here (Ok v) new top alike h =
      record { seen = h.seen; alike = alike_trans st here h.seen alike h.alike; read = h.read }
  behind st here (Err e) new top alike q =
      let s = alike_stays st here alike in
      record {
        kept = answered_later s.sound q.kept;
        again = λ d x. (let g = top.0 in absurd (cc));
        named = λ g.
            or_else (excused_as e new (λ z. z))
            (placed_later {f = SeenFault r here} {g = SeenFault r st} st here new s.sound
            (λ x f. record { seen = f.seen; alike = alike_trans st here f.seen alike f.alike; fault = f.fault }))
            (q.named (s.error ∙ top.0));
        none = or_else (excused_as e new (λ z. z))
            (λ n v b h.
            n v b (record { seen = h.seen; alike = alike_trans here st h.seen (alike_sym st here alike) h.alike; read = h.read })) q.none;
      }
