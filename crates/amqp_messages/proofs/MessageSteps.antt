-- How a message is read, group by group.
use Rattle.std.proofs.Common.{◌≡◌, inl, inr, ℕ, zero, suc, ◌<◌, true, length, Option, Some, None, Ok, ◌⊎◌, refl, sym}
use Rattle.std.proofs.Common.{ap, ◌∙◌, subst, arith, unwrap_or}
use Rattle.amqp_wire.specs.declared.error.Error.{Error}
use Rattle.amqp_wire.specs.declared.error.Error.TheVariants.{Memory}
use Rattle.amqp_lookahead.specs.Sections.{IsSectionAhead}
use Rattle.amqp_lookahead.proofs.SectionsAhead.{one_ahead}
use Rattle.amqp_decoder.specs.State.{State}
use Rattle.amqp_decoder.specs.Steps.{IsExcused, RefusesBy, Began, Passed}
use Rattle.amqp_decoder.proofs.Steps.{answered_later}
use Rattle.amqp_decoder.specs.Places.{Located, RefusesAt, StandsHere}
use Rattle.amqp_decoder.proofs.Places.{placed_later}
use Rattle.amqp_codec.specs.Reading.{AreAlike}
use Rattle.amqp_codec.proofs.Tries.{began_passed}
use Rattle.amqp_codec.specs.laws.Refusal.{NoneStands, or_else}
use Rattle.amqp_batches.specs.laws.State.{still_among, alike_stays, alike_rest, alike_trans}
use Rattle.amqp_batches.specs.Walk.{IsAtTop, IsNext, Walk, Steps, Walked, WalkFault, in_step}
use Rattle.amqp_batches.specs.laws.Walk.{steps_top}
use Rattle.amqp_batches.proofs.Exits.{began_later}
use Rattle.amqp_batches.proofs.WalkSteps.{SoFar, so_far_stays, top_fault, none_walked, step_made, step_refused, finished, ran_out, unmade}
use Rattle.amqp_messages.specs.declared.order.Order.{Order}
use Rattle.amqp_messages.specs.declared.order.Order.TheVariants.{Any, Written}
use Rattle.amqp_messages.specs.Orders.{further, IsFull}
use Rattle.amqp_bodies.specs.Bodies.{Made}
use Rattle.amqp_messages.specs.declared.message.Message.{Message}
use Rattle.amqp_messages.specs.KindsReading.{Readings, Reads, KindFault}
use Rattle.amqp_messages.specs.GroupAnswers.{AnswersGroup}
use Rattle.amqp_messages.specs.MessageKinds.{seven, behind_section, IsMadeOf}
use Rattle.amqp_messages.specs.Messages.{readings_of, IsUnmade, message_of}
use Rattle.amqp_messages.specs.Groups.{Shape, Progress, AreAllRead, in_group, misplaced, not_section}
use Rattle.amqp_messages.specs.MessageWalk.{message_walk}
use Rattle.amqp_messages.specs.Next as next
use Rattle.amqp_messages.specs.Next.{FindsNext, full, at_end, section, NextFault}

module _ {S B : Type 0} (o : Order) (made : Made S B) where
  abbrev s : Shape (Message B)
  s = message_of made

  abbrev M : Type 0
  M = Progress (seven S)

  abbrev rs : Readings (seven S)
  rs = readings_of made.group

  abbrev w : Walk M (Message B)
  w = message_walk o s

  abbrev Refuses : State → Error → State → Type 0
  Refuses st e new = RefusesAt true (Walked w) (WalkFault w) st e new

  -- no section that may stand there comes next
  fault_here : (st : State) (m : M) (mid : State) (e : Located) → SoFar w st m mid → NextFault o m.left mid e → WalkFault w st e
  fault_here st m mid e h (next.not_top n) = top_fault w st m mid e h n
  fault_here st m mid e h (next.misplaced some a l i left) =
      in_step h.number m h.last mid h.steps h.here (misplaced some a l i left)
  fault_here st m mid e h (next.not_section {seen} some more none a f) =
      let same = alike_rest mid seen a in
      in_step h.number m h.last seen h.steps (alike_trans h.last mid seen h.here a)
      (not_section some (λ r. more (sym same ∙ r)) (λ c k. none c (subst (λ b. IsSectionAhead b c) same k)) f)

  none_next : (st : State) (m : M) (mid : State) (e : Located) → SoFar w st m mid → NextFault o m.left mid e → NoneStands (Walked w) st
  none_next st m mid e h (next.not_top n) =
      λ v b k. (let s = so_far_stays w st m mid h in n.0.0 (s.place ∙ k.top.1) (s.saved ∙ k.top.2) (still_among s ∙ k.top.3))
  none_next st m mid e h (next.misplaced {c} some a l i left) =
      none_walked w st m mid mid h refl
      (λ n x b like k.
      (let same = one_ahead mid.rest k.code c k.ahead a in
      let p = k.in_place in
      let q : further o m.left (behind_section c) < m.left =
      subst (λ z. further o z (behind_section c) < z) (sym like.0) (subst (λ z. further o n.left (behind_section z) < n.left) same p) in
      omega (arith, l, q)))
      (λ d. elim d [ inl f ↦ some f | inr r ↦ (let z = ap length (sym a.split ∙ r) in absurd (cc)) ])
  none_next st m mid e h (next.not_section some more none a f) =
      none_walked w st m mid mid h refl (λ n x b like k. none k.code k.ahead) (λ d. elim d [ inl f ↦ some f | inr r ↦ more r ])

  -- the look at the next section was refused
  pub next_refused : (st : State) (m : M) (mid : State) (e : Error) (new : State) → SoFar w st m mid
      → RefusesAt true (FindsNext o m.left) (NextFault o m.left) mid e new → Refuses st e new
  next_refused st m mid e new h r =
      let s = so_far_stays w st m mid h in
      record {
        kept = answered_later s.sound r.kept;
        again = again h.number refl;
        named = λ g. or_else (λ x. x) (placed_later st mid new s.sound (λ x. fault_here st m mid x h)) (r.named (s.error ∙ g));
        none = by_error mid.error refl;
      }
    where
      again : (n : ℕ) → h.number ≡ n → (d : Error) → st.error ≡ Some d → (d ≡ e) × (new ≡ st)
      again zero i d x =
          let j = h.first i in
          subst (λ (q : State). (d ≡ e) × (new ≡ q)) j (r.again d (subst (λ (q : State). q.error ≡ Some d) (sym j) x))
      again (suc n) i d x =
          let g = steps_top w h.number st w.blank m h.last (λ z. (let q = sym i ∙ z in absurd (cc))) h.steps in
          let going = g.0 in absurd (cc)

      by_error : (x : Option Error) → mid.error ≡ x → IsExcused true e new ⊎ NoneStands (Walked w) st
      by_error None i = or_else (λ x. x) (λ x. none_next st m mid _ h x.1) (r.named i)
      by_error (Some d) i = inr (λ v b k. (let j = (so_far_stays w st m mid h).error ∙ k.top.0 in absurd (cc)))

  -- the section that comes next, and may stand there
  pub record FoundThere (m : M) (mid : State) (c : ℕ) (here : State) : Type 0 where
    pub top : IsAtTop mid
    pub looked : IsFull o m.left → ⊥
    pub ahead : IsSectionAhead here.rest c
    pub in_place : further o m.left (behind_section c) < m.left
    pub alike : AreAlike mid here

  pub found_there : (m : M) (mid : State) (c : ℕ) (here : State) → FindsNext o m.left mid (Some c) here → FoundThere m mid c here
  found_there m mid c here (full f i j) = absurd (cc)
  found_there m mid c here (at_end t r i a) = absurd (cc)
  found_there m mid c here (section {c = d} t f a p i l) =
      let same : d ≡ c = ap (λ x. unwrap_or x d) (sym i) in
      record {
        top = t;
        looked = f;
        ahead = subst (λ z. IsSectionAhead here.rest z) same (subst (λ b. IsSectionAhead b d) (sym (alike_rest mid here l)) a);
        in_place = subst (λ z. further o m.left (behind_section z) < m.left) same p;
        alike = l;
      }

  top_there : (m : M) (mid : State) (c : ℕ) (here : State) → FoundThere m mid c here → IsAtTop here
  top_there m mid c here f =
      let s = alike_stays mid here f.alike in (s.error ∙ f.top.0, s.place ∙ f.top.1, s.saved ∙ f.top.2, still_among s ∙ f.top.3)

  pub next_there : (m : M) (mid : State) (c : ℕ) (here : State) → FoundThere m mid c here → IsNext c here
  next_there m mid c here f = (top_there m mid c here f, f.ahead)

  -- one more group was read
  pub group_next : (st : State) (m x : M) (mid : State) (c : ℕ) (here b : State) → SoFar w st m mid → FoundThere m mid c here
      → x.left ≡ further o m.left (behind_section c) → AnswersGroup (seven S) rs c m.part x.part here (Ok tt) b → SoFar w st x b
  group_next st m x mid c here b h f n (g, read, is) =
      step_made w st m x mid here b h f.alike
      (record {
        top = top_there m mid c here f;
        code = c;
        ahead = f.ahead;
        in_place = f.in_place;
        next = n;
        group = g;
        read = read;
        is = is;
      })

  -- it was refused
  pub group_refused : (st : State) (m : M) (mid : State) (c : ℕ) (here : State) (e : Error) (new : State) → SoFar w st m mid
      → FoundThere m mid c here → RefusesAt true (Reads (seven S) rs c) (KindFault (seven S) rs c) here e new → Refuses st e new
  group_refused st m mid c here e new h f r =
      step_refused w (Reads (seven S) rs c) (KindFault (seven S) rs c) st m mid here e new h f.top f.alike (λ _. refl)
      (λ x k. in_group f.ahead f.in_place k)
      (λ none n x b like k.
      (let same = one_ahead here.rest k.code c k.ahead f.ahead in
      none k.group b (subst (λ z. Reads (seven S) rs z here k.group b) same k.read)))
      (λ d. elim d [ inl k ↦ f.looked k | inr z ↦ (let y = ap length (sym f.ahead.split ∙ z) in absurd (cc)) ]) r

  -- Everything was read.
  pub record IsDone (m : M) (mid here : State) : Type 0 where
    pub top : IsAtTop mid
    pub alike : AreAlike mid here
    pub done : AreAllRead o s m here.rest

  not_full : (left : ℕ) → left ≡ 7 → IsFull o left → ⊥
  not_full left e f = by_order o f
    where
      by_order : (o : Order) → IsFull o left → ⊥
      by_order Any f = omega (arith, e, f)
      by_order Written f = f

  full_top : (st : State) (m : M) (mid : State) → SoFar w st m mid → IsFull o m.left → IsAtTop mid
  full_top st m mid h f =
      let t = steps_top w h.number st w.blank m h.last (λ z. not_full m.left (left_is z) f) h.steps in
      let k = so_far_stays w st m mid h in (k.error ∙ t.0, k.place ∙ t.1, k.saved ∙ t.2, still_among k ∙ t.3)
    where
      left_is : h.number ≡ 0 → m.left ≡ 7
      left_is z =
          let x : Steps w 0 st w.blank m h.last = subst (λ n. Steps w n st w.blank m h.last) z h.steps in
          ap (λ (q : M). q.left) x.0

  pub found_none : (st : State) (m : M) (mid here : State) → SoFar w st m mid → FindsNext o m.left mid None here → IsDone m mid here
  found_none st m mid here h (full f i j) =
      record { top = full_top st m mid h f; alike = subst (AreAlike mid) (sym j) refl; done = inl f }
  found_none st m mid here h (at_end t r i a) = record { top = t; alike = a; done = inr (alike_rest mid here a ∙ r) }
  found_none st m mid here h (section t f a p i l) = absurd (cc)

  -- the message is made
  pub message_made : (st : State) (m : M) (mid here : State) (v : Message B) → SoFar w st m mid → IsDone m mid here → IsMadeOf made m.part v
      → Walked w st v here
  message_made st m mid here v h d f = finished w st m mid here v h d.top d.alike d.done f

  -- or there is a reason why it isn't
  pub message_refused : (st : State) (m : M) (mid here : State) (error e : Error) (new : State) → SoFar w st m mid
      → IsDone m mid here → (error ≡ Memory) ⊎ IsUnmade made m.part error → RefusesBy error here e new → StandsHere here new → Refuses st e new
  message_refused st m mid here error e new h d (inl i) refused at =
      ran_out w st m mid here e new refl h d.top (alike_stays mid here d.alike) (subst (λ z. RefusesBy z here e new) i refused)
  message_refused st m mid here error e new h d (inr u) refused at =
      unmade w st m mid here error e new h d.top d.alike d.done u refused at

-- what was found
pub found_as : (o : Order) {left : ℕ} {st : State} (found : Option ℕ) (c : ℕ) (b : State) → found ≡ Some c → FindsNext o left st found b
    → FindsNext o left st (Some c) b
found_as o {left} {st} found c b e h = subst (λ f. FindsNext o left st f b) e h

pub nothing_found : (o : Order) {left : ℕ} {st : State} (found : Option ℕ) (b : State) → ((c : ℕ) → found ≡ Some c → ⊥)
    → FindsNext o left st found b → FindsNext o left st None b
nothing_found o None b not h = h
nothing_found o (Some c) b not h = absurd (not c refl)

-- the calls in a row
pub passed_on : (a b c : State) → Passed a b → Passed b c → Passed a c
passed_on a b c h k = (
  (k.0.0 ∙ h.0.0, k.0.1 ∙ h.0.1),
  λ d x. (let same = h.1 d x in k.1 d (ap (λ (s : State). s.error) same ∙ x) ∙ same),
)

-- one call at least was asked of a decoder that had kept no error
pub all_began : (o : Order) (left : ℕ) (a b c : State) → Passed a b → (left ≡ 7) ⊎ Began a b → Passed b c
    → ((IsFull o left → ⊥) → Began b c) → Began a c
all_began o left a b c h (inl e) k f = began_later a b c h (f (full_not o))
  where
    full_not : (o : Order) → IsFull o left → ⊥
    full_not Any f = omega (arith, e, f)
    full_not Written f = f
all_began o left a b c h (inr g) k f = began_passed a b c g k
