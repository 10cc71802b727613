-- The calls that read one thing after another, up to where they are.
use Rattle.std.proofs.Common.{◌≡◌, inl, inr, ℕ, zero, suc, Bool, true, false, Option, Some, None, ◌⊎◌, length, refl, sym, ap, ◌∙◌, subst}
use Rattle.amqp_wire.specs.declared.error.Error.{Error}
use Rattle.amqp_wire.specs.declared.error.Error.TheVariants.{Memory}
use Rattle.amqp_decoder.specs.State.{State}
use Rattle.amqp_decoder.specs.Steps.{IsExcused, RefusesBy}
use Rattle.amqp_decoder.specs.Sections.{NotTop, PeeksSection}
use Rattle.amqp_decoder.proofs.Steps.{answered_later, first_kept}
use Rattle.amqp_decoder.proofs.Places.{before_later}
use Rattle.amqp_decoder.specs.Places.{Located, Here, RefusesAt, StandsHere}
use Rattle.amqp_decoder.proofs.Places.{placed_later}
use Rattle.amqp_codec.specs.Reading.{Stays, looking, AreAlike}
use Rattle.amqp_codec.specs.laws.Refusal.{NoneStands, excused_as, no_memory, or_else}
use Rattle.amqp_batches.specs.laws.State.{still_among, stays_then, alike_stays, alike_rest, alike_sym, alike_trans}
use Rattle.amqp_batches.specs.Walk.{IsAtTop, Walk, Steps, Walked, WalkFault, not_top, in_step, not_made}
use Rattle.amqp_batches.specs.laws.Walk.{GoesOn, goes_on, steps_leave, steps_looked, steps_top, one_step_more}

-- So much was read so far, and the decoder stands there.
pub record SoFar {M V : Type 0} (w : Walk M V) (st : State) (m : M) (mid : State) : Type 0 where
  pub number : ℕ
  pub last : State
  pub steps : Steps w number st w.blank m last
  pub here : AreAlike last mid
  pub first : number ≡ 0 → mid ≡ st

pub peeked_top : (st : State) (o : Option ℕ) (b : State) → PeeksSection st o b → IsAtTop st
peeked_top st o b h = (h.going, h.place, h.saved, h.among)

pub peeked_alike : (st : State) (o : Option ℕ) (b : State) → PeeksSection st o b → AreAlike st b
peeked_alike st o b h = let k = h.kept in subst (AreAlike st) (sym k.3) refl

module _ {M V : Type 0} (w : Walk M V) where
  pub so_far_stays : (st : State) (m : M) (mid : State) → SoFar w st m mid → Stays st mid
  so_far_stays st m mid h = stays_then (steps_leave w h.number st w.blank m h.last h.steps).stays (alike_stays h.last mid h.here)

  -- the beginning stands as what comes after it
  pub began_top : (st : State) (m : M) (mid : State) → SoFar w st m mid → IsAtTop mid → IsAtTop st
  began_top st m mid h t =
      let s = so_far_stays st m mid h in
      (sym s.error ∙ t.0, sym s.place ∙ t.1, sym s.saved ∙ t.2, sym (still_among s) ∙ t.3)

  pub none_so_far : (st : State) → SoFar w st w.blank st
  none_so_far st = record { number = 0; last = st; steps = (refl, refl); here = refl; first = λ _. refl }

  -- a step was made, and it was looked at what comes next
  pub step_seen : (st : State) (m x : M) (mid here b next : State) → SoFar w st m mid → AreAlike mid here → w.step here m x b
      → AreAlike b next → SoFar w st x next
  step_seen st m x mid here b next h a s seen =
      let f = w.step_looked h.last.ahead here m x b s in
      let back : looking h.last.ahead here ≡ h.last = sym (alike_sym h.last here (alike_trans h.last mid here h.here a)) in
      let k : w.step h.last m x (looking f.0 b) = subst (λ (q : State). w.step q m x (looking f.0 b)) back f.1 in
      record {
        number = suc h.number;
        last = looking f.0 b;
        steps = one_step_more w h.number st w.blank m x h.last (looking f.0 b) h.steps k;
        here = alike_trans (looking f.0 b) b next refl seen;
        first = λ e. absurd (cc);
      }

  pub step_made : (st : State) (m x : M) (mid here b : State) → SoFar w st m mid → AreAlike mid here → w.step here m x b
      → SoFar w st x b
  step_made st m x mid here b h a s = step_seen st m x mid here b b h a s refl

  pub finished : (st : State) (m : M) (mid here : State) (v : V) → SoFar w st m mid → IsAtTop mid → AreAlike mid here
      → w.done m here.rest → w.finish m v → Walked w st v here
  finished st m mid here v h t a d f =
      let u = began_top st m mid h t in
      let l = alike_trans h.last mid here h.here a in
      record {
        top = u;
        number = h.number;
        part = m;
        last = h.last;
        steps = h.steps;
        done = subst (w.done m) (alike_rest h.last here l) d;
        made = f;
        left = l;
      }

  -- where no step is made and no reading ends, no value is read
  pub none_walked : (st : State) (m : M) (mid here : State) → SoFar w st m mid → AreAlike mid here
      → ((n x : M) (b : State) → w.alike m n → w.step here n x b → ⊥) → (w.done m here.rest → ⊥) → NoneStands (Walked w) st
  none_walked st m mid here h a none ends v b k =
      let g = goes_on w h.number k.number st w.blank w.blank m k.part h.last k.last w.blank_alike h.steps k.steps k.done in
      by_more g.more g refl
    where
      by_more : (more : ℕ) (g : GoesOn w h.last m k.part k.last) → g.more ≡ more → ⊥
      by_more zero g e =
          let s : Steps w 0 g.at g.part k.part g.last = subst (λ n. Steps w n g.at g.part k.part g.last) e g.steps in
          let d : w.done k.part g.last.rest = subst (w.done k.part) (sym (alike_rest k.last g.last g.ends)) k.done in
          let back : w.done g.part g.at.rest = subst (λ (q : State). w.done g.part q.rest) s.1 (subst (λ p. w.done p g.last.rest) s.0 d) in
          ends (w.done_alike g.part m here.rest (w.alike_sym m g.part g.like)
          (subst (w.done g.part) (alike_rest h.last g.at g.here ∙ sym (alike_rest h.last here (alike_trans h.last mid here h.here a))) back))
      by_more (suc n) g e =
          let s : Steps w (suc n) g.at g.part k.part g.last = subst (λ n. Steps w n g.at g.part k.part g.last) e g.steps in
          let f = w.step_looked here.ahead g.at g.part s.0 s.1 s.2 in
          let same : looking here.ahead g.at ≡ here =
          sym (alike_trans g.at h.last here (alike_sym h.last g.at g.here) (alike_trans h.last mid here h.here a)) in
          none g.part s.0 (looking f.0 s.1) g.like (subst (λ (q : State). w.step q g.part s.0 (looking f.0 s.1)) same f.1)

  abbrev Refuses : State → Error → State → Type 0
  Refuses st e new = RefusesAt w.takes_memory (Walked w) (WalkFault w) st e new

  -- where something is open from the beginning, nothing was read yet
  pub top_fault : (st : State) (m : M) (mid : State) (x : Located) → SoFar w st m mid → Here NotTop mid x → WalkFault w st x
  top_fault st m mid x h n = by_number h.number refl
    where
      by_number : (k : ℕ) → h.number ≡ k → WalkFault w st x
      by_number zero i = not_top (subst (λ (q : State). Here NotTop q x) (h.first i) n)
      by_number (suc k) i =
          let s = so_far_stays st m mid h in
          let t = steps_top w h.number st w.blank m h.last (λ z. (let q = sym i ∙ z in absurd (cc))) h.steps in
          absurd (n.0.0 (s.place ∙ t.1) (s.saved ∙ t.2) (still_among s ∙ t.3))

  -- the look at what comes next was refused
  pub look_refused : {A : Type 0} (p : State → A → State → Type 0) (f : State → Located → Type 0) (st : State) (m : M) (mid : State)
      (e : Error) (new : State) → SoFar w st m mid → ((x : Located) → f mid x → Here NotTop mid x ⊎ w.fault mid m x)
      → ((x : Located) → f mid x → IsAtTop mid → NoneStands (Walked w) st) → RefusesAt false p f mid e new → Refuses st e new
  look_refused p f st m mid e new h named none r =
      let s = so_far_stays st m mid h in
      record {
        kept = answered_later s.sound r.kept;
        again = again h.number refl;
        named = λ g. or_else (excused_as e new no_memory) (placed_later st mid new s.sound (λ x n. by_fault x (named x n)))
            (r.named (s.error ∙ g));
        none = by_error mid.error refl;
      }
    where
      again : (n : ℕ) → h.number ≡ n → (d : Error) → st.error ≡ Some d → (d ≡ e) × (new ≡ st)
      again zero i d x =
          let j = h.first i in
          subst (λ (q : State). (d ≡ e) × (new ≡ q)) j (r.again d (subst (λ (q : State). q.error ≡ Some d) (sym j) x))
      again (suc n) i d x =
          let g = steps_top w h.number st w.blank m h.last (λ z. (let q = sym i ∙ z in absurd (cc))) h.steps in
          let going = g.0 in absurd (cc)

      by_fault : (x : Located) → Here NotTop mid x ⊎ w.fault mid m x → WalkFault w st x
      by_fault x (inl n) = top_fault st m mid x h n
      by_fault x (inr f) = in_step h.number m h.last mid h.steps h.here f

      by_error : (o : Option Error) → mid.error ≡ o → IsExcused w.takes_memory e new ⊎ NoneStands (Walked w) st
      by_error None i =
          or_else (excused_as e new no_memory)
          (λ x v b k.
          (let s = so_far_stays st m mid h in
          none _ x.1 (i, s.place ∙ k.top.1, s.saved ∙ k.top.2, still_among s ∙ k.top.3) v b k)) (r.named i)
      by_error (Some d) i = inr (λ v b k. (let j = (so_far_stays st m mid h).error ∙ k.top.0 in absurd (cc)))

  -- at the top level only, where nothing else refuses it
  pub peek_refused : {A : Type 0} (p : State → A → State → Type 0) (st : State) (m : M) (mid : State) (e : Error) (new : State)
      → SoFar w st m mid → RefusesAt false p (Here NotTop) mid e new → Refuses st e new
  peek_refused p st m mid e new h r =
      look_refused p (Here NotTop) st m mid e new h (λ x n. inl n) (λ x n t v b k. n.0.0 t.1 t.2 t.3) r

  -- the next step was refused
  pub step_refused : {A : Type 0} {a : Bool} (p : State → A → State → Type 0) (f : State → Located → Type 0) (st : State) (m : M)
      (mid here : State) (e : Error) (new : State) → SoFar w st m mid → IsAtTop mid → AreAlike mid here
      → (a ≡ true → w.takes_memory ≡ true) → ((x : Located) → f here x → w.fault here m x)
      → (NoneStands p here → (n x : M) (b : State) → w.alike m n → w.step here n x b → ⊥) → (w.done m here.rest → ⊥)
      → RefusesAt a p f here e new → Refuses st e new
  step_refused p f st m mid here e new h t a may named none ends r =
      let s = stays_then (so_far_stays st m mid h) (alike_stays mid here a) in
      let u = began_top st m mid h t in
      record {
        kept = answered_later s.sound r.kept;
        again = λ d x. (let going = u.0 in absurd (cc));
        named = λ g.
            or_else (excused_as e new may)
            (placed_later {g = WalkFault w st} st here new s.sound
            (λ x n. in_step h.number m h.last here h.steps (alike_trans h.last mid here h.here a) (named x n))) (r.named (s.error ∙ g));
        none = or_else (excused_as e new may) (λ n. none_walked st m mid here h a (none n) ends) r.none;
      }

  -- memory ran out
  pub ran_out : (st : State) (m : M) (mid here : State) (e : Error) (new : State) → w.takes_memory ≡ true → SoFar w st m mid
      → IsAtTop mid → Stays mid here → RefusesBy Memory here e new → Refuses st e new
  ran_out st m mid here e new takes h t a refused =
      let s = stays_then (so_far_stays st m mid h) a in
      let u = began_top st m mid h t in
      let going = s.error ∙ u.0 in
      let is = (refused going).0 in
      record {
        kept = answered_later s.sound (first_kept {st = here} going refused);
        again = λ d x. (let g = u.0 in absurd (cc));
        named = λ _. inl (inl (takes, is));
        none = inl (inl (takes, is));
      }

  -- what was read makes no value
  pub none_made : (st : State) (m : M) (mid here : State) (e : Error) → SoFar w st m mid → AreAlike mid here → w.done m here.rest
      → w.unfinished m e → NoneStands (Walked w) st
  none_made st m mid here e h a d f v b k =
      let g = goes_on w h.number k.number st w.blank w.blank m k.part h.last k.last w.blank_alike h.steps k.steps k.done in
      by_more g.more g refl
    where
      by_more : (more : ℕ) (g : GoesOn w h.last m k.part k.last) → g.more ≡ more → ⊥
      by_more zero g i =
          let s : Steps w 0 g.at g.part k.part g.last = subst (λ n. Steps w n g.at g.part k.part g.last) i g.steps in
          w.finish_or k.part m v e (w.alike_sym m k.part (subst (w.alike m) (sym s.0) g.like)) k.made f
      by_more (suc n) g i =
          let s : Steps w (suc n) g.at g.part k.part g.last = subst (λ n. Steps w n g.at g.part k.part g.last) i g.steps in
          w.done_ends g.at g.part m s.0 s.1 (w.alike_sym m g.part g.like) s.2
          (subst (w.done m) (alike_rest h.last here (alike_trans h.last mid here h.here a) ∙ sym (alike_rest h.last g.at g.here)) d)

  pub unmade : (st : State) (m : M) (mid here : State) (error e : Error) (new : State) → SoFar w st m mid → IsAtTop mid
      → AreAlike mid here → w.done m here.rest → w.unfinished m error → RefusesBy error here e new → StandsHere here new
      → Refuses st e new
  unmade st m mid here error e new h t a d f refused at =
      let s = stays_then (so_far_stays st m mid h) (alike_stays mid here a) in
      let u = began_top st m mid h t in
      let going = s.error ∙ u.0 in
      let is = (refused going).0 in
      let left = subst (w.done m) (alike_rest h.last here (alike_trans h.last mid here h.here a)) d in
      record {
        kept = answered_later s.sound (first_kept {st = here} going refused);
        again = λ d x. (let g = u.0 in absurd (cc));
        named = λ _. inr (
          length here.rest,
          not_made h.number m h.last h.steps left (subst (w.unfinished m) (sym is) f)
              (ap length (alike_rest h.last here (alike_trans h.last mid here h.here a))),
          before_later st here (length here.rest) new s.sound (at going),
        );
        none = inr (none_made st m mid here error h a d f);
      }

  -- what is read behind a look at what comes next
  steps_behind : (n : ℕ) (st here : State) (m x : M) (b : State) → AreAlike here st → Steps w n here m x b
      → (last : State) × Steps w n st m x last × AreAlike last b
  steps_behind n st here m x b alike h =
      let f = steps_looked w n st.ahead here m x b h in
      (looking f.0 b, subst (λ (q : State). Steps w n q m x (looking f.0 b)) (sym alike) f.1, refl)

  pub walked_behind : (st here : State) (v : V) (b : State) → IsAtTop st → AreAlike st here → Walked w here v b → Walked w st v b
  walked_behind st here v b top alike h =
      let s = steps_behind h.number st here w.blank h.part h.last (alike_sym st here alike) h.steps in
      record {
        top = top;
        number = h.number;
        part = h.part;
        last = s.0;
        steps = s.1;
        done = subst (w.done h.part) (alike_rest s.0 h.last s.2) h.done;
        made = h.made;
        left = alike_trans s.0 h.last b s.2 h.left;
      }

  fault_behind : (st here : State) (e : Located) → IsAtTop here → AreAlike st here → WalkFault w here e → WalkFault w st e
  fault_behind st here e top alike (not_top n) = absurd (n.0.0 top.1 top.2 top.3)
  fault_behind st here e top alike (in_step n part last mid h near f) =
      let s = steps_behind n st here w.blank part last (alike_sym st here alike) h in
      in_step n part s.0 mid s.1 (alike_trans s.0 last mid s.2 near) f
  fault_behind st here e top alike (not_made n part last h d f left) =
      let s = steps_behind n st here w.blank part last (alike_sym st here alike) h in
      not_made n part s.0 s.1 (subst (w.done part) (alike_rest s.0 last s.2) d) f (left ∙ ap length (alike_rest s.0 last s.2))

  pub walk_refused_behind : {A : Type 0} (to : A → V) (st here : State) (e : Error) (new : State) → IsAtTop st → AreAlike st here
      → RefusesAt w.takes_memory (λ st v b. Walked w st (to v) b) (WalkFault w) here e new
      → RefusesAt w.takes_memory (λ st v b. Walked w st (to v) b) (WalkFault w) st e new
  walk_refused_behind to st here e new top alike r =
      let s = alike_stays st here alike in
      let top_here : IsAtTop here = (s.error ∙ top.0, s.place ∙ top.1, s.saved ∙ top.2, still_among s ∙ top.3) in
      record {
        kept = answered_later s.sound r.kept;
        again = λ d x. (let going = top.0 in absurd (cc));
        named = λ g.
            or_else (excused_as e new (λ z. z))
            (placed_later {g = WalkFault w st} st here new s.sound (λ x f. fault_behind st here x top_here alike f)) (r.named (s.error ∙ g));
        none = or_else (excused_as e new (λ z. z))
            (λ n v b k. n v b (walked_behind here st (to v) b top_here (alike_sym st here alike) k)) r.none;
      }
