-- How it is found which section of a message comes next.
use Rattle.std.proofs.Common.{◌≡◌, inr, ℕ, ◌<◌, ◌≤◌, Bool, true, false, IsTrue, [], length, Option, Some, None, ◌⊎◌, refl, sym, ap}
use Rattle.std.proofs.Common.{◌∙◌, subst, arith}
use Rattle.amqp_wire.specs.declared.error.Error.{Error}
use Rattle.amqp_wire.specs.declared.error.Error.TheVariants.{Misplaced}
use Rattle.amqp_lookahead.specs.Sections.{IsSectionAhead}
use Rattle.amqp_lookahead.proofs.SectionsAhead.{one_ahead}
use Rattle.amqp_decoder.specs.State.{State}
use Rattle.amqp_decoder.specs.Steps.{IsExcused, RefusesBy}
use Rattle.amqp_decoder.specs.Sections.{NotTop, Ends, PeeksSection}
use Rattle.amqp_decoder.proofs.Steps.{answered_later, first_kept}
use Rattle.amqp_decoder.proofs.Places.{before_later}
use Rattle.amqp_decoder.specs.Places.{Here, RefusesAt, StandsHere}
use Rattle.amqp_decoder.proofs.Places.{placed_later}
use Rattle.amqp_codec.specs.Reading.{AreAlike}
use Rattle.amqp_codec.specs.laws.Refusal.{NoneStands, excused_as, no_memory, or_else}
use Rattle.amqp_batches.specs.laws.State.{alike_stays, alike_rest, alike_trans}
use Rattle.amqp_batches.specs.Walk.{IsAtTop}
use Rattle.amqp_batches.specs.NoSections.{NoSection}
use Rattle.amqp_batches.proofs.WalkSteps.{peeked_alike}
use Rattle.amqp_messages.specs.declared.order.Order.{Order}
use Rattle.amqp_messages.specs.MessageKinds.{behind_section}
use Rattle.amqp_messages.specs.Orders.{further, IsFull}
use Rattle.amqp_messages.specs.Next.{FindsNext, full, at_end, section, NextFault, not_top, misplaced, not_section}

ends_alike : (st : State) (b : Bool) (mid : State) → Ends st b mid → AreAlike st mid
ends_alike st b mid h = subst (AreAlike st) (sym h.kept) refl

module _ (o : Order) (left : ℕ) where
  abbrev Refuses : State → Error → State → Type 0
  Refuses st e new = RefusesAt true (FindsNext o left) (NextFault o left) st e new

  finds_top : (st : State) (v : Option ℕ) (b : State) → (IsFull o left → ⊥) → FindsNext o left st v b → IsAtTop st
  finds_top st v b some (full f i j) = absurd (some f)
  finds_top st v b some (at_end t r i a) = t
  finds_top st v b some (section t f a p i l) = t

  -- the look at the section was refused
  pub peek_refused : (st : State) (e : Error) (new : State) → (IsFull o left → ⊥) → RefusesAt false PeeksSection (Here NotTop) st e new
      → Refuses st e new
  peek_refused st e new some q = record {
    kept = q.kept;
    again = q.again;
    named = λ g. or_else (excused_as e new no_memory) (placed_later {g = NextFault o left st} st st new refl (λ x n. not_top n)) (q.named g);
    none = by_error st.error refl;
  }
    where
      by_error : (x : Option Error) → st.error ≡ x → IsExcused true e new ⊎ NoneStands (FindsNext o left) st
      by_error None i =
          or_else (excused_as e new no_memory)
          (λ n v b h. (let t = finds_top st v b some h in n.1.0.0 t.1 t.2 t.3)) (q.named i)
      by_error (Some d) i = inr (λ v b h. (let t = finds_top st v b some h in let g = t.0 in absurd (cc)))

  module _ (st : State) (found : Option ℕ) (here : State) (some : IsFull o left → ⊥) (p : PeeksSection st found here) where
    alike : AreAlike st here
    alike = peeked_alike st found here p

    top : IsAtTop st
    top = (p.going, p.place, p.saved, p.among)

    ahead : (c : ℕ) → found ≡ Some c → IsSectionAhead st.rest c
    ahead c i = (let a = p.answer c in a.0 i)

    pub section_found : (c : ℕ) → found ≡ Some c → further o left (behind_section c) < left → FindsNext o left st (Some c) here
    section_found c i l = section top some (ahead c i) l refl alike

    -- it may not stand there
    pub misplaced_refused : (c : ℕ) (e : Error) (new : State) → found ≡ Some c → left ≤ further o left (behind_section c)
        → RefusesBy Misplaced here e new → StandsHere here new → Refuses st e new
    misplaced_refused c e new i l refused at =
        let s = alike_stays st here alike in
        let going = s.error ∙ p.going in
        record {
          kept = answered_later s.sound (first_kept {st = here} going refused);
          again = λ d x. (let g = p.going in absurd (cc));
          named = λ _. inr (
            length here.rest,
            misplaced some (ahead c i) l (refused going).0 (ap length (alike_rest st here alike)),
            before_later st here (length here.rest) new s.sound (at going),
          );
          none = inr none;
        }
      where
        none : NoneStands (FindsNext o left) st
        none v x (full f j k) = some f
        none v x (at_end t r j a) = let z = ap length (sym (ahead c i).split ∙ r) in absurd (cc)
        none v x (section {c = d} t f a q j k) =
            let same = one_ahead st.rest d c a (ahead c i) in omega (arith, l, subst (λ z. further o left (behind_section z) < left) same q)

    module _ (absent : found ≡ None) where
      none_ahead : (c : ℕ) → IsSectionAhead st.rest c → ⊥
      none_ahead c k = let a = p.answer c in let z = sym absent ∙ a.1 k in absurd (cc)

      module _ (b : Bool) (mid : State) (h : Ends here b mid) where
        alike_mid : AreAlike st mid
        alike_mid = alike_trans st here mid alike (ends_alike here b mid h)

        -- none comes next
        pub not_section_refused : (e : Error) (new : State) → b ≡ false → RefusesAt true (λ st (none : Unit {0}) b. ⊥) NoSection mid e new
            → Refuses st e new
        not_section_refused e new more q =
            let s = alike_stays st mid alike_mid in
            record {
              kept = answered_later s.sound q.kept;
              again = λ d x. (let g = p.going in absurd (cc));
              named = λ _. or_else (λ x. x)
                  (placed_later {g = NextFault o left st} st mid new s.sound (λ x n. not_section some not_ended none_ahead alike_mid n))
                  (q.named (s.error ∙ p.going));
              none = inr none;
            }
          where
            not_ended : st.rest ≡ [] → ⊥
            not_ended r =
                let a = h.answer in
                let t : IsTrue b = a.1 (alike_rest st here alike ∙ r) in let z : false ≡ true = sym more ∙ t in absurd (cc)

            none : NoneStands (FindsNext o left) st
            none v x (full f j k) = some f
            none v x (at_end t r j a) = not_ended r
            none v x (section {c = d} t f a l j k) = none_ahead d a
