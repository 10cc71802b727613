-- The faults of messages are those of their bytes.
use Rattle.std.proofs.Common.{◌≡◌, ◌⊎◌, inl, inr, ℕ, zero, suc, ◌-◌, ◌<◌, ◌≤◌, List, [], ◌∷◌, ◌++◌, length, refl, sym, ap, ◌∙◌, subst, arith}
use Rattle.amqp_wire.specs.declared.error.Error.{Error}
use Rattle.amqp_wire.specs.declared.error.Error.TheVariants.{Misplaced}
use Rattle.amqp_lookahead.specs.Sections.{IsSectionAhead}
use Rattle.amqp_decoder.specs.State.{State}
use Rattle.amqp_decoder.specs.Places.{Located}
use Rattle.amqp_batches.specs.laws.Resuming.{IsUnlimited, fresh_top}
use Rattle.amqp_batches.specs.laws.State.{alike_rest}
use Rattle.amqp_batches.specs.Walk.{Walk, WalkFault, not_top, in_step, not_made}
use Rattle.amqp_batches.specs.WalkReading.{walk_reading, reading_via}
use Rattle.amqp_batches.specs.Spellings.{Spells, Are}
use Rattle.amqp_batches.specs.SpellingFaults.{Faults}
use Rattle.amqp_batches.specs.laws.ReadAs.{IsReadAs}
use Rattle.amqp_batches.specs.laws.NoTerms.{also_free, no_section_named}
use Rattle.amqp_batches.specs.laws.NamedAs.{IsNamedAs, term_named}
use Rattle.amqp_bodies.specs.Bodies.{Made}
use Rattle.amqp_messages.specs.declared.message.Message.{Message}
use Rattle.amqp_messages.specs.declared.order.Order.{Order}
use Rattle.amqp_messages.specs.declared.order.Order.TheVariants.{Any, Written}
use Rattle.amqp_messages.specs.Kinds.{Kinds, none, kind, Group, IsGroup, behind, put_all, nothing}
use Rattle.amqp_messages.specs.KindsReading.{Readings, KindFault}
use Rattle.amqp_messages.specs.MessageKinds.{seven, spelled, behind_section}
use Rattle.amqp_messages.specs.Groups.{Shape, Progress, GroupFault, in_group, misplaced, not_section}
use Rattle.amqp_messages.specs.Messages.{readings_of, IsUnmade, message_of, message_in}
use Rattle.amqp_messages.specs.MessageWalk.{message_walk}
use Rattle.amqp_messages.specs.laws.KindsSpelled.{left_by, TookGroups, took_groups, placed_few, left_any, placed_fall, seven_left, at_end}
use Rattle.amqp_messages.specs.laws.MessageSpelled.{are_read}
use Rattle.amqp_message_spellings.specs.Faults.{KindFaults, IsKindFault, IsGroupFault, IsNoSection, HasNoBody, IsBehindGroups, HasFault}
use Rattle.amqp_message_spellings.specs.Faults.{HasStrictFault, IsMessageFault, IsStrictFault, left_behind}

-- Each kind has the faults that its bytes have.
abbrev AreNamedAs : (ks : Kinds) → Readings ks → KindFaults ks → Type 0
AreNamedAs none rs fs = Unit {0}
AreNamedAs (kind T codes ks) rs fs = IsNamedAs rs.0 fs.0 × AreNamedAs ks rs.1 fs.1

kind_named : (ks : Kinds) (rs : Readings ks) (fs : KindFaults ks) → AreNamedAs ks rs fs → (c : ℕ) (st : State) (e : Located)
    → IsUnlimited st → KindFault ks rs c st e → IsKindFault ks fs c st.rest e.error
kind_named none rs fs n c st e free f = f
kind_named (kind T codes ks) rs fs n c st e free (inl f) = inl (f.0, n.0.named st e free f.1)
kind_named (kind T codes ks) rs fs n c st e free (inr f) = inr (kind_named ks rs.1 fs.1 n.1 c st e free f)

module _ {S B : Type 0} (made : Made S B) {group : Spells S} {body : Faults} (l : IsReadAs made.group group)
    (b : IsNamedAs made.group body) where
  abbrev ks : Kinds
  ks = seven S

  abbrev shape : Shape (Message B)
  shape = message_of made

  abbrev M : Type 0
  M = Progress ks

  abbrev blank : M
  blank = record { left = 7; part = nothing ks }

  abbrev walk : Order → Walk M (Message B)
  walk o = message_walk o shape

  group_named : (c : ℕ) (st : State) (e : Located) → IsUnlimited st → KindFault ks (readings_of made.group) c st e
      → IsGroupFault S body c st.rest e.error
  group_named c st e free f =
      kind_named ks (readings_of made.group) _
      (term_named _, (term_named _, (term_named _, (term_named _, (term_named _, (b, (term_named _, tt))))))) c st e free f

  no_body : (m : M) (e : Error) (gs : List (Group ks)) → m.part ≡ put_all ks gs (nothing ks) → IsUnmade made m.part e → HasNoBody made group gs e
  no_body m e gs is u = subst (λ f. IsUnmade made f e) is u

  next_in_any : (st : State) (m : M) (e : Located) (gs : List (Group ks)) → IsUnlimited st
      → m.left ≡ left_by ks Any 7 gs → GroupFault Any shape st m e
      → (length gs < 7) × (((c : ℕ) × IsSectionAhead st.rest c × IsGroupFault S body c st.rest e.error) ⊎ IsNoSection st.rest e.error)
  next_in_any st m e gs free left (in_group {c} a p f) =
      (omega (arith, p, left, left_any ks gs 7), inl (c, a, group_named c st e free f))
  next_in_any st m e gs free left (misplaced full a p x here) = let ended : m.left ≡ 0 = omega (arith, p) in absurd (full ended)
  next_in_any st m e gs free left (not_section full rest a f) =
      (below m.left full (left ∙ left_any ks gs 7), inr (rest, a, no_section_named st e free f))
    where
      below : (n : ℕ) → (n ≡ 0 → ⊥) → n ≡ 7 - length gs → length gs < 7
      below zero some same = absurd (some refl)
      below (suc n) some same = omega (arith, same)

  -- What stands behind the groups that were read.
  stands_behind : (o : Order) {st : State} {part : M} {last : State} (rest : List ℕ)
      (why : List (Group ks) → List ℕ → Type 0) (k : TookGroups o shape (spelled group) (are_read made l) st blank part last)
      → rest ≡ last.rest → why k.groups rest → IsBehindGroups made group why st.rest
  stands_behind o rest why k same is = record {
    bytes = k.bytes;
    groups = k.groups;
    at = rest;
    split = k.split ∙ ap (λ z. k.bytes ++ z) (sym same);
    are = subst (Are (IsGroup ks (spelled group)) k.bytes k.groups) (sym same) k.are;
    is = is;
  }

  any_fault : (st : State) (e : Located) → IsUnlimited st → WalkFault (walk Any) st e → IsMessageFault made group body st.rest e.error
  any_fault st e free (not_top n) = (let t = fresh_top st free.0 in absurd (n.0.0 t.1 t.2 t.3))
  any_fault st e free (in_step n part last mid steps a f) =
      let k = took_groups Any shape (spelled group) (are_read made l) n st blank part last free steps in
      stands_behind Any mid.rest (HasFault made group body e.error) k (alike_rest last mid a)
      (inl (next_in_any mid part e k.groups (also_free last mid k.free a) k.left f))
  any_fault st e free (not_made n part last steps done unmade left) =
      let k = took_groups Any shape (spelled group) (are_read made l) n st blank part last free steps in
      let few = placed_few ks k.groups 7 k.placed in
      stands_behind Any last.rest (HasFault made group body e.error) k refl (inr (
        few,
        seven_left ks k.groups last.rest few (subst (λ x. (x ≡ 0) ⊎ (last.rest ≡ [])) k.left done),
        no_body part e.error k.groups k.part unmade,
      ))

  -- How many kinds may come behind the last group is the same by both words.
  left_written : (gs : List (Group ks)) (n : ℕ) → left_by ks Written n gs ≡ left_behind made group n gs
  left_written [] n = refl
  left_written (g ∷ gs) n = left_written gs (behind ks g)

  next_in_order : (st : State) (m : M) (e : Located) (gs : List (Group ks)) → IsUnlimited st
      → m.left ≡ left_behind made group 7 gs → GroupFault Written shape st m e
      → ((c : ℕ) × IsSectionAhead st.rest c × (((behind_section c < left_behind made group 7 gs) × IsGroupFault S body c st.rest e.error)
      ⊎ ((left_behind made group 7 gs ≤ behind_section c) × (e.error ≡ Misplaced)))) ⊎ IsNoSection st.rest e.error
  next_in_order st m e gs free left (in_group {c} a p f) =
      inl (c, a, inl (subst (λ n. behind_section c < n) left p, group_named c st e free f))
  next_in_order st m e gs free left (misplaced {c} full a p x here) = inl (c, a, inr (subst (λ n. n ≤ behind_section c) left p, x))
  next_in_order st m e gs free left (not_section full rest a f) = inr (rest, a, no_section_named st e free f)

  strict_fault : (st : State) (e : Located) → IsUnlimited st → WalkFault (walk Written) st e
      → IsStrictFault made group body st.rest e.error
  strict_fault st e free (not_top n) = (let t = fresh_top st free.0 in absurd (n.0.0 t.1 t.2 t.3))
  strict_fault st e free (in_step n part last mid steps a f) =
      let k = took_groups Written shape (spelled group) (are_read made l) n st blank part last free steps in
      stands_behind Written mid.rest (HasStrictFault made group body e.error) k (alike_rest last mid a) (
        placed_fall ks k.groups 7 k.placed,
        inl (next_in_order mid part e k.groups (also_free last mid k.free a) (k.left ∙ left_written k.groups 7) f),
      )
  strict_fault st e free (not_made n part last steps done unmade left) =
      let k = took_groups Written shape (spelled group) (are_read made l) n st blank part last free steps in
      stands_behind Written last.rest (HasStrictFault made group body e.error) k refl (
        placed_fall ks k.groups 7 k.placed,
        inr (at_end last.rest done, no_body part e.error k.groups k.part unmade),
      )

  pub message_named : IsNamedAs (walk_reading (message_walk Any shape)) (IsMessageFault made group body)
  message_named = record { named = any_fault }

  pub strict_named : IsNamedAs (reading_via (walk_reading (message_walk Written shape)) message_in) (IsStrictFault made group body)
  strict_named = record { named = strict_fault }
