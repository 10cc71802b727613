-- Where bytes are no message, and what is wrong there (Part 3, section 3.2).
use Rattle.std.specs.Prelude.{◌≡◌, ◌⊎◌, ◌<◌, ◌≤◌, ℕ, Bool, true, false, List, [], ◌∷◌, ◌++◌, length, None}
use Rattle.amqp_wire.specs.declared.error.Error.{Error}
use Rattle.amqp_wire.specs.declared.error.Error.TheVariants.{EmptyBody, Misplaced}
use Rattle.amqp_lookahead.specs.Sections.{IsSectionAhead}
use Rattle.amqp_batches.specs.Spellings.{Spells, Are}
use Rattle.amqp_batches.specs.SpellingFaults.{Faults, IsNoTerm}
use Rattle.amqp_bodies.specs.Bodies.{Made}
use Rattle.amqp_messages.specs.Kinds.{Kinds, none, kind, ForEach, Group, IsGroup, is_in, nothing, put_all, behind, Fall}
use Rattle.amqp_messages.specs.MessageKinds.{seven, by_type, spelled, body_in, behind_section}

-- The faults of each kind, and those of the kind whose sections may have this code.
abbrev pub KindFaults : Kinds → Type 1
KindFaults ks = ForEach (λ _. Faults) ks

abbrev pub IsKindFault : (ks : Kinds) → KindFaults ks → ℕ → Faults
IsKindFault none fs c at e = ⊥
IsKindFault (kind T codes ks) fs c at e = ((is_in codes c ≡ true) × fs.0 at e) ⊎ IsKindFault ks fs.1 c at e

-- What begins as a section of this code has the fault: a group of a body, or one section.
abbrev pub IsGroupFault : Type 0 → Faults → ℕ → Faults
IsGroupFault S body c at e = IsKindFault (seven S) (by_type {F = λ _. Faults} (λ T u. IsNoTerm) {S = S} body) c at e

-- Bytes are there, and no section comes next.
abbrev pub IsNoSection : Faults
IsNoSection at e = (at ≡ [] → ⊥) × ((c : ℕ) → IsSectionAhead at c → ⊥) × IsNoTerm at e

module _ {S B : Type 0} (made : Made S B) (group : Spells S) where
  -- There is no body, and nothing takes its place.
  abbrev pub HasNoBody : List (Group (seven S)) → Error → Type 0
  HasNoBody groups e =
      (body_in (put_all (seven S) groups (nothing (seven S))) ≡ None) × (e ≡ EmptyBody)
      × ((v : B) → made.empty v → ⊥)

  -- Of these bytes, behind some whole groups, this is so.
  pub record IsBehindGroups (why : List (Group (seven S)) → List ℕ → Type 0) (input : List ℕ) : Type 0 where
    pub bytes : List ℕ
    pub groups : List (Group (seven S))
    pub at : List ℕ
    pub split : input ≡ bytes ++ at
    pub are : Are (IsGroup (seven S) (spelled group)) bytes groups at
    pub is : why groups at

  -- Behind at most six groups the next one has the fault, or there is none; or of all of them no message is made.
  abbrev pub HasFault : Faults → Error → List (Group (seven S)) → List ℕ → Type 0
  HasFault body e groups at =
      ((length groups < 7) × (((c : ℕ) × IsSectionAhead at c × IsGroupFault S body c at e) ⊎ IsNoSection at e))
      ⊎ ((length groups ≤ 7) × ((length groups ≡ 7) ⊎ (at ≡ [])) × HasNoBody groups e)

  abbrev pub IsMessageFault : Faults → Faults
  IsMessageFault body input e = IsBehindGroups (HasFault body e) input

  -- How many kinds may still come behind these groups.
  abbrev pub left_behind : ℕ → List (Group (seven S)) → ℕ
  left_behind n [] = n
  left_behind n (g ∷ gs) = left_behind (behind (seven S) g) gs

  -- The same in the standard's order: the section that comes next may also be out of its place.
  abbrev pub HasStrictFault : Faults → Error → List (Group (seven S)) → List ℕ → Type 0
  HasStrictFault body e groups at =
      Fall (seven S) 7 groups × ((((c : ℕ) × IsSectionAhead at c
      × (((behind_section c < left_behind 7 groups) × IsGroupFault S body c at e)
      ⊎ ((left_behind 7 groups ≤ behind_section c) × (e ≡ Misplaced))))
      ⊎ IsNoSection at e) ⊎ ((at ≡ []) × HasNoBody groups e))

  abbrev pub IsStrictFault : Faults → Faults
  IsStrictFault body input e = IsBehindGroups (HasStrictFault body e) input
