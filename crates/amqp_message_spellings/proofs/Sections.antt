-- The bytes of a message are sections, one after another, and those are what an iterator over its sections returns.
use Rattle.std.proofs.Common.{◌≡◌, inl, inr, ℕ, List, [], ◌∷◌, ◌++◌, map, Some, None, refl, sym, ap, ◌∙◌, subst, append_assoc}
use Rattle.std.proofs.lemmas.List.{append-nil, append_cancel_left}
use Rattle.amqp_model.proofs.Unique.{one_front}
use Rattle.amqp_lookahead.specs.Sections.{IsSectionAhead}
use Rattle.amqp_lookahead.proofs.SectionsAhead.{one_ahead}
use Rattle.amqp_lengths.specs.Lengths.{IsTerm as IsWholeTerm}
use Rattle.amqp_codec.specs.TermType.{TermType}
use Rattle.amqp_codec.specs.Spelled.{IsSpelled}
use Rattle.amqp_sections.specs.declared.amqp_sequence.AmqpSequence.{AmqpSequence}
use Rattle.amqp_sections.specs.declared.amqp_value.AmqpValue.{AmqpValue}
use Rattle.amqp_sections.specs.declared.data.Data.{Data as DataSection}
use Rattle.amqp_bodies.specs.declared.body.Body.TheVariants.{Value, Data, Sequence, Empty}
use Rattle.amqp_bodies.specs.Bodies.{Made}
use Rattle.amqp_bodies.specs.SpelledBodies.{IsBody, IsThere}
use Rattle.amqp_messages.specs.Kinds.{Kinds, none, kind, ForEach, Group, IsGroup}
use Rattle.amqp_messages.specs.MessageKinds.{seven, spelled, IsMessage, IsStrictMessage}
use Rattle.amqp_section_slices.specs.declared.section_kind.SectionKind.{SectionKind}
use Rattle.amqp_section_slices.specs.Kinds.{code_of}
use Rattle.amqp_section_slices.specs.Slices.{BeginsWithSection}
use Rattle.amqp_batches.specs.Batches.{sections_in}
use Rattle.amqp_batches.specs.Spellings.{Spells, Are, IsTerm, IsSection, IsBatch}
use Rattle.amqp_message_spellings.specs.Sections.{AreSections, HasSections, IsNextOf}

append_sections : (x : List ℕ) (cs : List ℕ) (y : List ℕ) (ds : List ℕ) (more : List ℕ) → AreSections x cs (y ++ more) → AreSections y ds more
    → AreSections (x ++ y) (cs ++ ds) more
append_sections x [] y ds more e h = subst (λ z. AreSections (z ++ y) ds more) (sym e) h
append_sections x (c ∷ cs) y ds more (first, others, e, (ahead, whole), r) h = (
  first,
  others ++ y,
  ap (λ z. z ++ y) e ∙ append_assoc first others y,
  (subst (λ z. IsSectionAhead (first ++ z) c) (sym (append_assoc others y more)) ahead, whole),
  append_sections others cs y ds more r h,
)

whole_term : {T : Type 0} (u : TermType T) (b : List ℕ) (v : T) → IsSpelled u b v → IsWholeTerm 128 b
whole_term u b v s = (s.term, s.spelled, s.nested)

one_section : (b : List ℕ) (c : ℕ) (more : List ℕ) → IsSectionAhead (b ++ more) c → IsWholeTerm 128 b → AreSections b (c ∷ []) more
one_section b c more ahead whole = (b, [], sym (append-nil b), (ahead, whole), refl)

run_sections : {T : Type 0} (c : ℕ) (u : TermType T) (b : List ℕ) (vs : List T) (more : List ℕ) → Are (IsSection c (IsTerm u)) b vs more
    → AreSections b (map (λ _. c) vs) more
run_sections c u b [] more e = e
run_sections c u b (v ∷ vs) more (first, others, e, (ahead, spelled), h) =
    (first, others, e, (ahead, whole_term u first v spelled), run_sections c u others vs more h)

-- Where a section comes next, the bytes that spell a value are sections.
abbrev pub AreOfSections : {T : Type 0} → Spells T → Type 0
AreOfSections {T} spells = (b : List ℕ) (v : T) (more : List ℕ) (c : ℕ) → IsSectionAhead (b ++ more) c → spells b v more → HasSections b more

pub term_of_sections : {T : Type 0} (u : TermType T) → AreOfSections (IsTerm u)
term_of_sections u b v more c ahead spelled = (c ∷ [], one_section b c more ahead (whole_term u b v spelled))

pub batch_of_sections : {T : Type 0} (k : ℕ) (u : TermType T) → AreOfSections (IsBatch k (IsTerm u))
batch_of_sections k u b v more c ahead (are, ends) = (map (λ _. k) (sections_in v), run_sections k u b (sections_in v) more are)

pub there_of_sections : {T : Type 0} (u : TermType T) → AreOfSections (IsThere (IsTerm u))
there_of_sections u b None more c ahead spelled = absurd spelled
there_of_sections u b (Some v) more c ahead spelled = term_of_sections u b v more c ahead spelled

pub body_of_sections : {T : Type 0} (value : TermType (AmqpValue T)) (data_ : TermType DataSection) (sequence : TermType (AmqpSequence T))
    → AreOfSections (IsBody value data_ sequence)
body_of_sections value data_ sequence b (Value v) more c ahead (at, spelled) = term_of_sections value b v more c ahead spelled
body_of_sections value data_ sequence b (Data v) more c ahead (at, spelled) = batch_of_sections 0x75 data_ b v more c ahead spelled
body_of_sections value data_ sequence b (Sequence v) more c ahead (at, spelled) = batch_of_sections 0x76 sequence b v more c ahead spelled
body_of_sections value data_ sequence b Empty more c ahead spelled = absurd spelled

-- So of each kind of groups.
abbrev pub AllOfSections : (ks : Kinds) → ForEach Spells ks → Type 0
AllOfSections none ss = Unit {0}
AllOfSections (kind T codes ks) ss = AreOfSections ss.0 × AllOfSections ks ss.1

group_sections : (ks : Kinds) (ss : ForEach Spells ks) → AllOfSections ks ss → (b : List ℕ) (g : Group ks) (more : List ℕ)
    → IsGroup ks ss b g more → HasSections b more
group_sections none ss all b g more h = absurd h
group_sections (kind T codes ks) ss all b (inl g) more (comes, spelled) = all.0 b g more comes.code comes.ahead spelled
group_sections (kind T codes ks) ss all b (inr g) more h = group_sections ks ss.1 all.1 b g more h

groups_sections : (ks : Kinds) (ss : ForEach Spells ks) → AllOfSections ks ss → (gs : List (Group ks)) (b more : List ℕ)
    → Are (IsGroup ks ss) b gs more → HasSections b more
groups_sections ks ss all [] b more e = ([], e)
groups_sections ks ss all (g ∷ gs) b more (first, others, e, h, are) =
    let x = group_sections ks ss all first g (others ++ more) h in
    let y = groups_sections ks ss all gs others more are in (
      x.0 ++ y.0,
      subst (λ z. AreSections z (x.0 ++ y.0) more) (sym e) (append_sections first x.0 others y.0 more x.1 y.1),
    )

pub next_section : (b : List ℕ) (c : ℕ) (cs : List ℕ) (more : List ℕ) (named : SectionKind) (bytes rest : List ℕ)
    → AreSections b (c ∷ cs) more → BeginsWithSection (b ++ more) named bytes rest → IsNextOf b c cs more named bytes rest
next_section b c cs more named bytes rest (first, others, e, (ahead, (t, spelled, nested)), are) k =
    let split : b ++ more ≡ first ++ (others ++ more) = ap (λ z. z ++ more) e ∙ append_assoc first others more in
    let both : first ++ (others ++ more) ≡ bytes ++ rest = sym split ∙ k.split in
    let same : first ≡ bytes = one_front first bytes (others ++ more) rest t k.term.0 spelled k.term.1 both in
    record {
      others = others;
      is = e ∙ ap (λ z. z ++ others) same;
      left = append_cancel_left bytes rest (others ++ more) (sym both ∙ ap (λ z. z ++ (others ++ more)) same);
      code = one_ahead (b ++ more) (code_of named) c k.ahead (subst (λ z. IsSectionAhead z c) (sym split) ahead);
      are = are;
    }

module _ {S B : Type 0} (made : Made S B) (group : Spells S) (of_sections : AreOfSections group) where
  all_kinds : AllOfSections (seven S) (spelled group)
  all_kinds = (
    term_of_sections _,
    (
      term_of_sections _,
      (term_of_sections _, (term_of_sections _, (term_of_sections _, (of_sections, (term_of_sections _, tt))))),
    ),
  )

  pub message_sections : (b : List ℕ) (v : _) (more : List ℕ) → IsMessage made group b v more → HasSections b more
  message_sections b v more h = groups_sections (seven S) (spelled group) all_kinds h.groups b more h.are

  pub strict_sections : (b : List ℕ) (v : _) (more : List ℕ) → IsStrictMessage made group b v more → HasSections b more
  strict_sections b v more h = groups_sections (seven S) (spelled group) all_kinds h.groups b more h.are
