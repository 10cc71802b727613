-- How what is made of the body of a message is written, and read again from its text.
use Rattle.std.proofs.Common.{subst, sym, refl, ◌⊎◌, inl, inr, [], ◌≡◌, ℕ, Bool, false, List, ◌++◌, refl}
use Rattle.amqp_lookahead.specs.Sections.{IsSectionAhead}
use Rattle.amqp_encoder.specs.Passes.{row_text}
use Rattle.amqp_model.specs.FieldType.{normal}
use Rattle.amqp_codec.specs.TermType.{TermType}
use Rattle.amqp_codec.specs.TermReading.{reading_of}
use Rattle.amqp_codec.specs.Agreement.{Agreement}
use Rattle.amqp_codec.specs.Reading.{Reading, BeginsWith}
use Rattle.amqp_codec.specs.Rewriting.{Rewriting}
use Rattle.amqp_codec.specs.Written.{Writing}
use Rattle.amqp_batches.specs.Bounds.{IsBoundByLimits}
use Rattle.amqp_batches.specs.laws.Bound.{term_bound}
use Rattle.amqp_batches.specs.Sections.{IsSection}
use Rattle.amqp_batches.specs.Batches.{sections_in, batch_reading, batch_writing, batch_again}
use Rattle.amqp_batches.specs.SectionGroups.{run_reading, group_bound, section_text, batch_text}
use Rattle.amqp_batches.specs.laws.Walk.{no_term}
use Rattle.amqp_batches.specs.GroupTexts.{GroupText, IsSound, widened}
use Rattle.amqp_bodies.specs.Bodies.{Made, Empties, itself, section_made, AreLinked, alike, both_empty, by_way_of, itself_or_empty}
use Rattle.amqp_bodies.specs.SeenReading.{seen_reading, seen_bound, seen_text}
use Rattle.amqp_bodies.specs.BodyRewriting.{IsBodyCode}

-- The text of a body that lasts is read again.
pub record IsBodyGroup {B : Type 0} (reading : Reading B) (writing : Writing B) (follows : List ℕ → Type 0) (again : B → B)
    (kept lasts : B → Type 0) : Type 0 where
  pub bound : IsBoundByLimits reading
  pub rewriting : Rewriting reading writing.canons writing.is_value follows again kept lasts false
  -- that of what was read is
  pub lasting : (input : List ℕ) (v : B) (n : ℕ) → BeginsWith reading input v n → lasts v
  -- it begins as one of a body's sections, and ends where none follows
  pub begins : (v : B) → writing.is_value v → lasts v → (more : List ℕ)
      → (c : ℕ) × IsBodyCode c × IsSectionAhead (row_text (writing.canons v) ++ more) c
  pub ends : (more : List ℕ) → ((c : ℕ) → IsBodyCode c → IsSectionAhead more c → ⊥) → follows more

-- As a group of a message.
abbrev pub body_group : {B : Type 0} {reading : Reading B} {writing : Writing B} {follows : List ℕ → Type 0} {again : B → B}
    {kept lasts : B → Type 0} → IsBodyGroup reading writing follows again kept lasts → GroupText reading IsBodyCode
body_group {writing = writing} {follows} {again} {kept} {lasts} g = record {
  writing = writing;
  follows = follows;
  again = again;
  kept = kept;
  lasts = lasts;
  is_least = false;
  bound = g.bound;
  rewriting = g.rewriting;
  lasting = g.lasting;
  begins = g.begins;
  ends = g.ends;
}

-- A value is its own body, or takes the place of one that isn't there, and its text is read again if it lasts.
pub record IsBodyText {B : Type 0} (made : Made B B) (writing : Writing B) (follows : List ℕ → Type 0) (again : B → B)
    (kept lasts : B → Type 0) : Type 0 where
  pub group : IsBodyGroup made.group writing follows again kept lasts
  pub to_body : (s v : B) → made.of_body s v → v ≡ s
  pub of_itself : (v : B) → made.of_body v v
  pub empty_sound : (v : B) → made.empty v → IsSound (body_group group) v
  pub to_same : (v w : B) → made.same v w → made.group.same v w
  pub from_same : (v w : B) → made.group.same v w → made.same v w

forget_least : {T : Type 0} {r : Reading T} {canons : T → List _} {is_value : T → Type 0} {follows : List ℕ → Type 0} {again : T → T}
    {kept lasts : T → Type 0} {is_least : Bool} → Rewriting r canons is_value follows again kept lasts is_least
    → Rewriting r canons is_value follows again kept lasts false
forget_least x = record {
  alone = x.alone;
  canons_same = x.canons_same;
  reads_again = x.reads_again;
  text_again = x.text_again;
  value = x.value;
  own = x.own;
  large = x.large;
  bounded = x.bounded;
  least = λ l. absurd (no_term l);
}

pub group_is_body : {B : Type 0} {reading : Reading B} (t : GroupText reading IsBodyCode)
    → IsBodyGroup reading t.writing t.follows t.again t.kept t.lasts
group_is_body t =
    record { bound = t.bound; rewriting = forget_least t.rewriting; lasting = t.lasting; begins = t.begins; ends = t.ends }

-- What is read as itself is written as itself.
pub itself_text : {B : Type 0} (r : Reading B) (bound : IsBoundByLimits r) (t : GroupText r IsBodyCode)
    → IsBodyText (itself r bound) t.writing t.follows t.again t.kept t.lasts
itself_text r bound t = record {
  group = group_is_body t;
  to_body = λ s v e. e;
  of_itself = λ v. refl;
  empty_sound = λ v h. absurd h;
  to_same = λ v w h. h;
  from_same = λ v w h. h;
}

linked_same : {S : Type 0} (r : Reading S) (empty : S → Type 0) → ((v w : S) → empty v → empty w → r.same v w) → (v w : S)
    → AreLinked r.same empty v w → r.same v w
linked_same r empty one v w (alike h) = h
linked_same r empty one v w (both_empty h k) = one v w h k
linked_same r empty one v w (by_way_of x h k) = r.same_trans v x w (linked_same r empty one v x h) (linked_same r empty one x w k)

-- So is what takes the place of a body, if there is one such value at most.
pub itself_or_empty_text : {B : Type 0} (r : Reading B) (bound : IsBoundByLimits r) (e : Empties B) (t : GroupText r IsBodyCode)
    → ((v : B) → e.is v → IsSound (body_group (group_is_body t)) v) → ((v w : B) → e.is v → e.is w → r.same v w)
    → IsBodyText (itself_or_empty r bound e) t.writing t.follows t.again t.kept t.lasts
itself_or_empty_text r bound e t sound one = record {
  group = group_is_body t;
  to_body = λ s v i. i;
  of_itself = λ v. refl;
  empty_sound = sound;
  to_same = linked_same r e.is one;
  from_same = λ v w h. alike h;
}

-- One section.
pub section_is_text : {S : Type 0} (c : ℕ) {u : TermType S} {w : Writing S} → IsSection c w → Agreement u w → IsBodyCode c
    → IsBodyText (section_made u) w (λ _. Unit {0}) (normal u.norm) (λ _. Unit {0}) (λ _. Unit {0})
section_is_text c {u} s a is =
    itself_text (reading_of u) (term_bound u) (widened (λ k e. subst IsBodyCode (sym e) is) (section_text c s a))

repeated_code : (c : ℕ) → (c ≡ 0x75) ⊎ (c ≡ 0x76) → IsBodyCode c
repeated_code c (inl e) = inl e
repeated_code c (inr e) = inr (inl e)

-- Several of one kind, of which there is one at least.
pub batch_is_text : {T : Type 0} (c : ℕ) {u : TermType T} {w : Writing T} → IsSection c w → Agreement u w → (c ≡ 0x75) ⊎ (c ≡ 0x76)
    → IsBodyText (itself (seen_reading (run_reading c (batch_reading c (reading_of u)))) (seen_bound _ (group_bound c u)))
    (batch_writing w) (λ more. IsSectionAhead more c → ⊥) (batch_again u) (λ _. Unit {0}) (λ b. sections_in b ≡ [] → ⊥)
batch_is_text c {u} s a is =
    itself_text (seen_reading (run_reading c (batch_reading c (reading_of u)))) (seen_bound _ (group_bound c u))
    (widened (λ k e. repeated_code k (subst (λ z. (z ≡ 0x75) ⊎ (z ≡ 0x76)) (sym e) is)) (seen_text _ (batch_text c s a)))
