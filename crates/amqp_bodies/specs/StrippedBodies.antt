-- What stands in each kind of body in which there may be nothing (Part 3, sections 3.2.6 to 3.2.8).
use Rattle.std.proofs.Common.{◌≡◌, ◌≤◌, ◌<◌, ◌+◌, ◌⊎◌, inl, inr, ℕ, zero, suc, List, [], ◌∷◌, map, length, slice_index_or, Option, Some, None}
use Rattle.std.proofs.Common.{refl, sym, ap, ◌∙◌, subst, arith}
use Rattle.std.specs.List.{AllZip, Any, Contains}
use Rattle.amqp_model.specs.FieldRules.{SameOption}
use Rattle.amqp_codec.specs.TermType.{TermType}
use Rattle.amqp_codec.specs.OptionType.{option_of}
use Rattle.amqp_codec.specs.OptionMeaning.{count_option}
use Rattle.amqp_codec.specs.VecType.{vec_of}
use Rattle.amqp_codec.specs.Each.{count_all}
use Rattle.amqp_codec.specs.TermReading.{reading_of}
use Rattle.amqp_codec.specs.Reading.{Reading}
use Rattle.amqp_primitives.specs.Types.{binary_type}
use Rattle.amqp_sections.specs.SectionType.{section_of}
use Rattle.amqp_sections.specs.Sections.{data_naming, in_data, sequence_naming, in_sequence, value_naming, in_value}
use Rattle.amqp_sections.specs.declared.data.Data.{Data as DataSection}
use Rattle.amqp_sections.specs.declared.amqp_sequence.AmqpSequence.{AmqpSequence}
use Rattle.amqp_sections.specs.declared.amqp_value.AmqpValue.{AmqpValue}
use Rattle.amqp_batches.specs.declared.transparent_vec.TransparentVec.{TransparentVec}
use Rattle.amqp_batches.specs.Batches.{sections_in, batch_reading}
use Rattle.amqp_bodies.specs.Transposing.{Stripped, unless_empty}

-- One of the items is absent.
abbrev pub HasNone : {T : Type 0} → List (Option T) → Type 0
HasNone xs = Contains xs None

-- The items are these, and none is absent.
abbrev pub AreAll : {T : Type 0} → List (Option T) → List T → Type 0
AreAll xs vs = xs ≡ map Some vs

module _ {T : Type 0} (same : T → T → Type 0) where
  none_at : (f g : List (Option T)) (k : ℕ) → AllZip (SameOption same) f g → k < length f → slice_index_or f k None ≡ None
      → (k < length g) × (slice_index_or g k None ≡ None)
  none_at [] g k h l e = absurd (omega (arith, l))
  none_at (x ∷ f) [] k h l e = absurd h
  none_at (None ∷ f) (None ∷ g) zero h l e = (omega arith, refl)
  none_at (None ∷ f) (Some w ∷ g) zero h l e = absurd h.0
  none_at (Some v ∷ f) (y ∷ g) zero h l e = absurd (cc)
  none_at (x ∷ f) (y ∷ g) (suc k) h l e = let n = none_at f g k h.1 (omega (arith, l)) e in (let m = n.0 in omega (arith, m), n.1)

  no_none : (vs : List T) (k : ℕ) → k < length (map Some vs) → slice_index_or (map Some vs) k None ≡ None → ⊥
  no_none [] k l e = absurd (omega (arith, l))
  no_none (v ∷ vs) zero l e = absurd (cc)
  no_none (v ∷ vs) (suc k) l e = no_none vs k (omega (arith, l)) e

  -- an absent item is absent in what is the same
  pub none_apart : (f g : List (Option T)) (vs : List T) → AllZip (SameOption same) f g → HasNone f → AreAll g vs → ⊥
  none_apart f g vs h n e =
      let m = none_at f g n.0 h n.1 n.2 in
      no_none vs n.0 (subst (λ x. n.0 < length x) e m.0) (subst (λ x. slice_index_or x n.0 None ≡ None) e m.1)

  map_same : (vs ws : List T) → AllZip (SameOption same) (map Some vs) (map Some ws) → AllZip same vs ws
  map_same [] [] h = tt
  map_same [] (w ∷ ws) h = absurd h
  map_same (v ∷ vs) [] h = absurd h
  map_same (v ∷ vs) (w ∷ ws) h = (h.0, map_same vs ws h.1)

  pub all_same : (f g : List (Option T)) (vs ws : List T) → AllZip (SameOption same) f g → AreAll f vs → AreAll g ws → AllZip same vs ws
  all_same f g vs ws h i j =
      map_same vs ws (subst (λ x. AllZip (SameOption same) x (map Some ws)) i (subst (AllZip (SameOption same) f) j h))

map_counted : {T : Type 0} (count : T → ℕ) (vs : List T) → count_all count vs ≡ count_all (count_option count) (map Some vs)
map_counted count [] = refl
map_counted count (v ∷ vs) = ap (λ n. count v + n) (map_counted count vs)

pub all_counted : {T : Type 0} (count : T → ℕ) (f : List (Option T)) (vs : List T) → AreAll f vs
    → count_all count vs ≡ count_all (count_option count) f
all_counted count f vs e = map_counted count vs ∙ ap (count_all (count_option count)) (sym e)

pub no_items : {A B : Type 0} (R : A → B → Type 0) (xs : List A) (ys : List B) → AllZip R xs ys → xs ≡ [] → ys ≡ []
no_items R [] [] h e = refl
no_items R [] (y ∷ ys) h e = absurd h
no_items R (x ∷ xs) ys h e = absurd (cc)

module _ {T : Type 0} (same : T → T → Type 0) where
  pub some_same : (a b : Option T) (v w : T) → SameOption same a b → a ≡ Some v → b ≡ Some w → same v w
  some_same a b v w h i j = subst (λ x. SameOption same x (Some w)) i (subst (SameOption same a) j h)

  pub none_unlike : (a b : Option T) (w : T) → SameOption same a b → a ≡ None → b ≡ Some w → ⊥
  none_unlike a b w h i j = subst (λ x. SameOption same x (Some w)) i (subst (SameOption same a) j h)

pub some_counted : {T : Type 0} (count : T → ℕ) (a : Option T) (v : T) → a ≡ Some v → count v ≤ count_option count a
some_counted count a v e = (let z = ap (count_option count) e in omega (arith, z))

-- as many items
as_empty : {T : Type 0} (xs : List (Option T)) (vs : List T) → AreAll xs vs → xs ≡ [] → vs ≡ []
as_empty xs [] e i = refl
as_empty xs (v ∷ vs) e i = (let z = sym e ∙ i in absurd (cc))

module _ {T : Type 0} (u : TermType T) where
  abbrev values : Reading (AmqpValue T)
  values = reading_of (section_of in_value value_naming u)

  abbrev maybe_values : Reading (AmqpValue (Option T))
  maybe_values = reading_of (section_of in_value value_naming (option_of u))

  -- A null is nothing.
  abbrev pub value_stripped : Stripped maybe_values values
  value_stripped = record {
    is_nothing = λ f. f.0 ≡ None;
    holds = λ f s. f.0 ≡ Some s.0;
    one = λ f g s t h i j. (refl, some_same u.same f.0 g.0 s.0 t.0 h.1 i j);
    apart = λ f g t h i j. none_unlike u.same f.0 g.0 t.0 h.1 i j;
    counted = λ f s i. some_counted u.count f.0 s.0 i;
  }

  abbrev sequences : Reading (AmqpSequence T)
  sequences = reading_of (section_of in_sequence sequence_naming (vec_of u))

  abbrev maybe_sequences : Reading (AmqpSequence (Option T))
  maybe_sequences = reading_of (section_of in_sequence sequence_naming (vec_of (option_of u)))

  -- Nothing is a sequence without items, and one with a null.
  abbrev IsNoSequence : AmqpSequence (Option T) → Type 0
  IsNoSequence f = (f.0.items ≡ []) ⊎ HasNone f.0.items

  abbrev HoldsSequence : AmqpSequence (Option T) → AmqpSequence T → Type 0
  HoldsSequence f s = AreAll f.0.items s.0.items × (s.0.items ≡ [] → ⊥)

  pub sequence_apart : (f g : AmqpSequence (Option T)) (t : AmqpSequence T) → maybe_sequences.same f g → IsNoSequence f → HoldsSequence g t
      → ⊥
  sequence_apart f g t h (inl e) j =
      j.1 (as_empty g.0.items t.0.items j.0 (no_items (SameOption u.same) f.0.items g.0.items h.1 e))
  sequence_apart f g t h (inr n) j = none_apart u.same f.0.items g.0.items t.0.items h.1 n j.0

  abbrev pub sequence_stripped : Stripped maybe_sequences sequences
  sequence_stripped = record {
    is_nothing = IsNoSequence;
    holds = HoldsSequence;
    one = λ f g s t h i j. (refl, all_same u.same f.0.items g.0.items s.0.items t.0.items h.1 i.0 j.0);
    apart = sequence_apart;
    counted = λ f s i. (let z = all_counted u.count f.0.items s.0.items i.0 in omega (arith, z));
  }

  -- A batch's sequence is this, and none of its items is absent.
  abbrev IsAll : AmqpSequence (Option T) → AmqpSequence T → Type 0
  IsAll f s = AreAll f.0.items s.0.items

  -- Nothing is a batch without sequences, and one with a null in a sequence.
  abbrev IsNoBatch : TransparentVec (AmqpSequence (Option T)) → Type 0
  IsNoBatch b = (sections_in b ≡ []) ⊎ Any (λ f. HasNone f.0.items) (sections_in b)

  abbrev HoldsBatch : TransparentVec (AmqpSequence (Option T)) → TransparentVec (AmqpSequence T) → Type 0
  HoldsBatch b c = AllZip IsAll (sections_in b) (sections_in c) × (sections_in c ≡ [] → ⊥)

  pub each_one : (fs gs : List (AmqpSequence (Option T))) (ss ts : List (AmqpSequence T)) → AllZip maybe_sequences.same fs gs
      → AllZip IsAll fs ss → AllZip IsAll gs ts → AllZip sequences.same ss ts
  each_one [] [] [] [] h i j = tt
  each_one [] [] [] (t ∷ ts) h i j = absurd j
  each_one [] [] (s ∷ ss) ts h i j = absurd i
  each_one [] (g ∷ gs) ss ts h i j = absurd h
  each_one (f ∷ fs) [] ss ts h i j = absurd h
  each_one (f ∷ fs) (g ∷ gs) [] ts h i j = absurd i
  each_one (f ∷ fs) (g ∷ gs) (s ∷ ss) [] h i j = absurd j
  each_one (f ∷ fs) (g ∷ gs) (s ∷ ss) (t ∷ ts) h i j = (
    (refl, all_same u.same f.0.items g.0.items s.0.items t.0.items h.0.1 i.0 j.0),
    each_one fs gs ss ts h.1 i.1 j.1,
  )

  pub one_apart : (fs gs : List (AmqpSequence (Option T))) (ts : List (AmqpSequence T)) (k : ℕ) (f : AmqpSequence (Option T))
      → AllZip maybe_sequences.same fs gs → k < length fs → slice_index_or fs k f ≡ f → HasNone f.0.items → AllZip IsAll gs ts → ⊥
  one_apart [] gs ts k f h l e n j = absurd (omega (arith, l))
  one_apart (x ∷ fs) [] ts k f h l e n j = absurd h
  one_apart (x ∷ fs) (g ∷ gs) [] k f h l e n j = absurd j
  one_apart (x ∷ fs) (g ∷ gs) (t ∷ ts) zero f h l e n j =
      none_apart u.same x.0.items g.0.items t.0.items h.0.1 (subst (λ (y : AmqpSequence (Option T)). HasNone y.0.items) (sym e) n) j.0
  one_apart (x ∷ fs) (g ∷ gs) (t ∷ ts) (suc k) f h l e n j = one_apart fs gs ts k f h.1 (omega (arith, l)) e n j.1

  none_left : (fs : List (AmqpSequence (Option T))) (ss : List (AmqpSequence T)) → AllZip IsAll fs ss → fs ≡ [] → ss ≡ []
  none_left fs ss h e = no_items IsAll fs ss h e

  pub batch_apart : (b d : TransparentVec (AmqpSequence (Option T))) (c : TransparentVec (AmqpSequence T))
      → AllZip maybe_sequences.same (sections_in b) (sections_in d) → IsNoBatch b → HoldsBatch d c → ⊥
  batch_apart b d c h (inl e) j =
      j.1 (none_left (sections_in d) (sections_in c) j.0 (no_items maybe_sequences.same (sections_in b) (sections_in d) h e))
  batch_apart b d c h (inr n) j = one_apart (sections_in b) (sections_in d) (sections_in c) n.0 n.1 h n.2 n.3 n.4 j.0

  pub each_counted : (fs : List (AmqpSequence (Option T))) (ss : List (AmqpSequence T)) → AllZip IsAll fs ss
      → count_all sequences.count ss ≤ count_all maybe_sequences.count fs
  each_counted [] [] h = omega arith
  each_counted [] (s ∷ ss) h = absurd h
  each_counted (f ∷ fs) [] h = absurd h
  each_counted (f ∷ fs) (s ∷ ss) h =
      (let z = all_counted u.count f.0.items s.0.items h.0 in let y = each_counted fs ss h.1 in omega (arith, z, y))

  -- By the sections alone, however the batches are read.
  abbrev pub batch_stripped : Stripped (batch_reading 0x76 maybe_sequences) (batch_reading 0x76 sequences)
  batch_stripped = record {
    is_nothing = IsNoBatch;
    holds = HoldsBatch;
    one = λ f g s t h i j. each_one (sections_in f) (sections_in g) (sections_in s) (sections_in t) h i.0 j.0;
    apart = batch_apart;
    counted = λ f s i. each_counted (sections_in f) (sections_in s) i.0;
  }

abbrev datas : Reading DataSection
datas = reading_of (section_of in_data data_naming binary_type)

-- Data without bytes are nothing.
abbrev pub data_stripped : Stripped datas datas
data_stripped = unless_empty datas (λ d. d.0.0.items ≡ []) (λ f g h e. sym h.1 ∙ e)

-- A batch without sections is nothing.
abbrev pub data_batch_stripped : Stripped (batch_reading 0x75 datas) (batch_reading 0x75 datas)
data_batch_stripped =
    unless_empty (batch_reading 0x75 datas) (λ b. sections_in b ≡ [])
    (λ f g h e. no_items datas.same (sections_in f) (sections_in g) h e)
