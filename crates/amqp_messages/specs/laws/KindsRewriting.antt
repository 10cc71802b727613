-- The text of some groups is read as them again.
use Rattle.std.proofs.Common.{◌≡◌, ◌⊎◌, inl, inr, ℕ, suc, ◌≤◌, true, List, [], ◌∷◌, ◌++◌, length, drop, map, Option, Some, None, option_map, IfSome, refl, sym, ap, ap₂, ◌∙◌, subst, arith}
use Rattle.std.proofs.Common.{append_assoc}
use Rattle.std.proofs.lemmas.List.{take_at, drop_at}
use Rattle.amqp_model.specs.FieldRules.{SameOption}
use Rattle.amqp_model.specs.Term.{Term}
use Rattle.amqp_wire.specs.declared.error.Error.{Error}
use Rattle.amqp_wire.specs.declared.error.Error.TheVariants.{TooLarge}
use Rattle.amqp_lookahead.specs.Sections.{IsSectionAhead}
use Rattle.amqp_lookahead.proofs.SectionsAhead.{one_ahead}
use Rattle.amqp_encoder.specs.Passes.{row_text}
use Rattle.amqp_codec.specs.Written.{AreWritable, AreUnwritable}
use Rattle.amqp_batches.specs.GroupTexts.{IsSound, read_sound}
use Rattle.amqp_batches.specs.Spellings.{Spells, Are}
use Rattle.amqp_batches.specs.laws.Resuming.{IsRead}
use Rattle.amqp_batches.specs.laws.Row.{row_text_none, row_text_joined, front_writable, back_writable, front_or_back, none_refused}
use Rattle.amqp_messages.specs.Kinds.{Kinds, none, kind, ForEach, is_in, size, Fields, nothing, Group, IsGroup, behind, put, put_all, Fall}
use Rattle.amqp_messages.specs.KindsReading.{has, AreApart, Readings, SameFields}
use Rattle.amqp_messages.specs.KindsWriting.{Properties, HasProperty, AllHave, Writings, optional, row_of, are_values, one_proper, row_proper}
use Rattle.amqp_messages.specs.KindsTexts.{Texts, writings_in, again, are_lasting, are_kept, were_read, are_sound, in_front, groups_of}
use Rattle.amqp_messages.specs.laws.KindsReading.{or_true, or_other, not_in}
use Rattle.amqp_messages.specs.laws.KindsSpelled.{AreReadAs}

some_as : {A : Type 0} (P Q : A → Type 0) → ((v : A) → P v → Q v) → (v : Option A) → IfSome v P → IfSome v Q
some_as P Q f None h = tt
some_as P Q f (Some v) h = f v h

abbrev row : (ks : Kinds) (rs : Readings ks) → Texts ks rs → Fields ks → List Term
row ks rs ts m = row_of ks (writings_in ks rs ts) m

-- what was read is sound, and is read again; what is sound is a value
pub read_are_sound : (ks : Kinds) (rs : Readings ks) (ts : Texts ks rs) (m : Fields ks) → AllHave ks (were_read ks rs) m
    → AllHave ks (are_sound ks rs ts) m
read_are_sound none rs ts m h = tt
read_are_sound (kind T codes ks) rs ts m h =
    (some_as (IsRead rs.0) (IsSound ts.0) (read_sound ts.0) m.0 h.0, read_are_sound ks rs.1 ts.1 m.1 h.1)

pub sound_are_values : (ks : Kinds) (rs : Readings ks) (ts : Texts ks rs) (m : Fields ks) → AllHave ks (are_sound ks rs ts) m
    → AllHave ks (are_values ks (writings_in ks rs ts)) m
sound_are_values none rs ts m h = tt
sound_are_values (kind T codes ks) rs ts m h =
    (some_as (IsSound ts.0) ts.0.writing.is_value (λ g k. k.value) m.0 h.0, sound_are_values ks rs.1 ts.1 m.1 h.1)

-- the same groups are written as the same terms
pub row_canons : (ks : Kinds) (rs : Readings ks) (ts : Texts ks rs) (m n : Fields ks) → SameFields ks rs m n
    → row_of ks (writings_in ks rs ts) m ≡ row_of ks (writings_in ks rs ts) n
row_canons none rs ts m n h = refl
row_canons (kind T codes ks) rs ts m n h = ap₂ (λ a b. a ++ b) (at_one m.0 n.0 h.0) (row_canons ks rs.1 ts.1 m.1 n.1 h.1)
  where
    at_one : (g k : Option T) → SameOption rs.0.same g k → optional ts.0.writing.canons g ≡ optional ts.0.writing.canons k
    at_one None None l = refl
    at_one None (Some k) l = absurd l
    at_one (Some g) None l = absurd l
    at_one (Some g) (Some k) l = ts.0.rewriting.canons_same g k l

-- what they are read as has the same text
pub row_again : (ks : Kinds) (rs : Readings ks) (ts : Texts ks rs) (m : Fields ks) → AllHave ks (are_values ks (writings_in ks rs ts)) m
    → AreWritable (row_of ks (writings_in ks rs ts) m)
    → row_text (row_of ks (writings_in ks rs ts) (again ks rs ts m)) ≡ row_text (row_of ks (writings_in ks rs ts) m)
row_again none rs ts m i f = refl
row_again (kind T codes ks) rs ts m i f =
    let canons = optional ts.0.writing.canons m.0 in
    let others = row ks rs.1 ts.1 m.1 in
    row_text_joined (optional ts.0.writing.canons (option_map ts.0.again m.0)) (row ks rs.1 ts.1 (again ks rs.1 ts.1 m.1))
    ∙ ap₂ (λ a b. a ++ b)
    (at_one m.0 i.0 (front_writable canons others (row_proper ks (writings_in ks rs.1 ts.1) m.1 i.1) f))
    (row_again ks rs.1 ts.1 m.1 i.1 (back_writable canons others (one_proper ts.0.writing m.0 i.0) f))
    ∙ sym (row_text_joined canons others)
  where
    at_one : (g : Option T) → IfSome g ts.0.writing.is_value → AreWritable (optional ts.0.writing.canons g)
        → row_text (optional ts.0.writing.canons (option_map ts.0.again g)) ≡ row_text (optional ts.0.writing.canons g)
    at_one None j f = refl
    at_one (Some g) j f = ts.0.rewriting.text_again g j f

-- where they are kept, it is them
pub row_own : (ks : Kinds) (rs : Readings ks) (ts : Texts ks rs) (m : Fields ks) → AllHave ks (are_sound ks rs ts) m → AllHave ks (are_kept ks rs ts) m
    → SameFields ks rs (again ks rs ts m) m
row_own none rs ts m h k = tt
row_own (kind T codes ks) rs ts m h k = (at_one m.0 h.0 k.0, row_own ks rs.1 ts.1 m.1 h.1 k.1)
  where
    at_one : (g : Option T) → IfSome g (IsSound ts.0) → IfSome g ts.0.kept → SameOption rs.0.same (option_map ts.0.again g) g
    at_one None h k = tt
    at_one (Some g) h k = h.own k

-- only their size refuses them
pub row_large : (ks : Kinds) (rs : Readings ks) (ts : Texts ks rs) (m : Fields ks) (x : Error) → AllHave ks (are_sound ks rs ts) m
    → AreUnwritable (row_of ks (writings_in ks rs ts) m) x → x ≡ TooLarge
row_large none rs ts m x h u = none_refused x u
row_large (kind T codes ks) rs ts m x h u =
    by_part m.0 h.0 (front_or_back (optional ts.0.writing.canons m.0) (row ks rs.1 ts.1 m.1) x u) (row_large ks rs.1 ts.1 m.1 x h.1)
  where
    by_part : (g : Option T) → IfSome g (IsSound ts.0)
        → AreUnwritable (optional ts.0.writing.canons g) x ⊎ (AreUnwritable (row ks rs.1 ts.1 m.1) x ⊎ (x ≡ TooLarge))
        → (AreUnwritable (row ks rs.1 ts.1 m.1) x → x ≡ TooLarge) → x ≡ TooLarge
    by_part g h (inr (inl u)) later = later u
    by_part g h (inr (inr t)) later = t
    by_part None h (inl u) later = none_refused x u
    by_part (Some g) h (inl u) later = h.large x u

-- a section of a row is of one of its kinds
pub row_begins : (ks : Kinds) (rs : Readings ks) (ts : Texts ks rs) (m : Fields ks) → AllHave ks (are_values ks (writings_in ks rs ts)) m
    → AllHave ks (are_lasting ks rs ts) m → (c : ℕ) → IsSectionAhead (row_text (row_of ks (writings_in ks rs ts) m) ++ []) c → has ks c ≡ true
row_begins none rs ts m i l c h = let e = ap length (sym h.split ∙ ap (λ b. b ++ []) row_text_none) in absurd (cc)
row_begins (kind T codes ks) rs ts m i l c h = at_one m.0 i.0 l.0 h (row_begins ks rs.1 ts.1 m.1 i.1 l.1 c)
  where
    at_one : (g : Option T) → IfSome g ts.0.writing.is_value → IfSome g ts.0.lasts
        → IsSectionAhead (row_text (optional ts.0.writing.canons g ++ row ks rs.1 ts.1 m.1) ++ []) c
        → (IsSectionAhead (row_text (row ks rs.1 ts.1 m.1) ++ []) c → has ks c ≡ true) → has (kind T codes ks) c ≡ true
    at_one None i l h others = or_other (is_in codes c) (has ks c) (others h)
    at_one (Some g) j k h others =
        let canons = ts.0.writing.canons g in
        let later = row ks rs.1 ts.1 m.1 in
        let rest = row_text later ++ [] in
        let whole : row_text (canons ++ later) ++ [] ≡ row_text canons ++ rest =
        ap (λ b. b ++ []) (row_text_joined canons later) ∙ append_assoc (row_text canons) (row_text later) [] in
        let own = ts.0.begins g j k rest in
        let same = one_ahead (row_text canons ++ rest) c own.0 (subst (λ b. IsSectionAhead b c) whole h) own.2 in
        or_true (is_in codes c) (has ks c) (subst (λ x. is_in codes x ≡ true) (sym same) own.1)

-- groups of later kinds are groups
lifted : (T : Type 0) (codes : List ℕ) (ks : Kinds) (ss : ForEach Spells (kind T codes ks)) (gs : List (Group ks)) (b more : List ℕ)
    → Are (IsGroup ks ss.1) b gs more → Are (IsGroup (kind T codes ks) ss) b (map inr gs) more
lifted T codes ks ss [] b more h = h
lifted T codes ks ss (g ∷ gs) b more (first, others, e, f, h) = (first, others, e, f, lifted T codes ks ss gs others more h)

-- The text of a row is its groups, as they are read again.
pub text_is_groups : (ks : Kinds) (rs : Readings ks) (ss : ForEach Spells ks) → AreReadAs ks rs ss → AreApart ks → (ts : Texts ks rs)
    (m : Fields ks) → AllHave ks (are_values ks (writings_in ks rs ts)) m → AllHave ks (are_lasting ks rs ts) m → AreWritable (row_of ks (writings_in ks rs ts) m)
    → Are (IsGroup ks ss) (row_text (row_of ks (writings_in ks rs ts) m)) (groups_of ks (again ks rs ts m)) []
text_is_groups none rs ss l apart ts m i last f = row_text_none
text_is_groups (kind T codes ks) rs ss l apart ts m i last f =
    at_one m.0 i.0 last.0 f (text_is_groups ks rs.1 ss.1 l.1 apart.1 ts.1 m.1 i.1 last.1)
  where
    later_begin : (c : ℕ) → IsSectionAhead (row_text (row ks rs.1 ts.1 m.1) ++ []) c → has ks c ≡ true
    later_begin = row_begins ks rs.1 ts.1 m.1 i.1 last.1

    at_one : (g : Option T) → IfSome g ts.0.writing.is_value → IfSome g ts.0.lasts
        → AreWritable (optional ts.0.writing.canons g ++ row ks rs.1 ts.1 m.1)
        → (AreWritable (row ks rs.1 ts.1 m.1) → Are (IsGroup ks ss.1) (row_text (row ks rs.1 ts.1 m.1)) (groups_of ks (again ks rs.1 ts.1 m.1)) [])
        → Are (IsGroup (kind T codes ks) ss) (row_text (optional ts.0.writing.canons g ++ row ks rs.1 ts.1 m.1))
        (in_front (option_map ts.0.again g) (groups_of ks (again ks rs.1 ts.1 m.1))) []
    at_one None j k f h =
        lifted T codes ks ss (groups_of ks (again ks rs.1 ts.1 m.1)) (row_text (row ks rs.1 ts.1 m.1)) [] (h f)
    at_one (Some g) j k f h =
        let canons = ts.0.writing.canons g in
        let later = row ks rs.1 ts.1 m.1 in
        let others = groups_of ks (again ks rs.1 ts.1 m.1) in
        let text = row_text canons in
        let rest = row_text later in
        let own = ts.0.begins g j k (rest ++ []) in
        let ended = ts.0.ends (rest ++ []) (λ c is ahead. not_in ks codes c apart.0 is (later_begin c ahead)) in
        let read = ts.0.rewriting.reads_again g (rest ++ []) j k
        (front_writable canons later (row_proper ks (writings_in ks rs.1 ts.1) m.1 i.1) f) ended in
        let s = l.0.spelled (text ++ (rest ++ [])) (ts.0.again g) (length text) read in
        let front = subst (λ z. ss.0 z (ts.0.again g) (drop (length text) (text ++ (rest ++ []))))
        (take_at text (rest ++ []) (length text) refl) s.1 in (
          text,
          rest,
          row_text_joined canons later,
          (
            record { code = own.0; among = own.1; ahead = own.2 },
            subst (ss.0 text (ts.0.again g)) (drop_at text (rest ++ []) (length text) refl) front,
          ),
          lifted T codes ks ss others rest [] (h (back_writable canons later (ts.0.writing.proper g j) f)),
        )

put_later : (T : Type 0) (codes : List ℕ) (ks : Kinds) (gs : List (Group ks)) (o : Option T) (fs : Fields ks)
    → put_all (kind T codes ks) (map inr gs) (o, fs) ≡ (o, put_all ks gs fs)
put_later T codes ks [] o fs = refl
put_later T codes ks (g ∷ gs) o fs = put_later T codes ks gs o (put ks g fs)

-- Put one after another, they are the row.
pub groups_are : (ks : Kinds) (m : Fields ks) → put_all ks (groups_of ks m) (nothing ks) ≡ m
groups_are none m = refl
groups_are (kind T codes ks) m = at_one m.0 ∙ ap (λ fs. (m.0, fs)) (groups_are ks m.1)
  where
    at_one : (o : Option T)
        → put_all (kind T codes ks) (in_front o (groups_of ks m.1)) (None, nothing ks) ≡ (o, put_all ks (groups_of ks m.1) (nothing ks))
    at_one None = put_later T codes ks (groups_of ks m.1) None (nothing ks)
    at_one (Some g) = put_later T codes ks (groups_of ks m.1) (Some g) (nothing ks)

falls_later : (T : Type 0) (codes : List ℕ) (ks : Kinds) (n : ℕ) (gs : List (Group ks)) → Fall ks n gs → Fall (kind T codes ks) n (map inr gs)
falls_later T codes ks n [] h = tt
falls_later T codes ks n (g ∷ gs) h = (h.0, falls_later T codes ks (behind ks g) gs h.1)

falls_from : (ks : Kinds) (n o : ℕ) (gs : List (Group ks)) → n ≤ o → Fall ks n gs → Fall ks o gs
falls_from ks n o [] l h = tt
falls_from ks n o (g ∷ gs) l h = (let r = h.0 in omega (arith, r, l), h.1)

-- They stand in the standard's order.
pub groups_fall : (ks : Kinds) (m : Fields ks) → Fall ks (size ks) (groups_of ks m)
groups_fall none m = tt
groups_fall (kind T codes ks) m = at_one m.0 (groups_fall ks m.1)
  where
    at_one : (o : Option T) → Fall ks (size ks) (groups_of ks m.1) → Fall (kind T codes ks) (suc (size ks)) (in_front o (groups_of ks m.1))
    at_one None h =
        falls_later T codes ks (suc (size ks)) (groups_of ks m.1) (falls_from ks (size ks) (suc (size ks)) (groups_of ks m.1) (omega arith) h)
    at_one (Some g) h = (omega arith, falls_later T codes ks (size ks) (groups_of ks m.1) h)

-- What is put has the property, as all that was there.
pub put_has : (ks : Kinds) (ps : Properties ks) (g : Group ks) (m : Fields ks) → HasProperty ks ps g → AllHave ks ps m → AllHave ks ps (put ks g m)
put_has none ps g m p h = absurd p
put_has (kind T codes ks) ps (inl g) m p h = (p, h.1)
put_has (kind T codes ks) ps (inr g) m p h = (h.0, put_has ks ps.1 g m.1 p h.1)

nothing_has : (ks : Kinds) (ps : Properties ks) → AllHave ks ps (nothing ks)
nothing_has none ps = tt
nothing_has (kind T codes ks) ps = (tt, nothing_has ks ps.1)

-- Groups of an input were read.
one_was_read : (ks : Kinds) (rs : Readings ks) (ss : ForEach Spells ks) → AreReadAs ks rs ss → (g : Group ks) (b more : List ℕ)
    → IsGroup ks ss b g more → HasProperty ks (were_read ks rs) g
one_was_read none rs ss l g b more s = s
one_was_read (kind T codes ks) rs ss l (inl g) b more s =
    record { input = b ++ more; number = length b; front = l.0.read b more g s.1 }
one_was_read (kind T codes ks) rs ss l (inr g) b more s = one_was_read ks rs.1 ss.1 l.1 g b more s

all_read : (ks : Kinds) (rs : Readings ks) (ss : ForEach Spells ks) → AreReadAs ks rs ss → (gs : List (Group ks)) (b more : List ℕ)
    (m : Fields ks) → Are (IsGroup ks ss) b gs more → AllHave ks (were_read ks rs) m → AllHave ks (were_read ks rs) (put_all ks gs m)
all_read ks rs ss l [] b more m a h = h
all_read ks rs ss l (g ∷ gs) b more m (first, others, e, f, a) h =
    all_read ks rs ss l gs others more (put ks g m) a
    (put_has ks (were_read ks rs) g m (one_was_read ks rs ss l g first (others ++ more) f) h)

pub groups_were_read : (ks : Kinds) (rs : Readings ks) (ss : ForEach Spells ks) → AreReadAs ks rs ss → (gs : List (Group ks)) (b more : List ℕ)
    → Are (IsGroup ks ss) b gs more → AllHave ks (were_read ks rs) (put_all ks gs (nothing ks))
groups_were_read ks rs ss l gs b more a = all_read ks rs ss l gs b more (nothing ks) a (nothing_has ks (were_read ks rs))

-- There is no group of that kind yet.
abbrev pub IsFree : (ks : Kinds) → Group ks → Fields ks → Type 0
IsFree none g m = ⊥
IsFree (kind T codes ks) (inl g) m = m.0 ≡ None
IsFree (kind T codes ks) (inr g) m = IsFree ks g m.1

abbrev pub terms_of : (ks : Kinds) → Writings ks → Group ks → List Term
terms_of none ws g = []
terms_of (kind T codes ks) ws (inl g) = ws.0.canons g
terms_of (kind T codes ks) ws (inr g) = terms_of ks ws.1 g

-- A group that is written as no section leaves no trace, and all else has the property.
pub row_without : (ks : Kinds) (ws : Writings ks) (g : Group ks) (m : Fields ks) → IsFree ks g m → terms_of ks ws g ≡ []
    → row_of ks ws (put ks g m) ≡ row_of ks ws m
row_without none ws g m free e = absurd free
row_without (kind T codes ks) ws (inl g) m free e = ap (λ ts. ts ++ row_of ks ws.1 m.1) (e ∙ sym (ap (optional ws.0.canons) free))
row_without (kind T codes ks) ws (inr g) m free e = ap (λ ts. optional ws.0.canons m.0 ++ ts) (row_without ks ws.1 g m.1 free e)

pub rest_has : (ks : Kinds) (ps : Properties ks) (g : Group ks) (m : Fields ks) → IsFree ks g m → AllHave ks ps (put ks g m) → AllHave ks ps m
rest_has none ps g m free h = tt
rest_has (kind T codes ks) ps (inl g) m free h = (subst (λ o. IfSome o ps.0) (sym free) tt, h.1)
rest_has (kind T codes ks) ps (inr g) m free h = (h.0, rest_has ks ps.1 g m.1 free h.1)
