-- Bodies in which there may be nothing (Part 3, sections 3.2.6 to 3.2.8).
use Rattle.std.proofs.Common.{◌≡◌, ◌≤◌, ℕ, Option, Some, None, MatchOption, refl, sym, ap, subst, arith}
use Rattle.amqp_model.specs.FieldRules.{SameOption}
use Rattle.amqp_model.specs.laws.Option.{option_sym, option_trans}
use Rattle.amqp_codec.specs.Reading.{Reading}
use Rattle.amqp_batches.specs.Bounds.{IsBoundByLimits}
use Rattle.amqp_batches.specs.SectionGroups.{run_reading}
use Rattle.amqp_bodies.specs.SeenReading.{seen_reading}
use Rattle.amqp_bodies.specs.Bodies.{Made}
use Rattle.amqp_bodies.specs.SomeReading.{some_reading, some_bound}

-- Where there is nothing in what is read so, and what else stands in it, with the laws. `whole` is how the latter is read by itself.
pub record Stripped {F S : Type 0} (group : Reading F) (whole : Reading S) : Type 1 where
  pub is_nothing : F → Type 0
  pub holds : F → S → Type 0
  pub one : (f g : F) (s t : S) → group.same f g → holds f s → holds g t → whole.same s t
  pub apart : (f g : F) (t : S) → group.same f g → is_nothing f → holds g t → ⊥
  pub counted : (f : F) (s : S) → holds f s → whole.count s ≤ group.count f

-- How a body is read in which there may be nothing.
pub record Transposed (F : Type 0) {S : Type 0} (whole : Reading S) : Type 1 where
  pub group : Reading F
  pub bound : IsBoundByLimits group
  pub stripped : Stripped group whole

-- The value is absent where there is nothing in the body, and is else made of what stands in it.
abbrev pub IsTransposed : {F S B : Type 0} (m : Made S B) → Transposed F m.group → F → Option B → Type 0
IsTransposed {S = S} m t f v = MatchOption v (t.stripped.is_nothing f) (λ x. (s : S) × t.stripped.holds f s × m.of_body s x)

module _ {F S B : Type 0} (m : Made S B) (t : Transposed F m.group) where
  abbrev pub count_made : Option B → ℕ
  count_made None = 0
  count_made (Some v) = m.count v

  pub made_one : (f g : F) (v w : Option B) → t.group.same f g → IsTransposed m t f v → IsTransposed m t g w → SameOption m.same v w
  made_one f g None None h i j = tt
  made_one f g None (Some w) h i j = absurd (t.stripped.apart f g j.0 h i j.1)
  made_one f g (Some v) None h i j = absurd (t.stripped.apart g f i.0 (t.group.same_sym f g h) j i.1)
  made_one f g (Some v) (Some w) h i j = m.laws.one i.0 j.0 v w (t.stripped.one f g i.0 j.0 h i.1 j.1) i.2 j.2

  pub made_counted : (f : F) (v : Option B) → IsTransposed m t f v → count_made v ≤ t.group.count f
  made_counted f None i = omega arith
  made_counted f (Some v) i = omega (arith, t.stripped.counted f i.0 i.1, m.laws.counted i.0 v i.2)

  pub one_none : (v w : Option B) → v ≡ None → w ≡ None → SameOption m.same v w
  one_none None None h k = tt
  one_none (Some v) w h k = absurd (cc)
  one_none None (Some w) h k = absurd (cc)

  pub none_counted : (v : Option B) → v ≡ None → count_made v ≡ 0
  none_counted None h = refl
  none_counted (Some v) h = absurd (cc)

  -- What is made of such a body; it is absent where the message has none.
  abbrev pub option_made : Made F (Option B)
  option_made = record {
    group = t.group;
    empty = λ v. v ≡ None;
    same = SameOption m.same;
    count = count_made;
    of_body = IsTransposed m t;
    laws = record {
      bound = t.bound;
      same_sym = option_sym m.same m.laws.same_sym;
      same_trans = option_trans m.same m.laws.same_trans;
      one = made_one;
      counted = made_counted;
      one_empty = one_none;
      none_counted = none_counted;
    };
  }

-- What may be absent as a whole, too.
module _ {F S : Type 0} {group : Reading F} {whole : Reading S} (x : Stripped group whole) where
  abbrev IsNothing : Option F → Type 0
  IsNothing o = MatchOption o (Unit {0}) x.is_nothing

  abbrev HoldsIn : Option F → S → Type 0
  HoldsIn o s = MatchOption o ⊥ (λ f. x.holds f s)

  pub some_holds_one : (f g : Option F) (s t : S) → SameOption group.same f g → HoldsIn f s → HoldsIn g t → whole.same s t
  some_holds_one None g s t h i j = absurd i
  some_holds_one (Some f) None s t h i j = absurd j
  some_holds_one (Some f) (Some g) s t h i j = x.one f g s t h i j

  pub some_apart : (f g : Option F) (t : S) → SameOption group.same f g → IsNothing f → HoldsIn g t → ⊥
  some_apart f None t h i j = j
  some_apart None (Some g) t h i j = h
  some_apart (Some f) (Some g) t h i j = x.apart f g t h i j

  pub some_held_counted : (f : Option F) (s : S) → HoldsIn f s → whole.count s ≤ (some_reading group).count f
  some_held_counted None s i = absurd i
  some_held_counted (Some f) s i = x.counted f s i

  abbrev pub some_stripped : Stripped (some_reading group) whole
  some_stripped = record { is_nothing = IsNothing; holds = HoldsIn; one = some_holds_one; apart = some_apart; counted = some_held_counted }

  abbrev pub optional : IsBoundByLimits group → Transposed (Option F) whole
  optional bound = record { group = some_reading group; bound = some_bound group bound; stripped = some_stripped }

-- What is read is there unless it is empty.
module _ {F : Type 0} (r : Reading F) (is_empty : F → Type 0) (kept : (f g : F) → r.same f g → is_empty f → is_empty g) where
  abbrev HoldsItself : F → F → Type 0
  HoldsItself f s = (s ≡ f) × (is_empty f → ⊥)

  pub itself_one : (f g s t : F) → r.same f g → HoldsItself f s → HoldsItself g t → r.same s t
  itself_one f g s t h i j = subst (λ x. r.same x t) (sym i.0) (subst (r.same f) (sym j.0) h)

  abbrev pub unless_empty : Stripped r r
  unless_empty = record {
    is_nothing = is_empty;
    holds = HoldsItself;
    one = itself_one;
    apart = λ f g t h i j. j.1 (kept f g h i);
    counted = λ f s i. (let z = ap r.count i.0 in omega (arith, z));
  }

-- However they are looked for, by what is the same and what is counted alone.
abbrev pub seen_stripped : {F S : Type 0} {r : Reading F} {q : Reading S} → Stripped r q → Stripped (seen_reading r) (seen_reading q)
seen_stripped x = record { is_nothing = x.is_nothing; holds = x.holds; one = x.one; apart = x.apart; counted = x.counted }

abbrev pub run_stripped : {F S : Type 0} (c : ℕ) {r : Reading F} {q : Reading S} → Stripped r q
    → Stripped (run_reading c r) (run_reading c q)
run_stripped c x = record { is_nothing = x.is_nothing; holds = x.holds; one = x.one; apart = x.apart; counted = x.counted }
