-- What is made of the body of a message.
use Rattle.std.proofs.Common.{◌≡◌, ◌≤◌, ℕ, Bool, true, false, cond, sym, ap, subst, arith}
use Rattle.amqp_codec.specs.TermType.{TermType}
use Rattle.amqp_codec.specs.TermReading.{reading_of}
use Rattle.amqp_codec.specs.Reading.{Reading}
use Rattle.amqp_batches.specs.Bounds.{IsBoundByLimits}
use Rattle.amqp_batches.specs.laws.Bound.{term_bound}

-- The values that take the place of a body that isn't there, and a test that each of them passes.
pub record Empties (B : Type 0) : Type 1 where
  pub is : B → Type 0
  pub test : B → Bool
  pub tested : (v : B) → is v → test v ≡ true

-- No value does.
abbrev pub no_value : {B : Type 0} → Empties B
no_value = record { is = λ v. ⊥; test = λ v. false; tested = λ v h. absurd h }

-- group: how the body is read; empty: the values that take the place of one that isn't there; of_body: the value is made of the body
pub record BodyLaws {S B : Type 0} (group : Reading S) (empty : B → Type 0) (same : B → B → Type 0) (count : B → ℕ)
    (of_body : S → B → Type 0) : Type 0 where
  -- limits of the caller bound it
  pub bound : IsBoundByLimits group
  pub same_sym : (v w : B) → same v w → same w v
  pub same_trans : (v w x : B) → same v w → same w x → same v x
  pub one : (s t : S) (v w : B) → group.same s t → of_body s v → of_body t w → same v w
  pub counted : (s : S) (v : B) → of_body s v → count v ≤ group.count s
  pub one_empty : (v w : B) → empty v → empty w → same v w
  pub none_counted : (v : B) → empty v → count v ≡ 0

-- How a value is made of the body of a message, with the laws.
pub record Made (S B : Type 0) : Type 1 where
  pub group : Reading S
  pub empty : B → Type 0
  -- the two differ at most in where they lie in memory, or both take the place of a body that isn't there
  pub same : B → B → Type 0
  -- the values in it; what takes the place of a body that isn't there counts none
  pub count : B → ℕ
  pub of_body : S → B → Type 0
  pub laws : BodyLaws group empty same count of_body

pub itself_laws : {S : Type 0} (r : Reading S) → IsBoundByLimits r → BodyLaws r (λ v. ⊥) r.same r.count (λ s v. v ≡ s)
itself_laws r bound = record {
  bound = bound;
  same_sym = r.same_sym;
  same_trans = r.same_trans;
  one = λ s t v w h e f. subst (λ x. r.same x w) (sym e) (subst (r.same s) (sym f) h);
  counted = λ s v e. (let z = ap r.count e in omega (arith, z));
  one_empty = λ v w h. absurd h;
  none_counted = λ v h. absurd h;
}

-- What is read as itself, and where no value takes the place of a body that isn't there.
abbrev pub itself : {S : Type 0} (r : Reading S) → IsBoundByLimits r → Made S S
itself r bound = record {
  group = r;
  empty = λ v. ⊥;
  same = r.same;
  count = r.count;
  of_body = λ s v. v ≡ s;
  laws = itself_laws r bound;
}

-- A section.
abbrev pub section_made : {S : Type 0} → TermType S → Made S S
section_made u = itself (reading_of u) (term_bound u)

-- The same, or both take the place of a body that isn't there.
pub data AreLinked {B : Type 0} (same : B → B → Type 0) (empty : B → Type 0) : B → B → Type 0 where
  alike : {v w : B} → same v w → AreLinked same empty v w
  both_empty : {v w : B} → empty v → empty w → AreLinked same empty v w
  by_way_of : {v w : B} (x : B) → AreLinked same empty v x → AreLinked same empty x w → AreLinked same empty v w

pub linked_sym : {B : Type 0} (same : B → B → Type 0) (empty : B → Type 0) → ((v w : B) → same v w → same w v) → (v w : B)
    → AreLinked same empty v w → AreLinked same empty w v
linked_sym same empty f v w (alike h) = alike (f v w h)
linked_sym same empty f v w (both_empty h k) = both_empty k h
linked_sym same empty f v w (by_way_of x h k) = by_way_of x (linked_sym same empty f x w k) (linked_sym same empty f v x h)

-- The values in what doesn't take the place of a body that isn't there.
abbrev pub count_some : {B : Type 0} → Empties B → (B → ℕ) → B → ℕ
count_some e count v = cond (e.test v) 0 (count v)

some_counted : (b : Bool) (n : ℕ) → cond b 0 n ≤ n
some_counted true n = omega arith
some_counted false n = omega arith

module _ {S B : Type 0} (r : Reading S) (bound : IsBoundByLimits r) (e : Empties B) (same : B → B → Type 0) (count : B → ℕ) (get : S → B)
    (sames : (v w : B) → same v w → same w v) (to : (s t : S) → r.same s t → same (get s) (get t))
    (counts : (s : S) → count (get s) ≤ r.count s) where
  pub held_laws : BodyLaws r e.is (AreLinked same e.is) (count_some e count) (λ s v. v ≡ get s)
  held_laws = record {
    bound = bound;
    same_sym = linked_sym same e.is sames;
    same_trans = λ v w x h k. by_way_of w h k;
    one = λ s t v w h i j. alike (subst (λ x. same x w) (sym i) (subst (same (get s)) (sym j) (to s t h)));
    counted = λ s v i.
        (let z = ap (count_some e count) i in
        omega (arith, z, some_counted (e.test (get s)) (count (get s)), counts s));
    one_empty = λ v w h k. both_empty h k;
    none_counted = λ v h. ap (λ b. cond b 0 (count v)) (e.tested v h);
  }

  -- What stands in the body, or takes the place of one that isn't there.
  abbrev pub held_in : Made S B
  held_in = record {
    group = r;
    empty = e.is;
    same = AreLinked same e.is;
    count = count_some e count;
    of_body = λ s v. v ≡ get s;
    laws = held_laws;
  }

-- What is read as itself, or takes the place of a body that isn't there.
abbrev pub itself_or_empty : {S : Type 0} (r : Reading S) → IsBoundByLimits r → Empties S → Made S S
itself_or_empty r bound e = held_in r bound e r.same r.count (λ v. v) r.same_sym (λ s t h. h) (λ s. omega arith)
