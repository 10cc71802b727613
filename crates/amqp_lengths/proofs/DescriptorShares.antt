-- What the descriptors of a constructor take, one after another.
use Rattle.std.proofs.Common.{◌≡◌, ℕ, ◌+◌, ◌≤◌, List, [], ◌∷◌, ◌++◌, length, take, drop, get_or, refl, sym, ap, ◌∙◌, subst, arith, append-nil}
use Rattle.std.proofs.lemmas.List.{take-append-drop, length-drop, length-take-le}
use Rattle.amqp_wire.specs.declared.error.Error.{Error}
use Rattle.amqp_model.specs.Term.{Descriptor}
use Rattle.amqp_model.specs.Constructors.{format}
use Rattle.amqp_model.specs.Spelling.{IsKnown, Names, Constructor}
use Rattle.amqp_model.specs.Measures.{share, shares}
use Rattle.amqp_model.proofs.Bytes.{rest}
use Rattle.amqp_model.proofs.Same.{names_same}
use Rattle.amqp_lengths.specs.Fronts.{IsFront, Refuses}
use Rattle.amqp_lengths.specs.Pieces.{NamesAny}
use Rattle.amqp_lengths.specs.Lengths.{HasConstructor}

-- The first of some descriptors that a constructor has, and the constructor of the others.
pub record First (es : List Descriptor) (c : ℕ) (after : List ℕ) : Type 0 where
  pub descriptor : Descriptor
  pub others : List Descriptor
  pub front : List ℕ
  pub behind : List ℕ
  pub are : es ≡ descriptor ∷ others
  pub is : after ≡ front ++ behind
  pub names : Names descriptor front
  pub constructs : Constructor others c behind

-- a constructor that begins with a 0 has descriptors
pub first_of_some : (es : List Descriptor) (c : ℕ) (b after : List ℕ) → b ≡ 0 ∷ after → Constructor es c b → First es c after
first_of_some [] c b after is (s, known) =
    let same : c ≡ 0 = ap (λ l. get_or l 0 0) (sym s ∙ is) in
    absurd (subst (λ z. IsKnown (format z)) same known)
first_of_some (e ∷ es) c b after is (first, second, s, n, k) = record {
  descriptor = e;
  others = es;
  front = first;
  behind = second;
  are = refl;
  is = ap (drop 1) (sym is ∙ s);
  names = n;
  constructs = k;
}

-- The first descriptors of a constructor take n, and the others are the rest of it.
pub record Taken (b : List ℕ) (n : ℕ) (left : List ℕ) : Type 0 where
  pub room : n + length left ≤ length b
  pub others : (ds : List Descriptor) (c : ℕ) → Constructor ds c b
      → (es : List Descriptor) × Constructor es c left × (n + shares es ≡ shares ds)

-- there is a descriptor
pub descriptor_there : (b left after : List ℕ) (n : ℕ) (e : Error) → HasConstructor b → Taken b n left → left ≡ 0 ∷ after
    → Refuses NamesAny after e → ⊥
descriptor_there b left after n e (m, c, (ds, l, few, k)) h is r =
    let (es, q, s) = h.others ds c k in
    let x = first_of_some es c left after is q in
    r.none [] (λ _. refl) x.front x.behind (append-nil after ∙ x.is) (x.descriptor, x.names)

-- one more descriptor
pub taken_more : (b left after : List ℕ) (n len m : ℕ) → Taken b n left → left ≡ 0 ∷ after → IsFront NamesAny after len
    → ((d : Descriptor) → Names d (take len after) → m ≡ share d) → m ≤ 1 + length (take len after)
    → Taken b (n + m) (drop len after)
taken_more b left after n len m h is f weighs most =
    let room = h.room in
    let within = f.within in
    record {
      room = omega (arith, room, within, most, ap length is, length-take-le len after within, length-drop len after);
      others = λ ds c k.
          let (es, q, s) = h.others ds c k in
          let x = first_of_some es c left after is q in
          let (d, named) = f.spelled in
          let all : take len after ++ drop len after ≡ x.front ++ x.behind = take-append-drop len after ∙ x.is in
          let same : take len after ≡ x.front =
          (names_same d x.descriptor (take len after) x.front (drop len after) x.behind named x.names all).0 in
          let left_same : drop len after ≡ x.behind = rest (take len after) x.front (drop len after) x.behind (ap length same) all in
          let is_share : m ≡ share x.descriptor = weighs x.descriptor (subst (Names x.descriptor) (sym same) x.names) in
          (x.others, subst (Constructor x.others c) (sym left_same) x.constructs, omega (arith, s, is_share, ap shares x.are));
    }

-- no more descriptors
pub taken_all : (b left : List ℕ) (n : ℕ) → Taken b n left → ((after : List ℕ) → left ≡ 0 ∷ after → ⊥) → (ds : List Descriptor) (c : ℕ)
    → Constructor ds c b → n ≡ shares ds
taken_all b left n h bare ds c k = let (es, q, s) = h.others ds c k in none es q s
  where
    none : (es : List Descriptor) → Constructor es c left → n + shares es ≡ shares ds → n ≡ shares ds
    none [] q s = omega (arith, s)
    none (e ∷ es) (first, second, is, names, q) s = absurd (bare (first ++ second) is)
