-- Fronts that are found, and inputs without one.
use Rattle.std.proofs.Common.{◌≡◌, ℕ, ◌-◌, ◌<◌, ◌≤◌, List, ◌++◌, length, take, drop, sym, ap, ◌∙◌, arith, append_assoc, append-nil}
use Rattle.std.proofs.lemmas.List.{take-append-drop, length-append, length-drop, length-take-le, take_all}
use Rattle.amqp_wire.specs.declared.error.Error.{Error}
use Rattle.amqp_wire.specs.declared.error.Error.TheVariants.{Cut}
use Rattle.amqp_model.proofs.Bytes.{front}
use Rattle.amqp_lengths.specs.Fronts.{Refuses}

-- each P begins with a Q
pub refuses_begun : (P Q : List ℕ → Type 0) (input : List ℕ) (e : Error) → ((b : List ℕ) → P b → (a r : List ℕ) × (b ≡ a ++ r) × Q a)
    → Refuses Q input e → Refuses P input e
refuses_begun P Q input e begins h = record {
  none = λ more m b after is p. let (a, r, s, q) = begins b p in
      h.none more m a (r ++ after) (is ∙ ap (λ x. x ++ after) s ∙ append_assoc a r after) q;
}

-- each P is a Q
pub refuses_part : (P Q : List ℕ → Type 0) (input : List ℕ) (e : Error) → ((b : List ℕ) → P b → Q b) → Refuses Q input e → Refuses P input e
refuses_part P Q input e f h = record { none = λ more m b after is p. h.none more m b after is (f b p) }

whole : (n : ℕ) (input more b after : List ℕ) → input ++ more ≡ b ++ after → take n input ++ (drop n input ++ more) ≡ b ++ after
whole n input more b after is = sym (append_assoc (take n input) (drop n input) more) ∙ ap (λ x. x ++ more) (take-append-drop n input) ∙ is

-- each P that begins as the input does is the first n bytes and a Q
pub refuses_behind : (P Q : List ℕ → Type 0) (input : List ℕ) (n : ℕ) (e : Error)
    → ((b x y : List ℕ) → P b → take n input ++ x ≡ b ++ y → (r : List ℕ) × (x ≡ r ++ y) × Q r)
    → Refuses Q (drop n input) e → Refuses P input e
refuses_behind P Q input n e behind h = record {
  none = λ more m b after is p. let (r, s, q) = behind b (drop n input ++ more) after p (whole n input more b after is) in
      h.none more m r after s q;
}

-- no P begins as the first n bytes do
pub refuses_never : (P : List ℕ → Type 0) (input : List ℕ) (n : ℕ) (e : Error)
    → ((b x y : List ℕ) → P b → take n input ++ x ≡ b ++ y → ⊥) → Refuses P input e
refuses_never P input n e never =
    record { none = λ more m b after is p. never b (drop n input ++ more) after p (whole n input more b after is) }

-- there are fewer bytes than each P has
pub refuses_short : (P : List ℕ → Type 0) (input : List ℕ) (n : ℕ) (e : Error) → ((b : List ℕ) → P b → n ≤ length b)
    → (e ≡ Cut) × (length input < n) → Refuses P input e
refuses_short P input n e long (cut, few) = record {
  none = λ more m b after is p.
      let all : input ≡ b ++ after = sym (append-nil input) ∙ ap (λ x. input ++ x) (sym (m cut)) ∙ is in
      let l : n ≤ length b = long b p in
      omega (arith, ap length all, length-append b after);
}

-- two fronts of as many bytes
pub same_front : (n : ℕ) (input x b y : List ℕ) → n ≤ length input → length b ≡ n → take n input ++ x ≡ b ++ y → b ≡ take n input
same_front n input x b y few l e = sym (front (take n input) b x y (length-take-le n input few ∙ sym l) e)

-- what stands behind the first n bytes
pub tail_is : (n : ℕ) (input l : List ℕ) → take (length input - n) (drop n input) ≡ l → drop n input ≡ l
tail_is n input l e = sym (take_all (length input - n) (drop n input) (omega (arith, length-drop n input))) ∙ e

pub tail_all : (n : ℕ) (input : List ℕ) → take (length input - n) (drop n input) ≡ drop n input
tail_all n input = take_all (length input - n) (drop n input) (omega (arith, length-drop n input))
