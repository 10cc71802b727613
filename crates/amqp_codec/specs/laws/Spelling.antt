-- What is read from an input is what its front spells.
use Rattle.std.proofs.Common.{◌≡◌, ℕ, ◌+◌, ◌-◌, ◌≤◌, ◌↔◌, false, List, [], ◌++◌, length, take, refl, sym, ap, ◌∙◌, subst, arith, length-append}
use Rattle.std.proofs.lemmas.List.{length-drop, take_at}
use Rattle.amqp_model.specs.Term.{Term}
use Rattle.amqp_model.specs.Spelling.{IsSpelling}
use Rattle.amqp_model.specs.Measures.{nest, weight}
use Rattle.amqp_model.proofs.Unique.{one_term}
use Rattle.amqp_wire.specs.declared.limits.Limits.{Limits}
use Rattle.amqp_wire.specs.Limits.{limit_of}
use Rattle.amqp_decoder.specs.State.{State, Has, after_value}
use Rattle.amqp_codec.specs.TermType.{TermType}
use Rattle.amqp_codec.specs.Spelled.{IsSpelled}
use Rattle.amqp_codec.specs.Reading.{BeginsWithin, BeginsWith, start_within, start, greatest}
use Rattle.amqp_codec.specs.TermReading.{reading_of}

module _ {T : Type 0} (u : TermType T) where
  -- the bytes that were read, and how many they are
  read_front : (limits : Limits) (input : List ℕ) (v : T) (n : ℕ) (h : BeginsWithin limits (reading_of u) input v n)
      → (length h.read.bytes ≡ n) × (h.read.bytes ≡ take n input)
  read_front limits input v n h =
      let k = h.read in
      let s = k.bytes in
      let long : length input ≡ length s + length k.stands.after = ap length k.stands.rest ∙ length-append s k.stands.after in
      let left : length h.after.rest ≡ length input - length s = ap (λ (x : State). length x.rest) k.moved ∙ length-drop (length s) input in
      let n_is : length s ≡ n = omega (arith, long, left, h.left) in
      (n_is, sym (ap (take n) k.stands.rest ∙ take_at s k.stands.after n n_is))

  pub read_spelled : (input : List ℕ) (v : T) (n : ℕ) → BeginsWith (reading_of u) input v n
      → (n ≤ length input) × IsSpelled u (take n input) v
  read_spelled input v n h =
      let k = h.read in
      let f = read_front greatest input v n h in (
        omega (arith, f.0, ap length k.stands.rest, length-append k.bytes k.stands.after),
        subst (λ b. IsSpelled u b v) f.1
            (record { term = k.term; spelled = k.stands.spelled; nested = (let x = k.stands.nested in omega (arith, x)); meant = k.meant }),
      )

  pub spelled_read : (b more : List ℕ) (v : T) → IsSpelled u b v → BeginsWith (reading_of u) (b ++ more) v (length b)
  spelled_read b more v h = record {
    after = after_value (length b) (weight h.term false) (start (b ++ more));
    read = record {
      bytes = b;
      term = h.term;
      stands = record {
        going = refl;
        item = tt;
        room = tt;
        after = more;
        rest = refl;
        spelled = h.spelled;
        nested = (let x = h.nested in omega (arith, x));
        few = tt;
      };
      moved = refl;
      meant = h.meant;
    };
    left = omega (arith, length-drop (length b) (b ++ more), length-append b more);
  }

  without_limits : (limits : Limits) (input : List ℕ) (v : T) (n : ℕ) → BeginsWithin limits (reading_of u) input v n
      → BeginsWith (reading_of u) input v n
  without_limits limits input v n h =
      let k = h.read in
      let s = k.stands in
      record {
        after = after_value (length k.bytes) (weight k.term false) (start input);
        read = record {
          bytes = k.bytes;
          term = k.term;
          stands = record {
            going = refl;
            item = tt;
            room = tt;
            after = s.after;
            rest = s.rest;
            spelled = s.spelled;
            nested = (let deep = s.nested in let most = limits.nests in omega (arith, deep, most));
            few = tt;
          };
          moved = refl;
          meant = k.meant;
        };
        left = ap (λ (x : State). length x.rest + n) (sym k.moved) ∙ h.left;
      }

  within_limits : (limits : Limits) (input : List ℕ) (v : T) (n : ℕ) → BeginsWith (reading_of u) input v n → Has (limit_of limits.bytes) n
      → ((t : Term) → IsSpelling (take n input) t → (nest t ≤ limits.nesting) × Has (limit_of limits.items) (weight t false))
      → BeginsWithin limits (reading_of u) input v n
  within_limits limits input v n h room deep =
      let k = h.read in
      let s = k.stands in
      let f = read_front greatest input v n h in
      record {
        after = after_value (length k.bytes) (weight k.term false) (start_within limits input);
        read = record {
          bytes = k.bytes;
          term = k.term;
          stands = record {
            going = refl;
            item = tt;
            room = subst (Has (limit_of limits.bytes)) (sym f.0) room;
            after = s.after;
            rest = s.rest;
            spelled = s.spelled;
            nested = (let few = (deep k.term (subst (λ b. IsSpelling b k.term) f.1 s.spelled)).0 in omega (arith, few));
            few = (deep k.term (subst (λ b. IsSpelling b k.term) f.1 s.spelled)).1;
          };
          moved = refl;
          meant = k.meant;
        };
        left = ap (λ (x : State). length x.rest + n) (sym k.moved) ∙ h.left;
      }

  no_deeper : (limits : Limits) (input : List ℕ) (v : T) (n : ℕ) → BeginsWithin limits (reading_of u) input v n → (t : Term)
      → IsSpelling (take n input) t → (nest t ≤ limits.nesting) × Has (limit_of limits.items) (weight t false)
  no_deeper limits input v n h t s =
      let k = h.read in
      let f = read_front limits input v n h in
      let deep = k.stands.nested in
      let same : t ≡ k.term = one_term (take n input) k.bytes [] [] t k.term s k.stands.spelled (ap (λ b. b ++ []) (sym f.1)) in
      (omega (arith, ap nest same, deep), subst (λ x. Has (limit_of limits.items) (weight x false)) (sym same) k.stands.few)

  -- within limits is read what is read without, as far as its bytes, how deep it nests and how many values it has are within them
  pub read_within : (limits : Limits) (input : List ℕ) (v : T) (n : ℕ) → BeginsWithin limits (reading_of u) input v n
      ↔ (BeginsWith (reading_of u) input v n × Has (limit_of limits.bytes) n
      × ((t : Term) → IsSpelling (take n input) t → (nest t ≤ limits.nesting) × Has (limit_of limits.items) (weight t false)))
  read_within limits input v n = (
    λ h. (
      without_limits limits input v n h,
      subst (Has (limit_of limits.bytes)) (read_front limits input v n h).0 h.read.stands.room,
      no_deeper limits input v n h,
    ),
    λ h. within_limits limits input v n h.0 h.1 h.2,
  )
