-- The code of a composite takes no more bytes than any descriptor that means the composite.
use Rattle.std.proofs.Common.{◌≡◌, ℕ, ◌+◌, ◌<◌, ◌≤◌, true, List, [], length, length-append, refl, ap, ◌∙◌, subst, arith, cond, eqb, ltb}
use Rattle.amqp_model.specs.Term.{Descriptor, name, code, ulong, symbol}
use Rattle.amqp_model.specs.Spelling.{Names}
use Rattle.amqp_model.specs.Text.{shortest, wide, with_size, spell}
use Rattle.amqp_model.specs.Ranges.{IsBytes}
use Rattle.amqp_model.specs.Composite.{Table, Describes}
use Rattle.amqp_model.proofs.Least.{descriptor_least}
use Rattle.std.proofs.lemmas.Bool.{cond_both, ltb-false, ltb-true}
use Rattle.amqp_model.proofs.Bytes.{length-bytes}
use Rattle.std.specs.Int.{bytes_high_first, w8, to_be_bytes}

-- a code below 256 takes two bytes at most, and a name at least two
code_length : (n : ℕ) → n < 256 → length (spell (shortest (ulong n))) ≤ 2
code_length n h =
    cond_both (eqb n 0) (0x44, []) (cond (ltb n 256) (0x53, to_be_bytes w8 n) (wide (ulong n)))
    (λ x. length (spell x) ≤ 2) (λ _. omega arith)
    (λ _. cond_both (ltb n 256) (0x53, to_be_bytes w8 n) (wide (ulong n)) (λ x. length (spell x) ≤ 2) (λ _. omega arith)
    (λ e. absurd (let l = ltb-false n 256 e in omega arith)))

sized : (w : ℕ) (s : List ℕ) → length (with_size w s) ≡ w + length s
sized w s = length-append (bytes_high_first w (length s)) s ∙ ap (λ k. k + length s) (length-bytes w (length s))

name_length : (s : List ℕ) → 2 ≤ length (spell (shortest (symbol s)))
name_length s =
    cond_both (ltb (length s) 256) (0xa3, with_size 1 s) (wide (symbol s)) (λ x. 2 ≤ length (spell x)) (λ _. omega (arith, sized 1 s))
    (λ _. omega (arith, sized 4 s))

pub descriptor_short : {V : Type 0} (c : Table V) → ltb c.code 256 ≡ true → (d : Descriptor) (first : List ℕ) → Describes c d
    → Names d first → IsBytes first → length (spell (shortest (ulong c.code))) ≤ length first
descriptor_short c small (code n) first e names bytes =
    subst (λ m. length (spell (shortest (ulong m))) ≤ length first) e (descriptor_least (code n) (code n) first refl names bytes)
descriptor_short c small (name s) first e names bytes =
    let least = descriptor_least (name s) (name s) first refl names bytes in
    omega (arith, code_length c.code (ltb-true c.code 256 small), name_length s, least)
