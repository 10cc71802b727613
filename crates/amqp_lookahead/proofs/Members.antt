-- The place of a member, by the codes and names alone.
use Rattle.std.proofs.Common.{◌≡◌, suc, nat_lt, not, ◌+◌, cond, eqb, List, [], ◌∷◌, length, map, Some, None, refl, ap, ap₂}
use Rattle.std.specs.List.{position_or_len}
use Rattle.std.specs.Str.{bytes_eq}
use Rattle.amqp_model.specs.Term.{Descriptor, name, code}
use Rattle.amqp_lookahead.specs.Members.{Member, is_of, place_of, as_name, is_named, name_place}

length_names : (ms : List Member) → length ms ≡ length (map as_name ms)
length_names [] = refl
length_names (m ∷ ms) = ap suc (length_names ms)

first_named : (d : Descriptor) (ms : List Member) → position_or_len (is_of d) ms ≡ position_or_len (is_named d) (map as_name ms)
first_named d [] = refl
first_named (code n) (m ∷ ms) = ap (λ k. cond (not (eqb m.0 n)) (1 + k) 0) (first_named (code n) ms)
first_named (name s) (m ∷ ms) = ap (λ k. cond (not (bytes_eq m.1.now s)) (1 + k) 0) (first_named (name s) ms)

pub place_is : (d : Descriptor) (ms : List Member) → place_of ms d ≡ name_place (map as_name ms) d
place_is d ms = ap₂ (λ k n. cond (nat_lt k n) (Some k) None) (first_named d ms) (length_names ms)
