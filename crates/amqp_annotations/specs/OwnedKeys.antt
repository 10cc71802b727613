-- The keys of annotations, which are primitives of two kinds (Part 3, section 3.2.10).
use Rattle.std.proofs.Common.{◌≡◌, ℕ, false, string_bytes, refl}
use Rattle.amqp_model.specs.Term.{Primitive, ulong, symbol, leaf}
use Rattle.amqp_model.specs.Items.{is_null_primitive}
use Rattle.amqp_kinds.specs.declared.kind.Kind.{Kind}
use Rattle.amqp_kinds.specs.declared.kind.Kind.TheVariants as kind
use Rattle.amqp_kinds.specs.Kinds.{term_kind}
use Rattle.amqp_kinds.specs.KindMembers.{KindMembers, no_more, member, IsAt, KindSumOf}
use Rattle.amqp_kinds.specs.PrimitiveMembers.{ulong_member, symbol_member}
use Rattle.amqp_annotations.specs.declared.owned_key.OwnedKey.{OwnedKey}
use Rattle.amqp_annotations.specs.declared.owned_key.OwnedKey.TheVariants as key

abbrev pub owned_primitive : OwnedKey → Primitive
owned_primitive (key.Symbol s) = symbol (string_bytes s.0)
owned_primitive (key.Ulong n) = ulong n

-- The members in their order, and the place of the member of a kind.
abbrev pub owned_members : KindMembers OwnedKey
owned_members = member symbol_member key.Symbol (member ulong_member key.Ulong no_more)

abbrev pub owned_place : Kind → ℕ
owned_place kind.Symbol = 0
owned_place _ = 1

abbrev pub owned_held : (v : OwnedKey) → IsAt owned_members (owned_place (term_kind (leaf (owned_primitive v)))) v
owned_held (key.Symbol s) = (s, refl)
owned_held (key.Ulong n) = (n, refl)

pub owned_not_null : (v : OwnedKey) → is_null_primitive (owned_primitive v) ≡ false
owned_not_null (key.Symbol s) = refl
owned_not_null (key.Ulong n) = refl

abbrev pub owned_keys : KindSumOf OwnedKey
owned_keys = record {
  primitive = owned_primitive;
  members = owned_members;
  place = owned_place;
  made = (λ x. refl, (λ x. refl, tt));
  held = owned_held;
  not_null = owned_not_null;
}

-- what is of no other member's kind is left to the last
pub owned_others : (k : Kind) → (k ≡ kind.Symbol → ⊥) → owned_place k ≡ 1
owned_others kind.Symbol f = absurd (f refl)
owned_others _ f = refl
