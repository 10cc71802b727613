-- Identifiers of messages, which are primitives of four kinds (Part 3, sections 3.2.11 to 3.2.14).
use Rattle.std.proofs.Common.{◌≡◌, ℕ, false, string_bytes, refl}
use Rattle.amqp_model.specs.Term.{Primitive, ulong, uuid, binary, string, leaf}
use Rattle.amqp_model.specs.Items.{is_null_primitive}
use Rattle.amqp_codec.specs.TermType.{TermType}
use Rattle.amqp_kinds.specs.declared.kind.Kind.{Kind}
use Rattle.amqp_kinds.specs.declared.kind.Kind.TheVariants as kind
use Rattle.amqp_kinds.specs.Kinds.{term_kind}
use Rattle.amqp_kinds.specs.KindMembers.{KindMembers, no_more, member, IsAt, KindSumOf}
use Rattle.amqp_kinds.specs.KindSumType.{kind_sum_type}
use Rattle.amqp_kinds.specs.PrimitiveMembers.{ulong_member, uuid_member, binary_member, string_member}
use Rattle.amqp_message_headers.specs.declared.message_id.MessageId.{MessageId}
use Rattle.amqp_message_headers.specs.declared.message_id.MessageId.TheVariants as id

abbrev pub id_primitive : MessageId → Primitive
id_primitive (id.Ulong n) = ulong n
id_primitive (id.Uuid u) = uuid u.0
id_primitive (id.Binary b) = binary b.0.items
id_primitive (id.String s) = string (string_bytes s)

-- The members in their order, and the place of the member of a kind.
abbrev pub id_members : KindMembers MessageId
id_members =
    member ulong_member id.Ulong (member uuid_member id.Uuid (member binary_member id.Binary (member string_member id.String no_more)))

abbrev pub id_place : Kind → ℕ
id_place kind.Ulong = 0
id_place kind.Uuid = 1
id_place kind.Binary = 2
id_place _ = 3

abbrev pub id_held : (v : MessageId) → IsAt id_members (id_place (term_kind (leaf (id_primitive v)))) v
id_held (id.Ulong n) = (n, refl)
id_held (id.Uuid u) = (u, refl)
id_held (id.Binary b) = (b, refl)
id_held (id.String s) = (s, refl)

pub id_not_null : (v : MessageId) → is_null_primitive (id_primitive v) ≡ false
id_not_null (id.Ulong n) = refl
id_not_null (id.Uuid u) = refl
id_not_null (id.Binary b) = refl
id_not_null (id.String s) = refl

abbrev pub message_ids : KindSumOf MessageId
message_ids = record {
  primitive = id_primitive;
  members = id_members;
  place = id_place;
  made = (λ x. refl, (λ x. refl, (λ x. refl, (λ x. refl, tt))));
  held = id_held;
  not_null = id_not_null;
}

abbrev pub message_id_type : TermType MessageId
message_id_type = kind_sum_type message_ids

-- what is of no other member's kind is left to the last
pub id_others : (k : Kind) → (k ≡ kind.Ulong → ⊥) → (k ≡ kind.Uuid → ⊥) → (k ≡ kind.Binary → ⊥) → id_place k ≡ 3
id_others kind.Ulong f g h = absurd (f refl)
id_others kind.Uuid f g h = absurd (g refl)
id_others kind.Binary f g h = absurd (h refl)
id_others _ f g h = refl
