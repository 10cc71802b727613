-- Identifiers of messages may be keys of maps: two are equal if they are one primitive.
use Rattle.std.proofs.Common.{◌≡◌, refl, string_bytes}
use Rattle.std.specs.Prelude.{nat_eq}
use Rattle.std.specs.Bool.{Decides}
use Rattle.std.specs.Cmp.{unsigned_Decides}
use Rattle.std.specs.Str.{bytes_eq}
use Rattle.std.proofs.lemmas.Slice.Eq.{bytes_eq-Decides}
use Rattle.amqp_model.specs.Term.{leaf}
use Rattle.amqp_codec.specs.PrimitiveTypes.{ulong_base, uuid_base, binary_base, string_base}
use Rattle.amqp_kinds.specs.laws.SumKey.{of_one_kind, of_other_kinds}
use Rattle.amqp_message_headers.specs.contracts.message_id.MessageIdPartialEq.TheImpl.{ghosts}
use Rattle.amqp_message_headers.specs.declared.message_id.MessageId.{MessageId}
use Rattle.amqp_message_headers.specs.declared.message_id.MessageId.TheVariants as id
use Rattle.amqp_message_headers.specs.MessageIds.{id_primitive}

pub ids_decide : (v w : MessageId) → Decides (ghosts.eq v w) (leaf (id_primitive v) ≡ leaf (id_primitive w))
ids_decide (id.Ulong n) (id.Ulong m) = of_one_kind ulong_base nat_eq unsigned_Decides n m
ids_decide (id.Uuid u) (id.Uuid v) = of_one_kind uuid_base bytes_eq bytes_eq-Decides u.0 v.0
ids_decide (id.Binary b) (id.Binary c) = of_one_kind binary_base bytes_eq bytes_eq-Decides b.0.items c.0.items
ids_decide (id.String s) (id.String t) = of_one_kind string_base bytes_eq bytes_eq-Decides (string_bytes s) (string_bytes t)
ids_decide v w = of_other_kinds (id_primitive v) (id_primitive w) refl
