-- How groups of some kinds are read again from their text.
use Rattle.std.proofs.Common.{inl, inr}
use Rattle.std.specs.Prelude.{◌≡◌, ◌⊎◌, true, List, [], ◌∷◌, Option, Some, None, option_map}
use Rattle.std.proofs.Common.{map}
use Rattle.amqp_batches.specs.GroupTexts.{GroupText, IsSound}
use Rattle.amqp_batches.specs.laws.Resuming.{IsRead}
use Rattle.amqp_messages.specs.Kinds.{Kinds, none, kind, is_in, Fields, Group}
use Rattle.amqp_messages.specs.KindsReading.{Readings}
use Rattle.amqp_messages.specs.KindsWriting.{Properties, Writings}

-- The text of a group of each kind.
abbrev pub Texts : (ks : Kinds) → Readings ks → Type 1
Texts none rs = Unit {1}
Texts (kind T codes ks) rs = GroupText rs.0 (λ c. is_in codes c ≡ true) × Texts ks rs.1

abbrev pub writings_in : (ks : Kinds) (rs : Readings ks) → Texts ks rs → Writings ks
writings_in none rs ts = ts
writings_in (kind T codes ks) rs ts = (ts.0.writing, writings_in ks rs.1 ts.1)

-- What each group is read as again.
abbrev pub again : (ks : Kinds) (rs : Readings ks) → Texts ks rs → Fields ks → Fields ks
again none rs ts m = m
again (kind T codes ks) rs ts m = (option_map ts.0.again m.0, again ks rs.1 ts.1 m.1)

-- Its text is read; that is the group; it was read; it is sound.
abbrev pub are_lasting : (ks : Kinds) (rs : Readings ks) → Texts ks rs → Properties ks
are_lasting none rs ts = ts
are_lasting (kind T codes ks) rs ts = (ts.0.lasts, are_lasting ks rs.1 ts.1)

abbrev pub are_kept : (ks : Kinds) (rs : Readings ks) → Texts ks rs → Properties ks
are_kept none rs ts = ts
are_kept (kind T codes ks) rs ts = (ts.0.kept, are_kept ks rs.1 ts.1)

abbrev pub were_read : (ks : Kinds) → Readings ks → Properties ks
were_read none rs = rs
were_read (kind T codes ks) rs = (IsRead rs.0, were_read ks rs.1)

abbrev pub are_sound : (ks : Kinds) (rs : Readings ks) → Texts ks rs → Properties ks
are_sound none rs ts = ts
are_sound (kind T codes ks) rs ts = (IsSound ts.0, are_sound ks rs.1 ts.1)

-- The groups that are there, in order.
abbrev pub in_front : {A B : Type 0} → Option A → List B → List (A ⊎ B)
in_front None gs = map inr gs
in_front (Some g) gs = inl g ∷ map inr gs

abbrev pub groups_of : (ks : Kinds) → Fields ks → List (Group ks)
groups_of none m = []
groups_of (kind T codes ks) m = in_front m.0 (groups_of ks m.1)
