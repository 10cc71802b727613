-- Restricted types and sums of composites.
use Rattle.std.proofs.Common.{ℕ, zero, suc}
use Rattle.amqp_wire.specs.declared.error.Error.{Error}
use Rattle.amqp_wire.specs.declared.error.Error.TheVariants.{UnknownText, UnknownNumber}
use Rattle.amqp_lengths.specs.Stands.{Piece, Around, IsWhole, IsWrong}
use Rattle.amqp_codec.specs.PrimitiveTypes.{Base}
use Rattle.amqp_sums.specs.Restricted.{IsUnknownError, RestrictedFault, no_primitive, of_no_value}
use Rattle.amqp_sums.specs.Choices.{Choices, no_more, member, SumOf, sum_of, faults_at, members_of}
use Rattle.amqp_sums.proofs.SumMembers.{are_members}
use Rattle.amqp_placed.specs.Facing.{bytes_open, AreShown}
use Rattle.amqp_placed.specs.Shown.{ChoicesShown}
use Rattle.amqp_placed.proofs.Here.{wrong_as, here_shows, next_left}
use Rattle.amqp_placed.proofs.Primitives.{primitive_shown}
use Rattle.amqp_placed.proofs.Wholes.{whole_next}
use Rattle.amqp_placed.proofs.Fields.{fields_shown}
use Rattle.amqp_placed.proofs.Formers.{member_shown}

unknown_wrong : (e : Error) (around : Around) (P : Piece) (d : ℕ) (z : _) → IsUnknownError e → IsWhole P z → IsWrong e around P d z
unknown_wrong UnknownNumber around P d z is h = h
unknown_wrong UnknownText around P d z is h = h
unknown_wrong _ around P d z is h = absurd is

module _ (e : Error) where
  pub restricted_shown : {A V : Type 0} (base : Base A) (unknown : Error) (table : V → A) → IsUnknownError unknown
      → AreShown e (RestrictedFault base unknown table)
  restricted_shown base unknown table told st f is (no_primitive h) P d around faces =
      primitive_shown base.kind st f h P d around faces
  restricted_shown base unknown table told st f is (of_no_value {a} {b} value none error place) P d around h =
      here_shows st f P d around place (wrong_as f.error unknown around P d (bytes_open st) error
      (unknown_wrong unknown around P d (bytes_open st) told
      (whole_next st P value.bytes value.term value.stands (next_left st.top.items st.top.shared P value.stands.item h.next))))

  choice_shown : {V : Type 0} (cs : Choices V) → ChoicesShown e cs → (i : ℕ) → AreShown e (faults_at cs i).fault
  choice_shown no_more shown i st f is h = absurd h
  choice_shown (member c make cs) shown zero st f is h = fields_shown e c.fields shown.0 st f is h
  choice_shown (member c make cs) shown (suc i) st f is h = choice_shown cs shown.1 i st f is h

  pub sum_shown : {V : Type 0} (sum : SumOf V) → ChoicesShown e sum.choices → AreShown e (sum_of sum).faults.fault
  sum_shown sum shown =
      member_shown e (members_of sum.choices)
      (λ i inner v last h. (let r = (are_members sum).to_term i inner v last h in (r.term, r.taken))) (choice_shown sum.choices shown)
