-- The type of a sum of primitive types: a value is its primitive.
use Rattle.std.proofs.Common.{true}
use Rattle.amqp_model.specs.Term.{Term, leaf}
use Rattle.amqp_codec.specs.TermType.{TermType}
use Rattle.amqp_codec.specs.laws.Tree.{IsTree}
use Rattle.amqp_codec.specs.TreeType.{tree}
use Rattle.amqp_kinds.specs.KindReading.{kind_faults}
use Rattle.amqp_kinds.specs.KindMembers.{KindSumOf, faults_at}

module _ {V : Type 0} (s : KindSumOf V) where
  abbrev pub sum_term : V → Term
  sum_term v = leaf (s.primitive v)

  abbrev pub sums_are_trees : (v : V) → IsTree (sum_term v)
  sums_are_trees v = tt

  -- Why none is read: none begins, or what begins by a code has a fault of the member of that kind; or it is of no member's kind, and
  -- a member says so.
  abbrev pub kind_sum_type : TermType V
  kind_sum_type = record (tree sum_term sums_are_trees (kind_faults (λ k. faults_at s.members (s.place k))) true) {
    is_never_null = true;
    never_null = λ _ v. s.not_null v;
  }
