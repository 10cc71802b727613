-- The sections of a message are written one after another.
use Rattle.std.proofs.Common.{List, [], ◌++◌, Result, sym, subst}
use Rattle.std.proofs.lemmas.List.{append-nil}
use Rattle.amqp_model.specs.Term.{Term}
use Rattle.amqp_wire.specs.declared.error.Error.{Error}
use Rattle.amqp_encoder.specs.State.{Encoder}
use Rattle.amqp_codec.specs.Written.{WritesTerms}

-- nothing follows the last
pub last_terms : {ts : List Term} {a b : Encoder} {r : Result (Unit {0}) Error} → WritesTerms ts a r b → WritesTerms (ts ++ []) a r b
last_terms {ts} {a} {b} {r} h = subst (λ us. WritesTerms us a r b) (sym (append-nil ts)) h
