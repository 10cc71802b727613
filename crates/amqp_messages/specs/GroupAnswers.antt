-- What reading a group into what was read before answers.
use Rattle.std.specs.Prelude.{◌≡◌, true, Option, Some, Result, Ok, Err, ℕ}
use Rattle.amqp_wire.specs.declared.error.Error.{Error}
use Rattle.amqp_decoder.specs.State.{State}
use Rattle.amqp_decoder.specs.Places.{RefusesAt}
use Rattle.amqp_codec.specs.Reading.{Reading}
use Rattle.amqp_messages.specs.Kinds.{Kinds, Group, Fields, put}
use Rattle.amqp_messages.specs.KindsReading.{Readings, Reads, KindFault}

-- What was read is there now, or why nothing is.
abbrev pub AnswersPut : {A : Type 0} → Reading A → Option A → State → Result (Unit {0}) Error → State → Type 0
AnswersPut {A} r place st (Ok none) b = (v : A) × r.reads st v b × (place ≡ Some v)
AnswersPut r place st (Err e) b = RefusesAt true r.reads r.fault st e b

-- A group of the kind that has this code was read, and takes the place of an earlier one; or why none was.
abbrev pub AnswersGroup : (ks : Kinds) → Readings ks → ℕ → Fields ks → Fields ks → State → Result (Unit {0}) Error → State → Type 0
AnswersGroup ks rs c m x st (Ok none) b = (g : Group ks) × Reads ks rs c st g b × (x ≡ put ks g m)
AnswersGroup ks rs c m x st (Err e) b = RefusesAt true (Reads ks rs c) (KindFault ks rs c) st e b
