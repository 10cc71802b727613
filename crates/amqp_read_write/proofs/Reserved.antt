-- What stays in a reader.
use Rattle.std.proofs.Common.{◌≡◌, ◌-◌, ◌+◌, ◌≤◌, ℕ, Bool, true, false, List, ◌++◌, length, take, drop, Option, Some, None, Result, Ok, Err}
use Rattle.std.proofs.Common.{IfOk, OnErr, refl, sym, ap, ◌∙◌, subst, arith}
use Rattle.std.proofs.lemmas.List.{length-drop, length-append, drop-drop, drop_at}
use Rattle.std.specs.Io.KnownBytes.{Consumes}
use Rattle.amqp_wire.specs.Sources.{known, IsTold, AddsNext}
use Rattle.amqp_wire.proofs.Sources.{consumed_known}
use Rattle.amqp_decoder.specs.State.{Has}
use Rattle.amqp_decoder.specs.Reserve.{Leaves}
use Rattle.amqp_read_write.specs.Reserved.{reserved, IsRestOf}

-- some more bytes were taken
pub rest_behind : (origin : List ℕ) (old new : Option (List ℕ)) (s : List ℕ) → IsTold old → Consumes old new s
    → IsRestOf origin (known old) → IsRestOf origin (known new)
rest_behind origin old new s told h is =
    let n = length origin - length (known old) in
    let took : known old ≡ s ++ known new = consumed_known old new s told h in
    let behind : known new ≡ drop (n + length s) origin =
    sym (drop_at s (known new) (length s) refl) ∙ ap (drop (length s)) (sym took ∙ is) ∙ drop-drop (length s) n origin in
    let long = ap length took ∙ length-append s (known new) in
    let all = ap length is ∙ length-drop n origin in
    let same : n + length s ≡ length origin - length (known new) = omega (arith, long, all) in
    behind ∙ ap (λ k. drop k origin) same

pub rest_whole : (origin left : List ℕ) → left ≡ origin → IsRestOf origin left
rest_whole origin left is =
    let none : 0 ≡ length origin - length left = omega (arith, ap length is) in is ∙ ap (λ k. drop k origin) none

-- nothing was taken
unmoved : (origin : List ℕ) (old new : Option (List ℕ)) → new ≡ old → IsRestOf origin (known old) → IsRestOf origin (known new)
unmoved origin old new is h = subst (λ o. IsRestOf origin (known o)) (sym is) h

-- behind a pull of a source that hasn't failed
pub pulled_rest : {E : Type 0} (origin buffer : List ℕ) (old new : Option (List ℕ)) (before after : Bool) (r : Result ℕ E) → IsTold old
    → IfOk r (λ n. Consumes old new (take n buffer)) → IfOk r (λ _. after ≡ before) → OnErr r (after ≡ true)
    → (before ≡ false → IsRestOf origin (known old)) → after ≡ false → IsRestOf origin (known new)
pulled_rest origin buffer old new before after (Ok n) told took same fails rest sound =
    rest_behind origin old new (take n buffer) told took (rest (sym same ∙ sound))
pulled_rest origin buffer old new before after (Err e) told took same fails rest sound = absurd (cc)

-- the quick way
pub ready_rest : (origin buffer : List ℕ) (old new : Option (List ℕ)) (before after done : Bool) → IsTold old
    → (done ≡ true → Consumes old new buffer) → (done ≡ false → new ≡ old) → after ≡ before
    → (before ≡ false → IsRestOf origin (known old)) → after ≡ false → IsRestOf origin (known new)
ready_rest origin buffer old new before after true told taken left same rest sound =
    rest_behind origin old new buffer told (taken refl) (rest (sym same ∙ sound))
ready_rest origin buffer old new before after false told taken left same rest sound =
    unmoved origin old new (left refl) (rest (sym same ∙ sound))

abbrev is_done : {E : Type 0} → Result Bool E → Bool
is_done (Ok b) = b
is_done (Err e) = false

pub appended_rest : {E : Type 0} (origin : List ℕ) (n : ℕ) (a b : List ℕ) (old new : Option (List ℕ)) (before after : Bool)
    (r : Result Bool E) → IsTold old → (r ≡ Ok true → AddsNext old new n a b) → ((r ≡ Ok true → ⊥) → (new ≡ old) × (b ≡ a))
    → after ≡ before → (before ≡ false → IsRestOf origin (known old)) → after ≡ false → IsRestOf origin (known new)
appended_rest origin n a b old new before after (Ok true) told taken left same rest sound =
    let t = taken refl in rest_behind origin old new t.0 told t.3 (rest (sym same ∙ sound))
appended_rest origin n a b old new before after (Ok false) told taken left same rest sound =
    unmoved origin old new (left (λ e. (let t : false ≡ true = ap is_done e in absurd (cc)))).0 (rest (sym same ∙ sound))
appended_rest origin n a b old new before after (Err x) told taken left same rest sound =
    unmoved origin old new (left (λ e. (let t : false ≡ true = ap is_done e in absurd (cc)))).0 (rest (sym same ∙ sound))

-- the limit leaves what stays
pub reserve_left : (one : Bool) (limit : Option ℕ) (there reserve : ℕ) → one ≡ true → reserve ≡ reserved one limit there
    → Leaves reserve limit there
reserve_left true (Some l) there reserve is same = λ some. (l, refl, omega (arith, same, some))
reserve_left true None there reserve is same = λ some. absurd (omega (arith, same, some))
reserve_left false limit there reserve is same = absurd (cc)

-- no more was taken than the limit says
pub taken_within : (one : Bool) (limit : Option ℕ) (origin left : List ℕ) (reserve : ℕ) → one ≡ true
    → reserve ≡ reserved one limit (length origin) → IsRestOf origin left → reserve ≤ length left
    → (n : ℕ) × Has limit n × (left ≡ drop n origin)
taken_within true None origin left reserve is same rest least = (length origin - length left, tt, rest)
taken_within true (Some l) origin left reserve is same rest least = (length origin - length left, omega (arith, same, least), rest)
taken_within false limit origin left reserve is same rest least = absurd (cc)
