-- Reading and taking apart bodies in which there may be nothing.
use Rattle.std.proofs.Common.{◌≡◌, List, [], ◌∷◌, ◌++◌, inl, inr, Option, Some, None, MatchOption, Result, Ok, Err, IfOk, suc, refl, sym, ap, ◌∙◌, subst, arith}
use Rattle.std.specs.List.{AllZip, Any, Contains}
use Rattle.amqp_wire.specs.declared.error.Error.{Error}
use Rattle.amqp_decoder.specs.State.{State}
use Rattle.amqp_decoder.specs.Places.{RefusesAt}
use Rattle.amqp_codec.specs.Reading.{Reading}
use Rattle.amqp_codec.specs.TermType.{TermType}
use Rattle.amqp_sections.specs.declared.amqp_sequence.AmqpSequence.{AmqpSequence}
use Rattle.amqp_batches.specs.declared.transparent_vec.TransparentVec.{TransparentVec}
use Rattle.amqp_batches.specs.Batches.{sections_in}
use Rattle.amqp_bodies.specs.declared.body.Body.{Body}
use Rattle.amqp_bodies.specs.declared.body.Body.TheVariants.{Sequence}
use Rattle.amqp_bodies.specs.SomeReading.{SomeReads}
use Rattle.amqp_bodies.specs.StrippedBodies.{HasNone, AreAll, value_stripped, batch_stripped, data_batch_stripped}
use Rattle.amqp_bodies.specs.StrippedKinds.{body_stripped}

no_some : {T : Type 0} (r : Reading T) (st : State) → ((v : T) (b : State) → r.reads st v b → ⊥) → (v : Option T) (b : State)
    → SomeReads r st v b → ⊥
no_some r st n None b h = h
no_some r st n (Some v) b h = n v b h

-- what is refused is refused where it may be absent, too
pub some_refused : {T : Type 0} (r : Reading T) (st : State) (e : Error) (new : State)
    → RefusesAt r.takes_memory r.reads r.fault st e new → RefusesAt r.takes_memory (SomeReads r) r.fault st e new
some_refused r st e new q = record {
  kept = q.kept;
  again = q.again;
  named = q.named;
  none = elim q.none [ inl x ↦ inl x | inr n ↦ inr (no_some r st n) ];
}

-- one more behind each list
pub one_more : {A B : Type 0} (R : A → B → Type 0) (xs : List A) (ys : List B) (x : A) (y : B) → AllZip R xs ys → R x y
    → AllZip R (xs ++ x ∷ []) (ys ++ y ∷ [])
one_more R [] [] x y h k = (k, tt)
one_more R [] (w ∷ ys) x y h k = absurd h
one_more R (v ∷ xs) [] x y h k = absurd h
one_more R (v ∷ xs) (w ∷ ys) x y h k = (h.0, one_more R xs ys x y h.1 k)

-- what holds of the one that is there
pub there : {F : Type 0} (P : F → Type 0) (o : Option F) (f : F) → o ≡ Some f → P f → MatchOption o ⊥ P
there P o f e p = subst (λ x. MatchOption x ⊥ P) (sym e) p

none_before : {A B : Type 0} (R : A → B → Type 0) (xs : List A) (ys : List B) → AllZip R xs ys → ys ≡ [] → xs ≡ []
none_before R [] ys h e = refl
none_before R (x ∷ xs) [] h e = absurd h
none_before R (x ∷ xs) (y ∷ ys) h e = absurd (cc)

module _ {T : Type 0} (u : TermType T) (b : TransparentVec (AmqpSequence (Option T))) (some : sections_in b ≡ [] → ⊥) where
  -- the sequences of a batch that isn't empty
  pub batch_held : (c : TransparentVec (AmqpSequence T)) → AllZip (λ f s. AreAll f.0.items s.0.items) (sections_in b) (sections_in c)
      → (batch_stripped u).holds b c
  batch_held c h = (h, λ e. some (none_before (λ f s. AreAll f.0.items s.0.items) (sections_in b) (sections_in c) h e))

  pub batch_transposed : (r : Result (Option (TransparentVec (AmqpSequence T))) Error)
      → IfOk r (λ found. MatchOption found (Any (λ f. HasNone f.0.items) (sections_in b))
      (λ c. AllZip (λ f s. AreAll f.0.items s.0.items) (sections_in b) (sections_in c)))
      → IfOk r (λ v. MatchOption v ((batch_stripped u).is_nothing b) (λ x. (s : TransparentVec (AmqpSequence T)) × (batch_stripped u).holds b s × (x ≡ s)))
  batch_transposed (Err e) h = tt
  batch_transposed (Ok None) h = inr h
  batch_transposed (Ok (Some c)) h = (c, batch_held c h, refl)

-- the sequences of a body
pub body_held : {T : Type 0} (u : TermType T) (src : Body (Option T)) (b : TransparentVec (AmqpSequence (Option T)))
    (c : TransparentVec (AmqpSequence T)) → src ≡ Sequence b → (batch_stripped u).holds b c
    → (body_stripped (value_stripped u) data_batch_stripped (batch_stripped u)).holds src (Sequence c)
body_held u src b c e h =
    subst (λ x. (body_stripped (value_stripped u) data_batch_stripped (batch_stripped u)).holds x (Sequence c)) (sym e) h

one_behind : {A : Type 0} (xs more : List A) (x : A) → xs ++ (x ∷ more) ≡ (xs ++ x ∷ []) ++ more
one_behind [] more x = refl
one_behind (y ∷ xs) more x = ap (λ z. y ∷ z) (one_behind xs more x)

in_middle : {A : Type 0} (xs more : List A) (x : A) → Contains (xs ++ (x ∷ more)) x
in_middle [] more x = (0, omega arith, refl)
in_middle (y ∷ xs) more x = let k = in_middle xs more x in (suc k.0, (let l = k.1 in omega (arith, l)), k.2)

module _ {A : Type 0} (all xs rest more : List A) (x : A) (split : all ≡ xs ++ rest) (next : rest ≡ x ∷ more) where
  -- a loop's next item
  pub passed_one : all ≡ (xs ++ x ∷ []) ++ more
  passed_one = split ∙ ap (λ z. xs ++ z) next ∙ one_behind xs more x

  pub is_among : Contains all x
  is_among = subst (λ z. Contains z x) (sym (split ∙ ap (λ z. xs ++ z) next)) (in_middle xs more x)
