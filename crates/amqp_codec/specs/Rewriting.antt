-- What can be both read and written: the laws, over whole inputs.
use Rattle.std.proofs.Common.{◌≡◌, inl, inr, ℕ, ◌≤◌, Bool, true, List, [], ◌∷◌, ◌++◌, length, take, drop, sym, ap, ◌∙◌, subst, arith}
use Rattle.std.proofs.lemmas.List.{length-take-le, take-append-drop}
use Rattle.amqp_model.specs.Term.{Term}
use Rattle.amqp_model.specs.FieldType.{normal}
use Rattle.amqp_model.specs.Ranges.{Everywhere, EverywhereIn, IsNoArray, IsBytes}
use Rattle.amqp_model.specs.Items.{terms_of}
use Rattle.amqp_model.proofs.Least.{bytes_left}
use Rattle.amqp_wire.specs.Refusals.{error_of}
use Rattle.amqp_wire.specs.declared.error.Error.{Error}
use Rattle.amqp_wire.specs.declared.error.Error.TheVariants.{TooLarge}
use Rattle.amqp_wire.specs.declared.limits.Limits.{Limits}
use Rattle.amqp_encoder.specs.Passes.{row_text}
use Rattle.amqp_encoder.specs.Refused.{TermHasCause}
use Rattle.amqp_codec.specs.TermType.{TermType}
use Rattle.amqp_codec.specs.Reading.{Reading, BeginsWith, ReadsNoMore}
use Rattle.amqp_codec.specs.TermReading.{reading_of}
use Rattle.amqp_codec.specs.Written.{AreWritable, AreUnwritable, Writing}
use Rattle.amqp_codec.specs.Spelled.{written}
use Rattle.amqp_codec.specs.laws.Spelling.{read_spelled, spelled_read, read_within}
use Rattle.amqp_codec.specs.laws.Term.{spelled_again, spelled_value, spelled_own, spelled_writable, text_unchanged, text_least}
use Rattle.amqp_codec.specs.laws.Reason.{agreed_text, agreed_writable, agreed_refused}
use Rattle.amqp_codec.specs.Agreement.{Agreement}

-- no array stands in the terms
abbrev pub HoldNoArray : List Term → Type 0
HoldNoArray ts = EverywhereIn IsNoArray (terms_of ts)

-- follows: what may stand behind a text; again: what the text of a value is read as; kept: that is the value;
-- lasts: the text is read at all
pub record Rewriting {T : Type 0} (r : Reading T) (canons : T → List Term) (is_value : T → Type 0) (follows : List ℕ → Type 0)
    (again : T → T) (kept lasts : T → Type 0) (is_least : Bool) : Type 0 where
  -- a text may end an input
  pub alone : follows []
  -- one value has one canonical text, which is read again, as a value with the same text
  pub canons_same : (v w : T) → r.same v w → canons v ≡ canons w
  pub reads_again : (v : T) (more : List ℕ) → is_value v → lasts v → AreWritable (canons v) → follows more
      → BeginsWith r (row_text (canons v) ++ more) (again v) (length (row_text (canons v)))
  pub text_again : (v : T) → is_value v → AreWritable (canons v) → row_text (canons (again v)) ≡ row_text (canons v)
  -- what was read is a value, is its own text's where that is kept, is written but for its size, was read without limits, too, and is
  -- written in no more bytes
  pub value : (input : List ℕ) (v : T) (n : ℕ) → BeginsWith r input v n → is_value v
  pub own : (input : List ℕ) (v : T) (n : ℕ) → BeginsWith r input v n → kept v → r.same (again v) v
  pub large : (input : List ℕ) (v : T) (n : ℕ) (e : Error) → BeginsWith r input v n → AreUnwritable (canons v) e → e ≡ TooLarge
  pub bounded : (limits : Limits) → ReadsNoMore limits r
  pub least : is_least ≡ true → (input : List ℕ) (v : T) (n : ℕ) → IsBytes input → HoldNoArray (canons v) → BeginsWith r input v n
      → length (row_text (canons v)) ≤ n

module _ {T : Type 0} {u : TermType T} {w : Writing T} (tie : Agreement u w) where
  term_again : (v : T) (more : List ℕ) → w.is_value v → AreWritable (w.canons v)
      → BeginsWith (reading_of u) (row_text (w.canons v) ++ more) (normal u.norm v) (length (row_text (w.canons v)))
  term_again v more i f =
      subst (λ b. BeginsWith (reading_of u) (b ++ more) (normal u.norm v) (length b)) (sym (agreed_text tie v))
      (spelled_read u (written u v) more (normal u.norm v) (spelled_again u v (tie.value_to v i) (agreed_writable tie v f)))

  term_text : (v : T) → w.is_value v → AreWritable (w.canons v) → row_text (w.canons (normal u.norm v)) ≡ row_text (w.canons v)
  term_text v i f =
      let j = tie.value_to v i in
      let g = agreed_writable tie v f in
      agreed_text tie (normal u.norm v) ∙ (text_unchanged u v (normal u.norm v) j g (spelled_again u v j g) ∙ sym (agreed_text tie v))

  term_value : (input : List ℕ) (v : T) (n : ℕ) → BeginsWith (reading_of u) input v n → w.is_value v
  term_value input v n h = tie.value_from v (spelled_value u (take n input) v (read_spelled u input v n h).1)

  term_large : (input : List ℕ) (v : T) (n : ℕ) (e : Error)
      → BeginsWith (reading_of u) input v n → AreUnwritable (w.canons v) e → e ≡ TooLarge
  term_large input v n e h x = by_reason (agreed_refused tie v e (term_value input v n h) x)
    where
      by_reason : TermHasCause (u.canon v) e → e ≡ TooLarge
      by_reason (inl (r, i, j)) = i ∙ ap error_of (spelled_writable u (take n input) v r (read_spelled u input v n h).1 j)
      by_reason (inr (i, l)) = i

  term_least : u.is_least ≡ true → (input : List ℕ) (v : T) (n : ℕ) → IsBytes input → HoldNoArray (w.canons v)
      → BeginsWith (reading_of u) input v n → length (row_text (w.canons v)) ≤ n
  term_least l input v n bytes none h =
      let front : IsBytes (take n input) =
      bytes_left (take n input) (drop n input) (subst IsBytes (sym (take-append-drop n input)) bytes) in
      let alone : Everywhere IsNoArray (u.canon v) = (subst HoldNoArray (tie.canons_is v) none).0 in
      let s = read_spelled u input v n h in
      omega (arith, ap length (agreed_text tie v), text_least u l (take n input) v front alone s.1, length-take-le n input s.0)

  -- what a type of terms shows to be `Canonical`
  pub rewrites : Rewriting (reading_of u) w.canons w.is_value (λ _. Unit {0}) (normal u.norm) (λ _. Unit {0}) (λ _. Unit {0}) u.is_least
  rewrites = record {
    alone = tt;
    canons_same = λ v x h. tie.canons_is v ∙ (ap (λ t. t ∷ []) (u.sameness.agrees v x h).canon ∙ sym (tie.canons_is x));
    reads_again = λ v more i _ f _. term_again v more i f;
    text_again = term_text;
    value = term_value;
    own = λ input v n h _. spelled_own u (take n input) v (read_spelled u input v n h).1;
    large = term_large;
    bounded = λ limits input v n h. ((read_within u limits input v n).0 h).0;
    least = term_least;
  }
