-- What the laws make of a text that was written after its value was read.
use Rattle.std.proofs.Common.{◌≡◌, ◌⊎◌, inl, inr, ℕ, ◌≤◌, Bool, true, List, [], ◌++◌, length, sym, ap, ◌∙◌, subst}
use Rattle.std.proofs.lemmas.List.{append-nil}
use Rattle.amqp_model.specs.Term.{Term}
use Rattle.amqp_wire.specs.declared.error.Error.{Error}
use Rattle.amqp_wire.specs.declared.error.Error.TheVariants.{Memory, Limit}
use Rattle.amqp_wire.specs.declared.limits.Limits.{Limits}
use Rattle.amqp_encoder.specs.Passes.{row_text}
use Rattle.amqp_decoder.specs.Steps.{IsReadError}
use Rattle.amqp_decoder.proofs.NotOutside.{read_is_outside}
use Rattle.amqp_codec.specs.Reading.{Reading, BeginsWith, BeginsWithin, IsUnreadable, IsUnreadableWithin, greatest, start}
use Rattle.amqp_codec.specs.laws.Reading.{read_one}
use Rattle.amqp_codec.specs.Rewriting.{Rewriting}
use Rattle.amqp_read_write.specs.Rewritten.{IsRewritten, IsReadAgain, AreReadAgain, IsOneText, IsOfNoOther, IsUnchanged, IsShortest, AreShortest, IsUnwritten}
use Rattle.amqp_read_write.specs.Rewritten.{IsRewrittenWithin, IsUnwrittenWithin}
use Rattle.amqp_codec.specs.Written.{AreWritable, AreUnwritable}

module _ {T : Type 0} {r : Reading T} {canons : T → List Term} {is_value : T → Type 0} {follows : List ℕ → Type 0} {again : T → T}
    {kept lasts : T → Type 0} {is_least : Bool} (laws : Rewriting r canons is_value follows again kept lasts is_least) where
  own_text : (input : List ℕ) (v : T) (n : ℕ) → BeginsWith r input v n → lasts v → AreWritable (canons v)
      → BeginsWith r (row_text (canons v)) (again v) (length (row_text (canons v)))
  own_text input v n h l f =
      let text = row_text (canons v) in
      subst (λ b. BeginsWith r b (again v) (length text)) (append-nil text)
      (laws.reads_again v [] (laws.value input v n h) l f laws.alone)

  pub every_text : AreReadAgain r canons is_value follows again lasts
  every_text = record { read = laws.reads_again; text = laws.text_again }

  pub all_shortest : is_least ≡ true → AreShortest r canons
  all_shortest l v input n k bytes none = laws.least l input v n bytes none k

  module _ (input text : List ℕ) (n : ℕ) (h : IsRewritten r canons input text n) where
    canons_are : (v : T) → BeginsWith r input v n → canons h.value ≡ canons v
    canons_are v k = laws.canons_same h.value v (h.one v n k)

    text_is : (v : T) → BeginsWith r input v n → text ≡ row_text (canons v)
    text_is v k = h.text_is ∙ ap row_text (canons_are v k)

    writable : (v : T) → BeginsWith r input v n → AreWritable (canons v)
    writable v k = subst AreWritable (canons_are v k) h.writable

    pub read_again : IsReadAgain r follows again kept lasts input text n
    read_again = record {
      read = λ v more k l f. subst (λ b. BeginsWith r (b ++ more) (again v) (length b)) (sym (text_is v k))
          (laws.reads_again v more (laws.value input v n k) l (writable v k) f);
      itself = λ v k s. laws.own input v n k s;
    }

    pub one_text : IsOneText r canons input text n
    one_text v w other m k l s = ap row_text (sym (laws.canons_same v w s)) ∙ sym (text_is v k)

    pub no_other : IsOfNoOther r canons kept lasts input text n
    no_other v w other m k l kv kw lv lw f e =
        let a = own_text input v n k lv (writable v k) in
        let b = subst (λ x. BeginsWith r x (again w) (length x)) (e ∙ text_is v k) (own_text other w m l lw f) in
        let s = (read_one greatest r (row_text (canons v)) (again v) (again w) (length (row_text (canons v)))
        (length (row_text (canons v))) a b).0 in
        r.same_trans v (again v) w (r.same_sym (again v) v (laws.own input v n k kv))
        (r.same_trans (again v) (again w) w s (laws.own other w m l kw))

    pub unchanged : IsUnchanged r canons lasts input text n
    unchanged v w m k l read =
        let i = laws.value input v n k in
        let f = writable v k in
        let a = subst (λ x. BeginsWith r x (again v) (length x)) (sym (text_is v k)) (own_text input v n k l f) in
        let o = read_one greatest r text w (again v) m (length text) read a in
        (ap row_text (laws.canons_same w (again v) o.0) ∙ (laws.text_again v i f ∙ sym (text_is v k)), o.1)

    pub shortest : is_least ≡ true → IsShortest r canons input text n
    shortest l v w other m k j s bytes none = subst (λ b. length b ≤ m) (one_text v w other m k j s) (laws.least l other w m bytes none j)

  -- what is said of a text that was written after its value was read within limits
  pub without_limits : (limits : Limits) (input text : List ℕ) (n : ℕ)
      → IsRewrittenWithin limits r canons input text n → IsRewritten r canons input text n
  without_limits limits input text n h =
      let read = laws.bounded limits input h.value n h.read in
      record {
        value = h.value;
        read = read;
        one = λ w m k. (read_one greatest r input h.value w n m read k).0;
        bounded = h.bounded;
        writable = h.writable;
        text_is = h.text_is;
      }

  -- what was read within limits is refused for its size, as what is read without
  pub not_written : (limits : Limits) (input : List ℕ) (v : T) (n : ℕ) (e : Error) → BeginsWithin limits r input v n
      → (e ≡ Memory) ⊎ AreUnwritable (canons v) e → (e ≡ Memory) ⊎ IsUnwrittenWithin limits r canons input e
  not_written limits input v n e h (inl m) = inl m
  not_written limits input v n e h (inr u) =
      let large = laws.large input v n e (laws.bounded limits input v n h) u in
      inr (record { value = v; length = n; read = h; unwritable = u; large = large })

  pub unwritten_within : (limits : Limits) (input : List ℕ) (v : T) (n : ℕ) (e : Error)
      → BeginsWithin limits r input v n → (e ≡ Memory) ⊎ AreUnwritable (canons v) e
      → (e ≡ Memory) ⊎ (IsUnreadableWithin limits r input e ⊎ IsUnwrittenWithin limits r canons input e)
  unwritten_within limits input v n e h u = elim (not_written limits input v n e h u) [ inl m ↦ inl m | inr x ↦ inr (inr x) ]

  -- what was read is refused for its size
  pub unwritten : (input : List ℕ) (v : T) (n : ℕ) (e : Error) → BeginsWith r input v n → (e ≡ Memory) ⊎ AreUnwritable (canons v) e
      → (e ≡ Memory) ⊎ (IsUnreadable r input e ⊎ IsUnwritten r canons input e)
  unwritten input v n e h (inl m) = inl m
  unwritten input v n e h (inr u) =
      inr (inr (record { value = v; length = n; read = h; unwritable = u; large = laws.large input v n e h u }))

-- of bytes alone the error is never that of a source
pub unfailing : {T : Type 0} {r : Reading T} {canons : T → List Term} {input : List ℕ} {e : Error}
    → (e ≡ Memory) ⊎ (IsUnreadable r input e ⊎ IsUnwritten r canons input e) → IsReadError e → ⊥
unfailing (inl m) read = subst IsReadError m read
unfailing {r = r} {input = input} {e = e} (inr (inl u)) read =
    r.not_outside (record { error = e; left = u.left }) (read_is_outside e read) (start input) u.fault
unfailing (inr (inr w)) read = subst IsReadError w.large read

-- nor that of a limit, where what is read may be refused for its size alone
pub unlimited : {T : Type 0} {r : Reading T} {canons : T → List Term} {input : List ℕ} {is_value : T → Type 0} {follows : List ℕ → Type 0}
    {again : T → T} {kept lasts : T → Type 0} {is_least : Bool} → Rewriting r canons is_value follows again kept lasts is_least
    → (v : T) (n : ℕ) (e : Error) → BeginsWith r input v n → (e ≡ Memory) ⊎ AreUnwritable (canons v) e → e ≡ Limit → ⊥
unlimited laws v n e h (inl m) l = absurd (cc (m, l))
unlimited {input = input} laws v n e h (inr u) l = absurd (cc (laws.large input v n e h u, l))
