-- What the two passes over a value's terms find and write.
use Rattle.std.proofs.Common.{◌≡◌, ◌⊎◌, inl, inr, ℕ, ◌+◌, ◌≤◌, List, ◌++◌, length, map, sym, ◌∙◌}
use Rattle.std.specs.Prelude.{Result, Ok, Err, MatchResult, IfOk, IfErr, OnOk}
use Rattle.amqp_model.specs.Term.{Term}
use Rattle.amqp_model.specs.Items.{terms_of}
use Rattle.amqp_model.specs.Text.{all_sizes}
use Rattle.amqp_wire.specs.declared.error.Error.{Error}
use Rattle.amqp_wire.specs.declared.error.Error.TheVariants.{Memory}
use Rattle.amqp_encoder.specs.declared.size.Size.{Size}
use Rattle.amqp_encoder.specs.State.{Encoder}
use Rattle.amqp_encoder.specs.State.{Pass, Measuring, Filling, Stopped}
use Rattle.amqp_encoder.specs.Writes.{Found, Fills, pass_of, bytes_of}
use Rattle.amqp_encoder.specs.Passes.{row_text, as_size, BeginsMeasuring, BeginsFilling, Finds, FindsNone}
use Rattle.amqp_encoder.proofs.Rows.{HasFound, HasFilled, IsSameLoan}
use Rattle.amqp_encoder.proofs.Rows as rows
use Rattle.amqp_encoder.specs.Refused.{KnowDepths}
use Rattle.amqp_codec.specs.Written.{AreFreeIfFilled, WritesTerms, AreProper, AreUnwritable, AreWritable, AreMeasured}
use Rattle.amqp_codec.specs.laws.Proper.{proper_values}
use Rattle.amqp_read_write.proofs.Depths.{depths, unwritable}
use Rattle.amqp_read_write.proofs.Depths as depth

found_same : (s : Pass) (m n : ℕ) (xs ys : List Size) → Found s m xs → Found s n ys → (n ≡ m) × (ys ≡ xs)
found_same (Measuring s) m n xs ys h k = (sym k.1 ∙ h.1, sym k.2 ∙ h.2)
found_same (Filling s) m n xs ys h k = absurd h
found_same (Stopped e) m n xs ys h k = absurd h

-- what begins to measure doesn't fill
measures : (old : Encoder) (ts : List Term) → BeginsMeasuring old → AreFreeIfFilled old ts
measures old ts b fills = absurd (rw b at fills)

memory : (e : Error) (r : Result (Unit {0}) Error) → r ≡ Err e → r ≡ Err Memory → e ≡ Memory
memory e r h k = cc

not_memory : (r : Result (Unit {0}) Error) → r ≡ Ok tt → r ≡ Err Memory → ⊥
not_memory r h k = let e : Err Memory ≡ Ok tt = sym k ∙ h in cc

not_refused : (r : Result (Unit {0}) Error) (e : Error) → r ≡ Err e → r ≡ Ok tt → ⊥
not_refused r e h k = let i : Err e ≡ Ok tt = sym h ∙ k in cc

module _ (ts : List Term) (proper : AreProper ts) where
  -- the measuring pass is refused
  pub measuring_refused : (old new : Encoder) (r : Result (Unit {0}) Error) (e : Error) → BeginsMeasuring old → r ≡ Err e
      → WritesTerms ts old r new → (e ≡ Memory) ⊎ AreUnwritable ts e
  measuring_refused old new r e b i w =
      let d = depths ts proper in
      elim (w.calls d.0 d.1 (measures old ts b)) [
        | inr g ↦ inl (memory e r i g.answer)
        | inl c ↦
            let f : HasFound d.0 ts (pass_of new) (Err e) = rw i at (rows.measured d.0 ts old r new (proper_values ts proper) b c) in
            elim f [ inl m ↦ inl m.0 | inr u ↦ inr (unwritable d.0 ts e proper d.1 u) ]
      ]

  module _ (old new : Encoder) (r : Result (Unit {0}) Error) (begins : BeginsMeasuring old) (went : r ≡ Ok tt)
      (wrote : WritesTerms ts old r new) where
    found_by : (deep : List ℕ → ℕ) → KnowDepths deep ts → HasFound deep ts (pass_of new) (Ok tt)
    found_by deep k =
        elim (wrote.calls deep k (measures old ts begins)) [
          | inr g ↦ absurd (not_memory r went g.answer)
          | inl c ↦ rw went at (rows.measured deep ts old r new (proper_values ts proper) begins c)
        ]

    ended : (m : Result ℕ Error) → IfOk m (λ len. (sizes : List Size) × Finds new len sizes) → IfErr m (λ e. FindsNone new e)
        → MatchResult m (λ len. (sizes : List Size) × AreMeasured ts len sizes × Finds new len sizes) (λ e. ⊥)
    ended (Ok len) h k = (
      h.0,
      (λ deep d. (let f = found_by deep d in
          let q = found_same (pass_of new) (length (row_text ts)) len (map as_size (all_sizes (terms_of ts))) h.0 f.0 h.1 in
          rw (q.0, q.1) f.1)),
      h.1,
    )
    ended (Err e) h (inl k) = let d = depths ts proper in
        elim (wrote.calls d.0 d.1 (measures old ts begins)) [ inr g ↦ absurd (not_memory r went g.answer) | inl c ↦ let a = c.runs.answer in cc ]
    ended (Err e) h (inr k) = let d = depths ts proper in
        k.1 (length (row_text ts)) (map as_size (all_sizes (terms_of ts))) (found_by d.0 d.1).0

    pub measured : (m : Result ℕ Error) → IfOk m (λ len. (sizes : List Size) × Finds new len sizes) → IfErr m (λ e. FindsNone new e)
        → IfOk m (λ len. (sizes : List Size) × AreMeasured ts len sizes × Finds new len sizes)
    measured (Ok len) h k = ended (Ok len) h k
    measured (Err e) h k = tt

    -- terms that were measured are so long, and can be written
    pub measured_length : (m : Result ℕ Error) → IfOk m (λ len. (sizes : List Size) × Finds new len sizes) → IfErr m (λ e. FindsNone new e)
        → IfOk m (λ len. len ≡ length (row_text ts))
    measured_length (Ok len) h k = let d = depths ts proper in ((ended (Ok len) h k).1 d.0 d.1).exact
    measured_length (Err e) h k = tt

    pub measured_writable : (m : Result ℕ Error) → IfOk m (λ len. (sizes : List Size) × Finds new len sizes)
        → IfErr m (λ e. FindsNone new e) → OnOk m (AreWritable ts)
    measured_writable (Ok len) h k =
        let d = depths ts proper in let m = ended (Ok len) h k in depth.writable d.0 ts len m.0 d.1 (m.1 d.0 d.1)
    measured_writable (Err e) h k = tt

    pub never_refused : (m : Result ℕ Error) → IfOk m (λ len. (sizes : List Size) × Finds new len sizes) → IfErr m (λ e. FindsNone new e)
        → IfErr m (λ e. (e ≡ Memory) ⊎ AreUnwritable ts e)
    never_refused (Ok len) h k = tt
    never_refused (Err e) h k = absurd (ended (Err e) h k)

  module _ (len : ℕ) (sizes : List Size) (out : List ℕ) (limit : ℕ) (old new : Encoder) (r : Result (Unit {0}) Error)
      (measured : AreMeasured ts len sizes) (room : length out + len ≤ limit) (begins : BeginsFilling old sizes out limit)
      (wrote : WritesTerms ts old r new) where
    free : AreFreeIfFilled old ts
    free fills = let d = depths ts proper in (measured d.0 d.1).free

    fills : Fills (pass_of old)
    fills = rw begins tt

    filled_by : HasFilled (depths ts proper).0 (out ++ row_text ts) new r
    filled_by = let d = depths ts proper in
        elim (wrote.calls d.0 d.1 free) [
          | inl c ↦ rows.written d.0 ts len sizes out limit old r new (measured d.0 d.1) room begins c
          | inr g ↦ absurd (g.not_filled fills)
        ]

    -- the filling pass wrote the text
    pub filled : bytes_of new ≡ out ++ row_text ts
    filled = filled_by.1

    -- into the memory that it began with
    pub same_loan : IsSameLoan old new
    same_loan =
        let d = depths ts proper in
        elim (wrote.calls d.0 d.1 free) [
          | inl c ↦ rows.same_loan d.0 ts len sizes out limit old r new (measured d.0 d.1) room begins c
          | inr g ↦ absurd (g.not_filled fills)
        ]

    -- nothing that was measured is refused
    pub never_filled_in_part : (e : Error) → r ≡ Err e → ⊥
    never_filled_in_part e i = not_refused r e i filled_by.0
