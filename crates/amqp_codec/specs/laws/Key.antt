-- The laws of keys, and the types whose values are keys.
use Rattle.std.proofs.Common.{◌≡◌, Bool, [], ◌++◌, sym, ap, subst}
use Rattle.std.specs.Bool.{Decides}
use denote.Enum.Bare.{Bare, sameb, same_true, true_same}
use denote.Enum.Declared.{Declared}
use Rattle.amqp_model.specs.FieldType.{normal, unchanged}
use Rattle.amqp_codec.specs.TermType.{TermType}
use Rattle.amqp_codec.specs.laws.Term.{one_value, spelled_again, same_text}
use Rattle.amqp_codec.specs.Spelled.{written, IsWritable}
use Rattle.amqp_codec.specs.Keys.{IsKey, ComparesTexts}

module _ {T : Type 0} (u : TermType T) (eq : T → T → Bool) (key : IsKey u eq) where
  -- two keys with one text are one value: the text is read as either
  one_key : (v w : T) → u.is_value v → u.is_value w → IsWritable u v → IsWritable u w → written u v ≡ written u w → u.same v w
  one_key v w i j f g e =
      let again = one_value u (written u v) (written u w) [] [] (normal u.norm v) (normal u.norm w)
      (spelled_again u v i f) (spelled_again u w j g) (ap (λ l. l ++ []) e) in
      let s = u.sameness in
      s.trans v (normal u.norm v) w (s.sym (normal u.norm v) v (key.own v))
      (s.trans (normal u.norm v) (normal u.norm w) w again.0 (key.own w))

  pub texts_compared : ComparesTexts u eq
  texts_compared v w i j f g = (
    λ e. same_text u v w ((key.decides v w).0 e),
    λ e. (key.decides v w).1 (one_key v w i j f g e),
  )

-- of a type that normalises nothing
pub key_of : {T : Type 0} {u : TermType T} {eq : T → T → Bool} → u.norm ≡ unchanged → ((v w : T) → Decides (eq v w) (u.same v w))
    → IsKey u eq
key_of {u = u} is decides = record { decides = decides; own = λ v. subst (λ n. u.same (normal n v) v) (sym is) (u.sameness.refl v) }

-- an enum whose variants hold nothing compares by them
pub variants_decide : (D : Declared) → Bare D.parts → (v w : D.D) → Decides (sameb D v w) (v ≡ w)
variants_decide D bare v w = (same_true D bare v w, true_same D v w)
