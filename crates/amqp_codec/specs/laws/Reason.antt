-- Why terms aren't written, in the words of the record of their type.
use Rattle.std.proofs.Common.{◌≡◌, inl, inr, ◌<◌, [], ◌∷◌, refl, ap, ◌∙◌, subst, arith, length}
use Rattle.amqp_model.specs.Term.{Refusal, depth, Term, Terms, none, more}
use Rattle.amqp_model.specs.Measures.{nests}
use Rattle.amqp_model.specs.Refusals.{Somewhere, IsRefused, Refuses}
use Rattle.amqp_model.specs.Kept.{EachExpandsTo}
use Rattle.amqp_wire.specs.Refusals.{error_of}
use Rattle.amqp_wire.specs.declared.error.Error.{Error}
use Rattle.amqp_encoder.specs.Reasons.{HasReason}
use Rattle.amqp_encoder.specs.Passes.{row_text}
use Rattle.amqp_encoder.specs.Refused.{TermHasCause}
use Rattle.amqp_encoder.proofs.Rows.{somewhere_as}
use Rattle.amqp_encoder.proofs.Refused.{one_text, has_reason, reason_named}
use Rattle.amqp_codec.specs.TermType.{TermType, IsUnrefused}
use Rattle.amqp_codec.specs.Spelled.{written, IsWritable}
use Rattle.amqp_codec.specs.Written.{AreProper, AreUnwritable, AreWritable, Writing}
use Rattle.amqp_codec.specs.laws.Proper.{proper_values, proper_reads}
use Rattle.amqp_codec.specs.Agreement.{Agreement}

one_writable : (t : Term) → AreWritable (t ∷ []) → IsUnrefused t
unfolding Refuses
one_writable t h r (inl s) = h (error_of r) (inl (inl (somewhere_as (IsRefused r) (HasReason (error_of r)) (has_reason r) t s)))
one_writable t h r (inr (i, (u, reads, l))) = h (error_of r) (inr (inl (ap error_of i, (more u none, (reads, tt), omega (arith, l)))))

one_deep : (t : Term) (us : Terms) → EachExpandsTo (more t none) us → 128 < nests us → Refuses depth t
unfolding Refuses
one_deep t none r l = absurd r
one_deep t (more u none) r l = inr (refl, (u, r.0, omega (arith, l)))
one_deep t (more u (more v us)) r l = absurd r.1

-- a reason that lies in a term or its parts is one of the model
one_named : (t : Term) (e : Error) → AreProper (t ∷ []) → Somewhere (HasReason e) t → (r : Refusal) × (e ≡ error_of r) × Refuses r t
unfolding Refuses
one_named t e i s =
    let n = reason_named e t (proper_reads t i.0).0 (proper_values (t ∷ []) i).0 (proper_reads t i.0).1 s in (n.0, n.1, inl n.2)

one_refused : (t : Term) (e : Error) → AreProper (t ∷ []) → AreUnwritable (t ∷ []) e → TermHasCause t e
one_refused t e i (inl (inl s)) = inl (one_named t e i s)
one_refused t e i (inl (inr s)) = absurd s
one_refused t e i (inr (inl (d, (us, reads, l)))) = inl (depth, d, one_deep t us reads l)
one_refused t e i (inr (inr (d, inl l))) = inr (d, omega (arith, l, ap length (one_text t)))
one_refused t e i (inr (inr (d, inr l))) = absurd (omega (arith, l))

-- a type of terms
module _ {T : Type 0} {u : TermType T} {w : Writing T} (tie : Agreement u w) where
  pub agreed_text : (v : T) → row_text (w.canons v) ≡ written u v
  agreed_text v = ap row_text (tie.canons_is v) ∙ one_text (u.canon v)

  pub agreed_writable : (v : T) → AreWritable (w.canons v) → IsWritable u v
  agreed_writable v h = one_writable (u.canon v) (subst AreWritable (tie.canons_is v) h)

  pub agreed_refused : (v : T) (e : Error) → w.is_value v → AreUnwritable (w.canons v) e → TermHasCause (u.canon v) e
  agreed_refused v e i h =
      one_refused (u.canon v) e (subst AreProper (tie.canons_is v) (w.proper v i)) (subst (λ ts. AreUnwritable ts e) (tie.canons_is v) h)
