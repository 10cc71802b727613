-- What is read and written as another type is rewritten as that is.
use Rattle.std.proofs.Common.{◌≡◌, ℕ, Bool, List, ◌++◌, sym, ap, ◌∙◌, subst}
use Rattle.amqp_model.specs.Term.{Term}
use Rattle.amqp_encoder.specs.Passes.{row_text}
use Rattle.amqp_codec.specs.Reading.{Reading, start, BeginsWith}
use Rattle.amqp_codec.specs.Rewriting.{Rewriting}
use Rattle.amqp_batches.specs.WalkReading.{reading_via}

module _ {A B : Type 0} (r : Reading A) (to : B → A) where
  as_that : (input : List ℕ) (v : B) (n : ℕ) → BeginsWith (reading_via r to) input v n → BeginsWith r input (to v) n
  as_that input v n h = record { after = h.after; read = h.read; left = h.left }

  pub via_rewrites : {canons : A → List Term} {is_value : A → Type 0} {follows : List ℕ → Type 0} {again : A → A} {kept lasts : A → Type 0}
      {is_least : Bool} (back : B → B) → ((v : B) → to (back v) ≡ again (to v))
      → Rewriting r canons is_value follows again kept lasts is_least
      → Rewriting (reading_via r to) (λ v. canons (to v)) (λ v. is_value (to v)) follows back (λ v. kept (to v)) (λ v. lasts (to v)) is_least
  via_rewrites {canons = canons} back is x = record {
    alone = x.alone;
    canons_same = λ v w h. x.canons_same (to v) (to w) h;
    reads_again = λ v more i l f ends.
        (let k = x.reads_again (to v) more i l f ends in
        record {
          after = k.after;
          read = subst (λ z. r.reads (start (row_text (canons (to v)) ++ more)) z k.after) (sym (is v)) k.read;
          left = k.left;
        });
    text_again = λ v i f. ap (λ z. row_text (canons z)) (is v) ∙ x.text_again (to v) i f;
    value = λ input v n h. x.value input (to v) n (as_that input v n h);
    own = λ input v n h k. subst (λ z. r.same z (to v)) (sym (is v)) (x.own input (to v) n (as_that input v n h) k);
    large = λ input v n e h. x.large input (to v) n e (as_that input v n h);
    bounded = λ limits input v n h.
        (let k = x.bounded limits input (to v) n (record { after = h.after; read = h.read; left = h.left }) in
        record { after = k.after; read = k.read; left = k.left });
    least = λ l input v n bytes none h. x.least l input (to v) n bytes none (as_that input v n h);
  }
