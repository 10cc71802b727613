-- Rows of terms that can be written, or why not: by their parts.
use Rattle.std.proofs.Common.{◌≡◌, inl, inr, ◌+◌, ◌⊎◌, Bool, true, false, ltb, List, [], ◌∷◌, ◌++◌, length, refl, sym, ap, ◌∙◌}
use Rattle.std.proofs.Common.{arith, max, length-append, append_assoc, All, subst}
use Rattle.std.proofs.lemmas.List.Concat.{flat_map-cons}
use Rattle.std.proofs.lemmas.List.Elements.{All-head, All-tail}
use Rattle.std.specs.List.{flat_map}
use Rattle.std.proofs.lemmas.Bool.{ltb-true, ltb-false}
use Rattle.amqp_model.specs.Term.{Term, Terms, none, more, count}
use Rattle.amqp_model.specs.Text.{Alone, text, texts}
use Rattle.amqp_model.specs.Measures.{nests}
use Rattle.amqp_model.specs.Refusals.{SomewhereIn}
use Rattle.amqp_model.specs.Kept.{EachExpandsTo}
use Rattle.amqp_model.specs.Items.{terms_of}
use Rattle.amqp_wire.specs.declared.error.Error.{Error}
use Rattle.amqp_wire.specs.declared.error.Error.TheVariants.{TooLarge}
use Rattle.amqp_encoder.specs.Passes.{row_text}
use Rattle.amqp_codec.specs.Written.{AreProper, AreUnwritable, AreWritable, Writing}
use Rattle.amqp_codec.specs.laws.Proper.{proper_reads_each}

pub row_text_none : row_text [] ≡ []
unfolding texts
row_text_none = refl

row_text_more : (t : Term) (ts : List Term) → row_text (t ∷ ts) ≡ text t Alone ++ row_text ts
unfolding texts
row_text_more t ts = refl

pub row_text_joined : (ts us : List Term) → row_text (ts ++ us) ≡ row_text ts ++ row_text us
row_text_joined [] us = sym (ap (λ b. b ++ row_text us) row_text_none)
row_text_joined (t ∷ ts) us =
    row_text_more t (ts ++ us) ∙ ap (λ b. text t Alone ++ b) (row_text_joined ts us)
    ∙ sym (append_assoc (text t Alone) (row_text ts) (row_text us)) ∙ ap (λ b. b ++ row_text us) (sym (row_text_more t ts))

module _ (P : Term → Type 0) where
  some_front : (ts us : List Term) → SomewhereIn P (terms_of ts) → SomewhereIn P (terms_of (ts ++ us))
  some_front [] us h = absurd h
  some_front (t ∷ ts) us (inl h) = inl h
  some_front (t ∷ ts) us (inr h) = inr (some_front ts us h)

  some_back : (ts us : List Term) → SomewhereIn P (terms_of us) → SomewhereIn P (terms_of (ts ++ us))
  some_back [] us h = h
  some_back (t ∷ ts) us h = inr (some_back ts us h)

  some_either : (ts us : List Term) → SomewhereIn P (terms_of (ts ++ us)) → SomewhereIn P (terms_of ts) ⊎ SomewhereIn P (terms_of us)
  some_either [] us h = inr h
  some_either (t ∷ ts) us (inl h) = inl (inl h)
  some_either (t ∷ ts) us (inr h) = elim (some_either ts us h) [ inl x ↦ inl (inr x) | inr x ↦ inr x ]

-- What two rows together expand to, as the first and as the second do.
record Halves (ts us : List Term) (ws : Terms) : Type 0 where
  first : Terms
  second : Terms
  first_is : EachExpandsTo (terms_of ts) first
  second_is : EachExpandsTo (terms_of us) second
  deepest : nests ws ≡ max (nests first) (nests second)

halves : (ts us : List Term) (ws : Terms) → EachExpandsTo (terms_of (ts ++ us)) ws → Halves ts us ws
halves [] us ws h = record { first = none; second = ws; first_is = tt; second_is = h; deepest = omega arith }
halves (t ∷ ts) us none h = absurd h
halves (t ∷ ts) us (more w ws) h =
    let k = halves ts us ws h.1 in
    record {
      first = more w k.first;
      second = k.second;
      first_is = (h.0, k.first_is);
      second_is = k.second_is;
      deepest = omega (arith, k.deepest);
    }

joined : (ts us : List Term) (vs ws : Terms) → EachExpandsTo (terms_of ts) vs → EachExpandsTo (terms_of us) ws
    → (zs : Terms) × EachExpandsTo (terms_of (ts ++ us)) zs × (nests zs ≡ max (nests vs) (nests ws))
joined [] us none ws h k = (ws, k, omega arith)
joined [] us (more v vs) ws h k = absurd h
joined (t ∷ ts) us none ws h k = absurd h
joined (t ∷ ts) us (more v vs) ws h k =
    let j = joined ts us vs ws h.1 k in (more v j.0, (h.0, j.1), (let d = j.2 in omega (arith, d)))

count_joined : (ts us : List Term) → count (terms_of (ts ++ us)) ≡ count (terms_of ts) + count (terms_of us)
count_joined [] us = omega arith
count_joined (t ∷ ts) us = omega (arith, count_joined ts us)

long_joined : (ts us : List Term) → length (row_text (ts ++ us)) ≡ length (row_text ts) + length (row_text us)
long_joined ts us = ap length (row_text_joined ts us) ∙ length-append (row_text ts) (row_text us)

pub both_proper : (ts us : List Term) → AreProper ts → AreProper us → AreProper (ts ++ us)
both_proper [] us p q = q
both_proper (t ∷ ts) us p q = (p.0, both_proper ts us p.1 q)

-- the terms of values that stand one after another
pub each_proper : {T : Type 0} (w : Writing T) (vs : List T) → All w.is_value vs → AreProper (flat_map w.canons vs)
each_proper w [] i = tt
each_proper w (v ∷ vs) i =
    subst AreProper (sym (flat_map-cons w.canons v vs))
    (both_proper (w.canons v) (flat_map w.canons vs) (w.proper v (All-head w.is_value v vs i))
    (each_proper w vs (All-tail w.is_value v vs i)))

-- what speaks against the one part speaks against both
pub front_refused : (ts us : List Term) (e : Error) → AreProper us → AreUnwritable ts e → AreUnwritable (ts ++ us) e
front_refused ts us e p (inl h) = inl (some_front _ ts us h)
front_refused ts us e p (inr (inl (d, (vs, r, l)))) =
    let w = proper_reads_each (terms_of us) p in
    let j = joined ts us vs w.0 r w.1 in
    let deep = j.2 in
    inr (inl (d, (j.0, j.1, omega (arith, l, deep))))
front_refused ts us e p (inr (inr (d, inl l))) = inr (inr (d, inl (omega (arith, l, long_joined ts us))))
front_refused ts us e p (inr (inr (d, inr l))) = inr (inr (d, inr (omega (arith, l, count_joined ts us))))

pub back_refused : (ts us : List Term) (e : Error) → AreProper ts → AreUnwritable us e → AreUnwritable (ts ++ us) e
back_refused ts us e p (inl h) = inl (some_back _ ts us h)
back_refused ts us e p (inr (inl (d, (ws, r, l)))) =
    let v = proper_reads_each (terms_of ts) p in
    let j = joined ts us v.0 ws v.1 r in
    let deep = j.2 in
    inr (inl (d, (j.0, j.1, omega (arith, l, deep))))
back_refused ts us e p (inr (inr (d, inl l))) = inr (inr (d, inl (omega (arith, l, long_joined ts us))))
back_refused ts us e p (inr (inr (d, inr l))) = inr (inr (d, inr (omega (arith, l, count_joined ts us))))

-- and what speaks against both speaks against one, unless it is that they are too large together
pub front_or_back : (ts us : List Term) (e : Error) → AreUnwritable (ts ++ us) e
    → AreUnwritable ts e ⊎ (AreUnwritable us e ⊎ (e ≡ TooLarge))
front_or_back ts us e (inl h) = elim (some_either _ ts us h) [ inl x ↦ inl (inl x) | inr x ↦ inr (inl (inl x)) ]
front_or_back ts us e (inr (inr h)) = inr (inr h.0)
front_or_back ts us e (inr (inl (d, (ws, r, l)))) = by_test (ltb 128 (nests k.first)) refl
  where
    k : Halves ts us ws
    k = halves ts us ws r

    by_test : (b : Bool) → ltb 128 (nests k.first) ≡ b → AreUnwritable ts e ⊎ (AreUnwritable us e ⊎ (e ≡ TooLarge))
    by_test true i = inl (inr (inl (d, (k.first, k.first_is, (let m = ltb-true 128 (nests k.first) i in omega (arith, m))))))
    by_test false i =
        inr (inl (inr (inl (d, (k.second, k.second_is, (let m = ltb-false 128 (nests k.first) i in omega (arith, m, l, k.deepest)))))))

pub front_writable : (ts us : List Term) → AreProper us → AreWritable (ts ++ us) → AreWritable ts
front_writable ts us p f e x = f e (front_refused ts us e p x)

pub back_writable : (ts us : List Term) → AreProper ts → AreWritable (ts ++ us) → AreWritable us
back_writable ts us p f e x = f e (back_refused ts us e p x)

pub none_refused : (e : Error) → AreUnwritable [] e → e ≡ TooLarge
none_refused e (inl h) = absurd h
none_refused e (inr (inl (d, (none, r, l)))) = absurd (omega (arith, l))
none_refused e (inr (inl (d, (more u us, r, l)))) = absurd r
none_refused e (inr (inr h)) = h.0
