-- Values that are by themselves, and composites, in the filling pass.
use Rattle.std.proofs.Common.{◌≡◌, ℕ, zero, suc, ◌+◌, ◌<◌, ◌≤◌, List, [], ◌∷◌, ◌++◌, ◌^◌, length, replicate, refl, sym, subst, ◌∙◌, ap, arith}
use Rattle.std.proofs.Common.{Bool, true, false, append_assoc, length-append, inl}
use Rattle.std.specs.Prelude.{Result, Ok, Err, is_ok, ltb, if◌then◌else◌}
use Rattle.std.specs.Bool.{OnTrue}
use Rattle.std.proofs.lemmas.List.{append-nil, length-replicate}
use Rattle.std.proofs.lemmas.Bool.{le-ltb, lt-ltb, ltb-false, ltb-true}
use Rattle.amqp_model.specs.Term.{Primitive, null, list, code}
use Rattle.amqp_model.specs.Text.{Place, Alone, next, primitive_text, descriptor_text}
use Rattle.amqp_wire.specs.declared.error.Error.{Error}
use Rattle.amqp_wire.specs.declared.error.Error.TheVariants.{InvalidValue}
use Rattle.amqp_encoder.specs.declared.places.Shortest.{Shortest}
use Rattle.amqp_encoder.specs.declared.size.Size.{Size}
use Rattle.amqp_encoder.specs.Tokens.{Token, put, nulls, begin, begin_described}
use Rattle.amqp_encoder.specs.State.{Filled, Filling}
use Rattle.amqp_encoder.specs.Values.{shortest_text}
use Rattle.amqp_encoder.specs.Opening.{opening}
use Rattle.amqp_encoder.specs.Measuring.{◌>>=◌}
use Rattle.amqp_encoder.specs.Filling.{emit, fill_value, fill_put, fill_null_at, fill_open, fill_begin, fill_begin_described, open_composite}
use Rattle.amqp_encoder.specs.Gives.{Does}
use Rattle.amqp_encoder.specs.Spelled.{IsFixed}
use Rattle.amqp_encoder.specs.Writes.{IsPlain, Passes, fill, filling, step, steps}
use Rattle.amqp_encoder.proofs.Filled.{filled as filling_at, opened, emits, begins, describes}
use Rattle.amqp_encoder.proofs.Settled.{filled}

-- what was written, if there was room

written_if : (b : Bool) (f g : Filled) → (if b then Err InvalidValue else Ok f) ≡ Ok g → f ≡ g
written_if true f g h = cc
written_if false f g h = cc

emitted : (bs : List ℕ) (f g : Filled) → emit bs f ≡ Ok g → record f { out = f.out ++ bs } ≡ g
emitted bs f g h = written_if (ltb f.limit (length f.out + length bs)) (record f { out = f.out ++ bs }) g h

fits_if : (b : Bool) (f g : Filled) → (if b then Err InvalidValue else Ok f) ≡ Ok g → b ≡ false
fits_if true f g h = cc
fits_if false f g h = refl

-- by itself the next value stands as this one
stands_so : (bs : List ℕ) (f g : Filled) → f.place ≡ Alone → emit bs f ≡ Ok g → fill_value bs f ≡ Ok g
stands_so bs f g p h =
    ap after h ∙ rw (← emitted bs f g h, p) refl where
      after : Result Filled Error → Result Filled Error
      after r = r >>= λ k. Ok (record k { place = next k.place })

pub one_filled : (b : Bool) (r : Result (Unit {0}) Error) (old new : Filled) (s : Shortest) (w : List ℕ) → IsPlain (Filling old)
    → b ≡ is_ok r → Does (emit (shortest_text s w) old) r new
    → OnTrue b ((p : Primitive) → IsFixed p s w → Passes (Filling old) (put p ∷ []) (Ok tt) (Filling new))
one_filled false r old new s w p i d = tt
one_filled true (Err e) old new s w p i d = cc
one_filled true (Ok u) old new s w p i d = λ q f.
    let text : primitive_text old.place q ≡ shortest_text s w = ap (λ a. primitive_text a q) p ∙ f.alone in
    filled old new (Ok tt) (put q)
    (f.filled old ∙ (ap (λ t. fill_value t old) text ∙ stands_so (shortest_text s w) old new p d))

-- n nulls

null_filled : (f : Filled) → f.place ≡ Alone → length f.out + 1 ≤ f.limit → fill_put null f ≡ Ok (record f { out = f.out ++ 0x40 ∷ [] })
null_filled f p h =
    ap (λ a. fill_null_at a f) p
    ∙ stands_so (0x40 ∷ []) f (record f { out = f.out ++ 0x40 ∷ [] }) p (rw (le-ltb f.limit (length f.out + 1) h) refl)

nulls_filled : (n : ℕ) (f : Filled) → f.place ≡ Alone → length f.out + n ≤ f.limit
    → steps (Filling f) (nulls n) ≡ Filling (record f { out = f.out ++ replicate n 0x40 })
unfolding steps
nulls_filled zero f p h = ap (λ o. Filling (record f { out = o })) (sym (append-nil f.out))
nulls_filled (suc n) f p h =
    ap (λ r. steps (filling r) (nulls n)) (null_filled f p (omega arith))
    ∙ (nulls_filled n (record f { out = f.out ++ 0x40 ∷ [] }) p (omega (arith, length-append f.out (0x40 ∷ [])))
    ∙ ap (λ o. Filling (record f { out = o })) (append_assoc f.out (0x40 ∷ []) (replicate n 0x40)))

abbrev a_null : ℕ
a_null = 0x40

room : (n : ℕ) (f g : Filled) → emit (replicate n 0x40) f ≡ Ok g → length f.out + n ≤ f.limit
room n f g h =
    let none : ltb f.limit (length f.out + length (replicate n 0x40)) ≡ false = fits_if _ (record f { out = f.out ++ replicate n 0x40 }) g h in
    ltb-false f.limit (length f.out + n) (rw (length-replicate n a_null) at none)

pub nulls_put : (b : Bool) (old new : Filled) (n : ℕ) → IsPlain (Filling old)
    → OnTrue b (Ok new ≡ emit (replicate n 0x40) old) → OnTrue b (Passes (Filling old) (nulls n) (Ok tt) (Filling new))
nulls_put false old new n p e = tt
nulls_put true old new n p e =
    record {
      answer = refl;
      state = inl (ap Filling (sym (emitted (replicate n 0x40) old new (sym e))) ∙ sym (nulls_filled n old p (room n old new (sym e))));
    }

-- composites

then_step : (x : Result Filled Error) (t : Token) → step (filling x) t ≡ filling (x >>= λ f. fill t f)
then_step (Ok f) t = refl
then_step (Err e) t = refl

filled_two : (f g : Filled) (s t : Token) (r : Result (Unit {0}) Error) → Does (fill s f >>= λ k. fill t k) r g
    → Passes (Filling f) (s ∷ t ∷ []) r (Filling g)
unfolding steps
filled_two f g s t (Ok u) h = record { answer = refl; state = inl (sym (then_step (fill s f) t ∙ ap filling h)) }
filled_two f g s t (Err e) h = record { answer = refl; state = inl (sym (then_step (fill s f) t ∙ ap filling h)) }

module _ (loan : ℕ) where
  abbrev state : Place → List Place → List Size → List ℕ → ℕ → Filled
  state = filling_at loan

  refused : (bs : List ℕ) (p : Place) (outer : List Place) (sizes : List Size) (out : List ℕ) (limit : ℕ) → limit < length out + length bs
      → emit bs (state p outer sizes out limit) ≡ Err InvalidValue
  refused bs p outer sizes out limit h = rw (lt-ltb limit (length out + length bs) h) refl

  unopened : (bs : List ℕ) (q p : Place) (outer : List Place) (sizes : List Size) (out : List ℕ) (limit : ℕ) → length outer + 1 ≤ 129
      → limit < length out + length bs → fill_open bs q (state p outer sizes out limit) ≡ Err InvalidValue
  unopened bs q p outer sizes out limit o h =
      rw (le-ltb 128 (length outer) (omega arith))
      (ap (λ r. r >>= λ g. Ok (opened q g)) (refused bs p outer sizes out limit h))

  -- A list that is described by a code begins by one write as by two calls.

  abbrev inside : List Place → List Size → List ℕ → ℕ → Filled
  inside outer sizes out limit = state Alone (Alone ∷ Alone ∷ outer) sizes out limit

  abbrev then_list : Result Filled Error → Result Filled Error
  then_list r = r >>= λ f. fill_begin list f

  abbrev in_list : Result Filled Error → Result Filled Error
  in_list r = r >>= λ g. Ok (record g { place = Alone; outer = Alone ∷ g.place ∷ g.outer })

  module _ (c : ℕ) (s : Size) (outer : List Place) (sizes : List Size) (low : length outer + 2 ≤ 129) (small : s.content + 4 < 2 ^ 32) where
    abbrev D : List ℕ
    D = descriptor_text Alone (code c)

    abbrev O : List ℕ
    O = opening Alone list s.count s.content

    list_unopened : (out : List ℕ) (limit : ℕ) → limit < length out + length O
        → fill_begin list (state Alone (Alone ∷ outer) (s ∷ sizes) out limit) ≡ Err InvalidValue
    list_unopened out limit h =
        rw (le-ltb 0xffff_fffb s.content (omega arith)) (unopened O Alone Alone (Alone ∷ outer) sizes out limit (omega arith) h)

    without_room : (out : List ℕ) (limit : ℕ) (t : Bool) → ltb limit (length out + length D) ≡ t → limit < length out + length (D ++ O)
        → then_list (fill_begin_described (code c) (state Alone outer (s ∷ sizes) out limit)) ≡ Err InvalidValue
    without_room out limit true e h =
        ap then_list (unopened D Alone Alone outer (s ∷ sizes) out limit (omega arith) (ltb-true limit (length out + length D) e))
    without_room out limit false e h =
        ap then_list (describes loan (code c) Alone outer (s ∷ sizes) out limit refl (omega arith) (ltb-false limit (length out + length D) e))
        ∙ list_unopened (out ++ D) limit (omega (arith, length-append D O, length-append out D))

    with_room : (out : List ℕ) (limit : ℕ) → length out + length (D ++ O) ≤ limit
        → then_list (fill_begin_described (code c) (state Alone outer (s ∷ sizes) out limit)) ≡ Ok (inside outer sizes (out ++ (D ++ O)) limit)
    with_room out limit h =
        ap then_list (describes loan (code c) Alone outer (s ∷ sizes) out limit refl (omega arith) (omega (arith, length-append D O)))
        ∙ (begins loan list s.content s.count Alone (Alone ∷ outer) sizes (out ++ D) limit small (omega arith)
        (omega (arith, length-append D O, length-append out D))
        ∙ ap (λ o. Ok (inside outer sizes o limit)) (append_assoc out D O))

    by_room : (out : List ℕ) (limit : ℕ) (t : Bool) → ltb limit (length out + length (D ++ O)) ≡ t
        → then_list (fill_begin_described (code c) (state Alone outer (s ∷ sizes) out limit))
        ≡ open_composite c s (state Alone outer sizes out limit)
    by_room out limit true e =
        let h = ltb-true limit (length out + length (D ++ O)) e in
        without_room out limit _ refl h ∙ sym (ap in_list (refused (D ++ O) Alone outer sizes out limit h))
    by_room out limit false e =
        let h = ltb-false limit (length out + length (D ++ O)) e in
        with_room out limit h ∙ sym (ap in_list (emits loan (D ++ O) Alone outer sizes out limit h))

    pub one_write : (out : List ℕ) (limit : ℕ) → then_list (fill_begin_described (code c) (state Alone outer (s ∷ sizes) out limit))
        ≡ open_composite c s (state Alone outer sizes out limit)
    one_write out limit = by_room out limit _ refl

pub composite_opened : (old mid new : Filled) (s : Size) (c : ℕ) (r : Result (Unit {0}) Error) → old ≡ record mid { sizes = s ∷ mid.sizes }
    → mid.place ≡ Alone → length mid.outer < 128 → s.content < 255 → Does (open_composite c s mid) r new
    → Passes (Filling old) (begin_described (code c) ∷ begin list ∷ []) r (Filling new)
composite_opened old mid new s c r i p o z d =
    let at : Place → List Size → Filled = λ q sizes. filling_at mid.loan q mid.outer sizes mid.out mid.limit in
    let m : mid ≡ at Alone mid.sizes = ap (λ q. at q mid.sizes) p in
    let j : old ≡ at Alone (s ∷ mid.sizes) =
    i ∙ ap (λ q. at q (s ∷ mid.sizes)) p in
    filled_two old new (begin_described (code c)) (begin list) r
    (rw (j, one_write mid.loan c s mid.outer mid.sizes (omega arith) (omega arith) mid.out mid.limit)
    (subst (λ f. Does (open_composite c s f) r new) m d))
