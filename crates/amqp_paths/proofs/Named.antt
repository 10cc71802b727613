-- Descriptors and constructors before a place.
use Rattle.std.proofs.Common.{◌≡◌, ℕ, zero, suc, ◌+◌, ◌-◌, ◌<◌, ◌≤◌, inl, inr, List, [], ◌∷◌, ◌++◌, length, take, drop, Result, Ok, Err, IfOk, IfErr}
use Rattle.std.proofs.Common.{Option, Some, unwrap_or, refl, sym, ap, ◌∙◌, subst, subst₂, arith, append_assoc, append-nil}
use Rattle.std.specs.Prelude.{MatchOption}
use Rattle.std.specs.Result.{result_ok}
use Rattle.std.proofs.lemmas.List.{take-append-drop, length-append, length-drop, length-take-le}
use Rattle.std.proofs.Math.Seq.{take-add, take-append_seam}
use Rattle.amqp_model.proofs.Bytes.{front}
use Rattle.amqp_wire.specs.declared.error.Error.{Error}
use Rattle.amqp_model.specs.Term.{Primitive, Term, leaf, Descriptor}
use Rattle.amqp_model.specs.Constructors.{Format, fixed, variable, compound, unknown, format}
use Rattle.amqp_model.specs.Spelling.{IsKnown, PrimitiveData, descriptor_value, Constructor, IsDataOf, IsSpelling}
use Rattle.amqp_model.specs.Measures.{nest}
use Rattle.amqp_model.proofs.Same.{names_same}
use Rattle.amqp_lengths.specs.Fronts.{IsFront, NoFront}
use Rattle.amqp_lengths.specs.Pieces.{IsPrimitive, NamesAny, IsDescriptorCode}
use Rattle.amqp_lengths.specs.Announced.{IsAnnounced}
use Rattle.amqp_lengths.specs.Lengths.{Marks, HasMarks, IsTerm}
use Rattle.amqp_lengths.proofs.Announced.{announced_data}
use Rattle.amqp_lengths.proofs.Codes.{mark_at}
use Rattle.amqp_lengths.proofs.Containers.{data_primitive}
use Rattle.amqp_lengths.proofs.Descriptors.{heads, mark_found, marks_more, marks_front}
use Rattle.amqp_paths.specs.Steps.{IsMark, NoneWithin}

primitive_known : (F : Format) (p : Primitive) (b : List ℕ) → PrimitiveData F p b → IsKnown F
primitive_known (fixed w value) p b h = tt
primitive_known (variable w value) p b h = tt
primitive_known (compound kind w) p b h = absurd h
primitive_known unknown p b h = absurd h

-- a descriptor is a term
named_term : (b : List ℕ) → NamesAny b → IsTerm 128 b
unfolding IsSpelling
named_term b (d, (c, data_, s, h)) = (
  leaf (descriptor_value d),
  ([], c, omega arith, (c ∷ [], data_, s, (refl, primitive_known (format c) (descriptor_value d) data_ h), h)),
  omega arith,
)

code_primitive : (c : ℕ) → IsDescriptorCode c → IsPrimitive (format c)
code_primitive c (inl e) = subst (λ x. IsPrimitive (format x)) (sym e) tt
code_primitive c (inr (inl e)) = subst (λ x. IsPrimitive (format x)) (sym e) tt
code_primitive c (inr (inr (inl e))) = subst (λ x. IsPrimitive (format x)) (sym e) tt
code_primitive c (inr (inr (inr (inl e)))) = subst (λ x. IsPrimitive (format x)) (sym e) tt
code_primitive c (inr (inr (inr (inr e)))) = subst (λ x. IsPrimitive (format x)) (sym e) tt

code_some : (c : ℕ) → IsDescriptorCode c → c ≡ 0 → ⊥
code_some c (inl e) z = omega arith
code_some c (inr (inl e)) z = omega arith
code_some c (inr (inr (inl e))) z = omega arith
code_some c (inr (inr (inr (inl e)))) z = omega arith
code_some c (inr (inr (inr (inr e)))) z = omega arith

constructor_some : (ds : List Descriptor) (c : ℕ) (b : List ℕ) → Constructor ds c b → 1 ≤ length b
constructor_some [] c b (s, k) = omega (arith, ap length s)
constructor_some (d ∷ ds) c b (x, y, s, names, k) = omega (arith, ap length s)

-- a term that begins with a descriptor's code is a descriptor
bare_named : (c m : ℕ) (after : List ℕ) (t : Term) (ds : List Descriptor) (c' : ℕ) (first second : List ℕ) → IsDescriptorCode c → m ≤ length after
    → c ∷ take m after ≡ first ++ second → Constructor ds c' first → IsDataOf t ds c' second → IsFront NamesAny (c ∷ after) (1 + m)
bare_named c m after t [] c' first second is few s (e, known) h =
    let r = heads c c' [] (take m after) first second e s in
    mark_found c after m is (record {
      within = few;
      spelled = data_primitive c (nest t) (take m after) (code_primitive c is)
          (t, subst₂ (λ x l. IsDataOf t [] x l) (sym r.0) (sym r.1) h, omega arith);
    })
bare_named c m after t (x ∷ ds) c' first second is few s (a, b, e, names, k) h =
    absurd (code_some c is (heads c 0 (a ++ b) (take m after) first second e s).0)

term_named : (c n : ℕ) (after : List ℕ) → IsDescriptorCode c → IsFront (IsTerm 128) (c ∷ after) n → IsFront NamesAny (c ∷ after) n
unfolding IsSpelling
term_named c zero after is f =
    let (t, (ds, c', few, (first, second, s, k, h)), deep) = f.spelled in
    absurd (omega (arith, ap length s, length-append first second, constructor_some ds c' first k))
term_named c (suc m) after is f =
    let (t, (ds, c', few, (first, second, s, k, h)), deep) = f.spelled in
    let one : 1 + m ≡ suc m = omega arith in
    let within : m ≤ length after = omega (arith, f.within) in
    subst (IsFront NamesAny (c ∷ after)) one (bare_named c m after t ds c' first second is within s k h)

pub name_answered : (input : List ℕ) (c : ℕ) (after : List ℕ) (r : Result ℕ Error) (o : Option ℕ) → input ≡ c ∷ after → IsDescriptorCode c
    → IfOk r (λ n. IsFront (IsTerm 128) input n) → IfErr r (λ e. NoFront (IsTerm 128) input) → o ≡ result_ok r
    → MatchOption o (NoFront NamesAny input) (λ n. IsFront NamesAny input n)
name_answered input c after (Ok n) o is code found none e =
    subst (λ z. MatchOption z (NoFront NamesAny input) (λ n. IsFront NamesAny input n)) (sym e)
    (subst (λ l. IsFront NamesAny l n) (sym is) (term_named c n after code (subst (λ l. IsFront (IsTerm 128) l n) is found)))
name_answered input c after (Err x) o is code found none e =
    subst (λ z. MatchOption z (NoFront NamesAny input) (λ n. IsFront NamesAny input n)) (sym e)
    (λ front rest s names. none front rest s (named_term front names))

pub unnamed : (input : List ℕ) (c : ℕ) (after : List ℕ) → input ≡ c ∷ after → (IsDescriptorCode c → ⊥) → NoFront NamesAny input
unnamed input c after is other = λ front rest s (d, (c', data_, e, h)).
    let r = heads c c' data_ after front rest e (sym is ∙ s) in
    other (mark_at c d data_ (subst (λ z. PrimitiveData (format z) (descriptor_value d) data_) (sym r.0) h))

one_name : (b b' x y : List ℕ) → NamesAny b → NamesAny b' → b ++ x ≡ b' ++ y → b ≡ b'
one_name b b' x y (d, h) (d', h') e = (names_same d d' b b' x y h h' e).0

-- the descriptor goes on over the place
pub name_beyond : (input : List ℕ) (n room : ℕ) → IsFront NamesAny input n → room < n → NoneWithin NamesAny input room
name_beyond input n room f far = λ name rest s names.
    let same = one_name (take n input) name (drop n input) rest f.spelled names (take-append-drop n input ∙ s) in
    omega (arith, ap length same, length-take-le n input f.within, far)

pub mark_there : (input after : List ℕ) (c n : ℕ) → input ≡ c ∷ after → c ≡ 0 → IsFront NamesAny after n → IsFront IsMark input (1 + n)
mark_there input after c n is nought f =
    let one : suc n ≡ 1 + n = omega arith in
    let long : 1 + n ≤ suc (length after) = omega (arith, f.within) in
    subst (λ l. IsFront IsMark l (1 + n)) (sym (is ∙ ap (λ z. z ∷ after) nought))
    (record { within = long; spelled = (take n after, ap (λ k. take k (0 ∷ after)) (sym one), f.spelled) })

pub mark_beyond : (input after : List ℕ) (c n room : ℕ) → input ≡ c ∷ after → c ≡ 0 → IsFront NamesAny after n → room < 1 + n
    → NoneWithin IsMark input room
mark_beyond input after c n room is nought f far = λ front rest s (name, e, names).
    let r = heads c 0 name after front rest e (sym is ∙ s) in
    let same = one_name (take n after) name (drop n after) rest f.spelled names (take-append-drop n after ∙ r.1) in
    omega (arith, ap length e, ap length same, length-take-le n after f.within, far)

pub mark_more : (n len m : ℕ) (input : List ℕ) → HasMarks n (take len input) → IsFront IsMark (drop len input) m
    → HasMarks (n + 1) (take (len + m) input)
mark_more n len m input (ds, l, h) f =
    let (name, e, (d, names)) = f.spelled in (
      ds ++ (d ∷ []),
      length-append ds (d ∷ []) ∙ (omega (arith, l)),
      subst (Marks (ds ++ (d ∷ []))) (sym (take-add len m input ∙ ap (λ x. take len input ++ x) e))
          (marks_more ds d (take len input) name h names),
    )

-- behind some of the descriptors of a constructor, as many as end within it, there is its code
pub all_marks : (k len : ℕ) (input : List ℕ) (ds : List Descriptor) (c : ℕ) (first after : List ℕ) → len ≤ length input → HasMarks k (take len input)
    → (k < 128 → NoneWithin IsMark (drop len input) (length input - len)) → Constructor ds c first → length ds ≤ 128
    → input ≡ first ++ after → (length first ≡ len + 1) × (drop len input ≡ c ∷ after)
all_marks k len input ds c first after within (es, l, h) none s few is =
    let all : take len input ++ drop len input ≡ first ++ after = take-append-drop len input ∙ is in
    let (r, fs, e, counted, rest) = marks_front es (take len input) (drop len input) ds c first after h s all in
    by_rest r fs e counted rest
  where
    by_rest : (r : List ℕ) (fs : List Descriptor) → drop len input ≡ r ++ after → length ds ≡ length es + length fs → Constructor fs c r
        → (length first ≡ len + 1) × (drop len input ≡ c ∷ after)
    by_rest r [] e counted (s', known) = (
      omega (arith, ap length is, length-append first after, ap length e, ap length s', length-append r after, length-drop len input, within),
      e ∙ ap (λ x. x ++ after) s',
    )
    by_rest r (f ∷ fs) e counted (a, b, s', names, more) =
        let there : drop len input ≡ (0 ∷ a) ++ (b ++ after) = e ∙ ap (λ x. x ++ after) s' ∙ ap (λ x. 0 ∷ x) (append_assoc a b after) in
        let far = none (omega (arith, l, counted, few)) (0 ∷ a) (b ++ after) there (a, refl, (f, names)) in
        absurd (omega (arith, far, ap length there, length-append (0 ∷ a) (b ++ after), length-drop len input))

-- how long a value is by its constructor and its size
pub value_announced : (k len : ℕ) (input : List ℕ) (c : ℕ) (data_ front after : List ℕ) (o : Option ℕ) → len ≤ length input
    → HasMarks k (take len input) → (k < 128 → NoneWithin IsMark (drop len input) (length input - len)) → drop len input ≡ c ∷ data_
    → ((b rest : List ℕ) → data_ ≡ b ++ rest → IsAnnounced (format c) b → o ≡ Some (length b)) → input ≡ front ++ after → IsTerm 128 front
    → (n : ℕ) × (o ≡ Some n) × (len + 1 + n ≡ length front)
unfolding IsSpelling
value_announced k len input c data_ front after o within marks none at announced is (t, (ds, c', few, (first, second, s, q, h)), deep) =
    let split : input ≡ first ++ (second ++ after) = is ∙ ap (λ x. x ++ after) s ∙ append_assoc first second after in
    let (long, there) = all_marks k len input ds c' first (second ++ after) within marks none q few split in
    let r = heads c c' (second ++ after) data_ (drop len input) [] there (sym at ∙ sym (append-nil (drop len input))) in
    let rest : data_ ≡ second ++ after = r.1 ∙ append-nil (second ++ after) in (
      length second,
      announced second after rest (subst (λ x. IsAnnounced (format x) second) (sym r.0) (announced_data t ds c' second h)),
      omega (arith, ap length s, length-append first second, long),
    )

-- there is no code
pub value_unannounced : (k len : ℕ) (input front after : List ℕ) → len ≤ length input → HasMarks k (take len input)
    → (k < 128 → NoneWithin IsMark (drop len input) (length input - len)) → length input ≤ len → input ≡ front ++ after → IsTerm 128 front → ⊥
unfolding IsSpelling
value_unannounced k len input front after within marks none ends is (t, (ds, c', few, (first, second, s, q, h)), deep) =
    let split : input ≡ first ++ (second ++ after) = is ∙ ap (λ x. x ++ after) s ∙ append_assoc first second after in
    let (long, there) = all_marks k len input ds c' first (second ++ after) within marks none q few split in
    omega (arith, ap length there, length-drop len input)

-- a front of the first bytes is one of all
pub front_of_front : (P : List ℕ → Type 0) (input : List ℕ) (a n : ℕ) → a ≤ length input → IsFront P (take a input) n → IsFront P input n × (n ≤ a)
front_of_front P input a n few f =
    let b = take n (take a input) in
    let l : length b ≡ n = length-take-le n (take a input) f.within in
    let few' : n ≤ a = omega (arith, f.within, length-take-le a input few) in
    let all : input ≡ b ++ (drop n (take a input) ++ drop a input) =
    sym (take-append-drop a input) ∙ ap (λ x. x ++ drop a input) (sym (take-append-drop n (take a input)))
    ∙ append_assoc b (drop n (take a input)) (drop a input) in
    let same : take n input ≡ b =
    ap (λ k. take k input) (sym l) ∙ ap (take (length b)) all ∙ take-append_seam b (drop n (take a input) ++ drop a input) in
    (record { within = omega (arith, few, few'); spelled = subst P (sym same) f.spelled }, few')

-- a value that is announced to end before the place
pub value_answered : (input bytes : List ℕ) (room announced : ℕ) (made o : Option ℕ) (r : Result ℕ Error) → announced ≤ length input
    → bytes ≡ take announced input → announced ≤ room
    → ((b after : List ℕ) → input ≡ b ++ after → IsTerm 128 b → made ≡ Some (length b)) → made ≡ Some announced
    → IfOk r (λ n. IsFront (IsTerm 128) bytes n) → IfErr r (λ e. NoFront (IsTerm 128) bytes) → o ≡ result_ok r
    → MatchOption o (NoneWithin (IsTerm 128) input room) (λ n. IsFront (IsTerm 128) input n × (n ≤ room))
value_answered input bytes room announced made o (Ok n) few is near long make found none e =
    let (f, less) = front_of_front (IsTerm 128) input announced n few (subst (λ l. IsFront (IsTerm 128) l n) is found) in
    subst (λ z. MatchOption z (NoneWithin (IsTerm 128) input room) (λ n. IsFront (IsTerm 128) input n × (n ≤ room))) (sym e)
    (f, omega (arith, less, near))
value_answered input bytes room announced made o (Err x) few is near long make found none e =
    subst (λ z. MatchOption z (NoneWithin (IsTerm 128) input room) (λ n. IsFront (IsTerm 128) input n × (n ≤ room))) (sym e)
    (λ b after s t.
    let l : length b ≡ announced = ap (λ z. unwrap_or z 0) (sym (long b after s t) ∙ make) in
    let same : take announced input ≡ b =
    front (take announced input) b (drop announced input) after (length-take-le announced input few ∙ sym l) (take-append-drop announced input ∙ s) in
    absurd (none b [] (is ∙ same ∙ sym (append-nil b)) t))
