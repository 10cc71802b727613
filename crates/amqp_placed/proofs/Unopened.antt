-- The faults of the constructor that an array's items share (Part 1, section 1.2.4).
use Rattle.std.proofs.Common.{◌≡◌, ℕ, zero, suc, ◌<◌, ◌≤◌, inl, inr, None, List, [], ◌∷◌, ◌++◌, length, refl, sym, ap, ◌∙◌, arith}
use Rattle.std.proofs.Common.{append_assoc}
use Rattle.std.proofs.lemmas.List.{length-append}
use Rattle.amqp_model.specs.Term.{Descriptor}
use Rattle.amqp_wire.specs.declared.error.Error.TheVariants.{Depth, ZeroWidthItems}
use Rattle.amqp_wire.specs.Codes.{refusal_of}
use Rattle.amqp_lengths.specs.Fronts.{Behind}
use Rattle.amqp_lengths.specs.Lengths.{Marks, Constructs}
use Rattle.amqp_lengths.specs.Stands.{a_descriptor, an_array, a_code, Around, to_code, to_its_descriptor, level_of, IsWrong}
use Rattle.amqp_decoder.specs.State.{State, bound_of, depth_error, in_container}
use Rattle.amqp_decoder.specs.declared.frame.Place.TheVariants.{InArray}
use Rattle.amqp_decoder.specs.Arrays.{TakesConstructor, no_code, no_mark, too_many, no_known_code, constructor_left}
use Rattle.amqp_decoder.specs.Arrays.{no_constructor, zero_width, too_nested, shares_left}
use Rattle.amqp_decoder.specs.Arrays.{no_items_opened, no_start, not_begun, wrong_code, no_data, array_left}
use Rattle.amqp_decoder.specs.Places.{Located, At}
use Rattle.amqp_decoder.proofs.Constructed.{code_known}
use Rattle.amqp_placed.specs.Facing.{bytes_open, Shows, IsShown}
use Rattle.amqp_placed.proofs.Past.{past_taken, past_bytes, past_around, past_unlimited}
use Rattle.amqp_placed.proofs.Codes.{code_wrong}
use Rattle.amqp_placed.proofs.Here.{none_some, wrong_as, here_from, here_shows, lacks_wrong, no_bytes, begin_wrong, other_code_wrong}
use Rattle.amqp_placed.proofs.Descriptions.{descriptor_wrong}
use Rattle.amqp_placed.proofs.Onward.{next_from}
use Rattle.amqp_placed.proofs.Constructors.{flat_or_level}
use Rattle.amqp_placed.proofs.Arrays.{Begun, content_shows, items_wrong}

-- nothing but a size bounds the content of an array
unlimited_in : (d : ℕ) (around : Around) (m : State) → Begun d around m → bound_of m.top ≡ None → m.top.left ≡ None
unlimited_in d around m b none = absurd (none_some (sym none ∙ b.bound.1))

-- a code that is at fault behind some descriptors
at_code : (m : State) (f : Located) (n d : ℕ) (around : Around) (ds : List Descriptor) (own y x : List ℕ) → length ds ≤ 128 → Marks ds own
    → bytes_open m ≡ own ++ y → m.rest ≡ own ++ x → f.left ≡ length x → IsWrong f.error around (a_code (length ds)) d y
    → Shows m f (an_array n) d around
at_code m f n d around ds own y x few marks bytes rest place h = record {
  left = length y;
  place = omega (arith, place, ap length bytes, ap length rest, length-append own y, length-append own x);
  stands = next_from around (an_array n) (a_code (length ds)) d d (bytes_open m) y f.error (length y)
      (to_code n d (bytes_open m) y (length ds) few (record { front = own; is = bytes; spelled = (ds, refl, marks) }))
      (here_from around (a_code (length ds)) d y f.error h);
}

constructor_shows : (m : State) (f : Located) (n d : ℕ) (around : Around) → Begun d around m → At constructor_left m f → Shows m f (an_array n) d around
constructor_shows m f n d around b (no_code ds own m2 few marks took lacks, is) =
    let past = past_taken m own m2 took in
    at_code m f n d around ds own (bytes_open m2) m2.rest few marks (past_bytes past) past.rest is
    (lacks_wrong around (a_code (length ds)) d (bytes_open m2) 1 m2 f.error (past_around past around b.is_around)
    (past_unlimited past (unlimited_in d around m b)) (λ less. no_bytes (bytes_open m2) less) lacks)
constructor_shows m f n d around b (no_mark ds m2 few t fault, is) =
    let past = past_taken m (t.own ++ 0 ∷ []) m2 t.took in
    let bytes : bytes_open m ≡ t.own ++ 0 ∷ bytes_open m2 = past_bytes past ∙ append_assoc t.own (0 ∷ []) (bytes_open m2) in
    let rest : m.rest ≡ t.own ++ 0 ∷ m2.rest = past.rest ∙ append_assoc t.own (0 ∷ []) m2.rest in
    record {
      left = length (bytes_open m2);
      place = omega (
        arith,
        is,
        ap length bytes,
        ap length rest,
        length-append t.own (0 ∷ bytes_open m2),
        length-append t.own (0 ∷ m2.rest),
      );
      stands = next_from around (an_array n) (a_code (length ds)) d d (bytes_open m) (0 ∷ bytes_open m2) f.error (length (bytes_open m2))
          (to_code n d (bytes_open m) (0 ∷ bytes_open m2) (length ds) (omega (arith, few))
          (record { front = t.own; is = bytes; spelled = (ds, refl, t.marks) }))
          (next_from around (a_code (length ds)) a_descriptor d d (0 ∷ bytes_open m2) (bytes_open m2) f.error (length (bytes_open m2))
          (to_its_descriptor (length ds) d (bytes_open m2) few)
          (here_from around a_descriptor d (bytes_open m2) f.error
          (descriptor_wrong m2 f.error d around (past_around past around b.is_around) (past_unlimited past
          (unlimited_in d around m b)) fault)));
    }
constructor_shows m f n d around b (too_many ds m2 few t error, is) =
    let past = past_taken m (t.own ++ 0 ∷ []) m2 t.took in
    at_code m f n d around ds t.own (0 ∷ bytes_open m2) (0 ∷ m2.rest) (omega (arith, few)) t.marks
    (past_bytes past ∙ append_assoc t.own (0 ∷ []) (bytes_open m2)) (past.rest ∙ append_assoc t.own (0 ∷ []) m2.rest) is
    (wrong_as f.error Depth around (a_code (length ds)) d (0 ∷ bytes_open m2) error (inr (ap a_code few, (bytes_open m2, refl))))
constructor_shows m f n d around b (no_known_code ds c m2 few t some none error, is) =
    let past = past_taken m (t.own ++ c ∷ []) m2 t.took in
    at_code m f n d around ds t.own (c ∷ bytes_open m2) (c ∷ m2.rest) few t.marks
    (past_bytes past ∙ append_assoc t.own (c ∷ []) (bytes_open m2)) (past.rest ∙ append_assoc t.own (c ∷ []) m2.rest) is
    (wrong_as f.error (refusal_of c) around (a_code (length ds)) d (c ∷ bytes_open m2) error
    (code_wrong c around (a_code (length ds)) d (c ∷ bytes_open m2)
    (λ known. absurd (elim known [ inl zero_ ↦ some zero_ | inr k ↦ none k ]))
    (λ more unknown_. ((bytes_open m2, refl), some, none))))

some_items : (n : ℕ) → (n ≡ 0 → ⊥) → 0 < n
some_items zero some = absurd (some refl)
some_items (suc n) some = omega arith

constructs : (m : State) (ds : List Descriptor) (c : ℕ) (m2 : State) → TakesConstructor m ds c m2
    → Behind (Constructs (length ds) c) (bytes_open m) (bytes_open m2)
constructs m ds c m2 t = record { front = t.own; is = past_bytes (past_taken m t.own m2 t.took); spelled = (ds, refl, t.few, t.spelled) }

shares_shows : (m : State) (f : Located) (n d : ℕ) (around : Around) → Begun d around m → At (shares_left n) m f → Shows m f (an_array n) d around
shares_shows m f n d around b (no_constructor fault, is) = constructor_shows m f n d around b (fault, is)
shares_shows m f n d around b (zero_width ds c m2 some t empty error, is) =
    here_shows m f (an_array n) d around is (wrong_as f.error ZeroWidthItems around (an_array n) d (bytes_open m) error
    (n, length ds, c, bytes_open m2, refl, constructs m ds c m2 t, some_items n some, empty))
shares_shows m f n d around b (too_nested ds c m2 some t uneven deep error, is) =
    let level : level_of (length ds) c ≡ 1 =
    elim (flat_or_level ds c (code_known ds c t.own t.spelled)) [ inl flat ↦ absurd (uneven flat) | inr one ↦ one ] in
    here_shows m f (an_array n) d around is (wrong_as f.error Depth around (an_array n) d (bytes_open m) (error ∙ ap depth_error b.nesting)
    (inl (inr (inr (inr (
      n,
      length ds,
      c,
      bytes_open m2,
      refl,
      constructs m ds c m2 t,
      some_items n some,
      omega (arith, deep, b.nesting, b.deep, level),
    ))))))

-- Each fault of an array that isn't opened.
pub array_unopened_shown : (st : State) (f : Located) → At array_left st f → IsShown st f
array_unopened_shown st f (not_begun fault, is) P d around h = here_shows st f P d around is
    (begin_wrong st f.error P d around h fault)
array_unopened_shown st f (wrong_code c m code differs error, is) P d around h =
    here_shows st f P d around is
    (wrong_as f.error (refusal_of c) around P d (bytes_open st) error (other_code_wrong st c m P d around h code))
array_unopened_shown st f (no_data c w m code array_ (no_items_opened fault), is) P d around h =
    here_shows st f P d around is (items_wrong st c w m f.error P d around h code array_ fault)
array_unopened_shown st f (no_data c w m code array_ (no_start n content m2 header room some fault), is) P d around h =
    content_shows st c w m n content m2 f P d around h code array_ header room
    (λ inner b. shares_shows (in_container InArray 0 content m2) f n d inner b (fault, is))
