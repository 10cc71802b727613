-- A fault of a term whose bytes are kept is shown by bytes, unless it is that they end, or a size (Part 1, section 1.2).
use Rattle.std.proofs.Common.{◌≡◌, ℕ, suc, ◌+◌, ◌-◌, ◌≤◌, inl, inr, Option, Some, None, List, [], ◌∷◌, ◌++◌, length, refl, sym, ap, ◌∙◌}
use Rattle.std.proofs.Common.{subst, arith, append_assoc}
use Rattle.std.proofs.lemmas.List.{length-append}
use Rattle.amqp_wire.specs.declared.error.Error.{Error}
use Rattle.amqp_wire.specs.declared.error.Error.TheVariants.{Depth, LazyInArray}
use Rattle.amqp_wire.specs.Codes.{refusal_of}
use Rattle.amqp_model.specs.Term.{Descriptor}
use Rattle.amqp_model.specs.Constructors.{Format, fixed, variable, compound, unknown, format}
use Rattle.amqp_lengths.specs.Faults.{TermFault}
use Rattle.amqp_lengths.specs.Stands.{Piece, a_descriptor, Around, unbounded, IsOwn, to_descriptor, IsElement}
use Rattle.amqp_decoder.specs.State.{State, Has, bound_of, weight_at, depth_error}
use Rattle.amqp_decoder.specs.Steps.{Lacks, cut_open, past_limit, cut_inside, too_long, SizeError, cut, wrong, past}
use Rattle.amqp_decoder.specs.Reading as reading
use Rattle.amqp_decoder.specs.Rooms.{HasFlatItems}
use Rattle.amqp_decoder.specs.Arrays.{ConstructorFault, no_code, no_mark, too_many, no_known_code, constructor_left}
use Rattle.amqp_decoder.specs.Terms as terms
use Rattle.amqp_decoder.specs.Terms.{LacksAnnounced, wrong_size, wrong_term, term_left, SpellingFault, no_constructor, no_data, no_term}
use Rattle.amqp_decoder.specs.Terms.{spelling_left}
use Rattle.amqp_decoder.specs.Terms.{TermFault as NoTermRead, missing, in_array, misspelled, term_fault_left}
use Rattle.amqp_decoder.specs.Places.{Located, At}
use Rattle.amqp_placed.specs.Facing.{bytes_open, IsUnderShared, Faces, Shows, AreShown}
use Rattle.amqp_placed.specs.Shown.{IsOfNoEnd}
use Rattle.amqp_placed.proofs.Past.{past_taken, past_both, past_bytes, past_length, past_around, past_unlimited}
use Rattle.amqp_placed.proofs.Here.{wrong_as, deep_here, here_shows, next_left, own_unknown, begin_wrong}
use Rattle.amqp_placed.proofs.Descriptions.{own_marked, descriptor_wrong}
use Rattle.amqp_placed.proofs.Found.{Found, found_here, found_next, shows_found, through_marks, any_around}
use Rattle.amqp_placed.proofs.TermFaults.{unknown_wrong, term_found}

lacks_not : (n : ℕ) (m : State) (e : Error) → (bound_of m.top ≡ None → m.top.left ≡ None) → Lacks n m e → IsOfNoEnd e → ⊥
lacks_not n m e unlimited (cut_open none has few is) other = subst IsOfNoEnd is other
lacks_not n m e unlimited (past_limit none has is) other = has (subst (λ o. Has o n) (sym (unlimited none)) tt)
lacks_not n m e unlimited (cut_inside some less few is) other = subst IsOfNoEnd is other
lacks_not n m e unlimited (too_long some less all is) other = subst IsOfNoEnd is other

data_not : (F : Format) (m : State) (e : Error) → (bound_of m.top ≡ None → m.top.left ≡ None) → LacksAnnounced F m e → IsOfNoEnd e → ⊥
data_not (fixed w v) m e unlimited lacks other = lacks_not w m e unlimited lacks other
data_not (variable w v) m e unlimited (inl lacks) other = lacks_not w m e unlimited lacks other
data_not (variable w v) m e unlimited (inr (n, after, fits, took, lacks)) other =
    lacks_not n after e (past_unlimited (past_taken m _ after took) unlimited) lacks other
data_not (compound kind w) m e unlimited (inl lacks) other = lacks_not w m e unlimited lacks other
data_not (compound kind w) m e unlimited (inr (n, after, fits, took, lacks)) other =
    lacks_not _ after e (past_unlimited (past_taken m _ after took) unlimited) lacks other
data_not unknown m e unlimited lacks other = lacks

size_not : (m : State) (e : Error) → (bound_of m.top ≡ None → m.top.left ≡ None) → SizeError 0 m e → IsOfNoEnd e → ⊥
size_not m e unlimited (cut within few is) other = subst IsOfNoEnd is other
size_not m e unlimited (wrong within enough is) other = subst IsOfNoEnd is other
size_not m e unlimited (past none has is) other = has (subst (λ o. Has o 0) (sym (unlimited none)) tt)

element_shared : (o : Option (List Descriptor × ℕ)) (P : Piece) → (o ≡ None → ⊥) → IsUnderShared o P → IsElement P
element_shared None P shared h = absurd (shared refl)
element_shared (Some (ds, c)) P shared (n, i, is, known) = subst IsElement (sym is) tt

module _ (st : State) (f : Located) (P : Piece) (d : ℕ) (around : Around) (h : Faces st P d around) (own : IsOwn P)
    (other : IsOfNoEnd f.error) where
  -- behind some descriptors of its own
  constructor_found : (fault : ConstructorFault st f.error) → f.left ≡ constructor_left st f.error fault → Shows st f P d around
  constructor_found (no_code ds own_ m few marks took lacks) is =
      absurd (lacks_not 1 m f.error (past_unlimited (past_taken st own_ m took) h.unlimited) lacks other)
  constructor_found (no_mark ds m few t fault) is =
      let past = past_taken st (t.own ++ 0 ∷ []) m t.took in
      let bytes : bytes_open st ≡ t.own ++ 0 ∷ bytes_open m = past_bytes past ∙ append_assoc t.own (0 ∷ []) (bytes_open m) in
      shows_found st f P d around (length (bytes_open m)) other
      (through_marks ds P d (bytes_open st) t.own (0 ∷ bytes_open m) f.error (length (bytes_open m)) own t.marks bytes
      (λ Q o. found_next Q a_descriptor (d + length ds) (d + length ds) (0 ∷ bytes_open m) (bytes_open m) f.error (length (bytes_open m))
      (to_descriptor Q (d + length ds) (bytes_open m) o)
      (found_here a_descriptor (d + length ds) (bytes_open m) f.error (length (bytes_open m)) refl
      (any_around f.error unbounded around a_descriptor (d + length ds) (bytes_open m) other
      (descriptor_wrong m f.error (d + length ds) around (past_around past around h.is_around) (past_unlimited past h.unlimited) fault)))))
      (omega (arith, is, ap length bytes, length-append t.own (0 ∷ bytes_open m), past_length past, length-append t.own (0 ∷ [])))
  constructor_found (too_many ds m many t error) is =
      let past = past_taken st (t.own ++ 0 ∷ []) m t.took in
      let bytes : bytes_open st ≡ t.own ++ 0 ∷ bytes_open m = past_bytes past ∙ append_assoc t.own (0 ∷ []) (bytes_open m) in
      shows_found st f P d around (suc (length (bytes_open m))) other
      (through_marks ds P d (bytes_open st) t.own (0 ∷ bytes_open m) f.error (suc (length (bytes_open m))) own t.marks bytes
      (λ Q o. found_here Q (d + length ds) (0 ∷ bytes_open m) f.error (suc (length (bytes_open m))) refl
      (wrong_as f.error Depth unbounded Q (d + length ds) (0 ∷ bytes_open m) error
      (inl (inl (own_marked Q (0 ∷ bytes_open m) (bytes_open m) o refl, omega (arith, many)))))))
      (omega (arith, is, ap length bytes, length-append t.own (0 ∷ bytes_open m), past_length past, length-append t.own (0 ∷ [])))
  constructor_found (no_known_code ds c m few t some none error) is =
      let past = past_taken st (t.own ++ c ∷ []) m t.took in
      let bytes : bytes_open st ≡ t.own ++ c ∷ bytes_open m = past_bytes past ∙ append_assoc t.own (c ∷ []) (bytes_open m) in
      shows_found st f P d around (suc (length (bytes_open m))) other
      (through_marks ds P d (bytes_open st) t.own (c ∷ bytes_open m) f.error (suc (length (bytes_open m))) own t.marks bytes
      (λ Q o. found_here Q (d + length ds) (c ∷ bytes_open m) f.error (suc (length (bytes_open m))) refl
      (wrong_as f.error (refusal_of c) unbounded Q (d + length ds) (c ∷ bytes_open m) error
      (unknown_wrong c Q (d + length ds) (c ∷ bytes_open m) some none (own_unknown Q c (c ∷ bytes_open m)
      (bytes_open m) o refl some none)))))
      (omega (arith, is, ap length bytes, length-append t.own (c ∷ bytes_open m), past_length past, length-append t.own (c ∷ [])))

  spelling_found : length st.saved ≤ d → (fault : SpellingFault st f.error) → f.left ≡ spelling_left st f.error fault
      → Shows st f P d around
  spelling_found deep (no_constructor fault) is = constructor_found fault is
  spelling_found deep (no_data {ds} {c} {m} t lacks) is =
      absurd (data_not (format c) m f.error (past_unlimited (past_taken st t.own m t.took) h.unlimited) lacks other)
  spelling_found deep (no_term {ds} {c} {m} {b} {m' = m2} t took announced (wrong_size refused fault size)) is =
      let past = past_both t.own b st m m2 (past_taken st t.own m t.took) (past_taken m b m2 took) in
      absurd (size_not m2 f.error (past_unlimited past h.unlimited) size other)
  spelling_found deep (no_term {ds} {c} {m} {b} {m' = m2} t took announced (wrong_term refused (left, fault) no_size)) is =
      let past = past_both t.own b st m m2 (past_taken st t.own m t.took) (past_taken m b m2 took) in
      let here : TermFault Depth (st.nesting - length st.saved) (t.own ++ b) f.error left =
      subst (λ x. TermFault x (st.nesting - length st.saved) (t.own ++ b) f.error left)
      (ap depth_error (past.nesting ∙ h.nesting)) fault in
      shows_found st f P d around (left + length (bytes_open m2)) other
      (subst (λ l. Found P d l f.error (left + length (bytes_open m2))) (sym (past_bytes past))
      (term_found P d (st.nesting - length st.saved) (t.own ++ b) (bytes_open m2) f.error left own (omega (
        arith,
        deep,
        h.nesting,
      )) other here))
      (omega (arith, is, ap length (past_bytes past), length-append (t.own ++ b) (bytes_open m2), past_length past))

not_flat : (o : Option (List Descriptor × ℕ)) → o ≡ None → HasFlatItems o → ⊥
not_flat o own flat = subst HasFlatItems own flat

-- A term of any kind that isn't read.
pub term_shown : (e : Error) → IsOfNoEnd e → AreShown e (At term_fault_left)
term_shown e other st f is (missing none error, place) P d around h =
    here_shows st f P d around place (begin_wrong st f.error P d around h (reading.missing none error))
term_shown e other st f is (in_array item shared error, place) P d around h =
    here_shows st f P d around place (wrong_as f.error LazyInArray around P d (bytes_open st) error
    (element_shared st.top.shared P shared (next_left st.top.items st.top.shared P item h.next)))
term_shown e other st f is (misspelled item own fault, place) P d around h =
    let is_own : IsOwn P = subst (λ o. IsUnderShared o P) own (next_left st.top.items st.top.shared P item h.next) in
    spelling_found st f P d around h is_own (subst IsOfNoEnd (sym is) other)
    (deep_here st P d around h item (not_flat st.top.shared own)) fault place
term_shown e other st f is (terms.too_many took full error, place) P d around h =
    absurd (full (subst (λ o. Has o (weight_at st took.term)) (sym h.uncounted) tt))
