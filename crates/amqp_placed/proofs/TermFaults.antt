-- A fault of a term's bytes stands in longer bytes, too, unless it is that they end, or a size (Part 1, sections 1.2 and 1.6).
use Rattle.std.proofs.Common.{◌≡◌, ℕ, suc, ◌+◌, ◌≤◌, inl, inr, List, [], ◌∷◌, ◌++◌, length, refl, sym, ap, ◌∙◌, subst, arith, append_assoc}
use Rattle.std.proofs.lemmas.List.{length-append}
use Rattle.amqp_wire.specs.declared.error.Error.{Error}
use Rattle.amqp_wire.specs.declared.error.Error.TheVariants.{OddCount, Depth, ZeroWidthItems}
use Rattle.amqp_wire.specs.Codes.{refusal_of}
use Rattle.amqp_model.specs.Term.{Container, list, map, array, Descriptor}
use Rattle.amqp_model.specs.Constructors.{compound, format}
use Rattle.amqp_model.specs.Spelling.{IsKnown, Constructor}
use Rattle.amqp_lengths.specs.Fronts.{Behind}
use Rattle.amqp_lengths.specs.Pieces.{value_of}
use Rattle.amqp_lengths.specs.Contents.{IsContent}
use Rattle.amqp_lengths.specs.Lengths.{HasMarks, Constructs, IsTerm, IsData, Row, HasPairs, levels_of}
use Rattle.amqp_lengths.specs.Faults.{PrimitiveFault, primitive_wanting, primitive_no_value, DescriptorFault}
use Rattle.amqp_lengths.specs.Faults.{descriptor_missing, descriptor_other, descriptor_unknown, descriptor_data, ConstructorFault}
use Rattle.amqp_lengths.specs.Faults.{constructor_ends, constructor_unknown, constructor_long, constructor_descriptor, ContentFault}
use Rattle.amqp_lengths.specs.Faults.{content_wanting, content_small, content_counted, inside, TermFault, term_constructor, term_nests}
use Rattle.amqp_lengths.specs.Faults.{term_data, DataFault, data_of_primitive, data_of_container, data_of_array, ContainerFault}
use Rattle.amqp_lengths.specs.Faults.{container_content, container_deep, container_unpaired, container_items, ItemsFault, items_fault}
use Rattle.amqp_lengths.specs.Faults.{items_over, ArrayFault, array_content, array_elements, ElementsFault, elements_missing}
use Rattle.amqp_lengths.specs.Faults.{elements_constructor, elements_over, elements_empty, elements_deep, elements_data, SharedFault}
use Rattle.amqp_lengths.specs.Faults.{shared_fault, shared_over}
use Rattle.amqp_lengths.specs.Stands.{Piece, an_item, an_element, a_descriptor, an_array, a_code, unbounded, whole_one}
use Rattle.amqp_lengths.specs.Stands.{IsOwn, IsUnder, AnyTerm, AnyData, all_there, level_of, to_descriptor, to_item, to_array, to_code}
use Rattle.amqp_lengths.specs.Stands.{to_its_descriptor, to_element, to_its_described, HasUnknown, IsWrong}
use Rattle.amqp_lengths.proofs.DeeperFaults.{row_part, behind_part}
use Rattle.amqp_placed.specs.Shown.{IsOfNoEnd}
use Rattle.amqp_placed.proofs.Codes.{code_wrong, value_wrong}
use Rattle.amqp_placed.proofs.Here.{own_unknown, own_under}
use Rattle.amqp_placed.proofs.Descriptions.{own_marked}
use Rattle.amqp_placed.proofs.Found.{Found, found_here, found_on, found_next, found_all, found_inside, behind_more, through_marks}
use Rattle.amqp_placed.proofs.Found.{code_behind}

any_terms : (k n : ℕ) (z after : List ℕ) → Behind (Row (IsTerm k) n) z after → Behind (Row AnyTerm n) z after
any_terms k n z after h =
    behind_part (Row (IsTerm k) n) (Row AnyTerm n) z after (row_part (IsTerm k) AnyTerm (λ b (t, s, deep). (t, s)) n) h

any_data : (c k n : ℕ) (z after : List ℕ) → Behind (Row (IsData c k) n) z after → Behind (Row (AnyData c) n) z after
any_data c k n z after h =
    behind_part (Row (IsData c k) n) (Row (AnyData c) n) z after (row_part (IsData c k) (AnyData c) (λ b (t, s, deep). (t, s)) n) h

unpaired_map : (kind : Container) (n : ℕ) → (kind ≡ array → ⊥) → (HasPairs kind n → ⊥) → kind ≡ map
unpaired_map map n other odd = refl
unpaired_map list n other odd = absurd (odd tt)
unpaired_map array n other odd = absurd (other refl)

-- a code that is unknown
pub unknown_wrong : (c : ℕ) (P : Piece) (d : ℕ) (z : List ℕ) → (c ≡ 0 → ⊥) → (IsKnown (format c) → ⊥)
    → HasUnknown P z c → IsWrong (refusal_of c) unbounded P d z
unknown_wrong c P d z some none h =
    code_wrong c unbounded P d z (λ known. absurd (elim known [ inl zero_ ↦ some zero_ | inr k ↦ none k ])) (λ more unknown_. h)

primitive_found : (P : Piece) (d : ℕ) (z : List ℕ) (c : ℕ) (data_ rest : List ℕ) (e : Error) → IsUnder P z c (data_ ++ rest) → IsOfNoEnd e
    → PrimitiveFault (format c) data_ e → IsWrong e unbounded P d z
primitive_found P d z c data_ rest e u other (primitive_wanting p w) = absurd other
primitive_found P d z c data_ rest e u other (primitive_no_value content after x there h) =
    value_wrong (value_of (format c) content) x unbounded P d z h
    (c, data_ ++ rest, content, after ++ rest, u, behind_more _ data_ after rest there, h)

descriptor_found : (d : ℕ) (z rest : List ℕ) (e : Error) → IsOfNoEnd e → DescriptorFault z e
    → IsWrong e unbounded a_descriptor d (z ++ rest)
descriptor_found d z rest e other (descriptor_missing is) = absurd other
descriptor_found d z rest e other (descriptor_other c after is known no_code) =
    (refl, (c, (after ++ rest, ap (λ l. l ++ rest) is), known, no_code))
descriptor_found d z rest e other (descriptor_unknown c after is some none) =
    unknown_wrong c a_descriptor d (z ++ rest) some none ((after ++ rest, ap (λ l. l ++ rest) is), some, none)
descriptor_found d z rest e other (descriptor_data c after x is code h) =
    primitive_found a_descriptor d (z ++ rest) c after rest x (ap (λ l. l ++ rest) is) other h

-- the descriptors of a constructor of one's own
behind_marks : (n : ℕ) (P : Piece) (d : ℕ) (z after rest : List ℕ) (e : Error) (left : ℕ) → IsOwn P → Behind (HasMarks n) z after
    → ((Q : Piece) → IsOwn Q → Found Q (d + n) (after ++ rest) e left) → Found P d (z ++ rest) e left
behind_marks n P d z after rest e left own b h =
    let (ds, l, marks) = b.spelled in
    through_marks ds P d (z ++ rest) b.front (after ++ rest) e left own marks (ap (λ x. x ++ rest) b.is ∙ append_assoc b.front after rest)
    (λ Q o. subst (λ k. Found Q (d + k) (after ++ rest) e left) (sym l) (h Q o))

own_code_found : (P : Piece) (d : ℕ) (z rest : List ℕ) (e : Error) (left : ℕ) → IsOwn P → IsOfNoEnd e → ConstructorFault z e left
    → Found P d (z ++ rest) e (left + length rest)
own_code_found P d z rest e left own other (constructor_ends n few h) = absurd other
own_code_found P d z rest e left own other (constructor_unknown n c after few h some none) =
    behind_marks n P d z (c ∷ after) rest (refusal_of c) (suc (length after) + length rest) own h
    (λ Q o. found_here Q (d + n) (c ∷ (after ++ rest)) (refusal_of c) (suc (length after) + length rest) (omega (
      arith,
      length-append after rest,
    ))
    (unknown_wrong c Q (d + n) (c ∷ (after ++ rest)) some none (own_unknown Q c (c ∷ (after ++ rest)) (after ++ rest) o refl some none)))
own_code_found P d z rest e left own other (constructor_long after h) =
    behind_marks 128 P d z (0 ∷ after) rest Depth (suc (length after) + length rest) own h
    (λ Q o. found_here Q (d + 128) (0 ∷ (after ++ rest)) Depth (suc (length after) + length rest) (omega (arith, length-append after rest))
    (inl (inl (own_marked Q (0 ∷ (after ++ rest)) (after ++ rest) o refl, omega arith))))
own_code_found P d z rest e left own other (constructor_descriptor n after x few h f) =
    behind_marks n P d z (0 ∷ after) rest x (length after + length rest) own h
    (λ Q o. found_next Q a_descriptor (d + n) (d + n) (0 ∷ (after ++ rest)) (after ++ rest) x (length after + length rest)
    (to_descriptor Q (d + n) (after ++ rest) o)
    (found_here a_descriptor (d + n) (after ++ rest) x (length after + length rest) (length-append after rest)
    (descriptor_found (d + n) after rest x other f)))

-- those of an array's items
shared_code_found : (n d : ℕ) (z : List ℕ) (e : Error) (left : ℕ) → IsOfNoEnd e → ConstructorFault z e left → Found (an_array n) d z e left
shared_code_found n d z e left other (constructor_ends k few h) = absurd other
shared_code_found n d z e left other (constructor_unknown k c after few h some none) =
    found_next (an_array n) (a_code k) d d z (c ∷ after) (refusal_of c) (suc (length after)) (to_code n d z (c ∷ after) k few h)
    (found_here (a_code k) d (c ∷ after) (refusal_of c) (suc (length after)) refl
    (unknown_wrong c (a_code k) d (c ∷ after) some none ((after, refl), some, none)))
shared_code_found n d z e left other (constructor_long after h) =
    found_next (an_array n) (a_code 128) d d z (0 ∷ after) Depth (suc (length after)) (to_code n d z (0 ∷ after) 128 (omega arith) h)
    (found_here (a_code 128) d (0 ∷ after) Depth (suc (length after)) refl (inr (refl, (after, refl))))
shared_code_found n d z e left other (constructor_descriptor k after x few h f) =
    found_next (an_array n) (a_code k) d d z (0 ∷ after) x (length after) (to_code n d z (0 ∷ after) k (omega arith) h)
    (found_next (a_code k) a_descriptor d d (0 ∷ after) after x (length after) (to_its_descriptor k d after few)
    (found_all a_descriptor d after x (length after)
    (found_here a_descriptor d (after ++ []) x (length after + 0) (length-append after []) (descriptor_found d after [] x other f))))

-- through the descriptors that an element shares
through_shared : (ds : List Descriptor) (c n i d : ℕ) (z : List ℕ) (e : Error) (left : ℕ)
    → Found (an_element [] c n i) (d + length ds) z e left → Found (an_element ds c n i) d z e left
through_shared [] c n i d z e left h = let same : d + 0 ≡ d = omega arith in subst (λ k. Found (an_element [] c n i) k z e left) same h
through_shared (x ∷ ds) c n i d z e left h =
    let deeper : d + suc (length ds) ≡ suc d + length ds = omega arith in
    found_next (an_element (x ∷ ds) c n i) (an_element ds c n i) d (suc d) z z e left (to_its_described x ds c n i d z)
    (through_shared ds c n i (suc d) z e left (subst (λ k. Found (an_element [] c n i) k z e left) deeper h))

-- a container's content is said to be wanting, or its size to be wrong
content_not : (kind : Container) (w : ℕ) (y : List ℕ) (e : Error) → ContentFault kind w y e → IsOfNoEnd e → ⊥
content_not kind w y e (content_wanting h) other = other
content_not kind w y e (content_small h) other = other
content_not kind w y e (content_counted is h) other = other

mutual
  pub term_found : (P : Piece) (d k : ℕ) (z rest : List ℕ) (e : Error) (left : ℕ) → IsOwn P → 128 ≤ d + k → IsOfNoEnd e
      → TermFault Depth k z e left → Found P d (z ++ rest) e (left + length rest)
  term_found P d k z rest e left own level other (term_constructor j b x l h) = own_code_found P d b rest x l own other h
  term_found P d k z rest e left own level other (term_nests j b n c after h deep) =
      found_here P d (b ++ rest) Depth (length b + length rest) (length-append b rest)
      (inl (inr (inl (own, (n, c, after ++ rest, behind_more (Constructs n c) b after rest h, omega (arith, level, deep))))))
  term_found P d k z rest e left own level other (term_data j b x n c inner l after h is f) =
      let (ds, long, few, con) = h.spelled in
      let (front, marks, parts) = code_behind ds c h.front con in
      let all : b ++ rest ≡ front ++ (c ∷ (after ++ rest)) =
      ap (λ y. y ++ rest) (h.is ∙ ap (λ y. y ++ after) parts ∙ append_assoc front (c ∷ []) after)
      ∙ append_assoc front (c ∷ after) rest in
      through_marks ds P d (b ++ rest) front (c ∷ (after ++ rest)) x (l + length rest) own marks all
      (λ Q o. data_found 1 Q (d + length ds) inner (c ∷ (after ++ rest)) c after rest x l
      (own_under Q c (c ∷ (after ++ rest)) (after ++ rest) o refl) (omega arith) (omega (arith, level, is, long)) other f)

  data_found : (own : ℕ) (P : Piece) (d k : ℕ) (z : List ℕ) (c : ℕ) (data_ rest : List ℕ) (e : Error) (left : ℕ)
      → IsUnder P z c (data_ ++ rest) → length z ≡ own + length (data_ ++ rest) → 128 ≤ d + k → IsOfNoEnd e
      → DataFault Depth own c k data_ e left → Found P d z e (left + length rest)
  data_found own P d k z c data_ rest e left u all level other (data_of_primitive o s j y x h) =
      found_here P d z x (o + length y + length rest) (omega (arith, all, length-append y rest))
      (primitive_found P d z s y rest x u other h)
  data_found own P d k z c data_ rest e left u all level other (data_of_container o s j y x l kind w is list_or_map h) =
      container_found o P d j z s w y rest kind x l u is list_or_map all level other h
  data_found own P d k z c data_ rest e left u all level other (data_of_array o s j y x l w is h) =
      array_found o P d j z s w y rest x l u is all level other h

  container_found : (own : ℕ) (P : Piece) (d k : ℕ) (z : List ℕ) (c w : ℕ) (data_ rest : List ℕ) (kind : Container) (e : Error) (left : ℕ)
      → IsUnder P z c (data_ ++ rest) → format c ≡ compound kind w → (kind ≡ array → ⊥) → length z ≡ own + length (data_ ++ rest)
      → 128 ≤ d + k → IsOfNoEnd e → ContainerFault Depth own kind w k data_ e left → Found P d z e (left + length rest)
  container_found own P d k z c w data_ rest kind e left u is plain all level other (container_content o i v j y x h) =
      absurd (content_not i v y x h other)
  container_found own P d k z c w data_ rest kind e left u is plain all level other (container_deep o i v j y after h none) =
      found_here P d z Depth (o + length y + length rest) (omega (arith, all, length-append y rest))
      (inl (inr (inr (inl (i, v, y ++ rest, (c, u, is), plain, omega (arith, level, none))))))
  container_found own P d k z c w data_ rest kind e left u is plain all level other (container_unpaired o i v j y n items after h odd) =
      let same = unpaired_map i n plain odd in
      found_here P d z OddCount (o + length y + length rest) (omega (arith, all, length-append y rest)) (
        v,
        n,
        length (after ++ rest),
        y ++ rest,
        items,
        whole_one,
        (c, u, subst (λ x. format c ≡ compound x v) same is),
        all_there (after ++ rest) (behind_more (IsContent map v n items) y after rest (subst (λ x. Behind
            (IsContent x v n items) y after) same h)),
        subst (λ x. HasPairs x n → ⊥) same odd,
      )
  container_found own P d k z c w data_ rest kind e left u is plain all level other
      (container_items o i v j y x n inner l items after h deeper f) =
      items_found P d inner z c v y rest i items after n x l u is plain h (omega (arith, level, deeper)) other f

  items_found : (P : Piece) (d k : ℕ) (z : List ℕ) (c w : ℕ) (data_ rest : List ℕ) (kind : Container) (items after : List ℕ) (n : ℕ)
      (e : Error)
      (left : ℕ) → IsUnder P z c (data_ ++ rest) → format c ≡ compound kind w → (kind ≡ array → ⊥)
      → Behind (IsContent kind w n items) data_ after → 128 ≤ suc d + k → IsOfNoEnd e → ItemsFault Depth k n items e left
      → Found P d z e (left + length after + length rest)
  items_found P d k z c w data_ rest kind items after n e left u is plain h level other (items_fault j i y x done l rest0 less front f) =
      found_on P (an_item kind i done) d (suc d) z rest0 (inside x) l whole_one (length (after ++ rest)) (l + length after + length rest)
      (to_item P d z (data_ ++ rest) y rest0 c w i done (length (after ++ rest)) kind whole_one u is plain
      (all_there (after ++ rest) (behind_more (IsContent kind w i y) data_ after rest h)) less (any_terms j done y rest0 front))
      (omega (arith, length-append after rest))
      (found_inside (an_item kind i done) (suc d) rest0 x l other
      (λ more. found_all (an_item kind i done) (suc d) rest0 x l (term_found (an_item kind i done) (suc d) j rest0 [] x l tt level more f)))
  items_found P d k z c w data_ rest kind items after n e left u is plain h level other (items_over j i y rest0 front some) = absurd other

  array_found : (own : ℕ) (P : Piece) (d k : ℕ) (z : List ℕ) (c w : ℕ) (data_ rest : List ℕ) (e : Error) (left : ℕ)
      → IsUnder P z c (data_ ++ rest) → format c ≡ compound array w → length z ≡ own + length (data_ ++ rest) → 128 ≤ d + k → IsOfNoEnd e
      → ArrayFault Depth own w k data_ e left → Found P d z e (left + length rest)
  array_found own P d k z c w data_ rest e left u is all level other (array_content o v j y x h) = absurd (content_not array v y x h other)
  array_found own P d k z c w data_ rest e left u is all level other (array_elements o v j y x n l items after h f) =
      found_on P (an_array n) d d z items x l whole_one (length (after ++ rest)) (l + length after + length rest)
      (to_array P d z (y ++ rest) items c v n (length (after ++ rest)) whole_one u is
      (all_there (after ++ rest) (behind_more (IsContent array v n items) y after rest h)))
      (omega (arith, length-append after rest)) (elements_found n d j items x l level other f)

  elements_found : (n d k : ℕ) (content : List ℕ) (e : Error) (left : ℕ) → 128 ≤ d + k → IsOfNoEnd e
      → ElementsFault Depth k n content e left
      → Found (an_array n) d content e left
  elements_found n d k content e left level other (elements_missing j i y none some) = absurd other
  elements_found n d k content e left level other (elements_constructor j i y x l some h) =
      found_inside (an_array i) d y x l other (λ more. shared_code_found i d y x l more h)
  elements_found n d k content e left level other (elements_over j i y m c after h none some) = absurd other
  elements_found n d k content e left level other (elements_empty j i y m c after h some wide) =
      found_here (an_array i) d y ZeroWidthItems (length y) refl (i, m, c, after, refl, h, some, wide)
  elements_found n d k content e left level other (elements_deep j i y m c after h some deep) =
      found_here (an_array i) d y Depth (length y) refl (inl (inr (inr (inr (i, m, c, after, refl, h, some, omega (arith, level, deep))))))
  elements_found n d k content e left level other (elements_data j i y x m c inner l after h some is f) =
      let (ds, long, few, con) = h.spelled in
      let level_there : 128 ≤ (d + level_of (length ds) c) + length ds + inner =
      omega (arith, level, is, long, ap (λ x. levels_of x c) long, ap (λ x. level_of x c) long) in
      shared_found i d inner y after ds c x l (omega (
        arith,
        few,
        long,
      )) (record { front = h.front; is = h.is; spelled = con }) level_there other f

  shared_found : (n d k : ℕ) (content data_ : List ℕ) (ds : List Descriptor) (c : ℕ) (e : Error) (left : ℕ) → length ds ≤ 128
      → Behind (Constructor ds c) content data_ → 128 ≤ (d + level_of (length ds) c) + length ds + k → IsOfNoEnd e
      → SharedFault Depth c k n data_ e left → Found (an_array n) d content e left
  shared_found n d k content data_ ds c e left few h level other (shared_fault s j i y x done l rest less front f) =
      let here = d + level_of (length ds) s in
      found_next (an_array i) (an_element ds s i done) d here content rest (inside x) l
      (to_element i d content y rest ds s done few h less (any_data s j done y rest front))
      (found_inside (an_element ds s i done) here rest x l other
      (λ more. through_shared ds s i done here rest x l (found_all (an_element [] s i done) (here + length ds) rest x l
      (data_found 0 (an_element [] s i done) (here + length ds) j (rest ++ []) s rest [] x l (refl, refl) (omega arith) level more f))))
  shared_found n d k content data_ ds c e left few h level other (shared_over s j i y rest front some) = absurd other
