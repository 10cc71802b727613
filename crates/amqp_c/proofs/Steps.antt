-- How far the steps of a path lead: to a further byte, or to a piece of a lower rank.
use Rattle.std.proofs.Common.{◌≡◌, ℕ, suc, ◌+◌, ◌≤◌, Bool, true, false, cond, eqb, List, [], ◌∷◌, length, sym, ap, subst, ◌∙◌, arith}
use Rattle.std.proofs.lemmas.List.{length-append}
use Rattle.amqp_model.specs.Term.{array, Descriptor}
use Rattle.amqp_model.specs.Constructors.{Format, compound, format, constructors, look_up}
use Rattle.amqp_model.specs.Spelling.{Constructor}
use Rattle.amqp_lengths.specs.Pieces.{NamesAny}
use Rattle.amqp_lengths.specs.Lengths.{Row, HasMarks, Constructs}
use Rattle.amqp_lengths.specs.Stands as stands
use Rattle.amqp_lengths.specs.Stands.{a_value, an_item, an_element, a_descriptor, an_array, a_code, an_end, Around, IsUnder, AnyTerm, AnyData}
use Rattle.amqp_lengths.specs.Stands.{Step, to_descriptor, to_described, to_item, to_end, to_array, to_code, to_its_descriptor, to_element}
use Rattle.amqp_lengths.specs.Stands.{to_array_end, to_its_described}
use Rattle.amqp_paths.specs.declared.piece.Piece.{Piece}
use Rattle.amqp_paths.specs.declared.piece.Piece.TheVariants.{Value, Descriptor as a_mark, Item, ArrayContent, ElementConstructor, Element, End}
use Rattle.amqp_paths.specs.declared.path.Reached.{Reached}
use Rattle.amqp_paths.specs.Pieces.{IsPiece, rank}
use Rattle.amqp_paths.specs.Walks.{IsReached, IsStep}
use Rattle.amqp_paths.proofs.Among.{among_length}
use Rattle.amqp_paths.proofs.Containers.{content_place}
use Rattle.amqp_paths.proofs.Furthers.{behind_less}

-- sizes and counts of arrays have bytes
abbrev IsWide : Format → Type 0
IsWide (compound array w) = 1 ≤ w
IsWide _ = Unit {0}

abbrev AreWide : List (ℕ × Format) → Type 0
AreWide [] = Unit {0}
AreWide (row ∷ rows) = IsWide row.1 × AreWide rows

wide_test : (t : Bool) (F G : Format) → IsWide F → IsWide G → IsWide (cond t F G)
wide_test true F G h k = h
wide_test false F G h k = k

wide_rows : (c : ℕ) (rows : List (ℕ × Format)) → AreWide rows → IsWide (look_up c rows)
wide_rows c [] h = tt
wide_rows c (row ∷ rows) h = wide_test (eqb c row.0) row.1 (look_up c rows) h.0 (wide_rows c rows h.1)

are_wide : AreWide constructors
are_wide = (tt, (tt, (tt, (tt, (tt, (tt, (tt, (tt, (tt, (tt, (tt, (tt, (tt, (tt, (tt, (tt, (tt, (tt, (tt, (tt, (tt, (tt, (tt, (tt, (tt, (tt, (tt, (tt, (tt, (tt, (tt, (tt, (tt, (tt, (tt, (omega arith, (omega arith, tt)))))))))))))))))))))))))))))))))))))

array_wide : (c w : ℕ) → format c ≡ compound array w → 1 ≤ w
array_wide c w is = subst IsWide is (wide_rows c constructors are_wide)

-- lengths
constructor_length : (ds : List Descriptor) (c : ℕ) (b : List ℕ) → Constructor ds c b → length ds + 1 ≤ length b
constructor_length [] c b (s, known) = omega (arith, ap length s)
constructor_length (d ∷ ds) c b (first, second, s, names, more) =
    omega (arith, ap length s, length-append first second, constructor_length ds c second more)

-- the rank of a piece of the specification
abbrev weight : stands.Piece → ℕ
weight (an_array n) = 2
weight (a_code k) = 1
weight (an_element ds c n i) = suc (length ds)
weight _ = 0

piece_weight : (p : Piece) (P : stands.Piece) → IsPiece p P → rank p ≡ weight P
piece_weight Value P h = sym (ap weight h)
piece_weight a_mark P h = sym (ap weight h)
piece_weight (Item kind n i) P h = sym (ap weight h)
piece_weight (ArrayContent n) P h = sym (ap weight h)
piece_weight (ElementConstructor k) P h = sym (ap weight h)
piece_weight (Element k c n i) P (ds, l, is) = ap suc (sym l) ∙ sym (ap weight is)
piece_weight (End kind n) P h = sym (ap weight h)

under_length : (P : stands.Piece) (z : List ℕ) (c : ℕ) (data_ : List ℕ) → IsUnder P z c data_ → 1 + length data_ ≤ length z + weight P
under_length a_value z c data_ u = omega (arith, ap length u)
under_length (an_item kind n i) z c data_ u = omega (arith, ap length u)
under_length a_descriptor z c data_ u = omega (arith, ap length u)
under_length (an_element [] s n i) z c data_ (code, same) = omega (arith, ap length same)
under_length (an_element (e ∷ ds) s n i) z c data_ u = absurd u
under_length (an_array n) z c data_ u = absurd u
under_length (a_code k) z c data_ u = absurd u
under_length (an_end kind n) z c data_ u = absurd u

step_weight : (P Q : stands.Piece) (d k behind : ℕ) (z y : List ℕ) (around : Around) → Step P d z Q k y around behind
    → 1 + weight Q + length y + behind ≤ length z + weight P
step_weight P Q d k behind z y around (to_descriptor X e x own) = omega arith
step_weight P Q d k behind z y around (to_described X e x after own b) = omega (arith, behind_less NamesAny x after b)
step_weight P Q d k behind z y around (to_item X e x data_ items after c w n i more kind ar u is other holds less row) =
    omega (arith, under_length X x c data_ u, content_place kind w n items data_ ar more holds, behind_less (Row AnyTerm i) items after row)
step_weight P Q d k behind z y around (to_end X e x data_ items after c w n more kind ar u is other holds row) =
    omega (arith, under_length X x c data_ u, content_place kind w n items data_ ar more holds, behind_less (Row AnyTerm n) items after row)
step_weight P Q d k behind z y around (to_array X e x data_ items c w n more ar u is holds) =
    omega (arith, under_length X x c data_ u, content_place array w n items data_ ar more holds, array_wide c w is)
step_weight P Q d k behind z y around (to_code n e x after m few b) = omega (arith, behind_less (HasMarks m) x after b)
step_weight P Q d k behind z y around (to_its_descriptor m e x few) = omega arith
step_weight P Q d k behind z y around (to_element n e x data_ after ds c i few b less row) =
    omega (
      arith,
      ap length b.is,
      length-append b.front data_,
      constructor_length ds c b.front b.spelled,
      behind_less (Row (AnyData c) i) data_ after row,
    )
step_weight P Q d k behind z y around (to_array_end n e x data_ after m c b row) =
    omega (arith, behind_less (Constructs m c) x data_ b, behind_less (Row (AnyData c) n) data_ after row)
step_weight P Q d k behind z y around (to_its_described x ds c n i e w) = omega arith

-- what is further in is behind, or has a lower rank, and is in the input
pub further : (input : List ℕ) (at : ℕ) (r q : Reached) → IsReached input at r → IsStep input at r q
    → (1 + rank q.node.piece + r.node.at ≤ q.node.at + rank r.node.piece) × (q.node.at ≤ length input)
further input at r q h s =
    let (Q, k, around, named, step) = s.step h.piece h.depth h.named in
    let to = among_length input s.inner q.node.at (s.behind + s.before) s.to in (
      omega (
        arith,
        among_length input s.bytes r.node.at s.before s.from,
        to,
        step_weight h.piece Q h.depth k s.behind s.bytes s.inner around step,
        piece_weight r.node.piece h.piece h.named,
        piece_weight q.node.piece Q named,
      ),
      omega (arith, to),
    )
