-- A step leads to no more bytes than there were, and `Cut` doesn't stand where a described value begins an input.
use Rattle.std.proofs.Common.{◌≡◌, ℕ, suc, ◌+◌, ◌<◌, ◌≤◌, inl, inr, List, [], ◌∷◌, ◌++◌, length, refl, sym, ap, ◌∙◌, subst, arith}
use Rattle.std.proofs.lemmas.List.{length-append}
use Rattle.std.specs.Int.{bytes_high_first}
use Rattle.amqp_wire.specs.declared.error.Error.TheVariants.{Cut}
use Rattle.amqp_model.specs.Term.{Container, array}
use Rattle.amqp_model.specs.Constructors.{format}
use Rattle.amqp_lengths.specs.Fronts.{Behind}
use Rattle.amqp_lengths.specs.Announced.{Wants}
use Rattle.amqp_lengths.specs.Stands.{Piece, a_value, an_item, an_element, a_descriptor, an_array, a_code, an_end, Around, IsUnder}
use Rattle.amqp_lengths.specs.Stands.{Contains, all_there, cut_short, Step, to_descriptor, to_described, to_item, to_end, to_array, to_code}
use Rattle.amqp_lengths.specs.Stands.{to_its_descriptor, to_element, to_array_end, to_its_described, Leads, no_step, steps, IsWanting}
use Rattle.amqp_lengths.specs.Stands.{IsWrong}
use Rattle.amqp_lengths.specs.Stands.{StandsAt}

behind_shrinks : (X : List ℕ → Type 0) (z after : List ℕ) → Behind X z after → length after ≤ length z
behind_shrinks X z after h = omega (arith, ap length h.is, length-append h.front after)

under_shrinks : (P : Piece) (z : List ℕ) (c : ℕ) (data_ : List ℕ) → IsUnder P z c data_ → length data_ ≤ length z
under_shrinks a_value z c data_ u = omega (arith, ap length u)
under_shrinks (an_item kind n i) z c data_ u = omega (arith, ap length u)
under_shrinks a_descriptor z c data_ u = omega (arith, ap length u)
under_shrinks (an_element [] s n i) z c data_ u = omega (arith, ap length u.1)
under_shrinks (an_element (e ∷ ds) s n i) z c data_ u = absurd u
under_shrinks (an_array n) z c data_ u = absurd u
under_shrinks (a_code k) z c data_ u = absurd u
under_shrinks (an_end kind n) z c data_ u = absurd u

contains_shrinks : (kind : Container) (w n : ℕ) (items data_ : List ℕ) (around : Around) (behind : ℕ)
    → Contains kind w n items data_ around behind → length items + behind ≤ length data_
contains_shrinks kind w n items data_ around behind (all_there after h) =
    let (same, size, content, sized, is, fits, few, spelled) = h.spelled in
    omega (
      arith,
      ap length h.is,
      length-append h.front after,
      ap length spelled,
      length-append (bytes_high_first w size) (bytes_high_first w n ++ content),
      length-append (bytes_high_first w n) content,
      ap length is,
    )
contains_shrinks kind w n items data_ around behind (cut_short (size, rest, fits, is, (less, (count, after, few, spelled, (same, all))))) =
    omega (
      arith,
      ap length is,
      length-append (bytes_high_first w size) rest,
      ap length spelled,
      length-append (bytes_high_first w count) after,
      ap length all,
    )

step_shrinks : (P Q : Piece) (d k behind : ℕ) (z y : List ℕ) (around : Around) → Step P d z Q k y around behind
    → length y + behind ≤ length z
step_shrinks P Q d k behind z y around (to_descriptor p e v own) = omega arith
step_shrinks P Q d k behind z y around (to_described p e v after own h) = omega (arith, behind_shrinks _ v after h)
step_shrinks P Q d k behind z y around (to_item p e v data_ items after c w n i more kind a u is other contains less row) =
    omega (arith, under_shrinks p v c data_ u, contains_shrinks kind w n items data_ a more contains, behind_shrinks _ items after row)
step_shrinks P Q d k behind z y around (to_end p e v data_ items after c w n more kind a u is other contains row) =
    omega (arith, under_shrinks p v c data_ u, contains_shrinks kind w n items data_ a more contains, behind_shrinks _ items after row)
step_shrinks P Q d k behind z y around (to_array p e v data_ items c w n more a u is contains) =
    omega (arith, under_shrinks p v c data_ u, contains_shrinks array w n items data_ a more contains)
step_shrinks P Q d k behind z y around (to_code n e v after j few h) = omega (arith, behind_shrinks _ v after h)
step_shrinks P Q d k behind z y around (to_its_descriptor j e v few) = omega arith
step_shrinks P Q d k behind z y around (to_element n e v data_ after ds c i few h less row) =
    omega (arith, behind_shrinks _ v data_ h, behind_shrinks _ data_ after row)
step_shrinks P Q d k behind z y around (to_array_end n e v data_ after j c h row) =
    omega (arith, behind_shrinks _ v data_ h, behind_shrinks _ data_ after row)
step_shrinks P Q d k behind z y around (to_its_described x ds c n i e v) = omega arith

leads_shrink : (P Q : Piece) (d k behind : ℕ) (z y : List ℕ) (around : Around) → Leads P d z Q k y around behind
    → length y + behind ≤ length z
leads_shrink P Q d k behind z y around (no_step p e v) = omega arith
leads_shrink P Q d k behind z y around (steps p q r e i j v u x a inner b more s h) =
    omega (arith, step_shrinks p q e i b v u a s, leads_shrink q r i j more u x inner h)

-- from a value on, the first step takes its code
first_shrinks : (Q : Piece) (d k behind : ℕ) (z y : List ℕ) (around : Around) → Step a_value d z Q k y around behind
    → length y + behind < length z
first_shrinks Q d k behind z y around (to_descriptor p e v own) = omega arith
first_shrinks Q d k behind z y around (to_described p e v after own h) = omega (arith, behind_shrinks _ v after h)
first_shrinks Q d k behind z y around (to_item p e v data_ items after c w n i more kind a u is other contains less row) =
    omega (arith, ap length u, contains_shrinks kind w n items data_ a more contains, behind_shrinks _ items after row)
first_shrinks Q d k behind z y around (to_end p e v data_ items after c w n more kind a u is other contains row) =
    omega (arith, ap length u, contains_shrinks kind w n items data_ a more contains, behind_shrinks _ items after row)
first_shrinks Q d k behind z y around (to_array p e v data_ items c w n more a u is contains) =
    omega (arith, ap length u, contains_shrinks array w n items data_ a more contains)

not_wanting : (y : List ℕ) → IsWanting a_value (0 ∷ y) → ⊥
not_wanting y (inl none) = cc
not_wanting y (inr (c, data_, is, wants)) =
    let zero_ : c ≡ 0 = ap (λ l. Rattle.std.proofs.Common.get_or l 0 0) (sym is) in
    subst (λ n. Wants (format n) data_) zero_ wants

at_start : (d : ℕ) (z y : List ℕ) (Q : Piece) (k : ℕ) (x : List ℕ) (inner : Around) (behind : ℕ) → z ≡ 0 ∷ y
    → Leads a_value d z Q k x inner behind → length z ≡ length x + behind → IsWrong Cut inner Q k x → ⊥
at_start d z y Q k x inner behind is (no_step p e v) all (inl (open_, wants)) = not_wanting y (subst (IsWanting a_value) is wants)
at_start d z y Q k x inner behind is (no_step p e v) all (inr (cut, wrong)) = cc
at_start d z y Q k x inner behind is (steps p q r e i j v u w a b l more s h) all wrong =
    omega (arith, all, first_shrinks q e i l v u a s, leads_shrink q r i j more u w b h)

-- `Cut` doesn't stand at the start of an input that begins with the 0 of a described value.
pub not_cut_there : (y : List ℕ) → StandsAt (0 ∷ y) Cut 0 → ⊥
not_cut_there y (left, sum, h) =
    at_start 0 (0 ∷ y) y h.piece h.depth h.bytes h.inner h.behind refl h.leads (omega (arith, sum, h.place)) h.wrong
