-- Rows that list the values of an enum in its order, each with its name.
use Rattle.std.proofs.Common.{◌≡◌, ℕ, zero, suc, ◌+◌, ◌<◌, Bool, true, false, ◌&&◌, eqb, not, cond, nat_lt, List}
use Rattle.std.proofs.Common.{[], ◌∷◌, length, get_or, bytes_eq, Bor, Some, None}
use Rattle.std.proofs.Common.{inl, inr, refl, sym, ap, ◌∙◌, arith}
use Rattle.amqp_catalogue.specs.Rows.{in_order}
use Rattle.std.specs.Cmp.{first_so, second_so}
use Rattle.std.proofs.lemmas.Bool.{eqb-true, ltb-false, not-true}
use Rattle.std.proofs.lemmas.List.Sums.{prefix_len_passes}
use Rattle.std.proofs.lemmas.List.Quantifiers.{position-Some}
use Rattle.std.specs.List.{position, position_or_len}
use Rattle.std.proofs.lemmas.Slice.Eq.{bytes_eq-Decides}
use denote.Struct.Field.{Field}
use denote.Enum.Bare.{Bare, tag_one}
use denote.Enum.Declared.{Declared, rowss, tag_of}
use denote.Enum.Enum.{Sum, tag}

tag_within : (fields : List (List Field)) (s : Sum (rowss fields)) → tag (rowss fields) s < length fields
tag_within [] s = absurd s
tag_within (f ∷ fields) (inl x) = omega arith
tag_within (f ∷ fields) (inr x) = let h = tag_within fields x in omega (arith, h)

below : (m n k : ℕ) → nat_lt n m ≡ false → k < m → k < n
below m n k h w = let l = ltb-false n m h in omega (arith, l, w)

-- where no element passes
passed_by : {X : Type 0} (rows : List (Bor (List ℕ) × X)) (text : List ℕ) → position (λ row. bytes_eq row.0.now text) rows ≡ None
    → (k : ℕ) (d : Bor (List ℕ) × X) → k < length rows → bytes_eq (get_or rows k d).0.now text ≡ false
passed_by {X} rows text e k d w = go (nat_lt n (length rows)) refl e
  where
    n : ℕ
    n = position_or_len (λ (row : Bor (List ℕ) × X). bytes_eq row.0.now text) rows

    go : (b : Bool) → nat_lt n (length rows) ≡ b → cond b (Some n) None ≡ None → bytes_eq (get_or rows k d).0.now text ≡ false
    go true h f = absurd (cc)
    go false h f =
        let p = prefix_len_passes (λ (row : Bor (List ℕ) × X). not (bytes_eq row.0.now text)) rows k d (below (length rows) n k h w) in
        not-true (bytes_eq (get_or rows k d).0.now text) p

module _ (D : Declared) (bare : Bare D.parts) (name : D.D → List ℕ) where
  abbrev Row : Type 0
  Row = Bor (List ℕ) × D.D

  -- row by row the enum's values, each with its name
  pub long : (i : ℕ) (rows : List Row) → in_order D name i rows ≡ true → i + length rows ≡ length D.parts
  long i [] h = let e = eqb-true i (length D.parts) h in omega (arith, e)
  long i (row ∷ rows) h =
      let behind = second_so (eqb (tag_of D row.1) i) (bytes_eq (name row.1) row.0.now && in_order D name (i + 1) rows) h in
      let l = long (i + 1) rows (second_so (bytes_eq (name row.1) row.0.now) (in_order D name (i + 1) rows) behind) in omega (arith, l)

  pub at_place : (k i : ℕ) (rows : List Row) (d : Row) → in_order D name i rows ≡ true → k < length rows
      → (tag_of D (get_or rows k d).1 ≡ i + k) × (name (get_or rows k d).1 ≡ (get_or rows k d).0.now)
  at_place k i [] d h w = absurd (omega (arith, w))
  at_place zero i (row ∷ rows) d h w =
      let behind = second_so (eqb (tag_of D row.1) i) (bytes_eq (name row.1) row.0.now && in_order D name (i + 1) rows) h in
      let t = eqb-true (tag_of D row.1) i
      (first_so (eqb (tag_of D row.1) i) (bytes_eq (name row.1) row.0.now && in_order D name (i + 1) rows) h) in (
        omega (arith, t),
        (bytes_eq-Decides (name row.1) row.0.now).0 (first_so (bytes_eq (name row.1) row.0.now) (in_order D name (i + 1) rows) behind),
      )
  at_place (suc k) i (row ∷ rows) d h w =
      let behind = second_so (eqb (tag_of D row.1) i) (bytes_eq (name row.1) row.0.now && in_order D name (i + 1) rows) h in
      let r = at_place k (i + 1) rows d
      (second_so (bytes_eq (name row.1) row.0.now) (in_order D name (i + 1) rows) behind) (omega (arith, w)) in
      (omega (arith, r.0), r.1)

  -- no value is left out
  pub each_listed : (rows : List Row) (d : Row) → in_order D name 0 rows ≡ true → (v : D.D)
      → (tag_of D v < length rows) × (name v ≡ (get_or rows (tag_of D v) d).0.now)
  each_listed rows d h v =
      let w : tag_of D v < length rows = let t = tag_within D.parts (D.to v) in let l = long 0 rows h in omega (arith, t, l) in
      let p = at_place (tag_of D v) 0 rows d h w in
      let e : (get_or rows (tag_of D v) d).1 ≡ v = tag_one D bare (get_or rows (tag_of D v) d).1 v (omega (arith, p.0)) in
      (w, ap name (sym e) ∙ p.1)

  -- what stands in a row has its name
  pub row_named : (rows : List Row) (d : Row) (text : List ℕ) (k : ℕ) → position (λ row. bytes_eq row.0.now text) rows ≡ Some k
      → in_order D name 0 rows ≡ true → name (get_or rows k d).1 ≡ text
  row_named rows d text k e h =
      let (w, t, before) = position-Some (λ (row : Row). bytes_eq row.0.now text) rows k d e in
      (at_place k 0 rows d h w).1 ∙ (bytes_eq-Decides (get_or rows k d).0.now text).0 t

  -- a name that no row has is no value's
  pub not_named : (rows : List Row) (text : List ℕ) → position (λ row. bytes_eq row.0.now text) rows ≡ None
      → in_order D name 0 rows ≡ true → (v : D.D) → name v ≡ text → ⊥
  not_named rows text e h v n =
      let d : Row = (record { ref_ptr = (0, 0); now = [] }, v) in
      let (w, m) = each_listed rows d h v in
      let t = (bytes_eq-Decides (get_or rows (tag_of D v) d).0.now text).1 (sym m ∙ n) in
      let f = passed_by rows text e (tag_of D v) d w in cc
