-- A line asks for one thing: the first space ends the type's name.
use Rattle.std.proofs.Common.{◌≡◌, ◌<◌, ℕ, suc, ◌+◌, ◌-◌, Bool, Bor, true, false, ◌&&◌, not}
use Rattle.std.proofs.Common.{eqb, eq-eqb, List, [], ◌∷◌, ◌++◌, length, take, drop}
use Rattle.std.proofs.Common.{get_or, map, slice_index, Some, None, refl, sym, ap, ◌∙◌, subst, arith}
use Rattle.std.specs.List.{list_all}
use Rattle.std.proofs.lemmas.Bool.{eqb-true}
use Rattle.std.proofs.lemmas.List.Folds.{list_all_at}
use Rattle.std.proofs.lemmas.List.{take_all, length-drop}
use Rattle.std.proofs.Math.Seq.{split_at}
use denote.Enum.Declared.{tag_of}
use Rattle.memchr.specs.Find.{IsFirstByte, is_byte}
use Rattle.amqp_catalogue.specs.NamedTypes.{type_name}
use Rattle.amqp_catalogue.specs.declared.type_name.TypeName.{TypeName}
use Rattle.amqp_lines.specs.declared.request.TheConstants.{NAMES}
use Rattle.amqp_catalogue.specs.contracts.type_name.TypeName.{the_type}
use Rattle.amqp_catalogue.proofs.Rows.{each_listed}
use Rattle.amqp_lines.specs.Lines.{HasNo}
use Rattle.amqp_lines.specs.Answers.{Asks, StandsFor}
use Rattle.amqp_lines.proofs.Pieces.{first_none, first_some}

abbrev all_differ : ℕ → List ℕ → Bool
all_differ c [] = true
all_differ c (b ∷ bs) = not (eqb b c) && all_differ c bs

differing : (c b : ℕ) (bs : List ℕ) → (not (eqb b c) && all_differ c bs) ≡ true → (b ≡ c → ⊥) × (all_differ c bs ≡ true)
differing c b bs h = go (eqb b c) refl h
  where
    go : (t : Bool) → eqb b c ≡ t → (not t && all_differ c bs) ≡ true → (b ≡ c → ⊥) × (all_differ c bs ≡ true)
    go true e h = cc
    go false e h = (λ f. (let g = eq-eqb b c f in cc), h)

tested : (c : ℕ) (bs : List ℕ) → all_differ c bs ≡ true → HasNo c bs
tested c [] h = tt
tested c (b ∷ bs) h = let (d, e) = differing c b bs h in (d, tested c bs e)

abbrev Row : Type 0
Row = Bor (List ℕ) × TypeName

abbrev has_no_space : Row → Bool
has_no_space row = all_differ 32 row.0.now

abbrev table : List Row
table = map {B = Row} (λ row. (record { ref_ptr = (0, 0); now = row.0.now }, row.1)) NAMES.now

-- what every row passes, the one at a place does
passed : (test : Row → Bool) (rows : List Row) (k : ℕ) (d : Row) → list_all test rows ≡ true → k < length rows
    → test (get_or rows k d) ≡ true
passed test rows k d h w = go (test (get_or rows k d)) refl
  where
    go : (b : Bool) → test (get_or rows k d) ≡ b → test (get_or rows k d) ≡ true
    go true e = e
    go false e = let f = list_all_at test rows k d w e in let g : true ≡ false = sym h ∙ f in absurd (cc)

-- no name of a type has a space
no_space : (named : TypeName) → HasNo 32 (type_name named)
no_space named =
    let spare : Row = (record { ref_ptr = (0, 0); now = type_name named }, named) in
    let (w, e) = each_listed the_type tt type_name table spare refl named in
    tested 32 (type_name named)
    (subst (λ name. all_differ 32 name ≡ true) (sym e) (passed has_no_space table (tag_of the_type named) spare refl w))

-- what stands before the first c
pub split_once : (c : ℕ) (a b x y : List ℕ) → HasNo c a → HasNo c b → a ++ (c ∷ x) ≡ b ++ (c ∷ y) → (a ≡ b) × (x ≡ y)
split_once c [] [] x y h k e = (refl, ap (drop 1) e)
split_once c [] (b ∷ bs) x y h k e = absurd (k.0 (sym (ap (λ l. get_or l 0 c) e)))
split_once c (a ∷ rest) [] x y h k e = absurd (h.0 (ap (λ l. get_or l 0 c) e))
split_once c (a ∷ rest) (b ∷ bs) x y h k e =
    let r = split_once c rest bs x y h.1 k.1 (ap (drop 1) e) in
    (ap (λ z. z ∷ rest) (ap (λ l. get_or l 0 c) e) ∙ ap (λ z. b ∷ z) r.0, r.1)

pub has_it : (c : ℕ) (a x : List ℕ) → HasNo c (a ++ (c ∷ x)) → ⊥
has_it c [] x h = h.0 refl
has_it c (b ∷ bs) x h = has_it c bs x h.1

-- without a space nothing is asked
pub no_space_asks_nothing : (line : List ℕ) → IsFirstByte (is_byte 32) line None → (named : TypeName) (input : List ℕ)
    → Asks line named input → ⊥
no_space_asks_nothing line f named input (digits, e, s) =
    has_it 32 (type_name named) digits (subst (HasNo 32) (take_all (length line) line (omega arith) ∙ e) (first_none 32 line f))

-- at the first space the line is split
pub split_line : (line : List ℕ) (n : ℕ) → IsFirstByte (is_byte 32) line (Some n) → line ≡ take n line ++ (32 ∷ drop (n + 1) line)
split_line line n f =
    let l = f.0.high in
    let e : suc n ≡ n + 1 = omega arith in
    split_at line n 0 (omega arith) ∙ ap (λ b. take n line ++ (b ∷ drop (suc n) line)) (eqb-true (slice_index line n) 32 f.1)
    ∙ ap (λ k. take n line ++ (32 ∷ drop k line)) e

-- what is asked is split there
asked_parts : (line : List ℕ) (n : ℕ) → IsFirstByte (is_byte 32) line (Some n)
    → (named : TypeName) (input : List ℕ) (h : Asks line named input) → (type_name named ≡ take n line) × (h.0 ≡ drop (n + 1) line)
asked_parts line n f named input (digits, e, s) =
    split_once 32 (type_name named) (take n line) digits (drop (n + 1) line) (no_space named) (first_some 32 line n f)
    (sym e ∙ split_line line n f)

pub other_name_asks_nothing : (line : List ℕ) (n : ℕ) → IsFirstByte (is_byte 32) line (Some n)
    → ((named : TypeName) → type_name named ≡ take n line → ⊥) → (named : TypeName) (input : List ℕ) → Asks line named input → ⊥
other_name_asks_nothing line n f other named input h = other named (asked_parts line n f named input h).0

-- the line from there to its end
pub to_its_end : (line : List ℕ) (k : ℕ) → take (length line - k) (drop k line) ≡ drop k line
to_its_end line k = take_all (length line - k) (drop k line) (omega (arith, length-drop k line))

pub other_digits_ask_nothing : (line : List ℕ) (n : ℕ) → IsFirstByte (is_byte 32) line (Some n)
    → ((input : List ℕ) → StandsFor (take (length line - (n + 1)) (drop (n + 1) line)) input → ⊥) → (named : TypeName) (input : List ℕ)
    → Asks line named input → ⊥
other_digits_ask_nothing line n f other named input h =
    other input (subst (λ d. StandsFor d input) ((asked_parts line n f named input h).1 ∙ sym (to_its_end line (n + 1))) h.2)
