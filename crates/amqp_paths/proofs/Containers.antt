-- The content of containers, found and missed.
use Rattle.std.specs.Prelude.{Bool, not}
use Rattle.std.proofs.Common.{◌≡◌, ℕ, true, false, zero, suc, ◌+◌, ◌-◌, ◌^◌, ◌<◌, ◌≤◌, inl, inr, List, [], ◌++◌, length, take, drop, refl, sym, ap}
use Rattle.std.proofs.Common.{◌∙◌, subst, arith, append_assoc, append-nil}
use Rattle.std.proofs.lemmas.List.{take-append-drop, length-append, length-drop, length-take-le, take_all}
use Rattle.std.specs.Int.{bytes_high_first}
use Rattle.amqp_model.specs.Term.{Container, list, map, array}
use Rattle.amqp_model.specs.Spelling.{IsSize}
use Rattle.amqp_model.proofs.Bytes.{length-bytes, field}
use Rattle.amqp_lengths.specs.Fronts.{IsFront}
use Rattle.amqp_lengths.specs.Pieces.{IsNumber}
use Rattle.amqp_lengths.specs.Announced.{content_size}
use Rattle.amqp_lengths.specs.Stands.{Around, whole_one, cut_one, Contains, all_there, cut_short}
use Rattle.amqp_paths.specs.declared.contents.Content.{Content}
use Rattle.amqp_model.specs.Constructors.{compound, format}
use Rattle.amqp_lengths.specs.Contents.{IsContent}
use Rattle.amqp_lengths.specs.Lengths.{IsTerm, Row, HasPairs, IsContainer}
use Rattle.amqp_lengths.specs.Stands.{AnyData}
use Rattle.amqp_lengths.proofs.Containers.{container_found, list_data, map_data}
use Rattle.amqp_lengths.proofs.Rows.{no_bytes}
use Rattle.amqp_paths.specs.Steps.{HasContent, IsRow}

-- a number, and what follows it
pub number_then : (w n : ℕ) (b : List ℕ) → IsFront (IsNumber w n) b w → b ≡ bytes_high_first w n ++ drop w b
number_then w n b h = sym (take-append-drop w b) ∙ ap (λ x. x ++ drop w b) h.spelled.1

numbers_then : (w size n : ℕ) (b : List ℕ) → IsFront (IsNumber w size) b w → IsFront (IsNumber w n) (drop w b) w
    → b ≡ bytes_high_first w size ++ (bytes_high_first w n ++ drop w (drop w b))
numbers_then w size n b h k = number_then w size b h ∙ ap (λ x. bytes_high_first w size ++ x) (number_then w n (drop w b) k)

head_length : (w size n : ℕ) → length (bytes_high_first w size ++ bytes_high_first w n) ≡ w + w
head_length w size n =
    omega (arith, length-append (bytes_high_first w size) (bytes_high_first w n), length-bytes w size, length-bytes w n)

content_size_own : (kind : Container) (w size : ℕ) → w ≤ size → content_size kind w size ≡ size
content_size_own list w zero h = omega arith
content_size_own list w (suc n) h = omega arith
content_size_own map w size h = omega arith
content_size_own array w size h = omega arith

content_size_small : (kind : Container) (w size : ℕ) → size < w → content_size kind w size ≤ w
content_size_small list w zero h = omega arith
content_size_small list w (suc n) h = omega arith
content_size_small map w size h = omega arith
content_size_small array w size h = omega arith

-- what a size and a count announce, all there
content_whole : (kind : Container) (w size n : ℕ) (items rest b : List ℕ) → size < 256 ^ w → n < 256 ^ w → IsSize kind w n items size
    → b ≡ bytes_high_first w size ++ (bytes_high_first w n ++ (items ++ rest))
    → HasContent kind w b (record { count = n; start = w + w; end = w + w + length items; whole = true })
content_whole kind w size n items rest b fits room is s =
    let a = bytes_high_first w size in
    let c = bytes_high_first w n in
    let split : b ≡ (a ++ c) ++ (items ++ rest) = s ∙ sym (append_assoc a c (items ++ rest)) in
    record {
      items = items;
      around = whole_one;
      behind = length rest;
      part = record { front = a ++ c; rest = rest; is = split; before_is = head_length w size n; behind_is = refl };
      ends = omega (arith, ap length split, length-append (a ++ c) (items ++ rest), length-append items rest, head_length w size n);
      contains = all_there rest (record {
        front = a ++ (c ++ items);
        is = s ∙ ap (λ x. a ++ x) (sym (append_assoc c items rest)) ∙ sym (append_assoc a (c ++ items) rest);
        spelled = (refl, size, items, is, refl, fits, room, refl);
      });
      whole = λ e. refl;
    }

-- the same, cut
content_cut : (kind : Container) (w size n : ℕ) (items b : List ℕ) → size < 256 ^ w → n < 256 ^ w → w ≤ size → w + length items < size
    → b ≡ bytes_high_first w size ++ (bytes_high_first w n ++ items)
    → HasContent kind w b (record { count = n; start = w + w; end = length b; whole = false })
content_cut kind w size n items b fits room much less s =
    let a = bytes_high_first w size in
    let c = bytes_high_first w n in
    let few : length (c ++ items) < content_size kind w size =
    omega (arith, less, length-append c items, length-bytes w n, content_size_own kind w size much) in
    record {
      items = items;
      around = cut_one;
      behind = 0;
      part = record {
        front = a ++ c;
        rest = [];
        is = s ∙ sym (append_assoc a c items) ∙ ap (λ x. (a ++ c) ++ x) (sym (append-nil items));
        before_is = head_length w size n;
        behind_is = refl;
      };
      ends = omega arith;
      contains = cut_short (size, c ++ items, fits, s, (few, (n, items, room, refl, (refl, refl))));
      whole = λ e. absurd (cc);
    }

numbers_length : (w size n : ℕ) (b : List ℕ) → IsFront (IsNumber w size) b w → IsFront (IsNumber w n) (drop w b) w
    → w + w + length (drop w (drop w b)) ≡ length b
numbers_length w size n b h k = omega (arith, h.within, k.within, length-drop w (drop w b), length-drop w b)

pub content_found : (kind : Container) (w size n : ℕ) (b : List ℕ) → IsFront (IsNumber w size) b w → IsFront (IsNumber w n) (drop w b) w
    → w ≤ size → w + size ≤ length b → HasContent kind w b (record { count = n; start = w + w; end = w + size; whole = true })
content_found kind w size n b h k much all =
    let after = drop w (drop w b) in
    let items = take (size - w) after in
    let l : length items ≡ size - w = length-take-le (size - w) after (omega (arith, numbers_length w size n b h k, all)) in
    let e : w + w + length items ≡ w + size = omega (arith, l, much) in
    subst (λ x. HasContent kind w b (record { count = n; start = w + w; end = x; whole = true })) e
    (content_whole kind w size n items (drop (size - w) after) b h.spelled.0 k.spelled.0 (inl (omega (arith, l, much)))
    (numbers_then w size n b h k ∙ ap (λ x. bytes_high_first w size ++ (bytes_high_first w n ++ x)) (sym (take-append-drop (size - w) after))))

pub content_ends : (kind : Container) (w size n : ℕ) (b : List ℕ) → IsFront (IsNumber w size) b w → IsFront (IsNumber w n) (drop w b) w
    → w ≤ size → length b < w + size → HasContent kind w b (record { count = n; start = w + w; end = length b; whole = false })
content_ends kind w size n b h k much cut =
    content_cut kind w size n (drop w (drop w b)) b h.spelled.0 k.spelled.0 much (omega (arith, numbers_length w size n b h k, cut))
    (numbers_then w size n b h k)

-- a list of the size 0
pub content_none : (kind : Container) (w size n : ℕ) (b : List ℕ) → IsFront (IsNumber w size) b w → IsFront (IsNumber w n) (drop w b) w
    → kind ≡ list → size ≡ 0 → n ≡ 0 → HasContent kind w b (record { count = n; start = w + w; end = w + w; whole = true })
content_none kind w size n b h k is nought none =
    let e : w + w + length {A = ℕ} [] ≡ w + w = omega arith in
    subst (λ x. HasContent kind w b (record { count = n; start = w + w; end = x; whole = true })) e
    (content_whole kind w size n [] (drop w (drop w b)) b h.spelled.0 k.spelled.0 (inr (is, none, refl, nought)) (numbers_then w size n b h k))

-- where the content begins and ends
pub content_place : (kind : Container) (w n : ℕ) (items b : List ℕ) (around : Around) (behind : ℕ) → Contains kind w n items b around behind
    → w + w + length items + behind ≡ length b
content_place kind w n items b around behind (all_there after h) =
    let (k, size, content, is, same, fits, room, s) = h.spelled in
    omega (
      arith,
      ap length h.is,
      length-append h.front after,
      ap length s,
      length-append (bytes_high_first w size) (bytes_high_first w n ++ content),
      length-append (bytes_high_first w n) content,
      length-bytes w size,
      length-bytes w n,
      ap length same,
    )
content_place kind w n items b around behind (cut_short (size, inner, fits, s, (less, (count, after, room, s', (same, all))))) =
    omega (
      arith,
      ap length s,
      ap length s',
      length-append (bytes_high_first w size) inner,
      length-append (bytes_high_first w count) after,
      length-bytes w size,
      length-bytes w count,
      ap length all,
    )

-- a size that doesn't hold its count
pub no_content : (kind : Container) (w size n m : ℕ) (items b : List ℕ) (around : Around) (behind : ℕ) → IsFront (IsNumber w size) b w
    → IsFront (IsNumber w n) (drop w b) w → size < w → ((kind ≡ list) × (size ≡ 0) × (n ≡ 0) → ⊥) → Contains kind w m items b around behind → ⊥
no_content kind w size n m items b around behind h k small other (all_there after g) = by_size g.spelled
  where
    by_size : (kind ≡ kind) × (size' : ℕ) × (content : List ℕ) × IsSize kind w m content size' × (content ≡ items) × (size' < 256 ^ w) × (m < 256 ^ w)
        × (g.front ≡ bytes_high_first w size' ++ (bytes_high_first w m ++ content)) → ⊥
    by_size (_, size', content, is, same, fits, room, s) =
        let all : bytes_high_first w size ++ (bytes_high_first w n ++ drop w (drop w b)) ≡ bytes_high_first w size' ++ ((bytes_high_first w m ++ content) ++ after) =
        sym (numbers_then w size n b h k) ∙ g.is ∙ ap (λ x. x ++ after) s ∙ append_assoc (bytes_high_first w size') (bytes_high_first w m ++ content) after in
        let (one, more) = field w size size' _ _ h.spelled.0 fits all in
        let (two, _) = field w n m _ _ k.spelled.0 room (more ∙ append_assoc (bytes_high_first w m) content after) in
        by_kind size' content one two is
      where
        by_kind : (size' : ℕ) (content : List ℕ) → size ≡ size' → n ≡ m → IsSize kind w m content size' → ⊥
        by_kind size' content one two (inl e) = omega arith
        by_kind size' content one two (inr (l, none, _, nought)) = other (l, one ∙ nought, two ∙ none)
no_content kind w size n m items b around behind h k small other (cut_short (size', inner, fits, s, (less, (count, after, room, s', _)))) =
    let (one, _) = field w size size' _ _ h.spelled.0 fits (sym (number_then w size b h) ∙ s) in
    omega (
      arith,
      content_size_small kind w size' (omega (arith, one, small)),
      less,
      ap length s',
      length-append (bytes_high_first w count) after,
      length-bytes w count,
    )

whole_content : (kind : Container) (w n behind : ℕ) (items b : List ℕ) (around : Around) → around ≡ whole_one → behind ≡ 0
    → Contains kind w n items b around behind → IsContent kind w n items b
whole_content kind w n behind items b around is none (all_there after h) =
    let all : h.front ≡ b = sym (h.is ∙ ap (λ x. h.front ++ x) (no_bytes after none) ∙ append-nil h.front) in
    subst (IsContent kind w n items) all h.spelled
whole_content kind w n behind items b around is none (cut_short h) = absurd (cc)

-- a list or map that is all there, up to the end of the bytes
pub row_there : (kind : Container) (w : ℕ) (b : List ℕ) (content : Content) (h : HasContent kind w b content) → content.whole ≡ true
    → length b ≤ content.end → HasPairs kind content.count → Row (IsTerm 128) content.count h.items → (kind ≡ array → ⊥) → IsRow kind w b
row_there kind w b content h whole all pairs row other = (
  content.count,
  h.items,
  whole_content kind w content.count h.behind h.items b h.around (h.whole whole) (omega (arith, h.ends, all)) h.contains,
  pairs,
  row,
  other,
)

pub row_data : (c w : ℕ) (kind : Container) (b : List ℕ) → format c ≡ compound kind w → IsRow kind w b → AnyData c b
row_data c w kind b is (n, items, h, pairs, row, other) =
    let all : take (length b) b ≡ b = take_all (length b) b (omega arith) in
    let f = container_found kind w 129 128 n (length b) items b (record { within = omega arith; spelled = subst (IsContent kind w n items) (sym all) h })
    refl pairs row in
    by_kind kind is other (subst (IsContainer kind w 129) all f.spelled)
  where
    by_kind : (kind : Container) → format c ≡ compound kind w → (kind ≡ array → ⊥) → IsContainer kind w 129 b → AnyData c b
    by_kind list is other h = let (t, d, deep) = list_data c w 129 b is h in (t, d)
    by_kind map is other h = let (t, d, deep) = map_data c w 129 b is h in (t, d)
    by_kind array is other h = absurd (other refl)

pub so : (t : Bool) → not t ≡ false → t ≡ true
so true e = refl
so false e = absurd (cc)
