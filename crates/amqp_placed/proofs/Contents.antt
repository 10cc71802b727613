-- The content of a container behind its size and its count, as far as it is there.
use Rattle.std.proofs.Common.{◌≡◌, ℕ, zero, suc, ◌+◌, ◌<◌, ◌≤◌, ◌^◌, ◌⊎◌, inl, inr, true, List, [], ◌∷◌, ◌++◌, length}
use Rattle.std.proofs.Common.{take, drop, refl, sym, ap, ◌∙◌, arith, append_assoc}
use Rattle.std.proofs.lemmas.List.{length-append, length-take, length-drop, take-append-drop, take_all}
use Rattle.std.specs.Int.{bytes_high_first}
use Rattle.amqp_model.specs.Term.{Container, list, map, array}
use Rattle.amqp_model.specs.Spelling.{IsSize}
use Rattle.amqp_model.proofs.Bytes.{length-bytes}
use Rattle.amqp_lengths.specs.Announced.{content_size}
use Rattle.amqp_lengths.specs.Stands.{Around, whole_one, cut_one, Contains, all_there, cut_short}
use Rattle.amqp_decoder.specs.Containers.{is_list, Counts, IsPossible}

pub fewer : (m n : ℕ) → (m ≤ n) ⊎ (n < m)
fewer zero n = inl (omega arith)
fewer (suc m) zero = inr (omega arith)
fewer (suc m) (suc n) = elim (fewer m n) [ inl h ↦ inl (omega (arith, h)) | inr h ↦ inr (omega (arith, h)) ]

pub listed : (kind : Container) → is_list kind ≡ true → kind ≡ list
listed list is = refl
listed map is = absurd (cc)
listed array is = absurd (cc)

no_bytes : (l : List ℕ) → length l ≡ 0 → l ≡ []
no_bytes [] none = refl
no_bytes (x ∷ l) none = absurd (omega (arith, none))

own_size : (kind : Container) (w size : ℕ) → 0 < size → content_size kind w size ≡ size
own_size list w zero some = absurd (omega (arith, some))
own_size list w (suc n) some = refl
own_size map w size some = refl
own_size array w size some = refl

-- A size that can be right announces a count.
pub least_content : (kind : Container) (w size : ℕ) → IsPossible (is_list kind) w size → w ≤ content_size kind w size
least_content list w zero h = omega arith
least_content list w (suc n) (inl h) = omega (arith, h)
least_content list w (suc n) (inr (is, none)) = absurd (omega (arith, none))
least_content map w size (inl h) = omega (arith, h)
least_content map w size (inr (is, none)) = absurd (cc)
least_content array w size (inl h) = omega (arith, h)
least_content array w size (inr (is, none)) = absurd (cc)

pub own_content : (kind : Container) (w size : ℕ) → (IsPossible (is_list kind) w size → ⊥) → content_size kind w size ≡ size
own_content list w zero never = absurd (never (inr (refl, refl)))
own_content list w (suc n) never = refl
own_content map w size never = refl
own_content array w size never = refl

-- the bytes behind the size
pub record Content (kind : Container) (w n content : ℕ) (data_ y : List ℕ) : Type 0 where
  pub inner : Around
  pub behind : ℕ
  pub contains : Contains kind w n (take content y) data_ inner behind
  pub long : length y ≡ length (take content y) + behind
  pub told : ((inner ≡ whole_one) × (content ≤ length y)) ⊎ ((inner ≡ cut_one) × (length y < content))

module _ (kind : Container) (w n content size : ℕ) (data_ y : List ℕ) (fits : size < 256 ^ w) (few : n < 256 ^ w)
    (counts : Counts (is_list kind) w n content size) (is : data_ ≡ bytes_high_first w size ++ (bytes_high_first w n ++ y)) where
  abbrev items : List ℕ
  items = take content y

  is_size : length items ≡ content → IsSize kind w n items size
  is_size long = go counts
    where
      go : Counts (is_list kind) w n content size → IsSize kind w n items size
      go (inl h) = inl (omega (arith, h, long))
      go (inr (l, none, empty, z)) = inr (listed kind l, none, no_bytes items (omega (arith, long, empty)), z)

  whole_content : content ≤ length y → Content kind w n content data_ y
  whole_content all =
      let a = bytes_high_first w size in
      let b = bytes_high_first w n in
      let long : length items ≡ content = omega (arith, length-take content y, all) in
      let parts : y ≡ items ++ drop content y = sym (take-append-drop content y) in
      record {
        inner = whole_one;
        behind = length (drop content y);
        contains = all_there (drop content y) (record {
          front = a ++ (b ++ items);
          is = is ∙ ap (λ l. a ++ (b ++ l)) parts ∙ ap (λ l. a ++ l) (sym (append_assoc b items (drop content y)))
              ∙ sym (append_assoc a (b ++ items) (drop content y));
          spelled = (refl, size, items, is_size long, refl, fits, few, refl);
        });
        long = omega (arith, length-take content y, length-drop content y, all);
        told = inl (refl, all);
      }

  -- one that has no content isn't cut
  sized : Counts (is_list kind) w n content size → 0 < content → size ≡ w + content
  sized (inl h) some = h
  sized (inr (l, none, empty, z)) some = absurd (omega (arith, empty, some))

  cut_content : length y < content → Content kind w n content data_ y
  cut_content less =
      let b = bytes_high_first w n in
      let all : size ≡ w + content = sized counts (omega (arith, less)) in
      let announced : content_size kind w size ≡ size = own_size kind w size (omega (arith, all, less)) in
      let same : y ≡ items = sym (take_all content y (omega (arith, less))) in
      record {
        inner = cut_one;
        behind = 0;
        contains = cut_short (
          size,
          b ++ y,
          fits,
          is,
          (omega (arith, length-append b y, length-bytes w n, less, all, announced), (n, y, few, refl, (refl, same))),
        );
        long = omega (arith, ap length same);
        told = inr (refl, less);
      }

  pub content_there : Content kind w n content data_ y
  content_there = elim (fewer content (length y)) [ inl all ↦ whole_content all | inr less ↦ cut_content less ]
