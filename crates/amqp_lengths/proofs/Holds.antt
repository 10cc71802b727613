-- The size, the count and the content of containers, found and refused.
use Rattle.std.proofs.Common.{◌≡◌, ℕ, ◌+◌, ◌^◌, ◌<◌, inl, inr, List, [], ◌++◌, length, take, refl, sym, ap, ◌∙◌, subst, arith, append-nil}
use Rattle.std.proofs.lemmas.List.{length-append}
use Rattle.std.specs.Int.{bytes_high_first}
use Rattle.amqp_wire.specs.declared.error.Error.{Error}
use Rattle.amqp_model.specs.Term.{Container, list}
use Rattle.amqp_model.specs.Spelling.{IsSize}
use Rattle.amqp_model.proofs.Bytes.{length-bytes}
use Rattle.amqp_lengths.specs.Fronts.{IsFront, Refuses}
use Rattle.amqp_lengths.specs.Pieces.{IsSized, HasSize}
use Rattle.amqp_wire.specs.Containers.{container_of}
use Rattle.amqp_lengths.specs.Contents.{HasContent}
use Rattle.amqp_wire.specs.declared.container.Container as code
use Rattle.amqp_wire.specs.declared.container.Container.TheVariants.{List as a_list, Map as a_map, Array as an_array}
use Rattle.amqp_lengths.proofs.Fronts.{refuses_begun, refuses_never}
use Rattle.amqp_lengths.proofs.Announced.{size_same}

content_begins : (kind : Container) (w n size : ℕ) (items b : List ℕ) → IsSize kind w n items size → size < 256 ^ w
    → b ≡ bytes_high_first w size ++ (bytes_high_first w n ++ items)
    → (a r : List ℕ) × (b ≡ a ++ r) × HasSize w a
content_begins kind w n size items b (inl s) fits e =
    let content = bytes_high_first w n ++ items in
    let l : length content ≡ size = length-append (bytes_high_first w n) items ∙ ap (λ k. k + length items) (length-bytes w n) ∙ sym s in
    (b, [], sym (append-nil b), (content, (subst (λ k. k < 256 ^ w) (sym l) fits, e ∙ ap (λ k. bytes_high_first w k ++ content) (sym l))))
content_begins kind w n size items b (inr (_, _, _, nothing)) fits e =
    let size_ = bytes_high_first w size in (
      size_,
      bytes_high_first w n ++ items,
      e,
      ([], (subst (λ k. k < 256 ^ w) nothing fits, sym (append-nil size_) ∙ ap (λ k. bytes_high_first w k ++ []) nothing)),
    )

pub content_short : (kind : Container) (w : ℕ) (input : List ℕ) (e : Error) → Refuses (HasSize w) input e
    → Refuses (HasContent kind w) input e
content_short kind w input e h =
    refuses_begun (HasContent kind w) (HasSize w) input e
    (λ b (n, items, (k, size, content, is, same, fits, room, s)). content_begins kind w n size content b is fits s) h

-- a size below the width of the count
pub content_small_none : (kind : Container) (w n : ℕ) (content input : List ℕ) (e : Error) → IsFront (IsSized w content) input n
    → length content < w → ((kind ≡ list) × (length content ≡ 0) → ⊥) → Refuses (HasContent kind w) input e
content_small_none kind w n content input e h small some =
    refuses_never (HasContent kind w) input n e (λ b x y (m, items, (_, size, content', is, same, fits, room, s)) r.
    let found = h.spelled in
    let (one, _) =
    size_same w (length content) size content (bytes_high_first w m ++ content') (take n input) b x y found.0 fits found.1 s r in
    none_small size m content' one is)
  where
    none_small : (size m : ℕ) (items : List ℕ) → length content ≡ size → IsSize kind w m items size → ⊥
    none_small size m items one (inl e) = omega arith
    none_small size m items one (inr (l, _, _, nothing)) = some (l, one ∙ nothing)

pub is_a_list : (held : code.Container) → container_of held ≡ list → held ≡ a_list
is_a_list a_list h = refl
is_a_list a_map h = cc
is_a_list an_array h = cc
