-- Data that is as long as its format announces.
use Rattle.std.proofs.Common.{◌≡◌, ℕ, zero, suc, ◌+◌, ◌<◌, ◌≤◌, ◌^◌, inl, inr, List, [], ◌∷◌, ◌++◌, length, sym, ap, ◌∙◌, arith}
use Rattle.std.proofs.Common.{append_assoc, append-nil}
use Rattle.std.proofs.lemmas.List.{length-append}
use Rattle.std.specs.Int.{bytes_high_first}
use Rattle.amqp_model.specs.Term.{Primitive, Container, list, map, array, Term, leaf, container, described, kept, barred, Descriptor, count}
use Rattle.amqp_model.specs.Constructors.{Format, fixed, variable, compound, unknown, format}
use Rattle.amqp_model.specs.Spelling.{PrimitiveData, IsSize, ContainerData, IsDataOf, AreItemsOf, AreElementsOf}
use Rattle.amqp_model.proofs.Bytes.{length-bytes, front, field}
use Rattle.amqp_lengths.specs.Announced.{SizeThen, content_size, IsAnnounced, WantsSized, Wants}

content_size_own : (kind : Container) (w size : ℕ) → w ≤ size → content_size kind w size ≡ size
content_size_own list w zero h = omega arith
content_size_own list w (suc n) h = omega arith
content_size_own map w size h = omega arith
content_size_own array w size h = omega arith

content_size_is : (kind : Container) (w n size : ℕ) (content : List ℕ) → IsSize kind w n content size
    → w + length content ≡ content_size kind w size
content_size_is kind w n size content (inl e) = sym e ∙ sym (content_size_own kind w size (omega arith))
content_size_is kind w n size content (inr (is, _, empty, nothing)) =
    let whole : w + length content ≡ w = omega (arith, ap length empty) in
    whole ∙ ap (λ z. content_size list w z) (sym nothing) ∙ ap (λ k. content_size k w size) (sym is)

-- the data of primitives, containers and terms
pub primitive_announced : (F : Format) (p : Primitive) (b : List ℕ) → PrimitiveData F p b → IsAnnounced F b
primitive_announced (fixed w value) p b h = h.0
primitive_announced (variable w value) p b (content, fits, s, v, ok) = (length content, content, fits, s, omega arith)
primitive_announced (compound kind w) p b h = absurd h
primitive_announced unknown p b h = absurd h

pub container_announced : (F : Format) (kind : Container) (n : ℕ) (C : List ℕ → Type 0) (b : List ℕ)
    → ContainerData F kind n C b → IsAnnounced F b
container_announced (compound kind' w) kind n C b (is, size, content, h, c, fits, room, s) =
    let behind = bytes_high_first w n ++ content in
    let long : length behind ≡ w + length content =
    length-append (bytes_high_first w n) content ∙ ap (λ k. k + length content) (length-bytes w n) in
    (size, behind, fits, s, long ∙ content_size_is kind w n size content h ∙ ap (λ k. content_size k w size) (sym is))
container_announced (fixed w value) kind n C b h = absurd h
container_announced (variable w value) kind n C b h = absurd h
container_announced unknown kind n C b h = absurd h

pub announced_data : (t : Term) (ds : List Descriptor) (c : ℕ) (b : List ℕ) → IsDataOf t ds c b → IsAnnounced (format c) b
announced_data (leaf p) [] c b h = primitive_announced (format c) p b h
announced_data (container list ts) [] c b h = container_announced (format c) list (count ts) (AreItemsOf ts) b h
announced_data (container map ts) [] c b h = container_announced (format c) map (count ts) (AreItemsOf ts) b h.1
announced_data (container array ts) [] c b h = container_announced (format c) array (count ts) (AreElementsOf ts) b h
announced_data (described d t) (e ∷ ds) c b h = announced_data t ds c b h.1
announced_data (leaf p) (e ∷ ds) c b h = absurd h
announced_data (container list ts) (e ∷ ds) c b h = absurd h
announced_data (container map ts) (e ∷ ds) c b h = absurd h
announced_data (container array ts) (e ∷ ds) c b h = absurd h
announced_data (described d t) [] c b h = absurd h
announced_data (kept k) ds c b h = absurd h
announced_data (barred r) ds c b h = absurd h

-- two sizes in front of one list
pub size_same : (w size size' : ℕ) (behind behind' b b' x y : List ℕ) → size < 256 ^ w → size' < 256 ^ w
    → b ≡ bytes_high_first w size ++ behind → b' ≡ bytes_high_first w size' ++ behind' → b ++ x ≡ b' ++ y
    → (size ≡ size') × (behind ++ x ≡ behind' ++ y)
size_same w size size' behind behind' b b' x y fits fits' s s' e =
    field w size size' (behind ++ x) (behind' ++ y) fits fits'
    (sym (append_assoc (bytes_high_first w size) behind x) ∙ ap (λ l. l ++ x) (sym s) ∙ e ∙ ap (λ l. l ++ y) s'
    ∙ append_assoc (bytes_high_first w size') behind' y)

sized_once : (w : ℕ) (announced : ℕ → ℕ) (b b' x y : List ℕ) → SizeThen w (λ size behind. length behind ≡ announced size) b
    → SizeThen w (λ size behind. length behind ≡ announced size) b' → b ++ x ≡ b' ++ y → b ≡ b'
sized_once w announced b b' x y (size, behind, fits, s, l) (size', behind', fits', s', l') e =
    let (same, rest) = size_same w size size' behind behind' b b' x y fits fits' s s' e in
    let one : behind ≡ behind' = front behind behind' x y (l ∙ ap announced same ∙ sym l') rest in
    s ∙ ap (λ n. bytes_high_first w n ++ behind) same ∙ ap (λ r. bytes_high_first w size' ++ r) one ∙ sym s'

-- one input begins with announced data in one way
pub announced_once : (F : Format) (b b' x y : List ℕ) → IsAnnounced F b → IsAnnounced F b' → b ++ x ≡ b' ++ y → b ≡ b'
announced_once (fixed w value) b b' x y h h' e = front b b' x y (h ∙ sym h') e
announced_once (variable w value) b b' x y h h' e = sized_once w (λ size. size) b b' x y h h' e
announced_once (compound kind w) b b' x y h h' e = sized_once w (content_size kind w) b b' x y h h' e
announced_once unknown b b' x y h h' e = absurd h

sized_wants : (w : ℕ) (announced : ℕ → ℕ) (b y input : List ℕ) → SizeThen w (λ size behind. length behind ≡ announced size) b
    → input ≡ b ++ y → WantsSized w announced input → ⊥
sized_wants w announced b y input (size, behind, fits, s, l) is (inl few) =
    let long = ap length s ∙ length-append (bytes_high_first w size) behind in
    omega (arith, ap length is, length-append b y, long, length-bytes w size)
sized_wants w announced b y input (size, behind, fits, s, l) is (inr (size', behind', fits', s', few)) =
    let (same, rest) = size_same w size size' behind behind' b input y [] fits fits' s s' (sym is ∙ sym (append-nil input)) in
    omega (arith, ap announced same, ap length rest, length-append behind y, length-append behind' [])

-- where it begins with announced data, they are all there
pub announced_wants : (F : Format) (b y input : List ℕ) → IsAnnounced F b → input ≡ b ++ y → Wants F input → ⊥
announced_wants (fixed w value) b y input h is few = omega (arith, ap length is, length-append b y)
announced_wants (variable w value) b y input h is few = sized_wants w (λ size. size) b y input h is few
announced_wants (compound kind w) b y input h is few = sized_wants w (content_size kind w) b y input h is few
announced_wants unknown b y input h is few = absurd h
