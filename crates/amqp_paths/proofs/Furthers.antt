-- Steps that lead further in.
use Rattle.std.proofs.Common.{◌≡◌, ℕ, suc, ◌+◌, ◌-◌, ◌<◌, ◌≤◌, List, [], ◌∷◌, ◌++◌, length, take, drop, get_or, Option, Some, None, refl, sym, ap, ap₂, ◌∙◌, subst, arith}
use Rattle.std.specs.Option.{MatchOption}
use Rattle.std.proofs.lemmas.List.{take-append-drop, length-append, length-drop}
use Rattle.amqp_model.specs.Term.{Container, array, Descriptor}
use Rattle.amqp_model.specs.Constructors.{compound, format}
use Rattle.amqp_model.specs.Spelling.{IsKnown}
use Rattle.amqp_lengths.proofs.Fronts.{tail_all}
use Rattle.amqp_lengths.specs.Fronts.{IsFront, Behind}
use Rattle.amqp_lengths.specs.Pieces.{NamesAny}
use Rattle.amqp_lengths.specs.Lengths.{HasMarks, Constructs, IsTerm, Row}
use Rattle.amqp_lengths.specs.Stands as stands
use Rattle.amqp_lengths.specs.Stands.{a_value, an_item, an_element, a_descriptor, an_array, a_code, an_end, Around, unbounded, IsOwn, IsUnder}
use Rattle.amqp_lengths.specs.Stands.{AnyTerm, AnyData, Contains, level_of, Step, to_descriptor, to_described, to_item, to_end, to_array, to_code}
use Rattle.amqp_lengths.specs.Stands.{to_its_descriptor, to_element, to_array_end, to_its_described}
use Rattle.amqp_lengths.proofs.DeeperFaults.{row_part, behind_part}
use Rattle.amqp_paths.specs.declared.contents.Content.{Content}
use Rattle.amqp_paths.specs.declared.piece.ContainerKind.{ContainerKind}
use Rattle.amqp_paths.specs.declared.piece.ContainerKind.TheVariants.{List as a_list, Map as a_map, Array}
use Rattle.amqp_paths.specs.declared.piece.Piece.{Piece}
use Rattle.amqp_paths.specs.declared.piece.Piece.TheVariants.{Value, Descriptor as a_mark, Item, ArrayContent, ElementConstructor, Element, End}
use Rattle.amqp_paths.specs.declared.steps.Further.{Further}
use Rattle.amqp_paths.specs.Pieces.{container_of, IsPiece, rank}
use Rattle.amqp_paths.specs.Steps.{Among, IsMark, NoneWithin, HasContent, IsItem, IsPart, IsElement, NoContentWithin, Reaches, StepsTo, StepsBeyond}
use Rattle.amqp_paths.proofs.Containers.{content_place}
use Rattle.amqp_paths.proofs.Among.{among_length, among_tail, among_inner, among_after, front_behind}

-- where one step leads
abbrev Goes : (stands.Piece → List ℕ → Type 0) → Piece → List ℕ → ℕ → Type 0
Goes Begins p y behind = (P : stands.Piece) (d : ℕ) (z : List ℕ) → Begins P z → (Q : stands.Piece) × (k : ℕ) × (around : Around) × IsPiece p Q
    × Step P d z Q k y around behind

terms_behind : (n len : ℕ) (items : List ℕ) → IsFront (Row (IsTerm 128) n) items len → Behind (Row AnyTerm n) items (drop len items)
terms_behind n len items f =
    behind_part (Row (IsTerm 128) n) (Row AnyTerm n) items (drop len items) (row_part (IsTerm 128) AnyTerm (λ b (t, s, deep). (t, s)) n)
    (front_behind (Row (IsTerm 128) n) items len f)

-- into a list or map
item_goes : (c w n behind : ℕ) (kind : ContainerKind) (data_ items : List ℕ) (around : Around) (p : Piece) (start : ℕ)
    → format c ≡ compound (container_of kind) w → (container_of kind ≡ array → ⊥) → Contains (container_of kind) w n items data_ around behind
    → IsItem kind n items p start → Goes (λ P z. IsUnder P z c data_) p (drop start items) behind
item_goes c w n behind kind data_ items around (Item k m i) start is other holds (e, s, less, f) = λ P d z u. (
  an_item (container_of kind) n i,
  suc d,
  around,
  ap₂ (λ x y. an_item (container_of x) y i) (sym e) (sym s),
  to_item P d z data_ items (drop start items) c w n i behind (container_of kind) around u is other holds less (terms_behind i start items f),
)
item_goes c w n behind kind data_ items around (End k m) start is other holds (e, s, f) = λ P d z u. (
  an_end (container_of kind) n,
  suc d,
  around,
  ap₂ (λ x y. an_end (container_of x) y) (sym e) (sym s),
  to_end P d z data_ items (drop start items) c w n behind (container_of kind) around u is other holds (terms_behind n start items f),
)
item_goes c w n behind kind data_ items around _ start is other holds h = absurd h

item_front : (kind : ContainerKind) (n : ℕ) (items : List ℕ) (p : Piece) (start : ℕ) → IsItem kind n items p start → start ≤ length items
item_front kind n items (Item k m i) start (e, s, less, f) = f.within
item_front kind n items (End k m) start (e, s, f) = f.within
item_front kind n items _ start h = absurd h

-- in the data under a code, behind the size and the count
content_steps : (c w : ℕ) (kind : ContainerKind) (data_ : List ℕ) (content : Content) (room : ℕ) (f g : Further)
    (h : HasContent (container_of kind) w data_ content) → content.start ≤ room → f.start ≤ length h.items → f.start ≤ room - content.start
    → f.end ≡ length h.items → Reaches f.piece (drop f.start h.items) ((room - content.start) - f.start)
    → Goes (λ P z. IsUnder P z c data_) f.piece (drop f.start h.items) h.behind → g.piece ≡ f.piece → g.start ≡ content.start + f.start
    → g.end ≡ content.start + f.end → StepsTo (λ P z. IsUnder P z c data_) data_ room g
content_steps c w kind data_ content room f g h near within inner ends reaches goes piece start end =
    let part = among_inner data_ h.items (drop f.start h.items) content.start h.behind f.start 0 h.part (among_tail f.start h.items within) in
    let same : 0 + h.behind ≡ h.behind = omega arith in
    let left : (room - content.start) - f.start ≡ room - g.start = omega (arith, start) in
    record {
      bytes = drop f.start h.items;
      behind = h.behind;
      part = subst (λ s. Among data_ (drop f.start h.items) s h.behind) (sym start)
          (subst (λ b. Among data_ (drop f.start h.items) (content.start + f.start) b) same part);
      ends = omega (arith, end, ends, among_length data_ h.items content.start h.behind h.part);
      near = omega (arith, start, near, inner);
      reaches = subst (λ p. Reaches p (drop f.start h.items) (room - g.start)) (sym piece)
          (subst (Reaches f.piece (drop f.start h.items)) left reaches);
      step = subst (λ p. Goes (λ P z. IsUnder P z c data_) p (drop f.start h.items) h.behind) (sym piece) goes;
    }

pub items_step : (c w : ℕ) (kind : ContainerKind) (data_ items : List ℕ) (content : Content) (room : ℕ) (f g : Further)
    → format c ≡ compound (container_of kind) w → (container_of kind ≡ array → ⊥) → (h : HasContent (container_of kind) w data_ content)
    → content.start ≤ room → items ≡ h.items → IsItem kind content.count items f.piece f.start → f.end ≡ length items
    → f.start ≤ room - content.start → Reaches f.piece (drop f.start items) ((room - content.start) - f.start) → g.piece ≡ f.piece
    → g.start ≡ content.start + f.start → g.end ≡ content.start + f.end → StepsTo (λ P z. IsUnder P z c data_) data_ room g
items_step c w kind data_ items content room f g is other h near same item ends inner reaches piece start end =
    let there = subst (λ l. IsItem kind content.count l f.piece f.start) same item in
    content_steps c w kind data_ content room f g h near (item_front kind content.count h.items f.piece f.start there) inner
    (ends ∙ ap length same) (subst (λ l. Reaches f.piece (drop f.start l) ((room - content.start) - f.start)) same reaches)
    (item_goes c w content.count h.behind kind data_ h.items h.around f.piece f.start is other h.contains there) piece start end

-- into an array
pub array_step : (c w : ℕ) (data_ : List ℕ) (content : Content) (room : ℕ) (g : Further) → format c ≡ compound array w
    → (h : HasContent array w data_ content) → content.start ≤ room → g.piece ≡ ArrayContent content.count → g.start ≡ content.start
    → g.end ≡ content.end → StepsTo (λ P z. IsUnder P z c data_) data_ room g
array_step c w data_ content room g is h near piece start end =
    record {
      bytes = h.items;
      behind = h.behind;
      part = subst (λ s. Among data_ h.items s h.behind) (sym start) h.part;
      ends = omega (arith, end, h.ends);
      near = omega (arith, start, near);
      reaches = subst (λ p. Reaches p h.items (room - g.start)) (sym piece) tt;
      step = subst (λ p. Goes (λ P z. IsUnder P z c data_) p h.items h.behind) (sym piece) (λ P d z u. (
        an_array content.count,
        d,
        h.around,
        refl,
        to_array P d z data_ h.items c w content.count h.behind h.around u is h.contains,
      ));
    }

-- behind one byte more
pub steps_after : (A B : stands.Piece → List ℕ → Type 0) (c : ℕ) (input after : List ℕ) (room inner : ℕ) (f g : Further) → input ≡ c ∷ after
    → room ≡ 1 + inner → ((P : stands.Piece) (z : List ℕ) → B P z → A P z) → StepsTo A after inner f → g.piece ≡ f.piece → g.start ≡ 1 + f.start
    → g.end ≡ 1 + f.end → StepsTo B input room g
steps_after A B c input after room inner f g is more part h piece start end =
    let left : inner - f.start ≡ room - g.start = omega (arith, more, start) in
    record {
      bytes = h.bytes;
      behind = h.behind;
      part = subst (λ l. Among l h.bytes g.start h.behind) (sym is)
          (subst (λ s. Among (c ∷ after) h.bytes s h.behind) (sym start) (among_after c after h.bytes f.start h.behind h.part));
      ends = omega (arith, end, h.ends, ap length is);
      near = omega (arith, start, more, h.near);
      reaches = subst (λ p. Reaches p h.bytes (room - g.start)) (sym piece) (subst (Reaches f.piece h.bytes) left h.reaches);
      step = subst (λ p. Goes B p h.bytes h.behind) (sym piece) (λ P d z b. h.step P d z (part P z b));
    }

-- from what is also such a piece
pub steps_part : (A B : stands.Piece → List ℕ → Type 0) (input : List ℕ) (room : ℕ) (f : Further)
    → ((P : stands.Piece) (z : List ℕ) → B P z → A P z) → StepsTo A input room f → StepsTo B input room f
steps_part A B input room f part h = record {
  bytes = h.bytes;
  behind = h.behind;
  part = h.part;
  ends = h.ends;
  near = h.near;
  reaches = h.reaches;
  step = λ P d z b. h.step P d z (part P z b);
}

pub own_under : (P : stands.Piece) (c : ℕ) (z after : List ℕ) → IsOwn P → z ≡ c ∷ after → IsUnder P z c after
own_under a_value c z after h is = is
own_under (an_item kind n i) c z after h is = is
own_under _ c z after h is = absurd h

-- what begins at the end of some bytes, up to the end of all
pub tail_steps : (Begins : stands.Piece → List ℕ → Type 0) (input bytes : List ℕ) (room n : ℕ) (p : Piece) → n ≤ length input → n ≤ room → drop n input ≡ bytes
    → Reaches p bytes (room - n)
    → ((P : stands.Piece) (d : ℕ) (z : List ℕ) → Begins P z → (Q : stands.Piece) × (k : ℕ) × (around : Around) × IsPiece p Q
    × Step P d z Q k bytes around 0)
    → StepsTo Begins input room (record { piece = p; start = n; end = length input })
tail_steps Begins input bytes room n p few near is reaches goes = record {
  bytes = bytes;
  behind = 0;
  part = subst (λ l. Among input l n 0) is (among_tail n input few);
  ends = omega arith;
  near = near;
  reaches = reaches;
  step = goes;
}

-- behind the 0 of a described value
pub described_steps : (input : List ℕ) (room n : ℕ) → IsFront NamesAny input n → n ≤ room
    → StepsTo (λ P z. IsOwn P × (z ≡ 0 ∷ input)) input room (record { piece = Value; start = n; end = length input })
described_steps input room n f near =
    tail_steps (λ P z. IsOwn P × (z ≡ 0 ∷ input)) input (drop n input) room n Value f.within near refl tt (λ P d z (own, is). (
      a_value,
      suc d,
      unbounded,
      refl,
      subst (λ l. Step P d l a_value (suc d) (drop n input) unbounded 0) (sym is)
          (to_described P d input (drop n input) own (front_behind NamesAny input n f)),
    ))

pub mark_steps : (input : List ℕ) (room : ℕ) → NoneWithin NamesAny input room
    → StepsTo (λ P z. IsOwn P × (z ≡ 0 ∷ input)) input room (record { piece = a_mark; start = 0; end = length input })
mark_steps input room none =
    let same : room ≡ room - 0 = omega arith in
    tail_steps (λ P z. IsOwn P × (z ≡ 0 ∷ input)) input input room 0 a_mark (omega arith) (omega arith) refl
    (subst (NoneWithin NamesAny input) same none) (λ P d z (own, is). (
      a_descriptor,
      d,
      unbounded,
      refl,
      subst (λ l. Step P d l a_descriptor d input unbounded 0) (sym is) (to_descriptor P d input own),
    ))

-- the next descriptor of a constructor that items share
pub its_mark_steps : (k c room : ℕ) (input after : List ℕ) → k < 128 → input ≡ c ∷ after → c ≡ 0 → 0 < room → NoneWithin IsMark input room
    → StepsTo (λ P z. (P ≡ a_code k) × (z ≡ input)) input room (record { piece = a_mark; start = 1; end = length input })
its_mark_steps k c room input after few is nought some none =
    let there : input ≡ 0 ∷ after = is ∙ ap (λ x. x ∷ after) nought in
    tail_steps (λ P z. (P ≡ a_code k) × (z ≡ input)) input after room 1 a_mark (omega (arith, ap length there)) (omega arith) (ap (drop 1) there)
    (λ name rest s names.
    let far : room < length (0 ∷ name) = none (0 ∷ name) rest (there ∙ ap (λ l. 0 ∷ l) s) (name, refl, names) in
    omega (arith, far, some))
    (λ P d z (p, e). (
      a_descriptor,
      d,
      unbounded,
      refl,
      subst (λ X. Step X d z a_descriptor d after unbounded 0) (sym p)
          (subst (λ l. Step (a_code k) d l a_descriptor d after unbounded 0) (sym (e ∙ there)) (to_its_descriptor k d after few)),
    ))

-- some of a constructor that items share
pub code_steps : (n k len room : ℕ) (content : List ℕ) → k ≤ 128 → IsFront (HasMarks k) content len → len ≤ room
    → Reaches (ElementConstructor k) (drop len content) (room - len)
    → StepsTo (λ P z. (P ≡ an_array n) × (z ≡ content)) content room (record { piece = ElementConstructor k; start = len; end = length content })
code_steps n k len room content few marks near reaches =
    tail_steps (λ P z. (P ≡ an_array n) × (z ≡ content)) content (drop len content) room len (ElementConstructor k) marks.within near refl reaches
    (λ P d z (p, e). (
      a_code k,
      d,
      unbounded,
      refl,
      subst (λ X. Step X d z (a_code k) d (drop len content) unbounded 0) (sym p)
          (subst (λ l. Step (an_array n) d l (a_code k) d (drop len content) unbounded 0) (sym e)
          (to_code n d content (drop len content) k few (front_behind (HasMarks k) content len marks))),
    ))

-- an item of an array
element_goes : (n k c start len : ℕ) (content data_ : List ℕ) (p : Piece) → Constructs k c (take len content) → drop len content ≡ data_
    → IsElement k c n data_ p start → Goes (λ P z. (P ≡ an_array n) × (z ≡ content)) p (drop start data_) 0
element_goes n k c start len content data_ (Element l x m i) (ds, counted, few, q) at (e, s, t, less, f) = λ P d z (q', is). (
  an_element ds c n i,
  d + level_of (length ds) c,
  unbounded,
  (ds, counted ∙ sym e, ap₂ (λ a b. an_element ds a b i) (sym s) (sym t)),
  subst (λ X. Step X d z (an_element ds c n i) (d + level_of (length ds) c) (drop start data_) unbounded 0) (sym q')
      (subst (λ l. Step (an_array n) d l (an_element ds c n i) (d + level_of (length ds) c) (drop start data_) unbounded 0) (sym is)
      (to_element n d content data_ (drop start data_) ds c i (omega (arith, counted, few))
      (record { front = take len content; is = sym (take-append-drop len content) ∙ ap (λ x. take len content ++ x) at; spelled = q }) less
      (front_behind (Row (AnyData c) i) data_ start f))),
)
element_goes n k c start len content data_ (End kind m) built at (e, s, f) = λ P d z (q', is). (
  an_end array n,
  d,
  unbounded,
  ap₂ (λ x y. an_end (container_of x) y) (sym e) (sym s),
  subst (λ X. Step X d z (an_end array n) d (drop start data_) unbounded 0) (sym q')
      (subst (λ l. Step (an_array n) d l (an_end array n) d (drop start data_) unbounded 0) (sym is)
      (to_array_end n d content data_ (drop start data_) k c
      (record { front = take len content; is = sym (take-append-drop len content) ∙ ap (λ x. take len content ++ x) at; spelled = built })
      (front_behind (Row (AnyData c) n) data_ start f))),
)
element_goes n k c start len content data_ _ built at h = absurd h

element_front : (k c n : ℕ) (data_ : List ℕ) (p : Piece) (start : ℕ) → IsElement k c n data_ p start → start ≤ length data_
element_front k c n data_ (Element l x m i) start (e, s, t, less, f) = f.within
element_front k c n data_ (End kind m) start (e, s, f) = f.within
element_front k c n data_ _ start h = absurd h

pub element_steps : (n k c len room : ℕ) (content : List ℕ) (f g : Further) → len ≤ length content → Constructs k c (take len content)
    → IsElement k c n (drop len content) f.piece f.start → f.end ≡ length (drop len content) → f.start ≤ room - len → len ≤ room
    → Reaches f.piece (drop f.start (drop len content)) ((room - len) - f.start) → g.piece ≡ f.piece → g.start ≡ len + f.start → g.end ≡ len + f.end → StepsTo (λ P z. (P ≡ an_array n) × (z ≡ content)) content room g
element_steps n k c len room content f g within built h ends inner near reaches piece start end =
    let data_ = drop len content in
    let left : (room - len) - f.start ≡ room - g.start = omega (arith, start) in
    let few = element_front k c n data_ f.piece f.start h in
    let bytes = drop f.start data_ in
    record {
      bytes = bytes;
      behind = 0;
      part = subst (λ s. Among content bytes s 0) (sym start)
          (among_inner content data_ bytes len 0 f.start 0 (among_tail len content within) (among_tail f.start data_ few));
      ends = omega (arith, end, ends, length-drop len content, within);
      near = omega (arith, start, inner, near);
      reaches = subst (λ p. Reaches p bytes (room - g.start)) (sym piece) (subst (Reaches f.piece bytes) left reaches);
      step = subst (λ p. Goes (λ P z. (P ≡ an_array n) × (z ≡ content)) p bytes 0) (sym piece)
          (element_goes n k c f.start len content data_ f.piece built refl h);
    }

-- in the content of a container
pub is_part : (kind : ContainerKind) (n : ℕ) (content : List ℕ) (p : Piece) (start : ℕ) → (kind ≡ Array → ⊥) → IsItem kind n content p start
    → IsPart kind n content p start
is_part Array n content p start other h = absurd (other refl)
is_part a_list n content p start other h = h
is_part a_map n content p start other h = h

pub content_step : (c w : ℕ) (kind : ContainerKind) (data_ items : List ℕ) (content : Content) (room : ℕ) (f g : Further)
    → format c ≡ compound (container_of kind) w → (h : HasContent (container_of kind) w data_ content)
    → content.start ≤ room → items ≡ h.items → IsPart kind content.count items f.piece f.start → f.end ≡ length items
    → f.start ≤ room - content.start → Reaches f.piece (drop f.start items) ((room - content.start) - f.start) → g.piece ≡ f.piece
    → g.start ≡ content.start + f.start → g.end ≡ content.start + f.end → StepsTo (λ P z. IsUnder P z c data_) data_ room g
content_step c w Array data_ items content room f g is h near same part ends inner reaches piece start end =
    array_step c w data_ content room g is h near (piece ∙ part.0) (omega (arith, start, part.1))
    (omega (arith, end, ends, ap length same, h.ends, among_length data_ h.items content.start h.behind h.part))
content_step c w a_list data_ items content room f g is h near same part ends inner reaches piece start end =
    items_step c w a_list data_ items content room f g is (λ e. cc) h near same part ends inner reaches piece start end
content_step c w a_map data_ items content room f g is h near same part ends inner reaches piece start end =
    items_step c w a_map data_ items content room f g is (λ e. cc) h near same part ends inner reaches piece start end

-- a piece in content has a low rank, and where the content begins at once, none
item_rank : (kind : ContainerKind) (n : ℕ) (content : List ℕ) (p : Piece) (start : ℕ) → IsItem kind n content p start → rank p ≡ 0
item_rank kind n content (Item k m i) start h = refl
item_rank kind n content (End k m) start h = refl
item_rank kind n content _ start h = absurd h

pub part_falls : (kind : ContainerKind) (n w s : ℕ) (content : List ℕ) (p q : Piece) (start : ℕ) → (kind ≡ Array → 1 ≤ w)
    → IsPart kind n content p start → q ≡ p → s ≡ (w + w) + start → (s ≡ 0 → rank q ≡ 0) × (rank q ≤ 2)
part_falls Array n w s content p q start some (is, at) e place =
    let two : rank q ≡ 2 = ap rank (e ∙ is) in
    let wide = some refl in ((λ z. absurd (omega (arith, z, place, wide))), omega (arith, two))
part_falls a_list n w s content p q start some h e place =
    let nought : rank q ≡ 0 = ap rank e ∙ item_rank a_list n content p start h in ((λ z. nought), omega (arith, nought))
part_falls a_map n w s content p q start some h e place =
    let nought : rank q ≡ 0 = ap rank e ∙ item_rank a_map n content p start h in ((λ z. nought), omega (arith, nought))

element_rank : (k c n : ℕ) (data_ : List ℕ) (p : Piece) (start : ℕ) → IsElement k c n data_ p start → rank p ≤ suc k
element_rank k c n data_ (Element l x m i) start (e, s, t, less, f) = omega (arith, e)
element_rank k c n data_ (End kind m) start h = omega arith
element_rank k c n data_ _ start h = absurd h

pub element_falls : (k c n len s : ℕ) (data_ : List ℕ) (p q : Piece) (start : ℕ) → k ≤ 128 → IsElement k c n data_ p start → q ≡ p
    → s ≡ (len + 1) + start → (s ≡ 0 → rank q ≤ 1) × (rank q ≤ 129)
element_falls k c n len s data_ p q start few h e place =
    let low = element_rank k c n data_ p start h in
    let same : rank q ≡ rank p = ap rank e in
    ((λ z. absurd (omega (arith, z, place))), omega (arith, low, same, few))

-- no step leads from a piece to what begins within so many bytes, if no content does and no descriptor
abbrev IsPlain : stands.Piece → Type 0
IsPlain a_value = Unit {0}
IsPlain (an_item kind n i) = Unit {0}
IsPlain a_descriptor = Unit {0}
IsPlain (an_element [] c n i) = Unit {0}
IsPlain _ = ⊥

abbrev ContentBeyond : stands.Piece → List ℕ → ℕ → Type 0
ContentBeyond P z room = (c : ℕ) (data_ : List ℕ) → IsUnder P z c data_ → (kind : Container) (w n behind : ℕ) (items : List ℕ) (around : Around)
    → format c ≡ compound kind w → Contains kind w n items data_ around behind → room + (length items + behind) < length z

pub behind_less : (P : List ℕ → Type 0) (input after : List ℕ) → Behind P input after → length after ≤ length input
behind_less P input after h = omega (arith, ap length h.is, length-append h.front after)

beyond : (room : ℕ) (P Q : stands.Piece) (d k behind : ℕ) (z y : List ℕ) (around : Around) → IsPlain P → ContentBeyond P z room
    → ((after : List ℕ) → IsOwn P → z ≡ 0 ∷ after → room ≡ 0) → Step P d z Q k y around behind → room + (length y + behind) < length z
beyond room P Q d k behind z y around plain far none (to_descriptor X e x own) = let at = none x own refl in omega (arith, at)
beyond room P Q d k behind z y around plain far none (to_described X e x after own b) =
    let at = none x own refl in omega (arith, at, behind_less NamesAny x after b)
beyond room P Q d k behind z y around plain far none (to_item X e x data_ items after c w n i more kind ar u is other holds less row) =
    let l = far c data_ u kind w n more items ar is holds in omega (arith, l, behind_less (Row AnyTerm i) items after row)
beyond room P Q d k behind z y around plain far none (to_end X e x data_ items after c w n more kind ar u is other holds row) =
    let l = far c data_ u kind w n more items ar is holds in omega (arith, l, behind_less (Row AnyTerm n) items after row)
beyond room P Q d k behind z y around plain far none (to_array X e x data_ items c w n more ar u is holds) =
    far c data_ u array w n more items ar is holds
beyond room P Q d k behind z y around plain far none (to_code n e x after m few b) = absurd plain
beyond room P Q d k behind z y around plain far none (to_its_descriptor m e x few) = absurd plain
beyond room P Q d k behind z y around plain far none (to_element n e x data_ after ds c i few b less row) = absurd plain
beyond room P Q d k behind z y around plain far none (to_array_end n e x data_ after m c b row) = absurd plain
beyond room P Q d k behind z y around plain far none (to_its_described x ds c n i e w) = absurd plain

-- pieces that have a code of their own
abbrev pub HasHead : stands.Piece → Type 0
HasHead a_value = Unit {0}
HasHead (an_item kind n i) = Unit {0}
HasHead a_descriptor = Unit {0}
HasHead _ = ⊥

pub own_head : (P : stands.Piece) → IsOwn P → HasHead P
own_head a_value h = tt
own_head (an_item kind n i) h = tt
own_head _ h = absurd h

head_plain : (P : stands.Piece) → HasHead P → IsPlain P
head_plain a_value h = tt
head_plain (an_item kind n i) h = tt
head_plain a_descriptor h = tt
head_plain _ h = absurd h

head_under : (P : stands.Piece) (c x : ℕ) (z after data_ : List ℕ) → HasHead P → z ≡ c ∷ after → IsUnder P z x data_ → (c ≡ x) × (after ≡ data_)
head_under a_value c x z after data_ h is u = let e = sym is ∙ u in (ap (λ l. get_or l 0 0) e, ap (drop 1) e)
head_under (an_item kind n i) c x z after data_ h is u = let e = sym is ∙ u in (ap (λ l. get_or l 0 0) e, ap (drop 1) e)
head_under a_descriptor c x z after data_ h is u = let e = sym is ∙ u in (ap (λ l. get_or l 0 0) e, ap (drop 1) e)
head_under _ c x z after data_ h is u = absurd h

-- a code, and behind it no content that begins within the bytes
pub head_beyond : (c room : ℕ) (after : List ℕ)
    → ((kind : Container) (w n behind : ℕ) (items : List ℕ) (around : Around) → format c ≡ compound kind w → Contains kind w n items after around behind
    → room < 1 + (w + w))
    → (P Q : stands.Piece) (d k behind : ℕ) (z y : List ℕ) (around : Around) → HasHead P → (IsOwn P → c ≡ 0 → room ≡ 0) → z ≡ c ∷ after
    → Step P d z Q k y around behind → room + (length y + behind) < length z
head_beyond c room after far P Q d k behind z y around head none is s =
    beyond room P Q d k behind z y around (head_plain P head)
    (λ x data_ u kind w n more items ar fmt holds.
    let (one, rest) = head_under P c x z after data_ head is u in
    let holds' = subst (λ l. Contains kind w n items l ar more) (sym rest) holds in
    let near = far kind w n more items ar (ap format one ∙ fmt) holds' in
    omega (arith, near, content_place kind w n items after ar more holds', ap length is))
    (λ x own e. none own (ap (λ l. get_or l 0 0) (sym is ∙ e))) s

-- likewise at an item of an array
pub element_beyond : (c n i room : ℕ) (data_ : List ℕ) → NoContentWithin c data_ room → (P Q : stands.Piece) (d k behind : ℕ) (z y : List ℕ)
    (around : Around) → P ≡ an_element [] c n i → z ≡ data_ → Step P d z Q k y around behind → room + (length y + behind) < length z
element_beyond c n i room data_ none P Q d k behind z y around is all s =
    beyond room (an_element [] c n i) Q d k behind z y around tt
    (λ x l (code, same) kind w m more items ar fmt holds.
    let holds' = subst (λ v. Contains kind w m items v ar more) (same ∙ all) holds in
    let near = none kind w m more items ar (ap format (sym code) ∙ fmt) holds' in
    omega (arith, near, content_place kind w m items data_ ar more holds', ap length all))
    (λ x own e. absurd own) (subst (λ X. Step X d z Q k y around behind) is s)

pub none_answered : {A : Type 0} (o : Option A) (X : Type 0) (F : A → Type 0) → o ≡ None → X → MatchOption o X F
none_answered o X F e x = subst (λ z. MatchOption z X F) (sym e) x

-- an item of an array within its descriptors
pub shared_steps : (k c n i room : ℕ) (input : List ℕ) → Reaches (Element k c n i) input room
    → StepsTo (λ P z. IsPiece (Element (suc k) c n i) P × (z ≡ input)) input room
    (record { piece = Element k c n i; start = 0; end = length input })
shared_steps k c n i room input reaches =
    let same : room ≡ room - 0 = omega arith in
    tail_steps (λ P z. IsPiece (Element (suc k) c n i) P × (z ≡ input)) input input room 0 (Element k c n i) (omega arith) (omega arith) refl
    (λ prim wide. subst (NoneWithin (AnyData c) input) same (reaches prim wide))
    (λ P d z ((ds, l, p), is). by_descriptors P d z ds l p is)
  where
    by_descriptors : (P : stands.Piece) (d : ℕ) (z : List ℕ) (ds : List Descriptor) → length ds ≡ suc k → P ≡ an_element ds c n i → z ≡ input
        → (Q : stands.Piece) × (m : ℕ) × (around : Around) × IsPiece (Element k c n i) Q × Step P d z Q m input around 0
    by_descriptors P d z [] l p is = absurd (omega (arith, l))
    by_descriptors P d z (e ∷ ds) l p is = (
      an_element ds c n i,
      suc d,
      unbounded,
      (ds, omega (arith, l), refl),
      subst (λ X. Step X d z (an_element ds c n i) (suc d) input unbounded 0) (sym p)
          (subst (λ v. Step (an_element (e ∷ ds) c n i) d v (an_element ds c n i) (suc d) input unbounded 0) (sym is) (to_its_described e ds c n i d input)),
    )

-- the data of an item of an array
pub bare_under : (c n i : ℕ) (input : List ℕ) (P : stands.Piece) (z : List ℕ) → IsPiece (Element 0 c n i) P → z ≡ input → IsUnder P z c input
bare_under c n i input P z ([], l, p) is = subst (λ X. IsUnder X z c input) (sym p) (refl, sym is)
bare_under c n i input P z (e ∷ ds, l, p) is = absurd (omega (arith, l))

pub bare_beyond : (c n i room : ℕ) (data_ : List ℕ) → NoContentWithin c data_ room → (P Q : stands.Piece) (d k behind : ℕ) (z y : List ℕ)
    (around : Around) → IsPiece (Element 0 c n i) P → z ≡ data_ → Step P d z Q k y around behind → room + (length y + behind) < length z
bare_beyond c n i room data_ none P Q d k behind z y around ([], l, p) all s = element_beyond c n i room data_ none P Q d k behind z y around p all s
bare_beyond c n i room data_ none P Q d k behind z y around (e ∷ ds, l, p) all s = absurd (omega (arith, l))

pub known_some : (c : ℕ) → IsKnown (format c) → c ≡ 0 → ⊥
known_some c known e = subst (λ x. IsKnown (format x)) e known

pub code_reaches : (k len room : ℕ) (content : List ℕ) → (k < 128 → NoneWithin IsMark (drop len content) (room - len))
    → ((c : ℕ) (after : List ℕ) → take (length content - len) (drop len content) ≡ c ∷ after → IsKnown (format c) → room - len ≡ 0)
    → Reaches (ElementConstructor k) (drop len content) (room - len)
code_reaches k len room content none code = (none, λ c after is known. code c after (tail_all len content ∙ is) known)

-- the answers at an item of an array
pub bare_answered : (p : Piece) (k c n i room : ℕ) (input : List ℕ) (o : Option Further) → p ≡ Element k c n i → k ≡ 0
    → MatchOption o (NoContentWithin c input room) (λ f. StepsTo (λ P z. IsUnder P z c input) input room f)
    → MatchOption o (StepsBeyond (λ P z. IsPiece p P × (z ≡ input)) room) (λ f. StepsTo (λ P z. IsPiece p P × (z ≡ input)) input room f)
bare_answered p k c n i room input o is nought h =
    subst (λ q. MatchOption o (StepsBeyond (λ P z. IsPiece q P × (z ≡ input)) room) (λ f. StepsTo (λ P z. IsPiece q P × (z ≡ input)) input room f))
    (sym (is ∙ ap (λ m. Element m c n i) nought)) (by_answer o h)
  where
    by_answer : (o : Option Further) → MatchOption o (NoContentWithin c input room) (λ f. StepsTo (λ P z. IsUnder P z c input) input room f)
        → MatchOption o (StepsBeyond (λ P z. IsPiece (Element 0 c n i) P × (z ≡ input)) room)
        (λ f. StepsTo (λ P z. IsPiece (Element 0 c n i) P × (z ≡ input)) input room f)
    by_answer None none = λ P Q d k behind z y around (named, all) s. bare_beyond c n i room input none P Q d k behind z y around named all s
    by_answer (Some f) h =
        steps_part (λ P z. IsUnder P z c input) (λ P z. IsPiece (Element 0 c n i) P × (z ≡ input)) input room f
        (λ P z (named, all). bare_under c n i input P z named all) h

pub shared_answered : (p : Piece) (k m c n i room : ℕ) (input : List ℕ) → p ≡ Element k c n i → m + 1 ≡ k
    → Reaches p input room → StepsTo (λ P z. IsPiece p P × (z ≡ input)) input room (record { piece = Element m c n i; start = 0; end = length input })
shared_answered p k m c n i room input is more reaches =
    let one : k ≡ suc m = omega (arith, more) in
    subst (λ q. StepsTo (λ P z. IsPiece q P × (z ≡ input)) input room (record { piece = Element m c n i; start = 0; end = length input }))
    (sym (is ∙ ap (λ x. Element x c n i) one)) (shared_steps m c n i room input (subst (λ q. Reaches q input room) (is ∙ ap (λ x. Element x c n i) one) reaches))
