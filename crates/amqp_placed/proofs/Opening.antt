-- Why no list, map or array is opened, as far as its size and its count say (Part 1, section 1.2.3).
use Rattle.std.proofs.Common.{◌≡◌, ℕ, zero, suc, ◌<◌, ◌≤◌, ◌^◌, inl, inr, Bool, true, false, cond, Option, Some, None}
use Rattle.std.proofs.Common.{List, [], ◌∷◌, ◌++◌, length, take, refl, sym, ap, ◌∙◌, subst, arith, append_assoc}
use Rattle.std.proofs.lemmas.List.{length-append, length-take}
use Rattle.std.specs.Int.{bytes_high_first}
use Rattle.amqp_model.specs.Term.{Container, list, map, array, Descriptor}
use Rattle.amqp_model.specs.Constructors.{compound, format}
use Rattle.amqp_model.proofs.Bytes.{length-bytes}
use Rattle.amqp_wire.specs.declared.error.Error.{Error}
use Rattle.amqp_wire.specs.declared.error.Error.TheVariants.{Cut, Size, OddCount, Depth}
use Rattle.amqp_wire.specs.Codes.{refusal_of}
use Rattle.amqp_lengths.specs.Announced.{WantsSized, content_size, Wants}
use Rattle.amqp_lengths.specs.Lengths.{HasPairs}
use Rattle.amqp_lengths.specs.Faults.{content_small, content_counted}
use Rattle.amqp_lengths.specs.Stands.{Piece, Around, unbounded, whole_one, cut_one, IsUnder, IsWanting, IsContainer, HasWrongSize, IsWrong}
use Rattle.amqp_decoder.specs.State.{State, depth_error, Has, bound_of, announced}
use Rattle.amqp_decoder.specs.Steps.{SizeError, cut, wrong, past, asked_in, NoRoom}
use Rattle.amqp_decoder.specs.Rooms.{HasFlatItems}
use Rattle.amqp_decoder.specs.Arrays.{IsFlat}
use Rattle.amqp_decoder.specs.Reading.{IsFirst, ReadsCode}
use Rattle.amqp_decoder.specs.Containers.{is_list, IsCount, Counts, ReadsHeader, HeaderFault, no_size, impossible, no_count}
use Rattle.amqp_decoder.specs.Containers.{no_content, EnterFault, no_header, odd_count, no_room, too_deep, OpenFault, not_begun}
use Rattle.amqp_decoder.specs.Containers.{wrong_code, no_data}
use Rattle.amqp_decoder.specs.Places.{Located, Here}
use Rattle.amqp_placed.specs.Facing.{up_to, bytes_open, IsAround, Faces, IsShown}
use Rattle.amqp_placed.proofs.Past.{past_code, past_taken, past_bytes, past_around, past_unlimited}
use Rattle.amqp_placed.proofs.Here.{deep_here, wrong_as, here_shows, lacks_wrong, Coded, code_taken, begin_wrong, other_code_wrong}
use Rattle.amqp_placed.proofs.Contents.{fewer, least_content, own_content, content_there}

-- A size isn't what is there.
size_wrong : (around : Around) (P : Piece) (d : ℕ) (z : List ℕ) (own : ℕ) (m : State) (e : Error) → IsAround around m
    → (bound_of m.top ≡ None → m.top.left ≡ None) → (length (bytes_open m) < own → IsWanting P z)
    → (own ≤ length (bytes_open m) → HasWrongSize P z) → SizeError own m e → IsWrong e around P d z
size_wrong around P d z own m e h unlimited wants size (past none has is) = absurd (has (subst (λ o. Has o own) (sym (unlimited none)) tt))
size_wrong unbounded P d z own m e h unlimited wants size (cut within few is) =
    let asks = ap (λ x. asked_in x own (announced m)) h.0 in
    let all = ap (λ x. length (up_to x m.rest)) h.0 in
    wrong_as e Cut unbounded P d z is (inl ((λ e. cc), wants (omega (arith, few, asks, all))))
size_wrong unbounded P d z own m e h unlimited wants size (wrong within enough is) =
    let asks = ap (λ x. asked_in x own (announced m)) h.0 in
    let all = ap (λ x. length (up_to x m.rest)) h.0 in
    wrong_as e Size unbounded P d z is (inr (inl (size (omega (arith, enough, asks, all)))))
size_wrong whole_one P d z own m e h unlimited wants size (cut within few is) =
    absurd (omega (arith, few, h.2, ap (λ x. asked_in x own (announced m)) h.1))
size_wrong whole_one P d z own m e h unlimited wants size (wrong within enough is) = wrong_as e Size whole_one P d z is (
    elim (fewer own (length (bytes_open m))) [ inl all ↦ inr (inl (size all)) | inr few ↦ inl (refl, wants few) ]
    )
size_wrong cut_one P d z own m e h unlimited wants size (cut within few is) = wrong_as e Cut cut_one P d z is (
    elim (fewer own (length (bytes_open m))) [ inl all ↦ inr (refl, inl (size all)) | inr less ↦ inl ((λ e. cc), wants less) ]
    )
size_wrong cut_one P d z own m e h unlimited wants size (wrong within enough is) =
    absurd (omega (arith, enough, h.2, ap (λ x. asked_in x own (announced m)) h.1))

-- there is no room for what is there
room_there : (m : State) (n : ℕ) → (bound_of m.top ≡ None → m.top.left ≡ None) → (Has m.top.left n → ⊥) → n ≤ length (bytes_open m) → ⊥
room_there m n unlimited less all = by_bound m.top.sized m.top.left refl refl
  where
    by_bound : (s : Bool) (o : Option ℕ) → m.top.sized ≡ s → m.top.left ≡ o → ⊥
    by_bound true (Some l) s o =
        let bound : bound_of m.top ≡ Some l = ap (λ x. cond x m.top.left None) s ∙ o in
        less (subst (λ x. Has x n) (sym o) (omega (arith, all, ap (λ x. length (up_to x m.rest)) bound, length-take l m.rest)))
    by_bound true None s o = less (subst (λ x. Has x n) (sym o) tt)
    by_bound false o s is =
        less (subst (λ x. Has x n) (sym (unlimited (ap (λ x. cond x m.top.left None) s))) tt)

pub compound_some : (c : ℕ) (kind : Container) (w : ℕ) → format c ≡ compound kind w → c ≡ 0 → ⊥
compound_some c kind w is zero_ = clash (subst (λ x. format x ≡ compound kind w) zero_ is)
  where
    clash : format 0 ≡ compound kind w → ⊥
    clash e = cc

-- items that hold no others are no containers
pub not_flat : (o : Option (List Descriptor × ℕ)) (c w : ℕ) (own : List ℕ) (kind : Container) → IsFirst o c own → format c ≡ compound kind w
    → HasFlatItems o → ⊥
not_flat None c w own kind first is flat = flat
not_flat (Some ([], s)) c w own kind first is flat =
    subst (λ F. IsFlat [] F) (ap format (sym first.1) ∙ is) flat
not_flat (Some (e ∷ ds, s)) c w own kind first is flat = flat

-- The code of a container was taken.
pub record Entering (kind : Container) (w c : ℕ) (P : Piece) (d : ℕ) (z : List ℕ) (around : Around) (m : State) : Type 0 where
  pub is : format c ≡ compound kind w
  pub coded : Coded c P z (bytes_open m)
  pub is_around : IsAround around m
  pub unlimited : bound_of m.top ≡ None → m.top.left ≡ None
  pub nesting : m.nesting ≡ 128
  pub deep : length m.saved ≤ d

pub entering : (kind : Container) (w c : ℕ) (P : Piece) (d : ℕ) (around : Around) (st m : State) → Faces st P d around → ReadsCode st c m
    → format c ≡ compound kind w → Entering kind w c P d (bytes_open st) around m
entering kind w c P d around st m h code is =
    let past = past_code st c m code in
    record {
      is = is;
      coded = code_taken st c m P code h.next;
      is_around = past_around past around h.is_around;
      unlimited = past_unlimited past h.unlimited;
      nesting = past.nesting ∙ h.nesting;
      deep = omega (
        arith,
        deep_here st P d around h code.item (not_flat st.top.shared c w code.own kind code.first is),
        ap length past.saved,
      );
    }

wide_enough : (w n : ℕ) → 0 < n → n < 256 ^ w → 0 < w
wide_enough zero n some few = absurd (omega (arith, some, few))
wide_enough (suc w) n some few = omega arith

module _ {kind : Container} {w c : ℕ} {P : Piece} {d : ℕ} {z : List ℕ} {around : Around} {m : State}
    (x : Entering kind w c P d z around m) where
  some : c ≡ 0 → ⊥
  some = compound_some c kind w x.is

  pub is_container : IsContainer P z kind w (bytes_open m)
  is_container = (c, x.coded.under some, x.is)

  want : WantsSized w (content_size kind w) (bytes_open m) → IsWanting P z
  want h = x.coded.wants some (subst (λ F. Wants F (bytes_open m)) (sym x.is) h)

  -- a list of the size 0 counts items, or the size doesn't hold the count
  none_counted : (k : Container) → k ≡ kind → (n : ℕ) (y : List ℕ) → 0 < n → n < 256 ^ w
      → bytes_open m ≡ bytes_high_first w 0 ++ (bytes_high_first w n ++ y) → HasWrongSize P z
  none_counted k same n y some few is =
      let fits : 0 < 256 ^ w = omega (arith, some, few) in
      let behind = bytes_high_first w n ++ y in
      by_kind kind refl fits behind is
    where
      by_kind : (j : Container) → kind ≡ j → 0 < 256 ^ w → (behind : List ℕ) → bytes_open m ≡ bytes_high_first w 0 ++ behind
          → HasWrongSize P z
      by_kind list same fits behind is' = (
        kind,
        w,
        bytes_open m,
        is_container,
        content_counted same (
          0,
          bytes_high_first w n ++ y,
          fits,
          is,
          (
            refl,
            (
              n,
              y,
              few,
              refl,
              some,
            ),
          ),
        ),
      )
      by_kind map same fits behind is' =
          (kind, w, bytes_open m, is_container, content_small (0, behind, fits, is', (omega arith, wide_enough w n some few, (λ h. cc))))
      by_kind array same fits behind is' =
          (kind, w, bytes_open m, is_container, content_small (0, behind, fits, is', (omega arith, wide_enough w n some few, (λ h. cc))))

  pub header_wrong : (e : Error) → HeaderFault (is_list kind) w m e → IsWrong e around P d z
  header_wrong e (no_size lacks) = lacks_wrong around P d z w m e x.is_around x.unlimited (λ few. want (inl few)) lacks
  header_wrong e (impossible {size} {m = m2} fits took never err) =
      let past = past_taken m (bytes_high_first w size) m2 took in
      let less : size < w = elim (fewer w size) [ inl h ↦ absurd (never (inl h)) | inr h ↦ h ] in
      size_wrong around P d z size m2 e (past_around past around x.is_around) (past_unlimited past x.unlimited)
      (λ few. want (inr (size, bytes_open m2, fits, past_bytes past, omega (arith, few, own_content kind w size never))))
      (λ all. (
        kind,
        w,
        bytes_open m,
        is_container,
        content_small (size, bytes_open m2, fits, past_bytes past, (all, less, (λ h. never (inr (ap is_list h.0, h.1))))),
      )) err
  header_wrong e (no_count {size} {m = m2} fits took possible lacks) =
      let past = past_taken m (bytes_high_first w size) m2 took in
      lacks_wrong around P d z w m2 e (past_around past around x.is_around) (past_unlimited past x.unlimited)
      (λ few. want (inr (size, bytes_open m2, fits, past_bytes past, omega (arith, few, least_content kind w size possible)))) lacks
  header_wrong e (no_content {n} {m = m2} some_ few took err) =
      let past = past_taken m (bytes_high_first w 0 ++ bytes_high_first w n) m2 took in
      size_wrong around P d z 0 m2 e (past_around past around x.is_around) (past_unlimited past x.unlimited)
      (λ less. absurd (omega (arith, less)))
      (λ all. none_counted kind refl n (bytes_open m2) some_ few
      (past_bytes past ∙ append_assoc (bytes_high_first w 0) (bytes_high_first w n) (bytes_open m2))) err

  pub head_is : (n content : ℕ) (m2 : State) (h : ReadsHeader (is_list kind) w m n content m2)
      → bytes_open m ≡ bytes_high_first w h.size ++ (bytes_high_first w n ++ bytes_open m2)
  head_is n content m2 h =
      past_bytes (past_taken m (bytes_high_first w h.size ++ bytes_high_first w n) m2 h.took)
      ∙ append_assoc (bytes_high_first w h.size) (bytes_high_first w n) (bytes_open m2)

  announces : (n content size : ℕ) (y : List ℕ) → Counts (is_list kind) w n content size → length y < content
      → length (bytes_high_first w n ++ y) < content_size kind w size
  announces n content size y (inl h) less =
      omega (arith, length-append (bytes_high_first w n) y, length-bytes w n, less, h, least_own kind w size)
    where
      least_own : (k : Container) (w size : ℕ) → size ≤ content_size k w size
      least_own list w zero = omega arith
      least_own list w (suc s) = omega arith
      least_own map w s = omega arith
      least_own array w s = omega arith
  announces n content size y (inr (l, none, empty, zero_)) less = absurd (omega (arith, empty, less))

  pub no_room_wrong : (e : Error) (n content : ℕ) (m2 : State) → ReadsHeader (is_list kind) w m n content m2 → NoRoom content m2 e
      → IsWrong e around P d z
  no_room_wrong e n content m2 h full =
      let past = past_taken m (bytes_high_first w h.size ++ bytes_high_first w n) m2 h.took in
      let unlimited = past_unlimited past x.unlimited in
      size_wrong around P d z content m2 e (past_around past around x.is_around) unlimited
      (λ less. want (inr (
        h.size,
        bytes_high_first w n ++ bytes_open m2,
        h.fits,
        head_is n content m2 h,
        announces n content h.size (bytes_open m2) h.counts less,
      )))
      (λ all. absurd (room_there m2 content unlimited full.less all)) full.why

  unpaired : (n : ℕ) → (IsCount kind n → ⊥) → (kind ≡ map) × (HasPairs map n → ⊥)
  unpaired n odd = by_kind kind refl
    where
      by_kind : (k : Container) → kind ≡ k → (kind ≡ map) × (HasPairs map n → ⊥)
      by_kind list same = absurd (odd (subst (λ k. IsCount k n) (sym same) tt))
      by_kind map same = (same, (λ pairs. odd (subst (λ k. IsCount k n) (sym same) pairs)))
      by_kind array same = absurd (odd (subst (λ k. IsCount k n) (sym same) tt))

  pub enter_wrong : (e : Error) → (kind ≡ array → ⊥) → EnterFault kind w m e → IsWrong e around P d z
  enter_wrong e other (no_header h) = header_wrong e h
  enter_wrong e other (odd_count {n} {content} {m = m2} h odd is) =
      let (same, uneven) = unpaired n odd in
      let k = content_there kind w n content h.size (bytes_open m) (bytes_open m2) h.fits h.few h.counts (head_is n content m2 h) in
      wrong_as e OddCount around P d z is (
        w,
        n,
        k.behind,
        bytes_open m,
        take content (bytes_open m2),
        k.inner,
        subst (λ j. IsContainer P z j w (bytes_open m)) same is_container,
        subst (λ j. Rattle.amqp_lengths.specs.Stands.Contains j w n (take content (bytes_open m2))
            (bytes_open m) k.inner k.behind) same k.contains,
        uneven,
      )
  enter_wrong e other (no_room {n} {content} {m = m2} h count full) = no_room_wrong e n content m2 h full
  enter_wrong e other (too_deep {n} {content} {m = m2} h count has deep is) =
      wrong_as e Depth around P d z (is ∙ ap depth_error x.nesting)
      (inl (inr (inr (inl (kind, w, bytes_open m, is_container, other, omega (arith, deep, x.nesting, x.deep))))))

pub open_wrong : (kind : Container) → (kind ≡ array → ⊥) → (st : State) (e : Error) (P : Piece) (d : ℕ) (around : Around)
    → Faces st P d around
    → OpenFault kind st e → IsWrong e around P d (bytes_open st)
open_wrong kind other st e P d around h (not_begun fault) = begin_wrong st e P d around h fault
open_wrong kind other st e P d around h (wrong_code {c} {m} code differs is) =
    wrong_as e (refusal_of c) around P d (bytes_open st) is (other_code_wrong st c m P d around h code)
open_wrong kind other st e P d around h (no_data {c} {width} {m} code is fault) =
    enter_wrong (entering kind width c P d around st m h code is) e other fault

-- A list or a map that isn't opened.
pub open_shown : (kind : Container) → (kind ≡ array → ⊥) → (st : State) (f : Located) → Here (OpenFault kind) st f
    → IsShown st f
open_shown kind other st f (fault, is) P d around h = here_shows st f P d around is
    (open_wrong kind other st f.error P d around h fault)
