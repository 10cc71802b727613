-- A message that is split, piece by piece.
use Rattle.std.proofs.Common.{◌≡◌, ℕ, zero, suc, Bool, ◌+◌, ◌<◌, ◌≤◌, ◌⊎◌, inl, inr, true, false, List, [], ◌∷◌, ◌++◌, length, map, refl, sym, subst, ap, ◌∙◌, arith, length-append}
use Rattle.std.specs.List.{All}
use Rattle.std.proofs.lemmas.List.{map-append, append_assoc, append-nil}
use Rattle.std.proofs.lemmas.List.Elements.{All-nil, All-push}
use Rattle.std.proofs.lemmas.Grind.{flat_map-append}
use Rattle.amqp_performatives.specs.declared.transfer.Transfer.{Transfer}
use Rattle.amqp_frames.specs.declared.pieces.Piece.{Piece}
use Rattle.amqp_frames.specs.declared.split_error.SplitError.{SplitError}
use Rattle.amqp_frames.specs.declared.split_error.SplitError.TheVariants.{FrameTooSmall, Value}
use Rattle.amqp_frames.specs.Splitting.{later_of, with_more, after, first_transfers, transfers_of, transfer_text, payloads_of}
use Rattle.amqp_frames.specs.Splitting.{FitsFrame, PassesOne, LeavesNone, IsFull, AreFull, SplitFault, PartFault, IsSplit}
use Rattle.amqp_frames.proofs.TransferLemmas.{later_shrinks}

-- If others follow this transfer, its frame has a byte for a payload.
abbrev pub LeavesSome : ℕ → Transfer → Type 0
LeavesSome max t = 8 + length (transfer_text (with_more true t)) < max

-- The pieces so far, the transfer of the next one, and the bytes that are left.
pub record SoFar (t : Transfer) (message : List ℕ) (max : ℕ) (pieces : List Piece) (next : Transfer) (rest : List ℕ) : Type 0 where
  pub count : ℕ
  pub transfers : map (λ p. p.transfer) pieces ≡ first_transfers t count
  pub next_is : with_more false next ≡ with_more false (after t count)
  pub joined : payloads_of pieces ++ rest ≡ message
  pub fits : All (FitsFrame max) pieces
  pub full : AreFull max pieces (length rest)
  pub some : 0 < length message → 0 < length rest
  pub begun : ((count ≡ 0) × (rest ≡ message)) ⊎ LeavesSome max t

pub none_so_far : (t : Transfer) (message : List ℕ) (max : ℕ) → SoFar t message max [] t message
unfolding after first_transfers
none_so_far t message max =
    record {
      count = 0;
      transfers = refl;
      next_is = refl;
      joined = refl;
      fits = All-nil (FitsFrame max);
      full = tt;
      some = λ some. some;
      begun = inl (refl, refl);
    }

-- a transfer more
first_more : (t : Transfer) (n : ℕ) → first_transfers t n ++ with_more true (after t n) ∷ [] ≡ first_transfers t (suc n)
unfolding after first_transfers
first_more t zero = refl
first_more t (suc n) = ap (λ ts. with_more true t ∷ ts) (first_more (later_of t) n)

last_more : (t : Transfer) (n : ℕ) → first_transfers t n ++ with_more false (after t n) ∷ [] ≡ transfers_of t n
unfolding after first_transfers transfers_of
last_more t zero = refl
last_more t (suc n) = ap (λ ts. with_more true t ∷ ts) (last_more (later_of t) n)

after_more : (t : Transfer) (n : ℕ) → with_more false (after t (suc n)) ≡ later_of (after t n)
unfolding after
after_more t zero = refl
after_more t (suc n) = after_more (later_of t) n

-- The next transfer is the one after so many, whether others follow it or not.
next_with : (t next : Transfer) (n : ℕ) (more : Bool) → with_more false next ≡ with_more false (after t n)
    → with_more more next ≡ with_more more (after t n)
next_with t next n more same = ap (with_more more) same

-- no transfer after the first has a longer text
after_shrinks : (t : Transfer) (n : ℕ) → length (transfer_text (with_more true (after t n))) ≤ length (transfer_text (with_more true t))
unfolding after
after_shrinks t zero = omega arith
after_shrinks t (suc n) = omega (arith, after_shrinks (later_of t) n, later_shrinks true t)

-- ---- full pieces, with one more

bytes_more : (ps : List Piece) (p : Piece) → length (payloads_of (ps ++ p ∷ [])) ≡ length (payloads_of ps) + length p.payload.now
bytes_more ps p =
    let both : payloads_of (ps ++ p ∷ []) ≡ payloads_of ps ++ (p.payload.now ++ []) =
    flat_map-append (λ q. q.payload.now) ps (p ∷ []) in
    ap length (both ∙ ap (λ b. payloads_of ps ++ b) (append-nil p.payload.now)) ∙ length-append (payloads_of ps) p.payload.now

full_more : (max : ℕ) (ps : List Piece) (p : Piece) (rest : ℕ) → AreFull max ps (length p.payload.now + rest)
    → IsFull max p (length p.payload.now + rest) → AreFull max (ps ++ p ∷ []) rest
full_more max [] p rest full one =
    let same : length p.payload.now + rest ≡ length (payloads_of (p ∷ [])) + rest =
    ap (λ b. length b + rest) (sym (append-nil p.payload.now)) in
    (subst (IsFull max p) same one, tt)
full_more max (q ∷ ps) p rest full one =
    let same : length (payloads_of (q ∷ ps)) + (length p.payload.now + rest) ≡ length (payloads_of (q ∷ ps ++ p ∷ [])) + rest =
    omega (arith, bytes_more (q ∷ ps) p) in
    (subst (IsFull max q) same full.0, full_more max ps p rest full.1 one)

module _ {t : Transfer} {message : List ℕ} {max : ℕ} {pieces : List Piece} {next : Transfer} {rest : List ℕ} (s : SoFar t message max pieces next rest) where
  -- the bytes of the pieces with one more, and of what is left
  joined_more : (p : Piece) (bytes : List ℕ) → p.payload.now ++ bytes ≡ rest → payloads_of (pieces ++ p ∷ []) ++ bytes ≡ message
  joined_more p bytes cut =
      let one : payloads_of (pieces ++ p ∷ []) ≡ payloads_of pieces ++ (p.payload.now ++ []) =
      flat_map-append (λ q. q.payload.now) pieces (p ∷ []) in
      let bare : payloads_of (pieces ++ p ∷ []) ≡ payloads_of pieces ++ p.payload.now =
      one ∙ ap (λ b. payloads_of pieces ++ b) (append-nil p.payload.now) in
      ap (λ b. b ++ bytes) bare ∙ (append_assoc (payloads_of pieces) p.payload.now bytes
      ∙ (ap (λ b. payloads_of pieces ++ b) cut ∙ s.joined))

  transfers_more : (p : Piece) → map (λ q. q.transfer) (pieces ++ p ∷ []) ≡ first_transfers t s.count ++ p.transfer ∷ []
  transfers_more p = map-append (λ q. q.transfer) pieces (p ∷ []) ∙ ap (λ ts. ts ++ p.transfer ∷ []) s.transfers

  cut_length : (front back : List ℕ) → front ++ back ≡ rest → length rest ≡ length front + length back
  cut_length front back cut = ap length (sym cut) ∙ length-append front back

  -- a transfer that others follow leaves a byte
  begun_more : (p : Piece) → p.transfer ≡ with_more true (after t s.count) → IsFull max p (length rest) → LeavesSome max t
  unfolding after
  begun_more p is full =
      elim s.begun [
        | inl none ↦ (
            let first : p.transfer ≡ with_more true t = is ∙ ap (λ n. with_more true (after t n)) none.0 in
            let text : length (transfer_text p.transfer) ≡ length (transfer_text (with_more true t)) =
            ap (λ u. length (transfer_text u)) first in
            let some : 0 < length p.payload.now = full.some in
            let all : 8 + length (transfer_text p.transfer) + length p.payload.now ≡ max = full.full in
            omega arith)
        | inr some ↦ some
      ]

  pub one_more : (p : Piece) (bytes : List ℕ) → p.transfer ≡ with_more true next → p.payload.now ++ bytes ≡ rest
      → length p.payload.now < length rest → IsFull max p (length rest) → SoFar t message max (pieces ++ p ∷ []) (later_of p.transfer) bytes
  one_more p bytes is cut part full =
      let same : p.transfer ≡ with_more true (after t s.count) = is ∙ next_with t next s.count true s.next_is in
      let later : later_of p.transfer ≡ later_of (after t s.count) = ap later_of same in
      let lengths : length rest ≡ length p.payload.now + length bytes = cut_length p.payload.now bytes cut in
      let all : 8 + length (transfer_text p.transfer) + length p.payload.now ≡ max = full.full in
      let fit : FitsFrame max p = omega arith in
      record {
        count = suc s.count;
        transfers = transfers_more p ∙ (ap (λ u. first_transfers t s.count ++ u ∷ []) same ∙ first_more t s.count);
        next_is = later ∙ sym (after_more t s.count);
        joined = joined_more p bytes cut;
        fits = All-push (FitsFrame max) pieces p s.fits fit;
        full = full_more max pieces p (length bytes) (subst (AreFull max pieces) lengths s.full) (subst (IsFull max p) lengths full);
        some = λ some. omega arith;
        begun = inr (begun_more p same full);
      }

  pub last_one : (p : Piece) → p.transfer ≡ with_more false next → p.payload.now ≡ rest → FitsFrame max p → IsSplit t message max (pieces ++ p ∷ [])
  last_one p is cut fit =
      let same : p.transfer ≡ with_more false (after t s.count) = is ∙ next_with t next s.count false s.next_is in
      let bytes : length rest ≡ length p.payload.now = ap length (sym cut) in
      record {
        joined = sym (append-nil (payloads_of (pieces ++ p ∷ []))) ∙ joined_more p [] (append-nil p.payload.now ∙ cut);
        fits = All-push (FitsFrame max) pieces p s.fits fit;
        filled = record {
          front = pieces;
          last = p;
          parts = refl;
          full = subst (AreFull max pieces) bytes s.full;
          some = λ some. (let left : 0 < length rest = s.some some in omega arith);
        };
        count = s.count;
        transfers = transfers_more p ∙ (ap (λ u. first_transfers t s.count ++ u ∷ []) same ∙ last_more t s.count);
      }

  -- Only the first of several transfers may leave no byte.
  small_fault : PassesOne max next (length rest) → LeavesNone max next → PassesOne max t (length message) × LeavesNone max t
  unfolding after
  small_fault passes leaves =
      elim s.begun [
        | inl none ↦ (
            let first : (more : Bool) → with_more more next ≡ with_more more t =
            λ more. next_with t next s.count more s.next_is ∙ ap (λ n. with_more more (after t n)) none.0 in
            let text : (more : Bool) → length (transfer_text (with_more more next)) ≡ length (transfer_text (with_more more t)) =
            λ more. ap (λ u. length (transfer_text u)) (first more) in
            let left : length rest ≡ length message = ap length none.1 in
            (omega (arith, text false), omega (arith, text true)))
        | inr some ↦ (
            let same : length (transfer_text (with_more true next)) ≡ length (transfer_text (with_more true (after t s.count))) =
            ap (λ u. length (transfer_text u)) (next_with t next s.count true s.next_is) in
            absurd (omega (arith, after_shrinks t s.count)))
      ]

  pub part_fault : (e : SplitError) → PartFault next (length rest) max e → SplitFault t message max e
  part_fault FrameTooSmall fault = small_fault fault.0 fault.1
  part_fault (Value e) (inl out) = inl out
  part_fault (Value e) (inr fault) =
      inr (with_more fault.0 next, (s.count, fault.0, next_with t next s.count fault.0 s.next_is), fault.1)

  -- the same by what the calls promise: a piece is added, whose transfer was measured
  pub part_added : (measured then : Transfer) (front back : List ℕ) (new : List Piece)
      → (p : Piece) × (new ≡ pieces ++ p ∷ []) × (p.transfer ≡ measured) × (p.payload.now ≡ front)
      → then ≡ later_of measured → measured ≡ with_more true next → front ++ back ≡ rest → 0 < length front → length front < length rest
      → 8 + length (transfer_text measured) + length front ≡ max → PassesOne max next (length rest) → SoFar t message max new then back
  part_added measured then front back new added later is cut some part fill passes =
      let p = added.0 in
      let bytes : length p.payload.now ≡ length front = ap length added.3 in
      let transfers : p.transfer ≡ with_more true next = added.2 ∙ is in
      let full : IsFull max p (length rest) =
      record { full = rw (added.2, added.3) fill; some = omega arith; needed = rw transfers passes } in
      let so_far : SoFar t message max (pieces ++ p ∷ []) (later_of p.transfer) back =
      one_more p back transfers (ap (λ b. b ++ back) added.3 ∙ cut) (omega arith) full in
      rw (added.1, later ∙ ap later_of (sym added.2)) so_far

  pub rest_added : (measured : Transfer) (new : List Piece)
      → (p : Piece) × (new ≡ pieces ++ p ∷ []) × (p.transfer ≡ measured) × (p.payload.now ≡ rest)
      → measured ≡ with_more false next → 8 + length (transfer_text measured) + length rest ≤ max → IsSplit t message max new
  rest_added measured new added is fit =
      let p = added.0 in
      let fits : FitsFrame max p = rw (added.2, added.3) fit in
      let split : IsSplit t message max (pieces ++ p ∷ []) = last_one p (added.2 ∙ is) added.3 fits in
      rw added.1 split
