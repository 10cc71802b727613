-- The pairs of a map are read one after another: what each exit of the readers answers.
use Rattle.std.proofs.Common.{◌≡◌, inl, inr, ℕ, ◌*◌, ◌/◌, ◌<◌, ◌&&◌, Bool, true, List, [], ◌∷◌, ◌++◌, length, length-append, Some, None, refl, sym, ap, ◌∙◌, subst, arith}
use Rattle.amqp_model.specs.Term.{map, Term}
use Rattle.amqp_model.specs.Standing.{Standing}
use Rattle.amqp_wire.specs.declared.error.Error.{Error}
use Rattle.amqp_wire.specs.declared.error.Error.TheVariants.{Memory, DuplicateKey}
use Rattle.amqp_decoder.specs.declared.frame.Place.TheVariants.{InMap}
use Rattle.amqp_decoder.specs.State.{IsPlaceOf, State}
use Rattle.amqp_decoder.specs.Steps.{RefusesBy, Answers}
use Rattle.amqp_decoder.specs.Primitives.{ReadsValue}
use Rattle.amqp_decoder.specs.Containers.{Opens, OpenFault, Closes, CloseFault}
use Rattle.amqp_decoder.proofs.Steps.{answered_later, first_kept}
use Rattle.amqp_decoder.proofs.OneReading.{value_same}
use Rattle.amqp_decoder.proofs.Opening.{opens_same}
use Rattle.amqp_decoder.specs.Places.{Located, Here, RefusesAt, IsPlaced, StandsHere}
use Rattle.amqp_decoder.proofs.Places.{before_later, before_at}
use Rattle.amqp_codec.specs.TermType.{TermType}
use Rattle.amqp_codec.specs.laws.Refusal.{NoneStands, refused_first, refused_later, value_going, opened_going, opened_sound, unreserved}
use Rattle.amqp_codec.specs.Pairs.{IsNew, HaveOtherKeys, MeansMap}
use Rattle.amqp_codec.specs.MapReading.{Pairs, ReadsPairsRow, ReadsFewer, PairsFault, at_key, twice, told_twice, at_value, MapFault}
use Rattle.amqp_codec.specs.MapReading.{unopened, at_pair, unclosed}
use Rattle.amqp_codec.specs.laws.MapReading.{pairs_still, pairs_split, pairs_behind, pairs_end, map_value, value_map}

-- the count of a map that was opened is twice that of its pairs
pub by_two : {st : State} {n : ℕ} {first : State} → Opens map st n first → Opens map st (2 * (n / 2)) first
by_two {st} {n} {first} h = subst (λ n. Opens map st n first) (omega (arith, h.data_.count)) h

module _ {K V : Type 0} (key : TermType K) (value : TermType V) where
  -- The first pair whose key is that of one before it.
  pub record KeyTwice (ps : List (K × V)) : Type 0 where
    pub before : List (K × V)
    pub pair : K × V
    pub behind : List (K × V)
    pub is : ps ≡ before ++ pair ∷ behind
    pub others : HaveOtherKeys key.same before
    pub known : IsNew key.same pair.0 before → ⊥

  module _ (n : ℕ) where
    abbrev row : State → List (K × V) → State → Type 0
    row = ReadsPairsRow key value n

    abbrev row_fault : State → Located → Type 0
    row_fault = PairsFault key value n

    -- where something was read, nothing was refused
    was_going : (st : State) (ps : List (K × V)) (mid : State) → Pairs key value st ps mid → mid.error ≡ None → st.error ≡ None
    was_going st ps mid h going = sym (pairs_still key value st ps mid h).0 ∙ going

    first_going : (st : State) (ps : List (K × V)) (b : State) → 0 < length ps → Pairs key value st ps b → st.error ≡ None
    first_going st [] b some h = absurd (omega (arith, some))
    first_going st (p ∷ ps) b some h = h.2.stands.going

    -- memory for the pairs was wanted before the first
    pub none_reserved : (st : State) (e : Error) (new : State) → 0 < n → RefusesBy Memory st e new
        → ((d : Error) → st.error ≡ Some d → (e ≡ d) × (new ≡ st)) → RefusesAt true row row_fault st e new
    none_reserved st e new some refused again =
        unreserved row row_fault st e new (λ ps b r. first_going st ps b (omega (arith, some, r.long)) r.each) refused again

    no_key : (st : State) (ps : List (K × V)) (mid : State) → ReadsFewer key value n st ps mid → NoneStands (ReadsValue key.means) mid
        → NoneStands row st
    no_key st ps mid h none qs b r =
        let x = pairs_behind key value st mid b ps qs h.each r.each (omega (arith, h.fewer, r.long)) in
        none x.pair.0 x.after x.at_key

    -- a key wasn't read,
    pub key_refused : {takes : Bool} (st : State) (ps : List (K × V)) (mid : State) (e : Error) (new : State)
        → ReadsFewer key value n st ps mid → RefusesAt takes (ReadsValue key.means) key.faults.fault mid e new
        → RefusesAt true row row_fault st e new
    key_refused {takes} st [] mid e new h r =
        let x : ReadsFewer key value n st [] st = record { fewer = h.fewer; each = refl } in
        refused_first (ReadsValue key.means) key.faults.fault row row_fault st e new (λ _. refl) (λ z f. at_key [] st x f)
        (no_key st [] st x) (subst (λ z. RefusesAt takes (ReadsValue key.means) key.faults.fault z e new) h.each r)
    key_refused st (p ∷ ps) mid e new h r =
        let still = pairs_still key value st (p ∷ ps) mid h.each in
        let going : st.error ≡ None = h.each.2.stands.going in
        refused_later (ReadsValue key.means) key.faults.fault row row_fault st mid e new (λ _. refl) still.1 going (still.0 ∙ going)
        (λ z f. at_key (p ∷ ps) mid h f) (no_key st (p ∷ ps) mid h) r

    -- or it is that of a pair before it,
    twice_behind : (st : State) (ps : List (K × V)) (mid : State) (k : K) (after : State) (e : Error) (new : State)
        → ReadsFewer key value n st ps mid → HaveOtherKeys key.same ps → ReadsValue key.means mid k after → (IsNew key.same k ps → ⊥)
        → Answers st e new → IsPlaced (row_fault st) st e new → RefusesAt true row row_fault st e new
    twice_behind st ps mid k after e new h o r same kept placed = record {
      kept = kept;
      again = λ d x. absurd (let going = was_going st ps mid h.each r.stands.going in cc);
      named = λ _. inr placed;
      none = inr (λ qs b q.
          (let x = pairs_behind key value st mid b ps qs h.each q.each (omega (arith, h.fewer, q.long)) in
          let y = value_same key.means mid after x.after k x.pair.0 r x.at_key in
          same (x.new q.others k (key.sameness.one y.0 y.1 k x.pair.0 y.2 y.3))));
    }

    pub key_twice : (st : State) (ps : List (K × V)) (mid : State) (k : K) (after : State) (e : Error) (new : State)
        → ReadsFewer key value n st ps mid → HaveOtherKeys key.same ps → ReadsValue key.means mid k after → (IsNew key.same k ps → ⊥)
        → RefusesBy DuplicateKey after e new → (place : ℕ) → (after.error ≡ None → new.source.fault ≡ place) → IsPlaceOf place mid
        → RefusesAt true row row_fault st e new
    key_twice st ps mid k after e new h o r same refused place there at =
        let still = (pairs_still key value st ps mid h.each).1 in
        twice_behind st ps mid k after e new h o r same
        (answered_later (ap (λ (x : State). x.failed) r.moved ∙ still) (first_kept {st = after} (value_going r) refused))
        (length mid.rest, twice ps mid after k h o r same (refused (value_going r)).0 refl, before_later st mid (length mid.rest) new still (before_at mid (length mid.rest) place new (there (value_going r)) at))

    -- or all pairs were read, and the key of one is that of a pair before it,
    pub row_twice : (st : State) (ps : List (K × V)) (b : State) (e : Error) (new : State) → length ps ≡ n → Pairs key value st ps b
        → KeyTwice ps → RefusesBy DuplicateKey b e new → StandsHere b new → RefusesAt true row row_fault st e new
    row_twice st ps b e new long each t refused here =
        let all = subst (λ z. Pairs key value st z b) t.is each in
        let s = pairs_split key value st t.before t.pair t.behind b all in
        let still = pairs_still key value st ps b each in
        let going : b.error ≡ None = still.0 ∙ was_going st t.before s.mid s.before s.at_key.stands.going in
        let h : ReadsFewer key value n st t.before s.mid = record {
          fewer = omega (arith, long, ap length t.is, length-append t.before (t.pair ∷ t.behind));
          each = s.before;
        } in
        twice_behind st t.before s.mid t.pair.0 s.after e new h t.others s.at_key t.known
        (answered_later still.1 (first_kept {st = b} going refused)) (
          length b.rest,
          told_twice ps b t.before s.mid s.after t.pair.0 each h t.others s.at_key t.known (refused going).0 refl,
          before_later st b (length b.rest) new still.1 (here going),
        )

    -- or its value wasn't read,
    pub value_refused : {takes : Bool} (st : State) (ps : List (K × V)) (mid : State) (k : K) (after : State) (e : Error) (new : State)
        → ReadsFewer key value n st ps mid → ReadsValue key.means mid k after
        → RefusesAt takes (ReadsValue value.means) value.faults.fault after e new → RefusesAt true row row_fault st e new
    value_refused st ps mid k after e new h r refused =
        let still = pairs_still key value st ps mid h.each in
        refused_later (ReadsValue value.means) value.faults.fault row row_fault st after e new (λ _. refl)
        (ap (λ (x : State). x.failed) r.moved ∙ still.1) (was_going st ps mid h.each r.stands.going)
        (ap (λ (x : State). x.error) r.moved ∙ r.stands.going) (λ z f. at_value ps mid after k h r f)
        (λ none qs b q.
        (let x = pairs_behind key value st mid b ps qs h.each q.each (omega (arith, h.fewer, q.long)) in
        let y = value_same key.means mid x.after after x.pair.0 k x.at_key r in
        none x.pair.1 x.behind (subst (λ (z : State). ReadsValue value.means z x.pair.1 x.behind) y.4 x.at_value))) refused

    no_place_behind : (st : State) (ps : List (K × V)) (mid : State) (k : K) (after : State) (e : Error) (new : State)
        → Pairs key value st ps mid → ReadsValue key.means mid k after → e ≡ Memory → Answers after e new
        → RefusesAt true row row_fault st e new
    no_place_behind st ps mid k after e new h r is kept = record {
      kept = answered_later (ap (λ (x : State). x.failed) r.moved ∙ (pairs_still key value st ps mid h).1) kept;
      again = λ d x. absurd (let going = was_going st ps mid h r.stands.going in cc);
      named = λ _. inl (inl (refl, is));
      none = inl (inl (refl, is));
    }

    -- or memory was wanted behind all pairs,
    pub no_memory : (st : State) (ps : List (K × V)) (b : State) (e : Error) (new : State) → Pairs key value st ps b → b.error ≡ None
        → RefusesBy Memory b e new → RefusesAt true row row_fault st e new
    no_memory st ps b e new each going refused = record {
      kept = answered_later (pairs_still key value st ps b each).1 (first_kept {st = b} going refused);
      again = λ d x. absurd (let before = was_going st ps b each going in cc);
      named = λ _. inl (inl (refl, (refused going).0));
      none = inl (inl (refl, (refused going).0));
    }

    -- or for a pair of the key, before its value was read
    pub no_place : (st : State) (ps : List (K × V)) (mid : State) (k : K) (after : State) (e : Error) (new : State)
        → Pairs key value st ps mid → ReadsValue key.means mid k after → RefusesBy Memory after e new
        → RefusesAt true row row_fault st e new
    no_place st ps mid k after e new h r refused =
        no_place_behind st ps mid k after e new h r (refused (value_going r)).0 (first_kept {st = after} (value_going r) refused)

    -- or behind it
    pub no_room : (st : State) (ps : List (K × V)) (mid : State) (k : K) (after : State) (v : V) (last : State) (e : Error) (new : State)
        → Pairs key value st ps mid → ReadsValue key.means mid k after → ReadsValue value.means after v last
        → RefusesBy Memory last e new → RefusesAt true row row_fault st e new
    no_room st ps mid k after v last e new h r q refused =
        no_place_behind st ps mid k after e new h r (refused (value_going q)).0
        (answered_later (ap (λ (x : State). x.failed) q.moved) (first_kept {st = last} (value_going q) refused))

  -- a whole map
  abbrev Meant : Standing → Term → List (K × V) → Type 0
  Meant = MeansMap (key.ignores_standing && value.ignores_standing) key.means value.means key.same

  abbrev Fault : State → Located → Type 0
  Fault = MapFault key value

  pub open_refused : {takes : Bool} (st : State) (e : Error) (new : State) → RefusesAt takes (Opens map) (Here (OpenFault map)) st e new
      → RefusesAt true (ReadsValue Meant) Fault st e new
  open_refused st e new r =
      refused_first (Opens map) (Here (OpenFault map)) (ReadsValue Meant) Fault st e new (λ _. refl) (λ _. unopened)
      (λ none ps b h. (let x = value_map key value st ps b h in none (2 * x.pairs) x.first x.opened)) r

  -- what else stands there was opened so too
  pub record Others (n : ℕ) (first : State) (ps : List (K × V)) (b : State) : Type 0 where
    pub last : State
    pub others : ReadsPairsRow key value n first ps last
    pub closed : Closes InMap last b

  pub others_in : (st : State) (n : ℕ) (first : State) (ps : List (K × V)) (b : State) → Opens map st (2 * n) first
      → ReadsValue Meant st ps b → Others n first ps b
  others_in st n first ps b h k =
      let x = value_map key value st ps b k in
      let s = opens_same map st (2 * x.pairs) (2 * n) x.first first x.opened h in
      record {
        last = x.last;
        others = record {
          long = x.row.long ∙ (omega (arith, s.0));
          each = subst (λ (z : State). Pairs key value z ps x.last) s.1 x.row.each;
          others = x.row.others;
        };
        closed = x.closed;
      }

  pub row_refused : (st : State) (n : ℕ) (first : State) (e : Error) (new : State) → Opens map st (2 * n) first
      → RefusesAt true (ReadsPairsRow key value n) (PairsFault key value n) first e new
      → RefusesAt true (ReadsValue Meant) Fault st e new
  row_refused st n first e new h r =
      refused_later (ReadsPairsRow key value n) (PairsFault key value n) (ReadsValue Meant) Fault st first e new (λ t. t)
      (opened_sound h) h.begun.going (opened_going h) (λ _. at_pair h)
      (λ none ps b k. (let x = others_in st n first ps b h k in none ps x.last x.others)) r

  pub end_refused : {takes : Bool} (st : State) (n : ℕ) (first : State) (ps : List (K × V)) (last : State) (e : Error) (new : State)
      → Opens map st (2 * n) first → ReadsPairsRow key value n first ps last
      → RefusesAt takes (λ st (_ : Unit {0}) b. Closes InMap st b) (Here (CloseFault InMap)) last e new
      → RefusesAt true (ReadsValue Meant) Fault st e new
  end_refused st n first ps last e new h k r =
      let still = pairs_still key value first ps last k.each in
      refused_later (λ st (_ : Unit {0}) b. Closes InMap st b) (Here (CloseFault InMap)) (ReadsValue Meant) Fault st last e new (λ _. refl)
      (still.1 ∙ opened_sound h) h.begun.going (still.0 ∙ opened_going h) (λ _. unclosed h k)
      (λ none qs b z.
      (let x = others_in st n first qs b h z in
      none tt b (subst (λ (y : State). Closes InMap y b)
      (pairs_end key value first last x.last ps qs k.each x.others.each (k.long ∙ sym x.others.long)) x.closed))) r

  pub all_read : (st : State) (n : ℕ) (first : State) (ps : List (K × V)) (last b : State) → Opens map st (2 * n) first
      → ReadsPairsRow key value n first ps last → Closes InMap last b → ReadsValue Meant st ps b
  all_read st n first ps last b h k c =
      map_value key value st ps b (record { pairs = n; first = first; opened = h; last = last; row = k; closed = c })
