-- The pairs of a map in the order of its keys are read one after another: what each exit of the readers answers.
use Rattle.std.proofs.Common.{◌≡◌, ℕ, ◌+◌, ◌*◌, ◌<◌, ◌&&◌, Bool, true, false, List, [], ◌∷◌, ◌++◌, length, Result, Ok, Err, sym, ap}
use Rattle.std.proofs.Common.{◌∙◌, subst, arith, length-append, Ordering}
use Rattle.std.specs.BTreeMap.{BTreeMap, insert_entry}
use Rattle.std.specs.Result.{is_err, OnOk}
use Rattle.amqp_model.specs.Term.{map, Term}
use Rattle.amqp_model.specs.laws.Item.{clash}
use Rattle.amqp_model.specs.Standing.{Standing}
use Rattle.amqp_wire.specs.declared.error.Error.{Error}
use Rattle.amqp_decoder.specs.declared.frame.Place.TheVariants.{InMap}
use Rattle.amqp_decoder.specs.State.{State}
use Rattle.amqp_decoder.specs.Primitives.{ReadsValue}
use Rattle.amqp_decoder.specs.Containers.{Opens, Closes}
use Rattle.amqp_decoder.specs.Places.{RefusesAt}
use Rattle.amqp_codec.specs.TermType.{TermType}
use Rattle.amqp_codec.specs.laws.Refusal.{refused_first, refused_later, opened_going, opened_sound}
use Rattle.amqp_codec.specs.Pairs.{IsNew, HaveOtherKeys, MeansMap}
use Rattle.amqp_codec.specs.KeyOrder.{place, in_order, IsOrderOf}
use Rattle.amqp_codec.specs.laws.KeyOrder.{new_in_order, new_before, one_more_in_order, inserted_in_place}
use Rattle.amqp_codec.specs.MapReading.{Pairs, ReadsPairsRow, ReadsFewer, PairsFault, MapFault, at_pair}
use Rattle.amqp_codec.specs.laws.MapReading.{pairs_more, others_more}
use Rattle.amqp_codec.specs.BTreeMapMeaning.{MeansInOrder}
use Rattle.amqp_codec.specs.BTreeMaps.{ReadsInOrder}
use Rattle.amqp_codec.proofs.MapSteps.{others_in, all_read}

-- an insertion that wasn't refused
inserted : {K V A E : Type 0} (cmp : K → K → Ordering) (r : Result A E) (b : Bool) (m n : BTreeMap K V) (k : K) (v : V) → b ≡ false
    → b ≡ is_err r → OnOk r (n.entries ≡ insert_entry cmp m.entries k v) → n.entries ≡ insert_entry cmp m.entries k v
inserted cmp (Ok x) b m n k v f e h = h
inserted cmp (Err x) b m n k v f e h = absurd (clash e f)

module _ {K V : Type 0} (key : TermType K) (value : TermType V) (cmp : K → K → Ordering) where
  -- So many pairs were read, where the source tells what is read, and the map has them in the order of their keys.
  pub record InOrderSoFar (Told : Type 0) (n : ℕ) (st : State) (m : BTreeMap K V) (mid : State) : Type 0 where
    pub pairs : List (K × V)
    pub long : length pairs ≡ n
    pub others : HaveOtherKeys key.same pairs
    pub sorted : m.entries ≡ in_order cmp pairs
    pub each : Told → Pairs key value st pairs mid

  module _ {Told : Type 0} {n : ℕ} {st : State} {m : BTreeMap K V} {mid : State} (h : InOrderSoFar Told n st m mid) where
    pub fewer_so_far : (count : ℕ) → n < count → Told → ReadsFewer key value count st h.pairs mid
    fewer_so_far count l told = let long = h.long in
        record { fewer = omega (arith, long, l); each = h.each told }

    pub all_so_far : Told → ReadsInOrder key value cmp n st m mid
    all_so_far told =
        record { pairs = h.pairs; row = record { long = h.long; each = h.each told; others = h.others }; sorted = h.sorted }

    -- a key is new to the map exactly if it is new to the pairs
    pub new_to_pairs : (k : K) → IsNew key.same k m.entries → IsNew key.same k h.pairs
    new_to_pairs k i = new_before cmp key.same k h.pairs (subst (IsNew key.same k) h.sorted i)

    pub known_to_pairs : (k : K) → (IsNew key.same k m.entries → ⊥) → IsNew key.same k h.pairs → ⊥
    known_to_pairs k f i = f (subst (IsNew key.same k) (sym h.sorted) (new_in_order cmp key.same k h.pairs i))

    pub one_more_so_far : {A E : Type 0} (r : Result A E) (b : Bool) (o : IsOrderOf cmp key.same) (k : K) (v : V) (after last : State)
        (m' : BTreeMap K V) → b ≡ false → b ≡ is_err r → OnOk r (m'.entries ≡ insert_entry cmp m.entries k v)
        → IsNew key.same k m.entries → (Told → ReadsValue key.means mid k after) → (Told → ReadsValue value.means after v last)
        → InOrderSoFar Told (n + 1) st m' last
    one_more_so_far r b o k v after last m' f e is new at_key at_value =
        let fresh = new_to_pairs k new in
        let long = h.long in
        record {
          pairs = h.pairs ++ (k, v) ∷ [];
          long = length-append h.pairs ((k, v) ∷ []) ∙ omega (arith, long);
          others = others_more key value h.pairs k v h.others fresh;
          sorted = inserted cmp r b m m' k v f e is ∙ inserted_in_place o k v m.entries new ∙ ap (place cmp (k, v)) h.sorted
              ∙ sym (one_more_in_order o h.pairs (k, v) key.sameness.sym fresh);
          each = λ told. pairs_more key value st h.pairs k v mid after last (h.each told) (at_key told) (at_value told);
        }

  -- what refuses the pairs as a row refuses them in order
  pub row_refused_in_order : (n : ℕ) (st : State) (e : Error) (new : State)
      → RefusesAt true (ReadsPairsRow key value n) (PairsFault key value n) st e new
      → RefusesAt true (ReadsInOrder key value cmp n) (PairsFault key value n) st e new
  row_refused_in_order n st e new r =
      refused_first (ReadsPairsRow key value n) (PairsFault key value n) (ReadsInOrder key value cmp n) (PairsFault key value n) st e new
      (λ t. t) (λ _ f. f) (λ none m b h. none h.pairs b h.row) r

  abbrev Listed : Standing → Term → List (K × V) → Type 0
  Listed = MeansMap (key.ignores_standing && value.ignores_standing) key.means value.means key.same

  abbrev Meant : Standing → Term → BTreeMap K V → Type 0
  Meant = MeansInOrder key value cmp

  as_listed : (st : State) (m : BTreeMap K V) (b : State) (h : ReadsValue Meant st m b) → ReadsValue Listed st h.meant.pairs b
  as_listed st m b h = record { bytes = h.bytes; term = h.term; stands = h.stands; moved = h.moved; meant = h.meant.meant }

  -- and so with the whole map
  pub refused_in_order : (st : State) (e : Error) (new : State) → RefusesAt true (ReadsValue Listed) (MapFault key value) st e new
      → RefusesAt true (ReadsValue Meant) (MapFault key value) st e new
  refused_in_order st e new r =
      refused_first (ReadsValue Listed) (MapFault key value) (ReadsValue Meant) (MapFault key value) st e new (λ t. t) (λ _ f. f)
      (λ none m b h. none h.meant.pairs b (as_listed st m b h)) r

  pub pairs_refused : (st : State) (n : ℕ) (first : State) (e : Error) (new : State) → Opens map st (2 * n) first
      → RefusesAt true (ReadsInOrder key value cmp n) (PairsFault key value n) first e new
      → RefusesAt true (ReadsValue Meant) (MapFault key value) st e new
  pairs_refused st n first e new h r =
      refused_later (ReadsInOrder key value cmp n) (PairsFault key value n) (ReadsValue Meant) (MapFault key value) st first e new
      (λ t. t) (opened_sound h) h.begun.going (opened_going h) (λ _. at_pair h)
      (λ none m b k.
      (let x = others_in key value st n first k.meant.pairs b h (as_listed st m b k) in
      none m x.last (record { pairs = k.meant.pairs; row = x.others; sorted = k.meant.sorted }))) r

  pub read_in_order : (st : State) (n : ℕ) (first : State) (m : BTreeMap K V) (last b : State) → IsOrderOf cmp key.same
      → Opens map st (2 * n) first → ReadsInOrder key value cmp n first m last → Closes InMap last b → ReadsValue Meant st m b
  read_in_order st n first m last b o h k c =
      let x = all_read key value st n first k.pairs last b h k.row c in
      record {
        bytes = x.bytes;
        term = x.term;
        stands = x.stands;
        moved = x.moved;
        meant = record { pairs = k.pairs; meant = x.meant; sorted = k.sorted; order = o };
      }
