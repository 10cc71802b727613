-- The pairs of a map are read one after another: what is known between two of them.
use Rattle.std.proofs.Common.{◌≡◌, ℕ, ◌+◌, ◌<◌, Bool, List, [], ◌∷◌, ◌++◌, length, length-append, None, sym, ap, ◌∙◌, subst, arith}
use Rattle.indexmap.specs.IndexMap.{IndexMap, insert_entry}
use Rattle.amqp_decoder.specs.State.{State}
use Rattle.amqp_decoder.specs.Primitives.{ReadsValue}
use Rattle.amqp_codec.specs.TermType.{TermType}
use Rattle.amqp_codec.specs.Keys.{IsKey}
use Rattle.amqp_codec.specs.Pairs.{IsNew, HaveOtherKeys}
use Rattle.amqp_codec.specs.MapReading.{Pairs, ReadsFewer}
use Rattle.amqp_codec.specs.laws.MapReading.{pairs_more, others_more, pairs_still}
use Rattle.amqp_maps.proofs.KeyLaws.{inserted_last}

module _ {K V : Type 0} (key : TermType K) (value : TermType V) where
  -- So many pairs were read, where the source tells what is read.
  pub record PairsSoFar (Told : Type 0) (n : ℕ) (st : State) (ps : List (K × V)) (mid : State) : Type 0 where
    pub long : length ps ≡ n
    pub others : HaveOtherKeys key.same ps
    pub each : Told → Pairs key value st ps mid

  pub none_so_far : {Told : Type 0} (st : State) (ps : List (K × V)) (mid : State) → ps ≡ [] → mid ≡ st → PairsSoFar Told 0 st ps mid
  none_so_far st ps mid none same = record {
    long = ap length none;
    others = subst (HaveOtherKeys key.same) (sym none) tt;
    each = λ _. subst (λ z. Pairs key value st z mid) (sym none) same;
  }

  module _ {Told : Type 0} {n : ℕ} {st : State} {ps : List (K × V)} {mid : State} (h : PairsSoFar Told n st ps mid) where
    pub fewer_so_far : (count : ℕ) → n < count → Told → ReadsFewer key value count st ps mid
    fewer_so_far count l told = let long = h.long in
        record { fewer = omega (arith, long, l); each = h.each told }

    -- A pair of a new key was put behind them. qs: the pairs then
    pub put_so_far : (k : K) (v : V) (after last : State) (qs : List (K × V)) → qs ≡ ps ++ (k, v) ∷ [] → IsNew key.same k ps
        → (Told → ReadsValue key.means mid k after) → (Told → ReadsValue value.means after v last) → PairsSoFar Told (n + 1) st qs last
    put_so_far k v after last qs is new at_key at_value = let long = h.long in record {
      long = ap length is ∙ length-append ps ((k, v) ∷ []) ∙ omega (arith, long);
      others = subst (HaveOtherKeys key.same) (sym is) (others_more key value ps k v h.others new);
      each = λ told. subst (λ z. Pairs key value st z last) (sym is)
          (pairs_more key value st ps k v mid after last (h.each told) (at_key told) (at_value told));
    }

    -- so in a table. w: what it is by the value that is put there
    pub one_more_so_far : {eq : K → K → Bool} {S : Type 0} (is_key : IsKey key eq) (w : V → IndexMap K V S) (k : K) (v r : V)
        (after last : State) (qs : List (K × V)) → qs ≡ (w r).entries → r ≡ v → ((x : V) → (w x).entries ≡ insert_entry eq ps k x)
        → IsNew key.same k ps → (Told → ReadsValue key.means mid k after) → (Told → ReadsValue value.means after v last)
        → PairsSoFar Told (n + 1) st qs last
    one_more_so_far is_key w k v r after last qs e same put new at_key at_value =
        put_so_far k v after last qs (inserted_last is_key k v ps qs (e ∙ ap (λ x. (w x).entries) same ∙ put v) new) new at_key at_value

    -- where some were read, nothing was refused
    pub going_so_far : 0 < n → Told → (st.error ≡ None) × (mid.error ≡ None)
    going_so_far some told = let long = h.long in
        let going = first_going ps (omega (arith, long, some)) (h.each told) in
        (going, (pairs_still key value st ps mid (h.each told)).0 ∙ going)
      where
        first_going : (ps : List (K × V)) → 0 < length ps → Pairs key value st ps mid → st.error ≡ None
        first_going [] l each = absurd (omega arith)
        first_going (p ∷ ps) l each = each.2.stands.going
