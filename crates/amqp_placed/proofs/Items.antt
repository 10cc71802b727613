-- A fault of a list of values or of a map is shown by bytes, where those of its items are (Part 1, sections 1.6.22 and 1.6.23).
use Rattle.std.proofs.Common.{◌≡◌, ℕ, suc, ◌*◌, List, [], ◌∷◌, ◌++◌, length, refl, sym, ap, ◌∙◌, subst, arith}
use Rattle.std.proofs.lemmas.List.{length-append}
use Rattle.amqp_model.specs.Term.{list, map, array, Term}
use Rattle.amqp_model.specs.Standing.{Standing}
use Rattle.amqp_wire.specs.declared.error.Error.{Error}
use Rattle.amqp_wire.specs.declared.error.Error.TheVariants.{DuplicateKey}
use Rattle.amqp_decoder.specs.declared.frame.Place.TheVariants.{InList, InMap}
use Rattle.amqp_decoder.specs.State.{State}
use Rattle.amqp_decoder.specs.Primitives.{ReadsValue}
use Rattle.amqp_decoder.specs.Items.{Row}
use Rattle.amqp_decoder.specs.Places.{Located}
use Rattle.amqp_decoder.proofs.ContainerTerms.{row_joined}
use Rattle.amqp_codec.specs.TermType.{TermType}
use Rattle.amqp_codec.specs.ItemsReading.{ReadsEach, ItemsFault, unopened, at_item, unclosed}
use Rattle.amqp_codec.specs.MapReading as maps
use Rattle.amqp_codec.specs.MapReading.{Pairs, PairsFault, at_key, twice, told_twice, at_value, MapFault, at_pair}
use Rattle.amqp_codec.specs.VecType.{list_opening}
use Rattle.amqp_placed.specs.Facing.{AreShown}
use Rattle.amqp_placed.proofs.Opening.{open_shown}
use Rattle.amqp_placed.proofs.Inside.{inside_shown}
use Rattle.amqp_placed.proofs.Ends.{closing_shown}

no_array : list ≡ array → ⊥
no_array e = cc

-- Values that were read are terms that were taken.
pub record Taken (st b : State) (n : ℕ) : Type 0 where
  pub terms : List Term
  pub bytes : List ℕ
  pub row : Row st terms bytes b
  pub long : length terms ≡ n

none_taken : (st b : State) → b ≡ st → Taken st b 0
none_taken st b is = record { terms = []; bytes = []; row = (refl, is); long = refl }

one_taken : {A : Type 0} (means : Standing → Term → A → Type 0) (st mid b : State) (v : A) (n : ℕ) → ReadsValue means st v mid
    → Taken mid b n
    → Taken st b (suc n)
one_taken means st mid b v n h t = record {
  terms = h.term ∷ t.terms;
  bytes = h.bytes ++ t.bytes;
  row = (h.bytes, t.bytes, refl, h.stands, subst (λ x. Row x t.terms t.bytes b) h.moved t.row);
  long = ap suc t.long;
}

one_behind : (st mid b : State) (n : ℕ) → Taken st mid n → Taken mid b 1 → Taken st b (suc n)
one_behind st mid b n t u =
    let sum : length (t.terms ++ u.terms) ≡ suc n = omega (arith, length-append t.terms u.terms, t.long, u.long) in
    record {
      terms = t.terms ++ u.terms;
      bytes = t.bytes ++ u.bytes;
      row = row_joined t.terms u.terms st mid b t.bytes u.bytes t.row u.row;
      long = sum;
    }

pub each_taken : {A : Type 0} (means : Standing → Term → A → Type 0) (st : State) (vs : List A) (b : State)
    → ReadsEach (ReadsValue means) st vs b → Taken st b (length vs)
each_taken means st [] b h = none_taken st b h
each_taken means st (v ∷ vs) b (mid, h, k) = one_taken means st mid b v (length vs) h (each_taken means mid vs b k)

pub items_shown : {A : Type 0} (means : Standing → Term → A → Type 0) (fault : State → Located → Type 0) (e : Error)
    → AreShown e fault
    → AreShown e (ItemsFault list_opening means fault)
items_shown means fault e shown st f is (unopened h) = open_shown list no_array st f h
items_shown means fault e shown st f is (at_item {n} {first} o h) =
    let t = each_taken means first h.before h.mid h.each in
    inside_shown list no_array st first h.mid n t.terms t.bytes f o t.row (omega (arith, t.long, h.fewer)) (shown h.mid f is h.named)
items_shown means fault e shown st f is (unclosed {n} {first} {vs} {last} o h fault_) =
    let t = each_taken means first vs last h.each in
    closing_shown list no_array InList st first last n t.terms t.bytes f o t.row (omega (arith, t.long, h.long)) fault_

module _ {K V : Type 0} (key : TermType K) (value : TermType V) where
  pub pairs_taken : (st : State) (ps : List (K × V)) (b : State) → Pairs key value st ps b → Taken st b (2 * length ps)
  pairs_taken st [] b h = none_taken st b h
  pairs_taken st (p ∷ ps) b (m, n, h, k, others) =
      let two : 2 * suc (length ps) ≡ suc (suc (2 * length ps)) = omega arith in
      subst (Taken st b) (sym two)
      (one_taken key.means st m b p.0 (suc (2 * length ps)) h
      (one_taken value.means m n b p.1 (2 * length ps) k (pairs_taken n ps b others)))

  not_array : map ≡ array → ⊥
  not_array e = cc

  -- but for equal keys, which may be told behind the last pair
  pub map_shown : (e : Error) → (e ≡ DuplicateKey → ⊥) → AreShown e key.faults.fault
      → AreShown e value.faults.fault
      → AreShown e (MapFault key value)
  map_shown e other keys values st f is (maps.unopened h) = open_shown map not_array st f h
  map_shown e other keys values st f is (at_pair {n} {first} o (at_key ps mid h fault)) =
      let t = pairs_taken first ps mid h.each in
      inside_shown map not_array st first mid (2 * n) t.terms t.bytes f o t.row (omega (
        arith,
        t.long,
        h.fewer,
      )) (keys mid f is fault)
  map_shown e other keys values st f is (at_pair {n} {first} o (twice ps mid after k h others read known error place)) =
      absurd (other (sym is ∙ error))
  map_shown e other keys values st f is (at_pair {n} {first} o
      (told_twice all b ps mid after k each h others read known error place)) =
      absurd (other (sym is ∙ error))
  map_shown e other keys values st f is (at_pair {n} {first} o (at_value ps mid after k h read fault)) =
      let t = pairs_taken first ps mid h.each in
      let behind = one_behind first mid after (2 * length ps) t
      (one_taken key.means mid after after k 0 read (none_taken after after refl)) in
      inside_shown map not_array st first after (2 * n) behind.terms behind.bytes f o behind.row
      (omega (arith, behind.long, h.fewer)) (values after f is fault)
  map_shown e other keys values st f is (maps.unclosed {n} {first} {ps} {last} o h fault) =
      let t = pairs_taken first ps last h.each in
      closing_shown map not_array InMap st first last (2 * n) t.terms t.bytes f o t.row (omega (arith, t.long, h.long)) fault
