-- What stands in a field of several values is read: its first code is looked at, and then an array of them or one of them is read.
use Rattle.std.proofs.Common.{◌≡◌, ◌⊎◌, inl, inr, ℕ, Bool, true, false, List, [], ◌∷◌, length, Option, Some, None, refl, sym, ap, ◌∙◌, subst}
use Rattle.std.proofs.lemmas.Bool.{ne_eqb}
use Rattle.amqp_model.specs.Term.{array, Term, Terms, leaf, container, described, kept, barred, list, map as map_kind}
use Rattle.amqp_model.specs.Term.{none, more}
use Rattle.amqp_model.specs.Constructors.{compound, format}
use Rattle.amqp_model.specs.Standing.{Standing}
use Rattle.amqp_model.specs.Ranges.{IsNoArray}
use Rattle.amqp_wire.specs.declared.error.Error.{Error}
use Rattle.amqp_wire.specs.declared.error.Error.TheVariants.{Memory, EmptyMultiple}
use Rattle.amqp_decoder.specs.State.{IsPlaceOf, State}
use Rattle.amqp_decoder.specs.Steps.{RefusesBy}
use Rattle.amqp_decoder.specs.Reading.{PeeksCode}
use Rattle.amqp_decoder.specs.Primitives.{Stands, ReadsValue}
use Rattle.amqp_decoder.proofs.Steps.{answered_later, first_kept}
use Rattle.amqp_decoder.proofs.Places.{before_at}
use Rattle.amqp_decoder.proofs.Opening.{not_array}
use Rattle.amqp_decoder.proofs.Misspelled.{term_under, container_there}
use Rattle.amqp_decoder.proofs.Peeks.{value-peeked}
use Rattle.amqp_decoder.proofs.OneReading.{value_same}
use Rattle.amqp_decoder.specs.Places.{Located, RefusesAt}
use Rattle.amqp_codec.specs.TermType.{TermType}
use Rattle.amqp_codec.specs.laws.Refusal.{NoneStands, refused_first, refused_later, value_going}
use Rattle.amqp_codec.specs.laws.Peek.{peeked_failed, peeked_going}
use Rattle.amqp_codec.specs.EitherMeaning.{in_first, in_second}
use Rattle.amqp_codec.specs.Each.{EachMeans, MeansItems}
use Rattle.amqp_codec.specs.laws.ItemsType.{items_cases}
use Rattle.amqp_containers.specs.declared.array.Array.{Array}
use Rattle.amqp_containers.specs.ArrayType.{array_of}
use Rattle.amqp_containers.specs.Several.{is_array_code, MeansOne, MeansSeveral, MeansAtLeastOne, MeansMultiple, multiple_faults}
use Rattle.amqp_containers.specs.Several.{MandatoryFault, not_read, no_items}

-- what the match on the code tells
array_test : (c : ℕ) → (c ≡ 0xe0) ⊎ (c ≡ 0xf0) → is_array_code c ≡ true
array_test c (inl e) = ap is_array_code e
array_test c (inr e) = ap is_array_code e

pub other_test : (c : ℕ) → (c ≡ 0xe0 → ⊥) → (c ≡ 0xf0 → ⊥) → is_array_code c ≡ false
other_test c f g = rw (ne_eqb c 0xe0 f, ne_eqb c 0xf0 g) refl

array_format : (c : ℕ) → (c ≡ 0xe0) ⊎ (c ≡ 0xf0) → (w : ℕ) × (format c ≡ compound array w)
array_format c (inl e) = (1, ap format e)
array_format c (inr e) = (4, ap format e)

-- what is no array
no_array : (t : Term) → ((us : Terms) → t ≡ container array us → ⊥) → IsNoArray t
no_array (container array us) never = never us refl
no_array (container list us) never = tt
no_array (container map_kind us) never = tt
no_array (leaf p) never = tt
no_array (described d t) never = tt
no_array (kept b) never = tt
no_array (barred r) never = tt

-- the one value
one_of : {T : Type 0} (means : Standing → Term → T → Type 0) (s : Standing) (t : Term) (vs : List T) → MeansOne means s t vs
    → (v : T) × (vs ≡ v ∷ []) × means s t v
one_of means s t [] m = absurd m
one_of means s t (v ∷ []) m = (v, refl, m)
one_of means s t (v ∷ w ∷ vs) m = absurd m

module _ {T : Type 0} (u : TermType T) where
  abbrev Several : State → Option (Array T) → State → Type 0
  Several = ReadsValue (MeansMultiple u)

  abbrev SeveralFault : State → Located → Type 0
  SeveralFault = (multiple_faults u).fault

  abbrev InArray : Standing → Term → List T → Type 0
  InArray = MeansItems u.ignores_standing u.means array

  abbrev AnArray : State → Array T → State → Type 0
  AnArray = ReadsValue (array_of u).means

  module _ (st : State) (c : ℕ) (mid : State) (p : PeeksCode st c mid) where
    array_there : (c ≡ 0xe0) ⊎ (c ≡ 0xf0) → (s : List ℕ) (t : Term) → Stands st s t → IsNoArray t → ⊥
    array_there is s t k other =
        let w = array_format c is in
        let x = container_there c array w.0 t w.1 (term_under st c p.after s t p.begun k) in
        subst IsNoArray x.1 other

    none_there : (c ≡ 0xe0 → ⊥) → (c ≡ 0xf0 → ⊥) → (s : List ℕ) (us : Terms) → Stands st s (container array us) → ⊥
    none_there f g s us k =
        let x = term_under st c p.after s (container array us) p.begun k in not_array c f g x.0 x.1

    -- an array is read
    array_in : (v : Array T) (b : State) → AnArray mid v b → AnArray st v b
    array_in v b h = (value-peeked (array_of u).means st mid b c v p).0 h

    pub items_read : (v : Array T) (b : State) → (v.0.items ≡ [] → ⊥) → AnArray mid v b → Several st (Some v) b
    items_read v b some h =
        let k = array_in v b h in
        record { bytes = k.bytes; term = k.term; stands = k.stands; moved = k.moved; meant = (inl k.meant, some) }

    pub no_items_read : (v : Array T) (b : State) → v.0.items ≡ [] → AnArray mid v b → Several st None b
    no_items_read v b e h =
        let k = array_in v b h in
        record {
          bytes = k.bytes;
          term = k.term;
          stands = k.stands;
          moved = k.moved;
          meant = inl (subst (InArray _ k.term) e k.meant);
        }

    taken_so : (v : Array T) (b : State) (vs : List T) → v.0.items ≡ vs → (h : ReadsValue (λ s t (_ : Unit {0}). InArray s t vs) st tt b)
        → AnArray mid v b
    taken_so v b vs e h =
        (value-peeked (array_of u).means st mid b c v p).1
        (record {
          bytes = h.bytes;
          term = h.term;
          stands = h.stands;
          moved = h.moved;
          meant = subst (InArray _ h.term) (sym e) h.meant;
        })

    no_array_of : (c ≡ 0xe0) ⊎ (c ≡ 0xf0) → (empty : Array T) → empty.0.items ≡ [] → NoneStands AnArray mid → NoneStands Several st
    no_array_of is empty e nothing None b h =
        elim h.meant [
          | inl m ↦ nothing empty b (taken_so empty b [] e
              (record { bytes = h.bytes; term = h.term; stands = h.stands; moved = h.moved; meant = m }))
          | inr (other, m) ↦ absurd m
        ]
    no_array_of is empty e nothing (Some v) b h =
        elim h.meant.0 [
          | inl m ↦ nothing v b (taken_so v b v.0.items refl
              (record { bytes = h.bytes; term = h.term; stands = h.stands; moved = h.moved; meant = m }))
          | inr (other, m) ↦ array_there is h.bytes h.term h.stands other
        ]

    pub array_refused : (c ≡ 0xe0) ⊎ (c ≡ 0xf0) → (empty : Array T) → empty.0.items ≡ [] → (e : Error) (new : State)
        → RefusesAt true AnArray (array_of u).faults.fault mid e new → RefusesAt true Several SeveralFault st e new
    array_refused is empty same e new h =
        let going = peeked_going st c mid p in
        refused_later AnArray (array_of u).faults.fault Several SeveralFault st mid e new (λ t. t) (peeked_failed st c mid p)
        going.0 going.1 (λ _. in_first p (array_test c is)) (no_array_of is empty same) h

    -- one value is read
    module _ (f : c ≡ 0xe0 → ⊥) (g : c ≡ 0xf0 → ⊥) where
      no_items_there : (vs : List T) (s : List ℕ) (z : Standing) (t : Term) → Stands st s t → InArray z t vs → ⊥
      no_items_there vs s z t k m =
          items_cases u.ignores_standing u.means array z vs (λ t. Stands st s t → ⊥) (λ ts ss q n. none_there f g s ts) t m k

      pub item_read : (x : T) (v : Array T) (b : State) → v.0.items ≡ x ∷ [] → ReadsValue u.means mid x b → Several st (Some v) b
      item_read x v b e h =
          let k = (value-peeked u.means st mid b c x p).0 h in
          let other = no_array k.term (λ us is. none_there f g k.bytes us (subst (Stands st k.bytes) is k.stands)) in
          record {
            bytes = k.bytes;
            term = k.term;
            stands = k.stands;
            moved = k.moved;
            meant = (inr (other, subst (MeansOne u.means _ k.term) (sym e) k.meant), λ z. (let y = sym e ∙ z in cc));
          }

      no_item : NoneStands (ReadsValue u.means) mid → NoneStands Several st
      no_item nothing None b h =
          elim h.meant [ inl m ↦ no_items_there [] h.bytes _ h.term h.stands m | inr (other, m) ↦ absurd m ]
      no_item nothing (Some v) b h =
          elim h.meant.0 [
            | inl m ↦ no_items_there v.0.items h.bytes _ h.term h.stands m
            | inr (other, m) ↦
                (let x = one_of u.means _ h.term v.0.items m in
                nothing x.0 b ((value-peeked u.means st mid b c x.0 p).1
                (record { bytes = h.bytes; term = h.term; stands = h.stands; moved = h.moved; meant = x.2 })))
          ]

      pub item_refused : {takes : Bool} (e : Error) (new : State) → RefusesAt takes (ReadsValue u.means) u.faults.fault mid e new
          → RefusesAt true Several SeveralFault st e new
      item_refused e new h =
          let going = peeked_going st c mid p in
          refused_later (ReadsValue u.means) u.faults.fault Several SeveralFault st mid e new (λ _. refl) (peeked_failed st c mid p)
          going.0 going.1 (λ _. in_second p (other_test c f g)) no_item h

    -- memory for the array of one was wanted
    pub no_room : (x : T) (b : State) (e : Error) (new : State) → RefusesBy Memory b e new → ReadsValue u.means mid x b
        → RefusesAt true Several SeveralFault st e new
    no_room x b e new refused h = let is = (refused (value_going h)).0 in record {
      kept = answered_later (ap (λ (z : State). z.failed) h.moved ∙ peeked_failed st c mid p) (first_kept {st = b} (value_going h) refused);
      again = λ d y. absurd (let z = (peeked_going st c mid p).0 in cc);
      named = λ _. inl (inl (refl, is));
      none = inl (inl (refl, is));
    }

  -- an array without items means no others
  each_none : (means : Standing → Term → T → Type 0) (ss zs : List Standing) (ts : Terms) (vs : List T) → EachMeans means ss ts []
      → EachMeans means zs ts vs → vs ≡ []
  each_none means ss zs ts [] h k = refl
  each_none means ss zs (more t ts) (v ∷ vs) h k = none_of ss h
    where
      none_of : (ss : List Standing) → EachMeans means ss (more t ts) [] → v ∷ vs ≡ []
      none_of [] m = absurd m
      none_of (s ∷ rest) m = absurd m
  each_none means ss zs none (v ∷ vs) h k = none_of zs k
    where
      none_of : (zs : List Standing) → EachMeans means zs none (v ∷ vs) → v ∷ vs ≡ []
      none_of [] m = absurd m
      none_of (z ∷ rest) m = absurd m

  none_or_some : (s : Standing) (t : Term) (vs : List T) → MeansSeveral u s t [] → MeansSeveral u s t vs → vs ≡ []
  none_or_some s t vs (inr (other, m)) k = absurd m
  none_or_some s t vs (inl m) k =
      items_cases u.ignores_standing u.means array s [] (λ t. MeansSeveral u s t vs → vs ≡ []) (λ ts ss q n k. others ts ss n k) t m k
    where
      others : (ts : Terms) (ss : List Standing) → EachMeans u.means ss ts [] → MeansSeveral u s (container array ts) vs → vs ≡ []
      others ts ss n (inl k) = each_none u.means ss k.1 ts vs n k.3
      others ts ss n (inr (other, k)) = absurd other

  abbrev AtLeastOne : State → Array T → State → Type 0
  AtLeastOne = ReadsValue (MeansAtLeastOne u)

  as_several : (st : State) (v : Array T) (b : State) → AtLeastOne st v b → Several st (Some v) b
  as_several st v b h = record { bytes = h.bytes; term = h.term; stands = h.stands; moved = h.moved; meant = h.meant }

  pub mandatory_refused : (st : State) (e : Error) (new : State) → RefusesAt true Several SeveralFault st e new
      → RefusesAt true AtLeastOne (MandatoryFault u) st e new
  mandatory_refused st e new h =
      refused_first Several SeveralFault AtLeastOne (MandatoryFault u) st e new (λ t. t) (λ _. not_read)
      (λ none v b k. none (Some v) b (as_several st v b k)) h

  -- an array without items stands there
  pub none_refused : (st mid : State) (e : Error) (new : State) (w : Option (Array T)) → w ≡ None
      → RefusesBy EmptyMultiple mid e new → (place : ℕ) → (mid.error ≡ None → new.source.fault ≡ place) → IsPlaceOf place st
      → Several st w mid → RefusesAt true AtLeastOne (MandatoryFault u) st e new
  none_refused st mid e new w empty refused place there at k =
      let h : Several st None mid = subst (λ x. Several st x mid) empty k in
      let is = (refused (value_going h)).0 in
      record {
        kept = answered_later (ap (λ (z : State). z.failed) h.moved) (first_kept {st = mid} (value_going h) refused);
        again = λ d y. absurd (let z = h.stands.going in cc);
        named = λ _. inr (length st.rest, no_items h is refl, before_at st (length st.rest) _ new (there (value_going h)) at);
        none = inr (λ v b k. (let x = value_same (MeansMultiple u) st mid b None (Some v) h (as_several st v b k) in
            x.3.1 (none_or_some x.0 x.1 v.0.items x.2 x.3.0)));
      }
