-- Values of any kind are read: what each exit of the readers answers.
use Rattle.std.proofs.Common.{◌≡◌, inl, inr, ℕ, suc, ◌≤◌, Bool, true, false, List, [], ◌∷◌, length, drop, Option, Some, None}
use Rattle.std.proofs.Common.{Result, Ok, Err, refl, sym, ap, ◌∙◌, subst, arith}
use Rattle.amqp_model.specs.Term.{Container, Descriptor, Term}
use Rattle.amqp_model.specs.Standing.{Standing}
use Rattle.amqp_model.specs.laws.Item.{clash}
use Rattle.amqp_wire.specs.declared.error.Error.{Error}
use Rattle.amqp_decoder.specs.declared.frame.Place.TheVariants.{InArray}
use Rattle.amqp_decoder.specs.State.{State, in_container}
use Rattle.amqp_decoder.specs.Reading.{RefusesRead, PeeksCode, BeginFault, after_peek}
use Rattle.amqp_decoder.specs.Primitives.{ReadsValue}
use Rattle.amqp_decoder.specs.Containers.{Opens}
use Rattle.amqp_decoder.specs.Arrays.{no_items, shared_by, Starts, OpensArray}
use Rattle.amqp_decoder.specs.Described.{OpensDescribed}
use Rattle.amqp_decoder.specs.Places.{Located, Here, RefusesAt, AnswersAt, StandsHere}
use Rattle.amqp_decoder.proofs.Places.{refused_here}
use Rattle.amqp_codec.specs.Faults.{Faults}
use Rattle.amqp_codec.specs.TermType.{TermType}
use Rattle.amqp_codec.specs.laws.Refusal.{refused_first, no_memory}
use Rattle.amqp_codec.specs.laws.Peek.{value_peeked}
use Rattle.amqp_codec.specs.ItemsReading.{ReadsEach, ReadsRow, RowFault}
use Rattle.amqp_codec.specs.MapReading.{Pairs, ReadsPairsRow, PairsFault}
use Rattle.amqp_codec.specs.Pairs.{IsNew}
use Rattle.amqp_codec.specs.EqualKeys.{is_among_keys}
use Rattle.amqp_codec.specs.TreeType.{SameTree}
use Rattle.amqp_kinds.specs.declared.kind.Kind.{Kind}
use Rattle.amqp_kinds.specs.Kinds.{kind_at}
use Rattle.amqp_kinds.specs.KindReading.{IsMember, ReadsMember, KindFault, no_value, LevelFault, member_answers}
use Rattle.amqp_kinds.specs.laws.TreeMeanings.{turns_canons, not_among, among_not}
use Rattle.amqp_values.specs.declared.value.Value.{Value}
use Rattle.amqp_values.specs.Values.{value_term}
use Rattle.amqp_values.specs.laws.Values.{values_are_trees}
use Rattle.amqp_values.specs.Equality.{turn_terms}
use Rattle.amqp_values.specs.ValueMembers.{ValueMeans}
use Rattle.amqp_values.specs.Levels.{faults_of, faults_at, value_with, value_in, IsBounded}

-- The first code was looked at, and as many levels are left.
peeked_so : (o : Option (List Descriptor × ℕ)) (st : State)
    → ((after_peek o st).saved ≡ st.saved) × ((after_peek o st).nesting ≡ st.nesting)
peeked_so None st = (refl, refl)
peeked_so (Some c) st = (refl, refl)

pub bounded_peeked : (levels : ℕ) (st : State) (c : ℕ) (mid : State) → PeeksCode st c mid → IsBounded levels st → IsBounded levels mid
bounded_peeked levels st c mid p h =
    let s = peeked_so st.top.shared st in
    let saved = ap (λ (x : State). length x.saved) p.kept ∙ ap length s.0 in
    let nesting = ap (λ (x : State). x.nesting) p.kept ∙ s.1 in
    omega (arith, h, saved, nesting)

-- no code can be looked at
pub peek_refused : (f : Kind → Faults) (st : State) (e : Error) (new : State) → RefusesRead false PeeksCode BeginFault st e new → StandsHere st new
    → RefusesAt true (ReadsValue ValueMeans) (KindFault f) st e new
peek_refused f st e new r here =
    refused_first PeeksCode (Here BeginFault) (ReadsValue ValueMeans) (KindFault f) st e new no_memory (λ _. no_value)
    (value_peeked ValueMeans st) (refused_here r here)

-- what the reader of a kind answers
module _ {T : Type 0} (k : Kind) {means : Standing → Term → T → Type 0} {make : T → Value → Type 0}
    (member : IsMember value_term values_are_trees k means make) (takes : Bool) (f : Faults) where
  pub kind_answers : (st : State) (c : ℕ) (mid : State) (r : Result Value Error) (new : State) → PeeksCode st c mid → k ≡ kind_at c
      → AnswersAt takes (ReadsMember means make) (faults_of f k).fault mid r new
      → AnswersAt true (ReadsValue ValueMeans) (KindFault (faults_of f)) st r new
  kind_answers st c mid r new p is h =
      member_answers value_term values_are_trees (faults_of f) k means make member st c mid p is takes (faults_of f k).fault (λ e x. x)
      r new h

-- One more is open.
pub record Deeper (st first : State) : Type 0 where
  pub saved : length first.saved ≡ suc (length st.saved)
  pub nesting : first.nesting ≡ st.nesting
  pub few : length st.saved ≤ st.nesting

pub list_deeper : (kind : Container) (st : State) (n : ℕ) (first : State) → Opens kind st n first → Deeper st first
list_deeper kind st n first o =
    let d = o.data_ in
    let inner : length first.saved ≡ suc (length d.mid.saved) = ap (λ (x : State). length x.saved) d.entered in
    let mid : length d.mid.saved ≡ length st.saved =
    ap (λ (x : State). length x.saved) d.header.took.moved ∙ ap (λ (x : State). length x.saved) o.begun.moved in
    let begun : length o.mid.saved ≡ length st.saved = ap (λ (x : State). length x.saved) o.begun.moved in
    let limit : o.mid.nesting ≡ st.nesting = ap (λ (x : State). x.nesting) o.begun.moved in
    record {
      saved = inner ∙ ap suc mid;
      nesting = ap (λ (x : State). x.nesting) d.entered ∙ ap (λ (x : State). x.nesting) d.header.took.moved ∙ limit;
      few = omega (arith, d.few, begun, limit);
    }

started_so : (n content : ℕ) (st first : State) → Starts n content st first → (first.saved ≡ st.saved) × (first.nesting ≡ st.nesting)
started_so n content st first (inl (e, is)) = (ap (λ (x : State). x.saved) is, ap (λ (x : State). x.nesting) is)
started_so n content st first (inr (some, no_items ds c e t)) =
    (ap (λ (x : State). x.saved) t.took.moved, ap (λ (x : State). x.nesting) t.took.moved)
started_so n content st first (inr (some, shared_by ds c m full t wide fits is)) = (
  ap (λ (x : State). x.saved) is ∙ ap (λ (x : State). x.saved) t.took.moved,
  ap (λ (x : State). x.nesting) is ∙ ap (λ (x : State). x.nesting) t.took.moved,
)

pub array_deeper : (st : State) (n : ℕ) (first : State) → OpensArray st n first → Deeper st first
array_deeper st n first o =
    let d = o.data_ in
    let s = started_so n d.content (in_container InArray 0 d.content d.mid) first d.starts in
    let mid : length d.mid.saved ≡ length st.saved =
    ap (λ (x : State). length x.saved) d.header.took.moved ∙ ap (λ (x : State). length x.saved) o.begun.moved in
    let begun : length o.mid.saved ≡ length st.saved = ap (λ (x : State). length x.saved) o.begun.moved in
    let limit : o.mid.nesting ≡ st.nesting = ap (λ (x : State). x.nesting) o.begun.moved in
    record {
      saved = ap length s.0 ∙ ap suc mid;
      nesting = s.1 ∙ ap (λ (x : State). x.nesting) d.header.took.moved ∙ limit;
      few = omega (arith, d.few, begun, limit);
    }

pub described_deeper : (st : State) (d : Descriptor) (inner : State) → OpensDescribed st d inner → Deeper st inner
described_deeper st d inner o = record {
  saved = ap (λ (x : State). length x.saved) o.opened
      ∙ ap suc (ap (λ (x : State). length x.saved) o.descriptor.took.moved ∙ ap (λ (x : State). length x.saved) o.begun.moved);
  nesting = ap (λ (x : State). x.nesting) o.opened ∙ ap (λ (x : State). x.nesting) o.descriptor.took.moved
      ∙ ap (λ (x : State). x.nesting) o.begun.moved;
  few = omega (arith, o.nested);
}

-- in it one level less is left, and there is one
pub bounded_inside : (levels inner : ℕ) (st first : State) → Deeper st first → IsBounded levels st → levels ≡ suc inner
    → IsBounded inner first
bounded_inside levels inner st first d h e = omega (arith, d.saved, d.nesting, h, e)

pub some_left : (levels : ℕ) (st first : State) → Deeper st first → IsBounded levels st → levels ≡ 0 → ⊥
some_left levels st first d h e = omega (arith, d.few, h, e)

-- what was read leaves as many open
module _ {T : Type 0} (means : Standing → Term → T → Type 0) where
  each_level : (st : State) (vs : List T) (b : State) → ReadsEach (ReadsValue means) st vs b
      → (length b.saved ≡ length st.saved) × (b.nesting ≡ st.nesting)
  each_level st [] b h = (ap (λ (x : State). length x.saved) h, ap (λ (x : State). x.nesting) h)
  each_level st (v ∷ vs) b (mid, h, k) =
      let i = each_level mid vs b k in
      (i.0 ∙ ap (λ (x : State). length x.saved) h.moved, i.1 ∙ ap (λ (x : State). x.nesting) h.moved)

pub bounded_behind : (levels : ℕ) (st : State) (vs : List Value) (b : State) → ReadsEach (ReadsValue ValueMeans) st vs b
    → IsBounded levels st → IsBounded levels b
bounded_behind levels st vs b h k = let i = each_level ValueMeans st vs b h in omega (arith, i.0, i.1, k)

pub bounded_after : (levels : ℕ) (st : State) (v : Value) (b : State) → ReadsValue ValueMeans st v b → IsBounded levels st
    → IsBounded levels b
bounded_after levels st v b h k =
    let saved = ap (λ (x : State). length x.saved) h.moved in
    let nesting = ap (λ (x : State). x.nesting) h.moved in
    omega (arith, saved, nesting, k)

module _ (key value : TermType Value) where
  pairs_level : (st : State) (ps : List (Value × Value)) (b : State) → Pairs key value st ps b
      → (length b.saved ≡ length st.saved) × (b.nesting ≡ st.nesting)
  pairs_level st [] b h = (ap (λ (x : State). length x.saved) h, ap (λ (x : State). x.nesting) h)
  pairs_level st (p ∷ ps) b (m, n, h, k, r) =
      let i = pairs_level n ps b r in (
        i.0 ∙ ap (λ (x : State). length x.saved) k.moved ∙ ap (λ (x : State). length x.saved) h.moved,
        i.1 ∙ ap (λ (x : State). x.nesting) k.moved ∙ ap (λ (x : State). x.nesting) h.moved,
      )

  pub bounded_in_pairs : (levels : ℕ) (st : State) (ps : List (Value × Value)) (b : State) → Pairs key value st ps b
      → IsBounded levels st → IsBounded levels b
  bounded_in_pairs levels st ps b h k = let i = pairs_level st ps b h in omega (arith, i.0, i.1, k)

-- what is refused as what it is made of
module _ {T : Type 0} {means : Standing → Term → T → Type 0} (make : T → Value → Type 0) where
  pub as_member : {takes : Bool} (fault : State → Located → Type 0) (st : State) (e : Error) (new : State)
      → RefusesAt takes (ReadsValue means) fault st e new → RefusesAt takes (ReadsMember means make) fault st e new
  as_member fault st e new =
      refused_first (ReadsValue means) fault (ReadsMember means make) fault st e new (λ h. h) (λ _ f. f) (λ none v b h. none h.0 b h.2)

-- a key is known, or new
pub key_new : (k : Value) (ps : List (Value × Value)) (t : Bool) → t ≡ false → t ≡ is_among_keys (value_term k) (turn_terms (drop 0 ps))
    → IsNew (SameTree value_term values_are_trees) k ps
key_new k ps t f e =
    among_not value_term values_are_trees k ps
    (subst (λ ts. is_among_keys (value_term k) ts ≡ false) (turns_canons value_term values_are_trees ps) (sym e ∙ f))

pub key_known : (k : Value) (ps : List (Value × Value)) (t : Bool) → t ≡ true → t ≡ is_among_keys (value_term k) (turn_terms (drop 0 ps))
    → IsNew (SameTree value_term values_are_trees) k ps → ⊥
key_known k ps t f e new =
    clash (sym (sym f ∙ e ∙ ap (is_among_keys (value_term k)) (turns_canons value_term values_are_trees ps)))
    (not_among value_term values_are_trees k ps new)

-- a fault of a value that holds so many levels
pub at_level : (n : ℕ) (st : State) (r : Result Value Error) (new : State)
    → AnswersAt true (ReadsValue ValueMeans) (faults_at n).fault st r new
    → AnswersAt true (ReadsValue ValueMeans) (LevelFault faults_at) st r new
at_level n st (Ok v) new h = h
at_level n st (Err e) new h =
    refused_first (ReadsValue ValueMeans) (faults_at n).fault (ReadsValue ValueMeans) (LevelFault faults_at) st e new (λ x. x)
    (λ _ f. record { levels = n; named = f }) (λ none. none) h

-- where one level less was left, and nothing else changed
module _ (levels inner : ℕ) (first after : State) (e : levels ≡ suc inner) (same : after ≡ first) where
  less : (P : Faults → State → Type 0) → P (faults_at (suc inner)) after → P (faults_at levels) first
  less P h = subst (λ n. P (faults_at n) first) (sym e) (subst (P (faults_at (suc inner))) same h)

  pub less_bounded : IsBounded inner first → IsBounded inner after
  less_bounded h = subst (IsBounded inner) (sym same) h

  pub less_refused : (x : Error) (new : State) → RefusesAt true (ReadsValue ValueMeans) (faults_at (suc inner)).fault after x new
      → RefusesAt true (ReadsValue ValueMeans) (faults_at levels).fault first x new
  less_refused x new = less (λ f st. RefusesAt true (ReadsValue ValueMeans) f.fault st x new)

  pub less_read : (v : Value) (b : State) → ReadsValue ValueMeans after v b → ReadsValue ValueMeans first v b
  less_read v b = subst (λ st. ReadsValue ValueMeans st v b) same

  pub less_row_refused : (n : ℕ) (x : Error) (new : State)
      → RefusesAt true (ReadsRow n ValueMeans) (RowFault n ValueMeans (faults_at (suc inner)).fault) after x new
      → RefusesAt true (ReadsRow n ValueMeans) (RowFault n ValueMeans (faults_at levels).fault) first x new
  less_row_refused n x new = less (λ f st. RefusesAt true (ReadsRow n ValueMeans) (RowFault n ValueMeans f.fault) st x new)

  pub less_row : (n : ℕ) (vs : List Value) (b : State) → ReadsRow n ValueMeans after vs b → ReadsRow n ValueMeans first vs b
  less_row n vs b = subst (λ st. ReadsRow n ValueMeans st vs b) same

  pub less_pairs_refused : (n : ℕ) (x : Error) (new : State)
      → RefusesAt true (ReadsPairsRow (value_in inner) (value_in inner) n) (PairsFault (value_in inner) (value_in inner) n) after x new
      → (let part = value_with (faults_at levels) in RefusesAt true (ReadsPairsRow part part n) (PairsFault part part n) first x new)
  less_pairs_refused n x new =
      less (λ f st. RefusesAt true (ReadsPairsRow (value_with f) (value_with f) n) (PairsFault (value_with f) (value_with f) n) st x new)

  pub less_pairs : (n : ℕ) (ps : List (Value × Value)) (b : State) → ReadsPairsRow (value_in inner) (value_in inner) n after ps b
      → (let part = value_with (faults_at levels) in ReadsPairsRow part part n first ps b)
  less_pairs n ps b = less (λ f st. ReadsPairsRow (value_with f) (value_with f) n st ps b)
