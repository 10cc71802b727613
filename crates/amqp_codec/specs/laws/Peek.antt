-- A value stands where its first code was looked at.
use Rattle.std.proofs.Common.{◌≡◌, inl, inr, ℕ, ◌≤◌, true, false, List, [], ◌∷◌, ◌++◌, length, drop, Option, Some, None, ◌⊎◌, refl, sym, ap}
use Rattle.std.proofs.Common.{◌∙◌, arith, append_assoc, length-append}
use Rattle.std.proofs.lemmas.List.{drop_at}
use Rattle.amqp_model.specs.Term.{null, Term, leaf, container, described, kept, barred, Descriptor}
use Rattle.amqp_model.specs.Standing.{Standing}
use Rattle.amqp_model.specs.Spelling.{IsSpelling}
use Rattle.amqp_model.specs.Items.{is_null}
use Rattle.amqp_model.specs.laws.Item.{clash}
use Rattle.amqp_model.proofs.Lengths.{spelling_length}
use Rattle.amqp_wire.specs.declared.error.Error.{Error}
use Rattle.amqp_decoder.specs.State.{State, after_value, counted_in}
use Rattle.amqp_decoder.specs.Steps.{IsExcused}
use Rattle.amqp_decoder.specs.Reading.{ReadsCode, IsFirst, PeeksCode, after_peek}
use Rattle.amqp_decoder.specs.Primitives.{standing, SpellsAs, Stands, ReadsValue, Means, PrimitiveFault}
use Rattle.amqp_decoder.proofs.ReadPrimitives.{value_leaf, begun_same, fault_not_leaf, code_value}
use Rattle.amqp_decoder.proofs.Counts.{may_begin}
use Rattle.amqp_decoder.proofs.Steps.{has_less}
use Rattle.amqp_decoder.proofs.Peeks.{begun-peeked}
use Rattle.amqp_lookahead.specs.Kinds.{nulls}
use Rattle.amqp_lookahead.proofs.KindsOfCodes.{kind_data, one_code}
use Rattle.amqp_codec.specs.laws.Null.{null_primitive}
use Rattle.amqp_codec.specs.laws.Refusal.{NoneStands}

-- The first code of a value that stands next, and its bytes in front.
first_own : (s : List ℕ) → 1 ≤ length s → (c : ℕ) × (others : List ℕ) × (s ≡ c ∷ others)
first_own [] h = absurd (omega arith)
first_own (c ∷ s) h = (c, s, refl)

first_by : (shared : Option (List Descriptor × ℕ)) (s : List ℕ) (t : Term) → SpellsAs (standing shared s) t
    → (c : ℕ) × (own others : List ℕ) × IsFirst shared c own × (s ≡ own ++ others)
first_by None s t h = let f = first_own s (spelling_length s t h) in (f.0, f.0 ∷ [], f.1, refl, f.2)
first_by (Some ([], k)) s t h = (k, [], s, (refl, refl), refl)
first_by (Some (d ∷ ds, k)) s t h = (0, [], s, (refl, refl), refl)

pub stands_begun : (st : State) (s : List ℕ) (t : Term) → Stands st s t → (c : ℕ) × (after : State) × ReadsCode st c after
stands_begun st s t h =
    let f = first_by st.top.shared s t h.spelled in
    let own = f.1 in
    let whole : st.rest ≡ own ++ (f.2 ++ h.after) = h.rest ∙ ap (λ x. x ++ h.after) f.4 ∙ append_assoc own f.2 h.after in (
      f.0,
      after_value (length own) (counted_in st.top.shared f.0) st,
      record {
        going = h.going;
        item = h.item;
        own = own;
        first = f.3;
        room = has_less st.top.left (length own) (length s) (omega (arith, ap length f.4, length-append own f.2)) h.room;
        rest = whole ∙ ap (λ x. own ++ x) (sym (drop_at own (f.2 ++ h.after) (length own) refl) ∙ ap (drop (length own)) (sym whole));
        few = may_begin st.quota st.top.shared t s f.0 h.spelled h.few;
        moved = refl;
      },
    )

pub peeked_going : (st : State) (c : ℕ) (mid : State) → PeeksCode st c mid → (st.error ≡ None) × (mid.error ≡ None)
peeked_going st c mid h = (h.begun.going, ap (λ (x : State). x.error) h.kept ∙ by_shared st.top.shared ∙ h.begun.going)
  where
    by_shared : (o : Option (List Descriptor × ℕ)) → (after_peek o st).error ≡ st.error
    by_shared None = refl
    by_shared (Some x) = refl

pub peeked_failed : (st : State) (c : ℕ) (mid : State) → PeeksCode st c mid → mid.failed ≡ st.failed
peeked_failed st c mid h = ap (λ (x : State). x.failed) h.kept ∙ by_shared st.top.shared
  where
    by_shared : (o : Option (List Descriptor × ℕ)) → (after_peek o st).failed ≡ st.failed
    by_shared None = refl
    by_shared (Some x) = refl

-- where a value stands, a first code can be looked at
pub value_peeked : {A : Type 0} (means : Standing → Term → A → Type 0) (st : State) → NoneStands PeeksCode st
    → NoneStands (ReadsValue means) st
value_peeked means st none v b h =
    let f = stands_begun st h.bytes h.term h.stands in
    none f.0 (after_peek st.top.shared st) (record { after = f.1; begun = f.2; kept = refl })

null_by : (shared : Option (List Descriptor × ℕ)) (s : List ℕ) (t : Term) → SpellsAs (standing shared s) t
    → is_null t ≡ true → t ≡ leaf null
unfolding IsSpelling
null_by shared s (leaf p) h n = ap leaf (null_primitive p n)
null_by shared s (container k ts) h n = absurd (clash n refl)
null_by shared s (described d t) h n = absurd (clash n refl)
null_by shared s (barred r) h n = absurd (clash n refl)
null_by None s (kept b) (ds, c, few, (x, y, e, k, d)) n = absurd d
null_by (Some (ds, c)) s (kept b) h n = absurd h

is_the_null : (st : State) (s : List ℕ) (t : Term) → Stands st s t → is_null t ≡ true → t ≡ leaf null
is_the_null st s t h = null_by st.top.shared s t h.spelled

abbrev MeansNull : Standing → Term → Unit {0} → Type 0
MeansNull = Means (λ _. null)

-- a null that was looked at is there
pub null_there : (st : State) (mid : State) (e : Error) (new : State) → PeeksCode st 0x40 mid
    → IsExcused false e new ⊎ PrimitiveFault nulls mid e → IsExcused false e new
null_there st mid e new p (inl x) = x
null_there st mid e new p (inr f) =
    let v : ReadsValue MeansNull mid tt p.after =
    code_value (λ _. null) 0x40 mid tt p.after ((begun-peeked st mid p.after 0x40 0x40 p).1 p.begun) (refl, refl, tt) in
    absurd (fault_not_leaf 0 mid e null p.after refl f (value_leaf (λ _. null) mid tt p.after v))

-- what begins by another code is no null
pub not_null : {A : Type 0} (means : Standing → Term → A → Type 0) (st : State) (c : ℕ) (mid : State) (v : A) (b : State)
    → PeeksCode st c mid → (c ≡ 0x40 → ⊥) → (h : ReadsValue means st v b) → is_null h.term ≡ false
not_null means st c mid v b p other h = by_test (is_null h.term) refl
  where
    by_test : (n : _) → is_null h.term ≡ n → is_null h.term ≡ false
    by_test false e = e
    by_test true e =
        let k : ReadsValue MeansNull st tt b =
        record {
          bytes = h.bytes;
          term = h.term;
          stands = h.stands;
          moved = h.moved;
          meant = is_the_null st h.bytes h.term h.stands e;
        } in
        let l = value_leaf (λ _. null) st tt b k in
        absurd (other ((begun_same st c l.code p.after l.mid p.begun l.begun).0
        ∙ one_code 0 0x40 refl l.code (kind_data l.code null l.data_ l.spelled)))
