-- A described value is read: its descriptor, and then what it describes. What each exit of the reader answers.
use Rattle.std.proofs.Common.{◌≡◌, ◌≤◌, ℕ, Bool, true, false, List, [], ◌∷◌, length, Some, refl, sym, ap, ◌∙◌, subst, arith}
use Rattle.amqp_model.specs.Term.{Descriptor, Term, described}
use Rattle.amqp_model.specs.Spelling.{descriptor_value}
use Rattle.amqp_model.specs.Standing.{Standing, Parts}
use Rattle.amqp_model.specs.Ranges.{IsInRange}
use Rattle.amqp_wire.specs.declared.error.Error.{Error}
use Rattle.amqp_wire.specs.declared.descriptor.Descriptor.{Descriptor as DescriptorValue}
use Rattle.amqp_wire.specs.declared.descriptor.Descriptor.TheVariants.{Name, Code}
use Rattle.amqp_encoder.specs.Values.{descriptor_of as written_descriptor}
use Rattle.amqp_lookahead.specs.Members.{descriptor_of}
use Rattle.amqp_decoder.specs.declared.frame.Place.TheVariants.{InDescribed}
use Rattle.amqp_decoder.specs.State.{State, after_value, weight_at}
use Rattle.amqp_decoder.specs.Primitives.{standing, Stands, ReadsValue}
use Rattle.amqp_decoder.specs.Containers.{ClosesDescribed, EndFault, other_place, nothing_open, items_left}
use Rattle.amqp_decoder.specs.Described.{OpensDescribed, open_left}
use Rattle.amqp_decoder.proofs.Descriptions.{described_with_parts, term_described}
use Rattle.amqp_decoder.proofs.NothingInside.{opens_described_same}
use Rattle.amqp_decoder.proofs.OneReading.{stands_same, value_same}
use Rattle.amqp_decoder.specs.Places.{Located, Here, At, RefusesAt}
use Rattle.amqp_codec.specs.TermType.{TermType}
use Rattle.amqp_codec.specs.laws.Refusal.{described_going, described_sound, refused_first, refused_later}
use Rattle.amqp_codec.specs.DescribedPairMeaning.{any_descriptor}
use Rattle.amqp_codec.specs.laws.DescribedPairType.{pair_cases, means_as}
use Rattle.amqp_described.specs.declared.described.Described.{Described}
use Rattle.amqp_described.specs.DescribedReading.{DescribedValueFault, unopened, in_value}
use Rattle.amqp_described.specs.DescribedType.{pair_of, described_of}

-- behind its one value a described value is at its end
at_end : (st inner last : State) (d : Descriptor) (n k : ℕ) (e : Error) → OpensDescribed st d inner → last ≡ after_value n k inner
    → EndFault InDescribed last e → ⊥
at_end st inner last d n k e o is (other_place other _) =
    other (ap (λ (x : State). x.top.place) is ∙ ap (λ (x : State). x.top.place) o.opened)
at_end st inner last d n k e o is (nothing_open empty _) =
    let some = sym empty ∙ ap (λ (x : State). x.saved) is ∙ ap (λ (x : State). x.saved) o.opened in cc
at_end st inner last d n k e o is (items_left _ left _) =
    left (ap (λ (x : State). x.top.items) is ∙ ap (λ (x : State). (after_value n k x).top.items) o.opened ∙ ap Some (omega arith))

module _ {T : Type 0} (u : TermType T) where
  abbrev Reads : State → Described T → State → Type 0
  Reads = ReadsValue (described_of u).means

  abbrev Fault : State → Located → Type 0
  Fault = DescribedValueFault u.faults.fault

  -- what stands there is opened, what it describes is read, and it is closed
  record Inside (st : State) (v : Described T) (b : State) : Type 0 where
    inner : State
    opens : OpensDescribed st (descriptor_of v.descriptor) inner
    last : State
    read : ReadsValue u.means inner v.value last
    closes : ClosesDescribed InDescribed last b

  inside_so : (st : State) (v : Described T) (b : State) (bytes : List ℕ) (d : Descriptor) (x : Term) (z : Standing) → st.nesting ≤ 128
      → d ≡ descriptor_of v.descriptor
      → (u.ignores_standing ≡ false → Parts (standing st.top.shared bytes) (described d x) (z ∷ [])) → u.means z x v.value
      → Stands st bytes (described d x) → b ≡ after_value (length bytes) (weight_at st (described d x)) st → Inside st v b
  inside_so st v b bytes d x z bound is p m stands moved =
      let k = term_described st d x b (record { bytes = bytes; stands = stands; moved = moved }) in
      let n = described_with_parts st d x b (omega (arith, bound)) k in
      let same = (stands_same st n.next.bytes bytes (described d x) (described d x) n.next.stands stands).0 in
      let y = standing k.inner.top.shared k.bytes in
      let parts = subst (λ l. Parts (standing st.top.shared l) (described d x) (y ∷ [])) same n.parts in
      record {
        inner = k.inner;
        opens = subst (λ g. OpensDescribed st g k.inner) is k.opens;
        last = after_value (length k.bytes) (weight_at k.inner x) k.inner;
        read = record {
          bytes = k.bytes;
          term = x;
          stands = k.stands;
          moved = refl;
          meant = means_as any_descriptor u (standing st.top.shared bytes) d x z y v.value p (λ _. parts) m;
        };
        closes = k.closes;
      }

  inside : (st : State) (v : Described T) (b : State) → st.nesting ≤ 128 → Reads st v b → Inside st v b
  inside st v b bound h =
      pair_cases any_descriptor.means u.ignores_standing u.means (standing st.top.shared h.bytes) (pair_of v)
      (λ t. Stands st h.bytes t → b ≡ after_value (length h.bytes) (weight_at st t) st → Inside st v b)
      (λ d x z q p m stands moved. inside_so st v b h.bytes d x z bound q.0 p m stands moved) h.term h.meant h.stands h.moved

  pub whole_read : (st inner last b : State) (v : Described T) → st.nesting ≤ 128 → OpensDescribed st (descriptor_of v.descriptor) inner
      → IsInRange (descriptor_value (descriptor_of v.descriptor)) → ReadsValue u.means inner v.value last
      → ClosesDescribed InDescribed last b → Reads st v b
  whole_read st inner last b v bound o range r c =
      let d = descriptor_of v.descriptor in
      let closes = subst (λ (x : State). ClosesDescribed InDescribed x b) r.moved c in
      let n = described_with_parts st d r.term b (omega (arith, bound))
      (record { inner = inner; opens = o; bytes = r.bytes; stands = r.stands; closes = closes }) in
      record {
        bytes = n.next.bytes;
        term = described d r.term;
        stands = n.next.stands;
        moved = n.next.moved;
        meant = ((refl, range), standing inner.top.shared r.bytes, λ _. n.parts, r.meant);
      }

  pub open_refused : (st : State) (e : Error) (new : State) → st.nesting ≤ 128
      → RefusesAt true (λ st d b. OpensDescribed st (descriptor_of d) b) (At open_left) st e new → RefusesAt true Reads Fault st e new
  open_refused st e new bound =
      refused_first (λ st d b. OpensDescribed st (descriptor_of d) b) (At open_left) Reads Fault st e new (λ t. t) (λ _. unopened)
      (λ none v b h. (let k = inside st v b bound h in none v.descriptor k.inner k.opens))

  module _ (st : State) (d : Descriptor) (inner : State) (bound : st.nesting ≤ 128) (o : OpensDescribed st d inner) where
    pub value_refused : {takes : Bool} (e : Error) (new : State) → RefusesAt takes (ReadsValue u.means) u.faults.fault inner e new
        → RefusesAt true Reads Fault st e new
    value_refused e new =
        refused_later (ReadsValue u.means) u.faults.fault Reads Fault st inner e new (λ _. refl) (described_sound o) o.begun.going
        (described_going o) (λ _. in_value o)
        (λ none v b h.
        let k = inside st v b bound h in
        let s = opens_described_same st (descriptor_of v.descriptor) d k.inner inner k.opens o in
        none v.value k.last (subst (λ (x : State). ReadsValue u.means x v.value k.last) s.1 k.read))

    pub end_refused : (w : T) (last : State) (e : Error) (new : State) → ReadsValue u.means inner w last
        → RefusesAt false (λ st (_ : Unit {0}) b. ClosesDescribed InDescribed st b) (Here (EndFault InDescribed)) last e new
        → RefusesAt true Reads Fault st e new
    end_refused w last e new r =
        refused_later (λ st (_ : Unit {0}) b. ClosesDescribed InDescribed st b) (Here (EndFault InDescribed)) Reads Fault st last e new (λ _. refl)
        (ap (λ (x : State). x.failed) r.moved ∙ described_sound o) o.begun.going
        (ap (λ (x : State). x.error) r.moved ∙ described_going o) (λ x f. absurd (at_end st inner last d (length r.bytes) (weight_at inner r.term) x.error o r.moved f.0))
        (λ none v b h.
        let k = inside st v b bound h in
        let s = opens_described_same st (descriptor_of v.descriptor) d k.inner inner k.opens o in
        let read = subst (λ (x : State). ReadsValue u.means x v.value k.last) s.1 k.read in
        let ends = (value_same u.means inner k.last last v.value w read r).4 in
        none tt b (subst (λ (x : State). ClosesDescribed InDescribed x b) ends k.closes))

-- the encoder's word and the decoder's are one
pub as_read : (d : DescriptorValue) → written_descriptor d ≡ descriptor_of d
as_read (Name s) = refl
as_read (Code n) = refl
