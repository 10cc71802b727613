-- A section is read: its descriptor, and then what it describes. What each exit of the reader answers.
use Rattle.std.proofs.Common.{◌≡◌, ◌≤◌, ℕ, false, true, List, [], ◌∷◌, length, map, Some, refl, sym, ap, ◌∙◌, subst, arith}
use Rattle.std.proofs.lemmas.Bool.{eqb-true, eq-eqb}
use Rattle.std.proofs.lemmas.Slice.Eq.{bytes_eq-Decides}
use Rattle.amqp_model.specs.Term.{Descriptor, name, code, Term, described}
use Rattle.amqp_model.specs.Standing.{Standing, Parts}
use Rattle.amqp_wire.specs.declared.error.Error.{Error}
use Rattle.amqp_lookahead.specs.Members.{Member, as_name, is_named, name_place}
use Rattle.amqp_lookahead.proofs.Members.{place_is}
use Rattle.amqp_decoder.specs.declared.frame.Place.TheVariants.{InDescribed}
use Rattle.amqp_decoder.specs.State.{State, after_value, weight_at}
use Rattle.amqp_decoder.specs.Primitives.{standing, Stands, ReadsValue}
use Rattle.amqp_decoder.specs.Containers.{ClosesDescribed, EndFault}
use Rattle.amqp_decoder.specs.Described.{OpensDescribed, OpensOneOf, one_of_left}
use Rattle.amqp_decoder.proofs.Descriptions.{described_with_parts, term_described}
use Rattle.amqp_decoder.proofs.NothingInside.{opens_described_same}
use Rattle.amqp_decoder.proofs.OneReading.{stands_same, value_same}
use Rattle.amqp_decoder.specs.Places.{Located, Here, At, RefusesAt}
use Rattle.amqp_codec.specs.TermType.{TermType}
use Rattle.amqp_codec.specs.Wrappers.{Holds}
use Rattle.amqp_codec.specs.laws.Composite.{only_place, first_place}
use Rattle.amqp_codec.specs.Members.{MemberFault, no_member, in_member, not_ended}
use Rattle.amqp_codec.specs.laws.Refusal.{no_memory, described_going, described_sound, refused_first, refused_later}
use Rattle.amqp_codec.specs.laws.DescribedPairType.{pair_cases, means_as}
use Rattle.amqp_sections.specs.SectionType.{Naming, IsCalled, called, content_of, behind, section_of}

named_called : (c : Naming) (d : Descriptor) → is_named d (c.code, c.name) ≡ true → IsCalled c d
named_called c (code n) h = sym (eqb-true c.code n h)
named_called c (name s) h = sym ((bytes_eq-Decides c.name s).0 h)

called_named : (c : Naming) (d : Descriptor) → IsCalled c d → is_named d (c.code, c.name) ≡ true
called_named c (code n) h = eq-eqb c.code n (sym h)
called_named c (name s) h = (bytes_eq-Decides c.name s).1 (sym h)

-- the one member, and what was opened is it
abbrev IsOnly : Naming → List Member → Type 0
IsOnly c ms = map as_name ms ≡ (c.code, c.name) ∷ []

opened_place : (c : Naming) (ms : List Member) (st : State) (i : ℕ) (inner : State) → IsOnly c ms → (o : OpensOneOf ms st i inner)
    → name_place ((c.code, c.name) ∷ []) o.descriptor ≡ Some i
opened_place c ms st i inner names o = sym (place_is o.descriptor ms ∙ ap (λ ns. name_place ns o.descriptor) names) ∙ o.place

opened_called : (c : Naming) (ms : List Member) (st : State) (i : ℕ) (inner : State) → IsOnly c ms → (o : OpensOneOf ms st i inner)
    → IsCalled c o.descriptor
opened_called c ms st i inner names o =
    named_called c o.descriptor (only_place o.descriptor (c.code, c.name) i (opened_place c ms st i inner names o))

module _ {V T : Type 0} (h : Holds V T) (c : Naming) (u : TermType T) where
  abbrev Reads : State → V → State → Type 0
  Reads = ReadsValue (section_of h c u).means

  abbrev Fault : State → Located → Type 0
  Fault = MemberFault (content_of c u)

  -- what stands there is opened
  record Opened (st : State) (b : State) : Type 0 where
    descriptor : Descriptor
    is : IsCalled c descriptor
    inner : State
    opens : OpensDescribed st descriptor inner

  opened_so : (st b : State) (bytes : List ℕ) (d : Descriptor) (x : Term) → IsCalled c d → Stands st bytes (described d x)
      → b ≡ after_value (length bytes) (weight_at st (described d x)) st → Opened st b
  opened_so st b bytes d x q stands moved =
      let k = term_described st d x b (record { bytes = bytes; stands = stands; moved = moved }) in
      record { descriptor = d; is = q; inner = k.inner; opens = k.opens }

  opened : (st : State) (v : V) (b : State) → Reads st v b → Opened st b
  opened st v b r =
      pair_cases (called c).means u.ignores_standing u.means (standing st.top.shared r.bytes) (behind h v)
      (λ t. Stands st r.bytes t → b ≡ after_value (length r.bytes) (weight_at st t) st → Opened st b)
      (λ d x z q p m stands moved. opened_so st b r.bytes d x q stands moved) r.term r.meant r.stands r.moved

  -- and what it describes is read, and it is closed
  record Inside (st : State) (v : V) (b : State) : Type 0 where
    descriptor : Descriptor
    inner : State
    opens : OpensDescribed st descriptor inner
    last : State
    read : ReadsValue u.means inner (h.get v) last
    closes : ClosesDescribed InDescribed last b

  inside_so : (st : State) (v : V) (b : State) (bytes : List ℕ) (d : Descriptor) (x : Term) (z : Standing) → st.nesting ≤ 128
      → (u.ignores_standing ≡ false → Parts (standing st.top.shared bytes) (described d x) (z ∷ [])) → u.means z x (h.get v)
      → Stands st bytes (described d x) → b ≡ after_value (length bytes) (weight_at st (described d x)) st → Inside st v b
  inside_so st v b bytes d x z bound p m stands moved =
      let k = term_described st d x b (record { bytes = bytes; stands = stands; moved = moved }) in
      let n = described_with_parts st d x b (omega (arith, bound)) k in
      let same = (stands_same st n.next.bytes bytes (described d x) (described d x) n.next.stands stands).0 in
      let y = standing k.inner.top.shared k.bytes in
      let parts = subst (λ l. Parts (standing st.top.shared l) (described d x) (y ∷ [])) same n.parts in
      record {
        descriptor = d;
        inner = k.inner;
        opens = k.opens;
        last = after_value (length k.bytes) (weight_at k.inner x) k.inner;
        read = record {
          bytes = k.bytes;
          term = x;
          stands = k.stands;
          moved = refl;
          meant = means_as (called c) u (standing st.top.shared bytes) d x z y (h.get v) p (λ _. parts) m;
        };
        closes = k.closes;
      }

  inside : (st : State) (v : V) (b : State) → st.nesting ≤ 128 → Reads st v b → Inside st v b
  inside st v b bound r =
      pair_cases (called c).means u.ignores_standing u.means (standing st.top.shared r.bytes) (behind h v)
      (λ t. Stands st r.bytes t → b ≡ after_value (length r.bytes) (weight_at st t) st → Inside st v b)
      (λ d x z q p m stands moved. inside_so st v b r.bytes d x z bound p m stands moved) r.term r.meant r.stands r.moved

  pub begin_refused : (ms : List Member) (st : State) (e : Error) (new : State) → IsOnly c ms
      → RefusesAt false (OpensOneOf ms) (At (one_of_left ms)) st e new → RefusesAt u.takes_memory Reads Fault st e new
  begin_refused ms st e new names =
      refused_first (OpensOneOf ms) (At (one_of_left ms)) Reads Fault st e new no_memory (λ _. no_member names)
      (λ none v b r.
      let k = opened st v b r in
      none 0 k.inner (record {
        descriptor = k.descriptor;
        place = place_is k.descriptor ms ∙ ap (λ ns. name_place ns k.descriptor) names
            ∙ first_place k.descriptor (c.code, c.name) (called_named c k.descriptor k.is);
        opens = k.opens;
      }))

  module _ (ms : List Member) (st : State) (i : ℕ) (inner : State) (names : IsOnly c ms) (bound : st.nesting ≤ 128)
      (o : OpensOneOf ms st i inner) where
    pub whole_read : (last b : State) (x : T) (v : V) → h.get v ≡ x → ReadsValue u.means inner x last
        → ClosesDescribed InDescribed last b → Reads st v b
    whole_read last b x v is r q =
        let d = o.descriptor in
        let closes = subst (λ (s : State). ClosesDescribed InDescribed s b) r.moved q in
        let n = described_with_parts st d r.term b (omega (arith, bound))
        (record { inner = inner; opens = o.opens; bytes = r.bytes; stands = r.stands; closes = closes }) in
        record {
          bytes = n.next.bytes;
          term = described d r.term;
          stands = n.next.stands;
          moved = n.next.moved;
          meant = (
            opened_called c ms st i inner names o,
            standing inner.top.shared r.bytes,
            λ _. n.parts,
            subst (u.means (standing inner.top.shared r.bytes) r.term) (sym is) r.meant,
          );
        }

    pub value_refused : (e : Error) (new : State) → RefusesAt u.takes_memory (ReadsValue u.means) u.faults.fault inner e new
        → RefusesAt u.takes_memory Reads Fault st e new
    value_refused e new =
        refused_later (ReadsValue u.means) u.faults.fault Reads Fault st inner e new (λ t. t) (described_sound o.opens)
        o.opens.begun.going (described_going o.opens) (λ _. in_member o.opens (opened_place c ms st i inner names o))
        (λ none v b r.
        let k = inside st v b bound r in
        let s = opens_described_same st k.descriptor o.descriptor k.inner inner k.opens o.opens in
        none (h.get v) k.last (subst (λ (x : State). ReadsValue u.means x (h.get v) k.last) s.1 k.read))

    pub end_refused : (w : T) (last : State) (e : Error) (new : State) → ReadsValue u.means inner w last
        → RefusesAt false (λ st (_ : Unit {0}) b. ClosesDescribed InDescribed st b) (Here (EndFault InDescribed)) last e new
        → RefusesAt u.takes_memory Reads Fault st e new
    end_refused w last e new r =
        refused_later (λ st (_ : Unit {0}) b. ClosesDescribed InDescribed st b) (Here (EndFault InDescribed)) Reads Fault st last e new no_memory
        (ap (λ (x : State). x.failed) r.moved ∙ described_sound o.opens) o.opens.begun.going
        (ap (λ (x : State). x.error) r.moved ∙ described_going o.opens)
        (λ _. not_ended o.opens (opened_place c ms st i inner names o) r)
        (λ none v b q.
        let k = inside st v b bound q in
        let s = opens_described_same st k.descriptor o.descriptor k.inner inner k.opens o.opens in
        let read = subst (λ (x : State). ReadsValue u.means x (h.get v) k.last) s.1 k.read in
        let ends = (value_same u.means inner k.last last (h.get v) w read r).4 in
        none tt b (subst (λ (x : State). ClosesDescribed InDescribed x b) ends k.closes))
