-- Lemmas of how one of several composites is read by the descriptor that stands there.
use Rattle.std.proofs.Common.{◌≡◌, ◌≤◌, ℕ, ◌<◌, false, List, [], length, map, Option, Some, None, refl, sym, ap, ◌∙◌, subst, arith}
use Rattle.std.proofs.lemmas.List.Quantifiers.{position-Some}
use Rattle.amqp_model.specs.Term.{Term, described}
use Rattle.amqp_model.specs.Standing.{Standing}
use Rattle.amqp_wire.specs.declared.error.Error.{Error}
use Rattle.amqp_decoder.specs.declared.frame.Place.TheVariants.{InDescribed}
use Rattle.amqp_decoder.specs.State.{State, after_value, weight_at}
use Rattle.amqp_decoder.specs.Primitives.{standing, Stands, ReadsValue}
use Rattle.amqp_decoder.specs.Containers.{ClosesDescribed, EndFault}
use Rattle.amqp_lookahead.specs.Members.{Member, as_name, is_named, name_place}
use Rattle.amqp_decoder.specs.Described.{OpensOneOf, one_of_left}
use Rattle.amqp_decoder.proofs.NothingInside.{opens_described_same}
use Rattle.amqp_decoder.specs.Items.{Next}
use Rattle.amqp_decoder.proofs.Descriptions.{described_term, term_described}
use Rattle.amqp_lookahead.proofs.Members.{place_is}
use Rattle.amqp_decoder.proofs.OneReading.{next_same}
use Rattle.amqp_decoder.proofs.NotOutside.{one_of_not_outside, end_not_outside}
use Rattle.amqp_decoder.specs.Steps.{IsOutside}
use Rattle.amqp_decoder.specs.Places.{Located, Here, At, RefusesAt}
use Rattle.amqp_codec.specs.laws.Refusal.{no_memory, described_going, described_sound, refused_first, refused_later}
use Rattle.amqp_codec.specs.Members.{Members, MemberRead, MemberFault, IsSum, no_member, in_member, not_ended}

pub member_not_outside : {e : Located} → IsOutside e.error → {V : Type 0} (m : Members V) (st : State) → MemberFault m st e → ⊥
member_not_outside out m st (no_member {ms} names f) = one_of_not_outside out ms st f.0
member_not_outside {e} out m st (in_member {d} {i} {inner} o at f) = (m.faults i).not_outside e out inner f
member_not_outside out m st (not_ended {d} {i} {inner} {last} {v} o at q f) = end_not_outside out InDescribed last f.0

one_place : {i j : ℕ} {o p : Option ℕ} → o ≡ p → o ≡ Some i → p ≡ Some j → i ≡ j
one_place {i} {j} e f g = ap (λ x. Rattle.std.proofs.Common.unwrap_or x i) (sym f ∙ e ∙ g)

module _ {V : Type 0} (m : Members V) (means : Standing → Term → V → Type 0) (sum : IsSum m means) where
  pub to_value : (st : State) (v : V) (b : State) → st.nesting ≤ 128 → MemberRead m st v b → ReadsValue means st v b
  to_value st v b bound h =
      let t = sum.to_term h.place h.inner v h.last h.read in
      let closes : ClosesDescribed InDescribed (after_value (length t.taken.bytes) (weight_at h.inner t.term) h.inner) b =
      subst (λ (x : State). ClosesDescribed InDescribed x b) t.taken.moved h.closes in
      let r = described_term st h.descriptor t.term b (omega (arith, bound))
      (record { inner = h.inner; opens = h.opens; bytes = t.taken.bytes; stands = t.taken.stands; closes = closes }) in
      record {
        bytes = r.bytes;
        term = described h.descriptor t.term;
        stands = r.stands;
        moved = r.moved;
        meant = t.meant h.descriptor (standing st.top.shared r.bytes) h.is;
      }

  pub from_value : (st : State) (v : V) (b : State) → ReadsValue means st v b → MemberRead m st v b
  from_value st v b h =
      let t = sum.from_term (standing st.top.shared h.bytes) h.term v h.meant in
      let k = term_described st t.descriptor t.described_ b
      (record {
        bytes = h.bytes;
        stands = subst (λ x. Stands st h.bytes x) t.is h.stands;
        moved = h.moved ∙ ap (λ x. after_value (length h.bytes) (weight_at st x) st) t.is;
      }) in
      record {
        descriptor = t.descriptor;
        place = t.place;
        is = t.named;
        inner = k.inner;
        opens = k.opens;
        last = after_value (length k.bytes) (weight_at k.inner t.described_) k.inner;
        read = t.read k.inner (after_value (length k.bytes) (weight_at k.inner t.described_) k.inner)
            (record { bytes = k.bytes; stands = k.stands; moved = refl });
        closes = k.closes;
      }

  -- none of the members is opened
  pub unopened : (ms : List Member) (st : State) (e : Error) (new : State) → map as_name ms ≡ m.names
      → RefusesAt false (OpensOneOf ms) (At (one_of_left ms)) st e new → RefusesAt m.takes_memory (ReadsValue means) (MemberFault m) st e new
  unopened ms st e new names r =
      refused_first (OpensOneOf ms) (At (one_of_left ms)) (ReadsValue means) (MemberFault m) st e new no_memory (λ f. no_member names)
      (λ none v b h.
      let k = from_value st v b h in
      none k.place k.inner (record {
        descriptor = k.descriptor;
        place = place_is k.descriptor ms ∙ ap (λ ns. name_place ns k.descriptor) names ∙ k.is;
        opens = k.opens;
      }))
      r

  pub opened_place : (ms : List Member) (st : State) (i : ℕ) (inner : State) → map as_name ms ≡ m.names → (o : OpensOneOf ms st i inner)
      → name_place m.names o.descriptor ≡ Some i
  opened_place ms st i inner names o = sym (place_is o.descriptor ms ∙ ap (λ ns. name_place ns o.descriptor) names) ∙ o.place

  pub opened_going : (ms : List Member) (st : State) (i : ℕ) (inner : State) → OpensOneOf ms st i inner
      → (st.error ≡ None) × (inner.error ≡ None)
  opened_going ms st i inner o = (o.opens.begun.going, described_going o.opens)

  pub opened_failed : (ms : List Member) (st : State) (i : ℕ) (inner : State) → OpensOneOf ms st i inner → inner.failed ≡ st.failed
  opened_failed ms st i inner o = described_sound o.opens

  -- what a member describes isn't read
  pub unread : (ms : List Member) (st : State) (i : ℕ) (inner : State) (e : Error) (new : State) → map as_name ms ≡ m.names
      → OpensOneOf ms st i inner → RefusesAt (m.takes_at i) (m.reads i) (m.faults i).fault inner e new
      → RefusesAt m.takes_memory (ReadsValue means) (MemberFault m) st e new
  unread ms st i inner e new names o r =
      let going = opened_going ms st i inner o in
      let at = opened_place ms st i inner names o in
      refused_later (m.reads i) (m.faults i).fault (ReadsValue means) (MemberFault m) st inner e new
      (m.takes i) (opened_failed ms st i inner o) going.0 going.1 (λ f. in_member o.opens at)
      (λ none v b h.
      let k = from_value st v b h in
      let s = opens_described_same st k.descriptor o.descriptor k.inner inner k.opens o.opens in
      let p = one_place (ap (name_place m.names) s.0) k.is at in
      none v k.last (subst (λ x. m.reads x inner v k.last) p (subst (λ (x : State). m.reads k.place x v k.last) s.1 k.read)))
      r

  -- the described value isn't ended
  pub unended : (ms : List Member) (st : State) (i : ℕ) (inner last : State) (v : V) (e : Error) (new : State) → map as_name ms ≡ m.names
      → OpensOneOf ms st i inner → m.reads i inner v last
      → RefusesAt false (λ st (_ : Unit {0}) b. ClosesDescribed InDescribed st b) (Here (EndFault InDescribed)) last e new
      → RefusesAt m.takes_memory (ReadsValue means) (MemberFault m) st e new
  unended ms st i inner last v e new names o q r =
      let going = opened_going ms st i inner o in
      let at = opened_place ms st i inner names o in
      let t = sum.to_term i inner v last q in
      refused_later (λ st (_ : Unit {0}) b. ClosesDescribed InDescribed st b) (Here (EndFault InDescribed)) (ReadsValue means) (MemberFault m) st
      last e new no_memory (ap (λ (x : State). x.failed) t.taken.moved ∙ opened_failed ms st i inner o) going.0
      (ap (λ (x : State). x.error) t.taken.moved ∙ going.1) (λ f. not_ended o.opens at q)
      (λ none w b h.
      let k = from_value st w b h in
      let s = opens_described_same st k.descriptor o.descriptor k.inner inner k.opens o.opens in
      let u = sum.to_term k.place k.inner w k.last k.read in
      let ends : k.last ≡ last =
      (next_same inner k.last last u.term t.term (subst (λ (x : State). Next x u.term k.last) s.1 u.taken) t.taken).1 in
      none tt b (subst (λ (x : State). ClosesDescribed InDescribed x b) ends k.closes))
      r

  -- a member was read
  pub read_whole : (ms : List Member) (st : State) (i : ℕ) (inner last : State) (v : V) (b : State) → map as_name ms ≡ m.names
      → st.nesting ≤ 128 → OpensOneOf ms st i inner → m.reads i inner v last → ClosesDescribed InDescribed last b → ReadsValue means st v b
  read_whole ms st i inner last v b names bound o q c =
      to_value st v b bound (record {
        descriptor = o.descriptor;
        place = i;
        is = opened_place ms st i inner names o;
        inner = inner;
        opens = o.opens;
        last = last;
        read = q;
        closes = c;
      })

  -- the place is one of a member
  pub within : (ms : List Member) (st : State) (i : ℕ) (inner : State) → map as_name ms ≡ m.names
      → OpensOneOf ms st i inner → i < length m.names
  within ms st i inner names o = (position-Some (is_named o.descriptor) m.names i (0, []) (opened_place ms st i inner names o)).0
