-- A fault of a type that is made of other types is shown by bytes, where theirs are.
use Rattle.std.proofs.Common.{◌≡◌, ℕ, suc, inl, inr, Bool, Some, length, ap, ◌∙◌, arith}
use Rattle.amqp_wire.specs.declared.error.Error.{Error}
use Rattle.amqp_decoder.specs.declared.frame.Place.TheVariants.{InDescribed}
use Rattle.amqp_decoder.specs.State.{State, lower}
use Rattle.amqp_decoder.specs.Containers.{EndFault, other_place, nothing_open, items_left}
use Rattle.amqp_decoder.specs.Described.{OpensDescribed}
use Rattle.amqp_decoder.specs.Items.{Next}
use Rattle.amqp_decoder.specs.Places.{Located}
use Rattle.amqp_model.specs.Term.{Descriptor, Term}
use Rattle.amqp_codec.specs.Faults.{Faults}
use Rattle.amqp_codec.specs.OptionMeaning.{OptionFault}
use Rattle.amqp_codec.specs.EitherMeaning.{EitherFault, no_value, in_first, in_second}
use Rattle.amqp_codec.specs.Members as members
use Rattle.amqp_codec.specs.Members.{Members, MemberFault, no_member, in_member}
use Rattle.amqp_placed.specs.Facing.{AreShown}
use Rattle.amqp_placed.proofs.Here.{begin_shown, peeked_shown}
use Rattle.amqp_placed.proofs.Descriptions.{no_member_shown, described_shown}

-- nothing but its own error ends a described value behind the term that it describes
described_ends : (st inner last : State) (d : Descriptor) (t : Term) (e : Error) → OpensDescribed st d inner → Next inner t last
    → EndFault InDescribed last e → ⊥
described_ends st inner last d t e o next (other_place differs is) =
    differs (ap (λ (x : State). x.top.place) next.moved ∙ ap (λ (x : State). x.top.place) o.opened)
described_ends st inner last d t e o next (nothing_open none is) =
    let saved : length last.saved ≡ suc (length o.named.saved) =
    ap (λ (x : State). length x.saved) next.moved ∙ ap (λ (x : State). length x.saved) o.opened in
    omega (arith, saved, ap length none)
described_ends st inner last d t e o next (items_left open_ some is) =
    some (ap (λ (x : State). x.top.items) next.moved ∙ ap (λ (x : State). lower x.top.items 1) o.opened ∙ ap Some (omega arith))

-- What is read behind the descriptor of a member is one term.
abbrev pub AreTerms : {V : Type 0} → Members V → Type 0
AreTerms {V} m = (i : ℕ) (inner : State) (v : V) (last : State) → m.reads i inner v last → (t : Term) × Next inner t last

module _ (e : Error) where
  pub option_shown : (fault : State → Located → Type 0) → AreShown e fault → AreShown e (OptionFault fault)
  option_shown fault shown st f is (inl h) = begin_shown st f h
  option_shown fault shown st f is (inr (c, mid, peeks, some, h)) = peeked_shown st c mid f peeks (shown mid f is h)

  pub either_shown : (is_first : ℕ → Bool) (a b : Faults) → AreShown e a.fault → AreShown e b.fault
      → AreShown e (EitherFault is_first a b)
  either_shown is_first a b shown other st f is (no_value h) = begin_shown st f h
  either_shown is_first a b shown other st f is (in_first {c} {mid} peeks code h) = peeked_shown st c mid f peeks (shown mid f is h)
  either_shown is_first a b shown other st f is (in_second {c} {mid} peeks code h) = peeked_shown st c mid f peeks (other mid f is h)

  pub member_shown : {V : Type 0} (m : Members V) → AreTerms m → ((i : ℕ) → AreShown e (m.faults i).fault)
      → AreShown e (MemberFault m)
  member_shown m terms shown st f is (no_member {ms} names h) = no_member_shown ms st f h
  member_shown m terms shown st f is (in_member {d} {i} {inner} o at h) = described_shown st inner d f o (shown i inner f is h)
  member_shown m terms shown st f is (members.not_ended {d} {i} {inner} {last} {v} o at read h) =
      let (t, next) = terms i inner v last read in absurd (described_ends st inner last d t f.error o next h.0)
