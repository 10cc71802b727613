-- The values of a sum are its members.
use Rattle.std.proofs.Common.{◌≡◌, inl, inr, ℕ, zero, suc, ◌<◌, nat_lt, Bool, true, false, cond, Some, None}
use Rattle.std.proofs.Common.{List, [], ◌∷◌, length, get_or, refl, sym, ap, ◌∙◌, subst, arith}
use Rattle.std.specs.Cmp.{first_so, second_so}
use Rattle.std.specs.List.{position}
use Rattle.std.proofs.lemmas.Bool.{lt-ltb, false_from_ne_true}
use Rattle.std.proofs.lemmas.List.Quantifiers.{position-Some}
use Rattle.std.proofs.lemmas.List.Sums.{position_or_len_is}
use Rattle.amqp_model.specs.Term.{Term, Descriptor, described}
use Rattle.amqp_model.specs.Standing.{Standing, whole}
use Rattle.amqp_decoder.specs.State.{State}
use Rattle.amqp_decoder.specs.Items.{Next}
use Rattle.amqp_lookahead.specs.Members.{is_named}
use Rattle.amqp_codec.specs.Members.{TermRead, TermMeant, IsSum}
use Rattle.amqp_codec.specs.Composite.{Table}
use Rattle.amqp_codec.specs.laws.Composite.{composite_is_sum, named_describes, first_place, only_place}
use Rattle.amqp_sums.specs.laws.DistinctDescriptor.{differ, one_table}
use Rattle.amqp_sums.specs.Choices.{Choices, no_more, member, Choice, made, are_chosen, names_of, differs_from, are_apart, MeansChoice}
use Rattle.amqp_sums.specs.Choices.{reads_at, members_of, typed, SumOf, choice_of, sum_of}

-- What was read of the member at a place is one term, which means it under that member's descriptor.
record AsTerm {V : Type 0} (cs : Choices V) (i : ℕ) (inner : State) (v : V) (last : State) : Type 0 where
  choice : Choice cs
  is : v ≡ made cs choice
  term : Term
  taken : Next inner term last
  meant : (d : Descriptor) → is_named d (get_or (names_of cs) i (0, [])) ≡ true → MeansChoice cs (described d term) choice

as_term : {V : Type 0} (cs : Choices V) (i : ℕ) (inner : State) (v : V) (last : State) → reads_at cs i inner v last
    → AsTerm cs i inner v last
as_term no_more i inner v last h = absurd h
as_term (member c make cs) zero inner v last h =
    let t = (composite_is_sum c).to_term 0 inner h.member last h.read in
    record {
      choice = inl h.member;
      is = h.is;
      term = t.term;
      taken = t.taken;
      meant = λ d named. t.meant d (whole []) (first_place d (c.code, c.name) named);
    }
as_term (member c make cs) (suc i) inner v last h =
    let t = as_term cs i inner v last h in
    record { choice = inr t.choice; is = t.is; term = t.term; taken = t.taken; meant = t.meant }

-- A term that means a choice is described as its member, and as none before it.
record AsMember {V : Type 0} (cs : Choices V) (t : Term) (w : Choice cs) : Type 0 where
  descriptor : Descriptor
  content : Term
  place : ℕ
  is : t ≡ described descriptor content
  within : place < length (names_of cs)
  named : is_named descriptor (get_or (names_of cs) place (0, [])) ≡ true
  others : (k : ℕ) → k < place → is_named descriptor (get_or (names_of cs) k (0, [])) ≡ false
  read : (inner last : State) → Next inner content last → reads_at cs place inner (made cs w) last

-- what is named as a member isn't named as one that differs from all
named_apart : {M V : Type 0} (c : Table M) (cs : Choices V) → differs_from c cs ≡ true → (i : ℕ) → i < length (names_of cs)
    → (d : Descriptor) → is_named d (get_or (names_of cs) i (0, [])) ≡ true → is_named d (c.code, c.name) ≡ false
named_apart c no_more h i l d n = absurd (omega arith)
named_apart c (member e make cs) h zero l d n =
    let differs = first_so (differ c e) (differs_from c cs) h in
    false_from_ne_true (is_named d (c.code, c.name)) (λ k. one_table c e differs d (named_describes c d k) (named_describes e d n))
named_apart c (member e make cs) h (suc i) l d n = named_apart c cs (second_so (differ c e) (differs_from c cs) h) i (omega arith) d n

-- what fails at the first place and at all of the places behind it
fails_later : {X : Type 0} (p : X → Bool) (x : X) (xs : List X) (z : X) (n : ℕ) → p x ≡ false
    → ((k : ℕ) → k < n → p (get_or xs k z) ≡ false) → (k : ℕ) → k < suc n → p (get_or (x ∷ xs) k z) ≡ false
fails_later p x xs z n h hs zero l = h
fails_later p x xs z n h hs (suc k) l = hs k (omega arith)

as_member : {V : Type 0} (cs : Choices V) → are_apart cs ≡ true → (t : Term) (w : Choice cs) → MeansChoice cs t w → AsMember cs t w
as_member no_more h t w m = absurd w
as_member (member c make cs) h t (inl x) m =
    let k = (composite_is_sum c).from_term (whole []) t x m in
    record {
      descriptor = k.descriptor;
      content = k.described_;
      place = 0;
      is = k.is;
      within = omega arith;
      named = only_place k.descriptor (c.code, c.name) k.place k.named;
      others = λ j l. absurd (omega (arith, l));
      read = λ inner last n. record { member = x; is = refl; read = k.read inner last n };
    }
as_member (member c make cs) h t (inr w) m =
    let k = as_member cs (second_so (differs_from c cs) (are_apart cs) h) t w m in
    let differs = first_so (differs_from c cs) (are_apart cs) h in
    let other = named_apart c cs differs k.place k.within k.descriptor k.named in
    record {
      descriptor = k.descriptor;
      content = k.content;
      place = suc k.place;
      is = k.is;
      within = let l = k.within in omega (arith, l);
      named = k.named;
      others = fails_later (is_named k.descriptor) (c.code, c.name) (names_of cs) (0, []) k.place other k.others;
      read = k.read;
    }

-- the first place that passes
placed : {X : Type 0} (p : X → Bool) (xs : List X) (i : ℕ) (z : X) → i < length xs → p (get_or xs i z) ≡ true
    → ((k : ℕ) → k < i → p (get_or xs k z) ≡ false) → position p xs ≡ Some i
placed p xs i z l h others =
    let first = position_or_len_is p xs i z (omega (arith, l)) others (λ _. h) in
    ap (λ n. cond (nat_lt n (length xs)) (Some n) None) first ∙ ap (λ b. cond b (Some i) None) (lt-ltb i (length xs) l)

module _ {V : Type 0} (sum : SumOf V) where
  means_is : (s : Standing) → (typed sum.choices sum.apart).type.means s ≡ MeansChoice sum.choices
  means_is = (typed sum.choices sum.apart).means_is

  to_term : (i : ℕ) (inner : State) (v : V) (last : State) → reads_at sum.choices i inner v last
      → TermRead (members_of sum.choices) (sum_of sum).means i inner v last
  to_term i inner v last h =
      let k = as_term sum.choices i inner v last h in
      let made_so = are_chosen sum.choices (choice_of sum) (λ w. w) sum.chosen k.choice in
      let e : choice_of sum v ≡ k.choice = ap (choice_of sum) k.is ∙ made_so in
      record {
        term = k.term;
        taken = k.taken;
        meant = λ d s at.
            let named = (position-Some (is_named d) (names_of sum.choices) i (0, []) at).1 in
            subst (λ P. P (described d k.term) (choice_of sum v)) (sym (means_is s))
            (subst (MeansChoice sum.choices (described d k.term)) (sym e) (k.meant d named));
      }

  from_term : (s : Standing) (t : Term) (v : V) → (sum_of sum).means s t v → TermMeant (members_of sum.choices) t v
  from_term s t v m =
      let k = as_member sum.choices sum.apart t (choice_of sum v) (subst (λ P. P t (choice_of sum v)) (means_is s) m) in
      record {
        descriptor = k.descriptor;
        described_ = k.content;
        place = k.place;
        is = k.is;
        named = placed (is_named k.descriptor) (names_of sum.choices) k.place (0, []) k.within k.named k.others;
        read = λ inner last n. subst (λ x. reads_at sum.choices k.place inner x last) (sum.choice v).1 (k.read inner last n);
      }

  pub are_members : IsSum (members_of sum.choices) (sum_of sum).means
  are_members = record { to_term = to_term; from_term = from_term }
