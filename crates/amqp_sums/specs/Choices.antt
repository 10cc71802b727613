-- A sum of composites is one list of its members (Part 1, section 1.4): its type, how it is read and how it is written.
use Rattle.std.proofs.Common.{◌≡◌, ◌⊎◌, inl, inr, ℕ, zero, suc, Bool, true, false, ◌&&◌, ◌||◌, List, [], ◌∷◌, refl, sym, ap, subst, ◌≤◌, length}
use Rattle.std.specs.Cmp.{first_so, second_so}
use Rattle.amqp_model.specs.Term.{Term}
use Rattle.amqp_model.specs.Standing.{Standing, whole}
use Rattle.amqp_model.specs.Text.{form}
use Rattle.amqp_model.specs.FieldType.{Norm, normal, unchanged, by_norm}
use Rattle.amqp_model.specs.Items.{is_null}
use Rattle.amqp_model.specs.Fields.{AreValues}
use Rattle.amqp_model.specs.Composite.{MeansComposite, canonical_term}
use Rattle.amqp_decoder.specs.State.{State}
use Rattle.amqp_decoder.specs.OtherSource.{Setting, under}
use Rattle.amqp_codec.specs.Faults.{Faults}
use Rattle.amqp_codec.specs.TermType.{TermType}
use Rattle.amqp_codec.specs.EitherType.{either_of}
use Rattle.amqp_codec.specs.EitherMeaning.{either, IsEither, norm_either}
use Rattle.amqp_sums.specs.laws.NeverType.{never_faults, never_type}
use Rattle.amqp_codec.specs.Wrappers.{via}
use Rattle.amqp_codec.specs.Fields.{slots, take_memory}
use Rattle.amqp_codec.specs.laws.Fields.{either_first, either_second}
use Rattle.amqp_codec.specs.FieldReading.{FieldsRead}
use Rattle.amqp_codec.specs.OtherSource.{fields_faults, member_faults}
use Rattle.amqp_codec.specs.laws.OtherSource.{fields_read}
use Rattle.amqp_codec.specs.Members.{Members}
use Rattle.amqp_codec.specs.Written.{AreProper, Writing, IsOneTerm}
use Rattle.amqp_codec.specs.Agreement.{Agreement, proper}
use Rattle.amqp_codec.specs.Composite.{Table, table_of, composite}
use Rattle.amqp_sums.specs.laws.DistinctDescriptor.{differ, composites_apart}
use Rattle.amqp_codec.specs.laws.FieldPlaces.{fields_shrink}

-- The members of V in their order: the table of each, and the constructor of V that holds it.
pub data Choices (V : Type 0) : Type 1 where
  no_more : Choices V
  member : {M : Type 0} → Table M → (M → V) → Choices V → Choices V

-- A value of one of them, and the value of V that holds it.
abbrev pub Choice : {V : Type 0} → Choices V → Type 0
Choice no_more = ⊥
Choice (member {M} c make cs) = M ⊎ Choice cs

abbrev pub made : {V : Type 0} (cs : Choices V) → Choice cs → V
made no_more w = absurd w
made (member c make cs) (inl x) = make x
made (member c make cs) (inr w) = made cs w

-- The member that a value holds.
abbrev pub Chosen : {V : Type 0} → Choices V → V → Type 0
Chosen cs v = (w : Choice cs) × (made cs w ≡ v)

-- What a constructor makes is taken for its member.
abbrev pub AreChosen : {V W : Type 0} (cs : Choices V) → (V → W) → (Choice cs → W) → Type 0
AreChosen no_more choice into = Unit {0}
AreChosen (member {M} c make cs) choice into = ((x : M) → choice (make x) ≡ into (inl x)) × AreChosen cs choice (λ w. into (inr w))

pub are_chosen : {V W : Type 0} (cs : Choices V) (choice : V → W) (into : Choice cs → W) → AreChosen cs choice into → (w : Choice cs)
    → choice (made cs w) ≡ into w
are_chosen no_more choice into h w = absurd w
are_chosen (member c make cs) choice into h (inl x) = h.0 x
are_chosen (member c make cs) choice into h (inr w) = are_chosen cs choice (λ w. into (inr w)) h.1 w

-- their codes and names
abbrev pub names_of : {V : Type 0} → Choices V → List (ℕ × List ℕ)
names_of no_more = []
names_of (member c make cs) = (c.code, c.name) ∷ names_of cs

-- No two have one code or one name.
abbrev pub differs_from : {M V : Type 0} → Table M → Choices V → Bool
differs_from d no_more = true
differs_from d (member c make cs) = differ d c && differs_from d cs

abbrev pub are_apart : {V : Type 0} → Choices V → Bool
are_apart no_more = true
are_apart (member c make cs) = differs_from c cs && are_apart cs

-- Which choices a term means, which term is canonical, which choices are values, and how they are normalised. Clauses of a
-- sum are in these words, and not in those of the record that `typed` makes of all members.
abbrev pub MeansChoice : {V : Type 0} (cs : Choices V) → Term → Choice cs → Type 0
MeansChoice no_more = λ t w. ⊥
MeansChoice (member c make cs) = λ t. IsEither (MeansComposite (table_of c) t) (MeansChoice cs t)

abbrev pub canon_choice : {V : Type 0} (cs : Choices V) → Choice cs → Term
canon_choice no_more = λ w. absurd w
canon_choice (member c make cs) = either (canonical_term (table_of c)) (canon_choice cs)

abbrev pub IsChoiceValue : {V : Type 0} (cs : Choices V) → Choice cs → Type 0
IsChoiceValue no_more = λ w. ⊥
IsChoiceValue (member c make cs) = IsEither (AreValues (slots c.fields)) (IsChoiceValue cs)

abbrev pub norm_choice : {V : Type 0} (cs : Choices V) → Norm (Choice cs)
norm_choice no_more = unchanged
norm_choice (member c make cs) = norm_either c.norm (norm_choice cs)

pub choice_apart : {M V : Type 0} (c : Table M) (cs : Choices V) → differs_from c cs ≡ true → (t r : Term) (a : M) (w : Choice cs)
    → MeansComposite (table_of c) t a → MeansChoice cs r w → form t ≡ form r → ⊥
choice_apart c no_more h t r a w m n e = w
choice_apart c (member d make cs) h t r a (inl x) m n e =
    composites_apart c d (first_so (differ c d) (differs_from c cs) h) (whole []) (whole []) t r a x m n e
choice_apart c (member d make cs) h t r a (inr w) m n e = choice_apart c cs (second_so (differ c d) (differs_from c cs) h) t r a w m n e

pub choice_not_null : {V : Type 0} (cs : Choices V) (w : Choice cs) → is_null (canon_choice cs w) ≡ false
choice_not_null no_more w = absurd w
choice_not_null (member c make cs) (inl x) = refl
choice_not_null (member c make cs) (inr w) = choice_not_null cs w

pub choice_proper : {V : Type 0} (cs : Choices V) (w : Choice cs) → IsChoiceValue cs w → AreProper (canon_choice cs w ∷ [])
choice_proper no_more w i = absurd w
choice_proper (member c make cs) (inl x) i = proper (composite c) refl x i
choice_proper (member c make cs) (inr w) i = choice_proper cs w i

-- The fields of a member were read, and a value was made of it.
pub record ChoiceRead {M V : Type 0} (c : Table M) (makes : M → V → Type 0) (st : State) (v : V) (b : State) : Type 0 where
  pub member : M
  pub is : makes member v
  pub read : FieldsRead c.fields st member b

-- How the member of a place is read, why it isn't, and whether that takes memory.
abbrev pub reads_at : {V : Type 0} → Choices V → ℕ → State → V → State → Type 0
reads_at no_more i = λ st v b. ⊥
reads_at (member c make cs) zero = ChoiceRead c (λ x v. v ≡ make x)
reads_at (member c make cs) (suc i) = reads_at cs i

abbrev pub faults_at : {V : Type 0} → Choices V → ℕ → Faults
faults_at no_more i = never_faults
faults_at (member c make cs) zero = fields_faults c.fields
faults_at (member c make cs) (suc i) = faults_at cs i

abbrev pub takes_at : {V : Type 0} → Choices V → ℕ → Bool
takes_at no_more i = false
takes_at (member c make cs) zero = take_memory c.fields
takes_at (member c make cs) (suc i) = takes_at cs i

abbrev pub takes_one : {V : Type 0} → Choices V → Bool
takes_one no_more = false
takes_one (member c make cs) = take_memory c.fields || takes_one cs

pub takes_there : {V : Type 0} (cs : Choices V) (i : ℕ) → takes_at cs i ≡ true → takes_one cs ≡ true
takes_there no_more i h = h
takes_there (member c make cs) zero h = either_first (take_memory c.fields) (takes_one cs) h
takes_there (member c make cs) (suc i) h = either_second (take_memory c.fields) (takes_one cs) (takes_there cs i h)

pub choice_elsewhere : {V : Type 0} (cs : Choices V) (s : Setting) (i : ℕ) (st : State) (v : V) (b : State) → reads_at cs i st v b
    → reads_at cs i (under s st) v (under s b)
choice_elsewhere no_more s i st v b h = h
choice_elsewhere (member c make cs) s zero st v b h =
    record { member = h.member; is = h.is; read = fields_read s c.fields st h.member b h.read }
choice_elsewhere (member c make cs) s (suc i) st v b h = choice_elsewhere cs s i st v b h

pub choice_shrinks : {V : Type 0} (cs : Choices V) (i : ℕ) (st : State) (v : V) (b : State) → reads_at cs i st v b
    → length b.rest ≤ length st.rest
choice_shrinks no_more i st v b h = absurd h
choice_shrinks (member c make cs) zero st v b h = fields_shrink c.fields st h.member b h.read
choice_shrinks (member c make cs) (suc i) st v b h = choice_shrinks cs i st v b h

abbrev pub members_of : {V : Type 0} → Choices V → Members V
members_of cs = record {
  names = names_of cs;
  reads = reads_at cs;
  faults = faults_at cs;
  takes_at = takes_at cs;
  takes_memory = takes_one cs;
  takes = takes_there cs;
  shrinks = choice_shrinks cs;
  reads_elsewhere = choice_elsewhere cs;
}

-- The type of the choices, which says what the words above say.
pub record Typed {V : Type 0} (cs : Choices V) : Type 1 where
  pub type : TermType (Choice cs)
  pub means_is : (s : Standing) → type.means s ≡ MeansChoice cs
  pub canon_is : type.canon ≡ canon_choice cs
  pub value_is : type.is_value ≡ IsChoiceValue cs
  pub norm_is : type.norm ≡ norm_choice cs

abbrev pub with_member : {M V : Type 0} (c : Table M) (make : M → V) (cs : Choices V) → differs_from c cs ≡ true → Typed cs
    → Typed (member c make cs)
with_member c make cs differs u = record {
  type =
      either_of (composite c) u.type
      (λ s z t r a w m n e. choice_apart c cs differs t r a w m (subst (λ P. P r w) (u.means_is z) n) e)
      (member_faults (members_of (member c make cs)));
  means_is = λ s. ap (λ P t. IsEither (MeansComposite (table_of c) t) (P t)) (u.means_is s);
  canon_is = ap (either (canonical_term (table_of c))) u.canon_is;
  value_is = ap (IsEither (AreValues (slots c.fields))) u.value_is;
  norm_is = ap (norm_either c.norm) u.norm_is;
}

abbrev pub typed : {V : Type 0} (cs : Choices V) → are_apart cs ≡ true → Typed cs
typed no_more h = record { type = never_type; means_is = λ s. refl; canon_is = refl; value_is = refl; norm_is = refl }
typed (member c make cs) h =
    let differs = first_so (differs_from c cs) (are_apart cs) h in
    let rest = second_so (differs_from c cs) (are_apart cs) h in
    with_member c make cs differs (typed cs rest)

-- A sum of composites: its members in their order, and which one a value holds.
pub record SumOf (V : Type 0) : Type 1 where
  pub choices : Choices V
  pub choice : (v : V) → Chosen choices v
  -- both by computing
  pub apart : are_apart choices ≡ true
  pub chosen : AreChosen choices (λ v. (choice v).0) (λ w. w)

-- A value is normalised as its member is.
abbrev pub norm_made : {V W : Type 0} → (V → W) → (W → V) → Norm W → Norm V
norm_made to make unchanged = unchanged
norm_made to make (by_norm f) = by_norm (λ v. make (f (to v)))

pub made_normal : {V W : Type 0} (to : V → W) (make : W → V) → ((w : W) → to (make w) ≡ w) → (n : Norm W) (v : V)
    → to (normal (norm_made to make n) v) ≡ normal n (to v)
made_normal to make is unchanged v = refl
made_normal to make is (by_norm f) v = is (f (to v))

module _ {V : Type 0} (sum : SumOf V) where
  abbrev pub choice_of : V → Choice sum.choices
  choice_of v = (sum.choice v).0

  abbrev pub sum_norm : Norm V
  sum_norm = norm_made choice_of (made sum.choices) (norm_choice sum.choices)

  pub sum_normal : (v : V) → choice_of (normal sum_norm v) ≡ normal (typed sum.choices sum.apart).type.norm (choice_of v)
  sum_normal v =
      subst (λ n. choice_of (normal sum_norm v) ≡ normal n (choice_of v)) (sym (typed sum.choices sum.apart).norm_is)
      (made_normal choice_of (made sum.choices) (are_chosen sum.choices choice_of (λ w. w) sum.chosen) (norm_choice sum.choices) v)

  -- The type of a sum.
  abbrev pub sum_of : TermType V
  sum_of = record (via (typed sum.choices sum.apart).type choice_of sum_norm sum_normal) {
    faults = member_faults (members_of sum.choices);
    takes_memory = takes_one sum.choices;
  }

  -- How it is written.
  abbrev pub sum_writing : Writing V
  sum_writing = record {
    canons = λ v. canon_choice sum.choices (choice_of v) ∷ [];
    is_value = λ v. IsChoiceValue sum.choices (choice_of v);
    proper = λ v. choice_proper sum.choices (choice_of v);
  }

  pub sum_one : IsOneTerm sum_writing
  sum_one v = refl

  pub sum_agreement : Agreement sum_of sum_writing
  sum_agreement =
      let u = typed sum.choices sum.apart in
      record {
        canons_is = λ v. ap (λ canon. canon (choice_of v) ∷ []) (sym u.canon_is);
        value_to = λ v. subst (λ P. P (choice_of v)) (sym u.value_is);
        value_from = λ v. subst (λ P. P (choice_of v)) u.value_is;
      }
