-- What is taken leaves no more bytes than stood before the decoder, so a fault has no more of them behind its place.
use Rattle.std.proofs.Common.{◌≡◌, inl, inr, ℕ, suc, ◌+◌, ◌≤◌, List, [], ◌∷◌, ◌++◌, length, drop, Option, None, Some, refl}
use Rattle.std.proofs.Common.{ap, ◌∙◌, subst, arith, length-append}
use Rattle.std.proofs.lemmas.List.{length-drop}
use Rattle.amqp_model.specs.Term.{Term, Container, Descriptor}
use Rattle.amqp_model.specs.Standing.{Standing}
use Rattle.amqp_model.proofs.Lengths.{spelling_length}
use Rattle.amqp_lookahead.specs.Members.{Member}
use Rattle.amqp_decoder.specs.declared.frame.Place.TheVariants.{InArray}
use Rattle.amqp_decoder.specs.State.{State, after_value, weight_at, in_container}
use Rattle.amqp_decoder.specs.Steps.{Takes}
use Rattle.amqp_decoder.specs.Reading.{ReadsCode, PeeksCode, after_peek}
use Rattle.amqp_decoder.specs.Primitives.{standing, SpellsAs, ReadsValue}
use Rattle.amqp_decoder.specs.Items.{Row, Contains}
use Rattle.amqp_decoder.specs.Containers.{Opens}
use Rattle.amqp_decoder.specs.Described as described
use Rattle.amqp_decoder.specs.Described.{OpensDescribed, not_described, no_descriptor, no_member, one_of_left}
use Rattle.amqp_decoder.specs.Arrays.{TakesMarks, ConstructorFault, no_code, no_mark, too_many, no_known_code, constructor_left}
use Rattle.amqp_decoder.specs.Arrays.{SharesFault, no_constructor, zero_width, too_nested, shares_left}
use Rattle.amqp_decoder.specs.Arrays.{EnterArrayFault, no_items_opened, no_start, enter_left}
use Rattle.amqp_decoder.specs.Arrays.{not_begun, wrong_code, no_data, array_left}
use Rattle.amqp_decoder.specs.Arrays.{TakesConstructor, Shares, no_items, shared_by, Starts, OpensArray}
use Rattle.amqp_decoder.specs.Places.{Located, Here, At}
use Rattle.amqp_codec.specs.ItemsReading.{ReadsEach}
use Rattle.amqp_wire.specs.declared.error.Error.{Error}

dropped : (n : ℕ) (st b : State) → b.rest ≡ drop n st.rest → length b.rest ≤ length st.rest
dropped n st b h = omega (arith, ap length h, length-drop n st.rest)

pub code_shrinks : (st : State) (c : ℕ) (m : State) → ReadsCode st c m → length m.rest ≤ length st.rest
code_shrinks st c m h = dropped (length h.own) st m (ap (λ (x : State). x.rest) h.moved)

pub takes_shrinks : (st : State) (s : List ℕ) (m : State) → Takes st s m → length s + length m.rest ≡ length st.rest
takes_shrinks st s m h =
    omega (
      arith,
      ap (λ (x : State). length x.rest) h.moved,
      length-drop (length s) st.rest,
      ap length h.rest,
      length-append s (drop (length s) st.rest),
    )

pub value_shrinks : {A : Type 0} (means : Standing → Term → A → Type 0) (st : State) (v : A) (b : State) → ReadsValue means st v b
    → length b.rest ≤ length st.rest
value_shrinks means st v b h = dropped (length h.bytes) st b (ap (λ (x : State). x.rest) h.moved)

-- by a term of its own, at least one byte is taken
pub own_value_shrinks : {A : Type 0} (means : Standing → Term → A → Type 0) (st : State) (v : A) (b : State) → st.top.shared ≡ None
    → ReadsValue means st v b → suc (length b.rest) ≤ length st.rest
own_value_shrinks means st v b unshared h =
    omega (
      arith,
      ap (λ (x : State). length x.rest) h.moved,
      length-drop (length h.bytes) st.rest,
      ap length h.stands.rest,
      length-append h.bytes h.stands.after,
      spelling_length h.bytes h.term (subst (λ o. SpellsAs (standing o h.bytes) h.term) unshared h.stands.spelled),
    )

pub peek_keeps : (st : State) (c : ℕ) (mid : State) → PeeksCode st c mid → length mid.rest ≡ length st.rest
peek_keeps st c mid h = ap (λ (x : State). length x.rest) h.kept ∙ by_shared st.top.shared
  where
    by_shared : (o : Option (List Descriptor × ℕ)) → length (after_peek o st).rest ≡ length st.rest
    by_shared None = refl
    by_shared (Some x) = refl

pub opens_shrinks : (kind : Container) (st : State) (n : ℕ) (first : State) → Opens kind st n first → length first.rest ≤ length st.rest
opens_shrinks kind st n first o =
    omega (
      arith,
      code_shrinks st o.code o.mid o.begun,
      takes_shrinks o.mid _ o.data_.mid o.data_.header.took,
      ap (λ (x : State). length x.rest) o.data_.entered,
    )

pub row_shrinks : (st : State) (ts : List Term) (b : List ℕ) (st' : State) → Row st ts b st' → length st'.rest ≤ length st.rest
row_shrinks st [] b st' (is, same) = omega (arith, ap (λ (x : State). length x.rest) same)
row_shrinks st (t ∷ ts) b st' (first, others, is, stands, row) =
    omega (
      arith,
      row_shrinks (after_value (length first) (weight_at st t) st) ts others st' row,
      length-drop (length first) st.rest,
    )

-- a row leaves what is shared as it was
pub row_shares : (st : State) (ts : List Term) (b : List ℕ) (st' : State) → Row st ts b st' → st'.top.shared ≡ st.top.shared
row_shares st [] b st' (is, same) = ap (λ (x : State). x.top.shared) same
row_shares st (t ∷ ts) b st' (first, others, is, stands, row) =
    row_shares (after_value (length first) (weight_at st t) st) ts others st' row

pub each_shrinks : {A : Type 0} (means : Standing → Term → A → Type 0) (st : State) (vs : List A) (b : State)
    → ReadsEach (ReadsValue means) st vs b → length b.rest ≤ length st.rest
each_shrinks means st [] b h = omega (arith, ap (λ (x : State). length x.rest) h)
each_shrinks means st (v ∷ vs) b (mid, h, k) = omega (arith, value_shrinks means st v mid h, each_shrinks means mid vs b k)

pub described_shrinks : (st : State) (d : Descriptor) (inner : State) → OpensDescribed st d inner → length inner.rest ≤ length st.rest
described_shrinks st d inner o =
    omega (
      arith,
      code_shrinks st 0 o.coded o.begun,
      takes_shrinks o.coded o.descriptor.own o.named o.descriptor.took,
      ap (λ (x : State). length x.rest) o.opened,
    )

pub here_within : (fault : State → Error → Type 0) (st : State) (e : Located) → Here fault st e → e.left ≤ length st.rest
here_within fault st e h = omega (arith, h.1)

pub one_of_within : (ms : List Member) (st : State) (e : Located) → At (one_of_left ms) st e → e.left ≤ length st.rest
one_of_within ms st e (not_described f, is) = omega (arith, is)
one_of_within ms st e (no_descriptor {m} begun own f, is) = omega (arith, is, code_shrinks st 0 m begun)
one_of_within ms st e (no_member {m} begun took x, is) = omega (arith, is, code_shrinks st 0 m begun)

pub open_within : (st : State) (e : Located) → At described.open_left st e → e.left ≤ length st.rest
open_within st e (described.not_open f, is) = omega (arith, is)
open_within st e (described.nameless {m} begun own f, is) = omega (arith, is, code_shrinks st 0 m begun)

marks_shrink : (st : State) (ds : List Descriptor) (c : ℕ) (m : State) → TakesMarks st ds c m → suc (length m.rest) ≤ length st.rest
marks_shrink st ds c m h = omega (arith, takes_shrinks st (h.own ++ c ∷ []) m h.took, length-append h.own (c ∷ []))

pub constructor_within : (st : State) (e : Error) (f : ConstructorFault st e) → constructor_left st e f ≤ length st.rest
constructor_within st e (no_code ds own m few marks took lacks) = omega (arith, takes_shrinks st own m took)
constructor_within st e (no_mark ds m few took f) = omega (arith, marks_shrink st ds 0 m took)
constructor_within st e (too_many ds m many took is) = marks_shrink st ds 0 m took
constructor_within st e (no_known_code ds c m few took some unknown is) = marks_shrink st ds c m took

shares_within : (n : ℕ) (st : State) (e : Error) (f : SharesFault n st e) → shares_left n st e f ≤ length st.rest
shares_within n st e (no_constructor f) = constructor_within st e f
shares_within n st e (zero_width ds c m some took empty is) = omega arith
shares_within n st e (too_nested ds c m some took uneven deep is) = omega arith

enter_within : (own w : ℕ) (st : State) (e : Error) → length st.rest ≤ own → (f : EnterArrayFault w st e) → enter_left own w st e f ≤ own
enter_within own w st e less (no_items_opened f) = omega arith
enter_within own w st e less (no_start n content m header room some f) =
    omega (arith, less, takes_shrinks st _ m header.took, shares_within n (in_container InArray 0 content m) e f)

pub array_within : (st : State) (e : Located) → At array_left st e → e.left ≤ length st.rest
array_within st e (not_begun f, is) = omega (arith, is)
array_within st e (wrong_code c m begun other x, is) = omega (arith, is)
array_within st e (no_data c w m begun x f, is) =
    omega (arith, is, enter_within (length st.rest) w m e.error (code_shrinks st c m begun) f)

pub contains_shrinks : (kind : Container) (st : State) (ts : List Term) (b : State) → Contains kind st ts b → length b.rest ≤ length st.rest
contains_shrinks kind st ts b c =
    omega (
      arith,
      opens_shrinks kind st c.count c.mid c.opened,
      row_shrinks c.mid ts c.bytes c.last c.items,
      ap (λ (x : State). length x.rest) c.closed.moved,
    )

constructor_shrinks : (st : State) (ds : List Descriptor) (c : ℕ) (m : State) → TakesConstructor st ds c m → length m.rest ≤ length st.rest
constructor_shrinks st ds c m h = omega (arith, takes_shrinks st h.own m h.took)

shared_shrinks : (n : ℕ) (st : State) (m : State) → Shares n st m → length m.rest ≤ length st.rest
shared_shrinks n st m (no_items ds c none took) = constructor_shrinks st ds c m took
shared_shrinks n st m (shared_by ds c mid some took wide flat is) =
    omega (arith, constructor_shrinks st ds c mid took, ap (λ (x : State). length x.rest) is)

starts_shrinks : (n content : ℕ) (st : State) (m : State) → Starts n content st m → length m.rest ≤ length st.rest
starts_shrinks n content st m (inl h) = omega (arith, ap (λ (x : State). length x.rest) h.1)
starts_shrinks n content st m (inr h) = shared_shrinks n st m h.1

pub array_shrinks : (st : State) (n : ℕ) (first : State) → OpensArray st n first → length first.rest ≤ length st.rest
array_shrinks st n first o =
    let d = o.data_ in
    omega (
      arith,
      code_shrinks st o.code o.mid o.begun,
      takes_shrinks o.mid _ d.mid d.header.took,
      starts_shrinks n d.content (in_container InArray 0 d.content d.mid) first d.starts,
    )
