-- Described values: their descriptors, and what these describe (Part 1, sections 1.2 and 1.5).
use Rattle.std.proofs.Common.{◌≡◌, ℕ, suc, ◌≤◌, inl, inr, Bool, true, false, cond, Option, Some, None, unwrap_or}
use Rattle.std.proofs.Common.{List, [], ◌∷◌, ◌++◌, length, refl, sym, ap, ◌∙◌, subst, arith}
use Rattle.std.proofs.lemmas.List.{length-append}
use Rattle.amqp_model.specs.Term.{Primitive, Descriptor, name, symbol}
use Rattle.amqp_model.specs.Constructors.{format}
use Rattle.amqp_model.specs.Spelling.{PrimitiveData, IsKnown, descriptor_value}
use Rattle.amqp_wire.specs.declared.error.Error.{Error}
use Rattle.amqp_wire.specs.declared.error.Error.TheVariants.{Depth, NonAscii, WrongDescriptor}
use Rattle.amqp_wire.specs.Codes.{refusal_of}
use Rattle.amqp_lookahead.specs.Kinds.{kind_of, kind_at, codes_of, ulongs, symbols}
use Rattle.amqp_lookahead.specs.Members.{Member}
use Rattle.amqp_lookahead.proofs.KindsOfCodes.{OneOf, kind_codes, kind_data}
use Rattle.amqp_lengths.specs.Pieces.{IsDescriptorCode}
use Rattle.amqp_lengths.specs.Stands.{Piece, a_value, an_item, an_element, a_descriptor, Around, unbounded, whole_one, cut_one, IsOwn, Step}
use Rattle.amqp_lengths.specs.Stands.{to_descriptor, to_described, to_its_described, IsMarked, IsDescriptor, IsWrong}
use Rattle.amqp_decoder.specs.State.{State, emptied, bound_of, depth_error}
use Rattle.amqp_decoder.specs.Rooms.{HasFlatItems}
use Rattle.amqp_decoder.specs.Reading.{IsFirst, ReadsCode}
use Rattle.amqp_decoder.specs.Described as described
use Rattle.amqp_decoder.specs.Described.{behind, in_described, OpensDescribed, TakesPlace, DescribedFault, not_begun, other_code, too_deep}
use Rattle.amqp_decoder.specs.Described.{other_kind, IsDescriptorKind, DescriptorFault, no_code, no_kind, no_data, non_ascii, open_left}
use Rattle.amqp_decoder.specs.Described.{one_of_left}
use Rattle.amqp_decoder.specs.Described.{not_open, nameless, not_described, no_descriptor, no_member}
use Rattle.amqp_decoder.specs.Places.{Located, At}
use Rattle.amqp_decoder.proofs.Rooms.{room_in_described}
use Rattle.amqp_placed.specs.Facing.{bytes_open, IsAround, IsUnderShared, IsNext, Faces, Shows, IsShown}
use Rattle.amqp_placed.proofs.Past.{Past, past_code, past_taken, past_both, past_bytes, past_length, past_around, past_unlimited}
use Rattle.amqp_placed.proofs.Codes.{other_kind_wrong}
use Rattle.amqp_placed.proofs.Primitives.{data_wrong, no_value_wrong}
use Rattle.amqp_placed.proofs.Here.{no_bytes, wrong_as, deep_here, here_shows, lacks_wrong, next_left, begin_wrong, other_code_wrong}
use Rattle.amqp_placed.proofs.Onward.{next_shows}

pub own_marked : (P : Piece) (z y : List ℕ) → IsOwn P → z ≡ 0 ∷ y → IsMarked P z
own_marked a_value z y own is = (tt, (y, is))
own_marked (an_item kind n i) z y own is = (tt, (y, is))
own_marked _ z y own is = absurd own

-- a descriptor of its own, or one that it shares
marked : (o : Option (List Descriptor × ℕ)) (P : Piece) (own z y : List ℕ) → IsUnderShared o P → IsFirst o 0 own → z ≡ own ++ y
    → IsMarked P z × (HasFlatItems o → ⊥)
marked None P own z y h first is = (own_marked P z y h (is ∙ ap (λ l. l ++ y) first), (λ flat. flat))
marked (Some ([], s)) P own z y (n, i, p, known) first is = absurd (subst (λ k. IsKnown (format k)) (sym first.1) known)
marked (Some (e ∷ ds, s)) P own z y (n, i, p, known) first is = (subst (λ Q. IsMarked Q z) (sym p) (λ none. cc), (λ flat. flat))

-- Why no described value begins.
pub described_wrong : (st : State) (e : Error) (P : Piece) (d : ℕ) (around : Around) → Faces st P d around → DescribedFault st e
    → IsWrong e around P d (bytes_open st)
described_wrong st e P d around h (not_begun fault) = begin_wrong st e P d around h fault
described_wrong st e P d around h (other_code {c} {m} code some is) =
    wrong_as e (refusal_of c) around P d (bytes_open st) is (other_code_wrong st c m P d around h code)
described_wrong st e P d around h (too_deep {m} code deep is) =
    let k = marked st.top.shared P code.own (bytes_open st) (bytes_open m) (next_left st.top.items st.top.shared P code.item h.next)
    code.first (past_bytes (past_code st 0 m code)) in
    let most : 128 ≤ d = omega (arith, deep, deep_here st P d around h code.item k.1, h.nesting) in
    wrong_as e Depth around P d (bytes_open st) (is ∙ ap depth_error h.nesting) (inl (inl (k.0, most)))

-- Why no descriptor is read.
ulong_codes : codes_of ulongs ≡ 0x44 ∷ 0x53 ∷ 0x80 ∷ []
ulong_codes = refl

symbol_codes : codes_of symbols ≡ 0xa3 ∷ 0xb3 ∷ []
symbol_codes = refl

of_ulong : (c : ℕ) → OneOf c (0x44 ∷ 0x53 ∷ 0x80 ∷ []) → IsDescriptorCode c
of_ulong c (inl a) = inl a
of_ulong c (inr (inl a)) = inr (inl a)
of_ulong c (inr (inr (inl a))) = inr (inr (inl a))
of_ulong c (inr (inr (inr a))) = absurd a

of_symbol : (c : ℕ) → OneOf c (0xa3 ∷ 0xb3 ∷ []) → IsDescriptorCode c
of_symbol c (inl a) = inr (inr (inr (inl a)))
of_symbol c (inr (inl a)) = inr (inr (inr (inr a)))
of_symbol c (inr (inr a)) = absurd a

kind_code : (c : ℕ) → IsDescriptorKind (kind_at c) → IsDescriptorCode c
kind_code c (inl is) = of_ulong c (subst (OneOf c) ulong_codes (kind_codes c ulongs is))
kind_code c (inr is) = of_symbol c (subst (OneOf c) symbol_codes (kind_codes c symbols is))

kind_at_code : (c : ℕ) → IsDescriptorCode c → IsDescriptorKind (kind_at c)
unfolding kind_at
kind_at_code c (inl is) = inl (ap kind_at is)
kind_at_code c (inr (inl is)) = inl (ap kind_at is)
kind_at_code c (inr (inr (inl is))) = inl (ap kind_at is)
kind_at_code c (inr (inr (inr (inl is)))) = inr (ap kind_at is)
kind_at_code c (inr (inr (inr (inr is)))) = inr (ap kind_at is)

symbol_names : (p : Primitive) → kind_of p ≡ symbols → (d : Descriptor) × (p ≡ descriptor_value d)
symbol_names (symbol s) is = (name s, refl)
symbol_names _ is = absurd (omega (is, arith))

kind_fixed : (o : Option ℕ) (j k : ℕ) → o ≡ Some j → o ≡ Some k → j ≡ k
kind_fixed o j k a b = ap (λ x. unwrap_or x 0) (sym a ∙ b)

pub descriptor_wrong : (m : State) (e : Error) (d : ℕ) (around : Around) → IsAround around m → (bound_of m.top ≡ None → m.top.left ≡ None)
    → DescriptorFault m e → IsWrong e around a_descriptor d (bytes_open m)
descriptor_wrong m e d around h unlimited (no_code lacks) =
    lacks_wrong around a_descriptor d (bytes_open m) 1 m e h unlimited (λ few. inl (no_bytes (bytes_open m) few)) lacks
descriptor_wrong m e d around h unlimited (no_kind {c} {m = m2} took other is) =
    let there : bytes_open m ≡ c ∷ bytes_open m2 = past_bytes (past_taken m (c ∷ []) m2 took) in
    wrong_as e (other_kind (refusal_of c)) around a_descriptor d (bytes_open m) is
    (other_kind_wrong c around d (bytes_open m) (bytes_open m2) there (λ code. other (kind_at_code c code)))
descriptor_wrong m e d around h unlimited (no_data {c} {m = m2} took kind lacks) =
    let past = past_taken m (c ∷ []) m2 took in
    data_wrong (format c) around a_descriptor d (bytes_open m) m2 e (past_around past around h) (past_unlimited past unlimited)
    (λ few. inr (c, bytes_open m2, past_bytes past, kind_code c kind, few)) lacks
descriptor_wrong m e d around h unlimited (non_ascii {c} {m = m2} {b} {m' = m3} took kind data_ whole none is) =
    wrong_as e NonAscii around a_descriptor d (bytes_open m) is
    (no_value_wrong c symbols around a_descriptor d (bytes_open m) b m2 m3 kind (past_bytes (past_taken m (c ∷ []) m2 took)) data_ whole
    (λ p is_data. (let k = symbol_names p (kind_fixed (kind_at c) (kind_of p) symbols (kind_data c p b is_data) kind) in
    none k.0 (subst (λ q. PrimitiveData (format c) q b) k.1 is_data))))

-- From a 0 to the descriptor behind it.
own_before : (o : Option (List Descriptor × ℕ)) (own : List ℕ) → o ≡ None → IsFirst o 0 own → own ≡ 0 ∷ []
own_before o own is first = subst (λ x. IsFirst x 0 own) is first

pub to_descriptor_shows : (st m : State) (f : Located) (P : Piece) (d : ℕ) (around : Around) → Faces st P d around → ReadsCode st 0 m
    → st.top.shared ≡ None → Shows m f a_descriptor d around → Shows st f P d around
to_descriptor_shows st m f P d around h code own shows =
    let past = past_code st 0 m code in
    let mark = own_before st.top.shared code.own own code.first in
    let there : bytes_open st ≡ 0 ∷ bytes_open m = past_bytes past ∙ ap (λ l. l ++ bytes_open m) mark in
    let is_own : IsOwn P = subst (λ o. IsUnderShared o P) own (next_left st.top.items st.top.shared P code.item h.next) in
    next_shows st m f around P a_descriptor d d 1 (omega (arith, ap length there)) (omega (arith, past_length past, ap length mark))
    (subst (λ z. Step P d z a_descriptor d (bytes_open m) unbounded 0) (sym there) (to_descriptor P d (bytes_open m) is_own)) shows

descriptor_shows : (st m : State) (f : Located) (P : Piece) (d : ℕ) (around : Around) → Faces st P d around → ReadsCode st 0 m
    → m.top.shared ≡ None → DescriptorFault m f.error → f.left ≡ length m.rest → Shows st f P d around
descriptor_shows st m f P d around h code own fault is =
    let past = past_code st 0 m code in
    let own_ : st.top.shared ≡ None = sym (ap (λ (x : State). x.top.shared) code.moved) ∙ own in
    to_descriptor_shows st m f P d around h code own_ (here_shows m f a_descriptor d around is
    (descriptor_wrong m f.error d around (past_around past around h.is_around) (past_unlimited past h.unlimited) fault))

-- Another descriptor is wanted.
other_shows : (st m m' : State) (D : Descriptor) (f : Located) (P : Piece) (d : ℕ) (around : Around) → Faces st P d around
    → ReadsCode st 0 m → described.TakesDescriptor m D m' → f.error ≡ WrongDescriptor → f.left ≡ length m.rest → Shows st f P d around
other_shows st m m' D f P d around h code took error is =
    by_shared st.top.shared refl (next_left st.top.items st.top.shared P code.item h.next) code.first
    (subst (λ o. described.IsDescriptor o D took.own) (ap (λ (x : State). x.top.shared) code.moved) took.descriptor)
  where
    past : Past code.own st m
    past = past_code st 0 m code

    by_shared : (o : Option (List Descriptor × ℕ)) → st.top.shared ≡ o → IsUnderShared o P → IsFirst o 0 code.own
        → described.IsDescriptor o D took.own → Shows st f P d around
    by_shared None o own first names =
        to_descriptor_shows st m f P d around h code o (here_shows m f a_descriptor d around is
        (wrong_as f.error WrongDescriptor around a_descriptor d (bytes_open m) error
        (bytes_open m', record { front = took.own; is = past_bytes (past_taken m took.own m' took.took); spelled = (D, names) })))
    by_shared (Some ([], s)) o own first names = absurd names
    by_shared (Some (x ∷ ds, s)) o (n, i, p, known) first names =
        here_shows st f P d around (omega (arith, is, past_length past, ap length first.0))
        (wrong_as f.error WrongDescriptor around P d (bytes_open st) error (subst (λ Q. IsDescriptor Q (bytes_open st)) (sym p)
        (λ none. cc)))

-- A described value that isn't opened.
pub unopened_shown : (st : State) (f : Located) → At open_left st f → IsShown st f
unopened_shown st f (not_open fault, is) P d around h = here_shows st f P d around is
    (described_wrong st f.error P d around h fault)
unopened_shown st f (nameless {m} code own fault, is) P d around h = descriptor_shows st m f P d around h code own fault is

-- One that isn't opened as a member.
pub no_member_shown : (members : List Member) (st : State) (f : Located) → At (one_of_left members) st f
    → IsShown st f
no_member_shown members st f (not_described fault, is) P d around h =
    here_shows st f P d around is (described_wrong st f.error P d around h fault)
no_member_shown members st f (
  no_descriptor {m} code own fault,
  is,
) P d around h = descriptor_shows st m f P d around h code own fault is
no_member_shown members st f (no_member {m} {m'} code took error, is) P d around h =
    other_shows st m m' took.descriptor f P d around h code took.took error is

-- What is described.
record Described (o : Option (List Descriptor × ℕ)) (P : Piece) (d : ℕ) (z y : List ℕ) : Type 0 where
  piece : Piece
  shared : IsUnderShared (behind o) piece
  step : Step P d z piece (suc d) y unbounded 0
  uneven : HasFlatItems o → ⊥

described_step : (o : Option (List Descriptor × ℕ)) (P : Piece) (d : ℕ) (D : Descriptor) (mark own z y : List ℕ) → IsUnderShared o P
    → IsFirst o 0 mark → described.IsDescriptor o D own → z ≡ (mark ++ own) ++ y → Described o P d z y
described_step None P d D mark own z y h first names is =
    let whole : z ≡ 0 ∷ (own ++ y) = is ∙ ap (λ m. (m ++ own) ++ y) first in
    record {
      piece = a_value;
      shared = tt;
      step = subst (λ x. Step P d x a_value (suc d) y unbounded 0) (sym whole)
          (to_described P d (own ++ y) y h (record { front = own; is = refl; spelled = (D, names) }));
      uneven = λ flat. flat;
    }
described_step (Some ([], s)) P d D mark own z y h first names is = absurd names
described_step (Some (x ∷ ds, s)) P d D mark own z y (n, i, p, known) first names is =
    let whole : z ≡ y = is ∙ ap (λ m. (m ++ own) ++ y) first.0 ∙ ap (λ m. m ++ y) names.0 in
    record {
      piece = an_element ds s n i;
      shared = (n, i, refl, known);
      step = subst (λ Q. Step Q d z (an_element ds s n i) (suc d) y unbounded 0) (sym p)
          (subst (λ v. Step (an_element (x ∷ ds) s n i) d z (an_element ds s n i) (suc d) v unbounded 0) whole
          (to_its_described x ds s n i d z));
      uneven = λ flat. flat;
    }

none_left : (s : Bool) (o : Option ℕ) → unwrap_or (cond s (emptied o) None) 0 ≡ 0
none_left true None = refl
none_left true (Some l) = refl
none_left false o = refl

described_around : (m : State) (around : Around) → IsAround around m → IsAround around (in_described m)
described_around m around h = go around h
  where
    outer : unwrap_or (cond m.top.sized (emptied m.top.left) None) 0 ≡ 0
    outer = none_left m.top.sized m.top.left

    go : (around : Around) → IsAround around m → IsAround around (in_described m)
    go unbounded (none, rest) = (none, omega (arith, outer, rest))
    go whole_one (l, some, all) = (l, some, omega (arith, outer, all))
    go cut_one (l, some, few) = (l, some, omega (arith, outer, few))

-- What is shown of what a descriptor describes is shown of the described value.
pub described_shown : (st inner : State) (D : Descriptor) (f : Located) → OpensDescribed st D inner
    → IsShown inner f
    → IsShown st f
described_shown st inner D f o shown P d around h =
    let t = o.descriptor in
    let past0 = past_code st 0 o.coded o.begun in
    let past = past_both o.begun.own t.own st o.coded o.named past0 (past_taken o.coded t.own o.named t.took) in
    let bytes : bytes_open inner ≡ bytes_open o.named = ap bytes_open o.opened in
    let whole : bytes_open st ≡ (o.begun.own ++ t.own) ++ bytes_open inner = past_bytes past
    ∙ ap (λ v. (o.begun.own ++ t.own) ++ v) (sym bytes) in
    let same : o.coded.top.shared ≡ st.top.shared = ap (λ (x : State). x.top.shared) o.begun.moved in
    let names : described.IsDescriptor st.top.shared D t.own = subst (λ s. described.IsDescriptor s D t.own) same t.descriptor in
    let shared : inner.top.shared ≡ behind st.top.shared =
    ap (λ (x : State). x.top.shared) o.opened ∙ ap (λ (x : State). behind x.top.shared) t.took.moved ∙ ap behind same in
    let k = described_step st.top.shared P d D o.begun.own t.own (bytes_open st) (bytes_open inner)
    (next_left st.top.items st.top.shared P o.begun.item h.next) o.begun.first names whole in
    let saved : length inner.saved ≡ suc (length st.saved) =
    ap (λ (x : State). length x.saved) o.opened ∙ ap (λ l. suc (length l)) past.saved in
    let faces : Faces inner k.piece (suc d) around = record {
      nesting = ap (λ (x : State). x.nesting) o.opened ∙ past.nesting ∙ h.nesting;
      uncounted = ap (λ (x : State). x.quota) o.opened ∙ past.uncounted h.uncounted;
      unlimited = λ none. ap (λ (x : State). x.top.left) o.opened
          ∙ past_unlimited past h.unlimited (sym (ap (λ (x : State). bound_of x.top) o.opened) ∙ none);
      room = room_in_described st D inner o;
      next = subst (λ l. IsNext l inner.top.shared k.piece) (sym (ap (λ (x : State). x.top.items) o.opened))
          (subst (λ s. IsUnderShared s k.piece) (sym shared) k.shared);
      is_around = subst (IsAround around) (sym o.opened) (described_around o.named around (past_around past around h.is_around));
      deep = inr (inr (omega (arith, deep_here st P d around h o.begun.item k.uneven, saved)));
    } in
    next_shows st inner f around P k.piece d (suc d) (length (o.begun.own ++ t.own))
    (omega (arith, ap length whole, length-append (o.begun.own ++ t.own) (bytes_open inner)))
    (omega (arith, past_length past, ap (λ (x : State). length x.rest) o.opened)) k.step (shown k.piece (suc d) around faces)
