-- Descriptors, and the values that they describe.
use Rattle.std.proofs.Common.{◌≡◌, ◌≤◌, ◌<◌, ℕ, ◌+◌, ◌^◌, ◌⊎◌, inl, inr, Bool, true, false, cond, Option, Some, None, List, [], ◌∷◌, ◌++◌}
use Rattle.std.proofs.Common.{length, take, drop, get_or, refl, sym, ap, ◌∙◌, subst, arith, drop-drop, length-append, IsAscii}
use Rattle.std.proofs.lemmas.List.{drop_at, length-take-le, take-append-drop}
use Rattle.std.specs.Int.{bytes_high_first}
use Rattle.amqp_model.specs.Term.{ulong, symbol, Descriptor, name, code}
use Rattle.amqp_model.specs.Constructors.{Format, variable, format}
use Rattle.amqp_model.specs.Spelling.{PrimitiveData, Names, descriptor_value}
use Rattle.amqp_model.proofs.Same.{names_same}
use Rattle.amqp_wire.specs.declared.error.Error.{Error}
use Rattle.amqp_wire.specs.declared.error.Error.TheVariants.{NonAscii, WrongDescriptor}
use Rattle.amqp_wire.specs.Codes.{refusal_of}
use Rattle.amqp_wire.specs.declared.descriptor.Descriptor.{Descriptor as DescriptorValue}
use Rattle.amqp_decoder.specs.State.{refused_at, IsPlaceOf, State, depth_error, Has, after_bytes, after_data, descriptor_of}
use Rattle.amqp_decoder.specs.Steps.{Answers, IsExcused, Pulls, Takes, FallsShort}
use Rattle.amqp_decoder.specs.Places.{StandsHere, At, IsPlaced, RefusesAt}
use Rattle.amqp_decoder.specs.Reading.{RefusesRead, IsFirst, ReadsCode, BeginFault}
use Rattle.amqp_lookahead.specs.Kinds.{kind_at}
use Rattle.amqp_decoder.specs.Primitives.{LacksData, IsWhole, AnswersFault, ReadsSize, SizedFault, ReadsSized, ReadsData, LacksDataOf}
use Rattle.amqp_lookahead.specs.Members.{Member, place_of}
use Rattle.amqp_decoder.specs.Described.{IsMark, IsUnmarked, IsDescriptor, IsDescribable, TakesDescriptor, in_described, OpensOneOf}
use Rattle.amqp_decoder.specs.Described.{DescribedFault, not_begun, other_code, too_deep, other_kind, symbol_code, IsDescriptorKind}
use Rattle.amqp_decoder.specs.Described.{DescriptorFault, no_code, no_kind, no_data, non_ascii, MissesDescriptor, TakesPlace, MissesName}
use Rattle.amqp_decoder.specs.Described.{OneOfFault, OpenFault, not_open, nameless, not_described, no_descriptor, no_member, OpensDescribed, open_left}
use Rattle.amqp_decoder.specs.Described.{one_of_left}
use Rattle.amqp_lookahead.proofs.KindsOfCodes.{kind_data, kind_is, not_two}
use Rattle.amqp_decoder.proofs.ReadPrimitives.{has_add, has_rest, lower-lower, minus-minus, after_code, begun_same, fault_not_begun}
use Rattle.amqp_decoder.proofs.ReadPrimitives.{data_not_lacking, data_whole, whole_same, took_none}
use Rattle.amqp_decoder.proofs.SizedTexts.{sized_cut, no_text_value}
use Rattle.amqp_decoder.proofs.Steps.{answered, answered_begun, answered_later, answered_took, excused_by_source, not_lacking, took_pulled}
use Rattle.amqp_decoder.proofs.Places.{before_at, before_later}

after_data-after_data : (m n : ℕ) (st : State) → after_data n (after_data m st) ≡ after_data (m + n) st
after_data-after_data m n st = rw (minus-minus st.ahead m n, drop-drop n m st.rest, lower-lower st.top.left m n) refl

-- bytes that follow one another
pub took_join : (st : State) (m : State) (new : State) (a b : List ℕ) → Takes st a m → Takes m b new → Takes st (a ++ b) new
took_join st m new a b t u =
    let v = subst (λ z. Takes z b new) t.moved u in
    let long : length (a ++ b) ≡ length a + length b = length-append a b in
    record {
      room = subst (Has st.top.left) (sym long) (has_add st.top.left (length a) (length b) t.room v.room);
      rest = after_code a b st.rest t.rest v.rest
          ∙ ap (λ x. (a ++ b) ++ x) (drop-drop (length b) (length a) st.rest ∙ ap (λ n. drop n st.rest) (sym long));
      moved = v.moved ∙ after_data-after_data (length a) (length b) st ∙ ap (λ n. after_data n st) (sym long);
    }

-- the first byte, and those behind it
pub took_behind : (st : State) (m : State) (new : State) (c c' : ℕ) (b : List ℕ) → Takes st (c' ∷ b) new → Takes st (c ∷ []) m
    → (c' ≡ c) × Takes m b new
took_behind st m new c c' b t u =
    let after = drop (length (c' ∷ b)) st.rest in
    let tail : drop 1 st.rest ≡ b ++ after = ap (drop 1) t.rest in
    let end_ : drop (length b) (drop 1 st.rest) ≡ after = ap (drop (length b)) tail ∙ drop_at b after (length b) refl in
    let long : length (c' ∷ b) ≡ 1 + length b = omega arith in (
      ap (λ l. get_or l 0 0) (sym t.rest ∙ u.rest),
      subst (λ z. Takes z b new) (sym u.moved) (record {
        room = has_rest st.top.left 1 (length b) (subst (Has st.top.left) long t.room);
        rest = tail ∙ ap (λ x. b ++ x) (sym end_);
        moved = t.moved ∙ ap (λ n. after_data n st) long ∙ sym (after_data-after_data 1 (length b) st);
      }),
    )

-- a descriptor that is shared
is_marked : (o : Option (List Descriptor × ℕ)) (d : Descriptor) → IsMark o d → IsDescriptor o d []
is_marked None d h = absurd h
is_marked (Some ([], c)) d h = absurd h
is_marked (Some (e ∷ ds, c)) d h = (refl, h)

pub marked_took : (st : State) (d : Descriptor) → IsMark st.top.shared d → TakesDescriptor st d st
marked_took st d h = record { own = []; descriptor = is_marked st.top.shared d h; took = took_none st }

pub unmarked : (o : Option (List Descriptor × ℕ)) → IsUnmarked o → IsDescribable o → o ≡ None
unmarked None h k = refl
unmarked (Some ([], c)) h k = absurd (h k)
unmarked (Some (e ∷ ds, c)) h k = absurd h

-- a descriptor of its own
pub own_took : (st : State) (m : State) (new : State) (d : Descriptor) (c : ℕ) (b : List ℕ) → st.top.shared ≡ None → Takes st (c ∷ []) m
    → PrimitiveData (format c) (descriptor_value d) b → Takes m b new → TakesDescriptor st d new
own_took st m new d c b none t spelled u = record {
  own = (c ∷ []) ++ b;
  descriptor = subst (λ o. IsDescriptor o d ((c ∷ []) ++ b)) (sym none) (c, b, refl, spelled);
  took = took_join st m new (c ∷ []) b t u;
}

pub code_took : (st : State) (m : State) (new : State) (v c : ℕ) → st.top.shared ≡ None → Takes st (c ∷ []) m → ReadsData c (ulong v) m new
    → TakesDescriptor st (code v) new
code_took st m new v c none t h = own_took st m new (code v) c h.data_ none t h.spelled h.took

abbrev symbol_format : Bool → Format
symbol_format wide = variable (cond wide 4 1) (λ b. Some (symbol b))

symbol_is : (wide : Bool) → format (symbol_code wide) ≡ symbol_format wide
symbol_is true = refl
symbol_is false = refl

symbol_kind : (wide : Bool) → kind_at (symbol_code wide) ≡ Some 18
symbol_kind true = kind_is 0xb3 18 refl
symbol_kind false = kind_is 0xa3 18 refl

format_is : (c : ℕ) (wide : Bool) → c ≡ symbol_code wide → format c ≡ symbol_format wide
format_is c wide is = ap format is ∙ symbol_is wide

kind_is_symbol : (c : ℕ) (wide : Bool) → c ≡ symbol_code wide → kind_at c ≡ Some 18
kind_is_symbol c wide is = ap kind_at is ∙ symbol_kind wide

-- a size and as many bytes
announced_took : (w n : ℕ) (st : State) (m : State) (new : State) (s : List ℕ) → ReadsSize w st n m → s ≡ take n m.rest → n ≤ length m.rest
    → new ≡ after_bytes n m → (length s ≡ n) × Takes st (bytes_high_first w (length s) ++ s) new
announced_took w n st m new s a is few went =
    let long : length s ≡ n = ap length is ∙ length-take-le n m.rest few in
    let whole : m.rest ≡ s ++ drop (length s) m.rest = sym (take-append-drop n m.rest) ∙ ap (λ x. x ++ drop n m.rest) (sym is)
    ∙ ap (λ k. s ++ drop k m.rest) (sym long) in
    let pulled : Pulls m s new = record { rest = whole; moved = went ∙ ap (λ k. after_bytes k m) (sym long) } in
    let text : Takes a.mid s new = took_pulled n a.mid m s new long a.room a.lowered pulled in (
      long,
      took_join st a.mid new (bytes_high_first w (length s)) s (subst (λ k. Takes st (bytes_high_first w k) a.mid) (sym long) a.took) text,
    )

pub text_took : (st : State) (m : State) (new : State) (c : ℕ) (wide : Bool) (s : List ℕ) → st.top.shared ≡ None → c ≡ symbol_code wide
    → Takes st (c ∷ []) m → ReadsSized (cond wide 4 1) m s new → IsAscii s → TakesDescriptor st (name s) new
text_took st m new c wide s none is t z ascii =
    own_took st m new (name s) c _ none t
    (subst (λ F. PrimitiveData F (symbol s) (bytes_high_first (cond wide 4 1) (length s) ++ s)) (sym (format_is c wide is))
    (s, z.fits, refl, refl, ascii)) z.took

name_took : (st : State) (m : State) (sized : State) (new : State) (c n : ℕ) (wide : Bool) → st.top.shared ≡ None → c ≡ symbol_code wide
    → Takes st (c ∷ []) m → ReadsSize (cond wide 4 1) m n sized → n ≤ length sized.rest → IsAscii (take n sized.rest)
    → new ≡ after_bytes n sized
    → TakesDescriptor st (name (take n sized.rest)) new
name_took st m sized new c n wide none is t a few ascii went =
    let s = take n sized.rest in
    let x = announced_took (cond wide 4 1) n m sized new s a refl few went in
    text_took st m new c wide s none is t (record { fits = subst (λ k. k < 256 ^ cond wide 4 1) (sym x.0) a.fits; took = x.1 }) ascii

pub name_place : (members : List Member) (st : State) (m : State) (sized : State) (new : State) (c n : ℕ) (wide : Bool) (place : Option ℕ)
    → st.top.shared ≡ None → c ≡ symbol_code wide → Takes st (c ∷ []) m → ReadsSize (cond wide 4 1) m n sized
    → (n ≤ length sized.rest) × IsAscii (take n sized.rest) × (place ≡ place_of members (name (take n sized.rest)))
    × (new ≡ after_bytes n sized) → TakesPlace members st place new
name_place members st m sized new c n wide place none is t a (few, ascii, at_, went) = record {
  descriptor = name (take n sized.rest);
  took = name_took st m sized new c n wide none is t a few ascii went;
  is = sym at_;
}

-- why none is taken
pub missed_code : {takes : Bool} (st : State) (e : Error) (new : State) → st.top.shared ≡ None → FallsShort 1 st e new
    → MissesDescriptor takes st e new
missed_code st e new none s = record { kept = s.kept; why = elim s.why [ inl x ↦ inl (inr x) | inr x ↦ inr (none, no_code x) ] }

pub missed_ulong : {takes : Bool} (st : State) (m : State) (c : ℕ) (e : Error) (new : State) → st.top.shared ≡ None → Takes st (c ∷ []) m
    → LacksDataOf 5 c m e new → MissesDescriptor takes st e new
missed_ulong st m c e new none t l =
    record { kept = answered_took t l.kept; why = elim l.why [ inl x ↦ inl (inr x) | inr x ↦ inr (none, no_data t (inl l.kind) x) ] }

pub missed_kind : {takes : Bool} (st : State) (m : State) (c : ℕ) (e : Error) (new : State) → st.top.shared ≡ None → Takes st (c ∷ []) m
    → (kind_at c ≡ Some 5 → ⊥) → (c ≡ 0xa3 → ⊥) → (c ≡ 0xb3 → ⊥) → e ≡ other_kind (refusal_of c) → Answers m e new
    → MissesDescriptor takes st e new
missed_kind st m c e new none t code_ narrow wide is kept = record {
  kept = answered_took t kept;
  why = inr (none, no_kind t (λ k. elim k [ inl x ↦ code_ x | inr x ↦ not_two 18 c 0xa3 0xb3 refl narrow wide x ]) is);
}

pub missed_size : {takes : Bool} (st : State) (m : State) (c : ℕ) (wide : Bool) (e : Error) (new : State) → st.top.shared ≡ None
    → c ≡ symbol_code wide → Takes st (c ∷ []) m → SizedFault takes (cond wide 4 1) m e new → MissesDescriptor takes st e new
missed_size st m c wide e new none is t f = record {
  kept = answered_took t f.kept;
  why = elim f.why [
    | inl x ↦ inl x
    | inr x ↦ inr (none, no_data t (inr (kind_is_symbol c wide is)) (subst (λ F. LacksData F m e) (sym (format_is c wide is)) x))
  ];
}

pub missed_text : {takes : Bool} (st : State) (m : State) (m' : State) (c : ℕ) (wide : Bool) (s : List ℕ) (e : Error) (new : State)
    → st.top.shared ≡ None → c ≡ symbol_code wide → Takes st (c ∷ []) m → ReadsSized (cond wide 4 1) m s m' → (IsAscii s → ⊥)
    → e ≡ NonAscii → Answers m' e new
    → MissesDescriptor takes st e new
missed_text st m m' c wide s e new none is t z bad named kept =
    let b : List ℕ = bytes_high_first (cond wide 4 1) (length s) ++ s in
    let F = format_is c wide is in
    record {
      kept = answered_took t (answered_took z.took kept);
      why = inr (
        none,
        non_ascii t (kind_is_symbol c wide is) z.took (subst (λ G. IsWhole G b) (sym F) (s, z.fits, refl))
            (λ d h. no_text_value (cond wide 4 1) symbol s (descriptor_value d) z.fits bad
            (subst (λ G. PrimitiveData G (descriptor_value d) b) F h)) named,
      );
    }

missed_ascii : {takes : Bool} (st : State) (m : State) (sized : State) (c n : ℕ) (wide : Bool) (e : Error) (new : State)
    → st.top.shared ≡ None → c ≡ symbol_code wide → Takes st (c ∷ []) m → ReadsSize (cond wide 4 1) m n sized → n ≤ length sized.rest
    → (IsAscii (take n sized.rest) → ⊥)
    → e ≡ NonAscii → Answers sized e new → MissesDescriptor takes st e new
missed_ascii st m sized c n wide e new none is t a few bad named kept =
    let s = take n sized.rest in
    let x = announced_took (cond wide 4 1) n m sized (after_bytes n sized) s a refl few refl in
    missed_text st m (after_bytes n sized) c wide s e new none is t
    (record { fits = subst (λ k. k < 256 ^ cond wide 4 1) (sym x.0) a.fits; took = x.1 }) bad named (answered_later refl kept)

pub missed_name : (st : State) (m : State) (sized : State) (c n : ℕ) (wide : Bool) (e : Error) (new : State) → st.top.shared ≡ None
    → c ≡ symbol_code wide → Takes st (c ∷ []) m → ReadsSize (cond wide 4 1) m n sized → MissesName n sized e new
    → MissesDescriptor false st e new
missed_name st m sized c n wide e new none is t a f = elim f.why [
  | inl x ↦ record {
    kept = answered_took t (answered_took a.took (answered_later (ap (λ (z : State). z.failed) a.lowered) f.kept));
    why = inl (inr x);
  }
  | inr x ↦ elim x [
    | inl y ↦ missed_size st m c wide e new none is t (sized_cut (cond wide 4 1) n m sized e new a (record { kept = f.kept; why = inr y }))
    | inr (named, few, bad) ↦ missed_ascii st m sized c n wide e new none is t a few bad named f.kept
  ]
]

-- one descriptor stands in one place
one_descriptor : (o : Option (List Descriptor × ℕ)) (d e : Descriptor) (a b x y : List ℕ) → IsDescriptor o d a → IsDescriptor o e b
    → a ++ x ≡ b ++ y → (a ≡ b) × (d ≡ e)
one_descriptor None d e a b x y h k s = names_same d e a b x y h k s
one_descriptor (Some ([], c)) d e a b x y h k s = absurd h
one_descriptor (Some (f ∷ ds, c)) d e a b x y h k s = (h.0 ∙ sym k.0, h.1 ∙ sym k.1)

pub descriptor_same : (st : State) (d e : Descriptor) (m m' : State) → TakesDescriptor st d m → TakesDescriptor st e m' → (d ≡ e) × (m ≡ m')
descriptor_same st d e m m' t u =
    let s = one_descriptor st.top.shared d e t.own u.own (drop (length t.own) st.rest) (drop (length u.own) st.rest) t.descriptor
    u.descriptor (sym t.took.rest ∙ u.took.rest) in
    (s.1, t.took.moved ∙ ap (λ l. after_data (length l) st) s.0 ∙ sym u.took.moved)

descriptor_kind : (d : Descriptor) (c : ℕ) (b : List ℕ) → PrimitiveData (format c) (descriptor_value d) b → IsDescriptorKind (kind_at c)
descriptor_kind (name s) c b h = inr (kind_data c (symbol s) b h)
descriptor_kind (code n) c b h = inl (kind_data c (ulong n) b h)

pub fault_not_names : (st : State) (e : Error) (d : Descriptor) (new : State) (k : ℕ) (s : List ℕ) → DescriptorFault st e
    → PrimitiveData (format k) (descriptor_value d) s → Takes st (k ∷ s) new → ⊥
fault_not_names st e d new k s (no_code l) h t = not_lacking 1 st e (k ∷ s) (drop (length (k ∷ s)) st.rest) l (omega arith) t.room t.rest
fault_not_names st e d new k s (no_kind {c} {m} u other _) h t =
    let x = took_behind st m new c k s t u in other (subst (λ z. IsDescriptorKind (kind_at z)) x.0 (descriptor_kind d k s h))
fault_not_names st e d new k s (no_data {c} {m} u _ l) h t =
    let x = took_behind st m new c k s t u in
    data_not_lacking (format c) (descriptor_value d) m new e s (subst (λ z. PrimitiveData (format z) (descriptor_value d) s) x.0 h) x.1 l
fault_not_names st e d new k s (non_ascii {c} {m} {b} {m'} u _ v whole bad _) h t =
    let x = took_behind st m new c k s t u in
    let spelled = subst (λ z. PrimitiveData (format z) (descriptor_value d) s) x.0 h in
    let same : s ≡ b =
    whole_same (format c) s b (drop (length s) m.rest) (drop (length b) m.rest) (data_whole (format c) (descriptor_value d) s spelled)
    whole (sym x.1.rest ∙ v.rest) in
    bad d (subst (PrimitiveData (format c) (descriptor_value d)) same spelled)

pub fault_not_took : (st : State) (e : Error) (d : Descriptor) (new : State) → st.top.shared ≡ None → DescriptorFault st e
    → TakesDescriptor st d new → ⊥
fault_not_took st e d new none f t =
    let x : Names d t.own = subst (λ o. IsDescriptor o d t.own) none t.descriptor in
    fault_not_names st e d new x.0 x.1 f x.3 (subst (λ s. Takes st s new) x.2 t.took)

-- a value that is described may stand where its code does
is_describable : (o : Option (List Descriptor × ℕ)) (own : List ℕ) → IsFirst o 0 own → IsDescribable o
is_describable None own h = tt
is_describable (Some ([], c)) own h = sym h.1
is_describable (Some (d ∷ ds, c)) own h = tt

pub begun_describable : (st : State) (m : State) → ReadsCode st 0 m → IsDescribable m.top.shared
begun_describable st m g = subst (λ (z : State). IsDescribable z.top.shared) (sym g.moved) (is_describable st.top.shared g.own g.first)

pub described_not : (st : State) (e : Error) (mid : State) → DescribedFault st e → ReadsCode st 0 mid → length st.saved < st.nesting → ⊥
described_not st e mid (not_begun f) g n = fault_not_begun st e 0 mid f g
described_not st e mid (other_code {c} {m} h other _) g n = other (begun_same st c 0 m mid h g).0
described_not st e mid (too_deep h deep _) g n = omega arith

-- a call that begins a described value fails
pub unbegun : (st : State) (e : Error) (new : State) → RefusesRead false ReadsCode BeginFault st e new
    → AnswersFault false DescribedFault st e new
unbegun st e new r = record { kept = r.kept; again = r.again; named = λ g. elim (r.named g) [ inl x ↦ inl x | inr x ↦ inr (not_begun x) ] }

pub begun_fails : {takes : Bool} (fault : State → Error → Type 0) (st : State) (c : ℕ) (m : State) (e : Error) (new : State)
    → ReadsCode st c m → Answers m e new → IsExcused takes e new ⊎ fault st e → AnswersFault takes fault st e new
begun_fails fault st c m e new g kept why = record {
  kept = answered_begun g kept;
  again = λ d x. let h = g.going in absurd (cc);
  named = λ h. why;
}

begun_failed : {st m : State} {c : ℕ} → ReadsCode st c m → m.failed ≡ st.failed
begun_failed g = ap (λ (z : State). z.failed) g.moved

pub deep_fails : (st : State) (m : State) (e : Error) (new : State) → ReadsCode st 0 m → e ≡ depth_error m.nesting
    → m.nesting ≤ length m.saved → new ≡ refused_at (depth_error m.nesting) new.source.fault m → AnswersFault false DescribedFault st e new
deep_fails st m e new g is deep kept =
    let deep_ : st.nesting ≤ length st.saved = subst (λ (z : State). z.nesting ≤ length z.saved) g.moved deep in
    begun_fails DescribedFault st 0 m e new g (answered m new e (depth_error m.nesting) kept is)
    (inr (too_deep g deep_ (subst (λ (z : State). e ≡ depth_error z.nesting) g.moved is)))

-- one of the members
pub opens_one : (members : List Member) (st : State) (m : State) (named : State) (i : ℕ) (new : State) → ReadsCode st 0 m
    → TakesPlace members m (Some i) named → length named.saved < named.nesting → new ≡ in_described named → OpensOneOf members st i new
opens_one members st m named i new g t n is =
    let n_ : length m.saved < m.nesting = subst (λ (z : State). length z.saved < z.nesting) t.took.took.moved n in
    record {
      descriptor = t.descriptor;
      place = t.is;
      opens = record {
        coded = m;
        named = named;
        begun = g;
        nested = subst (λ (z : State). length z.saved < z.nesting) g.moved n_;
        descriptor = t.took;
        opened = is;
      };
    }

fault_not_one : (members : List Member) (st : State) (e : Error) (i : ℕ) (new : State) → OneOfFault members st e
    → OpensOneOf members st i new → ⊥
fault_not_one members st e i new (not_described f) o = described_not st e o.opens.coded f o.opens.begun o.opens.nested
fault_not_one members st e i new (no_descriptor {m} g none f) o =
    let same = (begun_same st 0 0 o.opens.coded m o.opens.begun g).1 in
    fault_not_took m e o.descriptor o.opens.named none f (subst (λ z. TakesDescriptor z o.descriptor o.opens.named) same o.opens.descriptor)
fault_not_one members st e i new (no_member {m} {m'} g t _) o =
    let same = (begun_same st 0 0 o.opens.coded m o.opens.begun g).1 in
    let (d, _) =
    descriptor_same m o.descriptor t.descriptor o.opens.named m'
    (subst (λ z. TakesDescriptor z o.descriptor o.opens.named) same o.opens.descriptor) t.took in
    let e : Some i ≡ None = sym o.place ∙ ap (place_of members) d ∙ t.is in
    cc

one_refused : (members : List Member) (st : State) (m : State) (e : Error) (new : State) → ReadsCode st 0 m → Answers m e new
    → IsExcused false e new ⊎ IsPlaced (At (one_of_left members) st) st e new
    → RefusesAt false (OpensOneOf members) (At (one_of_left members)) st e new
one_refused members st m e new g kept why = record {
  kept = answered_begun g kept;
  again = λ d x. let h = g.going in absurd (cc);
  named = λ going. why;
  none = elim why [ inl x ↦ inl x | inr (left, x, p) ↦ inr (λ i b o. fault_not_one members st e i b x.0 o) ];
}

pub one_unbegun : (members : List Member) (st : State) (e : Error) (new : State) → AnswersFault false DescribedFault st e new
    → StandsHere st new → RefusesAt false (OpensOneOf members) (At (one_of_left members)) st e new
one_unbegun members st e new f here = record { kept = f.kept; again = f.again; named = λ g. named g (f.named g); none = none st.error refl }
  where
    named : st.error ≡ None → IsExcused false e new ⊎ DescribedFault st e
        → IsExcused false e new ⊎ IsPlaced (At (one_of_left members) st) st e new
    named g (inl x) = inl x
    named g (inr x) = inr (length st.rest, (not_described x, refl), here g)

    none : (o : Option Error) → st.error ≡ o → IsExcused false e new ⊎ ((i : ℕ) (b : State) → OpensOneOf members st i b → ⊥)
    none None g = elim (f.named g) [ inl x ↦ inl x | inr x ↦ inr (λ i b o. fault_not_one members st e i b (not_described x) o) ]
    none (Some d) g = inr (λ i b o. let h = o.opens.begun.going in absurd (cc))

pub one_missed : (members : List Member) (st : State) (m : State) (e : Error) (new : State) → ReadsCode st 0 m
    → MissesDescriptor false m e new → IsPlaceOf new.source.fault m → RefusesAt false (OpensOneOf members) (At (one_of_left members)) st e new
one_missed members st m e new g f p =
    one_refused members st m e new g f.kept
    (elim f.why [
      | inl x ↦ inl x
      | inr (none, x) ↦ inr (length m.rest, (no_descriptor g none x, refl), before_later st m (length m.rest) new (begun_failed g) p)
    ])

pub one_other : (members : List Member) (st : State) (m : State) (named : State) (e : Error) (place : ℕ) (new : State) → ReadsCode st 0 m
    → TakesPlace members m None named → e ≡ WrongDescriptor → Answers named e new → new.source.fault ≡ place → IsPlaceOf place m
    → RefusesAt false (OpensOneOf members) (At (one_of_left members)) st e new
one_other members st m named e place new g t is kept there at =
    one_refused members st m e new g (answered_took t.took.took kept)
    (inr (
      length m.rest,
      (no_member g t is, refl),
      before_later st m (length m.rest) new (begun_failed g) (before_at m (length m.rest) _ new there at),
    ))

-- what was named nests as deep as what was begun
pub no_deeper : (m named : State) (s : List ℕ) → Takes m s named → length m.saved < m.nesting → named.nesting ≤ length named.saved → ⊥
no_deeper m named s t few deep =
    let deep_ : m.nesting ≤ length m.saved = subst (λ (z : State). z.nesting ≤ length z.saved) t.moved deep in omega (arith, few, deep_)

-- what begins with a member's descriptor is opened
pub one_entered : (members : List Member) (st : State) (m : State) (named : State) (i : ℕ) (new : State) → ReadsCode st 0 m
    → TakesPlace members m (Some i) named → (length named.saved < named.nesting) × (new ≡ in_described named) → OpensOneOf members st i new
one_entered members st m named i new g t (n, is) = opens_one members st m named i new g t n is

pub fault_not_open : (st : State) (e : Error) (d : Descriptor) (new : State) → OpenFault st e → OpensDescribed st d new → ⊥
fault_not_open st e d new (not_open f) o = described_not st e o.coded f o.begun o.nested
fault_not_open st e d new (nameless {m} g none f) o =
    let same = (begun_same st 0 0 o.coded m o.begun g).1 in
    fault_not_took m e d o.named none f (subst (λ z. TakesDescriptor z d o.named) same o.descriptor)

-- any described value
abbrev Any : State → DescriptorValue → State → Type 0
Any st d st' = OpensDescribed st (descriptor_of d) st'

pub any_unbegun : (st : State) (e : Error) (new : State) → AnswersFault false DescribedFault st e new → StandsHere st new
    → RefusesAt true Any (At open_left) st e new
any_unbegun st e new f here = record { kept = f.kept; again = f.again; named = λ g. named g (f.named g); none = none st.error refl }
  where
    named : st.error ≡ None → IsExcused false e new ⊎ DescribedFault st e → IsExcused true e new ⊎ IsPlaced (At open_left st) st e new
    named g (inl x) = inl (excused_by_source true e new x)
    named g (inr x) = inr (length st.rest, (not_open x, refl), here g)

    none : (o : Option Error) → st.error ≡ o → IsExcused true e new ⊎ ((d : DescriptorValue) (b : State) → Any st d b → ⊥)
    none None g =
        elim (f.named g) [
          | inl x ↦ inl (excused_by_source true e new x)
          | inr x ↦ inr (λ d b o. fault_not_open st e (descriptor_of d) b (not_open x) o)
        ]
    none (Some c) g = inr (λ d b o. let h = o.begun.going in absurd (cc))

pub any_missed : (st : State) (m : State) (e : Error) (new : State) → ReadsCode st 0 m → MissesDescriptor true m e new
    → IsPlaceOf new.source.fault m → RefusesAt true Any (At open_left) st e new
any_missed st m e new g f p = record {
  kept = answered_begun g f.kept;
  again = λ d x. let h = g.going in absurd (cc);
  named = λ going. why;
  none = elim why [ inl x ↦ inl x | inr (left, x, q) ↦ inr (λ d b o. fault_not_open st e (descriptor_of d) b x.0 o) ];
}
  where
    why : IsExcused true e new ⊎ IsPlaced (At open_left st) st e new
    why = elim f.why [
      | inl x ↦ inl x
      | inr (none, x) ↦ inr (length m.rest, (nameless g none x, refl), before_later st m (length m.rest) new (begun_failed g) p)
    ]

pub any_entered : (st : State) (m : State) (d : Descriptor) (named : State) (new : State) → ReadsCode st 0 m → TakesDescriptor m d named
    → (length named.saved < named.nesting) × (new ≡ in_described named) → OpensDescribed st d new
any_entered st m d named new g t (n, is) =
    let n_ : length m.saved < m.nesting = subst (λ (z : State). length z.saved < z.nesting) t.took.moved n in
    record {
      coded = m;
      named = named;
      begun = g;
      nested = subst (λ (z : State). length z.saved < z.nesting) g.moved n_;
      descriptor = t;
      opened = is;
    }
