-- What is at fault where a decoder stands.
use Rattle.std.proofs.Common.{◌≡◌, ℕ, zero, suc, ◌<◌, ◌≤◌, ◌⊎◌, inl, inr, Option, Some, None}
use Rattle.std.proofs.Common.{List, [], ◌∷◌, ◌++◌, length, refl, sym, ap, ◌∙◌, subst, subst₂, arith}
use Rattle.std.proofs.lemmas.List.{length-take}
use Rattle.amqp_model.specs.Term.{Descriptor}
use Rattle.amqp_model.specs.Constructors.{format}
use Rattle.amqp_model.specs.Spelling.{IsKnown}
use Rattle.amqp_wire.specs.declared.error.Error.{Error}
use Rattle.amqp_wire.specs.declared.error.Error.TheVariants.{Cut, Size, Missing}
use Rattle.amqp_wire.specs.Codes.{refusal_of}
use Rattle.amqp_lengths.specs.Announced.{Wants}
use Rattle.amqp_lengths.specs.Stands.{Piece, a_value, an_item, an_end, Around, unbounded, whole_one}
use Rattle.amqp_lengths.specs.Stands.{cut_one, outermost, IsOwn, IsUnder, IsEnd, no_step, Begins, IsWanting, HasCode, HasUnknown}
use Rattle.amqp_lengths.specs.Stands.{IsAbsent, IsWrong, StandsFrom}
use Rattle.amqp_decoder.specs.State.{State, Has, bound_of, counted_in, after_look}
use Rattle.amqp_decoder.specs.Steps.{Lacks, cut_open, past_limit, cut_inside, too_long}
use Rattle.amqp_decoder.specs.Rooms.{HasFlatItems}
use Rattle.amqp_decoder.specs.Reading.{IsFirst, ReadsCode, BeginFault, missing, no_code, one_too_many, after_peek, PeeksCode}
use Rattle.amqp_decoder.specs.Places.{Located, Here}
use Rattle.amqp_placed.specs.Facing.{up_to, bytes_open, IsAround, IsUnderShared, IsNext, Faces, Shows, IsShown}
use Rattle.amqp_placed.proofs.Past.{past_code, past_bytes}
use Rattle.amqp_placed.proofs.Codes.{code_wrong}

pub none_some : {n : ℕ} → None ≡ Some n → ⊥
none_some e = cc

pub outermost_none : (around : Around) → outermost around unbounded ≡ around
outermost_none unbounded = refl
outermost_none whole_one = refl
outermost_none cut_one = refl

-- the same, of an error that is another's name
pub wrong_as : (e x : Error) (around : Around) (P : Piece) (d : ℕ) (z : List ℕ) → e ≡ x → IsWrong x around P d z → IsWrong e around P d z
wrong_as e x around P d z is h = subst (λ y. IsWrong y around P d z) (sym is) h

-- it stands where this begins
pub here_from : (around : Around) (P : Piece) (d : ℕ) (z : List ℕ) (e : Error) → IsWrong e around P d z
    → StandsFrom around P d z e (length z)
here_from around P d z e h = record {
  piece = P;
  depth = d;
  bytes = z;
  inner = unbounded;
  behind = 0;
  leads = no_step P d z;
  place = omega arith;
  wrong = subst (λ x. IsWrong e x P d z) (sym (outermost_none around)) h;
}

-- it stands where the decoder does
pub here_shows : (st : State) (f : Located) (P : Piece) (d : ℕ) (around : Around) → f.left ≡ length st.rest
    → IsWrong f.error around P d (bytes_open st) → Shows st f P d around
here_shows st f P d around is h = record {
  left = length (bytes_open st);
  place = omega (arith, is);
  stands = here_from around P d (bytes_open st) f.error h;
}

-- Fewer bytes are there than are wanted.
pub lacks_wrong : (around : Around) (P : Piece) (d : ℕ) (z : List ℕ) (n : ℕ) (st : State) (e : Error) → IsAround around st
    → (bound_of st.top ≡ None → st.top.left ≡ None) → (length (bytes_open st) < n → IsWanting P z) → Lacks n st e → IsWrong e around P d z
lacks_wrong around P d z n st e h unlimited wants (cut_open none has few is) =
    wrong_as e Cut around P d z is (inl (not_whole around h, wants (omega (arith, ap (λ x. length (up_to x st.rest)) none, few))))
  where
    not_whole : (around : Around) → IsAround around st → around ≡ whole_one → ⊥
    not_whole unbounded h e = cc
    not_whole whole_one (l, some, all) e = none_some (sym none ∙ some)
    not_whole cut_one h e = cc
lacks_wrong around P d z n st e h unlimited wants (past_limit none has is) =
    absurd (has (subst (λ o. Has o n) (sym (unlimited none)) tt))
lacks_wrong unbounded P d z n st e h unlimited wants (cut_inside some less few is) = absurd (none_some (sym h.0 ∙ some))
lacks_wrong whole_one P d z n st e h unlimited wants (cut_inside some less few is) = absurd (omega (arith, h.2, few))
lacks_wrong cut_one P d z n st e h unlimited wants (cut_inside {l} some less few is) =
    wrong_as e Cut cut_one P d z is (inl ((λ e. cc), wants (fewer less)))
  where
    fewer : (l < n) ⊎ (length st.rest < n) → length (bytes_open st) < n
    fewer (inl few) = omega (arith, ap (λ x. length (up_to x st.rest)) some, length-take l st.rest, few)
    fewer (inr few) = omega (arith, ap (λ x. length (up_to x st.rest)) some, length-take l st.rest, few)
lacks_wrong unbounded P d z n st e h unlimited wants (too_long some less all is) = absurd (none_some (sym h.0 ∙ some))
lacks_wrong whole_one P d z n st e h unlimited wants (too_long {l} some less all is) =
    wrong_as e Size whole_one P d z is (inl (
      refl,
      wants (omega (
        arith,
        ap (λ x. length (up_to x st.rest)) some,
        length-take l st.rest,
        less,
      )),
    ))
lacks_wrong cut_one P d z n st e h unlimited wants (too_long some less all is) = absurd (omega (arith, h.2, all))

-- fewer than one byte
pub no_bytes : (l : List ℕ) → length l < 1 → l ≡ []
no_bytes [] few = refl
no_bytes (x ∷ l) few = absurd (omega (arith, few))

-- What has a constructor of its own, or shares one.
pub own_begins : (P : Piece) → IsOwn P → Begins P
own_begins a_value own = tt
own_begins (an_item kind n i) own = tt
own_begins _ own = absurd own

pub own_wanting : (P : Piece) → IsOwn P → IsWanting P []
own_wanting a_value own = inl refl
own_wanting (an_item kind n i) own = inl refl
own_wanting _ own = absurd own

pub own_code : (P : Piece) (c : ℕ) (z y : List ℕ) → IsOwn P → z ≡ c ∷ y → HasCode P z c
own_code a_value c z y own is = (y, is)
own_code (an_item kind n i) c z y own is = (y, is)
own_code _ c z y own is = absurd own

pub own_unknown : (P : Piece) (c : ℕ) (z y : List ℕ) → IsOwn P → z ≡ c ∷ y → (c ≡ 0 → ⊥) → (IsKnown (format c) → ⊥) → HasUnknown P z c
own_unknown a_value c z y own is some none = ((y, is), some, none)
own_unknown (an_item kind n i) c z y own is some none = ((y, is), some, none)
own_unknown _ c z y own is some none = absurd own

pub own_under : (P : Piece) (c : ℕ) (z y : List ℕ) → IsOwn P → z ≡ c ∷ y → IsUnder P z c y
own_under a_value c z y own is = is
own_under (an_item kind n i) c z y own is = is
own_under _ c z y own is = absurd own

own_wants : (P : Piece) (c : ℕ) (z y : List ℕ) → IsOwn P → z ≡ c ∷ y → Wants (format c) y → IsWanting P z
own_wants a_value c z y own is w = inr (c, y, is, w)
own_wants (an_item kind n i) c z y own is w = inr (c, y, is, w)
own_wants _ c z y own is w = absurd own

pub shared_begins : (o : Option (List Descriptor × ℕ)) (P : Piece) → IsUnderShared o P → Begins P
shared_begins None P own = own_begins P own
shared_begins (Some (ds, c)) P (n, i, is, known) = subst Begins (sym is) tt

-- A code was taken in front.
pub record Coded (c : ℕ) (P : Piece) (z y : List ℕ) : Type 0 where
  pub begins : Begins P
  pub has : HasCode P z c
  pub unknown_so : (c ≡ 0 → ⊥) → (IsKnown (format c) → ⊥) → HasUnknown P z c
  pub under : (c ≡ 0 → ⊥) → IsUnder P z c y
  pub wants : (c ≡ 0 → ⊥) → Wants (format c) y → IsWanting P z

pub coded : (o : Option (List Descriptor × ℕ)) (P : Piece) (c : ℕ) (own z y : List ℕ) → IsUnderShared o P → IsFirst o c own → z ≡ own ++ y
    → Coded c P z y
coded None P c own z y h first is =
    let all : z ≡ c ∷ y = is ∙ ap (λ l. l ++ y) first in
    record {
      begins = own_begins P h;
      has = own_code P c z y h all;
      unknown_so = own_unknown P c z y h all;
      under = λ some. own_under P c z y h all;
      wants = λ some. own_wants P c z y h all;
    }
coded (Some ([], s)) P c own z y (n, i, p, known) first is =
    let all : y ≡ z = sym (is ∙ ap (λ l. l ++ y) first.0) in
    subst (λ Q. Coded c Q z y) (sym p) (record {
      begins = tt;
      has = first.1;
      unknown_so = λ some none. absurd (none (subst (λ k. IsKnown (format k)) (sym first.1) known));
      under = λ some. (first.1, all);
      wants = λ some w. (refl, subst₂ (λ k l. Wants (format k) l) first.1 all w);
    })
coded (Some (e ∷ ds, s)) P c own z y (n, i, p, known) first is = subst (λ Q. Coded c Q z y) (sym p) (record {
  begins = tt;
  has = first.1;
  unknown_so = λ some none. absurd (some first.1);
  under = λ some. absurd (some first.1);
  wants = λ some. absurd (some first.1);
})

-- an item is left
pub next_left : (left : Option ℕ) (o : Option (List Descriptor × ℕ)) (P : Piece) → Has left 1 → IsNext left o P → IsUnderShared o P
next_left None o P h next = next
next_left (Some zero) o P h next = absurd (omega (arith, h))
next_left (Some (suc n)) o P h next = next

pub next_end : (left : Option ℕ) (o : Option (List Descriptor × ℕ)) (P : Piece) → left ≡ Some 0 → IsNext left o P → IsEnd P
next_end left o P is next = subst (λ x. IsNext x o P) is next

end_absent : (P : Piece) (z : List ℕ) → IsEnd P → IsAbsent P z
end_absent (an_end kind n) z h = tt
end_absent _ z h = absurd h

pub code_taken : (st : State) (c : ℕ) (m : State) (P : Piece) → (h : ReadsCode st c m) → IsNext st.top.items st.top.shared P
    → Coded c P (bytes_open st) (bytes_open m)
code_taken st c m P h next =
    coded st.top.shared P c h.own (bytes_open st) (bytes_open m) (next_left st.top.items st.top.shared P h.item next) h.first
    (past_bytes (past_code st c m h))

-- Why no value begins.
pub begin_wrong : (st : State) (e : Error) (P : Piece) (d : ℕ) (around : Around) → Faces st P d around → BeginFault st e
    → IsWrong e around P d (bytes_open st)
begin_wrong st e P d around h (missing none is) =
    wrong_as e Missing around P d (bytes_open st) is (end_absent P (bytes_open st) (next_end st.top.items st.top.shared P none h.next))
begin_wrong st e P d around h (no_code item own lacks) =
    let is_own : IsOwn P = subst (λ o. IsUnderShared o P) own (next_left st.top.items st.top.shared P item h.next) in
    lacks_wrong around P d (bytes_open st) 1 st e h.is_around h.unlimited
    (λ few. subst (IsWanting P) (sym (no_bytes (bytes_open st) few)) (own_wanting P is_own)) lacks
begin_wrong st e P d around h (one_too_many {c} {m} code full is) = absurd (full (subst (λ o. Has o (counted_in st.top.shared c))
    (sym h.uncounted) tt))

pub begin_shown : (st : State) (f : Located) → Here BeginFault st f → IsShown st f
begin_shown st f (fault, is) P d around h = here_shows st f P d around is (begin_wrong st f.error P d around h fault)

-- A value that can hold others isn't at a greater depth than it may be.
pub deep_here : (st : State) (P : Piece) (d : ℕ) (around : Around) → Faces st P d around → Has st.top.items 1
    → (HasFlatItems st.top.shared → ⊥)
    → length st.saved ≤ d
deep_here st P d around h item uneven = go h.deep
  where
    go : HasFlatItems st.top.shared ⊎ ((st.top.items ≡ Some 0) ⊎ (length st.saved ≤ d)) → length st.saved ≤ d
    go (inl flat) = absurd (uneven flat)
    go (inr (inl none)) = absurd (let x : Has (Some 0) 1 = subst (λ o. Has o 1) none item in omega (arith, x))
    go (inr (inr deep)) = deep

-- A code of another kind stands there.
pub other_code_wrong : (st : State) (c : ℕ) (m : State) (P : Piece) (d : ℕ) (around : Around) → Faces st P d around → ReadsCode st c m
    → IsWrong (refusal_of c) around P d (bytes_open st)
other_code_wrong st c m P d around h code =
    let k = code_taken st c m P code h.next in
    code_wrong c around P d (bytes_open st) (λ known. (k.begins, k.has)) k.unknown_so

-- What was looked at isn't taken.
looked_around : (n : ℕ) (st : State) (around : Around) → IsAround around st → IsAround around (after_look n st)
looked_around n st unbounded h = h
looked_around n st whole_one h = h
looked_around n st cut_one h = h

looked_shown : (n : ℕ) (st : State) (f : Located) → IsShown (after_look n st) f → IsShown st f
looked_shown n st f shown P d around h =
    let s = shown P d around (record {
      nesting = h.nesting;
      uncounted = h.uncounted;
      unlimited = h.unlimited;
      room = h.room;
      next = h.next;
      is_around = looked_around n st around h.is_around;
      deep = h.deep;
    }) in
    record { left = s.left; place = s.place; stands = s.stands }

pub peeked_shown : (st : State) (c : ℕ) (mid : State) (f : Located) → PeeksCode st c mid → IsShown mid f
    → IsShown st f
peeked_shown st c mid f p shown = by_shared st.top.shared (subst (λ x. IsShown x f) p.kept shown)
  where
    by_shared : (o : Option (List Descriptor × ℕ)) → IsShown (after_peek o st) f → IsShown st f
    by_shared None s = looked_shown 1 st f s
    by_shared (Some x) s = s
