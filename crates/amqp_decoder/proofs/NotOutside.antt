-- No fault is named as want of memory, or as the source's.
use Rattle.std.proofs.Common.{subst, sym, ap, ◌∙◌, Some, ◌≡◌, inl, inr, ℕ, ◌-◌, Bool, true, false, cond, eqb, List, ◌++◌, length}
use Rattle.amqp_model.specs.Term.{Container}
use Rattle.amqp_model.specs.Constructors.{Format, fixed, variable, compound, unknown, format}
use Rattle.amqp_wire.specs.Codes.{is_known, refusal_of}
use Rattle.amqp_wire.specs.declared.error.Error.TheVariants.{Memory, UnknownCode, FloatCode, WrongType, BadBool, BadChar, BadUtf8, NonAscii}
use Rattle.amqp_wire.specs.declared.error.Error.TheVariants.{InvalidValue, Read, Limit}
use Rattle.amqp_wire.specs.declared.error.Error.{Error}
use Rattle.amqp_decoder.specs.declared.frame.Place.{Place}
use Rattle.amqp_decoder.specs.declared.frame.Place.TheVariants.{InArray}
use Rattle.amqp_decoder.specs.State.{refused_at, State, depth_error, in_container}
use Rattle.amqp_decoder.specs.Steps.{unsized, Fails, IsOutside, IsReadError, Lacks, cut_open, past_limit, cut_inside, too_long, SizeError, cut, wrong, past}
use Rattle.amqp_decoder.specs.Misspelled.{IsMisspelling}
use Rattle.amqp_decoder.specs.Reading.{BeginFault, missing, no_code, one_too_many}
use Rattle.amqp_decoder.specs.Primitives.{LacksData, PrimitiveFault, not_begun, wrong_code, no_data, bad_data}
use Rattle.amqp_decoder.specs.Containers.{EndFault, other_place, nothing_open, items_left, CloseFault, not_at_end, bytes_left_over}
use Rattle.amqp_decoder.specs.Containers.{HeaderFault, no_size, impossible, no_count, no_content, EnterFault, no_header, odd_count, no_room}
use Rattle.amqp_decoder.specs.Containers.{too_deep, OpenFault}
use Rattle.amqp_decoder.specs.Containers as containers
use Rattle.amqp_lookahead.specs.Members.{Member}
use Rattle.amqp_decoder.specs.Described.{other_kind, DescribedFault, DescriptorFault, no_kind, non_ascii, OneOfFault, not_described}
use Rattle.amqp_decoder.specs.Described.{no_descriptor, no_member}
use Rattle.amqp_decoder.specs.Described as described
use Rattle.amqp_decoder.specs.Described.{not_open, nameless}
use Rattle.amqp_decoder.specs.Arrays as arrays
use Rattle.amqp_decoder.specs.Arrays.{ConstructorFault, no_mark, too_many, no_known_code, SharesFault, no_constructor, zero_width}
use Rattle.amqp_decoder.specs.Arrays.{too_nested, OpenItemsFault, EnterArrayFault, no_items_opened, no_start, ArrayFault}
use Rattle.amqp_decoder.specs.Terms as terms
use Rattle.amqp_decoder.specs.Terms.{LacksAnnounced, NoTerm, wrong_size, wrong_term, SpellingFault, no_term, TermFault, in_array}
use Rattle.amqp_decoder.specs.Terms.{misspelled}
use Rattle.amqp_lengths.specs.Announced.{content_size}
use Rattle.amqp_lengths.specs.Faults as lengths
use Rattle.amqp_decoder.proofs.TermErrors.{depth_misspelled, term_error}

pub read_is_outside : (e : Error) → IsReadError e → IsOutside e
read_is_outside (Read k) h = tt
read_is_outside _ h = absurd h

misspelling_inside : (e : Error) → IsMisspelling e → IsOutside e → ⊥
misspelling_inside Memory said out = said
misspelling_inside (Read k) said out = said
misspelling_inside _ said out = out

refusal_by : (a b d k : Bool) (c : ℕ)
    → IsOutside (cond a (FloatCode c) (cond b (FloatCode c) (cond d (WrongType c) (cond k (WrongType c) (UnknownCode c))))) → ⊥
refusal_by true b d k c h = h
refusal_by false true d k c h = h
refusal_by false false true k c h = h
refusal_by false false false true c h = h
refusal_by false false false false c h = h

pub refusal_not_outside : {e : Error} → IsOutside e → (c : ℕ) → e ≡ refusal_of c → ⊥
refusal_not_outside out c h = refusal_by (eqb c 0x72) (eqb c 0x82) (eqb c 0) (is_known (format c)) c (subst IsOutside h out)

kind_by : (a b d k : Bool) (c : ℕ)
    → IsOutside (other_kind (cond a (FloatCode c) (cond b (FloatCode c) (cond d (WrongType c) (cond k (WrongType c) (UnknownCode c)))))) → ⊥
kind_by true b d k c h = h
kind_by false true d k c h = h
kind_by false false true k c h = h
kind_by false false false true c h = h
kind_by false false false false c h = h

kind_not_outside : {e : Error} → IsOutside e → (c : ℕ) → e ≡ other_kind (refusal_of c) → ⊥
kind_not_outside out c h = kind_by (eqb c 0x72) (eqb c 0x82) (eqb c 0) (is_known (format c)) c (subst IsOutside h out)

pub depth_not_outside : {e : Error} → IsOutside e → (n : ℕ) → e ≡ depth_error n → ⊥
depth_not_outside out n is = misspelling_inside (depth_error n) (depth_misspelled n) (subst IsOutside is out)

bad_by : (a b c d : Bool) → IsOutside (cond a BadBool (cond b BadChar (cond c BadUtf8 (cond d NonAscii InvalidValue)))) → ⊥
bad_by true b c d h = h
bad_by false true c d h = h
bad_by false false true d h = h
bad_by false false false true h = h
bad_by false false false false h = h

lacks_not_outside : {e : Error} → IsOutside e → (n : ℕ) (st : State) → Lacks n st e → ⊥
lacks_not_outside out n st (cut_open h f l is) = subst IsOutside is out
lacks_not_outside out n st (past_limit h f is) = subst IsOutside is out
lacks_not_outside out n st (cut_inside h w l is) = subst IsOutside is out
lacks_not_outside out n st (too_long h l t is) = subst IsOutside is out

size_not_outside : {e : Error} → IsOutside e → (own : ℕ) (st : State) → SizeError own st e → ⊥
size_not_outside out own st (cut f l is) = subst IsOutside is out
size_not_outside out own st (wrong f l is) = subst IsOutside is out
size_not_outside out own st (past b f is) = subst IsOutside is out

pub begin_not_outside : {e : Error} → IsOutside e → (st : State) → BeginFault st e → ⊥
begin_not_outside out st (missing h is) = subst IsOutside is out
begin_not_outside out st (no_code item h l) = lacks_not_outside out 1 st l
begin_not_outside out st (one_too_many g full is) = subst IsOutside is out

data_not_outside : (e : Error) → IsOutside e → (F : Format) (st : State) → LacksData F st e → ⊥
data_not_outside e out (fixed w v) st l = lacks_not_outside out w st l
data_not_outside e out (variable w v) st (inl l) = lacks_not_outside out w st l
data_not_outside e out (variable w v) st (inr (n, m, fits, t, l)) = lacks_not_outside out n m l
data_not_outside e out (compound k w) st l = l
data_not_outside e out unknown st l = l

pub primitive_not_outside : {e : Error} → IsOutside e → (k : ℕ) (st : State) → PrimitiveFault k st e → ⊥
primitive_not_outside out k st (not_begun f) = begin_not_outside out st f
primitive_not_outside out k st (wrong_code {c} {m} g other is) = refusal_not_outside out c is
primitive_not_outside {e} out k st (no_data {c} {m} g kind l) = data_not_outside e out (format c) m l
primitive_not_outside out k st (bad_data g kind t h none is) = bad_by (eqb k 1) (eqb k 13) (eqb k 17) (eqb k 18) (subst IsOutside is out)

pub end_not_outside : {e : Error} → IsOutside e → (place : Place) (st : State) → EndFault place st e → ⊥
end_not_outside out place st (other_place f is) = subst IsOutside is out
end_not_outside out place st (nothing_open f is) = subst IsOutside is out
end_not_outside out place st (items_left open_ f is) = subst IsOutside is out

pub close_not_outside : {e : Error} → IsOutside e → (place : Place) (st : State) → CloseFault place st e → ⊥
close_not_outside out place st (not_at_end f) = end_not_outside out place st f
close_not_outside out place st (bytes_left_over open_ none f s) = size_not_outside out 0 st s

header_not_outside : {e : Error} → IsOutside e → (l : Bool) (w : ℕ) (st : State) → HeaderFault l w st e → ⊥
header_not_outside out l w st (no_size x) = lacks_not_outside out w st x
header_not_outside out l w st (impossible {size} {m} fits t f s) = size_not_outside out size m s
header_not_outside out l w st (no_count {size} {m} fits t p x) = lacks_not_outside out w m x
header_not_outside out l w st (no_content {n} {m} some few t s) = size_not_outside out 0 m s

enter_not_outside : {e : Error} → IsOutside e → (kind : Container) (w : ℕ) (st : State) → EnterFault kind w st e → ⊥
enter_not_outside out kind w st (no_header f) = header_not_outside out _ w st f
enter_not_outside out kind w st (odd_count h f is) = subst IsOutside is out
enter_not_outside out kind w st (no_room {n} {content} {m} h c r) = size_not_outside out content m r.why
enter_not_outside out kind w st (too_deep h c room deep is) = depth_not_outside out _ is

pub open_not_outside : {e : Error} → IsOutside e → (kind : Container) (st : State) → OpenFault kind st e → ⊥
open_not_outside out kind st (containers.not_begun f) = begin_not_outside out st f
open_not_outside out kind st (containers.wrong_code {c} {m} g never is) = refusal_not_outside out c is
open_not_outside out kind st (containers.no_data {c} {width = w} {m} g is f) = enter_not_outside out kind w m f

descriptor_not_outside : {e : Error} → IsOutside e → (st : State) → DescriptorFault st e → ⊥
descriptor_not_outside out st (described.no_code l) = lacks_not_outside out 1 st l
descriptor_not_outside out st (no_kind {c} {m} t other is) = kind_not_outside out c is
descriptor_not_outside {e} out st (described.no_data {c} {m} t kind l) = data_not_outside e out (format c) m l
descriptor_not_outside out st (non_ascii t kind u whole none is) = subst IsOutside is out

described_not_outside : {e : Error} → IsOutside e → (st : State) → DescribedFault st e → ⊥
described_not_outside out st (described.not_begun f) = begin_not_outside out st f
described_not_outside out st (described.other_code {c} {m} g other is) = refusal_not_outside out c is
described_not_outside out st (described.too_deep g deep is) = depth_not_outside out _ is

pub one_of_not_outside : {e : Error} → IsOutside e → (members : List Member) (st : State) → OneOfFault members st e → ⊥
one_of_not_outside out members st (not_described f) = described_not_outside out st f
one_of_not_outside out members st (no_descriptor {m} g none f) = descriptor_not_outside out m f
one_of_not_outside out members st (no_member g t is) = subst IsOutside is out

pub open_described_not_outside : {e : Error} → IsOutside e → (st : State) → described.OpenFault st e → ⊥
open_described_not_outside out st (not_open f) = described_not_outside out st f
open_described_not_outside out st (nameless {m} g none f) = descriptor_not_outside out m f

constructor_not_outside : {e : Error} → IsOutside e → (st : State) → ConstructorFault st e → ⊥
constructor_not_outside out st (arrays.no_code ds own m few marks t l) = lacks_not_outside out 1 m l
constructor_not_outside out st (no_mark ds m few t f) = descriptor_not_outside out m f
constructor_not_outside out st (too_many ds m many t is) = subst IsOutside is out
constructor_not_outside out st (no_known_code ds c m few t some never is) = refusal_not_outside out c is

shares_not_outside : {e : Error} → IsOutside e → (n : ℕ) (st : State) → SharesFault n st e → ⊥
shares_not_outside out n st (no_constructor f) = constructor_not_outside out st f
shares_not_outside out n st (zero_width ds c m some t wide is) = subst IsOutside is out
shares_not_outside out n st (too_nested ds c m some t uneven deep is) = depth_not_outside out _ is

open_items_not_outside : {e : Error} → IsOutside e → (w : ℕ) (st : State) → OpenItemsFault w st e → ⊥
open_items_not_outside out w st (arrays.no_header f) = header_not_outside out false w st f
open_items_not_outside out w st (arrays.no_room n content m h r) = size_not_outside out content m r.why
open_items_not_outside out w st (arrays.too_deep n content m h deep is) = depth_not_outside out _ is

enter_array_not_outside : {e : Error} → IsOutside e → (w : ℕ) (st : State) → EnterArrayFault w st e → ⊥
enter_array_not_outside out w st (no_items_opened f) = open_items_not_outside out w st f
enter_array_not_outside out w st (no_start n content m h room some f) = shares_not_outside out n (in_container InArray 0 content m) f

pub array_not_outside : {e : Error} → IsOutside e → (st : State) → ArrayFault st e → ⊥
array_not_outside out st (arrays.not_begun f) = begin_not_outside out st f
array_not_outside out st (arrays.wrong_code c m g never is) = refusal_not_outside out c is
array_not_outside out st (arrays.no_data c w m g is f) = enter_array_not_outside out w m f

announced_not_outside : (e : Error) → IsOutside e → (F : Format) (st : State) → LacksAnnounced F st e → ⊥
announced_not_outside e out (fixed w v) st l = data_not_outside e out (fixed w v) st l
announced_not_outside e out (variable w v) st l = data_not_outside e out (variable w v) st l
announced_not_outside e out (compound k w) st (inl l) = lacks_not_outside out w st l
announced_not_outside e out (compound k w) st (inr (n, m, fits, t, l)) = lacks_not_outside out (content_size k w n) m l
announced_not_outside e out unknown st l = l

-- what is named of the bytes of a term
length_not_outside : {e : Error} → IsOutside e → (n nesting : ℕ) (b : List ℕ) → lengths.HasFault (depth_error n) nesting b e → ⊥
length_not_outside out n nesting b f = elim (term_error (depth_error n) (depth_misspelled n) nesting b _ f) [ inl is ↦ subst IsOutside is out | inr said ↦ misspelling_inside _ said.0 out ]

no_term_not_outside : {e : Error} → IsOutside e → (nesting : ℕ) (b : List ℕ) (st : State) → NoTerm nesting b st e → ⊥
no_term_not_outside out nesting b st (wrong_size none f s) = size_not_outside out 0 st s
no_term_not_outside out nesting b st (wrong_term none f other) = length_not_outside out st.nesting nesting b f

spelling_not_outside : {e : Error} → IsOutside e → (st : State) → SpellingFault st e → ⊥
spelling_not_outside out st (terms.no_constructor f) = constructor_not_outside out st f
spelling_not_outside {e} out st (terms.no_data {c} {m} t l) = announced_not_outside e out (format c) m l
spelling_not_outside out st (no_term {b} {m'} t u h f) = no_term_not_outside out (st.nesting - length st.saved) (t.own ++ b) m' f

pub term_not_outside : {e : Error} → IsOutside e → (st : State) → TermFault st e → ⊥
term_not_outside out st (terms.missing h is) = subst IsOutside is out
term_not_outside out st (in_array item shared is) = subst IsOutside is out
term_not_outside out st (misspelled item none f) = spelling_not_outside out st f
term_not_outside out st (terms.too_many g full is) = subst IsOutside is out

-- a call keeps the error that the bytes of a term have
pub fails_by_length : (takes : Bool) (a b : State) (e d deep : Error) (n nesting : ℕ) (s : List ℕ) → deep ≡ depth_error n
    → (deep ≡ Limit → a.failed.free ≡ false) → e ≡ d → b ≡ refused_at d b.source.fault a → lengths.HasFault deep nesting s d → Fails takes a e b
fails_by_length takes a b e d deep n nesting s named limited is h f =
    let plain = λ (out : IsOutside e). length_not_outside (subst IsOutside is out) n nesting s
    (subst (λ x. lengths.HasFault x nesting s d) named f) in (
      ap (λ (x : State). x.error) h ∙ ap Some (sym is),
      inl (ap (λ (x : State). unsized x.failed) h),
      λ m. absurd (plain (subst IsOutside (sym m) tt)),
      λ r. absurd (plain (read_is_outside e r)),
      λ l. ap (λ (x : State). x.failed.free) h ∙ limited (by_deep (sym is ∙ l)),
    )
  where
    by_deep : d ≡ Limit → deep ≡ Limit
    by_deep l =
        elim (term_error deep (subst IsMisspelling (sym named) (depth_misspelled n)) nesting s d f) [
          | inl ended ↦ absurd (cc)
          | inr said ↦ said.1 l
        ]
