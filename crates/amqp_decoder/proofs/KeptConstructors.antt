-- Constructors that are taken and kept.
use Rattle.std.proofs.Common.{◌<◌, ◌≡◌, ◌≤◌, ℕ, ◌+◌, ◌⊎◌, inl, inr, arith, true, Some, List, [], ◌∷◌, ◌++◌, suc, length, refl, sym, ap, ◌∙◌, subst}
use Rattle.std.proofs.Common.{append_assoc, length-append}
use Rattle.std.specs.Int.{bytes_high_first, w8, w64, from_be_bytes}
use Rattle.amqp_model.specs.Term.{Descriptor, name, code, symbol}
use Rattle.amqp_model.specs.Constructors.{variable, format}
use Rattle.amqp_model.specs.Spelling.{IsKnown, PrimitiveData, Constructor, descriptor_value}
use Rattle.amqp_wire.specs.declared.error.Error.{Error}
use Rattle.amqp_wire.specs.declared.error.Error.TheVariants.{Depth}
use Rattle.amqp_wire.specs.Codes.{refusal_of}
use Rattle.amqp_lengths.specs.Pieces.{NamesAny}
use Rattle.amqp_lengths.specs.Lengths.{Marks}
use Rattle.amqp_lengths.proofs.Descriptors.{marks_more, marks_done}
use Rattle.amqp_decoder.specs.State.{refused_at, State}
use Rattle.amqp_decoder.specs.Steps.{Answers, Takes, Lacks, Stops}
use Rattle.amqp_lookahead.specs.Kinds.{kind_at}
use Rattle.amqp_decoder.specs.Primitives.{LacksData, IsWhole}
use Rattle.amqp_decoder.specs.Described.{other_kind, DescriptorFault, no_code, no_kind, no_data, non_ascii}
use Rattle.amqp_decoder.specs.Arrays.{TakesMarks, constructor_left}
use Rattle.amqp_decoder.specs.Places.{Here, At, StandsBefore, StopsAt}
use Rattle.amqp_decoder.specs.Terms.{Keeps, IsSymbol, SymbolFault, no_text, no_ascii, IsConstructor}
use Rattle.amqp_lookahead.proofs.KindsOfCodes.{not_two, not_three}
use Rattle.amqp_decoder.proofs.SizedTexts.{no_text_value}
use Rattle.amqp_decoder.proofs.Constructed.{TookNamed, ends_known, stopped_code, stopped_many, stopped_mark, stopped_unknown}
use Rattle.amqp_decoder.proofs.Steps.{answered_so, answered_took, stopped_as, stopped_later}
use Rattle.amqp_decoder.proofs.Places.{stops_as, stops_unplaced}
use Rattle.amqp_decoder.proofs.KeptBytes.{keeps_both, keeps_as}

-- the code of a descriptor, and its data
pub keeps_named : (P : List ℕ → Type 0) (c k : ℕ) (a b l : List ℕ) (st m new : State)
    → ((x : List ℕ) → P x → (d : Descriptor) × PrimitiveData (format k) (descriptor_value d) x) → c ≡ k → Keeps (λ s. s ≡ c ∷ []) a st b m
    → Keeps P b m l new → Keeps NamesAny a st l new
keeps_named P c k a b l st m new means is h t =
    keeps_both (λ s. s ≡ c ∷ []) P NamesAny a b l st m new
    (λ x y e p. let d = means y p in (d.0, (k, y, ap (λ z. z ++ y) (e ∙ ap (λ n. n ∷ []) is), d.1))) h t

pub keeps_ulong_0 : (c : ℕ) (a b : List ℕ) (st m : State) → c ≡ 0x44 → Keeps (λ s. s ≡ c ∷ []) a st b m → Keeps NamesAny a st b m
keeps_ulong_0 c a b st m is h =
    keeps_as (λ s. s ≡ c ∷ []) NamesAny a b st m (λ x e. (code 0, (0x44, [], e ∙ ap (λ n. n ∷ []) is, (refl, refl, tt)))) h

pub small_ulong_means : (x : List ℕ) → length x ≡ 1 → (d : Descriptor) × PrimitiveData (format 0x53) (descriptor_value d) x
small_ulong_means x long = (code (from_be_bytes w8 x), (long, refl, tt))

pub ulong_means : (x : List ℕ) → length x ≡ 8 → (d : Descriptor) × PrimitiveData (format 0x80) (descriptor_value d) x
ulong_means x long = (code (from_be_bytes w64 x), (long, refl, tt))

pub symbol_8_means : (x : List ℕ) → IsSymbol 1 x → (d : Descriptor) × PrimitiveData (format 0xa3) (descriptor_value d) x
symbol_8_means x (s, ascii, (fits, is)) = (name s, (s, fits, is, refl, ascii))

pub symbol_32_means : (x : List ℕ) → IsSymbol 4 x → (d : Descriptor) × PrimitiveData (format 0xb3) (descriptor_value d) x
symbol_32_means x (s, ascii, (fits, is)) = (name s, (s, fits, is, refl, ascii))

-- why no descriptor is kept
pub unnamed_code : (st : State) (e : Error) (new : State) → StopsAt true (Here (Lacks 1) st) st e new
    → Stops true (DescriptorFault st) st e new
unnamed_code st e new s =
    stopped_as (Lacks 1 st) (DescriptorFault st) st e new (λ d x. no_code x) (stops_unplaced (Lacks 1) s)

code_took : (c : ℕ) (a b : List ℕ) (st m : State) → Keeps (λ s. s ≡ c ∷ []) a st b m → Takes st (c ∷ []) m
code_took c a b st m h = subst (λ l. Takes st l m) h.is h.took

at_code : (c k : ℕ) (a b : List ℕ) (st m : State) → c ≡ k → Keeps (λ s. s ≡ c ∷ []) a st b m → Takes st (k ∷ []) m
at_code c k a b st m is h = subst (λ n. Takes st (n ∷ []) m) is (code_took c a b st m h)

pub unnamed_ulong : (c k n : ℕ) (a b : List ℕ) (st m : State) (e : Error) (new : State) → c ≡ k → kind_at k ≡ Some 5
    → ((d : Error) → Lacks n m d → LacksData (format k) m d) → Keeps (λ s. s ≡ c ∷ []) a st b m → Stops true (Lacks n m) m e new
    → Stops true (DescriptorFault st) st e new
unnamed_ulong c k n a b st m e new is kind f h s =
    let t = at_code c k a b st m is h in
    stopped_later (Lacks n m) (DescriptorFault st) st m (k ∷ []) e new t (λ d x. no_data t (inl kind) (f d x)) s

symbol_fault : (k w : ℕ) (st m : State) (e : Error) → format k ≡ variable w (λ b. Some (symbol b)) → kind_at k ≡ Some 18
    → Takes st (k ∷ []) m → SymbolFault w m e → DescriptorFault st e
symbol_fault k w st m e F kind t (no_text l) = no_data t (inr kind) (subst (λ G. LacksData G m e) (sym F) l)
symbol_fault k w st m e F kind t (no_ascii {s} {m = m'} z bad is) =
    let b : List ℕ = bytes_high_first w (length s) ++ s in
    non_ascii t kind z.took (subst (λ G. IsWhole G b) (sym F) (s, z.fits, refl))
    (λ d h. no_text_value w symbol s (descriptor_value d) z.fits bad (subst (λ G. PrimitiveData G (descriptor_value d) b) F h)) is

pub unnamed_symbol : (c k w : ℕ) (a b : List ℕ) (st m : State) (e : Error) (new : State) → c ≡ k
    → format k ≡ variable w (λ b. Some (symbol b)) → kind_at k ≡ Some 18 → Keeps (λ s. s ≡ c ∷ []) a st b m
    → Stops true (SymbolFault w m) m e new → Stops true (DescriptorFault st) st e new
unnamed_symbol c k w a b st m e new is F kind h s =
    let t = at_code c k a b st m is h in
    stopped_later (SymbolFault w m) (DescriptorFault st) st m (k ∷ []) e new t (λ d x. symbol_fault k w st m d F kind t x) s

pub unnamed_other : (c : ℕ) (a b : List ℕ) (st m : State) (e : Error) (new : State) → (c ≡ 0x44 → ⊥) → (c ≡ 0x53 → ⊥) → (c ≡ 0x80 → ⊥)
    → (c ≡ 0xa3 → ⊥) → (c ≡ 0xb3 → ⊥) → Keeps (λ s. s ≡ c ∷ []) a st b m
    → e ≡ other_kind (refusal_of c) → new ≡ refused_at e new.source.fault m → Stops true (DescriptorFault st) st e new
unnamed_other c a b st m e new zero_ small long narrow wide h is kept =
    let t = code_took c a b st m h in
    record {
      kept = answered_took t (answered_so m new e kept);
      why = inr (no_kind t (λ k. elim k [
        | inl x ↦ not_three 5 c 0x44 0x53 0x80 refl zero_ small long x
        | inr x ↦ not_two 18 c 0xa3 0xb3 refl narrow wide x
      ]) is);
    }

-- so many descriptors, each after a 0
abbrev pub IsNamed : ℕ → List ℕ → Type 0
IsNamed n b = (ds : List Descriptor) × (length ds ≡ n) × Marks ds b

-- and a further code
abbrev pub IsMarked : ℕ → ℕ → List ℕ → Type 0
IsMarked n c b = (ds : List Descriptor) × (length ds ≡ n) × (a : List ℕ) × Marks ds a × (b ≡ a ++ (c ∷ []))

pub marks_first : (c : ℕ) (a b : List ℕ) (st m : State) → Keeps (λ s. s ≡ c ∷ []) a st b m → Keeps (IsMarked 0 c) a st b m
marks_first c a b st m h = keeps_as (λ s. s ≡ c ∷ []) (IsMarked 0 c) a b st m (λ x e. ([], refl, [], refl, e)) h

pub marks_named : (n : ℕ) (a b c : List ℕ) (st m new : State) → Keeps (IsMarked n 0) a st b m → Keeps NamesAny b m c new
    → Keeps (IsNamed (n + 1)) a st c new
marks_named n a b c st m new h k = keeps_both (IsMarked n 0) NamesAny (IsNamed (n + 1)) a b c st m new join h k
  where
    join : (x y : List ℕ) → IsMarked n 0 x → NamesAny y → IsNamed (n + 1) (x ++ y)
    join x y (ds, count, own, marks, is) (d, names) = (
      ds ++ (d ∷ []),
      length-append ds (d ∷ []) ∙ ap (λ k. k + 1) count,
      subst (Marks (ds ++ (d ∷ []))) (sym (ap (λ l. l ++ y) is ∙ append_assoc own (0 ∷ []) y)) (marks_more ds d own y marks names),
    )

pub marks_code : (n c : ℕ) (a b l : List ℕ) (st m new : State) → Keeps (IsNamed n) a st b m → Keeps (λ s. s ≡ c ∷ []) b m l new
    → Keeps (IsMarked n c) a st l new
marks_code n c a b l st m new h k =
    keeps_both (IsNamed n) (λ s. s ≡ c ∷ []) (IsMarked n c) a b l st m new (λ x y p e. (p.0, p.1, x, p.2, ap (λ z. x ++ z) e)) h k

marked_took : (n c : ℕ) (a b : List ℕ) (st m : State) (h : Keeps (IsMarked n c) a st b m) → TakesMarks st h.is.0 c m
marked_took n c a b st m h = record { own = h.is.2; marks = h.is.3; took = subst (λ l. Takes st l m) h.is.4 h.took }

named_took : (n : ℕ) (a b : List ℕ) (st m : State) (h : Keeps (IsNamed n) a st b m) → TookNamed st h.is.0 m
named_took n a b st m h = record { own = h.own; marks = h.is.2; took = h.took }

-- a known code ends a constructor
pub constructor_kept : (n c : ℕ) (a b : List ℕ) (st m new : State) → n ≤ 128 → (c ≡ 0 → ⊥) → Keeps (IsMarked n c) a st b m
    → ((c ≡ 0) ⊎ IsKnown (format c)) × (new ≡ m) → Keeps (IsConstructor c) a st b new
constructor_kept n c a b st m new few some h (known, same) =
    subst (Keeps (IsConstructor c) a st b) (sym same) (keeps_as (IsMarked n c) (IsConstructor c) a b st m ends h)
  where
    ends : (x : List ℕ) → IsMarked n c x → IsConstructor c x
    ends x (ds, count, own, marks, is) =
        (ds, omega arith, subst (Constructor ds c) (sym is) (marks_done ds c own marks (ends_known c some known)))

-- why no constructor is kept
pub unmarked_deep : (n : ℕ) (a b : List ℕ) (st m : State) (e : Error) (new : State) → n ≡ 128 → Keeps (IsMarked n 0) a st b m → e ≡ Depth
    → new ≡ refused_at Depth new.source.fault m → StandsBefore (suc (length m.rest)) m new → StopsAt true (At constructor_left st) st e new
unmarked_deep n a b st m e new many h is kept p =
    stopped_mark st h.is.0 n m e new (sym h.is.1) (omega (arith, many)) (marked_took n 0 a b st m h)
    (stopped_many m n e new (omega (arith, many)) is kept p)

pub unmarked_name : (n : ℕ) (a b : List ℕ) (st m : State) (e : Error) (new : State) → n < 128 → Keeps (IsMarked n 0) a st b m
    → StopsAt true (Here DescriptorFault m) m e new → StopsAt true (At constructor_left st) st e new
unmarked_name n a b st m e new few h s =
    stopped_mark st h.is.0 n m e new (sym h.is.1) (omega (arith, few)) (marked_took n 0 a b st m h) (stops_as {st = m} (λ f x. inr (few, x)) s)

pub unmarked_code : (n : ℕ) (a b : List ℕ) (st m : State) (e : Error) (new : State) → n ≤ 128 → Keeps (IsNamed n) a st b m
    → StopsAt true (Here (Lacks 1) m) m e new → StopsAt true (At constructor_left st) st e new
unmarked_code n a b st m e new few h s = stopped_code st h.is.0 m e new (let is = h.is.1 in omega (arith, few, is)) (named_took n a b st m h) s

pub unmarked_unknown : (n c : ℕ) (a b : List ℕ) (st m : State) (e : Error) (new : State) → n ≤ 128 → Keeps (IsMarked n c) a st b m
    → (c ≡ 0 → ⊥) × (IsKnown (format c) → ⊥) × (e ≡ refusal_of c) × Answers m e new → StandsBefore (suc (length m.rest)) m new
    → StopsAt true (At constructor_left st) st e new
unmarked_unknown n c a b st m e new few h s p =
    stopped_unknown st h.is.0 c m e new (let is = h.is.1 in omega (arith, few, is)) (marked_took n c a b st m h) s p
