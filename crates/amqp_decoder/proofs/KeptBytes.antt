-- Bytes that are taken and kept.
use Rattle.std.proofs.Common.{arith, ◌≡◌, ◌≤◌, ◌<◌, ℕ, ◌^◌, ◌-◌, inl, inr, Bool, true, false, cond, List, ◌++◌, length, take}
use Rattle.std.proofs.Common.{drop, refl, sym, ap, ◌∙◌, subst, append_assoc, length-append, IsAscii}
use Rattle.std.proofs.lemmas.List.{length-take-le, take-append-drop, drop_at}
use Rattle.std.specs.List.{slice_range}
use Rattle.std.proofs.Math.Seq.{take-length}
use Rattle.std.specs.Int.{bytes_high_first}
use Rattle.amqp_wire.specs.declared.error.Error.{Error}
use Rattle.amqp_wire.specs.declared.error.Error.TheVariants.{NonAscii}
use Rattle.amqp_lengths.specs.Pieces.{IsSized}
use Rattle.amqp_decoder.specs.State.{refused_at, State, Has, lower, after_bytes}
use Rattle.amqp_decoder.specs.Steps.{Pulls, Takes, Lacks, Stops}
use Rattle.amqp_decoder.specs.Terms.{Keeps, IsSymbol, SymbolFault, no_text, no_ascii}
use Rattle.amqp_decoder.proofs.Steps.{answered, answered_took, stopped_as, stopped_later, took_pulled}
use Rattle.amqp_decoder.proofs.Opening.{took_both}

pub keeps_both : (P Q R : List ℕ → Type 0) (a b c : List ℕ) (st m new : State) → ((x y : List ℕ) → P x → Q y → R (x ++ y))
    → Keeps P a st b m → Keeps Q b m c new → Keeps R a st c new
keeps_both P Q R a b c st m new join h k = record {
  own = h.own ++ k.own;
  is = join h.own k.own h.is k.is;
  took = took_both st m new h.own k.own h.took k.took;
  added = k.added ∙ ap (λ l. l ++ k.own) h.added ∙ append_assoc a h.own k.own;
}

pub keeps_as : (P Q : List ℕ → Type 0) (a b : List ℕ) (st new : State) → ((x : List ℕ) → P x → Q x)
    → Keeps P a st b new → Keeps Q a st b new
keeps_as P Q a b st new f h = record { own = h.own; is = f h.own h.is; took = h.took; added = h.added }

pub keeps_next : (n : ℕ) (before after : List ℕ) (st m new : State) → Has st.top.left n
    → m ≡ record st { top = record st.top { left = lower st.top.left n } }
    → (n ≤ length m.rest) × (after ≡ before ++ take n m.rest) × (new ≡ after_bytes n m) → Keeps (λ s. length s ≡ n) before st after new
keeps_next n before after st m new room is (few, added, went) =
    let s = take n m.rest in
    let long : length s ≡ n = length-take-le n m.rest few in
    let whole : m.rest ≡ s ++ drop (length s) m.rest = sym (take-append-drop n m.rest) ∙ ap (λ k. s ++ drop k m.rest) (sym long) in
    let pulled : Pulls m s new = record { rest = whole; moved = went ∙ ap (λ k. after_bytes k m) (sym long) } in
    record { own = s; is = long; took = took_pulled n st m s new long room is pulled; added = added }

digits : (wide : Bool) (n : ℕ) → drop (4 - cond wide 4 1) (bytes_high_first 4 n) ≡ bytes_high_first (cond wide 4 1) n
digits true n = refl
digits false n = refl

-- a size and what it announces
sized_own : (w n : ℕ) (x y : List ℕ) → n < 256 ^ w → x ≡ bytes_high_first w n → length y ≡ n → IsSized w y (x ++ y)
sized_own w n x y fits is long =
    (subst (λ k. k < 256 ^ w) (sym long) fits, ap (λ l. l ++ y) is ∙ ap (λ k. bytes_high_first w k ++ y) (sym long))

-- what was added last
added_last : (b c y : List ℕ) (start : ℕ) → start ≡ length b → c ≡ b ++ y → drop start c ≡ y
added_last b c y start is added = ap (drop start) added ∙ drop_at b y start (sym is)

-- the text that was added last
pub text_is : (start : ℕ) (text slice b c y : List ℕ) → start ≡ length b → slice ≡ c → c ≡ b ++ y
    → text ≡ slice_range slice start (length slice) → text ≡ y
text_is start text slice b c y at_ is added found =
    let rest : drop start slice ≡ y = ap (drop start) is ∙ added_last b c y start at_ added in
    let long : length slice - start ≡ length y = omega (arith, ap length is, ap length added, length-append b y, at_) in
    found ∙ ap (λ l. take (length slice - start) l) rest ∙ ap (λ n. take n y) long ∙ take-length y

pub keeps_symbol : (w n : ℕ) (a b c : List ℕ) (st m new : State) → n < 256 ^ w → ((y : List ℕ) → c ≡ b ++ y → IsAscii y)
    → Keeps (λ s. s ≡ bytes_high_first w n) a st b m → Keeps (λ s. length s ≡ n) b m c new → Keeps (IsSymbol w) a st c new
keeps_symbol w n a b c st m new fits good h k = record {
  own = h.own ++ k.own;
  is = (k.own, good k.own k.added, sized_own w n h.own k.own fits h.is k.is);
  took = took_both st m new h.own k.own h.took k.took;
  added = k.added ∙ ap (λ l. l ++ k.own) h.added ∙ append_assoc a h.own k.own;
}

pub stopped_size : (w : ℕ) (st : State) (e : Error) (new : State) → Stops true (Lacks w st) st e new
    → Stops true (SymbolFault w st) st e new
stopped_size w st e new s = stopped_as (Lacks w st) (SymbolFault w st) st e new (λ d x. no_text (inl x)) s

pub stopped_text : (w n : ℕ) (a b : List ℕ) (st m : State) (e : Error) (new : State) → n < 256 ^ w
    → Keeps (λ s. s ≡ bytes_high_first w n) a st b m → Stops true (Lacks n m) m e new → Stops true (SymbolFault w st) st e new
stopped_text w n a b st m e new fits h s =
    stopped_later (Lacks n m) (SymbolFault w st) st m h.own e new h.took
    (λ d x. no_text (inr (n, m, fits, subst (λ l. Takes st l m) h.is h.took, x))) s

pub stopped_ascii : (w n : ℕ) (a b c : List ℕ) (st m m' : State) (e : Error) (new : State) → n < 256 ^ w
    → ((y : List ℕ) → c ≡ b ++ y → IsAscii y → ⊥)
    → Keeps (λ s. s ≡ bytes_high_first w n) a st b m → Keeps (λ s. length s ≡ n) b m c m' → e ≡ NonAscii
    → new ≡ refused_at NonAscii new.source.fault m' → Stops true (SymbolFault w st) st e new
stopped_ascii w n a b c st m m' e new fits bad h k named kept =
    let sized = sized_own w n h.own k.own fits h.is k.is in
    let took : Takes st (h.own ++ k.own) m' = took_both st m m' h.own k.own h.took k.took in
    record {
      kept = answered_took took (answered m' new e NonAscii kept named);
      why = inr (no_ascii (record { fits = sized.0; took = subst (λ l. Takes st l m') sized.1 took }) (bad k.own k.added) named);
    }
