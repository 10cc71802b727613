-- The data that a code announces, taken and kept.
use Rattle.std.proofs.Common.{◌≡◌, ◌<◌, ◌^◌, ℕ, zero, suc, inl, inr, arith, Bool, true, false, cond, List, ◌++◌, length, refl, sym, ap, ◌∙◌}
use Rattle.std.proofs.Common.{subst}
use Rattle.std.specs.Int.{bytes_high_first}
use Rattle.amqp_model.specs.Term.{list, map, array}
use Rattle.amqp_model.specs.Constructors.{Format, fixed, variable, compound, unknown}
use Rattle.amqp_wire.specs.declared.error.Error.{Error}
use Rattle.amqp_lengths.specs.Announced.{content_size, IsAnnounced}
use Rattle.amqp_decoder.specs.declared.terms.Data.TheVariants.{Fixed as of_width, Sized as of_size}
use Rattle.amqp_decoder.specs.State.{State}
use Rattle.amqp_decoder.specs.Steps.{Takes, Lacks, Stops}
use Rattle.amqp_decoder.specs.Terms.{Keeps, Announces, LacksAnnounced}
use Rattle.amqp_decoder.proofs.Steps.{stopped_as, stopped_later}
use Rattle.amqp_decoder.proofs.KeptBytes.{keeps_both}

-- data of a known width
fixed_lacks : (F : Format) (n : ℕ) (st : State) (e : Error) → Announces F (of_width n) → Lacks n st e → LacksAnnounced F st e
fixed_lacks (fixed w value) n st e is l = subst (λ k. Lacks k st e) is l
fixed_lacks (variable w value) n st e is l = absurd is
fixed_lacks (compound kind w) n st e (none, is) l = inl (subst (λ k. Lacks k st e) (none ∙ sym is) l)
fixed_lacks unknown n st e is l = absurd is

pub fixed_stopped : (F : Format) (n : ℕ) (st : State) (e : Error) (new : State) → Announces F (of_width n)
    → Stops true (Lacks n st) st e new → Stops true (LacksAnnounced F st) st e new
fixed_stopped F n st e new is s = stopped_as (Lacks n st) (LacksAnnounced F st) st e new (λ d l. fixed_lacks F n st d is l) s

-- a size, and what belongs behind it
abbrev behind : Format → ℕ → ℕ
behind (fixed w value) n = n
behind (variable w value) n = n
behind (compound kind w) n = content_size kind w n
behind unknown n = n

pub behind_is : (F : Format) (wide listed : Bool) (n k : ℕ) → Announces F (of_size wide listed)
    → (listed ≡ true → n ≡ 0 → k ≡ cond wide 4 1) → (listed ≡ false → k ≡ n) → (0 < n → k ≡ n) → behind F n ≡ k
behind_is (fixed w value) wide listed n k is empty other some = absurd is
behind_is (variable w value) wide listed n k (width, is) empty other some = sym (other is)
behind_is (compound list w) wide listed zero k (width, is) empty other some = width ∙ sym (empty is refl)
behind_is (compound list w) wide listed (suc n) k (width, is) empty other some = sym (some (omega arith))
behind_is (compound map w) wide listed n k (width, is) empty other some = sym (other is)
behind_is (compound array w) wide listed n k (width, is) empty other some = sym (other is)
behind_is unknown wide listed n k is empty other some = absurd is

sized_announced : (F : Format) (wide listed : Bool) (n : ℕ) (x y : List ℕ) → Announces F (of_size wide listed) → n < 256 ^ cond wide 4 1
    → x ≡ bytes_high_first (cond wide 4 1) n → length y ≡ behind F n → IsAnnounced F (x ++ y)
sized_announced (fixed w value) wide listed n x y is fits e long = absurd is
sized_announced (variable w value) wide listed n x y (width, is) fits e long =
    (n, y, subst (λ k. n < 256 ^ k) (sym width) fits, ap (λ l. l ++ y) (e ∙ ap (λ k. bytes_high_first k n) (sym width)), long)
sized_announced (compound kind w) wide listed n x y (width, is) fits e long =
    (n, y, subst (λ k. n < 256 ^ k) (sym width) fits, ap (λ l. l ++ y) (e ∙ ap (λ k. bytes_high_first k n) (sym width)), long)
sized_announced unknown wide listed n x y is fits e long = absurd is

pub sized_kept : (F : Format) (wide listed : Bool) (n k : ℕ) (a b c : List ℕ) (st m new : State) → Announces F (of_size wide listed)
    → n < 256 ^ cond wide 4 1 → behind F n ≡ k
    → Keeps (λ s. s ≡ bytes_high_first (cond wide 4 1) n) a st b m → Keeps (λ s. length s ≡ k) b m c new → Keeps (IsAnnounced F) a st c new
sized_kept F wide listed n k a b c st m new is fits own h t =
    keeps_both (λ s. s ≡ bytes_high_first (cond wide 4 1) n) (λ s. length s ≡ k) (IsAnnounced F) a b c st m new
    (λ x y e long. sized_announced F wide listed n x y is fits e (long ∙ sym own)) h t

size_lacks : (F : Format) (wide listed : Bool) (st : State) (e : Error) → Announces F (of_size wide listed)
    → Lacks (cond wide 4 1) st e → LacksAnnounced F st e
size_lacks (fixed w value) wide listed st e is l = absurd is
size_lacks (variable w value) wide listed st e (width, is) l = inl (subst (λ k. Lacks k st e) (sym width) l)
size_lacks (compound kind w) wide listed st e (width, is) l = inl (subst (λ k. Lacks k st e) (sym width) l)
size_lacks unknown wide listed st e is l = absurd is

pub size_stopped : (F : Format) (wide listed : Bool) (st : State) (e : Error) (new : State) → Announces F (of_size wide listed)
    → Stops true (Lacks (cond wide 4 1) st) st e new → Stops true (LacksAnnounced F st) st e new
size_stopped F wide listed st e new is s =
    stopped_as (Lacks (cond wide 4 1) st) (LacksAnnounced F st) st e new (λ d l. size_lacks F wide listed st d is l) s

behind_lacks : (F : Format) (wide listed : Bool) (n : ℕ) (st m : State) (e : Error) → Announces F (of_size wide listed)
    → n < 256 ^ cond wide 4 1 → Takes st (bytes_high_first (cond wide 4 1) n) m → Lacks (behind F n) m e → LacksAnnounced F st e
behind_lacks (fixed w value) wide listed n st m e is fits t l = absurd is
behind_lacks (variable w value) wide listed n st m e (width, is) fits t l =
    inr (n, m, subst (λ k. n < 256 ^ k) (sym width) fits, subst (λ k. Takes st (bytes_high_first k n) m) (sym width) t, l)
behind_lacks (compound kind w) wide listed n st m e (width, is) fits t l =
    inr (n, m, subst (λ k. n < 256 ^ k) (sym width) fits, subst (λ k. Takes st (bytes_high_first k n) m) (sym width) t, l)
behind_lacks unknown wide listed n st m e is fits t l = absurd is

pub behind_stopped : (F : Format) (wide listed : Bool) (n k : ℕ) (a b : List ℕ) (st m : State) (e : Error) (new : State)
    → Announces F (of_size wide listed) → n < 256 ^ cond wide 4 1 → behind F n ≡ k
    → Keeps (λ s. s ≡ bytes_high_first (cond wide 4 1) n) a st b m → Stops true (Lacks k m) m e new
    → Stops true (LacksAnnounced F st) st e new
behind_stopped F wide listed n k a b st m e new is fits own h s =
    let t = subst (λ l. Takes st l m) h.is h.took in
    stopped_later (Lacks k m) (LacksAnnounced F st) st m (bytes_high_first (cond wide 4 1) n) e new t
    (λ d l. behind_lacks F wide listed n st m d is fits t (subst (λ j. Lacks j m d) (sym own) l)) s
