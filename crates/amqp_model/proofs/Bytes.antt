-- Numbers as bytes, and fronts of lists.
use Rattle.std.proofs.Common.{◌≡◌, ℕ, ◌+◌, ◌*◌, ◌%◌, ◌^◌, ◌<◌, List, ◌++◌, length, take, drop, refl, sym, ap, ap₂, ◌∙◌, arith, suc, zero}
use Rattle.std.proofs.Common.{fold, pow-suc, mul_comm, mod-eq_of_lt}
use Rattle.std.proofs.Math.Nat.{pow-le-pow_right}
use Rattle.std.proofs.Math.Arith.{mod-mul}
use Rattle.std.proofs.Math.Seq.{take-append_seam, drop-append_seam}
use Rattle.std.specs.Int.{byte_at, bytes_high_first}

-- one more byte in front of the low k bytes
byte_on : (k n high : ℕ) → (high * 256 + byte_at k n) * 256 ^ k + n % 256 ^ k ≡ high * 256 ^ suc k + n % 256 ^ suc k
byte_on zero n high = omega arith
byte_on (suc k) n high =
    let unit = 256 ^ suc k in
    let wider : 256 ^ suc (suc k) ≡ 256 * unit = pow-suc 256 (suc k) ∙ mul_comm unit 256 in
    let some : 0 < unit = pow-le-pow_right {n = 256} (omega arith) {i = 0} {j = suc k} (omega arith) in
    rw (wider, mod-mul n {m = 256} {c = unit} (omega arith) some) (omega arith)

number_from : (k n high : ℕ) → fold (λ h byte. h * 256 + byte) high (bytes_high_first k n) ≡ high * 256 ^ k + n % 256 ^ k
number_from zero n high = omega arith
number_from (suc k) n high = number_from k n (high * 256 + byte_at k n) ∙ byte_on k n high

abbrev number : List ℕ → ℕ
number bytes = fold (λ high byte. high * 256 + byte) 0 bytes

number_back : (k n : ℕ) → n < 256 ^ k → number (bytes_high_first k n) ≡ n
number_back k n h = number_from k n 0 ∙ (omega (arith, mod-eq_of_lt h))

pub length-bytes : (k n : ℕ) → length (bytes_high_first k n) ≡ k
length-bytes zero n = refl
length-bytes (suc k) n = ap suc (length-bytes k n)

-- two lists of one length that begin one list
pub front : (b b' x y : List ℕ) → length b ≡ length b' → b ++ x ≡ b' ++ y → b ≡ b'
front b b' x y l e = sym (take-append_seam b x) ∙ ap₂ take l e ∙ take-append_seam b' y

pub rest : (b b' x y : List ℕ) → length b ≡ length b' → b ++ x ≡ b' ++ y → x ≡ y
rest b b' x y l e = sym (drop-append_seam b x) ∙ ap₂ drop l e ∙ drop-append_seam b' y

-- two numbers of one width, in front of one list
pub field : (w n n' : ℕ) (x y : List ℕ) → n < 256 ^ w → n' < 256 ^ w
    → bytes_high_first w n ++ x ≡ bytes_high_first w n' ++ y → (n ≡ n') × (x ≡ y)
field w n n' x y h h' e =
    let l : length (bytes_high_first w n) ≡ length (bytes_high_first w n') = length-bytes w n ∙ sym (length-bytes w n') in (
      sym (number_back w n h) ∙ ap number (front (bytes_high_first w n) (bytes_high_first w n') x y l e) ∙ number_back w n' h',
      rest (bytes_high_first w n) (bytes_high_first w n') x y l e,
    )
