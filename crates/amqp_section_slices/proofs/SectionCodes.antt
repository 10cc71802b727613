-- The codes of sections are 0x70 to 0x78.
use Rattle.std.proofs.Common.{◌≡◌, ℕ, zero, suc, ◌≤◌, ◌<◌, List, ap, arith}
use Rattle.std.specs.Prelude.{slice_index_or}
use Rattle.amqp_lookahead.specs.Sections.{sections, IsSectionAhead}

code_at : (k c : ℕ) (s : List ℕ) → k < 9 → slice_index_or sections k (c, s) ≡ (c, s) → (0x70 ≤ c) × (c ≤ 0x78)
code_at zero c s few is = let e : 0x70 ≡ c = ap (λ p. p.0) is in (omega arith, omega arith)
code_at (suc zero) c s few is = let e : 0x71 ≡ c = ap (λ p. p.0) is in (omega arith, omega arith)
code_at (suc (suc zero)) c s few is = let e : 0x72 ≡ c = ap (λ p. p.0) is in (omega arith, omega arith)
code_at (suc (suc (suc zero))) c s few is = let e : 0x73 ≡ c = ap (λ p. p.0) is in (omega arith, omega arith)
code_at (suc (suc (suc (suc zero)))) c s few is = let e : 0x74 ≡ c = ap (λ p. p.0) is in (omega arith, omega arith)
code_at (suc (suc (suc (suc (suc zero))))) c s few is = let e : 0x75 ≡ c = ap (λ p. p.0) is in (omega arith, omega arith)
code_at (suc (suc (suc (suc (suc (suc zero)))))) c s few is = let e : 0x76 ≡ c = ap (λ p. p.0) is in (omega arith, omega arith)
code_at (suc (suc (suc (suc (suc (suc (suc zero))))))) c s few is = let e : 0x77 ≡ c = ap (λ p. p.0) is in (omega arith, omega arith)
code_at (suc (suc (suc (suc (suc (suc (suc (suc zero)))))))) c s few is = let e : 0x78 ≡ c = ap (λ p. p.0) is in (omega arith, omega arith)
code_at (suc (suc (suc (suc (suc (suc (suc (suc (suc k))))))))) c s few is = absurd (omega (arith, few))

pub code_ahead : (rest : List ℕ) (c : ℕ) → IsSectionAhead rest c → (0x70 ≤ c) × (c ≤ 0x78)
code_ahead rest c h = let (s, (k, few, is), named) = h.is in code_at k c s few is
