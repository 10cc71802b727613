-- A copy is equal to what it was made of.
use Rattle.std.proofs.Common.{◌≡◌, ℕ, ℤ, true, nat_eq, int_eq, List, sym}
use Rattle.std.proofs.lemmas.Bool.Decides.{Decides-int_eq}
use Rattle.std.proofs.lemmas.List.Elements.{same_from_all_zip}
use Rattle.std.proofs.lemmas.Slice.Eq.{bytes_eq-Decides}
use Rattle.std.specs.Cmp.{unsigned_Decides}
use Rattle.std.specs.List.{AllZip}
use Rattle.std.specs.Str.{bytes_eq}

pub same_number : (n m : ℕ) → m ≡ n → nat_eq n m ≡ true
same_number n m e = (unsigned_Decides n m).1 (sym e)

pub same_integer : (n m : ℤ) → m ≡ n → int_eq n m ≡ true
same_integer n m e = (Decides-int_eq n m).1 (sym e)

pub copied_bytes : (xs ys : List ℕ) → AllZip (λ x y. y ≡ x) xs ys → bytes_eq xs ys ≡ true
copied_bytes xs ys h = (bytes_eq-Decides xs ys).1 (sym (same_from_all_zip _ xs ys h (λ x y e. e)))
