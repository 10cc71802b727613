-- Lemmas of values that stand one after another.
use Rattle.std.proofs.Common.{◌≡◌, ℕ, ◌+◌, List, [], ◌∷◌, ◌++◌, arith}
use Rattle.std.specs.List.{AllZip}
use Rattle.amqp_codec.specs.Each.{count_all}

module _ {T : Type 0} (same : T → T → Type 0) where
  pub zip_sym : ((v w : T) → same v w → same w v) → (xs ys : List T) → AllZip same xs ys → AllZip same ys xs
  zip_sym f [] [] h = h
  zip_sym f [] (y ∷ ys) h = absurd h
  zip_sym f (x ∷ xs) [] h = absurd h
  zip_sym f (x ∷ xs) (y ∷ ys) h = (f x y h.0, zip_sym f xs ys h.1)

  pub zip_trans : ((v w x : T) → same v w → same w x → same v x) → (xs ys zs : List T) → AllZip same xs ys → AllZip same ys zs
      → AllZip same xs zs
  zip_trans f [] [] zs h k = k
  zip_trans f [] (y ∷ ys) zs h k = absurd h
  zip_trans f (x ∷ xs) [] zs h k = absurd h
  zip_trans f (x ∷ xs) (y ∷ ys) [] h k = absurd k
  zip_trans f (x ∷ xs) (y ∷ ys) (z ∷ zs) h k = (f x y z h.0 k.0, zip_trans f xs ys zs h.1 k.1)

  pub zip_more : (xs ys : List T) (x y : T) → AllZip same xs ys → same x y → AllZip same (xs ++ x ∷ []) (ys ++ y ∷ [])
  zip_more [] [] x y h k = (k, tt)
  zip_more [] (z ∷ zs) x y h k = absurd h
  zip_more (z ∷ zs) [] x y h k = absurd h
  zip_more (z ∷ zs) (t ∷ ts) x y h k = (h.0, zip_more zs ts x y h.1 k)

pub count_more : {T : Type 0} (count : T → ℕ) (xs : List T) (x : T) → count_all count (xs ++ x ∷ []) ≡ count_all count xs + count x
count_more count [] x = omega arith
count_more count (y ∷ ys) x = omega (arith, count_more count ys x)
