-- Open containers whose parts stand in rows of their own.
use Rattle.std.proofs.Common.{◌≡◌, ◌<◌, ℕ, zero, suc, Bool, true, false, cond, Option, Some, None, List, [], ◌∷◌, length, map, get_or, set}
use Rattle.std.proofs.Common.{unwrap_or, is_some, refl, ap, ◌∙◌, arith}
use Rattle.std.proofs.lemmas.List.{map-set, get_or-map, length-map}
use Rattle.std.proofs.lemmas.Slice.Zip.{get_or-zip, length-zip}
use Rattle.std.specs.List.{zip}
use Rattle.amqp_decoder.specs.declared.frame.OpenContainer.{OpenContainer}
use Rattle.amqp_decoder.specs.declared.frame.Place.{Place}
use Rattle.amqp_decoder.specs.declared.frame.Place.TheVariants as place
use Rattle.amqp_decoder.specs.declared.row.Kind.{Kind}
use Rattle.amqp_decoder.specs.Row.{kind_of, place_in, sized_in, container_of, joined}
use Rattle.amqp_decoder.specs.State.{unused}

zip-set : {A B : Type 0} → (xs : List A) (ys : List B) (i : ℕ) (x : A) (y : B) → zip (set xs i x) (set ys i y) ≡ set (zip xs ys) i (x, y)
zip-set [] ys i x y = refl
zip-set (a ∷ xs) [] zero x y = refl
zip-set (a ∷ xs) [] (suc i) x y = refl
zip-set (a ∷ xs) (b ∷ ys) zero x y = refl
zip-set (a ∷ xs) (b ∷ ys) (suc i) x y = ap (λ l. (a, b) ∷ l) (zip-set xs ys i x y)

zip_long : {A B : Type 0} (n : ℕ) (xs : List A) (ys : List B) → length xs ≡ n → length ys ≡ n → length (zip xs ys) ≡ n
zip_long n xs ys h k = length-zip xs ys ∙ (omega (arith, h, k))

-- what was put apart is put together again
kind_place : (p : Place) (b : Bool) → place_in (kind_of p b) ≡ p
kind_place place.Top true = refl
kind_place place.Top false = refl
kind_place place.InList true = refl
kind_place place.InList false = refl
kind_place place.InMap true = refl
kind_place place.InMap false = refl
kind_place place.InArray true = refl
kind_place place.InArray false = refl
kind_place place.InDescribed true = refl
kind_place place.InDescribed false = refl

kind_sized : (p : Place) (b : Bool) → sized_in (kind_of p b) ≡ b
kind_sized place.Top true = refl
kind_sized place.Top false = refl
kind_sized place.InList true = refl
kind_sized place.InList false = refl
kind_sized place.InMap true = refl
kind_sized place.InMap false = refl
kind_sized place.InArray true = refl
kind_sized place.InArray false = refl
kind_sized place.InDescribed true = refl
kind_sized place.InDescribed false = refl

left_again : (o : Option ℕ) → cond (is_some o) (Some (unwrap_or o 0)) None ≡ o
left_again None = refl
left_again (Some l) = refl

-- the parts of a container
abbrev parts_of : OpenContainer → ℕ × (ℕ × (Kind × (ℕ × (ℕ × ℕ))))
parts_of f = (f.items, (unwrap_or f.left 0, (kind_of f.place (is_some f.left), (f.code, (f.first, f.last)))))

put_together : (f : OpenContainer) → container_of (parts_of f) ≡ f
put_together f =
    ap (λ b. record f { left = cond b (Some (unwrap_or f.left 0)) None; place = place_in (kind_of f.place (is_some f.left)) })
    (kind_sized f.place (is_some f.left))
    ∙ ap (λ p. record f { left = cond (is_some f.left) (Some (unwrap_or f.left 0)) None; place = p }) (kind_place f.place (is_some f.left))
    ∙ ap (λ o. record f { left = o }) (left_again f.left)

pub joined-set : (items left : List ℕ) (kinds : List Kind) (codes first last : List ℕ) (i : ℕ) (f : OpenContainer)
    → joined (set items i f.items) (set left i (unwrap_or f.left 0)) (set kinds i (kind_of f.place (is_some f.left))) (set codes i f.code)
    (set first i f.first) (set last i f.last) ≡ set (joined items left kinds codes first last) i f
joined-set items left kinds codes first last i f =
    let k = kind_of f.place (is_some f.left) in
    let l = unwrap_or f.left 0 in
    ap (map container_of) (
    ap (λ z. zip (set items i f.items) (zip (set left i l) (zip (set kinds i k) (zip (set codes i f.code) z)))) (zip-set first last i f.first f.last)
    ∙ ap (λ z. zip (set items i f.items) (zip (set left i l) (zip (set kinds i k) z))) (zip-set codes (zip first last) i f.code (f.first, f.last))
    ∙ ap (λ z. zip (set items i f.items) (zip (set left i l) z))
    (zip-set kinds (zip codes (zip first last)) i k (f.code, (f.first, f.last)))
    ∙ ap (λ z. zip (set items i f.items) z)
    (zip-set left (zip kinds (zip codes (zip first last))) i l (k, (f.code, (f.first, f.last))))
    ∙ zip-set items (zip left (zip kinds (zip codes (zip first last)))) i f.items (l, (k, (f.code, (f.first, f.last))))
    )
    ∙ map-set container_of (zip items (zip left (zip kinds (zip codes (zip first last))))) i (parts_of f)
    ∙ ap (λ g. set (joined items left kinds codes first last) i g) (put_together f)

pub joined_long : (n : ℕ) (items left : List ℕ) (kinds : List Kind) (codes first last : List ℕ) → length items ≡ n → length left ≡ n
    → length kinds ≡ n → length codes ≡ n → length first ≡ n → length last ≡ n → length (joined items left kinds codes first last) ≡ n
joined_long n items left kinds codes first last a b c d e f =
    length-map (zip items (zip left (zip kinds (zip codes (zip first last))))) container_of
    ∙ zip_long n items _ a (zip_long n left _ b (zip_long n kinds _ c (zip_long n codes _ d (zip_long n first last e f))))

pub get_or-joined : (n : ℕ) (items left : List ℕ) (kinds : List Kind) (codes first last : List ℕ) (k : Kind) (i : ℕ) → length items ≡ n
    → length left ≡ n → length kinds ≡ n → length codes ≡ n → length first ≡ n → length last ≡ n → i < n
    → get_or (joined items left kinds codes first last) i unused
    ≡ container_of (get_or items i 0, (get_or left i 0, (get_or kinds i k, (get_or codes i 0, (get_or first i 0, get_or last i 0)))))
get_or-joined n items left kinds codes first last k i a b c d e f h =
    let one = zip_long n first last e f in
    let two = zip_long n codes (zip first last) d one in
    let three = zip_long n kinds (zip codes (zip first last)) c two in
    let four = zip_long n left (zip kinds (zip codes (zip first last))) b three in
    let five = zip_long n items (zip left (zip kinds (zip codes (zip first last)))) a four in
    get_or-map container_of (zip items (zip left (zip kinds (zip codes (zip first last))))) i (0, (0, (k, (0, (0, 0))))) unused (omega (arith, h, five))
    ∙ ap container_of (
    get_or-zip items (zip left (zip kinds (zip codes (zip first last)))) i (0, (0, (k, (0, (0, 0))))) (omega (arith, h, a)) (omega (arith, h, four))
    ∙ ap (λ z. (get_or items i 0, z)) (
    get_or-zip left (zip kinds (zip codes (zip first last))) i (0, (k, (0, (0, 0)))) (omega (arith, h, b)) (omega (arith, h, three))
    ∙ ap (λ z. (get_or left i 0, z)) (
    get_or-zip kinds (zip codes (zip first last)) i (k, (0, (0, 0))) (omega (arith, h, c)) (omega (arith, h, two))
    ∙ ap (λ z. (get_or kinds i k, z)) (
    get_or-zip codes (zip first last) i (0, (0, 0)) (omega (arith, h, d)) (omega (arith, h, one))
    ∙ ap (λ z. (get_or codes i 0, z)) (get_or-zip first last i (0, 0) (omega (arith, h, e)) (omega (arith, h, f)))
    )
    )
    )
    )
