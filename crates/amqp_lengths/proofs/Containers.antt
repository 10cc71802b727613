-- The data of containers, and what stands under a code.
use Rattle.std.proofs.Common.{◌≡◌, ℕ, suc, ◌<◌, inl, Bool, true, false, Result, Ok, Err, IfOk, IfErr, List, [], ◌++◌, length, take, refl}
use Rattle.std.proofs.Common.{sym, ap, ◌∙◌, subst, arith}
use Rattle.amqp_wire.specs.declared.error.Error.{Error}
use Rattle.amqp_model.specs.Term.{Container, list, map, array, leaf, container, described, kept, barred, none, count}
use Rattle.amqp_model.specs.Constructors.{Format, fixed, variable, compound, unknown, format}
use Rattle.amqp_model.specs.Spelling.{PrimitiveData, ContainerData, AreItemsOf, AreElementsOf}
use Rattle.amqp_model.proofs.Same.{container_same}
use Rattle.amqp_model.proofs.Bytes.{length-bytes}
use Rattle.std.proofs.lemmas.List.{length-append, length-take-le}
use Rattle.std.specs.Int.{bytes_high_first}
use Rattle.amqp_lengths.specs.Fronts.{IsFront, Refuses}
use Rattle.amqp_lengths.specs.Pieces.{width_of, IsPrimitive, PrimitiveOf}
use Rattle.amqp_lengths.specs.Contents.{IsContent, HasContent}
use Rattle.amqp_lengths.specs.Lengths.{IsTerm, IsData, Row, HasPairs, IsContainer, HasElements, IsArray}
use Rattle.amqp_lengths.proofs.Fronts.{refuses_part, refuses_never}
use Rattle.amqp_lengths.proofs.Rows.{rows_items, items_rows}

-- what is said of every front that is found, and of every refusal
pub found_part : {E : Type 0} (P Q : List ℕ → Type 0) (input : List ℕ) (r : Result ℕ E) → ((b : List ℕ) → P b → Q b)
    → IfOk r (λ n. IsFront P input n) → IfOk r (λ n. IsFront Q input n)
found_part P Q input (Ok n) f h = record { within = h.within; spelled = f (take n input) h.spelled }
found_part P Q input (Err e) f h = tt

pub refused_part : (P Q : List ℕ → Type 0) (input : List ℕ) (r : Result ℕ Error) → ((b : List ℕ) → Q b → P b)
    → IfErr r (λ e. Refuses P input e) → IfErr r (λ e. Refuses Q input e)
refused_part P Q input (Ok n) f h = tt
refused_part P Q input (Err e) f h = refuses_part Q P input e f h

pub ok_part : {T : Type 0} (A B : Type 0) (r : Result T Error) → (A → B) → IfOk r (λ x. A) → IfOk r (λ x. B)
ok_part A B (Ok x) f h = f h
ok_part A B (Err e) f h = tt

pub err_part : {T : Type 0} (A B : Type 0) (r : Result T Error) → (A → B) → IfErr r (λ e. A) → IfErr r (λ e. B)
err_part A B (Ok x) f h = tt
err_part A B (Err e) f h = f h

pub any_err : {T : Type 0} (A : Type 0) (r : Result T Error) → A → IfErr r (λ e. A)
any_err A (Ok x) h = tt
any_err A (Err e) h = h

pub ok_at : {T : Type 0} (P : T → Type 0) (r : Result T Error) (x : T) → IfOk r P → r ≡ Ok x → P x
ok_at P r x h e = subst (λ z. IfOk z P) e h

-- the items are fewer bytes than the input
pub content_length : (kind : Container) (w n len : ℕ) (items input : List ℕ) → 0 < w → IsFront (IsContent kind w n items) input len
    → length items < length input
content_length kind w n len items input some h =
    let (k, size, content, is, same, fits, room, s) = h.spelled in
    let within = h.within in
    let l = ap length s ∙ length-append (bytes_high_first w size) (bytes_high_first w n ++ content) in
    let l2 = length-append (bytes_high_first w n) content in
    omega (arith, within, l, l2, ap length same, length-bytes w size, length-bytes w n, length-take-le len input within)

pub width_some : (wide : Bool) → 0 < width_of wide
width_some true = omega arith
width_some false = omega arith

-- a container with the same head has this content
content_same : (kind : Container) (w n n' : ℕ) (items : List ℕ) (C : List ℕ → Type 0) (a b x y : List ℕ) → IsContent kind w n items a
    → ContainerData (compound kind w) kind n' C b → a ++ x ≡ b ++ y → (n ≡ n') × C items
content_same kind w n n' items C a b x y h k e =
    (container_same (compound kind w) kind n n' (λ content. content ≡ items) C ((n ≡ n')
    × C items) (λ s l is c. (s, subst C is c)) a b x y h k e).1

content_holds : (kind : Container) (w n : ℕ) (items : List ℕ) (C : List ℕ → Type 0) (b : List ℕ) → IsContent kind w n items b → C items
    → ContainerData (compound kind w) kind n C b
content_holds kind w n items C b (k, size, content, is, same, fits, room, s) c = (k, size, content, is, subst C (sym same) c, fits, room, s)

data_content : (kind : Container) (w n : ℕ) (C : List ℕ → Type 0) (b : List ℕ)
    → ContainerData (compound kind w) kind n C b → HasContent kind w b
data_content kind w n C b (k, size, content, is, c, fits, room, s) = (n, content, (k, size, content, is, refl, fits, room, s))

pub container_unbegun : (kind : Container) (w k : ℕ) (input : List ℕ) (e : Error) → Refuses (HasContent kind w) input e
    → Refuses (IsContainer kind w k) input e
container_unbegun kind w k input e h =
    refuses_part (IsContainer kind w k) (HasContent kind w) input e
    (λ b (ts, deep, pairs, d). data_content kind w (count ts) (AreItemsOf ts) b d) h

pub container_odd : (kind : Container) (w k n len : ℕ) (items input : List ℕ) (e : Error) → IsContent kind w n items (take len input)
    → (HasPairs kind n → ⊥) → Refuses (IsContainer kind w k) input e
container_odd kind w k n len items input e h odd =
    refuses_never (IsContainer kind w k) input len e (λ b x y (ts, deep, pairs, d) s.
    odd (subst (HasPairs kind) (sym (content_same kind w n (count ts) items (AreItemsOf ts) (take len input) b x y h d s).0) pairs))

pub container_bad : (kind : Container) (w k m n len : ℕ) (items input : List ℕ) (e : Error) → IsContent kind w n items (take len input)
    → k ≡ suc m → (Row (IsTerm m) n items → ⊥) → Refuses (IsContainer kind w k) input e
container_bad kind w k m n len items input e h is bad =
    refuses_never (IsContainer kind w k) input len e (λ b x y (ts, deep, pairs, d) s.
    let (same, i) = content_same kind w n (count ts) items (AreItemsOf ts) (take len input) b x y h d s in
    bad (subst (λ j. Row (IsTerm m) j items) (sym same) (items_rows m ts items (omega (arith, deep, is)) i)))

pub container_found : (kind : Container) (w k m n len : ℕ) (items input : List ℕ) → IsFront (IsContent kind w n items) input len → k ≡ suc m
    → HasPairs kind n → Row (IsTerm m) n items → IsFront (IsContainer kind w k) input len
container_found kind w k m n len items input h is pairs r =
    let (ts, l, deep, i) = rows_items m n items r in
    record {
      within = h.within;
      spelled = (
        ts,
        omega (arith, deep, is),
        subst (HasPairs kind) (sym l) pairs,
        subst (λ j. ContainerData (compound kind w) kind j (AreItemsOf ts) (take len input)) (sym l)
            (content_holds kind w n items (AreItemsOf ts) (take len input) h.spelled i),
      );
    }

pub array_unbegun : (w k : ℕ) (input : List ℕ) (e : Error) → Refuses (HasContent array w) input e → Refuses (IsArray w k) input e
array_unbegun w k input e h =
    refuses_part (IsArray w k) (HasContent array w) input e (λ b (ts, deep, d). data_content array w (count ts) (AreElementsOf ts) b d) h

pub array_bad : (w k n len : ℕ) (items input : List ℕ) (e : Error) → IsContent array w n items (take len input)
    → (HasElements k n items → ⊥) → Refuses (IsArray w k) input e
array_bad w k n len items input e h bad =
    refuses_never (IsArray w k) input len e (λ b x y (ts, deep, d) s.
    let (same, i) = content_same array w n (count ts) items (AreElementsOf ts) (take len input) b x y h d s in
    bad (ts, sym same, i, deep))

pub array_found : (w k n len : ℕ) (items input : List ℕ) → IsFront (IsContent array w n items) input len → HasElements k n items
    → IsFront (IsArray w k) input len
array_found w k n len items input h (ts, l, i, deep) = record {
  within = h.within;
  spelled = (
    ts,
    deep,
    subst (λ j. ContainerData (compound array w) array j (AreElementsOf ts) (take len input)) (sym l)
        (content_holds array w n items (AreElementsOf ts) (take len input) h.spelled i),
  );
}

-- under the code of a list
pub list_data : (c w k : ℕ) (b : List ℕ) → format c ≡ compound list w → IsContainer list w k b → IsData c k b
list_data c w k b is (ts, deep, pairs, d) =
    (container list ts, subst (λ F. ContainerData F list (count ts) (AreItemsOf ts) b) (sym is) d, omega (arith, deep))

pub data_list : (c w k : ℕ) (b : List ℕ) → format c ≡ compound list w → IsData c k b → IsContainer list w k b
data_list c w k b is (leaf p, h, deep) = absurd (subst (λ F. PrimitiveData F p b) is h)
data_list c w k b is (container list ts, h, deep) = (ts, deep, tt, subst (λ F. ContainerData F list (count ts) (AreItemsOf ts) b) is h)
data_list c w k b is (container map ts, h, deep) = let e : list ≡ map =
    (subst (λ F. ContainerData F map (count ts) (AreItemsOf ts) b) is h.1).0 in cc
data_list c w k b is (container array ts, h, deep) = let e : list ≡ array =
    (subst (λ F. ContainerData F array (count ts) (AreElementsOf ts) b) is h).0 in cc
data_list c w k b is (described d t, h, deep) = absurd h
data_list c w k b is (kept x, h, deep) = absurd h
data_list c w k b is (barred r, h, deep) = absurd h

-- under the code of a map
pub map_data : (c w k : ℕ) (b : List ℕ) → format c ≡ compound map w → IsContainer map w k b → IsData c k b
map_data c w k b is (ts, deep, pairs, d) =
    (container map ts, (pairs, subst (λ F. ContainerData F map (count ts) (AreItemsOf ts) b) (sym is) d), omega (arith, deep))

pub data_map : (c w k : ℕ) (b : List ℕ) → format c ≡ compound map w → IsData c k b → IsContainer map w k b
data_map c w k b is (leaf p, h, deep) = absurd (subst (λ F. PrimitiveData F p b) is h)
data_map c w k b is (container list ts, h, deep) = let e : map ≡ list =
    (subst (λ F. ContainerData F list (count ts) (AreItemsOf ts) b) is h).0 in cc
data_map c w k b is (container map ts, h, deep) = (ts, deep, h.0, subst (λ F. ContainerData F map (count ts) (AreItemsOf ts) b) is h.1)
data_map c w k b is (container array ts, h, deep) = let e : map ≡ array =
    (subst (λ F. ContainerData F array (count ts) (AreElementsOf ts) b) is h).0 in cc
data_map c w k b is (described d t, h, deep) = absurd h
data_map c w k b is (kept x, h, deep) = absurd h
data_map c w k b is (barred r, h, deep) = absurd h

-- under the code of an array
pub array_data : (c w k : ℕ) (b : List ℕ) → format c ≡ compound array w → IsArray w k b → IsData c k b
array_data c w k b is (ts, deep, d) =
    (container array ts, subst (λ F. ContainerData F array (count ts) (AreElementsOf ts) b) (sym is) d, deep)

pub data_array : (c w k : ℕ) (b : List ℕ) → format c ≡ compound array w → IsData c k b → IsArray w k b
data_array c w k b is (leaf p, h, deep) = absurd (subst (λ F. PrimitiveData F p b) is h)
data_array c w k b is (container list ts, h, deep) = let e : array ≡ list =
    (subst (λ F. ContainerData F list (count ts) (AreItemsOf ts) b) is h).0 in cc
data_array c w k b is (container map ts, h, deep) = let e : array ≡ map =
    (subst (λ F. ContainerData F map (count ts) (AreItemsOf ts) b) is h.1).0 in cc
data_array c w k b is (container array ts, h, deep) = (ts, deep, subst (λ F. ContainerData F array (count ts) (AreElementsOf ts) b) is h)
data_array c w k b is (described d t, h, deep) = absurd h
data_array c w k b is (kept x, h, deep) = absurd h
data_array c w k b is (barred r, h, deep) = absurd h

pub no_container : (F : Format) (kind : Container) (n : ℕ) (C : List ℕ → Type 0) (b : List ℕ) → IsPrimitive F
    → ContainerData F kind n C b → ⊥
no_container (fixed w v) kind n C b p h = h
no_container (variable w v) kind n C b p h = h
no_container (compound k w) kind n C b p h = p
no_container unknown kind n C b p h = p

-- under the code of a primitive
pub primitive_data : (c k : ℕ) (b : List ℕ) → PrimitiveOf c b → IsData c k b
primitive_data c k b (p, h) = (leaf p, h, omega arith)

pub data_primitive : (c k : ℕ) (b : List ℕ) → IsPrimitive (format c) → IsData c k b → PrimitiveOf c b
data_primitive c k b is (leaf p, h, deep) = (p, h)
data_primitive c k b is (container list ts, h, deep) = absurd (no_container (format c) list (count ts) (AreItemsOf ts) b is h)
data_primitive c k b is (container map ts, h, deep) = absurd (no_container (format c) map (count ts) (AreItemsOf ts) b is h.1)
data_primitive c k b is (container array ts, h, deep) = absurd (no_container (format c) array (count ts) (AreElementsOf ts) b is h)
data_primitive c k b is (described d t, h, deep) = absurd h
data_primitive c k b is (kept x, h, deep) = absurd h
data_primitive c k b is (barred r, h, deep) = absurd h

-- the code of the empty list
pub empty_data : (c k : ℕ) (input : List ℕ) → c ≡ 0x45 → (k ≡ 0 → ⊥) → IsFront (IsData c k) input 0
empty_data c k input is some =
    let empty : IsData 0x45 k [] = (container list none, (refl, 0, [], inl refl, refl, omega arith, omega arith, refl), omega arith) in
    record { within = omega arith; spelled = subst (λ n. IsData n k []) (sym is) empty }
