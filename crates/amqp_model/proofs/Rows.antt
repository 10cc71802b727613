-- Worked rows.
use Rattle.std.proofs.Common.{◌≡◌, ℕ, ◌^◌, ◌<◌, ◌≤◌, inl, inr, List, [], ◌∷◌, ◌++◌, length, take, drop, get_or, refl, sym, ap, ◌∙◌, subst}
use Rattle.std.proofs.Common.{suc, cond, ltb, arith, append-nil, true, Some, None, unwrap_or}
use Rattle.std.specs.Int.{bytes_high_first}
use Rattle.amqp_model.specs.Term.{Primitive, null, boolean, uint, symbol, binary, Refusal, depth, zero_width_items, non_ascii, mixed_array}
use Rattle.amqp_model.specs.Term.{too_large, lazy_in_array, list, map, array, Term, Terms, leaf, container, described, kept, barred, none}
use Rattle.amqp_model.specs.Term.{more, Descriptor, count}
use Rattle.amqp_model.specs.Constructors.{format}
use Rattle.amqp_model.specs.Spelling.{Joined, IsSize, HasWidthZero, Spelled, IsDataOf, AreElementsOf, AreSharedDataOf, IsSpelling}
use Rattle.amqp_model.specs.Text.{Alone, spell, head, container_text, form, text, texts}
use Rattle.amqp_model.specs.Measures.{nest, array_nest}
use Rattle.amqp_model.specs.Kept.{ExpandsTo}
use Rattle.amqp_model.specs.Refusals.{IsItem, core, HasForm, Differ, HasMixedItems, HasFlaw, Refuses}
use Rattle.amqp_model.proofs.Bytes.{field}
use Rattle.amqp_model.proofs.Mixed.{one_form_shared}

abbrev one_binary : List ℕ → Term
one_binary s = container list (more (leaf (binary s)) none)

binary_list : (s : List ℕ) (n : ℕ) → length s ≡ n
    → text (one_binary s) Alone
    ≡ container_text Alone list 1 (spell (cond (ltb n 256) (0xa0, bytes_high_first 1 n ++ s) (0xb0, bytes_high_first 4 n ++ s)))
unfolding text texts
binary_list s n e =
    let item : ℕ → List ℕ = λ n. spell (cond (ltb n 256) (0xa0, bytes_high_first 1 n ++ s) (0xb0, bytes_high_first 4 n ++ s)) in
    ap (container_text Alone list 1) (append-nil (item (length s))) ∙ ap (λ n. container_text Alone list 1 (item n)) e

pub binary_252 : (s : List ℕ) → length s ≡ 252 → take 5 (text (one_binary s) Alone) ≡ 0xc0 ∷ 0xff ∷ 0x01 ∷ 0xa0 ∷ 0xfc ∷ []
binary_252 s e = ap (take 5) (binary_list s 252 e) ∙ ap (λ m. take 5 (head Alone list 1 (suc (suc m)) ++ (0xa0 ∷ 252 ∷ s))) e

pub binary_253 : (s : List ℕ) → length s ≡ 253
    → take 11 (text (one_binary s) Alone) ≡ 0xd0 ∷ 0 ∷ 0 ∷ 0x01 ∷ 0x03 ∷ 0 ∷ 0 ∷ 0 ∷ 0x01 ∷ 0xa0 ∷ 0xfd ∷ []
binary_253 s e = ap (take 11) (binary_list s 253 e) ∙ ap (λ m. take 11 (head Alone list 1 (suc (suc m)) ++ (0xa0 ∷ 253 ∷ s))) e

pub empty_array_short : IsSpelling (0xe0 ∷ 0x01 ∷ 0x00 ∷ []) (container array none)
unfolding IsSpelling
empty_array_short =
    ([], 0xe0, omega arith, (0xe0 ∷ [], 1 ∷ 0 ∷ [], refl, (refl, tt), (refl, 1, [], inl refl, inl refl, omega arith, omega arith, refl)))

pub empty_array_typed : IsSpelling (0xe0 ∷ 0x02 ∷ 0x00 ∷ 0x40 ∷ []) (container array none)
unfolding IsSpelling
empty_array_typed = (
  [],
  0xe0,
  omega arith,
  (
    0xe0 ∷ [],
    2 ∷ 0 ∷ 0x40 ∷ [],
    refl,
    (refl, tt),
    (refl, 2, 0x40 ∷ [], inl refl, inr ([], 0x40, omega arith, (0x40 ∷ [], [], refl, (refl, tt), refl)), omega arith, omega arith, refl),
  ),
)

pub empty_list_sized : IsSpelling (0xc0 ∷ 0x00 ∷ 0x00 ∷ []) (container list none)
unfolding IsSpelling
empty_list_sized = (
  [],
  0xc0,
  omega arith,
  (0xc0 ∷ [], 0 ∷ 0 ∷ [], refl, (refl, tt), (refl, 0, [], inr (refl, refl, refl, refl), refl, omega arith, omega arith, refl)),
)

array_list : array ≡ list → ⊥
array_list e = cc

array_map : array ≡ map → ⊥
array_map e = cc

map_list : map ≡ list → ⊥
map_list e = cc

map_array : map ≡ array → ⊥
map_array e = cc

-- a spelling that doesn't begin with a 0 is a code and data
bare : (D : List Descriptor → ℕ → List ℕ → Type 0) (x : ℕ) (b : List ℕ) → (x ≡ 0 → ⊥) → Spelled D (x ∷ b) → D [] x b
bare D x b some ([], c, few, (h, d, e, k, s)) =
    let all : x ∷ b ≡ c ∷ d = e ∙ ap (λ l. l ++ d) k.0 in
    subst (D [] x) (sym (ap (drop 1) all)) (subst (λ c. D [] c d) (sym (ap (λ l. get_or l 0 0) all)) s)
bare D x b some (f ∷ ds, c, few, (h, d, e, k, s)) = absurd (some (ap (λ l. get_or l 0 0) (e ∙ ap (λ l. l ++ d) k.2)))

array_only : (t : Term) (b : List ℕ) → IsDataOf t [] 0xe0 b → (ts : Terms) × IsDataOf (container array ts) [] 0xe0 b
array_only (leaf p) b h = absurd h
array_only (container list ts) b h = absurd (array_list h.0)
array_only (container map ts) b h = absurd (array_map h.1.0)
array_only (container array ts) b h = (ts, h)
array_only (described d t) b h = absurd h
array_only (kept l) b h = absurd h
array_only (barred r) b h = absurd h

map_only : (t : Term) (b : List ℕ) → IsDataOf t [] 0xc1 b → (ts : Terms) × IsDataOf (container map ts) [] 0xc1 b
map_only (leaf p) b h = absurd h
map_only (container list ts) b h = absurd (map_list h.0)
map_only (container map ts) b h = (ts, h)
map_only (container array ts) b h = absurd (map_array h.0)
map_only (described d t) b h = absurd h
map_only (kept l) b h = absurd h
map_only (barred r) b h = absurd h

true_items : (ts : Terms) → 255 ≡ count ts → AreElementsOf ts (0x41 ∷ []) → ⊥
true_items none n h = absurd (omega arith)
true_items (more t ts) n h =
    (bare (λ ds c d. (HasWidthZero (format c) → ⊥) × Joined (IsDataOf t ds c) (AreSharedDataOf ts ds c) d) 0x41 []
    (λ e. absurd (omega arith)) h).0 tt

pub width_zero : (t : Term) → IsSpelling (0xe0 ∷ 0x02 ∷ 0xff ∷ 0x41 ∷ []) t → ⊥
unfolding IsSpelling
width_zero t h =
    let (ts, (_, size, content, s, c, fits, room, e)) =
    array_only t (0x02 ∷ 0xff ∷ 0x41 ∷ []) (bare (IsDataOf t) 0xe0 (0x02 ∷ 0xff ∷ 0x41 ∷ []) (λ e. absurd (omega arith)) h) in
    let sizes = field 1 2 size (0xff ∷ 0x41 ∷ []) (bytes_high_first 1 (count ts) ++ content) (omega arith) fits e in
    let counts = field 1 255 (count ts) (0x41 ∷ []) content (omega arith) room sizes.1 in
    true_items ts counts.0 (subst (AreElementsOf ts) (sym counts.1) c)

no_size : (n : ℕ) (content : List ℕ) → IsSize map 1 n content 0 → ⊥
no_size n content (inl e) = absurd (omega arith)
no_size n content (inr (e, _, _, _)) = map_list e

pub empty_size : (t : Term) → IsSpelling (0xc1 ∷ 0x00 ∷ 0x00 ∷ []) t → ⊥
unfolding IsSpelling
empty_size t h =
    let (ts, (_, (_, size, content, s, c, fits, room, e))) =
    map_only t (0x00 ∷ 0x00 ∷ []) (bare (IsDataOf t) 0xc1 (0x00 ∷ 0x00 ∷ []) (λ e. absurd (omega arith)) h) in
    let sizes = field 1 0 size (0x00 ∷ []) (bytes_high_first 1 (count ts) ++ content) (omega arith) fits e in
    no_size (count ts) content (subst (IsSize map 1 (count ts) content) (sym sizes.0) s)

uint_boolean : form (leaf (uint 1)) ≡ form (leaf (boolean true)) → ⊥
uint_boolean e = let n : 0x70 ≡ 0x56 = ap (λ o. (unwrap_or {T = List Descriptor × ℕ} o ([], 0)).1) e in omega (arith, n)

pub mixed_items : Refuses mixed_array (container array (more (leaf (uint 1)) (more (leaf (boolean true)) none)))
unfolding Refuses
mixed_items =
    inl (inl (inr (leaf (uint 1), leaf (boolean true), inl refl, inr (inl refl), ((([], 0x70), refl), (([], 0x56), refl), uint_boolean))))

pub null_item : Refuses zero_width_items (container array (more (leaf null) none))
unfolding Refuses
null_item = inl (inl (inr (leaf null, inl refl, refl)))

pub kept_item : (b : List ℕ) → Refuses lazy_in_array (container array (more (kept b) none))
unfolding Refuses
kept_item b = inl (inl (inr (kept b, b, inl refl, refl)))

pub non_ascii_symbol : Refuses non_ascii (leaf (symbol (0xc3 ∷ 0xa9 ∷ [])))
unfolding Refuses
non_ascii_symbol = inl (inr (λ a. let h : 0xc3 < 128 = a 0 in absurd (omega arith)))

pub long_binary : (s : List ℕ) → 2 ^ 32 ≤ length s → Refuses too_large (leaf (binary s))
unfolding Refuses
long_binary s h = inl (inr h)

pub deep : (d : Descriptor) (t : Term) → ExpandsTo t t → nest t ≡ 128 → Refuses depth (described d t)
unfolding Refuses
deep d t r e = inr (refl, (described d t, (refl, r), omega arith))

pub barred_part : (r : Refusal) → Refuses r (container list (more (barred r) none))
unfolding Refuses
barred_part r = inl (inr (inl (inl refl)))

abbrev both : Term → Term → Terms
both a u = more a (more u none)

-- a uint and another term
abbrev after_uint : Term → Terms
after_uint u = both (leaf (uint 1)) u

either_item : (a u : Term) (P : Term → Type 0) → P a → P u → (t : Term) → IsItem t (both a u) → P t
either_item a u P one two t (inl e) = subst P (sym e) one
either_item a u P one two t (inr (inl e)) = subst P (sym e) two
either_item a u P one two t (inr (inr e)) = absurd e

no_leaf_flaw : (r : Refusal) (n : ℕ) → HasFlaw r (leaf (uint n)) → ⊥
no_leaf_flaw mixed_array n h = h
no_leaf_flaw r n h = h

reads_leaf : (p : Primitive) (t : Term) → ExpandsTo (leaf p) t → t ≡ leaf p
reads_leaf p (leaf q) r = ap leaf (sym r)
reads_leaf p (container k ts) r = absurd r
reads_leaf p (described d t) r = absurd r
reads_leaf p (kept b) r = absurd r
reads_leaf p (barred s) r = absurd r

reads_barred : (r : Refusal) (t : Term) → ExpandsTo (barred r) t → t ≡ barred r
reads_barred r (leaf p) h = absurd h
reads_barred r (container k ts) h = absurd h
reads_barred r (described d t) h = absurd h
reads_barred r (kept b) h = absurd h
reads_barred r (barred s) h = ap barred (sym h)

flat : (u : Term) → ((t : Term) → ExpandsTo u t → array_nest (more t none) ≡ 0) → (t : Term)
    → ExpandsTo (container array (after_uint u)) t → nest t ≡ 0
flat u f (container list ts) r = absurd (array_list r.0)
flat u f (container map ts) r = absurd (array_map r.0)
flat u f (container array none) r = absurd r.1
flat u f (container array (more a none)) r = absurd r.1.1
flat u f (container array (more a (more b none))) r =
    subst (λ a. array_nest (more a (more b none)) ≡ 0) (sym (reads_leaf (uint 1) a r.1.0)) (f b r.1.1.0)
flat u f (container array (more a (more b (more c ts)))) r = absurd r.1.1.1
flat u f (leaf p) r = absurd r
flat u f (described d t) r = absurd r
flat u f (kept b) r = absurd r
flat u f (barred s) r = absurd r

flat_leaf : (p : Primitive) (t : Term) → ExpandsTo (leaf p) t → array_nest (more t none) ≡ 0
flat_leaf p t r = subst (λ t. array_nest (more t none) ≡ 0) (sym (reads_leaf p t r)) refl

flat_barred : (s : Refusal) (t : Term) → ExpandsTo (barred s) t → array_nest (more t none) ≡ 0
flat_barred s t r = subst (λ t. array_nest (more t none) ≡ 0) (sym (reads_barred s t r)) refl

no_flaw : (r : Refusal) → HasFlaw r (container array (after_uint (leaf (uint 2)))) → ⊥
unfolding texts text
no_flaw mixed_array (t, u, i, j, n) =
    let one = either_item (leaf (uint 1)) (leaf (uint 2)) (λ t. form t ≡ Some ([], 0x70)) refl refl in
    one_form_shared t u (([], 0x70), one t i) (one t i ∙ sym (one u j)) n
no_flaw zero_width_items (t, i, e) = either_item (leaf (uint 1)) (leaf (uint 2)) (λ t. core t ≡ leaf null → ⊥) (λ e. cc) (λ e. cc) t i e
no_flaw lazy_in_array (t, b, i, e) = either_item (leaf (uint 1)) (leaf (uint 2)) (λ t. core t ≡ kept b → ⊥) (λ e. cc) (λ e. cc) t i e
no_flaw too_large h = omega arith
no_flaw r h = h

pub uints_written : (r : Refusal) → Refuses r (container array (after_uint (leaf (uint 2)))) → ⊥
unfolding Refuses
uints_written r (inl (inl (inl e))) = cc
uints_written r (inl (inl (inr h))) = no_flaw r h
uints_written r (inl (inr (inl (inl e)))) = cc
uints_written r (inl (inr (inl (inr h)))) = no_leaf_flaw r 1 h
uints_written r (inl (inr (inr (inl (inl e))))) = cc
uints_written r (inl (inr (inr (inl (inr h))))) = no_leaf_flaw r 2 h
uints_written r (inl (inr (inr (inr h)))) = h
uints_written r (inr (e, (t, reads, n))) = let l = flat (leaf (uint 2)) (flat_leaf (uint 2)) t reads in absurd (omega arith)

formless : (t : Term) → form t ≡ None → HasForm t → ⊥
formless t e (f, h) = cc

uint_shared : Differ (leaf (uint 1)) (leaf (uint 1)) → ⊥
uint_shared = one_form_shared (leaf (uint 1)) (leaf (uint 1)) (([], 0x70), refl) refl

-- two items none of which differs from one make no array mixed
unmixed : (a u : Term) → (Differ a a → ⊥) → (Differ a u → ⊥) → (Differ u a → ⊥) → (Differ u u → ⊥)
    → HasMixedItems (container array (both a u)) → ⊥
unmixed a u h k l m (t, v, i, j, n) =
    let by_first = either_item a u (λ v. Differ a v → ⊥) h k v j in
    let by_second = either_item a u (λ v. Differ u v → ⊥) l m v j in
    either_item a u (λ t. Differ t v → ⊥) by_first by_second t i n

-- nor does a term without a form behind a uint
unmixed_formless : (u : Term) → form u ≡ None → (Differ (leaf (uint 1)) u → HasForm u) → (Differ u (leaf (uint 1)) → HasForm u)
    → (Differ u u → HasForm u)
    → HasMixedItems (container array (after_uint u)) → ⊥
unmixed_formless u e k l m =
    unmixed (leaf (uint 1)) u uint_shared (λ n. formless u e (k n)) (λ n. formless u e (l n)) (λ n. formless u e (m n))

unmixed_null : HasMixedItems (container array (after_uint (leaf null))) → ⊥
unmixed_null = unmixed_formless (leaf null) refl (λ n. n.1) (λ n. n.0) (λ n. n.0)

unmixed_kept : (b : List ℕ) → HasMixedItems (container array (after_uint (kept b))) → ⊥
unmixed_kept b = unmixed_formless (kept b) refl (λ n. n.1) (λ n. n.0) (λ n. n.0)

unmixed_barred : (r : Refusal) → HasMixedItems (container array (after_uint (barred r))) → ⊥
unmixed_barred r = unmixed_formless (barred r) refl (λ n. n.1) (λ n. n.0) (λ n. n.0)

null_flaw : (s : Refusal) → HasFlaw s (container array (after_uint (leaf null))) → s ≡ zero_width_items
unfolding texts text
null_flaw mixed_array h = absurd (unmixed_null h)
null_flaw zero_width_items h = refl
null_flaw lazy_in_array (t, b, i, e) = absurd (either_item (leaf (uint 1)) (leaf null) (λ t. core t ≡ kept b → ⊥) (λ e. cc) (λ e. cc) t i e)
null_flaw too_large h = absurd (omega arith)
null_flaw s h = absurd h

no_null_flaw : (s : Refusal) → HasFlaw s (leaf null) → ⊥
no_null_flaw mixed_array h = h
no_null_flaw s h = h

pub null_alone : (s : Refusal) → Refuses s (container array (after_uint (leaf null))) → s ≡ zero_width_items
unfolding Refuses
null_alone s (inl (inl (inl e))) = cc
null_alone s (inl (inl (inr h))) = null_flaw s h
null_alone s (inl (inr (inl (inl e)))) = cc
null_alone s (inl (inr (inl (inr h)))) = absurd (no_leaf_flaw s 1 h)
null_alone s (inl (inr (inr (inl (inl e))))) = cc
null_alone s (inl (inr (inr (inl (inr h))))) = absurd (no_null_flaw s h)
null_alone s (inl (inr (inr (inr h)))) = absurd h
null_alone s (inr (e, (t, reads, n))) = let l = flat (leaf null) (flat_leaf null) t reads in absurd (omega arith)

barred_flaw : (r s : Refusal) → HasFlaw s (container array (after_uint (barred r))) → ⊥
unfolding texts text
barred_flaw r mixed_array h = unmixed_barred r h
barred_flaw r zero_width_items (t, i, e) = either_item (leaf (uint 1)) (barred r) (λ t. core t ≡ leaf null → ⊥) (λ e. cc) (λ e. cc) t i e
barred_flaw r lazy_in_array (t, b, i, e) = either_item (leaf (uint 1)) (barred r) (λ t. core t ≡ kept b → ⊥) (λ e. cc) (λ e. cc) t i e
barred_flaw r too_large h = omega arith
barred_flaw r s h = h

no_barred_flaw : (r s : Refusal) → HasFlaw s (barred r) → ⊥
no_barred_flaw r mixed_array h = h
no_barred_flaw r s h = h

pub barred_alone : (r s : Refusal) → Refuses s (container array (after_uint (barred r))) → s ≡ r
unfolding Refuses
barred_alone r s (inl (inl (inl e))) = cc
barred_alone r s (inl (inl (inr h))) = absurd (barred_flaw r s h)
barred_alone r s (inl (inr (inl (inl e)))) = cc
barred_alone r s (inl (inr (inl (inr h)))) = absurd (no_leaf_flaw s 1 h)
barred_alone r s (inl (inr (inr (inl (inl e))))) = cc
barred_alone r s (inl (inr (inr (inl (inr h))))) = absurd (no_barred_flaw r s h)
barred_alone r s (inl (inr (inr (inr h)))) = absurd h
barred_alone r s (inr (e, (t, reads, n))) = let l = flat (barred r) (flat_barred r) t reads in absurd (omega arith)

-- kept bytes may be too many, or nest too deep, but they make no array mixed
pub kept_unmixed : (b : List ℕ) → Refuses mixed_array (container array (after_uint (kept b))) → ⊥
unfolding Refuses
kept_unmixed b (inl (inl (inl e))) = cc
kept_unmixed b (inl (inl (inr h))) = unmixed_kept b h
kept_unmixed b (inl (inr (inl (inl e)))) = cc
kept_unmixed b (inl (inr (inl (inr h)))) = h
kept_unmixed b (inl (inr (inr (inl (inl e))))) = cc
kept_unmixed b (inl (inr (inr (inl (inr h))))) = h
kept_unmixed b (inl (inr (inr (inr h)))) = h
kept_unmixed b (inr (e, w)) = cc

-- a described null makes an array of uints mixed, but for one of uints under that descriptor
no_null : HasForm (leaf null) → ⊥
no_null = formless (leaf null) refl

same_descriptor : (d : Descriptor) → HasMixedItems (container array (both (described d (leaf (uint 1))) (described d (leaf null)))) → ⊥
same_descriptor d =
    unmixed (described d (leaf (uint 1))) (described d (leaf null))
    (λ n. uint_shared (n refl)) (λ n. no_null (n refl).1) (λ n. no_null (n refl).0) (λ n. no_null (n refl).0)

pub described_null_unmixed : (d : Descriptor)
    → Refuses mixed_array (container array (both (described d (leaf (uint 1))) (described d (leaf null)))) → ⊥
unfolding Refuses
described_null_unmixed d (inl (inl (inl e))) = cc
described_null_unmixed d (inl (inl (inr h))) = same_descriptor d h
described_null_unmixed d (inl (inr (inl (inl (inl e))))) = cc
described_null_unmixed d (inl (inr (inl (inl (inr h))))) = h
described_null_unmixed d (inl (inr (inl (inr (inl e))))) = cc
described_null_unmixed d (inl (inr (inl (inr (inr h))))) = h
described_null_unmixed d (inl (inr (inr (inl (inl (inl e)))))) = cc
described_null_unmixed d (inl (inr (inr (inl (inl (inr h)))))) = h
described_null_unmixed d (inl (inr (inr (inl (inr (inl e)))))) = cc
described_null_unmixed d (inl (inr (inr (inl (inr (inr h)))))) = h
described_null_unmixed d (inl (inr (inr (inr h)))) = h
described_null_unmixed d (inr (e, w)) = cc

pub described_null_mixed : (d : Descriptor) → Refuses mixed_array (container array (after_uint (described d (leaf null))))
unfolding Refuses
described_null_mixed d = inl (inl (inr (leaf (uint 1), described d (leaf null), inl refl, inr (inl refl), (([], 0x70), refl))))
