-- The row of frames.
use Rattle.std.proofs.Common.{◌≡◌, ◌≤◌, ◌<◌, ℕ, zero, suc, ◌+◌, ◌-◌, ◌*◌, ◌++◌, ◌⊎◌, inl, inr, Option, IfSome, IsSome, MatchOption}
use Rattle.std.proofs.Common.{option_map, List, length, take, drop, map, eqb, cond, Some, None, ap₂, subst, get_or, set, ◌≢◌, [], ◌∷◌}
use Rattle.std.proofs.Common.{unwrap_or, Bool, true, false, ltb, refl, ap, sym, ◌∙◌, arith, add-one}
use Rattle.std.proofs.lemmas.List.{get_or-set_same, get_or-set_other, get_or-take, take_all, drop-take, drop-drop, drop_at, take_at}
use Rattle.std.proofs.lemmas.List.{take-take, length-take-le}
use Rattle.std.proofs.lemmas.Bool.{ltb-true, ltb-false, ne_eqb}
use Rattle.std.proofs.Math.Seq.{drop-cons, take-nil}
use Rattle.std.proofs.Math.ListN.{get_or-eq_default}
use Rattle.std.proofs.lemmas.List.Sums.{sum_by_more}
use Rattle.std.specs.List.{sum_by}
use Rattle.std.specs.Borrow.{Bor}
use Rattle.std.specs.Option.{option_and}
use Rattle.amqp_wire.specs.declared.error.Error.{Error}
use Rattle.amqp_decoder.specs.declared.frame.OpenContainer.{OpenContainer}
use Rattle.amqp_decoder.specs.declared.frame.Place.{Place}
use Rattle.amqp_decoder.specs.declared.frame.Place.TheVariants.{Top, InList, InMap, InArray, InDescribed}
use Rattle.amqp_decoder.specs.State.{Course, DescriptorValues, Open, Reader, open_of, items_of, shared_of, descriptor_of, State, stack, unused, bytes_left}
use Rattle.amqp_decoder.specs.State.{shared_in, AreNested, IsLevel, AreBounded, IsContainer, left_in, is_sized, emptied, limit_around}
use Rattle.amqp_decoder.specs.Row.{left_of}
use Rattle.amqp_decoder.specs.Rooms.{IsRoomy}
use Rattle.amqp_decoder.specs.Described.{IsMark, IsUnmarked, behind}
use Rattle.amqp_wire.specs.declared.descriptor.Descriptor.{Descriptor as DescriptorValue}

pub sum_take_more : (n : ℕ) (fs : List OpenContainer) (b : Bool) → ltb n (length fs) ≡ b
    → sum_by left_of (take (n + 1) fs) ≡ sum_by left_of (take n fs) + left_of (get_or fs n unused)
sum_take_more n fs true e = sum_by_more left_of fs n unused (ltb-true n (length fs) e)
sum_take_more n fs false e =
    let h : length fs ≤ n = ltb-false n (length fs) e in
    let whole : take (n + 1) fs ≡ take n fs = take_all (n + 1) fs (omega arith) ∙ sym (take_all n fs h) in
    let none : left_of (get_or fs n unused) ≡ 0 = ap left_of (get_or-eq_default fs unused h) in
    ap (sum_by left_of) whole ∙ (omega (arith, none))

-- the bound of a frame is its own
pub bound_is : (o limit : Option ℕ) → cond (is_sized o) (left_in o limit) None ≡ o
bound_is None limit = refl
bound_is (Some l) limit = refl

pub stack_left : (ds : DescriptorValues) (limit : Option ℕ) (n : ℕ) (fs : List OpenContainer)
    → sum_by (λ (f : OpenContainer). unwrap_or f.left 0) (take n fs) ≡ bytes_left (stack ds limit n fs)
stack_left ds limit zero fs = refl
stack_left ds limit (suc n) fs =
    let own = (get_or fs n unused).left in
    let i = stack_left ds (limit_around own limit) n fs in
    let e = sum_take_more n fs (ltb n (length fs)) refl in
    let b = ap (λ o. unwrap_or o 0) (bound_is own limit) in
    ap (λ k. sum_by left_of (take k fs)) (sym (add-one n)) ∙ e ∙ (omega (arith, i, b))

pub stack-set : (ds : DescriptorValues) (limit : Option ℕ) (d i : ℕ) (fs : List OpenContainer) (f : OpenContainer) → d ≤ i
    → stack ds limit d (set fs i f) ≡ stack ds limit d fs
stack-set ds limit zero i fs f h = refl
stack-set ds limit (suc d) i fs f h =
    let ne : ◌≢◌ d i = omega arith in
    rw (get_or-set_other fs i d f unused ne, stack-set ds (limit_around (get_or fs d unused).left limit) d i fs f (omega arith)) refl

pub length-stack : (ds : DescriptorValues) (limit : Option ℕ) (d : ℕ) (fs : List OpenContainer) → length (stack ds limit d fs) ≡ d
length-stack ds limit zero fs = refl
length-stack ds limit (suc d) fs = ap suc (length-stack ds (limit_around (get_or fs d unused).left limit) d fs)

pub stack-push : (ds : DescriptorValues) (limit : Option ℕ) (d : ℕ) (fs : List OpenContainer) (f : OpenContainer) → d < length fs
    → stack ds limit (d + 1) (set fs d f) ≡ open_of ds limit f ∷ stack ds (limit_around f.left limit) d fs
stack-push ds limit d fs f h =
    rw (add-one, get_or-set_same fs d f unused h, stack-set ds (limit_around f.left limit) d d fs f (omega arith)) refl

-- the innermost of the frames, and those around it
pub stack_top : (ds : DescriptorValues) (limit : Option ℕ) (d k : ℕ) (fs : List OpenContainer) (outer : Open) (others : List Open)
    → d ≡ suc k → stack ds limit d fs ≡ outer ∷ others
    → (open_of ds limit (get_or fs k unused) ≡ outer) × (stack ds (limit_around (get_or fs k unused).left limit) k fs ≡ others)
stack_top ds limit d k fs outer others is e =
    let f : open_of ds limit (get_or fs k unused) ∷ stack ds (limit_around (get_or fs k unused).left limit) k fs ≡ outer ∷ others =
    ap (λ n. stack ds limit n fs) (sym is) ∙ e in
    (ap (λ l. get_or l 0 outer) f, ap (drop 1) f)

emptied-emptied : (o : Option ℕ) → emptied (emptied o) ≡ emptied o
emptied-emptied None = refl
emptied-emptied (Some l) = refl

-- what is described takes the bytes of what it stands in
around_by : (o k limit : Option ℕ) → k ≡ option_and {U = ℕ} o (Some 0)
    → (left_in k (limit_around o limit) ≡ emptied (left_in o limit)) × (is_sized k ≡ is_sized o)
    × (limit_around k (limit_around o limit) ≡ limit_around o limit)
around_by None k limit e =
    (ap (λ z. left_in z (emptied limit)) e, ap is_sized e, ap (λ z. limit_around z (emptied limit)) e ∙ emptied-emptied limit)
around_by (Some l) k limit e = (ap (λ z. left_in z limit) e, ap is_sized e, ap (λ z. limit_around z limit) e)

pub described_push : (ds : DescriptorValues) (limit : Option ℕ) (d : ℕ) (fs : List OpenContainer) (f : OpenContainer) (k : Option ℕ)
    → d < length fs → k ≡ option_and {U = ℕ} f.left (Some 0)
    → stack ds (limit_around f.left limit) (d + 1) (set fs d (record f { left = k }))
    ≡ (record (open_of ds limit f) { left = emptied (left_in f.left limit) }) ∷ stack ds (limit_around f.left limit) d fs
described_push ds limit d fs f k h e =
    let (a, b, c) = around_by f.left k limit e in
    stack-push ds (limit_around f.left limit) d fs (record f { left = k }) h
    ∙ ap (λ z. (record (open_of ds limit f) { left = z; sized = is_sized k }) ∷ stack ds (limit_around k (limit_around f.left limit)) d fs) a
    ∙ ap (λ z. (record (open_of ds limit f) { left = emptied (left_in f.left limit); sized = z })
    ∷ stack ds (limit_around k (limit_around f.left limit)) d fs) b
    ∙ ap (λ z. (record (open_of ds limit f) { left = emptied (left_in f.left limit) }) ∷ stack ds z d fs) c

-- what stands around what is described keeps what the limit leaves
pub around_left : (o k limit : Option ℕ) → (o ≡ None → k ≡ None) → limit_around o (limit_around k limit) ≡ limit_around k limit
around_left None None limit h = emptied-emptied limit
around_left None (Some l) limit h = let e = h refl in absurd (cc)
around_left (Some l) k limit h = refl

pub split_saved : (l : List Open) → (length l ≡ 0 → ⊥) → (outer : Open) × (others : List Open) × (l ≡ outer ∷ others)
split_saved [] h = absurd (h refl)
split_saved (f ∷ fs) h = (f, fs, refl)

nested_set : (d i : ℕ) (fs : List OpenContainer) (f : OpenContainer) (m : ℕ) → d ≤ i → AreNested d fs m → AreNested d (set fs i f) m
nested_set zero i fs f m h n = n
nested_set (suc d) i fs f m h n =
    let ne : ◌≢◌ d i = omega arith in
    rw (get_or-set_other fs i d f unused ne) (n.0, n.1, nested_set d i fs f (get_or fs d unused).last (omega arith) n.2)

pub nested_push : (d : ℕ) (fs : List OpenContainer) (f : OpenContainer) → d < length fs → AreNested d fs f.last
    → AreNested (d + 1) (set fs d f) f.last
nested_push d fs f h n =
    rw (add-one, get_or-set_same fs d f unused h) (omega arith, omega arith, nested_set d d fs f f.last (omega arith) n)

bounded_set : (d i : ℕ) (fs : List OpenContainer) (f : OpenContainer) (p : Place) (l : Option ℕ) → d ≤ i → AreBounded d fs p l
    → AreBounded d (set fs i f) p l
bounded_set zero i fs f p l h b = tt
bounded_set (suc d) i fs f p l h b =
    let ne : ◌≢◌ d i = omega arith in
    rw (get_or-set_other fs i d f unused ne)
    (b.0, b.1, bounded_set d i fs f (get_or fs d unused).place (get_or fs d unused).left (omega arith) b.2)

pub bounded_push : (d : ℕ) (fs : List OpenContainer) (f : OpenContainer) (p : Place) (l : Option ℕ) → d < length fs
    → (p ≡ InDescribed → f.left ≡ None → l ≡ None) → IsLevel f → AreBounded d fs f.place f.left → AreBounded (d + 1) (set fs d f) p l
bounded_push d fs f p l h open_ level b =
    rw (add-one, get_or-set_same fs d f unused h) (open_, level, bounded_set d d fs f f.place f.left (omega arith) b)

-- the last frame of those has other bytes left, or stands elsewhere
pub bounded_as : (d : ℕ) (fs : List OpenContainer) (p q : Place) (l k : Option ℕ)
    → (q ≡ InDescribed → (p ≡ InDescribed) × (l ≡ None → k ≡ None)) → AreBounded d fs p l → AreBounded d fs q k
bounded_as zero fs p q l k h b = tt
bounded_as (suc d) fs p q l k h b = (λ e n. (h e).1 (b.0 (h e).0 n), b.1, b.2)

-- the frame around the last one
pub outer_frame : (d k : ℕ) (fs : List OpenContainer) (m : ℕ) (p : Place) (l : Option ℕ) → d ≡ suc k → AreNested d fs m
    → AreBounded d fs p l → AreNested (suc k) fs m × AreBounded (suc k) fs p l
outer_frame d k fs m p l e n b = (subst (λ i. AreNested i fs m) e n, subst (λ i. AreBounded i fs p l) e b)

container_items : (p : Place) (n : ℕ) → IsContainer p → items_of p n ≡ Some n
container_items InList n h = refl
container_items InMap n h = refl
container_items InArray n h = refl
container_items Top n h = absurd h
container_items InDescribed n h = absurd h

-- a container that is entered counts in nesting, or has no items
pub room_inside : (o : Open) (d depth nesting limit : ℕ) (p : Place) (n : ℕ) → o.items ≡ items_of p n → depth ≡ d → nesting ≡ limit
    → IsContainer p → (depth < nesting) ⊎ (n ≡ 0) → IsRoomy limit (d + 1) o
room_inside o d depth nesting limit p n is e f h (inl few) = inl (omega arith)
room_inside o d depth nesting limit p n is e f h (inr none) = inr (inl (is ∙ container_items p n h ∙ ap Some none))

none_less : (p : Place) (i k : ℕ) → k ≡ i - 1 → items_of p i ≡ Some 0 → items_of p k ≡ Some 0
none_less Top i k less e = absurd (cc)
none_less InList i k less e = ap Some (omega (arith, ap (λ o. unwrap_or o 0) e))
none_less InMap i k less e = ap Some (omega (arith, ap (λ o. unwrap_or o 0) e))
none_less InArray i k less e = ap Some (omega (arith, ap (λ o. unwrap_or o 0) e))
none_less InDescribed i k less e = ap Some (omega (arith, ap (λ o. unwrap_or o 0) e))

pub room_less : (limit : ℕ) (bytes : Option ℕ) (ds : DescriptorValues) (d : ℕ) (f : OpenContainer) (k : ℕ) → k ≡ f.items - 1
    → IsRoomy limit d (open_of ds bytes f) → IsRoomy limit d (open_of ds bytes (record f { items = k }))
room_less limit bytes ds d f k less (inl few) = inl few
room_less limit bytes ds d f k less (inr (inl none)) = inr (inl (none_less f.place f.items k less none))
room_less limit bytes ds d f k less (inr (inr flat)) = inr (inr flat)

-- at most 128 descriptors for each frame
few_nested : (d : ℕ) (fs : List OpenContainer) (m : ℕ) → AreNested d fs m → m ≤ 128 * d + 128
few_nested zero fs m n = omega arith
few_nested (suc d) fs m n = let few = few_nested d fs (get_or fs d unused).last n.2 in omega (arith, few, n.1)

pub few_shared : (d : ℕ) (fs : List OpenContainer) (m : ℕ) → AreNested d fs m → shared_in d fs ≤ 128 * d
few_shared zero fs m n = omega arith
few_shared (suc d) fs m n = let few = few_nested d fs (get_or fs d unused).last n.2 in omega (arith, few)

pub shared_among : (d : ℕ) (fs : List OpenContainer) (m : ℕ) → AreNested d fs m → shared_in d fs ≤ m
shared_among zero fs m n = omega arith
shared_among (suc d) fs m n = n.0

-- the descriptors of a frame behind the others
pub nested_last : (d : ℕ) (fs : List OpenContainer) (m k : ℕ) → AreNested d fs m → shared_in d fs ≤ k
    → k ≤ shared_in d fs + 128 → AreNested d fs k
nested_last zero fs m k n low high = omega (arith, high)
nested_last (suc d) fs m k n low high = (low, high, n.2)

pub shared_front : (d : ℕ) (fs : List OpenContainer) → d ≤ length fs → shared_in (length (take d fs)) (take d fs) ≡ shared_in d fs
shared_front zero fs few = refl
shared_front (suc d) fs few = ap (λ k. shared_in k (take (suc d) fs)) (length-take-le (suc d) fs few)
    ∙ ap (λ (f : OpenContainer). f.last) (get_or-take (suc d) fs d unused (omega arith))

front_kept : (k n : ℕ) (ds es : DescriptorValues) → k ≤ n → take n ds ≡ take n es → take k ds ≡ take k es
front_kept k n ds es h e = sym (take-take k n ds h) ∙ ap (take k) e ∙ take-take k n es h

part_kept : (ds es : DescriptorValues) (n first k last : ℕ) → k ≡ last - first → last ≤ n → take n ds ≡ take n es
    → take k (drop first ds) ≡ take k (drop first es)
part_kept ds es n first zero last is few e = refl
part_kept ds es n first (suc k) last is few e =
    let within : first + suc k ≤ n = omega arith in
    sym (drop-take first (suc k) ds) ∙ ap (drop first) (front_kept (first + suc k) n ds es within e) ∙ drop-take first (suc k) es

-- descriptors behind those of a frame don't count in it
pub open_kept : (ds es : DescriptorValues) (limit : Option ℕ) (n : ℕ) (f : OpenContainer) → f.last ≤ n → take n ds ≡ take n es
    → open_of ds limit f ≡ open_of es limit f
open_kept ds es limit n f few e =
    ap (λ part. record {
      place = f.place;
      items = items_of f.place f.items;
      left = left_in f.left limit;
      sized = is_sized f.left;
      shared = cond (eqb f.code 0) None (Some (map descriptor_of part, f.code));
    })
    (part_kept ds es n f.first (f.last - f.first) f.last refl few e)

pub stack_kept : (ds es : DescriptorValues) (limit : Option ℕ) (n d : ℕ) (fs : List OpenContainer) (m : ℕ) → AreNested d fs m → m ≤ n
    → take n ds ≡ take n es → stack ds limit d fs ≡ stack es limit d fs
stack_kept ds es limit n zero fs m h few e = refl
stack_kept ds es limit n (suc d) fs m h few e =
    ap₂ (λ o l. o ∷ l) (open_kept ds es limit n (get_or fs d unused) (omega (arith, h.0)) e)
    (stack_kept ds es (limit_around (get_or fs d unused).left limit) n d fs (get_or fs d unused).last h.2 (omega (arith, h.0)) e)

-- the first descriptor of those that are left
part_first : (ds : DescriptorValues) (first last : ℕ) (d : DescriptorValue) → first < last → last ≤ length ds
    → take (last - first) (drop first ds) ≡ get_or ds first d ∷ take (last - suc first) (drop (suc first) ds)
part_first ds first last d h few =
    let more : last - first ≡ suc (last - suc first) = omega arith in
    ap₂ (λ k l. take k l) more (drop-cons ds first d (omega arith))

some_shared : (ds : DescriptorValues) (c first last : ℕ) (l : DescriptorValues) → (c ≡ 0 → ⊥) → take (last - first) (drop first ds) ≡ l
    → shared_of ds c first last ≡ Some (map descriptor_of l, c)
some_shared ds c first last l some is =
    ap (λ b. cond b None (Some (map descriptor_of (take (last - first) (drop first ds)), c))) (ne_eqb c 0 some)
    ∙ ap (λ part. Some (map descriptor_of part, c)) is

pub first_mark : (ds : DescriptorValues) (c first last : ℕ) (d e : DescriptorValue) → (c ≡ 0 → ⊥) → first < last → last ≤ length ds
    → d ≡ get_or ds first e → IsMark (shared_of ds c first last) (descriptor_of d)
first_mark ds c first last d e some h few is =
    subst (λ o. IsMark o (descriptor_of d))
    (sym (some_shared ds c first last _ some (part_first ds first last e h few))) (ap descriptor_of is)

pub found_mark : (r : Option (Bor DescriptorValue)) (l ds : DescriptorValues) (i c first last : ℕ) → l ≡ ds → i ≡ first → (c ≡ 0 → ⊥)
    → first < last → last ≤ length ds → IfSome r (λ x. x.now ≡ get_or l i x.now) → (i < length l → IsSome r)
    → MatchOption r (IsUnmarked (shared_of ds c first last)) (λ x. IsMark (shared_of ds c first last) (descriptor_of x.now))
found_mark None l ds i c first last e is some h few at_ there = let x = there (omega (arith, ap length e)) in absurd (cc)
found_mark (Some x) l ds i c first last e is some h few at_ there =
    first_mark ds c first last x.now x.now some h few (at_ ∙ ap (λ k. get_or k i x.now) e ∙ ap (λ k. get_or ds k x.now) is)

drop_map : (l : DescriptorValues) → drop 1 (map descriptor_of l) ≡ map descriptor_of (drop 1 l)
drop_map [] = refl
drop_map (d ∷ ds) = refl

behind_shared : (b : Bool) (l : DescriptorValues) (c : ℕ)
    → behind (cond b None (Some (map descriptor_of l, c))) ≡ cond b None (Some (map descriptor_of (drop 1 l), c))
behind_shared true l c = refl
behind_shared false l c = ap (λ ds. Some (ds, c)) (drop_map l)

drop_take : (k : ℕ) (l : DescriptorValues) → drop 1 (take (suc k) l) ≡ take k (drop 1 l)
drop_take k [] = sym (take-nil k)
drop_take k (d ∷ ds) = refl

part_behind : (ds : DescriptorValues) (first k next last : ℕ) → k ≡ last - first → first ≤ next → (first < last → next ≡ first + 1)
    → take (last - next) (drop next ds) ≡ drop 1 (take k (drop first ds))
part_behind ds first zero next last is h one =
    let none : last - next ≡ 0 = omega arith in
    ap (λ n. take n (drop next ds)) none
part_behind ds first (suc k) next last is h one =
    let by : next ≡ first + 1 = one (omega arith) in
    let few : last - next ≡ k = omega arith in
    ap₂ (λ n i. take n (drop i ds)) few by ∙ ap (take k) (sym (drop-drop 1 first ds)) ∙ sym (drop_take k (drop first ds))

-- the rest of a constructor
pub shared_behind : (ds : DescriptorValues) (c first next last : ℕ) → first ≤ next → (first < last → next ≡ first + 1)
    → shared_of ds c next last ≡ behind (shared_of ds c first last)
shared_behind ds c first next last h one =
    ap (λ part. cond (eqb c 0) None (Some (map descriptor_of part, c))) (part_behind ds first (last - first) next last refl h one)
    ∙ sym (behind_shared (eqb c 0) (take (last - first) (drop first ds)) c)

-- what is added stands behind what was there
pub part_added : (ds es : DescriptorValues) (first last : ℕ) → length ds ≡ first → last ≡ first + length es
    → take (last - first) (drop first (ds ++ es)) ≡ es
part_added ds es first last h is =
    let long : last - first ≡ length es = omega arith in
    ap₂ (λ k l. take k l) long (drop_at ds es first h) ∙ take_all (length es) es (omega arith)

pub added_front : (ds es l : DescriptorValues) (n : ℕ) → n ≤ length ds → l ≡ take n ds ++ es → take n l ≡ take n ds
added_front ds es l n h is = ap (take n) is ∙ take_at (take n ds) es n (length-take-le n ds h)

pub added_shared : (ds es l : DescriptorValues) (n c last : ℕ) → (c ≡ 0 → ⊥) → n ≤ length ds → l ≡ take n ds ++ es → last ≡ n + length es
    → shared_of l c n last ≡ Some (map descriptor_of es, c)
added_shared ds es l n c last some h is end_ =
    some_shared l c n last es some (ap (λ x. take (last - n) (drop n x)) is ∙ part_added (take n ds) es n last (length-take-le n ds h) end_)

-- what is put behind the descriptors of the frames, of which there are n: the constructor that it makes, and those frames as before
pub put_behind : (ds es l : DescriptorValues) (limit : Option ℕ) (d : ℕ) (fs : List OpenContainer) (m n c last : ℕ) → AreNested d fs m → m ≤ length ds
    → d ≤ length fs → n ≡ shared_in (length (take d fs)) (take d fs) → l ≡ take n ds ++ es → 0 < c → last ≡ n + length es
    → (n ≡ shared_in d fs) × (shared_of l c n last ≡ Some (map descriptor_of es, c)) × (stack l limit d fs ≡ stack ds limit d fs)
put_behind ds es l limit d fs m n c last nested within rows is put some end_ =
    let first : n ≡ shared_in d fs = is ∙ shared_front d fs rows in
    let among = shared_among d fs m nested in
    let few : n ≤ length ds = omega (arith, among, first) in
    let front : AreNested d fs n = nested_last d fs m n nested (omega (arith, first)) (omega (arith, first)) in (
      first,
      added_shared ds es l n c last (λ z. omega (arith, some, z)) few put end_,
      stack_kept l ds limit n d fs n front (omega arith) (added_front ds es l n few put),
    )

abbrev state_of : List ℕ → ℕ → Reader → ℕ → Option ℕ → Option Error → Course → Open → List Open → State
state_of r a s n q e f t ts =
    record { rest = r; ahead = a; source = s; top = t; saved = ts; nesting = n; quota = q; error = e; failed = f }

-- two states that differ in their containers alone
pub same_view : (r : List ℕ) (a : ℕ) (s : Reader) (n : ℕ) (q : Option ℕ) (e : Option Error) (f : Course) (t u : Open) (ts us : List Open) → t ≡ u → ts ≡ us
    → state_of r a s n q e f t ts ≡ state_of r a s n q e f u us
same_view r a s n q e f t u ts us h k = ap₂ (state_of r a s n q e f) h k

pub and_none : (o : Option ℕ) → option_and {U = ℕ} o (Some 0) ≡ option_map (λ l. 0) o
and_none None = refl
and_none (Some l) = refl

pub none_and : (o : Option ℕ) → option_and {U = ℕ} o (Some 0) ≡ None → o ≡ None
none_and None e = refl
none_and (Some l) e = absurd (cc)
