-- The laws of tables of fields, once for all tables.
use Rattle.std.proofs.Common.{◌≡◌, Bool, true, false, cond, List, [], ◌∷◌, refl}
use Rattle.amqp_model.specs.Term.{null, Term, leaf}
use Rattle.amqp_model.specs.Items.{is_left_out, before_nulls}
use Rattle.amqp_model.specs.laws.Item.{AreFree, left_out_null, free_before, before_free}
use Rattle.amqp_model.specs.Slot.{Slot}
use Rattle.amqp_model.specs.Fields.{Fields, none, field, Fits, canonical_items, AreValues, IsNormal, Same}

fits_at : {V T : Type 0} (get : V → T) (s : Slot T) (fs : Fields V) (t : Term) (b : Bool) (w : V) → is_left_out t ≡ b
    → s.meaning.means t (get w) → Fits fs [] w → Fits (field get s fs) (cond b [] (t ∷ [])) w
unfolding Fits
fits_at get s fs t true w e h k = (s.null_alike t (get w) (left_out_null t e) h, k)
fits_at get s fs t false w e h k = (h, k)

fits_before : {V T : Type 0} (get : V → T) (s : Slot T) (fs : Fields V) (t : Term) (ts : List Term) (w : V) → s.meaning.means t (get w)
    → Fits fs ts w → Fits (field get s fs) (before_nulls t ts) w
unfolding Fits
fits_before get s fs t [] w h k = fits_at get s fs t (is_left_out t) w refl h k
fits_before get s fs t (u ∷ us) w h k = (h, k)

-- The canonical items are the value, normalised.
pub canonical_fit : {V : Type 0} (fs : Fields V) (v w : V) → AreValues fs v → AreFree (canonical_items fs v) → IsNormal fs v w
    → Fits fs (canonical_items fs v) w
unfolding Fits canonical_items
canonical_fit none v w i f n = tt
canonical_fit (field get s fs) v w i f n =
    let g = free_before (s.meaning.canon (get v)) (canonical_items fs v) f in
    fits_before get s fs (s.meaning.canon (get v)) (canonical_items fs v) w (rw n.0 (s.meaning.canon_means (get v) i.0 g.0))
    (canonical_fit fs v w i.1 g.1 n.1)

-- One list of items is one value at most.
pub fits_one : {V : Type 0} (fs : Fields V) (ts : List Term) (v w : V) → Fits fs ts v → Fits fs ts w → Same fs v w
unfolding Fits Same
fits_one none ts v w h k = tt
fits_one (field get s fs) [] v w h k = (s.meaning.one (leaf null) (get v) (get w) h.0 k.0, fits_one fs [] v w h.1 k.1)
fits_one (field get s fs) (t ∷ ts) v w h k = (s.meaning.one t (get v) (get w) h.0 k.0, fits_one fs ts v w h.1 k.1)

pub same_fields_refl : {V : Type 0} (fs : Fields V) (v : V) → Same fs v v
unfolding Same
same_fields_refl none v = tt
same_fields_refl (field get s fs) v = (s.meaning.same_refl (get v), same_fields_refl fs v)

pub same_fields_sym : {V : Type 0} (fs : Fields V) (v w : V) → Same fs v w → Same fs w v
unfolding Same
same_fields_sym none v w h = tt
same_fields_sym (field get s fs) v w h = (s.meaning.same_sym (get v) (get w) h.0, same_fields_sym fs v w h.1)

pub same_fields_trans : {V : Type 0} (fs : Fields V) (v w x : V) → Same fs v w → Same fs w x → Same fs v x
unfolding Same
same_fields_trans none v w x h k = tt
same_fields_trans (field get s fs) v w x h k = (s.meaning.same_trans (get v) (get w) (get x) h.0 k.0, same_fields_trans fs v w x h.1 k.1)

pub same_are_values : {V : Type 0} (fs : Fields V) (v w : V) → Same fs v w → AreValues fs v → AreValues fs w
unfolding Same
same_are_values none v w h i = tt
same_are_values (field get s fs) v w h i = (s.meaning.same_value (get v) (get w) h.0 i.0, same_are_values fs v w h.1 i.1)

pub same_canonical_items : {V : Type 0} (fs : Fields V) (v w : V) → Same fs v w → canonical_items fs v ≡ canonical_items fs w
unfolding Same canonical_items
same_canonical_items none v w h = refl
same_canonical_items (field get s fs) v w h = rw (s.meaning.same_canon (get v) (get w) h.0, same_canonical_items fs v w h.1) refl

pub same_fit : {V : Type 0} (fs : Fields V) (ts : List Term) (v w : V) → Same fs v w → Fits fs ts v → Fits fs ts w
unfolding Same Fits
same_fit none [] v w h f = f
same_fit none (t ∷ ts) v w h f = f
same_fit (field get s fs) [] v w h f = (s.meaning.same_means (leaf null) (get v) (get w) h.0 f.0, same_fit fs [] v w h.1 f.1)
same_fit (field get s fs) (t ∷ ts) v w h f = (s.meaning.same_means t (get v) (get w) h.0 f.0, same_fit fs ts v w h.1 f.1)

-- A normal value has the canonical items of the value.
pub normal_canonical_items : {V : Type 0} (fs : Fields V) (v w : V) → IsNormal fs v w → canonical_items fs w ≡ canonical_items fs v
unfolding canonical_items
normal_canonical_items none v w n = refl
normal_canonical_items (field get s fs) v w n = rw (n.0, s.meaning.norm_canon (get v), normal_canonical_items fs v w n.1) refl

pub normal_twice : {V : Type 0} (fs : Fields V) (v w x : V) → IsNormal fs v w → IsNormal fs w x → Same fs x w
unfolding Same
normal_twice none v w x n k = tt
normal_twice (field get s fs) v w x n k = (rw (k.0, n.0) (s.meaning.norm_norm (get v)), normal_twice fs v w x n.1 k.1)

-- What fits is a value and its own normal value, and has canonical items.
pub fitting_values : {V : Type 0} (fs : Fields V) (ts : List Term) (v : V) → Fits fs ts v → AreValues fs v
unfolding Fits
fitting_values none ts v h = tt
fitting_values (field get s fs) [] v h = (s.meaning.value (leaf null) (get v) h.0, fitting_values fs [] v h.1)
fitting_values (field get s fs) (t ∷ ts) v h = (s.meaning.value t (get v) h.0, fitting_values fs ts v h.1)

pub fitting_own : {V : Type 0} (fs : Fields V) (ts : List Term) (v w : V) → Fits fs ts v → IsNormal fs v w → Same fs w v
unfolding Fits Same
fitting_own none ts v w h n = tt
fitting_own (field get s fs) [] v w h n = (rw n.0 (s.meaning.own (leaf null) (get v) h.0), fitting_own fs [] v w h.1 n.1)
fitting_own (field get s fs) (t ∷ ts) v w h n = (rw n.0 (s.meaning.own t (get v) h.0), fitting_own fs ts v w h.1 n.1)

pub fitting_free : {V : Type 0} (fs : Fields V) (ts : List Term) (v : V) → Fits fs ts v → AreFree (canonical_items fs v)
unfolding Fits canonical_items
fitting_free none ts v h = λ r z. z
fitting_free (field get s fs) [] v h =
    before_free (s.meaning.canon (get v)) (canonical_items fs v) (s.meaning.free (leaf null) (get v) h.0) (fitting_free fs [] v h.1)
fitting_free (field get s fs) (t ∷ ts) v h =
    before_free (s.meaning.canon (get v)) (canonical_items fs v) (s.meaning.free t (get v) h.0) (fitting_free fs ts v h.1)
