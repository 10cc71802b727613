-- What nothing refuses can be written.
use Rattle.std.proofs.Common.{◌≡◌, ℕ, ◌<◌, ◌≤◌, ◌^◌, inl, inr, List, [], ◌∷◌, ◌++◌, length, refl, ap, ◌∙◌, subst, arith, Some, option_map}
use Rattle.std.proofs.Common.{sym, lt_of_not-le, le_of_suc-le-suc, IsAscii, slice_index}
use Rattle.amqp_model.specs.Term.{Primitive, null, binary, string, symbol, Refusal, depth, zero_width_items, non_ascii, mixed_array}
use Rattle.amqp_model.specs.Term.{too_large, lazy_in_array, list, map, array, Term, Terms, leaf, container, described, kept, barred, none}
use Rattle.amqp_model.specs.Term.{more}
use Rattle.amqp_model.specs.Spelling.{descriptor_value, IsSpelling}
use Rattle.amqp_model.specs.Text.{Alone, wide, wide_code, form, text}
use Rattle.amqp_model.specs.Measures.{nest}
use Rattle.amqp_model.specs.Ranges.{IsValue, Everywhere, EverywhereIn}
use Rattle.amqp_model.specs.Kept.{ExpandsTo}
use Rattle.amqp_model.specs.Refusals.{Somewhere, SomewhereIn, IsItem, core, HasForm, IsNonAscii, IsLong, IsRefused, Refuses}
use Rattle.amqp_model.proofs.Unique.{one_term}
use Rattle.amqp_model.proofs.Primitives.{IsWritten}
use Rattle.amqp_model.proofs.Forms.{Form, HaveForm, Good}
use Rattle.amqp_model.proofs.Mixed.{one_form_of}
use Rattle.amqp_model.proofs.Written.{text_spells}

-- what isn't somewhere holds nowhere
mutual
  pub holds_nowhere : {I : Type 0} (Q : I → Term → Type 0) (u : Term) → ((i : I) → Somewhere (Q i) u → ⊥)
      → Everywhere (λ v. (i : I) → Q i v → ⊥) u
  holds_nowhere Q (leaf p) h = h
  holds_nowhere Q (container k us) h = (λ i q. h i (inl q), holds_nowhere_in Q us (λ i s. h i (inr s)))
  holds_nowhere Q (described d u) h = (λ i q. h i (inl q), holds_nowhere Q u (λ i s. h i (inr s)))
  holds_nowhere Q (kept b) h = h
  holds_nowhere Q (barred r) h = h

  pub holds_nowhere_in : {I : Type 0} (Q : I → Term → Type 0) (us : Terms) → ((i : I) → SomewhereIn (Q i) us → ⊥)
      → EverywhereIn (λ v. (i : I) → Q i v → ⊥) us
  holds_nowhere_in Q none h = tt
  holds_nowhere_in Q (more u us) h = (holds_nowhere Q u (λ i s. h i (inl s)), holds_nowhere_in Q us (λ i s. h i (inr s)))

-- no reason for refusing it lies in the term itself
abbrev pub IsSafe : Term → Type 0
IsSafe u = (r : Refusal) → IsRefused r u → ⊥

primitive_formed : (p : Primitive) → (leaf p ≡ leaf null → ⊥) → HasForm (leaf p)
primitive_formed null some = absurd (some refl)
primitive_formed p some = (([], (wide p).0), refl)

-- an item that is neither null nor kept nor barred has a form
pub safe_has_form : (t : Term) → Everywhere IsSafe t → (core t ≡ leaf null → ⊥) → ((b : List ℕ) → core t ≡ kept b → ⊥) → HasForm t
safe_has_form (leaf p) g no_null no_kept = primitive_formed p no_null
safe_has_form (container k ts) g no_null no_kept = (([], wide_code k), refl)
safe_has_form (described d t) g no_null no_kept =
    let i = safe_has_form t g.1 no_null no_kept in ((d ∷ i.0.0, i.0.1), ap (option_map (λ f. (d ∷ f.0, f.1))) i.1)
safe_has_form (kept b) g no_null no_kept = absurd (no_kept b refl)
safe_has_form (barred r) g no_null no_kept = absurd (g r (inl refl))

pub one_form : (f : Form) (us : Terms) → ((u : Term) → IsItem u us → form u ≡ Some f) → HaveForm f us
one_form f none h = tt
one_form f (more u us) h = (h u (inl refl), one_form f us (λ v i. h v (inr i)))

pub item_safe : (t : Term) (us : Terms) → IsItem t us → EverywhereIn IsSafe us → Everywhere IsSafe t
item_safe t none i g = absurd i
item_safe t (more u us) (inl i) g = subst (Everywhere IsSafe) (sym i) g.0
item_safe t (more u us) (inr i) g = item_safe t us i g.1

pub item_formed : (t : Term) (us : Terms) → IsItem t us → EverywhereIn IsSafe us → IsSafe (container array us) → HasForm t
item_formed t us i g h =
    safe_has_form t (item_safe t us i g) (λ e. h zero_width_items (inr (t, i, e))) (λ b e. h lazy_in_array (inr (t, b, i, e)))

pub array_form : (us : Terms) → EverywhereIn IsSafe us → IsSafe (container array us) → (f : Form) × HaveForm f us
array_form none g h = (([], 0x40), tt)
array_form (more u us) g h =
    let has : (v : Term) → IsItem v (more u us) → HasForm v = λ v i. item_formed v (more u us) i g h in
    let first = has u (inl refl) in (
      first.0,
      one_form first.0 (more u us) (λ v i. one_form_of v u (has v i) first (λ n. h mixed_array (inr (v, u, i, inl refl, n))) ∙ first.1),
    )

below : (m n : ℕ) → (n ≤ m → ⊥) → m < n
below m n h = lt_of_not-le h

ascii_stable : (s : List ℕ) → ((IsAscii s → ⊥) → ⊥) → IsAscii s
ascii_stable s h i = below (slice_index s i) 128 (λ l. h (λ a. let b = a i in omega arith))

pub primitive_written : (p : Primitive) → (IsNonAscii p → ⊥) → (IsLong p → ⊥) → IsWritten p
primitive_written (binary s) a l = below (length s) (2 ^ 32) l
primitive_written (string s) a l = below (length s) (2 ^ 32) l
primitive_written (symbol s) a l = (below (length s) (2 ^ 32) l, ascii_stable s a)
primitive_written p a l = tt

mutual
  pub safe_is_good : (u : Term) → Everywhere IsValue u → Everywhere IsSafe u → Everywhere Good u
  safe_is_good (leaf p) v s = ((v, primitive_written p (λ a. s non_ascii (inr a)) (λ l. s too_large (inr l))), tt)
  safe_is_good (container list us) v s = ((tt, below _ (2 ^ 32) (λ l. s.0 too_large (inr l))), safe_are_good us v.1 s.1)
  safe_is_good (container map us) v s = ((v.0, below _ (2 ^ 32) (λ l. s.0 too_large (inr l))), safe_are_good us v.1 s.1)
  safe_is_good (container array us) v s = ((array_form us s.1 s.0, below _ (2 ^ 32) (λ l. s.0 too_large (inr l))), safe_are_good us v.1 s.1)
  safe_is_good (described d u) v s = (
    ((v.0, primitive_written (descriptor_value d) (λ a. s.0 non_ascii (inr a)) (λ l. s.0 too_large (inr l))), tt),
    safe_is_good u v.1 s.1,
  )
  safe_is_good (kept b) v s = (tt, tt)
  safe_is_good (barred r) v s = absurd (s r (inl refl))

  pub safe_are_good : (us : Terms) → EverywhereIn IsValue us → EverywhereIn IsSafe us → EverywhereIn Good us
  safe_are_good none v s = tt
  safe_are_good (more u us) v s = (safe_is_good u v.0 s.0, safe_are_good us v.1 s.1)

abbrev pub IsUnrefused : Term → Type 0
IsUnrefused u = (r : Refusal) → Refuses r u → ⊥

pub unrefused_safe : (u : Term) → IsUnrefused u → Everywhere IsSafe u
unfolding Refuses
unrefused_safe u h = holds_nowhere IsRefused u (λ r s. h r (inl s))

pub unrefused_nests : (u t : Term) → IsUnrefused u → ExpandsTo u t → nest t ≤ 128
unfolding Refuses
unrefused_nests u t h r = le_of_suc-le-suc (below (nest t) 129 (λ l. h depth (inr (refl, (t, r, l)))))

pub unrefused_spells : (u t : Term) → IsUnrefused u → Everywhere IsValue u → ExpandsTo u t → IsSpelling (text u Alone) t
unrefused_spells u t h v r = text_spells u t (safe_is_good u v (unrefused_safe u h)) r (unrefused_nests u t h r)

pub one_text : (u v t w : Term) → IsUnrefused u → Everywhere IsValue u → ExpandsTo u t → IsUnrefused v → Everywhere IsValue v
    → ExpandsTo v w → text u Alone ≡ text v Alone → t ≡ w
one_text u v t w h g r h' g' r' e =
    one_term (text u Alone) (text v Alone) [] [] t w (unrefused_spells u t h g r) (unrefused_spells v w h' g' r') (ap (λ l. l ++ []) e)
