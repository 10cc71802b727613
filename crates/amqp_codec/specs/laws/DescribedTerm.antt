-- Described terms: where what is described stands, as what it reads, and which form it has in an array.
use Rattle.std.proofs.Common.{◌≡◌, inl, inr, ◌⊎◌, ℕ, List, [], ◌∷◌, ◌++◌, get_or, refl, sym, ap, ◌∙◌, subst, arith, append_assoc}
use Rattle.std.proofs.Common.{Option, Some, None, option_map, drop, unwrap_or}
use Rattle.amqp_model.specs.Term.{non_ascii, too_large, Descriptor, Term, leaf, container, described, kept, barred}
use Rattle.amqp_model.specs.Constructors.{format}
use Rattle.amqp_model.specs.Spelling.{IsValid, Names, descriptor_value, IsSpelling}
use Rattle.amqp_model.specs.Standing.{Standing, whole, part, Parts}
use Rattle.amqp_model.specs.Text.{Alone, text, form, shortest, spell}
use Rattle.amqp_model.specs.Ranges.{IsInRange}
use Rattle.amqp_model.specs.Refusals.{Refuses}
use Rattle.amqp_model.specs.Kept.{ExpandsTo}
use Rattle.amqp_model.proofs.Forms.{Form, names}
use Rattle.amqp_model.proofs.Forms as forms
use Rattle.amqp_model.proofs.Unrefused.{primitive_written}
use Rattle.amqp_codec.specs.TermType.{Spells, StandsCanonically, IsUnrefused, IsPart}
use Rattle.amqp_codec.specs.laws.PrimitiveTerm.{data_valid}

-- what is described stands behind the descriptor
pub described_split : (b : List ℕ) (d : Descriptor) (t : Term) → IsSpelling b (described d t)
    → (first second : List ℕ) × (b ≡ 0 ∷ (first ++ second)) × Names d first × IsSpelling second t
unfolding IsSpelling
described_split b d t ([], c, few, (h, x, e, k, s)) = absurd s
described_split b d t (f ∷ ds, c, few, (h, x, e, (first, second, e', named, k), s)) = (
  first,
  second ++ x,
  e ∙ ap (λ l. l ++ x) e' ∙ ap (λ l. 0 ∷ l) (append_assoc first second x),
  subst (λ g. Names g first) (sym s.0) named,
  (ds, c, omega (arith, few), (second, x, refl, k, s.1)),
)

named_valid : (d : Descriptor) (b : List ℕ) → Names d b → IsValid (descriptor_value d)
named_valid d b (c, x, e, h) = data_valid (format c) (descriptor_value d) x h

-- where what is described stands
pub described_placed : (s : Standing) (d : Descriptor) (t : Term) → Spells s (described d t)
    → IsValid (descriptor_value d) × (z : Standing) × Parts s (described d t) (z ∷ []) × Spells z t
described_placed (whole b) d t h =
    let x = described_split b d t h in (named_valid d x.0 x.3, whole x.1, (x.0, x.1, x.2, x.3, refl), x.4)
described_placed (part [] c b) d t h = absurd h.1
described_placed (part (f ∷ ds) c b) d t h =
    (subst (λ g. IsValid (descriptor_value g)) (sym h.1.0) h.0.0, part ds c b, refl, (h.0.1, h.1.1))

-- what is described in data is data
pub described_part : (s : Standing) (d : Descriptor) (t : Term) (z : Standing) → Parts s (described d t) (z ∷ []) → IsPart s → IsPart z
described_part (whole b) d t z p h = absurd h
described_part (part [] c b) d t z p h = absurd p
described_part (part (f ∷ ds) c b) d t z p h = subst IsPart (sym (ap (λ l. get_or l 0 z) p)) tt

-- what a described term reads as
pub described_reads : (d : Descriptor) (u : Term) (P : Term → Type 0) → ((t : Term) → ExpandsTo u t → P (described d t)) → (t : Term)
    → ExpandsTo (described d u) t → P t
described_reads d u P f (described e t) r = subst (λ g. P (described g t)) r.0 (f t r.1)
described_reads d u P f (leaf p) r = absurd r
described_reads d u P f (container k ts) r = absurd r
described_reads d u P f (kept b) r = absurd r
described_reads d u P f (barred q) r = absurd r

part_unrefused : (d : Descriptor) (u : Term) → IsUnrefused (described d u) → IsUnrefused u
unfolding Refuses
part_unrefused d u f r (inl i) = f r (inl (inr i))
part_unrefused d u f r (inr (e, (t, x, l))) = f r (inr (e, (described d t, (refl, x), omega (arith, l))))

canonically_named : (d : Descriptor) (u : Term) → IsInRange (descriptor_value d) → IsUnrefused (described d u)
    → Names d (spell (shortest (descriptor_value d)))
unfolding Refuses
canonically_named d u i f =
    names d i (primitive_written (descriptor_value d) (λ a. f non_ascii (inl (inl (inr a)))) (λ l. f too_large (inl (inl (inr l)))))

-- what is described canonically stands canonically
pub described_canonically : (s : Standing) (d : Descriptor) (u t : Term) → IsInRange (descriptor_value d) → IsUnrefused (described d u)
    → StandsCanonically s (described d u)
    → IsUnrefused u × (z : Standing) × Parts s (described d t) (z ∷ []) × StandsCanonically z u
unfolding text
described_canonically (whole b) d u t i f e = (
  part_unrefused d u f,
  whole (text u Alone),
  (spell (shortest (descriptor_value d)), text u Alone, e, canonically_named d u i f, refl),
  refl,
)
described_canonically (part ds c b) d u t i f (e, is) =
    let g = forms.under d (form u) (ds, c) e in (
      part_unrefused d u f,
      part g.0.0 g.0.1 b,
      subst (λ h. Parts (part h.0 h.1 b) (described d t) (part g.0.0 g.0.1 b ∷ [])) g.2 refl,
      (g.1, is),
    )

-- the form of what is described, of the form under its descriptor
abbrev pub under : Descriptor → Option Form → Option Form
under d f = option_map (λ f. (d ∷ f.0, f.1)) f

bare : Option Form → Option Form
bare f = option_map (λ f. (drop 1 f.0, f.1)) f

bare_under : (d : Descriptor) (f : Option Form) → bare (under d f) ≡ f
unfolding bare
bare_under d None = refl
bare_under d (Some f) = refl

pub under_one : (d e : Descriptor) (f g : Option Form) → under d f ≡ under e g → f ≡ g
under_one d e f g h = sym (bare_under d f) ∙ ap bare h ∙ bare_under e g

pub under_none : (d : Descriptor) (f : Option Form) → under d f ≡ None → f ≡ None
under_none d None h = refl
under_none d (Some f) h = cc

-- two that have one form have one descriptor, unless they have none
pub one_descriptor : (d e : Descriptor) (f g : Option Form) → under d f ≡ under e g → (f ≡ None) ⊎ (d ≡ e)
one_descriptor d e None g h = inl refl
one_descriptor d e (Some f) None h = cc
one_descriptor d e (Some f) (Some g) h = inr (ap (λ o. get_or (unwrap_or o f).0 0 d) h)
