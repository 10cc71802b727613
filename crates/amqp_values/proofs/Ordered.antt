-- How values stand to one another, by what they are and by what they hold.
use Rattle.std.proofs.Common.{◌≡◌, ◌<◌, List, [], ◌∷◌, length, map as map_list, refl, sym, ap₂, ◌∙◌, subst, arith}
use Rattle.std.specs.declared.cmp.Ordering.{Ordering}
use Rattle.std.specs.declared.cmp.Ordering.TheVariants.{Less, Equal, Greater}
use Rattle.std.specs.Ordering.{ordering_then}
use Rattle.amqp_model.specs.Term.{list, map, array, name, code, Term, leaf, container, described, kept, barred}
use Rattle.amqp_model.specs.Items.{terms_of}
use denote.Enum.Declared.{tag_of}
use denote.Hole.Carrier.{out}
use Rattle.amqp_values.specs.declared.value.Value.TheViews.{out-Value}
use Rattle.amqp_wire.specs.declared.descriptor.Descriptor.TheVariants.{Name, Code}
use Rattle.amqp_values.specs.contracts.value.Value.{the_type}
use Rattle.amqp_values.specs.declared.value.Value.{Value, Null, Bool, Ubyte, Ushort, Uint, Ulong, Byte, Short, Int, Long, Decimal32}
use Rattle.amqp_values.specs.declared.value.Value.{Decimal64, Decimal128, Char, Timestamp, Uuid, Binary, String, Symbol, Described', List'}
use Rattle.amqp_values.specs.declared.value.Value.{Map', Array'}
use Rattle.amqp_values.specs.Values.{value_term}
use Rattle.amqp_values.specs.Equality.{turn_terms}
use Rattle.amqp_values.proofs.RootsDecide.{held, roots_decide}
use Rattle.amqp_values.specs.Labels.{Label, label_of, label_cmp}
use Rattle.amqp_values.specs.laws.Order.{label_tied}
use Rattle.amqp_values.specs.Order.{no_tree, trees_cmp, terms_cmp, value_cmp}

-- where labels differ, they decide
pub differs : (v w : Value) (l m : Label) (o : Ordering) → l ≡ label_of (value_term v) → m ≡ label_of (value_term w) → label_cmp l m ≡ o
    → value_cmp v w ≡ ordering_then o (trees_cmp (held (value_term v)) (held (value_term w)))
differs v w l m o e f g = roots_decide (value_term v) (value_term w) l m o e f g

-- the place of a value's kind is that of its variant
its_place : (v : Value) → (label_of (value_term v)).place ≡ tag_of the_type v
unfolding out-Value out
its_place Null = refl
its_place (Bool b) = refl
its_place (Ubyte n) = refl
its_place (Ushort n) = refl
its_place (Uint n) = refl
its_place (Ulong n) = refl
its_place (Byte z) = refl
its_place (Short z) = refl
its_place (Int z) = refl
its_place (Long z) = refl
its_place (Decimal32 d) = refl
its_place (Decimal64 d) = refl
its_place (Decimal128 d) = refl
its_place (Char n) = refl
its_place (Timestamp t) = refl
its_place (Uuid u) = refl
its_place (Binary b) = refl
its_place (String s) = refl
its_place (Symbol s) = refl
its_place (Described' p (Name s) v) = refl
its_place (Described' p (Code n) v) = refl
its_place (List' shape vs) = refl
its_place (Map' shape ps) = refl
its_place (Array' shape vs) = refl

holds_none : (t : Term) → (label_of t).place < 19 → held t ≡ no_tree
holds_none (leaf p) h = refl
holds_none (container list ts) h = absurd (omega arith)
holds_none (container map ts) h = absurd (omega arith)
holds_none (container array ts) h = absurd (omega arith)
holds_none (described (name s) t) h = absurd (omega arith)
holds_none (described (code n) t) h = absurd (omega arith)
holds_none (kept b) h = refl
holds_none (barred r) h = refl

-- where labels are equal and hold no others, the values are
pub level : (v w : Value) (l m : Label) → tag_of the_type v < 19 → l ≡ label_of (value_term v) → m ≡ label_of (value_term w)
    → label_cmp l m ≡ Equal → value_cmp v w ≡ Equal
level v w l m h e f g =
    let low : (label_of (value_term v)).place < 19 = omega (arith, its_place v, h) in
    let one : label_of (value_term v) ≡ label_of (value_term w) = sym e ∙ (label_tied l m g ∙ f) in
    differs v w l m Equal e f g
    ∙ ap₂ trees_cmp (holds_none (value_term v) low) (holds_none (value_term w) (subst (λ (x : Label). x.place < 19) one low))

-- a row that goes on behind another
pub values_longer : (vs ws : List Value) → 0 < length vs → length ws ≡ 0
    → terms_cmp (terms_of (map_list value_term vs)) (terms_of (map_list value_term ws)) ≡ Greater
values_longer [] ws h e = absurd (omega arith)
values_longer (v ∷ vs) [] h e = refl
values_longer (v ∷ vs) (w ∷ ws) h e = absurd (omega arith)

pub values_shorter : (vs ws : List Value) → length vs ≡ 0 → 0 < length ws
    → terms_cmp (terms_of (map_list value_term vs)) (terms_of (map_list value_term ws)) ≡ Less
values_shorter [] [] e h = absurd (omega arith)
values_shorter [] (w ∷ ws) e h = refl
values_shorter (v ∷ vs) ws e h = absurd (omega arith)

pub pairs_longer : (ps qs : List (Value × Value)) → 0 < length ps → length qs ≡ 0 → terms_cmp (turn_terms ps) (turn_terms qs) ≡ Greater
pairs_longer [] qs h e = absurd (omega arith)
pairs_longer (p ∷ ps) [] h e = refl
pairs_longer (p ∷ ps) (q ∷ qs) h e = absurd (omega arith)

pub pairs_shorter : (ps qs : List (Value × Value)) → length ps ≡ 0 → 0 < length qs → terms_cmp (turn_terms ps) (turn_terms qs) ≡ Less
pairs_shorter [] [] e h = absurd (omega arith)
pairs_shorter [] (q ∷ qs) e h = refl
pairs_shorter (p ∷ ps) qs e h = absurd (omega arith)
