-- Facts about terms that are one primitive.
use Rattle.std.proofs.Common.{◌≡◌, ℕ, List, [], ◌∷◌, sym, ap, subst}
use Rattle.amqp_model.specs.Term.{Primitive, null, Refusal, too_large, Container, Term, Terms, leaf, container, described, kept, barred}
use Rattle.amqp_model.specs.Term.{Descriptor}
use Rattle.amqp_model.specs.Constructors.{Format, fixed, variable, compound, unknown, format}
use Rattle.amqp_model.specs.Spelling.{PrimitiveData, IsValid, IsDataOf, IsSpelling}
use Rattle.amqp_model.specs.Standing.{Standing, whole, part}
use Rattle.amqp_model.specs.Refusals.{IsRefused}
use Rattle.amqp_model.specs.Kept.{ExpandsTo}
use Rattle.amqp_codec.specs.TermType.{Spells}
use Rattle.amqp_codec.specs.laws.OnlySize.{size_alone, leaf_flawless}

pub leaf_injective : (p q : Primitive) → leaf p ≡ leaf q → p ≡ q
leaf_injective p q e = cc

pub container_not_null : (k : Container) (ts : Terms) → container k ts ≡ leaf null → ⊥
container_not_null k ts e = cc

pub reads_leaf : (p : Primitive) (t : Term) → ExpandsTo (leaf p) t → t ≡ leaf p
reads_leaf p (leaf q) h = ap leaf (sym h)
reads_leaf p (container k ts) h = absurd h
reads_leaf p (described d t) h = absurd h
reads_leaf p (kept b) h = absurd h
reads_leaf p (barred r) h = absurd h

pub data_valid : (F : Format) (p : Primitive) (b : List ℕ) → PrimitiveData F p b → IsValid p
data_valid (fixed w v) p b h = h.2
data_valid (variable w v) p b h = h.4
data_valid (compound k w) p b h = absurd h
data_valid unknown p b h = absurd h

leaf_valid : (p : Primitive) (ds : List Descriptor) (c : ℕ) (b : List ℕ) → IsDataOf (leaf p) ds c b → IsValid p
leaf_valid p [] c b h = data_valid (format c) p b h
leaf_valid p (d ∷ ds) c b h = absurd h

pub spelled_valid : (s : Standing) (p : Primitive) → Spells s (leaf p) → IsValid p
unfolding IsSpelling
spelled_valid (whole b) p (ds, c, few, (h, d, e, k, s)) = leaf_valid p ds c d s
spelled_valid (part ds c b) p h = leaf_valid p ds c b h.1

-- what was spelled is refused for its size alone
pub leaf_writable : (s : Standing) (t : Term) (p : Primitive) (r : Refusal) → Spells s t → t ≡ leaf p → IsRefused r (leaf p) → r ≡ too_large
leaf_writable s t p r h e i = size_alone (leaf_flawless p (spelled_valid s p (subst (Spells s) e h))) r i

-- nothing refuses null
pub null_writable : (r : Refusal) → IsRefused r (leaf null) → r ≡ too_large
null_writable r h = size_alone (leaf_flawless null tt) r h
