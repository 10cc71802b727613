-- Of two values what they are but for the values that they hold decides where it differs.
use Rattle.std.proofs.Common.{◌≡◌, refl, sym, ap, ap₂, ◌∙◌}
use Rattle.std.specs.declared.cmp.Ordering.{Ordering}
use Rattle.std.specs.Ordering.{ordering_then}
use Rattle.amqp_model.specs.Term.{Term, leaf, container, described, kept, barred}
use Rattle.amqp_values.specs.Labels.{Label, label_of, label_cmp}
use Rattle.amqp_values.specs.Order.{Trees, node, no_tree, one_more, tree_of, trees_of, tree_cmp, trees_cmp, term_cmp}

abbrev pub held : Term → Trees
held (container k ts) = trees_of ts
held (described d t) = one_more (tree_of t) no_tree
held _ = no_tree

by_parts : (t u : Term) → term_cmp t u ≡ ordering_then (label_cmp (label_of t) (label_of u)) (trees_cmp (held t) (held u))
by_parts t u = ap₂ tree_cmp (parts t) (parts u)
  where
    parts : (t : Term) → tree_of t ≡ node (label_of t) (held t)
    parts (leaf p) = refl
    parts (container k ts) = refl
    parts (described d t) = refl
    parts (kept b) = refl
    parts (barred r) = refl

pub roots_decide : (t u : Term) (l m : Label) (o : Ordering) → l ≡ label_of t → m ≡ label_of u → label_cmp l m ≡ o
    → term_cmp t u ≡ ordering_then o (trees_cmp (held t) (held u))
roots_decide t u l m o e f g =
    by_parts t u ∙ ap (λ a. ordering_then a (trees_cmp (held t) (held u))) (sym (ap₂ label_cmp e f) ∙ g)
