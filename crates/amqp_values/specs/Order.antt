-- The order of values of any kind and of maps of them: that of their terms, each of which is a label and the terms that it holds.
use Rattle.std.specs.declared.cmp.Ordering.{Ordering}
use Rattle.std.specs.declared.cmp.Ordering.TheVariants.{Less, Equal, Greater}
use Rattle.std.specs.Ordering.{ordering_then}
use Rattle.amqp_model.specs.Term.{Term, Terms, leaf, container, described, kept, barred, none, more}
use Rattle.amqp_values.specs.declared.map.ValueMap.{ValueMap}
use Rattle.amqp_values.specs.declared.value.Value.{Value}
use Rattle.amqp_values.specs.Values.{value_term, pairs_of}
use Rattle.amqp_values.specs.Equality.{turn_terms}
use Rattle.amqp_values.specs.Labels.{Label, label_of, label_cmp}

-- A label, and what stands under it.
mutual
  pub data Tree : Type 0 where
    node : Label → Trees → Tree

  pub data Trees : Type 0 where
    no_tree : Trees
    one_more : Tree → Trees → Trees

abbrev mutual
  pub tree_of : Term → Tree
  tree_of (leaf p) = node (label_of (leaf p)) no_tree
  tree_of (container k ts) = node (label_of (container k ts)) (trees_of ts)
  tree_of (described d t) = node (label_of (described d t)) (one_more (tree_of t) no_tree)
  tree_of (kept b) = node (label_of (kept b)) no_tree
  tree_of (barred r) = node (label_of (barred r)) no_tree

  pub trees_of : Terms → Trees
  trees_of none = no_tree
  trees_of (more t ts) = one_more (tree_of t) (trees_of ts)

-- The order of trees is by their labels first, and then by what stands under them; that of rows is by the first trees that differ, and
-- a row comes before a longer one that begins with it.
abbrev mutual
  pub tree_cmp : Tree → Tree → Ordering
  tree_cmp (node l xs) (node m ys) = ordering_then (label_cmp l m) (trees_cmp xs ys)

  pub trees_cmp : Trees → Trees → Ordering
  trees_cmp no_tree no_tree = Equal
  trees_cmp no_tree (one_more b ys) = Less
  trees_cmp (one_more a xs) no_tree = Greater
  trees_cmp (one_more a xs) (one_more b ys) = ordering_then (tree_cmp a b) (trees_cmp xs ys)

abbrev pub term_cmp : Term → Term → Ordering
term_cmp t u = tree_cmp (tree_of t) (tree_of u)

abbrev pub terms_cmp : Terms → Terms → Ordering
terms_cmp ts us = trees_cmp (trees_of ts) (trees_of us)

-- The order of values.
abbrev pub value_cmp : Value → Value → Ordering
value_cmp v w = term_cmp (value_term v) (value_term w)

-- The order of maps: that of the rows of their keys and values in turn.
abbrev pub map_cmp : ValueMap → ValueMap → Ordering
map_cmp m n = terms_cmp (turn_terms (pairs_of m)) (turn_terms (pairs_of n))
