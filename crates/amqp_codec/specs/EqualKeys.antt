-- Maps two of whose keys are equal, which have no canonical term (Part 1, section 1.6.23).
use Rattle.std.proofs.Common.{Bool, true, false, ◌&&◌, ◌||◌, cond, eqb}
use Rattle.std.specs.Bool.{beq}
use Rattle.std.specs.Ordering.{int_eq}
use Rattle.std.specs.Str.{bytes_eq}
use Rattle.amqp_model.specs.Term.{Primitive, duplicate_key, Container, list, map, array, Term, Terms, leaf, container, described, kept, barred, none, more}
use Rattle.amqp_model.specs.Spelling.{descriptor_value}
use Rattle.amqp_lookahead.specs.Kinds.{kind_of}
use Rattle.amqp_codec.specs.PrimitiveTypes.{truth, number, integer, content}

-- Two primitives are one: of one kind, and with one content.
abbrev pub same_primitive : Primitive → Primitive → Bool
same_primitive p q =
    eqb (kind_of p) (kind_of q)
    && (beq (truth p) (truth q) && (eqb (number p) (number q) && (int_eq (integer p) (integer q) && bytes_eq (content p) (content q))))

abbrev pub same_container : Container → Container → Bool
same_container list list = true
same_container map map = true
same_container array array = true
same_container _ _ = false

-- Two terms are one.
abbrev mutual
  pub same_term : Term → Term → Bool
  same_term (leaf p) (leaf q) = same_primitive p q
  same_term (container k ts) (container j us) = same_container k j && same_terms ts us
  same_term (described d t) (described e u) = same_primitive (descriptor_value d) (descriptor_value e) && same_term t u
  same_term _ _ = false

  pub same_terms : Terms → Terms → Bool
  same_terms none none = true
  same_terms (more t ts) (more u us) = same_term t u && same_terms ts us
  same_terms _ _ = false

-- The term is one of the keys among keys and values in turn.
abbrev pub is_among_keys : Term → Terms → Bool
is_among_keys t none = false
is_among_keys t (more k none) = same_term t k
is_among_keys t (more k (more v ts)) = same_term t k || is_among_keys t ts

-- Two of the keys among keys and values in turn are equal.
abbrev pub has_equal_keys : Terms → Bool
has_equal_keys none = false
has_equal_keys (more k none) = false
has_equal_keys (more k (more v ts)) = is_among_keys k ts || has_equal_keys ts

-- Two of the keys of a map are equal.
abbrev pub is_ambiguous : Container → Terms → Bool
is_ambiguous map ts = has_equal_keys ts
is_ambiguous _ ts = false

-- The term, in which maps with equal keys are barred.
abbrev mutual
  pub barred_maps : Term → Term
  barred_maps (leaf p) = leaf p
  barred_maps (container k ts) = cond (is_ambiguous k ts) (barred duplicate_key) (container k (all_barred_maps ts))
  barred_maps (described d t) = described d (barred_maps t)
  barred_maps (kept b) = kept b
  barred_maps (barred r) = barred r

  pub all_barred_maps : Terms → Terms
  all_barred_maps none = none
  all_barred_maps (more t ts) = more (barred_maps t) (all_barred_maps ts)
