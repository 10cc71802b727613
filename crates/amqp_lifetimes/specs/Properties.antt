-- Pairs that are put into the properties of a node (Part 3, section 3.5.9) and into sets of filters (Part 3, section 3.5.8).
use Rattle.std.specs.Prelude.{◌≡◌, ℕ, Bool, Option, Some, None, List, [], map, codes, string_bytes, unwrap_or}
use Rattle.std.specs.Str.{bytes_eq}
use Rattle.indexmap.specs.IndexMap.{insert_entry}
use Rattle.amqp_model.specs.Term.{null, symbol, list, array, code, Term, leaf, container, described, none}
use Rattle.amqp_model.specs.Items.{terms_of}
use Rattle.amqp_wire.specs.declared.symbol.Symbol.{Symbol}
use Rattle.amqp_lookahead.specs.Members.{descriptor_of}
use Rattle.amqp_containers.specs.declared.array.Array.{Array}
use Rattle.amqp_described.specs.declared.described.Described.{Described}
use Rattle.amqp_restricted_types.specs.declared.distribution_mode.DistributionMode.{DistributionMode}
use Rattle.amqp_restricted_types.specs.Termini.{distribution_mode_texts}
use Rattle.amqp_values.specs.declared.value.Value.{Value}
use Rattle.amqp_values.specs.Values.{value_term}
use Rattle.amqp_lifetimes.specs.declared.lifetime_policy.LifetimePolicy.{LifetimePolicy}
use Rattle.amqp_lifetimes.specs.declared.lifetime_policy.LifetimePolicy.TheVariants as policy

abbrev pub same_symbol : Symbol → Symbol → Bool
same_symbol v w = bytes_eq (string_bytes v.0) (string_bytes w.0)

-- The pairs with this one, or this one alone where there are none.
abbrev pub with_pair : Option (List (Symbol × Value)) → Symbol → Value → List (Symbol × Value)
with_pair before key value = insert_entry same_symbol (unwrap_or before []) key value

-- After are the pairs before with one under this key, whose value is this term.
pub record Inserts (before : Option (List (Symbol × Value))) (key : Symbol) (term : Term) (after : List (Symbol × Value)) : Type 0 where
  pub value : Value
  pub is_term : value_term value ≡ term
  pub pairs : after ≡ with_pair before key value

-- After are the pairs before with one under a key of this text, whose value is this term.
pub record InsertsUnder (before : Option (List (Symbol × Value))) (text : List ℕ) (term : Term) (after : List (Symbol × Value)) : Type 0 where
  pub key : Symbol
  pub is_text : string_bytes key.0 ≡ text
  pub pair : Inserts before key term after

abbrev pub empty_list_of : ℕ → Term
empty_list_of n = described (code n) (container list none)

-- Part 3, sections 3.5.10 to 3.5.13
abbrev pub lifetime_term : LifetimePolicy → Term
lifetime_term (policy.DeleteOnClose v) = empty_list_of 0x2b
lifetime_term (policy.DeleteOnNoLinks v) = empty_list_of 0x2c
lifetime_term (policy.DeleteOnNoMessages v) = empty_list_of 0x2d
lifetime_term (policy.DeleteOnNoLinksOrMessages v) = empty_list_of 0x2e

abbrev pub InsertsLifetime : Option (List (Symbol × Value)) → LifetimePolicy → List (Symbol × Value) → Type 0
InsertsLifetime before lifetime after = InsertsUnder before (codes "lifetime-policy") (lifetime_term lifetime) after

-- Part 3, section 3.5.7
abbrev pub mode_term : DistributionMode → Term
mode_term mode = leaf (symbol (distribution_mode_texts mode))

abbrev pub modes_term : Array DistributionMode → Term
modes_term modes = container array (terms_of (map mode_term modes.0.items))

abbrev pub InsertsModes : Option (List (Symbol × Value)) → Array DistributionMode → List (Symbol × Value) → Type 0
InsertsModes before modes after = InsertsUnder before (codes "supported-dist-modes") (modes_term modes) after

-- Part 3, section 3.5.8: a filter is a described value, or null
abbrev pub filter_term : Option (Described Value) → Term
filter_term None = leaf null
filter_term (Some v) = described (descriptor_of v.descriptor) (value_term v.value)
