-- Terms that nothing but their size refuses.
use Rattle.std.proofs.Common.{◌≡◌, inl, inr, refl}
use Rattle.amqp_model.specs.Term.{Primitive, symbol, Refusal, too_large, non_ascii, zero_width_items, mixed_array, lazy_in_array, list}
use Rattle.amqp_model.specs.Term.{Descriptor, Terms, Term, leaf, container, described, barred}
use Rattle.amqp_model.specs.Spelling.{IsValid, descriptor_value}
use Rattle.amqp_model.specs.Refusals.{HasMixedItems, HasNullItem, HasKeptItem, IsNonAscii, HasNonAscii, IsRefused}

-- It is barred for no reason, and has no other flaw than its size.
pub record IsFlawless (u : Term) : Type 0 where
  pub unbarred : (r : Refusal) → u ≡ barred r → ⊥
  pub unmixed : HasMixedItems u → ⊥
  pub no_null : HasNullItem u → ⊥
  pub no_kept : HasKeptItem u → ⊥
  pub ascii : HasNonAscii u → ⊥

pub size_alone : {u : Term} → IsFlawless u → (r : Refusal) → IsRefused r u → r ≡ too_large
size_alone f r (inl e) = absurd (f.unbarred r e)
size_alone f too_large (inr h) = refl
size_alone f mixed_array (inr h) = absurd (f.unmixed h)
size_alone f zero_width_items (inr h) = absurd (f.no_null h)
size_alone f lazy_in_array (inr h) = absurd (f.no_kept h)
size_alone f non_ascii (inr h) = absurd (f.ascii h)
size_alone f r (inr h) = absurd h

valid_ascii : (p : Primitive) → IsValid p → IsNonAscii p → ⊥
valid_ascii (symbol s) v h = h v
valid_ascii p v h = h

pub leaf_flawless : (p : Primitive) → IsValid p → IsFlawless (leaf p)
leaf_flawless p v = record { unbarred = λ r e. cc; unmixed = λ h. h; no_null = λ h. h; no_kept = λ h. h; ascii = valid_ascii p v }

pub list_flawless : (ts : Terms) → IsFlawless (container list ts)
list_flawless ts = record { unbarred = λ r e. cc; unmixed = λ h. h; no_null = λ h. h; no_kept = λ h. h; ascii = λ h. h }

-- a value whose descriptor can be spelled
pub described_flawless : (d : Descriptor) (t : Term) → IsValid (descriptor_value d) → IsFlawless (described d t)
described_flawless d t v =
    record { unbarred = λ r e. cc; unmixed = λ h. h; no_null = λ h. h; no_kept = λ h. h; ascii = valid_ascii (descriptor_value d) v }
