-- A term that stands for one item.
use Rattle.std.proofs.Common.{◌≡◌, false, [], ◌∷◌, refl}
use Rattle.amqp_model.specs.Term.{list, map, array, Term, leaf, container, described, kept, barred}
use Rattle.amqp_model.specs.Ranges.{IsNoArray}
use Rattle.amqp_model.specs.Items.{is_null, several}

-- any term but null and an array stands alone
pub several_alone : (t : Term) → IsNoArray t → is_null t ≡ false → several t ≡ t ∷ []
several_alone (leaf p) n h = rw h refl
several_alone (container list ts) n h = refl
several_alone (container map ts) n h = refl
several_alone (container array ts) n h = absurd n
several_alone (described d t) n h = refl
several_alone (kept b) n h = rw h refl
several_alone (barred r) n h = refl
