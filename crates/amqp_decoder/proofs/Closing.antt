-- How a container is ended.
use Rattle.std.proofs.Common.{◌≡◌, inr, false, Some, None}
use Rattle.amqp_wire.specs.declared.error.Error.{Error}
use Rattle.amqp_wire.specs.declared.error.Error.TheVariants.{Surplus}
use Rattle.amqp_decoder.specs.declared.frame.Place.{Place}
use Rattle.amqp_decoder.specs.State.{State}
use Rattle.amqp_decoder.specs.Steps.{Answers}
use Rattle.amqp_decoder.specs.Reading.{RefusesRead}
use Rattle.amqp_decoder.specs.Containers.{AtEnd, IsOpen, EndFault, items_left}

abbrev Ends : Place → State → Unit {0} → State → Type 0
Ends place st v st' = AtEnd place st st'

-- items are left
pub end_items_left : (place : Place) (st : State) (e : Error) (new : State) → st.error ≡ None → IsOpen place st
    → (st.top.items ≡ Some 0 → ⊥) → e ≡ Surplus → Answers st e new → RefusesRead false (Ends place) (EndFault place) st e new
end_items_left place st e new going open_ some is kept = record {
  kept = kept;
  again = λ d x. absurd (cc);
  named = λ g. inr (items_left open_ some is);
  none = inr (λ v b h. some h.items);
}
