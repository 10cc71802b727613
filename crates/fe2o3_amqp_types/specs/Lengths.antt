-- How long a term is, and where a fault stands (Part 1, section 1.2). It defines nothing.
pub use Rattle.amqp_lengths.specs.Fronts.{IsFront, NoFront}
pub use Rattle.amqp_lengths.specs.Lengths.{IsTerm, IsCutTerm}
pub use Rattle.amqp_lengths.specs.Faults.{HasFault, TermFault, AsksMore}
pub use Rattle.amqp_lengths.specs.Stands.{StandsAt}
pub use Rattle.amqp_placed.specs.Facing.{Faces, Shows, IsShown, AreShown}
pub use Rattle.amqp_placed.specs.Shown.{FieldsShown, ChoicesShown, IsOfNoEnd}
