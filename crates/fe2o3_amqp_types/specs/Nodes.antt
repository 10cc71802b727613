-- The nodes of a term, and the path to a place (Part 1, section 1.2). It defines nothing.
pub use Rattle.amqp_nodes.specs.Terms.{RefusesTerm}
pub use Rattle.amqp_nodes.specs.Nodes.{IsWithin, IsNode, IsNoNode, bytes_at, reach_of}
pub use Rattle.amqp_nodes.specs.Walks.{nothing, parts_of, StandsIn, StandIn, IsNodeOf, Walks, AreOf}
pub use Rattle.amqp_nodes.specs.Fields.{IsCompositeOf, IsNth, IsPlaced, EndsBefore, IsField, IsOmitted, HasNoField}
pub use Rattle.amqp_paths.specs.Walks.{Walk, IsReached}
