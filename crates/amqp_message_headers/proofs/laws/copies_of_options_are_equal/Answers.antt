use Rattle.std.proofs.Common.{Some, None, refl}
use Rattle.amqp_message_headers.proofs.laws.copies_of_options_are_equal.Goals as goal

pub returns : goal.returns
returns g c each None None h = refl
returns g c each (Some v) (Some w) h = each v w h
returns g c each None (Some w) h = absurd h
returns g c each (Some v) None h = absurd h
