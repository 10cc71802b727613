use Rattle.amqp_values.proofs.CopiesMade.{list_copied, array_copied, map_copied}
use Rattle.amqp_values.proofs.copied.+copying.Goals as goal

pub copy_value-returns-in_ok-copy_values-in-List : goal.copy_value-returns-in_ok-copy_values-in-List
copy_value-returns-in_ok-copy_values-in-List t c =
    let a = c.in_ok-copy_values-in-List.ensures in
    rw c.in-List.is (list_copied c.in-List.values c.in_ok-copy_values-in-List.field-0 c.in_ok-copy_values-in-List.ensures)

pub copy_value-returns-in_ok-copy_values-in-Array : goal.copy_value-returns-in_ok-copy_values-in-Array
copy_value-returns-in_ok-copy_values-in-Array t c =
    rw c.in-Array.is (array_copied c.in-Array.values (record { 0 = c.in_ok-copy_values-in-Array.field-0 })
    c.in_ok-copy_values-in-Array.ensures)

pub copy_value-returns-in_ok-copy_pairs-in-Map : goal.copy_value-returns-in_ok-copy_pairs-in-Map
copy_value-returns-in_ok-copy_pairs-in-Map t c =
    rw c.in-Map.is (map_copied c.in-Map.map _ c.in_ok-copy_pairs-in-Map.ensures)
