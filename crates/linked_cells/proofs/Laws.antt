-- The lemmas that other crates cite: on the links of cells, and on the lists of cells that queues have.
pub use Rattle.linked_cells.proofs.Links.{back, cell_of, still_held, value_in}
pub use Rattle.linked_cells.proofs.Queues.{change_here, change_kept, on_next, on_previous, put_other, same_some, some_map, times_append, times_here, times_other, times_turned, trail_on, trail_same, values}
