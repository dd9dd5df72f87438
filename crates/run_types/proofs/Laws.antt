-- The lemmas that other crates cite: on tests and optional steps, tables, texts and names, the paths of a mesh, and
-- ranges of numbers.
pub use Rattle.run_types.proofs.Texts.{is_among-last, text_at_place, name_of-missing}
pub use Rattle.run_types.proofs.Tests.{first, second, both, equal, equals, not_true, true_not, decide, differ, T_true, true_T, neither}
pub use Rattle.run_types.proofs.Chains.{same_some, there_is, given_by, required, same_value, same_values, same_error, value_itself, values_itself, item_itself, error_itself}
pub use Rattle.run_types.proofs.Maps.{find_pair_same, find_pair_other, tested, all_tested, untied, find_put_same, find_put_other, find_without_same, find_without_other, put_list_same, put_list_other, push_list_same, push_list_other, total_put, tied, total_put_new, less_than, pair_total}
pub use Rattle.run_types.proofs.Meshes.{toward_beside, plain_ways}
pub use Rattle.run_types.proofs.Neighbours.{neighbours}
pub use Rattle.run_types.proofs.RoutedPaths.{next_beside, routed_ways, ways_have_routes}
pub use Rattle.run_types.proofs.BrokenPaths.{follow, followed}
pub use Rattle.run_types.proofs.LinkMaps.{tied_pair, untied_pair, listed_sorted, pushed_sorted, pushed_here, pushed_there, listed_here, listed_there, one_pair}
pub use Rattle.run_types.proofs.Pigeonhole.{pigeons, Meets}
pub use Rattle.run_types.proofs.EachLaws.{each_map, each_append, there_at, each_both}
pub use Rattle.run_types.proofs.Ranges.{more}
