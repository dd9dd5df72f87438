-- All is quiet, as the stations say it: each of its own objects, and of the counts at its ends of the links.
use Rattle.std.specs.Prelude.{◌≡◌, ℕ, ◌+◌, [], length, Some, slice_get}
use Rattle.run_types.specs.Tables.{pair_cmp, list_at}
use Rattle.mesh_semantics.specs.Language.{Language}
use Rattle.node_semantics.specs.Node.{ready_slots}
use Rattle.station_semantics.specs.Station.{Station, count_at}
use Rattle.station_semantics.specs.Whole.{Whole}
use Rattle.station_semantics.specs.Fits.{handed_at}

-- how many packets have entered the link from n to b
abbrev pub entered : {S : Type 0} → Station S → ℕ → ℕ → ℕ
entered s n b = count_at b s.acked + length (list_at pair_cmp (n, b) s.links)

-- no object of a station is ready, and the far end of each link has handed out as many packets as entered
pub record AllQuiet {S : Type 0} (g : Language S) (w : Whole S) : Type 0 where
  pub rests : (n : ℕ) (s : Station S) → slice_get w.stations n ≡ Some s → ready_slots g n s.node ≡ []
  pub even : (n b : ℕ) (s : Station S) → slice_get w.stations n ≡ Some s → handed_at w (n, b) ≡ entered s n b
