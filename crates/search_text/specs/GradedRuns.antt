-- What a pass says of the runs of a program: how they end, and what no run leads to.
use Rattle.std.specs.Prelude.{◌≡◌, ℕ, List, map, Bool, true, false}
use Rattle.text_scan.specs.Text.{Text}
use Rattle.run_types.specs.declared.types.Item.{Item}
use Rattle.pool_syntax.specs.Terms.{ProgramTree}
use Rattle.pool_relation.specs.Configuration.{Configuration}
use Rattle.reachability.specs.Outcomes.{EndsWith}
use Rattle.reachability.specs.Renaming.{Renaming, renamed_item}
use Rattle.reachability.specs.Search.{IsFaulty, IsReached, IsStuck, WaitsAt}
use Rattle.search_laws.specs.Dead.{CanGoOn, HasDead}
use Rattle.record_writer.specs.RecordText.{item_text, joined}
use Rattle.search_text.specs.Grading.{is_one_of}

-- At the end d no object has met an error, and none is in a call. What the run wrote is one of these outputs, under
-- other names of objects.
pub record EndsAllowed (names allowed : List Text) (p : ProgramTree) (w : List Item) (d : Configuration) : Type 0 where
  pub no_error : ¬ (IsFaulty d)
  pub none_in_a_call : ¬ (IsStuck p d)
  pub renaming : Renaming
  pub output : is_one_of (joined (map (item_text names) (map (renamed_item renaming.to) w))) allowed ≡ true

-- in this configuration no object has met an error, none is dead, and some run goes on with each that waits in a call
pub record IsWell (p : ProgramTree) (d : Configuration) : Type 0 where
  pub no_error : ¬ (IsFaulty d)
  pub none_dead : ¬ (HasDead p d)
  pub goes_on : (o : ℕ) → WaitsAt p d o → CanGoOn p d o

-- some run comes to its end
pub record SomeRunEnds (p : ProgramTree) : Type 0 where
  pub wrote : List Item
  pub last : Configuration
  pub ends : EndsWith p wrote last

-- Each run that comes to its end wrote one of these outputs. Each configuration that a run leads to is well. Some run
-- comes to its end, unless the program may run on.
pub record RunsWell (names allowed : List Text) (may_run_on : Bool) (p : ProgramTree) : Type 0 where
  pub ends : (w : List Item) (d : Configuration) → EndsWith p w d → EndsAllowed names allowed p w d
  pub each : (d : Configuration) → IsReached p d → IsWell p d
  pub some : may_run_on ≡ false → SomeRunEnds p
