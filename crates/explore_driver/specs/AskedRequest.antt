-- The request that the parsed arguments of the code represent.
use Rattle.std.specs.Prelude.{◌≤◌}
use Rattle.search_text.specs.Inquiries.{inquiry}
use Rattle.explore_driver.specs.declared.words.Asked.{Asked}
use Rattle.explore_driver.specs.declared.words.Asked.TheVariants as A
use Rattle.explore_driver.specs.declared.words.Command.{Command}
use Rattle.explore_driver.specs.declared.words.Command.TheVariants as C
use Rattle.explore_driver.specs.declared.words.Shown.{Shown}
use Rattle.explore_driver.specs.declared.words.Shown.TheVariants as Sh
use Rattle.explore_driver.specs.Words.{Request, of_fill, of_follow, of_search, of_watch}

-- the request, with names as texts
abbrev pub request : Asked → Request
request (A.Search question name) = of_search (inquiry question) name.now
request (A.Watch shown program record_name) = of_watch shown program.now record_name.now
request (A.Fill program record_name) = of_fill program.now record_name.now

-- the request of a command
abbrev pub wanted : Command → Request
wanted (C.Make asked) = request asked
wanted (C.Follow fills program stream_name) = of_follow fills program.now stream_name.now

-- the first line is at least 1 and no later than the last
abbrev pub IsOrdered : Shown → Type 0
IsOrdered Sh.Whole = Unit {0}
IsOrdered Sh.Waits = Unit {0}
IsOrdered (Sh.Lines first last) = (1 ≤ first) × (first ≤ last)

abbrev pub IsSized : Asked → Type 0
IsSized (A.Search question name) = Unit {0}
IsSized (A.Watch shown program record_name) = IsOrdered shown
IsSized (A.Fill program record_name) = Unit {0}

abbrev pub IsSizedCommand : Command → Type 0
IsSizedCommand (C.Make asked) = IsSized asked
IsSizedCommand (C.Follow fills program stream_name) = Unit {0}
