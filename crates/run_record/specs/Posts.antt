-- The invariant of a table by names of objects: it has the number of the latest post of each object.
use Rattle.std.specs.Prelude.{◌≡◌, ℕ, List}
use Rattle.std.specs.Option.{unwrap_or}
use Rattle.std.specs.Ordering.{nat_cmp}
use Rattle.std.specs.BTreeMap.{get}
use Rattle.run_types.specs.declared.types.Line.{Line}
use Rattle.run_types.specs.Asks.{latest_post}
use Rattle.run_record.specs.declared.posts.Posts.{Posts}

-- the table has the posts of these lines, the latest line first
abbrev pub HasPosts : Posts → List Line → Type 0
HasPosts p earlier = (o : ℕ) → unwrap_or (get nat_cmp p.last o) 0 ≡ latest_post o earlier
