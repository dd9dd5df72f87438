-- The request numbers of lines, one after another.
use Rattle.std.proofs.Common.{◌≡◌, ℕ, List, ◌++◌, drop}
use Rattle.run_types.specs.declared.types.Line.{Line}
use Rattle.run_types.specs.Asks.{asks, asks_from}
use Rattle.run_record.specs.declared.posts.Posts.{Posts}
use Rattle.run_record.specs.Posts.{HasPosts}

-- the numbers so far and those of the lines that are left are all; the posts are those of the lines so far
pub record AreAsked (lines : List Line) (at : ℕ) (posts : Posts) (numbers : List ℕ) : Type 0 where
  pub earlier : List Line
  pub posted : HasPosts posts earlier
  pub all : numbers ++ asks_from earlier (drop at lines) ≡ asks lines
