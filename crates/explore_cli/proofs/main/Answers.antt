use Rattle.std.proofs.Common.{◌+◌, ℕ, Bool, List, Option, Some, None, IfSome, IsTrue, refl, true}
use Rattle.command_shell.specs.Programs.{MayOpen}
use Rattle.explore_driver.specs.Ends.{files_of}
use Rattle.explore_driver.specs.Words.{Request, request_of, texts_of}
use Rattle.explore_cli.proofs.main.Goals as goal

-- each file of the system may be opened
all_open : (may : ℕ → List ℕ → Bool) (opens : ℕ) → ((n : ℕ) (name : List ℕ) → IsTrue (may n name)) → (o : Option Request) → IfSome o (λ r. MayOpen may opens (files_of r))
all_open may opens each None = tt
all_open may opens each (Some r) = λ place input name at. each (opens + place) name

pub run-status-requires-clause-allowed : goal.run-status-requires-clause-allowed
run-status-requires-clause-allowed c = all_open (λ n name. true) c.make-files.result.opens (λ n name. refl) (request_of (texts_of c.deref.result.now))
