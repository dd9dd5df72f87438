use Rattle.std.proofs.Common.{◌≡◌, refl, sym, ◌∙◌, ℕ, ◌<◌, List, length, slice_get, get_or, Option, Some, None, IfSome, is_some, nat_lt, arith, Bor}
use Rattle.std.specs.Option.{option_copied}
use Rattle.std.proofs.lemmas.Option.{slice_get_read}
use Rattle.std.proofs.lemmas.Bool.Decides.{nat_tests}
use Rattle.type_check.proofs.IndexLaws.{found_there, found_nowhere, found_within}
use Rattle.type_check.proofs.index.Index.first.Goals as goal

-- what is read at a place within a list is there
read : {A : Type 0} (xs : List A) (i : ℕ) (r : Option (Bor A)) → i < length xs → is_some r ≡ nat_lt i (length xs) → IfSome r (λ x. x.now ≡ get_or xs i x.now) → option_copied r ≡ slice_get xs i
read xs i (Some x) within some at = sym (slice_get_read xs (length xs) i x.now refl within at)
read xs i None within some at = absurd (grind (arith, nat_tests))

pub returns-in-Some : goal.returns-in-Some
returns-in-Some g c =
    let xs = c.args.self.now.list.now in
    let at = sym c.place.ensures ∙ c.in-Some.is in
    let looked = c.get.ensures.lookup in
    read xs c.in-Some.place c.get.result (found_within g.T.HasName.name xs c.args.name.0 c.in-Some.place at) looked.0 looked.1
    ∙ found_there g.T.HasName.name xs c.args.name.0 c.in-Some.place at

pub returns-in-None : goal.returns-in-None
returns-in-None g c = sym (found_nowhere g.T.HasName.name c.args.self.now.list.now c.args.name.0 (sym c.place.ensures ∙ c.in-None.is))
