-- Lines that can be read back are each a transition, a named delay, or idle.
use Rattle.std.proofs.Common.{◌≡◌, refl, ℕ, List, [], ◌∷◌}
use Rattle.text_scan.specs.Text.{Text}
use Rattle.run_types.specs.declared.types.Label.{Label}
use Rattle.run_types.specs.declared.types.Label.TheVariants as L
use Rattle.run_types.specs.declared.types.What.{What}
use Rattle.run_types.specs.declared.types.What.TheVariants as W
use Rattle.run_types.specs.declared.types.Line.{Line}
use Rattle.run_types.specs.declared.types.Line.TheVariants as R
use Rattle.run_record.specs.Readable.{IsReadableStep, IsReadableWhat, IsRecordFrom}
use Rattle.pool_driver.specs.LineKinds.{IsTransition, IsOneOfThree, EachIsOneOfThree, transition, delay, idle}

step : (names : List Text) (label : Label) (times : ℕ) → IsReadableStep names label times → IsTransition (W.Step label times)
step names (L.Local o) times h = h.1
step names (L.New o p c) times h = h.3
step names (L.Answer p o m args) times h = h.1
step names (L.Return p o v) times h = h.3
step names (L.Send o p m args) times h = h.1
step names (L.Take p o m args) times h = h.1
step names (L.Write o item) times h = h.2
step names (L.Pick o i) times h = h.3
step names (L.Fault o e) times h = h.1

kind : (names : List Text) (what : What) → IsReadableWhat names what → IsOneOfThree what
kind names (W.Step label times) h = transition (step names label times h)
kind names (W.PostCreate o c n) h = delay tt
kind names (W.PostCall o p m args) h = delay tt
kind names (W.Arrive o p m) h = delay tt
kind names (W.Created o p) h = delay tt
kind names (W.Result o v) h = delay tt
kind names W.Pass h = delay tt
kind names W.Idle h = idle refl
kind names (W.Frame n) h = delay tt
kind names (W.Lost n) h = delay tt
kind names (W.Stale n) h = delay tt
kind names (W.Acked n) h = delay tt
kind names (W.Late n) h = delay tt

pub each_kind : (names : List Text) (last : ℕ) (ls : List Line) → IsRecordFrom names last ls → EachIsOneOfThree ls
each_kind names last [] h = absurd h
each_kind names last (R.Event n e what ∷ ls) h = (kind names what h.3, each_kind names n ls h.4)
each_kind names last (R.End e ∷ []) h = tt
each_kind names last (R.End e ∷ l ∷ ls) h = absurd h
