-- The request number of each line of a record: the number of the event that posted the request which the line
-- answers. The second part says that each line answers a post which fits it.
use Rattle.std.specs.Prelude.{◌≡◌, ℕ, ◌-◌, ◌<◌, ◌==◌, List, [], ◌∷◌, Option, Some, None, is_some, Bool, false, if◌then◌else◌, slice_get}
use Rattle.run_types.specs.declared.types.Value.{Value}
use Rattle.run_types.specs.declared.types.NameId.{NameId}
use Rattle.run_types.specs.declared.types.Label.{Label}
use Rattle.run_types.specs.declared.types.Label.TheVariants as L
use Rattle.run_types.specs.declared.types.What.{What}
use Rattle.run_types.specs.declared.types.What.TheVariants as W
use Rattle.run_types.specs.declared.types.Event.{Event}
use Rattle.run_types.specs.declared.types.Event.TheVariants as Ev
use Rattle.run_types.specs.declared.types.Line.{Line}
use Rattle.run_types.specs.declared.types.Line.TheVariants as R
use Rattle.run_types.specs.ObjectNames.{node_of}

-- the object whose request a `new` line answers; in a turn a new object exists at once, and nothing was posted
abbrev pub asker_at : Event → ℕ → Option ℕ
asker_at (Ev.Turn n) o = None
asker_at (Ev.Link a b) o = Some o
asker_at (Ev.Wire w a b) o = None

-- the object whose request the line of a transition answers, if it answers one
abbrev pub asker_by : Event → Label → Option ℕ
asker_by e (L.New o p c) = asker_at e o
asker_by e (L.Answer p o m args) = Some o
asker_by e (L.Return p o v) = Some o
asker_by e _ = None

-- the same for the effect of an event
abbrev pub asker_of : Event → What → Option ℕ
asker_of e (W.Step label times) = asker_by e label
asker_of e (W.Created o p) = Some o
asker_of e (W.Result o v) = Some o
asker_of e _ = None

-- the same for a line of a record
abbrev pub asker : Line → Option ℕ
asker (R.Event n e what) = asker_of e what
asker (R.End end) = None

-- whether the line is of one of the five kinds that carry a request number
abbrev pub is_asked : Line → Bool
is_asked l = is_some (asker l)

-- whether the effect posts a request of the object o: for an object on another node, or a call
abbrev pub is_post_of : ℕ → What → Bool
is_post_of o (W.PostCreate k c n) = k == o
is_post_of o (W.PostCall k p m args) = k == o
is_post_of o _ = false

-- the number of the latest post of the object o in these lines, which have the latest first; 0 if there is none
abbrev pub latest_post : ℕ → List Line → ℕ
latest_post o [] = 0
latest_post o (R.Event n e what ∷ ls) = if is_post_of o what then n else latest_post o ls
latest_post o (R.End end ∷ ls) = latest_post o ls

-- the latest post of an object in these lines, or 0 without an object
abbrev pub post_of : List Line → Option ℕ → ℕ
post_of earlier None = 0
post_of earlier (Some o) = latest_post o earlier

-- the request number of a line that follows these, which have the latest first
abbrev pub request_number_of : List Line → Line → ℕ
request_number_of earlier l = post_of earlier (asker l)

-- the request numbers of lines that follow the earlier ones
abbrev pub asks_from : List Line → List Line → List ℕ
asks_from earlier [] = []
asks_from earlier (l ∷ ls) = request_number_of earlier l ∷ asks_from (l ∷ earlier) ls

-- the request number of each line; 0 if a line answers no request
abbrev pub asks : List Line → List ℕ
asks ls = asks_from [] ls

-- line n of these, counted from 1, is the event with the number n, and its effect is this
abbrev pub Shows : List Line → ℕ → What → Type 0
Shows ls n what = (0 < n) × (e : Event) × (slice_get ls (n - 1) ≡ Some (R.Event n e what))

-- line n of these posts the request that a new object answers; n is 0 if it answers none
abbrev pub NewAnswers : List Line → Event → What → ℕ → Type 0
NewAnswers ls (Ev.Turn k) what n = n ≡ 0
NewAnswers ls (Ev.Link a b) what n = Shows ls n what
NewAnswers ls (Ev.Wire w a b) what n = n ≡ 0

-- line n of these posts the request that a transition with this label answers; n is 0 if it answers none
abbrev pub LabelAnswers : List Line → Event → Label → ℕ → Type 0
LabelAnswers ls e (L.New o p c) n = NewAnswers ls e (W.PostCreate o c (node_of p)) n
LabelAnswers ls e (L.Answer p o m args) n = Shows ls n (W.PostCall o p m args)
LabelAnswers ls e (L.Return p o v) n = (m : NameId) × (args : List Value) × Shows ls n (W.PostCall o p m args)
LabelAnswers ls e _ n = n ≡ 0

-- the same for the effect of an event
abbrev pub WhatAnswers : List Line → Event → What → ℕ → Type 0
WhatAnswers ls e (W.Step label times) n = LabelAnswers ls e label n
WhatAnswers ls e (W.Created o p) n = (c : NameId) × Shows ls n (W.PostCreate o c (node_of p))
WhatAnswers ls e (W.Result o v) n = (p : ℕ) × (m : NameId) × (args : List Value) × Shows ls n (W.PostCall o p m args)
WhatAnswers ls e _ n = n ≡ 0

-- line n of these lines posts the request that the line answers; n is 0 if it answers none
abbrev pub AnswersPost : List Line → Line → ℕ → Type 0
AnswersPost ls (R.Event k e what) n = WhatAnswers ls e what n
AnswersPost ls (R.End end) n = n ≡ 0

-- the request number of each line is the number of a post which fits the line
abbrev pub EachAnswersPost : List Line → Type 0
EachAnswersPost ls = (i n : ℕ) (l : Line) → slice_get ls i ≡ Some l → slice_get (asks ls) i ≡ Some n → AnswersPost ls l n
