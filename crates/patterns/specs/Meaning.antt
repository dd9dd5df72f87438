-- The pattern that a row of signs means. It is read from the right, so that a series and alternatives nest to the right.
use Rattle.std.specs.Prelude.{◌≡◌, ◌<◌, List, [], ◌∷◌, length}
use Rattle.patterns.specs.Patterns.{Pattern, Never, Nothing, One, Any, Either, Then, Repeated, alternatives, in_series, mixed}
use Rattle.patterns.specs.Rows.{numbered}
use Rattle.patterns.specs.declared.sign.Sign.{Sign}
use Rattle.patterns.specs.declared.sign.Sign.TheVariants as S
use Rattle.patterns.specs.declared.sign.Times.{Times}
use Rattle.patterns.specs.declared.sign.Times.TheVariants as T
use Rattle.patterns.specs.declared.level.Level.{Level}

-- the pattern, so many times
abbrev pub repeated : Times → Pattern → Pattern
repeated T.Once r = r
repeated T.Any r = Repeated r
repeated T.Some r = Then r (Repeated r)
repeated T.Maybe r = Either r Nothing

-- what stands behind a place between two parentheses: how many times the part before it comes, the parts of its series,
-- what is beside this series, and the other alternatives
pub record Behind : Type 0 where
  pub times : Times
  pub series : Pattern
  pub beside : Pattern
  pub others : Pattern

-- nothing stands there
abbrev pub empty : Behind
empty = record { times = T.Once; series = Nothing; beside = Nothing; others = Never }

-- a part before it
abbrev pub with_part : Pattern → Behind → Behind
with_part r l = record { times = T.Once; series = in_series (repeated l.times r) l.series; beside = l.beside; others = l.others }

-- `&` before it
abbrev pub with_series : Behind → Behind
with_series l = record { times = T.Once; series = Nothing; beside = mixed l.series l.beside; others = l.others }

-- the pattern of all of it
abbrev pub whole : Behind → Pattern
whole l = alternatives (mixed l.series l.beside) l.others

-- `|` before it
abbrev pub with_choice : Behind → Behind
with_choice l = record { times = T.Once; series = Nothing; beside = Nothing; others = whole l }

-- what stands behind a place: between its parentheses, and between those around them
pub record Reading : Type 0 where
  pub here : Behind
  pub around : List Behind

abbrev pub opened : Behind → List Behind → Reading
opened l [] = record { here = l; around = [] }
opened l (m ∷ ms) = record { here = with_part (whole l) m; around = ms }

-- a sign before it, if it is no parenthesis
abbrev pub before_here : Sign → Behind → Behind
before_here (S.Item i) l = with_part (One i) l
before_here S.Dot l = with_part Any l
before_here S.Star l = record l { times = T.Any }
before_here S.Plus l = record l { times = T.Some }
before_here S.Question l = record l { times = T.Maybe }
before_here S.Bar l = with_choice l
before_here S.Ampersand l = with_series l
before_here S.Open l = l
before_here S.Close l = l

-- a sign before it
abbrev pub before : Sign → Reading → Reading
before S.Close r = record { here = empty; around = r.here ∷ r.around }
before S.Open r = opened r.here r.around
before s r = record { here = before_here s r.here; around = r.around }

-- all signs
abbrev pub reading : List Sign → Reading
reading [] = record { here = empty; around = [] }
reading (s ∷ ss) = before s (reading ss)

-- the pattern that the signs mean
abbrev pub meaning : List Sign → Pattern
meaning ss = whole (reading ss).here

-- the patterns of a level
abbrev pub behind : List Pattern → Level → Behind
behind ps l = record { times = l.times; series = numbered ps l.series; beside = numbered ps l.beside; others = numbered ps l.others }

-- the level has numbers of these patterns
pub record IsLevel (ps : List Pattern) (l : Level) : Type 0 where
  pub series : l.series < length ps
  pub beside : l.beside < length ps
  pub others : l.others < length ps

-- the level has these patterns
pub record Stands (ps : List Pattern) (l : Level) (b : Behind) : Type 0 where
  pub within : IsLevel ps l
  pub is : behind ps l ≡ b
