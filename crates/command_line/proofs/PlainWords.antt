-- The matches that `clap` makes of arguments of which none begins with `-`.
use Rattle.std.proofs.Common.{◌≡◌, ℕ, false, List, [], ◌∷◌, ◌++◌, Some, None, refl, sym, ap, ap₂, ◌∙◌, ◌==◌, append_assoc, append-nil}
use Rattle.std.specs.Prelude.{fold}
use Rattle.clap.specs.Walk.{Held, Names, Rule, Step, Text, Walk, after_step, arg_by_index, idle, subcommand_met, to_positional, value, walked, word_met}
use Rattle.clap.specs.Simple.{Shape}
use Rattle.clap.specs.Kinds.{Kinds, or_else}
use Rattle.clap.specs.Faults.{step_fault, turn_fault, walk_fault, word_fault}
use Rattle.command_line.specs.Commands.{is_option}

-- a word that is no flag and no subcommand goes to a positional
pub met : (c : List Rule) (names : Names) (position : ℕ) (w : Text) (h : Held) → is_option w ≡ false → subcommand_met names idle w ≡ None
    → word_met c names false idle position w h ≡ (h, value)
met c names position [] h plain none = rw none refl
met c names position (b ∷ bs) h plain none =
    let not_45 : (b == 45) ≡ false = plain in
    rw (none, plain, not_45) refl

-- and by itself it has no fault
pub met_fault : (s : Shape) (names : Names) (w : Text) (h : Held) → is_option w ≡ false → subcommand_met names idle w ≡ None
    → word_fault s names false idle w h ≡ []
met_fault s names [] h plain none = rw none refl
met_fault s names (b ∷ bs) h plain none =
    let not_45 : (b == 45) ≡ false = plain in
    rw (none, plain, not_45) refl

-- the walk between two words, where nothing waits and no subcommand was met
abbrev pub walk_at : Held → ℕ → Walk
walk_at h position = record { held = h; waiting = idle; position = position; is_trailing = false; stopped = None }

-- the walk after a word for the positional at this place
abbrev pub next_walk : List Rule → Held → ℕ → Text → Walk
next_walk c h position w = to_positional c (arg_by_index c position) w (walk_at h position) h

pub walked_plain : (c : List Rule) (names : Names) (h : Held) (position : ℕ) (w : Text) → is_option w ≡ false → subcommand_met names idle w ≡ None
    → walked c names (walk_at h position) w ≡ next_walk c h position w
unfolding walked
walked_plain c names h position w plain none =
    ap (λ (m : Held × Step). after_step c w (walk_at h position) m.0 m.1) (met c names position w h plain none)

pub turn_plain : (s : Shape) (names : Names) (h : Held) (position : ℕ) (w : Text) → is_option w ≡ false → subcommand_met names idle w ≡ None
    → turn_fault s names (walk_at h position) w ≡ step_fault s position h value
turn_plain s names h position w plain none =
    ap₂ (λ (ks : Kinds) (m : Held × Step). or_else ks (step_fault s position m.0 m.1)) (met_fault s names w h plain none) (met s.rules names position w h plain none)

-- one word of a walk
pub fold_plain : (c : List Rule) (h : Held) (position : ℕ) (w : Text) (rest : List Text) → is_option w ≡ false
    → fold (walked c []) (walk_at h position) (w ∷ rest) ≡ fold (walked c []) (next_walk c h position w) rest
fold_plain c h position w rest plain = ap (λ v. fold (walked c []) v rest) (walked_plain c [] h position w plain refl)

pub fault_plain : (s : Shape) (h : Held) (position : ℕ) (w : Text) (rest : List Text) → is_option w ≡ false
    → walk_fault s [] (walk_at h position) (w ∷ rest)
    ≡ or_else (step_fault s position h value) (walk_fault s [] (next_walk s.rules h position w) rest)
unfolding walk_fault
fault_plain s h position w rest plain =
    ap₂ (λ ks v. or_else ks (walk_fault s [] v rest)) (turn_plain s [] h position w plain refl) (walked_plain s.rules [] h position w plain refl)

-- the walk that has met a subcommand
abbrev pub stopped_at : Held → Text → List Text → Walk
stopped_at h name before = record { held = h; waiting = idle; position = 1; is_trailing = false; stopped = Some (name, before) }

pub fold_stopped : (c : List Rule) (names : Names) (h : Held) (name : Text) (before rest : List Text)
    → fold (walked c names) (stopped_at h name before) rest ≡ stopped_at h name (before ++ rest)
unfolding walked
fold_stopped c names h name before [] = ap (stopped_at h name) (sym (append-nil before))
fold_stopped c names h name before (w ∷ rest) =
    fold_stopped c names h name (before ++ w ∷ []) rest ∙ ap (stopped_at h name) (append_assoc before (w ∷ []) rest)

pub fault_stopped : (s : Shape) (names : Names) (h : Held) (name : Text) (before rest : List Text)
    → walk_fault s names (stopped_at h name before) rest ≡ []
unfolding walk_fault walked
fault_stopped s names h name before [] = refl
fault_stopped s names h name before (w ∷ rest) = fault_stopped s names h name (before ++ w ∷ []) rest
