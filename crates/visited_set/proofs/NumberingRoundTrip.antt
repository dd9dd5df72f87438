-- A configuration that is numbered and restored is the same one.
use Rattle.std.proofs.Common.{◌≡◌, refl, ap, ap₂, subst, ◌∙◌, ℕ, List, map, Some, false}
use Rattle.std.proofs.Math.Logic.{∥∥₁_map}
use Rattle.std.specs.Option.{option_map, IfSome}
use Rattle.std.specs.List.{All, slice_get}
use Rattle.std.proofs.lemmas.Option.{get_or_from_slice_get, slice_get-map, slice_get_within}
use Rattle.run_types.specs.declared.types.Item.{Item}
use Rattle.run_types.specs.Message.{Message}
use Rattle.run_types.specs.Tables.{Pair}
use Rattle.pool_syntax.specs.Terms.{ProgramTree}
use Rattle.pool_relation.specs.Action.{Object}
use Rattle.pool_relation.specs.Configuration.{Configuration}
use Rattle.pool_semantics.specs.Sound.{Sound}
use Rattle.pool_semantics.proofs.Laws.{sound_now}
use Rattle.visited_set.specs.Rows.{Row}
use Rattle.object_moves.specs.Rows.{objects_from}
use Rattle.visited_set.specs.Numbers.{queue_messages, numbered, passed, EntryInvariant}

abbrev made_of : List (ℕ × Object) → List (Pair × List Message) → Configuration
made_of os ms = record { objects = os; messages = ms }

-- the entry at a place
pub passed_at : (xs : List Object) (ms : List (List Message)) (ws : List (List Item)) (es : List Row) (i : ℕ) (e : Row) → slice_get es i ≡ Some e
    → slice_get (map (passed xs ms ws) es) i ≡ Some (passed xs ms ws e)
passed_at xs ms ws es i e there = slice_get-map (passed xs ms ws) es i ∙ ap (option_map (passed xs ms ws)) there

-- the configuration at a place
pub configuration_at : (xs : List Object) (ms : List (List Message)) (ws : List (List Item)) (es : List Row) (i : ℕ) (e : Row) (c : Configuration) → slice_get es i ≡ Some e
    → c.objects ≡ objects_from 0 xs e.objects → c.messages ≡ map (queue_messages ms) e.queues
    → IfSome (slice_get (map (passed xs ms ws) es) i) (λ x. c ≡ x.configuration)
configuration_at xs ms ws es i e c at o m =
    let there = passed_at xs ms ws es i e at in
    rw there (ap₂ made_of o m)

-- what is kept of the entry at a place
pub kept_at : (p : ProgramTree) (xs : List Object) (ms : List (List Message)) (es : List Row) (i : ℕ) (e : Row) → slice_get es i ≡ Some e → All (EntryInvariant p xs ms) es → EntryInvariant p xs ms e
kept_at p xs ms es i e at kept = subst (EntryInvariant p xs ms) (get_or_from_slice_get es i e e at) (kept i e (slice_get_within es i e at))

pub sound_of : (p : ProgramTree) (xs : List Object) (ms : List (List Message)) (e : Row) → EntryInvariant p xs ms e → Sound p (numbered xs ms e)
sound_of p xs ms e kept = sound_now false p (numbered xs ms e) (∥∥₁_map kept.sound (λ s spent. s)) refl
