-- Lists of labels that are built part by part.
use Rattle.std.proofs.Common.{◌≡◌, refl, ap, ◌∙◌, ℕ, zero, suc, ◌<◌, List, [], ◌∷◌, ◌++◌, length, map, drop, Result, Ok, Err, OnOk, append_assoc, arith}
use Rattle.run_types.specs.declared.types.Label.{Label}
use Rattle.run_types.specs.declared.types.Label.TheVariants as L
use Rattle.run_types.specs.Tables.{Pair}
use Rattle.pool_relation.specs.Reducible.{Choice}
use Rattle.reachability.specs.Labels.{picks, takes}
use Rattle.stepper_terms.specs.declared.contexts.Guarded.{Guarded}
use Rattle.stepper_terms.specs.Reduced.{choices}
use Rattle.message_queue.specs.declared.Mail.{Mail}
use Rattle.message_queue.specs.Mails.{message_of}

-- one part more is there
pub grown : {X : Type 0} (old new part rest all : List X) → new ≡ old ++ part → old ++ (part ++ rest) ≡ all → new ++ rest ≡ all
grown old new part rest all e h = rw e (append_assoc old part rest ∙ h)

pub length_choices : (gs : List Guarded) → length (choices gs) ≡ length gs
length_choices [] = refl
length_choices (g ∷ gs) = ap suc (length_choices gs)

pub one_pick : (o k i : ℕ) (cs : List Choice) → i < length cs → picks o k (drop i cs) ≡ L.Pick o k ∷ picks o (suc k) (drop (suc i) cs)
one_pick o k i [] h = absurd (omega (arith, h))
one_pick o k zero (c ∷ cs) h = refl
one_pick o k (suc i) (c ∷ cs) h = one_pick o k i cs (omega (arith, h))

-- the message is taken
abbrev pub take_of : Pair → Mail → Label
take_of k m = L.Take k.1 k.0 m.method m.args

pub no_picks : (o k i : ℕ) (cs : List Choice) → length cs ≡ i → picks o k (drop i cs) ≡ []
no_picks o k zero [] h = refl
no_picks o k (suc i) [] h = refl
no_picks o k zero (c ∷ cs) h = absurd (omega (arith, h))
no_picks o k (suc i) (c ∷ cs) h = no_picks o k i cs (omega (arith, h))

-- takes of messages in two parts
pub takes_both : (k : Pair) (ms ns : List Mail) → takes k (map message_of (ms ++ ns)) ≡ takes k (map message_of ms) ++ takes k (map message_of ns)
takes_both k [] ns = refl
takes_both k (m ∷ ms) ns = ap (λ l. take_of k m ∷ l) (takes_both k ms ns)

-- what follows where a result is `Ok`
pub on_ok : {X Y : Type 0} {P Q : Type 0} (r : Result X Y) → (P → Q) → OnOk r P → OnOk r Q
on_ok (Ok x) f h = f h
on_ok (Err y) f h = tt
