-- The headline follows from how a call ends.
use Rattle.std.proofs.Common.{◌≡◌, ◌∙◌, inl, inr, ◌++◌, Bool, true, false, List, [], ◌∷◌, Option, Some, None, option_map, IfSome, refl, sym, subst}
use Rattle.std.specs.Prelude.{◌&&◌, not, codes, if◌then◌else◌}
use Rattle.text_scan.specs.Text.{Text}
use Rattle.command_shell.specs.declared.status.Status.{Status}
use Rattle.command_shell.specs.declared.status.Status.TheVariants as S
use Rattle.command_shell.specs.Ends as E
use Rattle.command_shell.specs.Ends.{IsAnswered, Says, WholeTextWritten}
use Rattle.command_shell.specs.Programs.{WereAccepted}
use Rattle.command_shell.specs.Writing.{Writing, Wrote}
use Rattle.command_line.specs.declared.command.Show.TheVariants as Sh
use Rattle.command_line.specs.Commands.{Request, of_run, is_option, request_of}
use Rattle.mesh_of_terms.specs.Terms.{plain}
use Rattle.mesh_semantics.specs.Record.{root_name}
use Rattle.pool_outside.specs.Reading.{Reading, Told}
use Rattle.pool_driver.specs.Ends.{Ends, pool_program}
use Rattle.pool_driver.specs.Headline.{ShowsOneRun}
use Rattle.pool_driver.proofs.LineKindLaws.{each_kind}
use Rattle.pool_driver.specs.Inputs.{IsAccepted, inputs}
use Rattle.pool_driver.specs.Outputs.{IsOutput, IsRunOf}
use Rattle.pool_driver.specs.Runs.{record_of}

-- what a run of three texts shows
one_run : (source place plan text : Text) (status : Status) → IsRunOf Sh.Record source place plan text status → ShowsOneRun source text
one_run source place plan text status h = record {
  names = h.meaning.names;
  program = h.meaning.program;
  parsed = h.meaning.parsed;
  typed = h.meaning.typed;
  lines = (record_of h.meaning).lines;
  written = h.written;
  ended = h.run.run.lines;
  each = each_kind h.meaning.names 0 (record_of h.meaning).lines h.run.readable;
  readable = h.run.readable;
  answers = h.run.answers;
  root = root_name h.meaning.layout;
  first = h.run.first;
  starts = h.run.starts;
  last = plain (record_of h.meaning).last;
  leads = h.run.run.leads;
  right = h.run.run.fronts;
  rests = h.run.run.rests;
}

-- what the words ask for, where they ask for something
asked : (p l s : Text) (r : Request) → request_of (codes "record" ∷ p ∷ l ∷ s ∷ []) ≡ Some r → r ≡ of_run Sh.Record (record { program = p; placement = l; schedule = s })
asked p l s r h = by (not (is_option p) && (not (is_option l) && not (is_option s))) h
  where
    wanted : Request
    wanted = of_run Sh.Record (record { program = p; placement = l; schedule = s })

    by : (b : Bool) → ◌≡◌ {A = Option Request} (if b then Some wanted else None) (Some r) → r ≡ wanted
    by true e = cc
    by false e = absurd (let z : None ≡ Some r = e in cc)

-- the status of a text that was written whole is no other
abbrev is_whole : Status → Bool
is_whole S.Done = true
is_whole S.DoneFaulted = true
is_whole S.ScheduleOver = true
is_whole S.Full = true
is_whole _ = false

whole_is : (s : Status) → WholeTextWritten s → is_whole s ≡ true
whole_is s (inl e) = subst (λ (x : Status). is_whole x ≡ true) (sym e) refl
whole_is s (inr (inl e)) = subst (λ (x : Status). is_whole x ≡ true) (sym e) refl
whole_is s (inr (inr (inl e))) = subst (λ (x : Status). is_whole x ≡ true) (sym e) refl
whole_is s (inr (inr (inr e))) = subst (λ (x : Status). is_whole x ≡ true) (sym e) refl

not_whole : (s t : Status) → s ≡ t → is_whole t ≡ false → WholeTextWritten s → ⊥
not_whole s t e f h = absurd (let z : false ≡ true = sym f ∙ subst (λ (x : Status). is_whole x ≡ true) e (whole_is s h) in cc)

said_not : (k : Reading) (words : Option Request) (line : Text) (status : Status) → Says pool_program k words line status → WholeTextWritten status → ⊥
said_not k words line status (E.usage h e f) = not_whole status S.Usage f refl
said_not k words line status (E.refusal r input fault i h e f) = not_whole status S.Refused f refl
said_not k words line status (E.unmade r input fault i h e f) = not_whole status S.Refused f refl
said_not k words line status (E.unread r input i h e f) = not_whole status S.ReadFault f refl

-- what was written
abbrev pub Written : Told → Text → Writing → Type 0
Written told name out =
    (source : Text) × (bytes : Text) × IfSome (told name) (λ t. source ≡ t) × (out.after ≡ option_map (λ w. w ++ bytes) out.before) × ShowsOneRun source bytes

made_shows : (k : Reading) (p l s : Text) (text : Text) (status : Status) (out : Writing) → IsAnswered pool_program k (of_run Sh.Record (record { program = p; placement = l; schedule = s })) text status
    → Wrote out text → Written k.told p out
made_shows k p l s text status out made wrote = by made.texts made.accepted made.output
  where
    wanted : Request
    wanted = of_run Sh.Record (record { program = p; placement = l; schedule = s })

    by : (texts : List Text) → WereAccepted IsAccepted k.told [] (inputs wanted) texts → IsOutput wanted texts text status → Written k.told p out
    by [] a h = absurd h
    by (x ∷ []) a h = absurd h
    by (x ∷ y ∷ []) a h = absurd h
    by (x ∷ y ∷ z ∷ []) a h = (x, text, a.0.0, wrote.0, one_run x y z text status h)
    by (x ∷ y ∷ z ∷ w ∷ ws) a h = absurd h

pub headline : (k : Reading) (out err : Writing) (status : Status) (words : List Text) → Ends (request_of words) k out err status → (p l s : Text)
    → words ≡ codes "record" ∷ p ∷ l ∷ s ∷ [] → WholeTextWritten status → Written k.told p out
headline k out err status words ends p l s is whole = by ends
  where
    by : Ends (request_of words) k out err status → Written k.told p out
    by (E.whole r text e made wrote idle) =
        let wanted = asked p l s r (subst (λ (ws : List Text). request_of ws ≡ Some r) is e) in
        made_shows k p l s text status out (subst (λ (x : Request). IsAnswered pool_program k x text status) wanted made) wrote
    by (E.said line says wrote idle) = absurd (said_not k (request_of words) line status says whole)
    by (E.cut r text planned e made wrote idle f) = absurd (not_whole status S.WriteFault f refl whole)
    by (E.line_cut line planned says wrote idle f) = absurd (not_whole status S.WriteFault f refl whole)
    by (E.no_memory out_idle err_idle f) = absurd (not_whole status S.Memory f refl whole)
