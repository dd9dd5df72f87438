use Rattle.std.proofs.Common.{◌≡◌, ◌∙◌, ap, sym, subst, false, inl, inr}
use Rattle.std.specs.List.{list_any}
use Rattle.clap.specs.Words.{IsAmong, app_of, fault_of, kind_of, is_simple, is_simple_and_free, subcommand_of, subcommand_rows_of}
use Rattle.command_line.specs.Commands.{is_option, texts_of}
use Rattle.command_line.specs.CommandLine.{matched_request, pool_app}
use Rattle.command_line.proofs.CommandLineMatches.{judged, pool_is_free, pool_is_simple}
use Rattle.command_line.proofs.words.read_words.Goals as goal

pub returns-in-Ok-try_get_matches_from-clause-request : goal.returns-in-Ok-try_get_matches_from-clause-request
returns-in-Ok-try_get_matches_from-clause-request c =
    let words = texts_of c.args.words.now in
    let line : app_of c.in-Ok.line ≡ pool_app = c.in-Ok.ensures in
    let no_dash : list_any is_option words ≡ false = sym c.any_is_dashed.ensures ∙ c.if-any_is_dashed.false in
    let fault = c.in-Ok-try_get_matches_from.ensures.kinds (ap is_simple_and_free line ∙ pool_is_free) in
    let rows : subcommand_rows_of c.in-Ok-try_get_matches_from.matches ≡ subcommand_of (app_of c.in-Ok.line) words =
    (c.in-Ok-try_get_matches_from.ensures.matches (ap is_simple line ∙ pool_is_simple)).1 in
    c.command.ensures.request ∙ (ap matched_request (rows ∙ ap (λ a. subcommand_of a words) line)
    ∙ (judged words no_dash).accepted (sym (ap (λ a. fault_of a words) line) ∙ fault))

pub returns-clause-request : goal.returns-clause-request
returns-clause-request c =
    let words = texts_of c.args.words.now in
    let line : app_of c.in-Ok.line ≡ pool_app = c.in-Ok.ensures in
    let no_dash : list_any is_option words ≡ false = sym c.any_is_dashed.ensures ∙ c.if-any_is_dashed.false in
    elim (c.in-Err.ensures.kinds (ap is_simple_and_free line ∙ pool_is_free)) [
      | inl e ↦ absurd (c.in_default-kind.not-OutOfMemory (c.kind.ensures ∙ e))
      | inr h ↦ sym ((judged words no_dash).refused (kind_of c.in-Err.error) (subst (λ a. IsAmong (kind_of c.in-Err.error) (fault_of a words)) line h))
    ]
