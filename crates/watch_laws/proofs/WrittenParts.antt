-- The text of the parts is the text of the record, and the first lines have the first parts.
use Rattle.std.proofs.Common.{◌≡◌, refl, sym, ap, ap₂, ◌∙◌, ℕ, List, [], ◌∷◌, ◌++◌, Option, Some, None, append_assoc, append-nil, codes}
use Rattle.text_scan.specs.Text.{Text}
use Rattle.run_types.specs.Message.{Message}
use Rattle.run_types.specs.Tables.{Pair}
use Rattle.run_types.specs.declared.types.What.TheVariants as W
use Rattle.run_types.specs.declared.types.Line.{Line}
use Rattle.run_types.specs.declared.types.Line.TheVariants as R
use Rattle.run_types.proofs.Laws.{same_some}
use Rattle.pool_syntax.specs.Terms.{ProgramTree}
use Rattle.pool_relation.specs.Action.{Object}
use Rattle.pool_relation.specs.Configuration.{Configuration, messages_of, object_of}
use Rattle.pool_relation.specs.Transition.{run}
use Rattle.mesh_semantics.specs.Record.{labels, labels_of}
use Rattle.term_text.specs.StateText.{block, block_of, blocks, blocks_at, mail_at, mail_line, mails, objects_of, pair_of}
use Rattle.term_text.specs.Watched.{followed_text, line, shown_change, told_line, watched_text}
use Rattle.watch_laws.specs.LastLines.{Part, Other, block_if, blocks_in, blocks_of, changed, followed_parts, mail_in, mails_of, text_of, watched_parts, written}
use Rattle.watch_laws.proofs.Split.{through}

both_written : (xs ys : List Part) → written (xs ++ ys) ≡ written xs ++ written ys
both_written [] ys = refl
both_written (x ∷ xs) ys = ap (λ t. text_of x ++ t) (both_written xs ys) ∙ sym (append_assoc (text_of x) (written xs) (written ys))

module _ (names : List Text) (p : ProgramTree) where
  blocks_written : (es : List (ℕ × Object)) → written (blocks_of names p es) ≡ blocks names p es
  blocks_written [] = refl
  blocks_written (e ∷ es) = ap (λ t. block names p e.0 e.1 ++ t) (blocks_written es)

  mails_written : (es : List (Pair × List Message)) → written (mails_of names es) ≡ mails names es
  mails_written [] = refl
  mails_written (e ∷ es) = ap (λ t. mail_line names e.0.0 e.0.1 e.1 ++ t) (mails_written es)

  block_written : (o : ℕ) (x : Option Object) → written (block_if names p o x) ≡ block_of names p o x
  block_written o None = refl
  block_written o (Some x) = append-nil (block names p o x)

  blocks_in_written : (d : Configuration) (os : List ℕ) → written (blocks_in names p d os) ≡ blocks_at names p d os
  blocks_in_written d [] = refl
  blocks_in_written d (o ∷ os) =
      both_written (block_if names p o (object_of d o)) (blocks_in names p d os) ∙ ap₂ (λ s t. s ++ t) (block_written o (object_of d o)) (blocks_in_written d os)

  mail_written : (d : Configuration) (q : Option Pair) → written (mail_in names d q) ≡ mail_at names d q
  mail_written d None = refl
  mail_written d (Some q) = append-nil (mail_line names q.0 q.1 (messages_of d q.0 q.1))

  changed_written : (l : Line) (d : Configuration) → written (changed names p l d) ≡ shown_change names p l d
  changed_written (R.Event number event (W.Step lab times)) d =
      both_written (blocks_in names p d (objects_of lab)) (mail_in names d (pair_of lab)) ∙ ap₂ (λ s t. s ++ t) (blocks_in_written d (objects_of lab)) (mail_written d (pair_of lab))
  changed_written (R.Event number event _) d = refl
  changed_written (R.End end) d = refl

  followed_written : (c : Configuration) (ls : List Line) → written (followed_parts names p c ls) ≡ followed_text names p c ls
  followed_written c [] = refl
  followed_written c (l ∷ ls) = ap (λ t. told_line names l ++ t) (by (run p c (labels_of l)) (λ d. followed_written d ls))
    where
      by : (o : Option Configuration) → ((d : Configuration) → written (followed_parts names p d ls) ≡ followed_text names p d ls)
          → written (elim o as (λ o. List Part) [ None ↦ [] | Some d ↦ changed names p l d ++ followed_parts names p d ls ])
          ≡ elim o as (λ o. Text) [ None ↦ [] | Some d ↦ shown_change names p l d ++ followed_text names p d ls ]
      by None rest = refl
      by (Some d) rest = both_written (changed names p l d) (followed_parts names p d ls) ∙ ap₂ (λ s t. s ++ t) (changed_written l d) (rest d)

  pub watched_written : (c : Configuration) (ls : List Line) → written (watched_parts names p c ls) ≡ watched_text names p c ls
  watched_written c ls =
      let start = blocks_of names p c.objects ++ mails_of names c.messages in
      ap (λ t. line (codes "watch" ∷ []) ++ t)
      (both_written start (followed_parts names p c ls)
      ∙ ap₂ (λ s t. s ++ t)
      (both_written (blocks_of names p c.objects) (mails_of names c.messages) ∙ ap₂ (λ s t. s ++ t) (blocks_written c.objects) (mails_written c.messages))
      (followed_written c ls))

  -- the parts of lines are those of the first of them, and then those of the others from the configuration to which the first lead
  followed_parted : (c d : Configuration) (front rest : List Line) → run p c (labels front) ≡ Some d
      → followed_parts names p c (front ++ rest) ≡ followed_parts names p c front ++ followed_parts names p d rest
  followed_parted c d [] rest e = ap (λ z. followed_parts names p z rest) (same_some e)
  followed_parted c d (l ∷ ls) rest e =
      let a = through p c d (labels_of l) (labels ls) e in
      let head = Other (told_line names l) in
      let shown = changed names p l a.0 in
      rw a.1
      (ap (λ xs. head ∷ (shown ++ xs)) (followed_parted a.0 d ls rest a.2)
      ∙ ap (λ xs. head ∷ xs) (sym (append_assoc shown (followed_parts names p a.0 ls) (followed_parts names p d rest))))

  pub watched_parted : (c d : Configuration) (front rest : List Line) → run p c (labels front) ≡ Some d
      → watched_parts names p c (front ++ rest) ≡ watched_parts names p c front ++ followed_parts names p d rest
  watched_parted c d front rest e =
      let start = blocks_of names p c.objects ++ mails_of names c.messages in
      ap (λ xs. Other (line (codes "watch" ∷ [])) ∷ xs)
      (ap (λ xs. start ++ xs) (followed_parted c d front rest e) ∙ sym (append_assoc start (followed_parts names p c front) (followed_parts names p d rest)))
