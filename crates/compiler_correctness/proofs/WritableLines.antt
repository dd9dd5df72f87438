-- The lines of a record that is read back can be written: each name in them is a name of at most 64 bytes, or a string of at most 256.
use Rattle.std.proofs.Common.{◌≡◌, ◌≤◌, ℕ, List, [], ◌∷◌, length, arith, ◌&&◌, true}
use Rattle.std.specs.Prelude.{is_none, nat_le}
use Rattle.std.specs.List.{AllByRecursion}
use Rattle.std.proofs.lemmas.Bool.Decides.{nat_tests}
use Rattle.text_scan.specs.Text.{Text, is_word, lookup}
use Rattle.text_scan.specs.Keywords.{keywords}
use Rattle.run_types.specs.declared.types.NameId.{NameId}
use Rattle.run_types.specs.declared.types.Item.TheVariants as It
use Rattle.run_types.specs.declared.types.Label.{Label}
use Rattle.run_types.specs.declared.types.Label.TheVariants as L
use Rattle.run_types.specs.declared.types.What.{What}
use Rattle.run_types.specs.declared.types.What.TheVariants as W
use Rattle.run_types.specs.declared.types.Line.{Line}
use Rattle.run_types.specs.declared.types.Line.TheVariants as R
use Rattle.run_types.proofs.Laws.{first, second}
use Rattle.record_parser.specs.Fields.{is_name}
use Rattle.record_writer.specs.RecordText.{text_at}
use Rattle.record_writer.specs.Writable.{AreShort, IsShort, IsWritable, id_of_label, id_of_what}
use Rattle.run_record.specs.Readable.{IsNamed, IsReadableStep, IsReadableWhat, IsRecordFrom}

name_short : (w : Text) → is_name w ≡ true → length w ≤ 256
name_short w h =
    let a = first (is_word w && nat_le (length w) 64) (is_none (lookup keywords w)) h in
    let b : nat_le (length w) 64 ≡ true = second (is_word w) (nat_le (length w) 64) a in
    let c : length w ≤ 64 = grind (arith, nat_tests, b) in omega (arith, c)

module _ (names : List Text) where
  named_short : (id : NameId) → IsNamed names id → IsShort names id
  named_short id h = (h.0, name_short (text_at names id) h.1)

  step_writable : (lab : Label) (times : ℕ) → IsReadableStep names lab times → AreShort names (id_of_label lab)
  step_writable (L.Local o) times h = tt
  step_writable (L.New o p c) times h = named_short c h.2
  step_writable (L.Answer p o m args) times h = named_short m h.0.2
  step_writable (L.Return p o v) times h = tt
  step_writable (L.Send o p m args) times h = named_short m h.0.2
  step_writable (L.Take p o m args) times h = named_short m h.0.2
  step_writable (L.Write o (It.Value v)) times h = tt
  step_writable (L.Write o (It.Text id)) times h = (h.1.0, h.1.1)
  step_writable (L.Pick o i) times h = tt
  step_writable (L.Fault o e) times h = tt

  what_writable : (what : What) → IsReadableWhat names what → AreShort names (id_of_what what)
  what_writable (W.Step lab times) h = step_writable lab times h
  what_writable (W.PostCreate o c n) h = named_short c h.1
  what_writable (W.PostCall o p m args) h = named_short m h.2
  what_writable (W.Arrive o p m) h = named_short m h.2
  what_writable (W.Created o p) h = tt
  what_writable (W.Result o v) h = tt
  what_writable W.Pass h = tt
  what_writable W.Idle h = tt
  what_writable (W.Frame n) h = tt
  what_writable (W.Lost n) h = tt
  what_writable (W.Stale n) h = tt
  what_writable (W.Acked n) h = tt
  what_writable (W.Late n) h = tt

  pub record_writable : (last : ℕ) (ls : List Line) → IsRecordFrom names last ls → AllByRecursion (IsWritable names) ls
  record_writable last [] h = absurd h
  record_writable last (R.Event n e what ∷ ls) h = (what_writable what h.3, record_writable n ls h.4)
  record_writable last (R.End end ∷ []) h = (tt, tt)
  record_writable last (R.End end ∷ l ∷ ls) h = absurd h
