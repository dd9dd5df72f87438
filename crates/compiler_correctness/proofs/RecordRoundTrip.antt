-- The written record of a program is read back: its table of names has no duplicate.
use Rattle.std.proofs.Common.{◌≡◌, refl, sym, ap, subst, ◌∙◌, List, [], ◌∷◌, ◌++◌, Option, Some, None, Bool, true, false}
use Rattle.std.specs.Prelude.{◌&&◌, ◌||◌, not, bytes_eq}
use Rattle.std.proofs.lemmas.Slice.Eq.{bytes_eq-Decides}
use Rattle.run_types.specs.declared.types.Line.{Line}
use Rattle.run_types.specs.Table.{is_among, is_distinct, with_text}
use Rattle.text_scan.specs.Text.{Text}
use Rattle.pool_syntax.specs.Tokens.{kept_text, texts_after}
use Rattle.pool_syntax.specs.Terms.{ProgramTree}
use Rattle.pool_grammar.specs.Programs.{IsParsed}
use Rattle.run_record.specs.Numbered.{lines_after}
use Rattle.run_record.specs.Readable.{IsRecord}
use Rattle.compiler_correctness.specs.ReadsBack.{ReadsBack}
use Rattle.run_record.proofs.Laws.{lines_back, record_placed, text_read, text2_read}

or_false : (a b : Bool) → (a || b) ≡ false → (a ≡ false) × (b ≡ false)
or_false true b h = absurd (let z : true ≡ false = h in cc)
or_false false b h = (refl, h)

not_both : (a b : Bool) → (not a && b) ≡ true → (a ≡ false) × (b ≡ true)
not_both true b h = absurd (let z : false ≡ true = h in cc)
not_both false b h = (refl, h)

differ_back : (x y : Text) → bytes_eq x y ≡ false → bytes_eq y x ≡ false
differ_back x y h = by (bytes_eq y x) refl
  where
    by : (b : Bool) → bytes_eq y x ≡ b → b ≡ false
    by true e = absurd (let z : true ≡ false = sym ((bytes_eq-Decides x y).1 (sym ((bytes_eq-Decides y x).0 e))) ∙ h in cc)
    by false e = refl

not_among : (xs : List Text) (w y : Text) → is_among xs y ≡ false → bytes_eq w y ≡ false → is_among (xs ++ w ∷ []) y ≡ false
not_among [] w y h k = rw k refl
not_among (x ∷ xs) w y h k =
    let t = or_false (bytes_eq x y) (is_among xs y) h in
    let r = not_among xs w y t.1 k in
    rw (t.0) r

distinct_last : (xs : List Text) (w : Text) → is_among xs w ≡ false → is_distinct xs ≡ true → is_distinct (xs ++ w ∷ []) ≡ true
distinct_last [] w h d = refl
distinct_last (x ∷ xs) w h d =
    let t = or_false (bytes_eq x w) (is_among xs w) h in
    let s = not_both (is_among xs x) (is_distinct xs) d in
    let r = distinct_last xs w t.1 s.1 in
    rw (not_among xs w x s.0 (differ_back x w t.0)) r

with_distinct : (names : List Text) (w : Text) → is_distinct names ≡ true → is_distinct (with_text names w) ≡ true
with_distinct names w d = by (is_among names w) refl
  where
    by : (b : Bool) → is_among names w ≡ b → is_distinct (with_text names w) ≡ true
    by true e = subst (λ (b : Bool). is_distinct (elim b as (λ _. List Text) [ true ↦ names | false ↦ names ++ w ∷ [] ]) ≡ true) (sym e) d
    by false e = subst (λ (b : Bool). is_distinct (elim b as (λ _. List Text) [ true ↦ names | false ↦ names ++ w ∷ [] ]) ≡ true) (sym e) (distinct_last names w e d)

after_distinct : (seen : List Text) (ws : List Text) → is_distinct seen ≡ true → is_distinct (texts_after seen ws) ≡ true
after_distinct seen [] d = d
after_distinct seen (w ∷ ws) d = by (kept_text w) refl (λ names h. after_distinct names ws h)
  where
    by : (o : Option Text) → kept_text w ≡ o → ((names : List Text) → is_distinct names ≡ true → is_distinct (texts_after names ws) ≡ true) → is_distinct (texts_after seen (w ∷ ws)) ≡ true
    by None e go = subst (λ (o : Option Text). is_distinct (elim o as (λ _. List Text) [ None ↦ texts_after seen ws | Some x ↦ texts_after (with_text seen x) ws ]) ≡ true) (sym e) (go seen d)
    by (Some x) e go =
        subst (λ (o : Option Text). is_distinct (elim o as (λ _. List Text) [ None ↦ texts_after seen ws | Some x ↦ texts_after (with_text seen x) ws ]) ≡ true) (sym e)
        (go (with_text seen x) (with_distinct seen x d))

-- the table of a parsed program has no text twice
pub parsed_distinct : (s : Text) (names : List Text) (p : ProgramTree) → IsParsed s names p → is_distinct names ≡ true
parsed_distinct s names p h = ap is_distinct (h.1.3) ∙ after_distinct [] h.1.0 refl

-- both texts of a readable record are read as its lines
pub reads_back : (names : List Text) (ls : List Line) → is_distinct names ≡ true → IsRecord names ls → ReadsBack names ls
reads_back names ls distinct h = record {
  faultless = ap (λ r. r.fault) (text_read names ls h);
  lines = ap (λ r. lines_after names r.told) (text_read names ls h) ∙ lines_back names ls distinct (record_placed names 0 ls h);
  faultless2 = ap (λ r. r.fault) (text2_read names ls h);
  lines2 = ap (λ r. lines_after names r.told) (text2_read names ls h) ∙ lines_back names ls distinct (record_placed names 0 ls h);
}
