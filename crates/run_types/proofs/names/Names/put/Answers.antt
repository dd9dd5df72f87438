use Rattle.std.proofs.Common.{sym, subst}
use Rattle.run_types.proofs.Texts.{IsSound, texts_of, texts_of-put, place-put, sound-put}
use Rattle.run_types.proofs.names.Names.put.Goals as goal
use Rattle.run_types.proofs.names.Names.put.Goals.{in-Ok, in-Err}

-- src/names.rt:57:5
pub invariant_of-self : goal.invariant_of-self
invariant_of-self c = elim c.match-insert_full.branch [
  | in-Ok w ↦
      let e = texts_of-put c.self.inside.texts.keys c.insert_full.new.self.keys c.args.self.now c.args.text c.self.view_is c.requires.new w.in-Ok.ensures.keys in
      sound-put c.self.inside.texts.keys c.insert_full.new.self.keys c.args.self.now c.args.text c.self.view_is c.self.invariant c.requires.room c.requires.new e
  | in-Err w ↦ subst (λ keys. IsSound (texts_of keys)) (sym w.in-Err.ensures.err) c.self.invariant
]

pub returns-clause-names : goal.returns-clause-names
returns-clause-names c = elim c.match-insert_full.branch [
  | in-Ok w ↦
      let e = texts_of-put c.self.inside.texts.keys c.insert_full.new.self.keys c.args.self.now c.args.text c.self.view_is c.requires.new w.in-Ok.ensures.keys in
      rw w.result-is e
  | in-Err w ↦ rw w.result-is tt
]

pub returns-clause-place : goal.returns-clause-place
returns-clause-place c = elim c.match-insert_full.branch [
  | in-Ok w ↦ rw w.result-is (place-put c.self.inside.texts.keys c.args.self.now c.args.text w.in-Ok.place c.self.view_is c.requires.new w.in-Ok.ensures.index)
  | in-Err w ↦ rw w.result-is tt
]
