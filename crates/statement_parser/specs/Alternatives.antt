-- The tree that an alternative of the code represents, in the terms of the grammar.
use Rattle.pool_syntax.specs.declared.tree.Alt.{Alt}
use Rattle.pool_grammar.specs.Rules.{OneAlternative}
use Rattle.pool_syntax.specs.TreeOf.{expression_of, statements_of}

-- the tree of an alternative of the code
abbrev pub alternative_of : Alt → OneAlternative
alternative_of a = (expression_of a.guard, a.answer, statements_of a.work)
