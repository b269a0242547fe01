use mathlib.Core.Path.{sym}
use native.Mathlib.Omega.{arith}
use borrow.Author.Tests.{eq-eqb}
use Rattle.counters.proofs.WordLaws.{length-words_of, words-whole}
use Rattle.counter_records.proofs.RecordsTransitions.is_whole.Goals as goal

pub returns-clause-whole : goal.returns-clause-whole
returns-clause-whole c = sym (eq-eqb _ 0 (words-whole c.args.self.0.now))

pub returns-clause-short : goal.returns-clause-short
returns-clause-short c = omega (arith, length-words_of c.args.self.0.now)
