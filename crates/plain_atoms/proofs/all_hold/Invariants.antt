-- `all_hold` meets its contract: the atoms passed hold, so whether those left do is the answer. One that is not complete with v is not looked at, and of one that is, the word is
-- sought among the keys (Searching.antt).
use mathlib.Core.Path.{◌≡◌}
use lib.ListN.{drop}
use Rattle.join_query.specs.Query.{atoms_of}
use Rattle.plain.specs.Plain.{all_hold}
use Rattle.plain_atoms.proofs.all_hold.Given as goal

abbrev pub invariant-loop-i : goal.invariant-loop-i
invariant-loop-i l = all_hold l.v l.row (drop l.i (atoms_of l.asked.pool.now l.asked.tables.now l.asked.query.now)) ≡ all_hold l.v l.row (drop l.from (atoms_of l.asked.pool.now l.asked.tables.now l.asked.query.now))
