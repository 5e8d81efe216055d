-- Of theorems: a cursor over a table laid over another as the trie iterator over the rows that count: its answers, and when it stands at a state of the iterator.
use Rattle.std.specs.Prelude.{ℕ, ◌≡◌, List, [], ◌∷◌}
use Rattle.relation.specs.Order.{Row, pick}
use Rattle.column_trie.specs.declared.ColumnTrie.{ColumnTrie}
use Rattle.column_trie_place.specs.Checks.{unless}
use Rattle.trie_iterator.specs.TrieIterator.{State, Call, Key, Next, AtEnd, Open, Up, Seek, Answer, shows, none, says, refused, answers, follow}
use Rattle.trie_iterator.specs.Cursor.{of_key, of_end, Stands}
use Rattle.overlay.specs.Laid.{laid}
use Rattle.laid_iter.specs.declared.LaidIter.{LaidIter}
use Rattle.overlay_iter.specs.Calls.{laid_key_of, laid_end_of, laid_next_of, laid_sought_of, laid_open_of, laid_up_of}
use Rattle.overlay_iter.specs.declared.LaidNextAnswer.{LaidNextAnswer}
use Rattle.overlay_iter.specs.declared.LaidSeekAnswer.{LaidSeekAnswer}
use Rattle.overlay_iter.specs.declared.LaidOpenAnswer.{LaidOpenAnswer}
use Rattle.overlay_iter.specs.declared.LaidUpAnswer.{LaidUpAnswer}
use Rattle.overlay_walk.specs.Pair.{Pair, StandsFor}

-- ---- the answers

abbrev pub of_laid_next : LaidNextAnswer → Answer
of_laid_next r = unless r.number refused (pick r.found (shows r.key) none)

abbrev pub of_laid_seek : LaidSeekAnswer → Answer
of_laid_seek r = unless r.number refused (says r.found)

abbrev pub of_laid_open : LaidOpenAnswer → Answer
of_laid_open r = unless r.number refused (says r.opened)

abbrev pub of_laid_up : LaidUpAnswer → Answer
of_laid_up r = unless r.number refused (says r.risen)

module _ (sp : List ℕ) (s : ColumnTrie) (mp : List ℕ) (m : ColumnTrie) where
  abbrev pub laid_heard : LaidIter → Call → Answer
  laid_heard it Key = of_key (laid_key_of sp s mp m it)
  laid_heard it Next = of_laid_next (laid_next_of sp s mp m it)
  laid_heard it AtEnd = of_end (laid_end_of sp s mp m it)
  laid_heard it Open = of_laid_open (laid_open_of sp s mp m it)
  laid_heard it Up = of_laid_up (laid_up_of sp s mp m it)
  laid_heard it (Seek x target) = of_laid_seek (laid_sought_of sp s mp m it x target)

  abbrev pub laid_moved : LaidIter → Call → LaidIter
  laid_moved it Key = it
  laid_moved it Next = (laid_next_of sp s mp m it).iter
  laid_moved it AtEnd = it
  laid_moved it Open = (laid_open_of sp s mp m it).iter
  laid_moved it Up = (laid_up_of sp s mp m it).iter
  laid_moved it (Seek x target) = (laid_sought_of sp s mp m it x target).iter

  -- a sequence of calls: all answers, and the pair that comes back
  unfoldable pub laid_heard_all : LaidIter → List Call → List Answer
  laid_heard_all it [] = []
  laid_heard_all it (c ∷ cs) = laid_heard it c ∷ laid_heard_all (laid_moved it c) cs

  unfoldable pub laid_moved_all : LaidIter → List Call → LaidIter
  laid_moved_all it [] = it
  laid_moved_all it (c ∷ cs) = laid_moved_all (laid_moved it c) cs

-- ---- where a pair of cursors stands

-- each cursor stands at a state of its own table's iterator, and the two states are a pair that stands for the state u of the iterator over the rows that count
pub record LaidStands (s m : ColumnTrie) (school maker : List Row) (u : State) (it : LaidIter) : Type 0 where
  pub states : Pair
  pub of_school : Stands s.arity school states.school it.school
  pub of_maker : Stands m.arity maker states.maker it.maker
  pub together : StandsFor s.arity school maker u states

-- After a sequence of calls, made of the pair and of the iterator over the rows that count: the same answers, and the pair stands where the iterator does.
pub record LaidFollows (sp : List ℕ) (s : ColumnTrie) (mp : List ℕ) (m : ColumnTrie) (school maker : List Row) (u : State) (it : LaidIter) (cs : List Call) : Type 0 where
  pub answers : laid_heard_all sp s mp m it cs ≡ answers s.arity (laid school maker) u cs
  pub stands : LaidStands s m school maker (follow s.arity (laid school maker) u cs) (laid_moved_all sp s mp m it cs)
