-- Of theorems: a cursor as the trie iterator: its answers, and when it stands at a state of the iterator.
use Rattle.std.specs.Prelude.{ℕ, suc, ◌≤◌, ◌<◌, ◌≡◌, true, List, [], ◌∷◌, length, get_or, drop, ltb}
use Rattle.seek.specs.Offset.{Leading}
use Rattle.relation.specs.Order.{Row, pick}
use Rattle.relation.specs.Rows.{Asc, Width}
use Rattle.relation.specs.Layers.{prefixes, keys_under, layer_at}
use Rattle.column_trie.specs.Table.{header_sound, layer_in}
use Rattle.column_trie.specs.declared.ColumnTrie.{ColumnTrie}
use Rattle.column_trie_place.specs.Checks.{at_root, past, unless}
use Rattle.column_trie_iter.specs.Cursor.{key_of, next_of, sought_of, end_of, open_of, up_of}
use Rattle.column_trie_place.specs.declared.ColumnTrieIter.{ColumnTrieIter}
use Rattle.column_trie_iter.specs.declared.KeyAnswer.{KeyAnswer}
use Rattle.column_trie_iter.specs.declared.NextAnswer.{NextAnswer}
use Rattle.column_trie_iter.specs.declared.SeekAnswer.{SeekAnswer}
use Rattle.column_trie_iter.specs.declared.EndAnswer.{EndAnswer}
use Rattle.column_trie_iter.specs.declared.OpenAnswer.{OpenAnswer}
use Rattle.column_trie_iter.specs.declared.UpAnswer.{UpAnswer}
use Rattle.trie_iterator.specs.TrieIterator.{State, root, level, levels, path, Call, Key, Next, AtEnd, Open, Up, Seek, Answer, shows, none, says, refused, answers, follow}

-- ---- a cursor's answers

abbrev pub of_key : KeyAnswer → Answer
of_key r = unless r.number refused (pick r.found (shows r.key) none)

abbrev pub of_next : NextAnswer → Answer
of_next r = unless r.number refused (pick r.found (shows r.key) none)

abbrev pub of_seek : SeekAnswer → Answer
of_seek r = unless r.number refused (says r.found)

abbrev pub of_end : EndAnswer → Answer
of_end r = unless r.number refused (says r.at_end)

abbrev pub of_open : OpenAnswer → Answer
of_open r = unless r.number refused (says r.opened)

abbrev pub of_up : UpAnswer → Answer
of_up r = unless r.number refused (says r.risen)

abbrev pub heard : List ℕ → ColumnTrie → ColumnTrieIter → Call → Answer
heard pool t it Key = of_key (key_of pool t it)
heard pool t it Next = of_next (next_of pool t it)
heard pool t it AtEnd = of_end (end_of pool t it)
heard pool t it Open = of_open (open_of pool t it)
heard pool t it Up = of_up (up_of pool t it)
heard pool t it (Seek s target) = of_seek (sought_of pool t it s target)

abbrev pub moved : List ℕ → ColumnTrie → ColumnTrieIter → Call → ColumnTrieIter
moved pool t it Key = it
moved pool t it Next = (next_of pool t it).iter
moved pool t it AtEnd = it
moved pool t it Open = (open_of pool t it).iter
moved pool t it Up = (up_of pool t it).iter
moved pool t it (Seek s target) = (sought_of pool t it s target).iter

-- a sequence of calls: all answers, and the cursor that comes back
unfoldable pub heard_all : List ℕ → ColumnTrie → ColumnTrieIter → List Call → List Answer
heard_all pool t it [] = []
heard_all pool t it (c ∷ cs) = heard pool t it c ∷ heard_all pool t (moved pool t it c) cs

unfoldable pub moved_all : List ℕ → ColumnTrie → ColumnTrieIter → List Call → ColumnTrieIter
moved_all pool t it [] = it
moved_all pool t it (c ∷ cs) = moved_all pool t (moved pool t it c) cs

-- ---- where a cursor stands

-- the table's words hold the layers of the rows, a relation
pub record Layered (pool : List ℕ) (t : ColumnTrie) (rows : List Row) : Type 0 where
  pub sound : header_sound (length pool) t ≡ true
  pub asc : Asc rows
  pub width : Width t.arity rows
  pub layers : (d : ℕ) → d < t.arity → layer_in pool t d ≡ layer_at d rows

-- A cursor below the place `above`, with the siblings ks left: its interval index is the place of the keys above among the beginnings of that many
-- words, and its offset the number of siblings passed.
pub record Below (a : ℕ) (rows : List Row) (above : State) (ks : List ℕ) (it : ColumnTrieIter) : Type 0 where
  pub deep : levels above < a
  pub depth : it.depth ≡ suc (levels above)
  pub known : it.interval_i < length (prefixes (levels above) rows)
  pub under : get_or (prefixes (levels above) rows) it.interval_i [] ≡ path above
  pub inside : it.slice_offset ≤ length (keys_under (path above) rows)
  pub rest : drop it.slice_offset (keys_under (path above) rows) ≡ ks

-- A cursor stands at a state: at the root, or else it is below the place above, at which some cursor, its parent, stands.
pub data Stands (a : ℕ) (rows : List Row) : State → ColumnTrieIter → Type 0 where
  at_the_root : {it : ColumnTrieIter} → it ≡ at_root → Stands a rows root it
  at_level : {above : State} {ks : List ℕ} {parent it : ColumnTrieIter} → Stands a rows above parent → Below a rows above ks it → Stands a rows (level ks above) it

-- After a sequence of calls, made of the cursor and of the iterator over the rows: the same answers, and the cursor stands where the iterator does.
pub record Follows (pool : List ℕ) (t : ColumnTrie) (rows : List Row) (s : State) (it : ColumnTrieIter) (cs : List Call) : Type 0 where
  pub answers : heard_all pool t it cs ≡ answers t.arity rows s cs
  pub stands : Stands t.arity rows (follow t.arity rows s cs) (moved_all pool t it cs)

-- A seek among the siblings ks: not refused, it has passed those that are below the target and stands on the first that is not, or at the end.
pub record Stopped (ks : List ℕ) (target : ℕ) (it : ColumnTrieIter) (r : SeekAnswer) : Type 0 where
  pub passed : ℕ
  pub leads : Leading ks target passed
  pub number : r.number ≡ 0
  pub found : r.found ≡ ltb passed (length ks)
  pub iter : r.iter ≡ past it passed
