-- A cursor over a table laid over another is the paper's trie iterator over the rows that count: for any sequence of calls from the root the answers are the
-- same, none is a refusal, and the pair stands where the iterator does.
use Prim.Native.Nat.{ℕ}
use mathlib.Core.Path.{◌≡◌, refl, ap₂}
use mathlib.Core.List.{List, [], ◌∷◌}
use Rattle.relation.specs.Order.{Row}
use Rattle.column_trie.specs.Table.{rows_in}
use Rattle.column_trie.specs.declared.ColumnTrie.{ColumnTrie}
use Rattle.column_trie.proofs.Damage.{undamaged_told}
use Rattle.laid_over.proofs.Shape.{shape_decides}
use Rattle.trie_iterator.specs.TrieIterator.{State, root, Call, Key, Next, AtEnd, Open, Up, Seek, Answer, after, answers, follow}
use Rattle.trie_iterator.specs.Cursor.{Layered, at_the_root}
use Rattle.trie_iterator.proofs.Held.{undamaged_layered}
use Rattle.overlay_checks.specs.Tables.{tables_number}
use Rattle.overlay_checks.proofs.Tables.{number_clear}
use Rattle.overlay.specs.Laid.{laid}
use Rattle.laid_iter.specs.Cursors.{root_pair}
use Rattle.laid_iter.specs.declared.LaidIter.{LaidIter}
use Rattle.overlay_walk.specs.Pair.{pair, at_top}
use Rattle.overlay_walk.specs.Walk.{laid_heard, laid_moved, laid_heard_all, laid_moved_all, LaidStands, LaidFollows}
use Rattle.overlay_walk.proofs.Walking.{Goes, key_goes, end_goes, next_goes, seek_goes, open_goes, up_goes}

module _ {sp : List ℕ} {s : ColumnTrie} {mp : List ℕ} {m : ColumnTrie} {school maker : List Row} (H : Layered sp s school) (G : Layered mp m maker) (same : s.arity ≡ m.arity) (clear : tables_number sp s mp m ≡ 0) where
  -- any call
  pub each_call : {u : State} (it : LaidIter) → LaidStands s m school maker u it → (c : Call) → Goes s m school maker u c (laid_heard sp s mp m it c) (laid_moved sp s mp m it c)
  each_call it l Key = key_goes H G same clear it l
  each_call it l Next = next_goes H G same clear it l
  each_call it l AtEnd = end_goes H G same clear it l
  each_call it l Open = open_goes H G same clear it l
  each_call it l Up = up_goes H G same clear it l
  each_call it l (Seek x target) = seek_goes H G same clear it x target l

  -- any sequence of calls, from any state
  pub follows : {u : State} (it : LaidIter) → LaidStands s m school maker u it → (cs : List Call) → LaidFollows sp s mp m school maker u it cs
  unfolding laid_heard_all laid_moved_all answers follow
  follows it l [] = record { answers = refl; stands = l }
  follows {u = u} it l (c ∷ cs) =
      let g = each_call it l c in
      let f = follows {u = after s.arity (laid school maker) u c} (laid_moved sp s mp m it c) g.stands cs in
      record { answers = ap₂ {C = List Answer} (λ x xs. x ∷ xs) g.answers f.answers; stands = f.stands }

-- where the two tables are not refused, from the root, by any sequence of calls
pub a_laid_over_cursor_moves_as_the_trie_iterator_over_the_rows_that_count :
    (sp : List ℕ) (s : ColumnTrie) (mp : List ℕ) (m : ColumnTrie) → tables_number sp s mp m ≡ 0 → (cs : List Call) → LaidFollows sp s mp m (rows_in sp s) (rows_in mp m) root root_pair cs
a_laid_over_cursor_moves_as_the_trie_iterator_over_the_rows_that_count sp s mp m clear cs =
    let c = number_clear sp s mp m clear in
    follows (undamaged_layered (undamaged_told sp s c.school)) (undamaged_layered (undamaged_told mp m c.maker)) ((shape_decides s m).0 c.shape).arity clear root_pair
    (record { states = pair root root; of_school = at_the_root refl; of_maker = at_the_root refl; together = at_top }) cs
