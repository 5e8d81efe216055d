-- A cursor on an undamaged table is the paper's trie iterator over the table's rows: for any sequence of calls from the root the answers are the
-- same, and the cursor stands where the iterator does. Each call by itself, and what follows for up and seek, stand beside it.
use Prim.Native.Nat.{ℕ, ◌+◌}
use mathlib.Core.Path.{◌≡◌, refl, sym, ap, ap₂, ◌∙◌, subst}
use mathlib.Core.Bool.{Bool, true, false, false≢true}
use mathlib.Core.List.{List, [], ◌∷◌}
use native.Mathlib.Omega.{arith}
use lib.ListN.{length}
use lib.Dec.{ltb, eqb}
use Rattle.relation.specs.Order.{Row, pick}
use Rattle.relation.specs.Lists.{◌∈◌, hd, tl, not_in_nil}
use Rattle.relation.specs.Exactly.{Exactly}
use Rattle.relation.proofs.Lists.{get_or_in, in_get_or}
use Rattle.relation.specs.Layers.{keys_under}
use Rattle.relation.specs.Runs.{from}
use Rattle.relation.proofs.Tests.{not_both}
use Rattle.column_trie.specs.Table.{Undamaged, rows_in}
use Rattle.column_trie.specs.declared.ColumnTrie.{ColumnTrie}
use Rattle.column_trie_place.specs.Checks.{at_root, past}
use Rattle.column_trie_iter.specs.Cursor.{sought_of, seek_in, open_of, up_of}
use Rattle.column_trie_place.specs.declared.ColumnTrieIter.{ColumnTrieIter}
use Rattle.column_trie_iter.specs.declared.SeekAnswer.{SeekAnswer}
use Rattle.column_trie_iter.proofs.Seeks.{nonempty_drop}
use Rattle.seek.specs.Seek.{seek_of}
use Rattle.seek.specs.Offset.{NonFalling, Leading}
use Rattle.seek.specs.declared.SeekStrategy.{SeekStrategy}
use Rattle.seek.proofs.Laws.{leading_one, a_hit_is_a_key, a_key_is_hit}
use Rattle.trie_iterator.specs.TrieIterator.{State, root, level, left, tail, path, opens, Call, Key, Next, AtEnd, Open, Up, Seek, among_siblings, Answer, says, refused, answer, after, answers, follow}
use Rattle.trie_iterator.specs.Cursor.{heard, moved, heard_all, moved_all, Layered, Stands, at_the_root, at_level, Follows, Stopped}
use Rattle.trie_iterator.proofs.Held.{undamaged_layered}
use Rattle.trie_iterator.proofs.Standing.{seek_is}
use Rattle.trie_iterator.proofs.Moving.{key_answers, end_answers, next_answers, next_stands, left_rises, seek_leads, seek_answers, seek_stands, open_answers, open_stands, up_returns, up_answers, up_stands}

module _ {pool : List ℕ} {t : ColumnTrie} {rows : List Row} (H : Layered pool t rows) where
  -- ---- any call

  pub same_answer : {s : State} {it : ColumnTrieIter} → Stands t.arity rows s it → (c : Call) → heard pool t it c ≡ answer t.arity rows s c
  same_answer w Key = key_answers H w
  same_answer w Next = next_answers H w
  same_answer w AtEnd = end_answers H w
  same_answer w Open = open_answers H w
  same_answer w Up = up_answers H w
  same_answer w (Seek x target) = seek_answers H w x target

  pub same_place : {s : State} {it : ColumnTrieIter} → Stands t.arity rows s it → (c : Call) → Stands t.arity rows (after t.arity rows s c) (moved pool t it c)
  same_place w Key = w
  same_place w Next = next_stands H w
  same_place w AtEnd = w
  same_place w Open = open_stands H w
  same_place w Up = up_stands H w
  same_place w (Seek x target) = seek_stands H w x target

  -- ---- any sequence of calls

  pub follows : {s : State} {it : ColumnTrieIter} → Stands t.arity rows s it → (cs : List Call) → Follows pool t rows s it cs
  unfolding heard_all moved_all answers follow
  follows w [] = record { answers = refl; stands = w }
  follows {s = s} {it = it} w (c ∷ cs) =
      let f = follows {s = after t.arity rows s c} (same_place w c) cs in
      record { answers = ap₂ {C = List Answer} (λ x xs. x ∷ xs) (same_answer w c) f.answers; stands = f.stands }

  -- ---- up and seek

  -- a cursor that stands below a place goes up to the very cursor that stands there, and so to its key
  pub up_returns_to_the_key_that_open_left : {s : State} {it : ColumnTrieIter} → Stands t.arity rows s it → {ks : List ℕ} {it' : ColumnTrieIter} → Stands t.arity rows (level ks s) it' → up_of pool t it' ≡ record { number = 0; risen = true; iter = it }
  up_returns_to_the_key_that_open_left w (at_level v b) = up_returns H w b

  pub a_seek_stops_at_the_first_key_not_below : {s : State} {it : ColumnTrieIter} → Stands t.arity rows s it → (x : SeekStrategy) (target : ℕ) → Stopped (left s) target it (sought_of pool t it x target)
  a_seek_stops_at_the_first_key_not_below {s} {it} w x target = subst (Stopped (left s) target it) (sym (seek_is H w x target)) (go (left s) (seek_leads H w x target))
    where
      go : (ks : List ℕ) → Leading ks target (seek_of x ks target).offset → Stopped ks target it (seek_in x target it ks)
      go [] l =
          let z : it.slice_offset ≡ it.slice_offset + 0 = omega arith in
          record {
            passed = 0;
            leads = record { inside = omega arith; before = λ k h. absurd (omega arith); stops = λ h. absurd (omega arith) };
            number = refl;
            found = refl;
            iter = λ j. record { depth = it.depth; interval_i = it.interval_i; slice_offset = z j };
          }
      go (k ∷ ks) l =
          record { passed = (seek_of x (k ∷ ks) target).offset; leads = l; number = refl; found = sym (nonempty_drop (k ∷ ks) (seek_of x (k ∷ ks) target).offset); iter = refl }

  -- the strategies differ in their probes alone
  pub seeks_agree : {s : State} {it : ColumnTrieIter} → Stands t.arity rows s it → (x y : SeekStrategy) (target : ℕ) → ((sought_of pool t it x target).found ≡ (sought_of pool t it y target).found) × ((sought_of pool t it x target).iter ≡ (sought_of pool t it y target).iter)
  seeks_agree {s} {it} w x y target =
      let p = a_seek_stops_at_the_first_key_not_below w x target in
      let q = a_seek_stops_at_the_first_key_not_below w y target in
      let e : p.passed ≡ q.passed = leading_one (left s) target p.passed q.passed p.leads q.leads in
      (p.found ∙ ap (λ (n : ℕ). ltb n (length (left s))) e ∙ sym q.found, p.iter ∙ ap (past it) e ∙ sym q.iter)

  -- it hits exactly when its target is one of the keys not yet passed, so under every strategy alike
  pub a_seek_hits_exactly_the_keys_not_yet_passed : {s : State} {it : ColumnTrieIter} → Stands t.arity rows s it → (x : SeekStrategy) (target : ℕ) → Exactly ((sought_of pool t it x target).hit ≡ true) (target ∈ left s)
  a_seek_hits_exactly_the_keys_not_yet_passed {s} {it} w x target = subst (λ (y : SeekAnswer). Exactly (y.hit ≡ true) (target ∈ left s)) (sym (seek_is H w x target)) (go (left s) (left_rises H w))
    where
      go : (ks : List ℕ) → NonFalling ks → Exactly ((seek_in x target it ks).hit ≡ true) (target ∈ ks)
      go [] r = (λ e. absurd (false≢true e), λ m. absurd (not_in_nil m))
      go (k ∷ ks) r =
          (λ e. let h = a_hit_is_a_key x (k ∷ ks) target e in subst (λ (y : ℕ). y ∈ (k ∷ ks)) h.there (get_or_in (k ∷ ks) h.place 0 h.inside), λ m. let p = in_get_or 0 m in a_key_is_hit x (k ∷ ks) target r (record { place = p.0; inside = p.1; there = p.2 }))

  -- calls among the siblings leave the cursor below the same place
  along : {s : State} {ks : List ℕ} {it : ColumnTrieIter} → Stands t.arity rows (level ks s) it → (ds : List Call) → ((c : Call) → c ∈ ds → among_siblings c ≡ true) → (js : List ℕ) × Stands t.arity rows (level js s) (moved_all pool t it ds)
  unfolding moved_all
  along {ks = ks} w [] f = (ks, w)
  along {s = s} {ks = ks} {it = it} w (Key ∷ ds) f = along {s = s} {ks = ks} {it = moved pool t it Key} (same_place w Key) ds (λ c m. f c (tl m))
  along {s = s} {ks = ks} {it = it} w (Next ∷ ds) f = along {s = s} {ks = tail ks} {it = moved pool t it Next} (same_place w Next) ds (λ c m. f c (tl m))
  along {s = s} {ks = ks} {it = it} w (AtEnd ∷ ds) f = along {s = s} {ks = ks} {it = moved pool t it AtEnd} (same_place w AtEnd) ds (λ c m. f c (tl m))
  along w (Open ∷ ds) f = not_both false (f Open (hd refl)) refl
  along w (Up ∷ ds) f = not_both false (f Up (hd refl)) refl
  along {s = s} {ks = ks} {it = it} w (Seek x target ∷ ds) f = along {s = s} {ks = from target ks} {it = moved pool t it (Seek x target)} (same_place w (Seek x target)) ds (λ c m. f c (tl m))

  -- an open that said yes went down
  opened_stands : {s : State} {it : ColumnTrieIter} → Stands t.arity rows s it → (open_of pool t it).opened ≡ true → Stands t.arity rows (level (keys_under (path s) rows) s) (open_of pool t it).iter
  opened_stands {s} {it} w y =
      subst (λ (b : Bool). Stands t.arity rows (pick b (level (keys_under (path s) rows) s) s) (open_of pool t it).iter) (opens_so (eqb (open_of pool t it).number 0) (open_answers H w))
      (open_stands H w)
    where
      opens_so : (b : Bool) → pick b (says (open_of pool t it).opened) (refused (open_of pool t it).number) ≡ says (opens t.arity rows s) → opens t.arity rows s ≡ true
      opens_so true e = cc
      opens_so false e = let z : ◌≡◌ {A = ℕ} 0 1 = cc in absurd (omega arith)

-- ---- on an undamaged table, from the root, by any sequence of calls

pub a_cursor_moves_as_the_trie_iterator : {pool : List ℕ} {t : ColumnTrie} → Undamaged pool t → (cs : List Call) → Follows pool t (rows_in pool t) root at_root cs
a_cursor_moves_as_the_trie_iterator u cs = follows (undamaged_layered u) (at_the_root refl) cs

module _ {pool : List ℕ} {t : ColumnTrie} (u : Undamaged pool t) (cs : List Call) where
  -- the cursor that they leave
  abbrev cursor : ColumnTrieIter
  cursor = moved_all pool t at_root cs

  pub a_seek_after_any_calls_stops_at_the_first_key_not_below : (x : SeekStrategy) (target : ℕ) → Stopped (left (follow t.arity (rows_in pool t) root cs)) target cursor (sought_of pool t cursor x target)
  a_seek_after_any_calls_stops_at_the_first_key_not_below = a_seek_stops_at_the_first_key_not_below (undamaged_layered u) (a_cursor_moves_as_the_trie_iterator u cs).stands

  pub a_seek_after_any_calls_hits_exactly_the_keys_not_yet_passed : (x : SeekStrategy) (target : ℕ) → Exactly ((sought_of pool t cursor x target).hit ≡ true) (target ∈ left (follow t.arity (rows_in pool t) root cs))
  a_seek_after_any_calls_hits_exactly_the_keys_not_yet_passed = a_seek_hits_exactly_the_keys_not_yet_passed (undamaged_layered u) (a_cursor_moves_as_the_trie_iterator u cs).stands

  -- an open that says yes, any calls among the siblings there, and up: the very cursor that was opened, so its key
  pub up_after_any_calls_returns_to_the_cursor_that_open_left :
      (open_of pool t cursor).opened ≡ true → (ds : List Call) → ((c : Call) → c ∈ ds → among_siblings c ≡ true) →
      up_of pool t (moved_all pool t (open_of pool t cursor).iter ds) ≡ record { number = 0; risen = true; iter = cursor }
  up_after_any_calls_returns_to_the_cursor_that_open_left y ds f =
      let H = undamaged_layered u in
      let w = (a_cursor_moves_as_the_trie_iterator u cs).stands in
      up_returns_to_the_key_that_open_left H w (along H (opened_stands H w y) ds f).1
