-- One of the two cursors, on a table that holds a relation, at a state of its trie iterator: what its calls answer, the cursor at depth 1 from which it was
-- opened, and what it has passed there.
use Prim.Native.Nat.{ℕ, zero, suc, ◌-◌, ◌≤◌, ◌<◌}
use mathlib.Core.Path.{◌≡◌, refl, sym, ap, ap₂, ◌∙◌, subst}
use mathlib.Core.Bool.{Bool, true, false}
use mathlib.Core.List.{List, [], ◌∷◌}
use native.Mathlib.Omega.{arith}
use native.Mathlib.Decide.{dec_lt, ℕ_discrete}
use lib.ListN.{get_or, drop}
use lib.Seq.{drop-cons}
use lib.Dec.{eqb, ltb}
use borrow.Author.Tests.{eqb-true, lt-ltb}
use Rattle.relation.specs.Order.{Row, pick}
use Rattle.relation.specs.Lists.{◌∈◌, Ascends, nonempty}
use Rattle.relation.specs.Runs.{from}
use Rattle.relation.specs.Layers.{keys_under}
use Rattle.relation.proofs.Lists.{ascends_head, ascends_tail, get_or_in}
use Rattle.relation.proofs.Runs.{from_in}
use Rattle.query.proofs.Beyond.{keys_ascend}
use Rattle.seek.specs.declared.SeekStrategy.{SeekStrategy}
use Rattle.column_trie.specs.declared.ColumnTrie.{ColumnTrie}
use Rattle.column_trie_place.specs.Checks.{cursor, unless}
use Rattle.column_trie_place.specs.declared.ColumnTrieIter.{ColumnTrieIter}
use Rattle.column_trie_iter.specs.Cursor.{key_in, key_of, sought_of, open_of, up_of}
use Rattle.column_trie_iter.specs.declared.KeyAnswer.{KeyAnswer}
use Rattle.column_trie_iter.specs.declared.UpAnswer.{UpAnswer}
use Rattle.trie_iterator.specs.TrieIterator.{State, root, level, levels, left, go_seek, opens, rises, says, refused}
use Rattle.trie_iterator.specs.Cursor.{Layered, Below, Stands, at_the_root, at_level}
use Rattle.trie_iterator.proofs.Standing.{key_is}
use Rattle.trie_iterator.proofs.Moving.{seek_answers, open_answers, up_returns, up_answers}
use Rattle.overlay_place.specs.Pairs.{ups, climbed, passed_below}
use Rattle.overlay_place.proofs.Tests.{ups_turn, ups_none, climbed_is, passed_none, passed_some}

-- an answer that is a yes or a no was not refused
pub said : (n : ℕ) (b c : Bool) → unless n refused (says b) ≡ says c → (n ≡ 0) × (b ≡ c)
said n b c e = go (eqb n 0) refl e
  where
    go : (d : Bool) → eqb n 0 ≡ d → pick d (says b) (refused n) ≡ says c → (n ≡ 0) × (b ≡ c)
    go true q f = (eqb-true n 0 q, cc)
    go false q f = let z : ◌≡◌ {A = ℕ} 0 1 = cc in absurd (omega arith)

-- the state at depth 1 above one below it
abbrev pub base : State → State
base root = root
base (level ks root) = level ks root
base (level ks (level js above)) = base (level js above)

pub ascends_drop : {xs : List ℕ} (n : ℕ) → Ascends ◌<◌ xs → Ascends ◌<◌ (drop n xs)
ascends_drop zero a = a
ascends_drop {xs = []} (suc n) a = a
ascends_drop {xs = x ∷ xs} (suc n) a = ascends_drop n (ascends_tail a)

module _ {pool : List ℕ} {t : ColumnTrie} {rows : List Row} (H : Layered pool t rows) where
  pub depth_at : {p : State} {it : ColumnTrieIter} → Stands t.arity rows p it → it.depth ≡ levels p
  depth_at (at_the_root e) = ap (λ (x : ColumnTrieIter). x.depth) e
  depth_at (at_level w b) = b.depth

  pub seek_at : {p : State} {it : ColumnTrieIter} → Stands t.arity rows p it → (x : SeekStrategy) (target : ℕ) → ((sought_of pool t it x target).number ≡ 0) × ((sought_of pool t it x target).found ≡ nonempty (left (go_seek target p)))
  seek_at {p} {it} w x target = said (sought_of pool t it x target).number (sought_of pool t it x target).found (nonempty (left (go_seek target p))) (seek_answers H w x target)

  pub open_at : {p : State} {it : ColumnTrieIter} → Stands t.arity rows p it → ((open_of pool t it).number ≡ 0) × ((open_of pool t it).opened ≡ opens t.arity rows p)
  open_at {p} {it} w = said (open_of pool t it).number (open_of pool t it).opened (opens t.arity rows p) (open_answers H w)

  pub up_at : {p : State} {it : ColumnTrieIter} → Stands t.arity rows p it → ((up_of pool t it).number ≡ 0) × ((up_of pool t it).risen ≡ rises p)
  up_at {p} {it} w = said (up_of pool t it).number (up_of pool t it).risen (rises p) (up_answers H w)

  -- ---- up to depth 1

  stays : (it : ColumnTrieIter) → it.depth ≤ 1 → climbed pool t it ≡ it
  stays it h = climbed_is pool t it ∙ sym (ups_none pool t it (it.depth - 1) (omega arith))

  steps : {parent : ColumnTrieIter} (it : ColumnTrieIter) → up_of pool t it ≡ record { number = 0; risen = true; iter = parent } → it.depth ≡ suc parent.depth → 0 < parent.depth → climbed pool t it ≡ climbed pool t parent
  steps {parent} it u d h =
      climbed_is pool t it ∙ sym (ups_turn pool t it (it.depth - 1) (it.depth - 1 - 1) (omega arith)) ∙
      ap₂ {C = ColumnTrieIter} (λ (n : ℕ) (x : UpAnswer). ups n pool t x.iter) (let e : it.depth - 1 - 1 ≡ parent.depth - 1 = omega arith in e) u ∙ sym (climbed_is pool t parent)

  pub climb_stands : {p : State} {it : ColumnTrieIter} → Stands t.arity rows p it → Stands t.arity rows (base p) (climbed pool t it)
  climb_stands (at_the_root {it} e) = subst (Stands t.arity rows root) (sym (stays it (omega (arith, ap (λ (x : ColumnTrieIter). x.depth) e)))) (at_the_root e)
  climb_stands (at_level {above = root} {ks = ks} {it = it} w b) = subst (Stands t.arity rows (level ks root)) (sym (stays it (omega (arith, b.depth)))) (at_level w b)
  climb_stands (at_level {above = level js above} {parent = parent} {it = it} w b) =
      subst (Stands t.arity rows (base (level js above))) (sym (steps it (up_returns H w b) (omega (arith, b.depth, depth_at w)) (omega (arith, depth_at w)))) (climb_stands w)

  -- ---- what is passed at depth 1

  pub before_stands : {ks : List ℕ} {it : ColumnTrieIter} → Below t.arity rows root ks it → 0 < it.slice_offset → Below t.arity rows root (get_or (keys_under [] rows) (it.slice_offset - 1) 0 ∷ ks) (cursor it.depth it.interval_i (it.slice_offset - 1))
  before_stands {ks} {it} b h =
      let o = it.slice_offset - 1 in
      let s : suc o ≡ it.slice_offset = omega arith in
      record {
        deep = b.deep;
        depth = b.depth;
        known = b.known;
        under = b.under;
        inside = omega (arith, b.inside);
        rest = drop-cons (keys_under [] rows) o 0 (omega (arith, b.inside)) ∙ ap (λ (zs : List ℕ). get_or (keys_under [] rows) o 0 ∷ zs) (ap (λ (n : ℕ). drop n (keys_under [] rows)) s ∙ b.rest);
      }

  pub passed_at : {n k : ℕ} {it : ColumnTrieIter} → Stands t.arity rows (level (from n (keys_under [] rows)) root) it → n ≤ k → passed_below pool t it k ≡ true
  passed_at {n} {k} {it} (at_level (at_the_root e) b) l = go (ℕ_discrete it.slice_offset 0)
    where
      go : Dec (it.slice_offset ≡ 0) → passed_below pool t it k ≡ true
      go (yes z) = sym (passed_none pool t it k z)
      go (no z) =
          let o = it.slice_offset - 1 in
          let x = get_or (keys_under [] rows) o 0 in
          let c = before_stands b (omega arith) in
          let i : key_of pool t (cursor it.depth it.interval_i o) ≡ key_in (x ∷ from n (keys_under [] rows)) = key_is H (at_level (at_the_root e) c) in
          let up = subst (Ascends ◌<◌) c.rest (ascends_drop o (keys_ascend [] H.width b.deep)) in
          let f : x < n = below x (get_or_in (keys_under [] rows) o 0 (omega (arith, b.inside))) up (dec_lt x n) in
          sym (passed_some pool t it k z) ∙ ap (λ (y : KeyAnswer). ltb y.key k) i ∙ lt-ltb x k (omega arith)
        where
          below : (x : ℕ) → x ∈ keys_under [] rows → Ascends ◌<◌ (x ∷ from n (keys_under [] rows)) → Dec (x < n) → x < n
          below x m up (yes h) = h
          below x m up (no h) = absurd (omega (arith, ascends_head up x (from_in n (keys_under [] rows) (omega arith) m)))
