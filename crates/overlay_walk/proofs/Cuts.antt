-- One of the two cursors, taken up to depth 1: where what it has passed is below a key, and what it has left is not, it has its first keys cut at that key.
use Prim.Native.Nat.{ℕ, suc, ◌+◌, ◌-◌, ◌≤◌, ◌<◌}
use mathlib.Core.Path.{◌≡◌, refl, sym, ap, ◌∙◌, subst}
use mathlib.Core.Bool.{Bool, true, ◌||◌}
use mathlib.Core.Logic.{⊎_elim}
use mathlib.Core.List.{List, [], ◌∷◌}
use native.Mathlib.Omega.{arith}
use lib.ListN.{length, get_or}
use lib.Seq.{drop-cons}
use lib.Dec.{ltb, eqb}
use borrow.Author.Tests.{ltb-true, lt-ltb, eqb-true, le-ltb}
use Rattle.relation.specs.Order.{Row, pick}
use Rattle.relation.specs.Lists.{◌∈◌, hd, tl, in_cons, not_in_nil, Ascends, anone}
use Rattle.relation.specs.Runs.{from}
use Rattle.relation.specs.Layers.{prefixes, keys_under}
use Rattle.relation.proofs.Runs.{from_drop}
use Rattle.relation.proofs.Intervals.{prefix_length}
use Rattle.relation.proofs.Lists.{in_get_or}
use Rattle.relation.proofs.Relations.{length_prefixes}
use Rattle.query.proofs.Beyond.{keys_ascend}
use Rattle.column_trie.specs.Table.{data_len_at}
use Rattle.column_trie.specs.declared.ColumnTrie.{ColumnTrie}
use Rattle.column_trie.proofs.Header.{header_told, layer_fits}
use Rattle.column_trie.proofs.Groups.{keys_long}
use Rattle.column_trie_place.specs.Checks.{cursor}
use Rattle.column_trie_place.specs.declared.ColumnTrieIter.{ColumnTrieIter}
use Rattle.column_trie_iter.specs.Cursor.{key_in, key_of}
use Rattle.column_trie_iter.specs.declared.KeyAnswer.{KeyAnswer}
use Rattle.trie_iterator.specs.TrieIterator.{State, root, level, levels, left, path}
use Rattle.trie_iterator.specs.Cursor.{Layered, Stands, at_the_root, at_level}
use Rattle.trie_iterator.proofs.Held.{held_group, first_keys}
use Rattle.trie_iterator.proofs.Standing.{key_is}
use Rattle.overlay.proofs.Laid.{first_key}
use Rattle.overlay_place.specs.Pairs.{started, passed_below}
use Rattle.overlay_place.proofs.Tests.{passed_some}
use Rattle.overlay_walk.specs.Pair.{stands_at, Above, one, more}
use Rattle.overlay_walk.proofs.Pair as pairs
use Rattle.overlay_walk.proofs.Plain.{base, ascends_drop, depth_at, before_stands}

-- ---- a number above all keys

pub record Bound (ks : List ℕ) : Type 0 where
  pub number : ℕ
  pub above : (x : ℕ) → x ∈ ks → x < number

pub bound : (ks : List ℕ) → Bound ks
bound [] = record { number = 0; above = λ x i. absurd (not_in_nil i) }
bound (k ∷ ks) = let b = bound ks in record { number = suc k + b.number; above = λ x i. ⊎_elim (λ (e : x ≡ k). omega arith) (λ (j : x ∈ ks). omega (arith, b.above x j)) (in_cons i) }

pub from_above : (n : ℕ) (ks : List ℕ) → ((x : ℕ) → x ∈ ks → x < n) → from n ks ≡ []
unfolding from
from_above n [] f = refl
from_above n (k ∷ ks) f = ap (λ (b : Bool). pick b (from n ks) (k ∷ ks)) (lt-ltb k n (f k (hd refl))) ∙ from_above n ks (λ x i. f x (tl i))

-- ---- a state with another one at depth 1

abbrev pub regrown : State → State → State
regrown b root = b
regrown b (level ks root) = b
regrown b (level ks (level js above)) = level ks (regrown b (level js above))

pub regrown_above : (b p : State) → 1 < levels p → Above b (base p) (regrown b p) p
regrown_above b root h = absurd (omega arith)
regrown_above b (level ks root) h = absurd (omega arith)
regrown_above b (level ks (level js root)) h = one
regrown_above b (level ks (level js (level is above))) h = more (regrown_above b (level js (level is above)) (omega arith))

pub base_shallow : (p : State) → levels p ≤ 1 → base p ≡ p
base_shallow root h = refl
base_shallow (level ks root) h = refl
base_shallow (level ks (level js above)) h = absurd (omega arith)

module _ {pool : List ℕ} {t : ColumnTrie} {rows : List Row} (H : Layered pool t rows) where
  some : 0 < t.arity
  some = (header_told (length pool) t H.sound).positive

  -- what was opened has a key
  opened_key : {ks js : List ℕ} {above : State} {it : ColumnTrieIter} → Stands t.arity rows (level ks (level js above)) it → js ≡ [] → ⊥
  opened_key {js = js} {above = above} (at_level {it = it} w b) e =
      let n = prefix_length H.width (levels (level js above)) it.interval_i (omega (arith, b.deep)) b.known in
      let p : path (level js above) ≡ path above = ap (λ (zs : List ℕ). path (level zs above)) e in
      omega (arith, n, ap length (b.under ∙ p), pairs.path_short above)

  pub base_key : (p : State) {it : ColumnTrieIter} → Stands t.arity rows p it → 1 < levels p → left (base p) ≡ [] → ⊥
  base_key root w h e = omega arith
  base_key (level ks root) w h e = omega arith
  base_key (level ks (level js root)) w h e = opened_key w e
  base_key (level ks (level js (level is above))) (at_level w b) h e = base_key (level js (level is above)) w (omega arith) e

  -- the keys left at depth 1 ascend
  pub base_ascends : (p : State) {it : ColumnTrieIter} → Stands t.arity rows (base p) it → Ascends ◌<◌ (left (base p))
  base_ascends root w = anone
  base_ascends (level ks root) (at_level {it = it} (at_the_root e) b) = subst (Ascends ◌<◌) b.rest (ascends_drop it.slice_offset (keys_ascend [] H.width some))
  base_ascends (level ks (level js above)) w = base_ascends (level js above) w

  -- a table without rows has its cursor at the root, one with rows below it
  no_rows : data_len_at t 0 ≡ 0 → rows ≡ []
  no_rows z = go rows refl
    where
      go : (rs : List Row) → rows ≡ rs → rows ≡ []
      go [] e = e
      go (q ∷ qs) e =
          let i = first_key {s = rows} {m = rows} H.width H.width H.width some {q = q} (subst (λ (rs : List Row). q ∈ rs) (sym e) (hd refl)) in
          let o = in_get_or 0 i in
          absurd (omega (arith, z, o.1, keys_long pool (layer_fits (header_told (length pool) t H.sound) some), ap length (first_keys H some)))

  -- the first keys cut at k, where what is passed is below k and what is left is not
  cut_at : {xs : List ℕ} (k : ℕ) {it : ColumnTrieIter} → Stands t.arity rows (level xs root) it → passed_below pool t it k ≡ true → ((x : ℕ) → x ∈ xs → k ≤ x) → from k (keys_under [] rows) ≡ xs
  cut_at {xs} k {it} (at_level (at_the_root e) b) y f = from_drop k (keys_under [] rows) it.slice_offset b.inside before stops ∙ b.rest
    where
      last : 0 < it.slice_offset → get_or (keys_under [] rows) (it.slice_offset - 1) 0 < k
      last h =
          let c = before_stands H b h in
          let q : key_of pool t (cursor it.depth it.interval_i (it.slice_offset - 1)) ≡ key_in (get_or (keys_under [] rows) (it.slice_offset - 1) 0 ∷ xs) = key_is H (at_level (at_the_root e) c) in
          ltb-true (get_or (keys_under [] rows) (it.slice_offset - 1) 0) k (ap (λ (z : KeyAnswer). ltb z.key k) (sym q) ∙ passed_some pool t it k (λ z. omega arith) ∙ y)

      before : (n : ℕ) → n < it.slice_offset → get_or (keys_under [] rows) n 0 < k
      before n l =
          let r = (held_group H b.deep b.known b.under).rises 0 n (it.slice_offset - 1) (omega arith) (omega (arith, b.inside)) in
          omega (arith, r, last (omega arith))

      stops : it.slice_offset < length (keys_under [] rows) → k ≤ get_or (keys_under [] rows) it.slice_offset 0
      stops l = f (get_or (keys_under [] rows) it.slice_offset 0) (subst (λ (zs : List ℕ). get_or (keys_under [] rows) it.slice_offset 0 ∈ zs) (sym (drop-cons (keys_under [] rows) it.slice_offset 0 l) ∙ b.rest) (hd refl))

  -- a cursor at depth 1 over rows
  at_rows : {xs : List ℕ} {it : ColumnTrieIter} → Stands t.arity rows (level xs root) it → (n : ℕ) → from n (keys_under [] rows) ≡ xs → stands_at rows n ≡ level xs root
  at_rows {xs} (at_level {it = it} (at_the_root e) b) n q = go rows refl
    where
      go : (rs : List Row) → rows ≡ rs → stands_at rs n ≡ level xs root
      go [] e = absurd (omega (arith, b.known, ap (λ (rs : List Row). length (prefixes 0 rs)) e, length_prefixes 0 []))
      go (r ∷ rs) e = ap (λ (zs : List ℕ). level zs root) (ap (λ (zs : List Row). from n (keys_under [] zs)) (sym e) ∙ q)

  -- so it stands as one whose keys are cut at n
  level_is : (ks : List ℕ) (above : State) {i : ColumnTrieIter} → Stands t.arity rows (base (level ks above)) i → (n : ℕ) → from n (keys_under [] rows) ≡ left (base (level ks above)) → base (level ks above) ≡ stands_at rows n
  level_is ks root v n q = sym (at_rows v n q)
  level_is ks (level js above) v n q = level_is js above v n q

  rootless : (it : ColumnTrieIter) → it.depth ≡ 0 → started t it ≡ true → rows ≡ []
  rootless it d y = no_rows (eqb-true (data_len_at t 0) 0 (ap (λ (b : Bool). b || eqb (data_len_at t 0) 0) (sym (le-ltb 0 it.depth (omega arith))) ∙ y))

  pub base_is : (p : State) (it : ColumnTrieIter) {i : ColumnTrieIter} → Stands t.arity rows p it → started t it ≡ true → Stands t.arity rows (base p) i → (n : ℕ) → from n (keys_under [] rows) ≡ left (base p) → base p ≡ stands_at rows n
  base_is root it w y v n q = ap (λ (rs : List Row). stands_at rs n) (sym (rootless it (depth_at H w) y))
  base_is (level ks above) it w y v n q = level_is ks above v n q

  level_cut : (ks : List ℕ) (above : State) (k : ℕ) {i : ColumnTrieIter} → Stands t.arity rows (base (level ks above)) i → passed_below pool t i k ≡ true → ((x : ℕ) → x ∈ left (base (level ks above)) → k ≤ x) → from k (keys_under [] rows) ≡ left (base (level ks above))
  level_cut ks root k v y f = cut_at k v y f
  level_cut ks (level js above) k v y f = level_cut js above k v y f

  pub base_cut : (p : State) (it : ColumnTrieIter) (k : ℕ) {i : ColumnTrieIter} → Stands t.arity rows p it → started t it ≡ true → Stands t.arity rows (base p) i → passed_below pool t i k ≡ true → ((x : ℕ) → x ∈ left (base p) → k ≤ x) → from k (keys_under [] rows) ≡ left (base p)
  unfolding from
  base_cut root it k w y v z f = ap (λ (rs : List Row). from k (keys_under [] rs)) (rootless it (depth_at H w) y) ∙ ap (from k) pairs.keys_nil
  base_cut (level ks above) it k w y v z f = level_cut ks above k v z f
