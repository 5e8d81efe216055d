-- The parent of a place, as a search by halves finds it: the last interval that is not above the place.
use Prim.Native.Nat.{ℕ, suc, ◌+◌, ◌-◌, ◌≤◌, ◌<◌}
use mathlib.Core.Path.{◌≡◌, sym, ap, ◌∙◌}
use mathlib.Core.List.{List}
use native.Mathlib.Omega.{arith}
use native.Mathlib.Decide.{dec_lt}
use lib.ListN.{length, get_or, drop, drop_of_length-le, get_or-eq_default}
use lib.Seq.{drop-cons}
use Rattle.relation.specs.Layers.{Layer, layer, no_layer}
use Rattle.relation.specs.Paths.{owner}
use Rattle.relation.proofs.Lists.{get_or_any}
use Rattle.relation.proofs.Walks.{Sound}
use Rattle.seek.specs.Offset.{Leading}
use Rattle.column_trie.specs.Table.{layers_in, layer_in, data_len_at, Undamaged}
use Rattle.column_trie.specs.declared.ColumnTrie.{ColumnTrie}
use Rattle.column_trie.proofs.Header.{layer_fits}
use Rattle.column_trie.proofs.Layers.{Whole, layers_at}
use Rattle.column_trie.proofs.Groups.{keys_long}
use Rattle.column_trie.proofs.Stored.{in_pool}
use Rattle.row_path.specs.Path.{ancestor}
use Rattle.row_path.proofs.Owners.{Owned, owned, one_owner, rises}
use Rattle.row_path.proofs.Paths.{ancestor_none, ancestor_more, sound_at}
use Rattle.row_path.proofs.Moves.{hangs}
use Rattle.row_path.proofs.Keys.{KeyAt, key_at}

-- o intervals are not above the place: there is one, and the last of them is the parent's
pub record Parent (ints : List ℕ) (place o : ℕ) : Type 0 where
  pub some : 0 < o
  pub is : o - 1 ≡ owner ints place

pub parent_is : {ints keys : List ℕ} → Sound ints keys → (place : ℕ) → place < length keys → (o : ℕ) → Leading ints (place + 1) o → Parent ints place o
parent_is {ints} {keys} s place h o l = record {
  some = past;
  is = one_owner s (record { listed = omega (arith, l.inside, past); from = omega (arith, l.before (o - 1) (omega (arith, past))); to = to (dec_lt o (length ints)) }) w;
}
  where
    w : Owned ints (length keys) (owner ints place) place
    w = owned s place h

    past : 0 < o
    past = go (dec_lt (owner ints place) o)
      where
        go : Dec (owner ints place < o) → 0 < o
        go (yes y) = omega arith
        go (no n) = absurd (omega (arith, w.listed, w.from, l.stops (omega (arith, n, w.listed)), rises s o (owner ints place) (omega (arith, n)) w.listed))

    next : suc (o - 1) ≡ o
    next = omega (arith, past)

    to : Dec (o < length ints) → place < get_or ints (suc (o - 1)) (length keys)
    to (yes y) = omega (arith, ap (λ (m : ℕ). get_or ints m (length keys)) next, get_or_any ints o (length keys) 0 y, l.stops y)
    to (no n) = omega (arith, ap (λ (m : ℕ). get_or ints m (length keys)) next, get_or-eq_default ints (length keys) {n = o} (omega (arith, n)))

-- of an undamaged table
module _ {pool : List ℕ} {t : ColumnTrie} (o : Whole t) (u : Undamaged pool t) where
  pub layer_sound : (d : ℕ) → d < t.arity → Sound (layer_in pool t d).intervals (layer_in pool t d).keys
  layer_sound d h =
      let g = hangs o u in
      let e = layers_at pool t o u.arity.1 d h in
      rw e at (sound_at g.chain d (omega (arith, g.long)))

  pub keys_count : (d : ℕ) → d < t.arity → length (layer_in pool t d).keys ≡ data_len_at t d
  keys_count d h = keys_long pool (layer_fits (in_pool u) h)

  -- a layer up
  pub climb : (e i : ℕ) → 0 < e → e < t.arity → ancestor (drop (suc (e - 1)) (layers_in pool t)) i ≡ owner (layer_in pool t e).intervals (ancestor (drop (suc e) (layers_in pool t)) i)
  climb e i p h =
      let q : suc (e - 1) ≡ e = omega arith in
      let ls = layers_in pool t in
      ap (λ (k : ℕ). ancestor (drop k ls) i) q
      ∙ ap (λ (ms : List Layer). ancestor ms i) (drop-cons ls e no_layer (omega (arith, (hangs o u).long)))
      ∙ ancestor_more (layer ls e) (drop (suc e) ls) i
      ∙ ap (λ (l : Layer). owner l.intervals (ancestor (drop (suc e) ls) i)) (layers_at pool t o u.arity.1 e h)

-- the way up from row i: the place in layer e
pub record Climbing (pool : List ℕ) (t : ColumnTrie) (i d e place : ℕ) : Type 0 where
  pub low : d ≤ e
  pub high : e < t.arity
  pub is : place ≡ ancestor (drop (suc e) (layers_in pool t)) i

module _ {pool : List ℕ} {t : ColumnTrie} (o : Whole t) (u : Undamaged pool t) where
  pub climbing_start : (i d e : ℕ) → d < t.arity → e ≡ t.arity - 1 → Climbing pool t i d e i
  climbing_start i d e h z =
      let g = hangs o u in
      record {
        low = omega arith;
        high = omega arith;
        is = sym (ap (λ (ms : List Layer). ancestor ms i) (drop_of_length-le (layers_in pool t) {i = suc e} (omega (arith, g.long))) ∙ ancestor_none i);
      }

  pub climbing_on : {i d e place r : ℕ} → Climbing pool t i d e place → d < e → r ≡ owner (layer_in pool t e).intervals place → Climbing pool t i d (e - 1) r
  climbing_on {i} {d} {e} {place} c h f = record {
    low = omega arith;
    high = omega (arith, c.high);
    is = f ∙ ap (owner (layer_in pool t e).intervals) c.is ∙ sym (climb o u e i (omega arith) c.high);
  }

  pub climbing_at : {i d e place : ℕ} → Climbing pool t i d e place → i < t.tuple_count → KeyAt pool t i e place
  climbing_at {i} {d} {e} {place} c h = rw c.is (key_at o u i h e c.high)
