-- The group of an interval, as the code finds it: its two ends are two intervals' words, and each way out of the code is one of the definition's tests.
use Prim.Native.Nat.{ℕ, ◌+◌, ◌≤◌, ◌<◌}
use mathlib.Core.Path.{◌≡◌, ap, ◌∙◌}
use Rattle.std.proofs.Common.{Some, None}
use native.Mathlib.Omega.{arith}
use native.Mathlib.Numerals.{add-one}
use lib.ListN.{length, get_or}
use borrow.Author.Tests.{lt-ltb, le-ltb, le-leb, lt-leb}
use Rattle.relation.specs.Layers.{Layer}
use Rattle.relation.proofs.Lists.{get_or_any}
use Rattle.column_trie.specs.Groups.{group_from, group_to, lies, group_of}

-- a group runs from where its interval's children start to where the next one's do
module _ (l : Layer) {r : ℕ} (i : ℕ) where
  pub starts_group : i < length l.intervals → r ≡ get_or l.intervals i (length l.keys) → r ≡ group_from l i
  starts_group h e = e ∙ get_or_any l.intervals i (length l.keys) 0 h

  pub ends_group : r ≡ get_or l.intervals (i + 1) (length l.keys) → r ≡ group_to l i
  ends_group e = e ∙ ap (λ (n : ℕ). get_or l.intervals n (length l.keys)) (add-one i)

-- ---- the ways out

module _ (l : Layer) (i : ℕ) where
  pub unlisted : length l.intervals ≤ i → None ≡ group_of l i
  unfolding group_of lies
  unlisted h = simp (le-ltb i (length l.intervals) h)

  module _ (h : i < length l.intervals) {from to : ℕ} (f : from ≡ group_from l i) (t : to ≡ group_to l i) where
    pub falling : to < from → None ≡ group_of l i
    unfolding group_of lies
    falling k = simp (lt-ltb i (length l.intervals) h, lt-leb (group_from l i) (group_to l i) (omega arith))

    module _ (k : from ≤ to) where
      pub over : length l.keys < to → None ≡ group_of l i
      unfolding group_of lies
      over m = simp (lt-ltb i (length l.intervals) h, le-leb (group_from l i) (group_to l i) (omega arith), lt-leb (group_to l i) (length l.keys) (omega arith))

      pub lying : to ≤ length l.keys → Some (record { from = from; to = to }) ≡ group_of l i
      unfolding group_of lies
      lying m = simp (f, t, lt-ltb i (length l.intervals) h, le-leb (group_from l i) (group_to l i) (omega arith), le-leb (group_to l i) (length l.keys) (omega arith))
