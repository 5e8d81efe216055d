-- Whose child the key at a place is. The halving rule's last counted interval is not above the place, on any list: what it has passed last was below
-- its target. So the offset in the owner's group never falls below 0.
use Prim.Native.Nat.{ℕ, ◌+◌, ◌-◌, ◌≤◌, ◌<◌}
use mathlib.Core.Path.{◌≡◌, sym, ap, ◌∙◌}
use mathlib.Core.Bool.{Bool, true, false, ◌&&◌}
use mathlib.Core.List.{List}
use native.Mathlib.Omega.{arith}
use lib.ListN.{length, get_or}
use lib.Dec.{ltb, leb}
use borrow.Author.Tests.{lt-ltb, le-ltb, le-leb, eq-eqb, ne_eqb}
use Rattle.std.proofs.Common.{Some, None}
use Rattle.relation.specs.Order.{pick}
use Rattle.relation.specs.Layers.{Layer}
use Rattle.relation.proofs.Tests.{and_true}
use Rattle.seek.specs.Seek.{mid_of}
use Rattle.seek.proofs.HalvingLaws.{keeps}
use Rattle.column_trie.specs.Groups.{group_from, group_to, lies, group_of}
use Rattle.column_trie.specs.declared.Group.{Group}
use Rattle.column_trie_place.specs.Checks.{count_up_to, owns}
use Rattle.column_trie_place.specs.Inside.{owned_at, owner_or, owner_of}
use Rattle.column_trie_place.proofs.Groups.{Lying, group_out, group_in}

last_counted : (ints : List ℕ) (i : ℕ) → 0 < count_up_to i ints → get_or ints (count_up_to i ints - 1) 0 ≤ i
last_counted ints i h =
    let r = keeps ints (i + 1) (λ lo hi p. 0 < lo → get_or ints (lo - 1) 0 < i + 1)
    (λ lo hi p l k w _. ap_lt (mid_of lo hi) k)
    (λ lo hi p l k w. w)
    (length ints - 0) 0 (length ints) 0 (omega arith) (omega arith) (λ x. absurd (omega arith)) in
    omega (arith, r h)
  where
    ap_lt : (m : ℕ) → get_or ints m 0 < i + 1 → get_or ints (m + 1 - 1) 0 < i + 1
    ap_lt m k = let e : m + 1 - 1 ≡ m = omega arith in rw e k

-- n is what the code counts
module _ (l : Layer) (i : ℕ) {n : ℕ} (c : n ≡ count_up_to i l.intervals) where
  pub owner_none : n ≡ 0 → None ≡ owner_of l i
  unfolding owner_of
  owner_none z = simp (eq-eqb (count_up_to i l.intervals) 0 (sym c ∙ z))

  module _ (s : n ≡ 0 → ⊥) where
    not_above : group_from l (n - 1) ≤ i
    not_above =
        let e = last_counted l.intervals i (omega (arith, c, s)) in
        rw c e

    by_owner : owner_or l i (n - 1) ≡ owner_of l i
    unfolding owner_of
    by_owner = ap (λ (m : ℕ). owner_or l i (m - 1)) c ∙ sym (simp (ne_eqb (count_up_to i l.intervals) 0 (λ z. s (c ∙ z))))

    deny : owns l (n - 1) i ≡ false → None ≡ owner_of l i
    deny e = sym (ap (λ (b : Bool). pick b (Some (owned_at l i (n - 1))) None) e) ∙ by_owner

    pub owner_out : None ≡ group_of l (n - 1) → None ≡ owner_of l i
    unfolding owns
    owner_out o = deny (simp (group_out l (n - 1) o))

    pub owner_is : lies l (n - 1) ≡ true → i < group_to l (n - 1) → Some (owned_at l i (n - 1)) ≡ owner_of l i
    unfolding owns
    owner_is e h =
        sym (
        ap (λ (b : Bool). pick b (Some (owned_at l i (n - 1))) None)
        (and_true (lies l (n - 1)) (leb (group_from l (n - 1)) i && ltb i (group_to l (n - 1))) e
        (and_true (leb (group_from l (n - 1)) i) (ltb i (group_to l (n - 1))) (le-leb (group_from l (n - 1)) i not_above) (lt-ltb i (group_to l (n - 1)) h)))
        ) ∙
        by_owner

    module _ {g : Group} (o : Some g ≡ group_of l (n - 1)) where
      lying : Lying l (n - 1) g
      lying = group_in l (n - 1) o

      pub starts : g.from ≤ i
      starts = omega (arith, lying.from, not_above)

      pub owner_past : g.to ≤ i → None ≡ owner_of l i
      unfolding owns
      owner_past h = deny (simp (lying.lies, le-leb (group_from l (n - 1)) i not_above, le-ltb i (group_to l (n - 1)) (omega (arith, lying.to))))

      pub owner_in : i < g.to → Some (record { interval = n - 1; offset = i - g.from }) ≡ owner_of l i
      owner_in h = ap (λ (m : ℕ). Some (record { interval = n - 1; offset = i - m })) lying.from ∙ owner_is lying.lies (omega (arith, lying.to))
