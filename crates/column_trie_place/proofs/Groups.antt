-- What column_trie's `group_of` tells of a group: whether it lies in its layer, and then where and how long it is.
use Prim.Native.Nat.{ℕ, ◌-◌, ◌≤◌, ◌<◌}
use mathlib.Core.Path.{◌≡◌, refl, sym, ap, ◌∙◌}
use mathlib.Core.Bool.{Bool, true, false, ◌&&◌}
use native.Mathlib.Omega.{arith}
use lib.ListN.{length}
use lib.Seq.{length-slice}
use lib.Dec.{ltb, leb}
use borrow.Author.Tests.{ltb-true, leb-true}
use Rattle.std.proofs.Common.{Some, None}
use Rattle.std.specs.Option.{is_some}
use Rattle.std.proofs.lemmas.Option.{none-some, cond_some}
use Rattle.relation.specs.Order.{pick}
use Rattle.relation.specs.Layers.{Layer}
use Rattle.relation.proofs.Tests.{and_left, and_right}
use Rattle.column_trie.specs.Groups.{group_from, group_to, keys_of, lies, between, group_of}
use Rattle.column_trie.specs.declared.Group.{Group}

-- a group that lies in its layer
pub record Lying (l : Layer) (i : ℕ) (g : Group) : Type 0 where
  pub lies : lies l i ≡ true
  pub from : g.from ≡ group_from l i
  pub to : g.to ≡ group_to l i
  pub listed : i < length l.intervals
  pub ordered : g.from ≤ g.to
  pub inside : g.to ≤ length l.keys
  pub long : length (keys_of l i) ≡ g.to - g.from

pub lies_told : (l : Layer) (i : ℕ) → lies l i ≡ true → (i < length l.intervals) × (group_from l i ≤ group_to l i) × (group_to l i ≤ length l.keys)
unfolding lies
lies_told l i e =
    let a = ltb i (length l.intervals) in
    let b = leb (group_from l i) (group_to l i) in
    let c = leb (group_to l i) (length l.keys) in
    let r = and_right a (b && c) e in
    (ltb-true i (length l.intervals) (and_left a (b && c) e), leb-true (group_from l i) (group_to l i) (and_left b c r), leb-true (group_to l i) (length l.keys) (and_right b c r))

module _ (l : Layer) (i : ℕ) where
  pub group_there : is_some (group_of l i) ≡ lies l i
  unfolding group_of
  group_there = go (lies l i)
    where
      go : (b : Bool) → is_some (pick b (Some (between (group_from l i) (group_to l i))) None) ≡ b
      go true = refl
      go false = refl

  pub group_out : None ≡ group_of l i → lies l i ≡ false
  unfolding group_of
  group_out o = go (lies l i) refl
    where
      go : (b : Bool) → lies l i ≡ b → lies l i ≡ false
      go true y = absurd (none-some (between (group_from l i) (group_to l i)) (o ∙ simp y))
      go false n = n

  pub group_in : {g : Group} → Some g ≡ group_of l i → Lying l i g
  unfolding group_of
  group_in {g} o = go (lies l i) refl
    where
      told : lies l i ≡ true → g ≡ between (group_from l i) (group_to l i) → Lying l i g
      told y e =
          let q = lies_told l i y in
          let f : g.from ≡ group_from l i = ap (λ (x : Group). x.from) e in
          let t : g.to ≡ group_to l i = ap (λ (x : Group). x.to) e in
          record {
            lies = y;
            from = f;
            to = t;
            listed = q.0;
            ordered = omega arith;
            inside = omega arith;
            long = length-slice (group_from l i) (group_to l i) l.keys q.2 ∙ (let n : group_to l i - group_from l i ≡ g.to - g.from = omega arith in n);
          }

      go : (b : Bool) → lies l i ≡ b → Lying l i g
      go true y = told y (cond_some true g (between (group_from l i) (group_to l i)) (o ∙ simp y)).1
      go false n = absurd (none-some g (sym (o ∙ simp n)))
