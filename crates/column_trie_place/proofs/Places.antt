-- Where a cursor below the root stands: what the code finds is what the definitions say.
use Prim.Native.Nat.{ℕ, zero, suc, ◌+◌, ◌-◌, ◌≤◌, ◌<◌}
use mathlib.Core.Path.{◌≡◌, refl, sym, ap, ◌∙◌, subst}
use mathlib.Core.Logic.{◌⊎◌, inl, inr}
use mathlib.Core.Bool.{Bool, true, false, ◌&&◌}
use mathlib.Core.List.{List, [], ◌∷◌}
use native.Mathlib.Omega.{arith}
use lib.ListN.{length, take, drop}
use lib.Seq.{slice, length-slice, take-nil, take-take, drop-drop}
use lib.Dec.{leb, eqb}
use borrow.Author.Tests.{leb-true, le-leb, lt-leb, eq-eqb, ne_eqb}
use Rattle.std.proofs.Common.{Ok, Err}
use Rattle.refusal.specs.Number.{number_of}
use Rattle.refusal.specs.declared.Refusal.{Refusal}
use Rattle.refusal.specs.declared.Refusal.TheVariants.{Damaged, BadCursor}
use Rattle.relation.specs.Order.{pick}
use Rattle.relation.proofs.Tests.{and_left, and_right, and_true, and_false_left, and_false_right}
use Rattle.column_trie.specs.Groups.{group_from, group_to, keys_of, lies}
use Rattle.column_trie.specs.Pool.{spot}
use Rattle.column_trie.specs.Table.{header_sound, data_len_at}
use Rattle.column_trie.specs.declared.ColumnTrie.{ColumnTrie}
use Rattle.column_trie_place.specs.Checks.{layer_of, stands_below, stands, refusal, remaining, child}
use Rattle.column_trie_place.specs.Inside.{place_below, Placed}
use Rattle.column_trie.proofs.Header.{layer_fits, header_told}
use Rattle.column_trie.proofs.Groups.{keys_long}
use Rattle.column_trie_place.proofs.Groups.{Lying, lies_told}
use Rattle.column_trie.specs.declared.Group.{Group}
use Rattle.column_trie_place.specs.declared.ColumnTrieIter.{ColumnTrieIter}

-- ---- the checks below the root

pub record Standing (pool : List ℕ) (t : ColumnTrie) (it : ColumnTrieIter) : Type 0 where
  pub deep : it.depth ≤ t.arity
  pub listed : it.interval_i < length (layer_of pool t it).intervals
  pub ordered : group_from (layer_of pool t it) it.interval_i ≤ group_to (layer_of pool t it) it.interval_i
  pub inside : group_to (layer_of pool t it) it.interval_i ≤ length (layer_of pool t it).keys
  pub offset : it.slice_offset ≤ group_to (layer_of pool t it) it.interval_i - group_from (layer_of pool t it) it.interval_i

module _ (pool : List ℕ) (t : ColumnTrie) (it : ColumnTrieIter) where
  abbrev run_ok : Bool
  run_ok = leb it.slice_offset (length (keys_of (layer_of pool t it) it.interval_i))

  pub too_deep : t.arity < it.depth → stands_below pool t it ≡ false
  unfolding stands_below
  too_deep h = and_false_left (leb it.depth t.arity) (lies (layer_of pool t it) it.interval_i && run_ok) (lt-leb it.depth t.arity h)

  pub no_group : lies (layer_of pool t it) it.interval_i ≡ false → stands_below pool t it ≡ false
  unfolding stands_below
  no_group e =
      and_false_right (leb it.depth t.arity) (lies (layer_of pool t it) it.interval_i && run_ok) (and_false_left (lies (layer_of pool t it) it.interval_i) run_ok e)

  pub too_far : length (keys_of (layer_of pool t it) it.interval_i) < it.slice_offset → stands_below pool t it ≡ false
  unfolding stands_below
  too_far h =
      and_false_right (leb it.depth t.arity) (lies (layer_of pool t it) it.interval_i && run_ok)
      (and_false_right (lies (layer_of pool t it) it.interval_i) run_ok (lt-leb it.slice_offset (length (keys_of (layer_of pool t it) it.interval_i)) h))

  pub stands_there : it.depth ≤ t.arity → lies (layer_of pool t it) it.interval_i ≡ true → it.slice_offset ≤ length (keys_of (layer_of pool t it) it.interval_i) → stands_below pool t it ≡ true
  unfolding stands_below
  stands_there h e k =
      and_true (leb it.depth t.arity) (lies (layer_of pool t it) it.interval_i && run_ok) (le-leb it.depth t.arity h)
      (and_true (lies (layer_of pool t it) it.interval_i) run_ok e (le-leb it.slice_offset (length (keys_of (layer_of pool t it) it.interval_i)) k))

  -- what the checks tell
  pub stands_told : stands_below pool t it ≡ true → Standing pool t it
  unfolding stands_below
  stands_told e =
      let l = layer_of pool t it in
      let i = it.interval_i in
      let r = and_right (leb it.depth t.arity) (lies l i && run_ok) e in
      let q = lies_told l i (and_left (lies l i) run_ok r) in
      let k = leb-true it.slice_offset (length (keys_of l i)) (and_right (lies l i) run_ok r) in
      record {
        deep = leb-true it.depth t.arity (and_left (leb it.depth t.arity) (lies l i && run_ok) e);
        listed = q.0;
        ordered = q.1;
        inside = q.2;
        offset = omega (arith, k, length-slice (group_from l i) (group_to l i) l.keys q.2);
      }

  pub misplaced : stands_below pool t it ≡ false → Err BadCursor ≡ place_below pool t it
  unfolding place_below
  misplaced e = simp e

  pub well_placed : stands_below pool t it ≡ true → {g : Group} → Lying (layer_of pool t it) it.interval_i g → {at : ℕ} → at ≡ spot t.start t.capacity (it.depth - 1)
      → Ok (record { index = g.from + it.slice_offset; at = at + (g.from + it.slice_offset); end = at + g.to }) ≡ place_below pool t it
  unfolding place_below
  well_placed e y s = simp (e, y.from, y.to, s)

-- ---- what the first checks find

-- a part of a part of the pool, taken at once
pub drop_take : (k n : ℕ) (l : List ℕ) → drop k (take n l) ≡ take (n - k) (drop k l)
drop_take zero n l = ap (λ (m : ℕ). take m l) (let e : n ≡ n - 0 = omega arith in e)
drop_take (suc k) zero l = sym (ap (λ (m : ℕ). take m (drop (suc k) l)) (let e : 0 - suc k ≡ 0 = omega arith in e))
drop_take (suc k) (suc n) [] = sym (take-nil (suc n - suc k))
drop_take (suc k) (suc n) (x ∷ l) = drop_take k n l ∙ ap (λ (m : ℕ). take m (drop k l)) (let e : n - k ≡ suc n - suc k = omega arith in e)

run_part : (pool : List ℕ) (s n from to o : ℕ) → to ≤ n → take (s + to - (s + (from + o))) (drop (s + (from + o)) pool) ≡ drop o (slice from to (take n (drop s pool)))
run_part pool s n from to o h =
    sym (
    drop-drop o from (take to (take n (drop s pool))) ∙
    ap (drop (from + o)) (take-take to n (drop s pool) h) ∙
    drop_take (from + o) to (drop s pool) ∙
    ap (take (to - (from + o))) (drop-drop (from + o) s pool) ∙
    ap (λ (m : ℕ). take m (drop (s + (from + o)) pool)) (let e : to - (from + o) ≡ s + to - (s + (from + o)) = omega arith in e)
    )

module _ (pool : List ℕ) (t : ColumnTrie) (it : ColumnTrieIter) where
  -- what no refusal tells: the header is sound, and the cursor stands in its list
  pub unrefused : refusal pool t it ≡ 0 → (header_sound (length pool) t ≡ true) × (stands pool t it ≡ true)
  unfolding refusal
  unrefused z = go (header_sound (length pool) t) (stands pool t it) refl refl z
    where
      go : (h s : Bool) → header_sound (length pool) t ≡ h → stands pool t it ≡ s → ◌≡◌ {A = ℕ} (pick h (pick s 0 7) 6) 0 → (header_sound (length pool) t ≡ true) × (stands pool t it ≡ true)
      go true true e f q = (e, f)
      go true false e f q = absurd (omega arith)
      go false s e f q = absurd (omega arith)

  pub stands_below_lem : 0 < it.depth → stands pool t it ≡ stands_below pool t it
  unfolding stands
  stands_below_lem b = simp (ne_eqb it.depth 0 (λ z. omega arith))

  pub standing : refusal pool t it ≡ 0 → 0 < it.depth → Standing pool t it
  standing z b = stands_told pool t it (sym (stands_below_lem b) ∙ (unrefused z).1)

  refused_as : (r : Refusal) → number_of r ≡ refusal pool t it → Placed pool t it (Err r)
  refused_as r e = record { number = e; place = tt }

  pub header_refused : header_sound (length pool) t ≡ false → Placed pool t it (Err Damaged)
  unfolding refusal
  header_refused e = refused_as Damaged (simp e)

  module _ (h : header_sound (length pool) t ≡ true) where
    refusal_is : refusal pool t it ≡ pick (stands pool t it) 0 7
    unfolding refusal
    refusal_is = simp h

    module _ (z : it.depth ≡ 0) where
      stands_root : stands pool t it ≡ (eqb it.interval_i 0 && eqb it.slice_offset 0)
      unfolding stands
      stands_root = simp (eq-eqb it.depth 0 z)

      pub root_refused : (it.interval_i ≡ 0 → ⊥) ⊎ (it.slice_offset ≡ 0 → ⊥) → Placed pool t it (Err BadCursor)
      root_refused n = refused_as BadCursor (sym (refusal_is ∙ ap (λ (x : Bool). pick x 0 7) (stands_root ∙ other n)))
        where
          other : (it.interval_i ≡ 0 → ⊥) ⊎ (it.slice_offset ≡ 0 → ⊥) → (eqb it.interval_i 0 && eqb it.slice_offset 0) ≡ false
          other (inl n) = and_false_left (eqb it.interval_i 0) (eqb it.slice_offset 0) (ne_eqb it.interval_i 0 n)
          other (inr n) = and_false_right (eqb it.interval_i 0) (eqb it.slice_offset 0) (ne_eqb it.slice_offset 0 n)

      pub root_placed : it.interval_i ≡ 0 → it.slice_offset ≡ 0 → Placed pool t it (Ok (record { index = 0; at = 0; end = 0 }))
      unfolding remaining child
      root_placed i o =
          record {
            number = sym (refusal_is ∙ ap (λ (x : Bool). pick x 0 7) (stands_root ∙ and_true (eqb it.interval_i 0) (eqb it.slice_offset 0) (eq-eqb it.interval_i 0 i) (eq-eqb it.slice_offset 0 o)));
            place =
                record {
                  ordered = omega arith;
                  inside = omega arith;
                  passed = omega arith;
                  rest = simp (eq-eqb it.depth 0 z);
                  index = simp (eq-eqb it.depth 0 z);
                };
          }

    module _ (b : 0 < it.depth) where
      there : Standing pool t it → stands_below pool t it ≡ true → Placed pool t it (place_below pool t it)
      unfolding place_below remaining child
      there w e =
          let l = layer_of pool t it in
          let i = it.interval_i in
          let n = ne_eqb it.depth 0 (λ z. omega arith) in
          let f = layer_fits {d = it.depth - 1} (header_told (length pool) t h) (omega (arith, w.deep)) in
          let k = keys_long pool f in
          simp e (
          record {
            number = sym (refusal_is ∙ ap (λ (x : Bool). pick x 0 7) (stands_below_lem b ∙ e));
            place =
                record {
                  ordered = omega arith;
                  inside = omega arith;
                  passed = omega arith;
                  rest = run_part pool (spot t.start t.capacity (it.depth - 1)) (data_len_at t (it.depth - 1)) (group_from l i) (group_to l i) it.slice_offset (omega arith) ∙ simp n;
                  index = simp n;
                };
          }
          )

      pub below_placed : Placed pool t it (place_below pool t it)
      below_placed = go (stands_below pool t it) refl
        where
          go : (x : Bool) → stands_below pool t it ≡ x → Placed pool t it (place_below pool t it)
          go false e = subst (Placed pool t it) (misplaced pool t it e) (refused_as BadCursor (sym (refusal_is ∙ ap (λ (x : Bool). pick x 0 7) (stands_below_lem b ∙ e))))
          go true e = there (stands_told pool t it e) e
