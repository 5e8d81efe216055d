-- The goals of `next_in` that the check leaves.
use Prim.Native.Nat.{ℕ, ◌+◌, ◌≤◌, ◌<◌}
use native.Mathlib.Omega.{arith}
use native.Mathlib.Numerals.{add-one}
use mathlib.Core.Path.{◌≡◌, sym, subst, ap, ◌∙◌}
use mathlib.Core.List.{[], ◌∷◌, ◌++◌}
use lib.ListN.{length, get_or, take, length-map}
use lib.Seq.{take-suc, length-take-le}
use borrow.Author.Rules.{rules}
use Rattle.query.proofs.Beyond.{keys_ascend}
use Rattle.column_trie.specs.Limits.{max_arity}
use Rattle.column_trie.specs.Table.{layer_in, rows_in}
use Rattle.column_trie.proofs.Layers.{Whole}
use Rattle.column_trie.proofs.Header.{told_header}
use Rattle.column_trie.proofs.Stored.{in_pool}
use Rattle.relation.specs.Order.{Row}
use Rattle.relation.specs.Lists.{◌∈◌, Ascends}
use Rattle.relation.specs.Layers.{Layer, keys_under}
use Rattle.relation.specs.Runs.{from}
use Rattle.std.specs.Prelude.{List, Result, Some, None, slice_get}
use Rattle.std.specs.Result.{result_ok}
use Rattle.std.specs.Ordering.{nat_cmp}
use Rattle.std.specs.List.Sorted.{IsBinarySearchResult}
use Rattle.std.proofs.lemmas.List.Sorted.{IsPartitionPoint-from_clause}
use Rattle.plain_keys.specs.Keys.{words, bound, group_at, group_keys, Grouped, head_of}
use Rattle.plain_keys.proofs.Descent.{Under, At, at_the_root, at_under, at_key, at_grouped, wide}
use Rattle.plain_keys.proofs.Found.{words_at, is_at, is_none, item_copied, early, parted, first_from, head_missing}
use Rattle.plain_keys.proofs.next_in.Goals as goal
use Rattle.plain_keys.proofs.next_in.Goals.{Start}

whole : (s : Start) → Whole s.args.t
whole s = record { data_long = search rules; interval_long = search rules }

-- the row's words for the atom's variables
abbrev given : Start → Row
given s = words s.args.a s.args.row

short : (s : Start) → s.args.len < length (given s)
short s =
    let w : length s.args.a.variables ≡ max_arity = search rules in
    omega (arith, s.requires.1, s.requires.0.arity, length-map s.args.a.variables (λ (x : ℕ). get_or s.args.row x 0))

-- the word sought in a column
word_is : (s : Start) (d : ℕ) → d ≤ s.args.len → get_or (given s) d 0 ≡ get_or s.args.row (get_or s.args.a.variables d 0) 0
word_is s d h =
    let w : length s.args.a.variables ≡ max_arity = search rules in
    words_at s.args.a.variables s.args.row d (omega (arith, s.requires.1, s.requires.0.arity))

pub invariant_of-rows-clause-sound : goal.invariant_of-rows-clause-sound
invariant_of-rows-clause-sound c = told_header (length c.args.pool.now) c.args.t (in_pool c.requires.0)

pub invariant_of-rows-2-clause-sound : goal.invariant_of-rows-2-clause-sound
invariant_of-rows-2-clause-sound c = told_header (length c.args.pool.now) c.args.t (in_pool c.requires.0)

pub loop-d-init : goal.loop-d-init
loop-d-init c = (at_the_root c.args.pool.now c.args.t, omega arith)

-- the keys that follow the words of the columns passed
under : (s : Start) (d i : ℕ) → d ≤ s.args.len → At s.args.pool.now s.args.t d i (take d (given s)) → Under (layer_in s.args.pool.now s.args.t d).keys (rows_in s.args.pool.now s.args.t) (take d (given s)) (group_at (layer_in s.args.pool.now s.args.t d) i) (group_at (layer_in s.args.pool.now s.args.t d) (i + 1))
under s d i h a = at_under (whole s) s.requires.0 d (omega (arith, s.requires.1)) a

-- a word before the last column that is not there
absent : (s : Start) (d : ℕ) → d < s.args.len → (get_or (given s) d 0 ∈ keys_under (take d (given s)) (rows_in s.args.pool.now s.args.t) → ⊥) → None ≡ head_of (from (bound s.args.past (get_or (given s) s.args.len 0)) (keys_under (take s.args.len (given s)) (rows_in s.args.pool.now s.args.t)))
absent s d h n = head_missing (given s) d s.args.len (bound s.args.past (get_or (given s) s.args.len 0)) (wide (whole s) s.requires.0) h (omega (arith, short s)) s.requires.1 n

long : (s : Start) (d : ℕ) → d < s.args.len → length (take d (given s)) < s.args.t.arity
long s d h = omega (arith, length-take-le d (given s) (omega (arith, short s)), s.requires.1)

ascend : (s : Start) (d i : ℕ) → d ≤ s.args.len → At s.args.pool.now s.args.t d i (take d (given s)) → Ascends ◌<◌ (group_keys (layer_in s.args.pool.now s.args.t d) i)
ascend s d i h a = subst (Ascends ◌<◌) (sym (under s d i h a).run) (keys_ascend (take d (given s)) (wide (whole s) s.requires.0) (omega (arith, length-take-le d (given s) (omega (arith, short s)), s.requires.1)))

pub group-first-requires : goal.group-first-requires
group-first-requires c =
    let s = (goal.at.group-first-requires c).Start in
    subst (λ (l : Layer). Grouped l c.loop-d.i) (sym c.layer.ensures) (at_grouped (whole s) s.requires.0 c.loop-d.d (omega arith) c.loop-d.invariant.0 (omega (arith, c.loop-d.invariant.1, c.well_formed)))

-- what the search for a column's word says
module _ (s : Start) (d i : ℕ) (h : d < s.args.len) (a : At s.args.pool.now s.args.t d i (take d (given s))) {l : List ℕ} (e : l ≡ group_keys (layer_in s.args.pool.now s.args.t d) i) where
  rise : Ascends ◌<◌ l
  rise = subst (Ascends ◌<◌) (sym e) (ascend s d i (omega arith) a)

  stuck : (r : Result ℕ ℕ) → IsBinarySearchResult (λ y. nat_cmp y (get_or s.args.row (get_or s.args.a.variables d 0) 0)) l r → result_ok r ≡ None → None ≡ head_of (from (bound s.args.past (get_or (given s) s.args.len 0)) (keys_under (take s.args.len (given s)) (rows_in s.args.pool.now s.args.t)))
  stuck r b n =
      absent s d h (λ m. is_none rise (get_or s.args.row (get_or s.args.a.variables d 0) 0) r b n (subst (λ (k : ℕ). k ∈ l) (word_is s d (omega arith)) (subst (λ (x : List ℕ). get_or (given s) d 0 ∈ x) (sym (e ∙ (under s d i (omega arith) a).run)) m)))

  step : (r : Result ℕ ℕ) {j : ℕ} → IsBinarySearchResult (λ y. nat_cmp y (get_or s.args.row (get_or s.args.a.variables d 0) 0)) l r → result_ok r ≡ Some j → At s.args.pool.now s.args.t (d + 1) (group_at (layer_in s.args.pool.now s.args.t d) i + j) (take (d + 1) (given s)) × (group_at (layer_in s.args.pool.now s.args.t d) i + j ≤ length s.args.pool.now)
  step r {j} b q =
      let word = get_or s.args.row (get_or s.args.a.variables d 0) 0 in
      let f = subst (λ (x : List ℕ). (j < length x) × (get_or x j 0 ≡ word)) e (is_at rise word r b q) in
      let t = at_key (whole s) s.requires.0 d (omega (arith, s.requires.1)) a j f.0 in
      let z : take d (given s) ++ get_or (group_keys (layer_in s.args.pool.now s.args.t d) i) j 0 ∷ [] ≡ take (d + 1) (given s) =
      ap (λ (x : ℕ). take d (given s) ++ x ∷ []) (f.1 ∙ sym (word_is s d (omega arith))) ∙ sym (take-suc (given s) d 0 (omega (arith, short s))) ∙ ap (λ (m : ℕ). take m (given s)) (sym (add-one d)) in
      (subst (At s.args.pool.now s.args.t (d + 1) (group_at (layer_in s.args.pool.now s.args.t d) i + j)) z t.0, t.1)

pub returns-in_err-i : goal.returns-in_err-i
returns-in_err-i c =
    let s = (goal.at.returns-in_err-i c).Start in
    c.from_residual.ensures ∙ stuck s c.loop-d.d c.loop-d.i (omega arith) c.loop-d.invariant.0 (c.group-first.ensures.1 ∙ ap (λ (l : Layer). group_keys l c.loop-d.i) c.layer.ensures) c.binary_search.result c.binary_search.ensures.position (sym c.ok.ensures.value ∙ c.in_err-i.was)

pub overflow_add-i : goal.overflow_add-i
overflow_add-i c =
    let s = (goal.at.overflow_add-i c).Start in
    omega (arith, (step s c.loop-d.d c.loop-d.i (omega arith) c.loop-d.invariant.0 (c.group-first.ensures.1 ∙ ap (λ (l : Layer). group_keys l c.loop-d.i) c.layer.ensures) c.binary_search.result c.binary_search.ensures.position (sym c.ok.ensures.value ∙ c.in_ok-i.was)).1, (c.group-first.ensures.0 ∙ ap (λ (l : Layer). group_at l c.loop-d.i) c.layer.ensures), c.well_formed)

pub loop-d-preserved : goal.loop-d-preserved
loop-d-preserved c =
    let s = (goal.at.loop-d-preserved c).Start in
    let a = c.args in
    let d = c.loop-d.d in
    let j = c.in_ok-i.field-0 in
    subst (λ (n : ℕ). At a.pool.now a.t (d + 1) (n + j) (take (d + 1) (given s)) × (n + j ≤ length a.pool.now)) (sym (c.group-first.ensures.0 ∙ ap (λ (l : Layer). group_at l c.loop-d.i) c.layer.ensures))
    (step s d c.loop-d.i (omega arith) c.loop-d.invariant.0 (c.group-first.ensures.1 ∙ ap (λ (l : Layer). group_keys l c.loop-d.i) c.layer.ensures) c.binary_search.result c.binary_search.ensures.position (sym c.ok.ensures.value ∙ c.in_ok-i.was))

pub group-requires : goal.group-requires
group-requires c =
    let s = (goal.at.group-requires c).Start in
    let e : c.loop-d.d ≡ c.args.len = omega arith in
    subst (λ (l : Layer). Grouped l c.loop-d.i) (ap (layer_in c.args.pool.now c.args.t) e ∙ sym c.layer-2.ensures) (at_grouped (whole s) s.requires.0 c.loop-d.d (omega (arith, s.requires.1)) c.loop-d.invariant.0 (omega (arith, c.loop-d.invariant.1, c.well_formed)))

pub returns : goal.returns
returns c =
    let s = (goal.at.returns c).Start in
    let l : List ℕ = c.group.result.1.now in
    let got : c.copied.result ≡ slice_get l c.partition_point-at.result = c.copied.ensures ∙ item_copied l c.partition_point-at.result c.get.result c.get.ensures.lookup in
    let e : c.loop-d.d ≡ c.args.len = omega arith in
    let u = subst (λ (d : ℕ). At c.args.pool.now c.args.t d c.loop-d.i (take d (given s))) e c.loop-d.invariant.0 in
    let keys = c.group.ensures.1 ∙ ap (λ (m : Layer). group_keys m c.loop-d.i) c.layer-2.ensures in
    let rise = subst (Ascends ◌<◌) (sym keys) (ascend s c.args.len c.loop-d.i (omega arith) u) in
    let word = get_or c.args.row (get_or c.args.a.variables c.args.len 0) 0 in
    let point = IsPartitionPoint-from_clause (early c.args.past word) _ _ c.partition_point-at.ensures.partitioned (parted rise c.args.past word) (λ x r q k. search rules) in
    got ∙ first_from rise c.args.past word point c.partition_point-at.ensures.bound
    ∙ ap (λ (k : ℕ). head_of (from (bound c.args.past k) l)) (sym (word_is s c.args.len (omega arith)))
    ∙ ap (λ (x : List ℕ). head_of (from (bound c.args.past (get_or (given s) c.args.len 0)) x)) (keys ∙ (under s c.args.len c.loop-d.i (omega arith) u).run)
