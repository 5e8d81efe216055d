-- The first keys of a table: they stand in one run, that of the root's group.
-- Idea: rows, if there are any, have one beginning of no words; so the first layer has one group.
use Prim.Native.Nat.{ℕ, ◌+◌, ◌-◌, ◌≤◌, ◌<◌}
use native.Mathlib.Omega.{arith}
use mathlib.Core.Path.{◌≡◌, refl, subst, ap, ◌∙◌}
use mathlib.Core.Logic.{⊎_elim}
use mathlib.Core.List.{List, [], ◌∷◌, ◌++◌, map, append-nil}
use lib.ListN.{length, get_or, take}
use Rattle.relation.specs.Order.{Row}
use Rattle.relation.specs.Lists.{◌∈◌, hd, not_in_nil, in_cons, Ascends, anone, amore}
use Rattle.relation.specs.Rows.{as_set}
use Rattle.relation.specs.Layers.{Layer, prefixes, under, keys_under, groups_at, joined, starts, layer_at}
use Rattle.relation.proofs.Sorting.{as_set_is}
use Rattle.relation.proofs.Intervals.{prefix_root}
use Rattle.query.proofs.Meet.{get_or_in}
use Rattle.query.proofs.Beyond.{keys_ascend}
use Rattle.column_trie.specs.Pool.{spot}
use Rattle.column_trie.specs.Table.{data_len_at, rows_in, Undamaged}
use Rattle.column_trie.specs.declared.ColumnTrie.{ColumnTrie}
use Rattle.leapfrog_search.specs.Leapfrog.{part}
use Rattle.leapfrog_search.proofs.Parts.{part_length, part_at}
use Rattle.join_query.proofs.Accepted.{table_wide}
use Rattle.join_plan.specs.Plan.{firsts_end}
use Rattle.join_depths.specs.Depth.{Placed}
use Rattle.join_depths.proofs.Groups as groups

-- ---- the first layer

no_words : (rows : List Row) {q : Row} → q ∈ map (take 0) rows → q ≡ []
no_words [] m = absurd (not_in_nil m)
no_words (r ∷ rows) m = ⊎_elim (λ e. e) (λ i. no_words rows i) (in_cons m)

root_only : (r : Row) (rows : List Row) → prefixes 0 (r ∷ rows) ≡ [] ∷ []
unfolding prefixes
root_only r rows =
    as_set_is (amore (λ q m. absurd (not_in_nil m)) anone)
    (λ q. (λ m. hd (no_words (r ∷ rows) m), λ m. ⊎_elim (λ (e : q ≡ []). hd e) (λ i. absurd (not_in_nil i)) (in_cons m)))

pub record FirstLayer (rows : List Row) : Type 0 where
  pub keys : (layer_at 0 rows).keys ≡ keys_under [] rows
  pub begins : get_or (layer_at 0 rows).intervals 0 0 ≡ 0
  pub ends : get_or (layer_at 0 rows).intervals 1 (length (layer_at 0 rows).keys) ≡ length (layer_at 0 rows).keys

pub first_layer : (rows : List Row) → FirstLayer rows
unfolding layer_at groups_at joined starts prefixes as_set keys_under under
first_layer [] = record { keys = refl; begins = refl; ends = refl }
first_layer (r ∷ rows) =
    let e : layer_at 0 (r ∷ rows) ≡ record { keys = joined (map (λ p. keys_under p (r ∷ rows)) ([] ∷ [])); intervals = starts 0 (map (λ p. keys_under p (r ∷ rows)) ([] ∷ [])) } =
    ap (λ (ps : List Row). record { keys = joined (map (λ p. keys_under p (r ∷ rows)) ps); intervals = starts 0 (map (λ p. keys_under p (r ∷ rows)) ps) }) (root_only r rows) in
    record {
      keys = ap (λ (l : Layer). l.keys) e ∙ append-nil (keys_under [] (r ∷ rows));
      begins = ap (λ (l : Layer). get_or l.intervals 0 0) e;
      ends = ap (λ (l : Layer). get_or l.intervals 1 (length (layer_at 0 (r ∷ rows)).keys)) e;
    }

-- where there are first keys, there is the root
there : (rows : List Row) → 0 < length (prefixes 1 rows) → 0 < length (prefixes 0 rows)
unfolding prefixes as_set
there [] h = absurd (omega arith)
there (r ∷ rows) h = omega (arith, ap length (root_only r rows))

-- ---- in the pool

module _ {pool : List ℕ} {t : ColumnTrie} (u : Undamaged pool t) where
  abbrev rows : List Row
  rows = rows_in pool t

  positive : 0 < t.arity
  positive = u.arity.0

  count : data_len_at t 0 ≡ length (layer_at 0 (rows_in pool t)).keys
  count = groups.key_count u 0 positive

  pub firsts_in : firsts_end t ≤ length pool
  firsts_in = omega (arith, groups.keys_in u 0 positive)

  pub first_run : part pool (spot t.start t.capacity 0) (firsts_end t) ≡ keys_under [] (rows_in pool t)
  first_run = groups.keys_run u 0 positive ∙ (first_layer (rows_in pool t)).keys

  pub first_rises : Ascends ◌<◌ (part pool (spot t.start t.capacity 0) (firsts_end t))
  first_rises = rw first_run (keys_ascend [] (table_wide u) positive)

  pub first_in : (at : ℕ) → spot t.start t.capacity 0 ≤ at → at < firsts_end t → get_or pool at 0 ∈ keys_under [] (rows_in pool t)
  first_in at lo hi =
      let s = spot t.start t.capacity 0 in
      let e : s + (at - s) ≡ at = omega arith in
      subst (λ (l : List ℕ). get_or pool at 0 ∈ l) first_run
      (subst (λ (x : ℕ). x ∈ part pool s (firsts_end t)) (part_at pool s (firsts_end t) (at - s) (omega arith) ∙ ap (λ (i : ℕ). get_or pool i 0) e)
      (get_or_in (part pool s (firsts_end t)) (at - s) 0 (omega (arith, part_length pool s (firsts_end t) firsts_in))))

  -- the place of a first key stands for that word
  pub first_placed : (at : ℕ) → spot t.start t.capacity 0 ≤ at → at < firsts_end t → Placed pool t at (get_or pool at 0 ∷ [])
  first_placed at lo hi =
      let f = first_layer (rows_in pool t) in
      let i : 0 < length (prefixes 0 (rows_in pool t)) = there (rows_in pool t) (omega (arith, groups.key_each u 0 positive)) in
      let c = groups.group_below u 0 positive 0 i at (omega (arith, f.begins)) (omega (arith, f.ends, count)) in
      record { above = lo; under = c.1 ∙ ap (λ (p : Row). p ++ get_or pool at 0 ∷ []) (prefix_root (rows_in pool t)); inside = λ h. c.0 }
