-- A lookup that is not refused gives the keys under its key of the rows that count, out of the pool of the table that owns the key; a refused one gives none.
use Prim.Native.Nat.{ℕ}
use mathlib.Core.Path.{◌≡◌, refl, sym, ap, ◌∙◌, subst}
use mathlib.Core.Bool.{Bool, true, false}
use Rattle.std.specs.Prelude.{Option, Some, None}
use mathlib.Core.List.{List, [], ◌∷◌}
use native.Mathlib.Omega.{arith}
use lib.ListN.{take, drop}
use lib.Dec.{eqb}
use borrow.Author.Tests.{eqb-true}
use Rattle.relation.specs.Order.{pick}
use Rattle.relation.specs.Rows.{Width}
use Rattle.relation.specs.Layers.{keys_under}
use Rattle.column_trie.specs.Table.{rows_in}
use Rattle.column_trie.specs.declared.ColumnTrie.{ColumnTrie}
use Rattle.column_trie.proofs.Damage.{undamaged_told}
use Rattle.trie_iterator.specs.Cursor.{Layered}
use Rattle.trie_iterator.proofs.Held.{undamaged_layered}
use Rattle.overlay.specs.Laid.{owns, laid}
use Rattle.overlay.proofs.Laid.{laid_keys}
use Rattle.overlay_lookup.specs.Lookup.{lookup_number, found_in, no_run, owners_run, looked_up, run_in}
use Rattle.overlay_lookup.specs.declared.LookedUp.{LookedUp}
use Rattle.overlay_lookup.specs.declared.Run.{Run}
use Rattle.overlay_lookup.proofs.Runs.{Deep, number_deep, look_refused, look_found}
use Rattle.lookup_laws.proofs.Found.{Tells, found, words, found_tells}

module _ (sp : List ℕ) (s : ColumnTrie) (mp : List ℕ) (m : ColumnTrie) (k : ℕ) where
  -- what a lookup gives: whose the run is, and its words
  pub record Gives (r : LookedUp) : Type 0 where
    pub owner : r.from_school ≡ owns (rows_in sp s) k
    pub run : run_in sp mp r ≡ keys_under (k ∷ []) (laid (rows_in sp s) (rows_in mp m))

  module _ (e : lookup_number sp s mp m ≡ 0) where
    deep : Deep sp s mp m
    deep = number_deep sp s mp m e

    school : Layered sp s (rows_in sp s)
    school = undamaged_layered (undamaged_told sp s deep.tables.school)

    maker : Layered mp m (rows_in mp m)
    maker = undamaged_layered (undamaged_told mp m deep.tables.maker)

    in_school : Tells sp (rows_in sp s) k (found_in sp s k)
    in_school = found_tells school deep.arity k

    in_maker : Tells mp (rows_in mp m) k (found_in mp m k)
    in_maker = found_tells maker (omega (arith, deep.arity, deep.same)) k

    by_owner : (b : Bool) → owns (rows_in sp s) k ≡ b → pick b (keys_under (k ∷ []) (rows_in sp s)) (keys_under (k ∷ []) (rows_in mp m)) ≡ keys_under (k ∷ []) (laid (rows_in sp s) (rows_in mp m))
    by_owner b o =
        ap (λ (c : Bool). pick c (keys_under (k ∷ []) (rows_in sp s)) (keys_under (k ∷ []) (rows_in mp m))) (sym o) ∙
        sym (laid_keys school.width (subst (λ (a : ℕ). Width a (rows_in mp m)) (sym deep.same) maker.width) k [] deep.arity)

    pub a_lookup_gives_the_keys_under_it_of_the_rows_that_count : Gives (looked_up sp s mp m k)
    unfolding run_in
    a_lookup_gives_the_keys_under_it_of_the_rows_that_count = subst Gives (look_found sp s mp m k e) (go (found_in sp s k) (found_in mp m k) refl refl)
      where
        go : (f g : Option Run) → found_in sp s k ≡ f → found_in mp m k ≡ g → Gives (owners_run f g)
        go (Some r) g p q =
            let o : owns (rows_in sp s) k ≡ true = sym in_school.has ∙ ap found p in
            record { owner = sym o; run = sym (ap (words sp) p) ∙ in_school.run ∙ by_owner true o }
        go None (Some r) p q =
            let o : owns (rows_in sp s) k ≡ false = sym in_school.has ∙ ap found p in
            record { owner = sym o; run = sym (ap (words mp) q) ∙ in_maker.run ∙ by_owner false o }
        go None None p q =
            let o : owns (rows_in sp s) k ≡ false = sym in_school.has ∙ ap found p in
            record { owner = sym o; run = sym (ap (words mp) q) ∙ in_maker.run ∙ by_owner false o }

  pub a_refused_lookup_gives_no_run : (lookup_number sp s mp m ≡ 0 → ⊥) → (looked_up sp s mp m k ≡ no_run (lookup_number sp s mp m)) × (run_in sp mp (looked_up sp s mp m k) ≡ [])
  unfolding run_in
  a_refused_lookup_gives_no_run z = let e = look_refused sp s mp m k z in (sym e, ap (λ (r : LookedUp). take r.len (drop r.from (pick r.from_school sp mp))) (sym e))

  pub the_number_is_the_answers : (looked_up sp s mp m k).number ≡ lookup_number sp s mp m
  unfolding looked_up
  the_number_is_the_answers = go (eqb (lookup_number sp s mp m) 0) (found_in sp s k) (found_in mp m k) refl
    where
      go : (b : Bool) (f g : Option Run) → eqb (lookup_number sp s mp m) 0 ≡ b → (pick b (owners_run f g) (no_run (lookup_number sp s mp m))).number ≡ lookup_number sp s mp m
      go true (Some r) g e = sym (eqb-true (lookup_number sp s mp m) 0 e)
      go true None (Some r) e = sym (eqb-true (lookup_number sp s mp m) 0 e)
      go true None None e = sym (eqb-true (lookup_number sp s mp m) 0 e)
      go false f g e = refl
