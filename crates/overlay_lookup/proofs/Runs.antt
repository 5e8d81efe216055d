-- The lookup's definitions case by case, and where the run that they name lies.
use Prim.Native.Nat.{ℕ, ◌+◌, ◌-◌, ◌≤◌, ◌<◌}
use mathlib.Core.Path.{◌≡◌, refl, sym, ap, ap₂, ◌∙◌, subst}
use mathlib.Core.Bool.{Bool, true, false, ◌&&◌}
use mathlib.Core.List.{List}
use Rattle.std.specs.Prelude.{Option, Some, None}
use native.Mathlib.Omega.{arith}
use lib.ListN.{length, take, drop}
use lib.Dec.{eqb, ltb}
use borrow.Author.Tests.{eqb-true, eqb-false, eq-eqb, ne_eqb, le-ltb, ltb-false}
use Rattle.relation.specs.Order.{pick}
use Rattle.relation.proofs.Tests.{and_true, and_right, and_false_left, and_false_right}
use Rattle.seek.specs.Seek.{seek_of}
use Rattle.seek.specs.declared.SeekStrategy.TheVariants.{Binary}
use Rattle.seek.specs.declared.Sought.{Sought}
use Rattle.column_trie.specs.Groups.{lies}
use Rattle.column_trie.specs.Table.{layer_in, header_sound}
use Rattle.column_trie.specs.declared.ColumnTrie.{ColumnTrie}
use Rattle.column_trie.proofs.Damage.{undamaged_header}
use Rattle.column_trie.proofs.Header.{header_told, layer_fits}
use Rattle.column_trie.proofs.Groups.{keys_long}
use Rattle.column_trie_place.proofs.Groups.{lies_told}
use Rattle.laid_over.proofs.Shape.{shape_decides}
use Rattle.overlay_checks.specs.Tables.{tables_number}
use Rattle.overlay_checks.proofs.Tables.{Clear, number_clear, clear_number}
use Rattle.overlay_lookup.specs.Lookup.{lookup_number, children_at, found_in, no_run, owners_run, looked_up, run_in}
use Rattle.overlay_lookup.specs.declared.LookedUp.{LookedUp}
use Rattle.overlay_lookup.specs.declared.Run.{Run}

-- ---- one table

abbrev pub Inside : List ℕ → Option Run → Type 0
Inside pool (Some r) = r.from + r.len ≤ length pool
Inside pool None = Unit

module _ (pool : List ℕ) (t : ColumnTrie) (k : ℕ) where
  abbrev sought : Sought
  sought = seek_of Binary (layer_in pool t 0).keys k

  abbrev there : Bool
  there = sought.hit && lies (layer_in pool t 1) sought.offset

  by_test : (b : Bool) → there ≡ b → pick b (Some (children_at pool t sought.offset)) None ≡ found_in pool t k
  unfolding found_in
  by_test b e = sym (ap (λ (c : Bool). pick c (Some (children_at pool t sought.offset)) None) e)

  pub found_missed : sought.hit ≡ false → None ≡ found_in pool t k
  found_missed e = by_test false (and_false_left sought.hit (lies (layer_in pool t 1) sought.offset) e)

  pub found_outside : lies (layer_in pool t 1) sought.offset ≡ false → None ≡ found_in pool t k
  found_outside e = by_test false (and_false_right sought.hit (lies (layer_in pool t 1) sought.offset) e)

  pub found_there : sought.hit ≡ true → lies (layer_in pool t 1) sought.offset ≡ true → Some (children_at pool t sought.offset) ≡ found_in pool t k
  found_there h e = by_test true (and_true sought.hit (lies (layer_in pool t 1) sought.offset) h e)

  -- the run lies in the pool
  pub found_inside : header_sound (length pool) t ≡ true → 1 < t.arity → Inside pool (found_in pool t k)
  found_inside h d = subst (Inside pool) (by_test there refl) (go there refl)
    where
      go : (b : Bool) → there ≡ b → Inside pool (pick b (Some (children_at pool t sought.offset)) None)
      go true e =
          let f = layer_fits (header_told (length pool) t h) d in
          let l = lies_told (layer_in pool t 1) sought.offset (and_right sought.hit (lies (layer_in pool t 1) sought.offset) e) in
          omega (arith, f, l.1, l.2, keys_long pool f)
      go false e = tt

-- ---- both

module _ (sp : List ℕ) (s : ColumnTrie) (mp : List ℕ) (m : ColumnTrie) where
  pub number_refused : (tables_number sp s mp m ≡ 0 → ⊥) → tables_number sp s mp m ≡ lookup_number sp s mp m
  unfolding lookup_number
  number_refused z = sym (ap (λ (b : Bool). pick b (pick (ltb s.arity 2) 1 0) (tables_number sp s mp m)) (ne_eqb (tables_number sp s mp m) 0 z))

  by_arity : (b : Bool) → tables_number sp s mp m ≡ 0 → ltb s.arity 2 ≡ b → pick b 1 0 ≡ lookup_number sp s mp m
  unfolding lookup_number
  by_arity b z e = sym (ap₂ {C = ℕ} (λ (c d : Bool). pick c (pick d 1 0) (tables_number sp s mp m)) (eq-eqb (tables_number sp s mp m) 0 z) e)

  -- what no number tells
  pub record Deep : Type 0 where
    pub tables : Clear sp s mp m
    pub arity : 1 < s.arity
    pub same : s.arity ≡ m.arity

  pub number_deep : lookup_number sp s mp m ≡ 0 → Deep
  number_deep e = go (eqb (tables_number sp s mp m) 0) (ltb s.arity 2) refl refl
    where
      go : (a b : Bool) → eqb (tables_number sp s mp m) 0 ≡ a → ltb s.arity 2 ≡ b → Deep
      go true false p q =
          let c = number_clear sp s mp m (eqb-true (tables_number sp s mp m) 0 p) in
          record { tables = c; arity = omega (arith, ltb-false s.arity 2 q); same = ((shape_decides s m).0 c.shape).arity }
      go true true p q = absurd (omega (arith, e, by_arity true (eqb-true (tables_number sp s mp m) 0 p) q))
      go false b p q = let z = eqb-false (tables_number sp s mp m) 0 p in absurd (z (number_refused z ∙ e))

  pub deep_number : Deep → lookup_number sp s mp m ≡ 0
  deep_number d = sym (by_arity false (clear_number sp s mp m d.tables) (le-ltb s.arity 2 d.arity))

  pub school_searched : Deep → (header_sound (length sp) s ≡ true) × (1 < s.arity)
  school_searched d = (undamaged_header sp s d.tables.school, d.arity)

  pub maker_searched : Deep → (header_sound (length mp) m ≡ true) × (1 < m.arity)
  maker_searched d = (undamaged_header mp m d.tables.maker, omega (arith, d.arity, d.same))

  module _ (k : ℕ) where
    pub look_refused : (lookup_number sp s mp m ≡ 0 → ⊥) → no_run (lookup_number sp s mp m) ≡ looked_up sp s mp m k
    unfolding looked_up
    look_refused z = sym (ap (λ (b : Bool). pick b (owners_run (found_in sp s k) (found_in mp m k)) (no_run (lookup_number sp s mp m))) (ne_eqb (lookup_number sp s mp m) 0 z))

    pub look_found : lookup_number sp s mp m ≡ 0 → owners_run (found_in sp s k) (found_in mp m k) ≡ looked_up sp s mp m k
    unfolding looked_up
    look_found z = sym (ap (λ (b : Bool). pick b (owners_run (found_in sp s k) (found_in mp m k)) (no_run (lookup_number sp s mp m))) (eq-eqb (lookup_number sp s mp m) 0 z))

    -- the run lies in the pool that it names
    abbrev Lies : LookedUp → Type 0
    Lies r = r.from + r.len ≤ length (pick r.from_school sp mp)

    pub look_inside : Lies (looked_up sp s mp m k)
    look_inside = go (eqb (lookup_number sp s mp m) 0) refl
      where
        found : (f g : Option Run) → Inside sp f → Inside mp g → Lies (owners_run f g)
        found (Some r) g i j = i
        found None (Some r) i j = j
        found None None i j = omega arith

        go : (b : Bool) → eqb (lookup_number sp s mp m) 0 ≡ b → Lies (looked_up sp s mp m k)
        go true e =
            let z = eqb-true (lookup_number sp s mp m) 0 e in
            let d = school_searched (number_deep z) in
            let h = maker_searched (number_deep z) in
            subst Lies (look_found z) (found (found_in sp s k) (found_in mp m k) (found_inside sp s k d.0 d.1) (found_inside mp m k h.0 h.1))
        go false e = subst Lies (look_refused (eqb-false (lookup_number sp s mp m) 0 e)) (omega arith)

  -- the words from `from` on are the run's
  pub run_is : {r : LookedUp} (k : ℕ) → r ≡ looked_up sp s mp m k → {pool : List ℕ} → pool ≡ pick r.from_school sp mp → take (r.from + r.len - r.from) (drop r.from pool) ≡ run_in sp mp (looked_up sp s mp m k)
  unfolding run_in
  run_is {r} k e {pool} f =
      let n : r.from + r.len - r.from ≡ r.len = omega arith in
      ap₂ {C = List ℕ} (λ (x : ℕ) (p : List ℕ). take x (drop r.from p)) n f ∙ ap (λ (x : LookedUp). take x.len (drop x.from (pick x.from_school sp mp))) e

  pub run_inside : {r : LookedUp} (k : ℕ) → r ≡ looked_up sp s mp m k → {pool : List ℕ} → pool ≡ pick r.from_school sp mp → r.from + r.len ≤ length pool
  run_inside {r} k e f = omega (arith, subst (Lies k) (sym e) (look_inside k), ap length f)
