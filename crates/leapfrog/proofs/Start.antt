-- The words that a row holds where a walk starts have no part in its seeks.
-- Idea: whether a row is written or does not fit goes by the count of rows and the window's length alone.
use Prim.Native.Nat.{ℕ, zero, suc, ◌+◌, ◌*◌, ◌≤◌}
use native.Mathlib.Omega.{arith}
use mathlib.Core.Path.{◌≡◌, refl, sym, subst, ap, ◌∙◌}
use mathlib.Core.Logic.{⊎_elim}
use mathlib.Core.Bool.{Bool, true, false}
use mathlib.Core.List.{List, [], ◌∷◌, map}
use lib.ListN.{length, set, take, replicate, length-take, length-set, length-replicate}
use lib.Dec.{leb}
use Rattle.relation.specs.Order.{Row, pick}
use Rattle.relation.specs.Lists.{◌∈◌, not_in_nil, in_cons}
use Rattle.query.specs.Meaning.{Atom}
use Rattle.query.specs.Meet.{total}
use Rattle.query.specs.Solve.{bind, runs}
use Rattle.query.specs.Window.{Progress, emit, emits, pasted, begin}
use Rattle.query.proofs.Window.{emits_length}
use Rattle.leapfrog.specs.Search.{Stop, on, out, Went, none, init_of}
use Rattle.leapfrog.specs.Walk.{Tally, counted, by_stop, onward_of, depth_of, walk_of, capped, join_seeks}
use Rattle.leapfrog.proofs.Walk.{walk_leaf, walk_depth}

-- two windows of one length with as many rows, and as many seeks
pub record Alike (a b : Tally) : Type 0 where
  pub rows : a.progress.count ≡ b.progress.count
  pub full : a.progress.full ≡ b.progress.full
  pub long : length a.progress.words ≡ length b.progress.words
  pub seeks : a.seeks ≡ b.seeks

-- ---- one row

-- the count and whether it is full, after one row more
unfoldable told : ℕ → Bool → ℕ → ℕ → ℕ × Bool
told n full c l = pick full (c, true) (pick (leb ((c + 1) * n) l) (c + 1, false) (c, true))

abbrev shown : Progress → ℕ × Bool
shown t = (t.count, t.full)

emit_told : (n : ℕ) (s : Progress) (row : Row) → shown (emit n s row) ≡ told n s.full s.count (length s.words)
unfolding emit told
emit_told n s row = go s.full refl (leb ((s.count + 1) * n) (length s.words))
  where
    go : (a : Bool) → s.full ≡ a → (b : Bool) → shown (pick a s (pick b (record { words = pasted s.words (s.count * n) row; count = s.count + 1; full = false }) (record { words = s.words; count = s.count; full = true }))) ≡ pick a (s.count, true) (pick b (s.count + 1, false) (s.count, true))
    go true e b = ap (λ (f : Bool). (s.count, f)) e
    go false e true = refl
    go false e false = refl

emit_long : (n : ℕ) (s : Progress) (row : Row) → length row ≡ n → length (emit n s row).words ≡ length s.words
unfolding emits
emit_long n s row e = emits_length n (row ∷ []) s (λ r m. ⊎_elim (λ (i : r ≡ row). ap length i ∙ e) (λ (i : r ∈ []). absurd (not_in_nil i)) (in_cons m))

module _ (n : ℕ) {a b : Tally} (row row' : Row) (h : n ≤ length row) (h' : n ≤ length row') (i : Alike a b) where
  leaf_alike : Alike (record { progress = emit n a.progress (take n row); seeks = a.seeks }) (record { progress = emit n b.progress (take n row'); seeks = b.seeks })
  leaf_alike = record {
    rows = ap (λ (t : ℕ × Bool). t.0) same;
    full = ap (λ (t : ℕ × Bool). t.1) same;
    long = emit_long n a.progress (take n row) (omega (arith, length-take n row)) ∙ (i.long ∙ sym (emit_long n b.progress (take n row') (omega (arith, length-take n row'))));
    seeks = i.seeks;
  }
    where
      same : shown (emit n a.progress (take n row)) ≡ shown (emit n b.progress (take n row'))
      same = emit_told n a.progress (take n row) ∙ ((cc (i.rows, i.full, i.long)) ∙ sym (emit_told n b.progress (take n row')))

-- ---- the walk

counted_alike : (n : ℕ) {a b : Tally} → Alike a b → Alike (counted n a) (counted n b)
counted_alike n i = record { rows = i.rows; full = i.full; long = i.long; seeks = ap (λ (m : ℕ). m + n) i.seeks }

pick_alike : {p q : Bool} {a b c d : Tally} → p ≡ q → Alike a b → Alike c d → Alike (pick p a c) (pick q b d)
pick_alike {p} {q} {a} {b} {c} {d} e i j = subst (λ (q : Bool). Alike (pick p a c) (pick q b d)) e (go p)
  where
    go : (p : Bool) → Alike (pick p a c) (pick p b d)
    go true = i
    go false = j

module _ {below below' : ℕ → Tally → Tally} (f : (x : ℕ) (a b : Tally) → Alike a b → Alike (below x a) (below' x b)) (last : Bool) (opened : List (List ℕ)) where
  depth_alike : (fuel : ℕ) (w : Went) {a b : Tally} → Alike a b → Alike (depth_of below last opened fuel w a) (depth_of below' last opened fuel w b)
  unfolding depth_of
  depth_alike zero w i = i
  depth_alike (suc fuel) w {a} {b} i = go (λ v c d j. depth_alike fuel v j) w.stop
    where
      go : ((v : Went) (c d : Tally) → Alike c d → Alike (depth_of below last opened fuel v c) (depth_of below' last opened fuel v d)) → (s : Stop) → Alike (by_stop s (counted w.seeks a) (λ (x : ℕ). pick (below x (counted w.seeks a)).progress.full (below x (counted w.seeks a)) (depth_of below last opened fuel (onward_of last opened w x) (below x (counted w.seeks a))))) (by_stop s (counted w.seeks b) (λ (x : ℕ). pick (below' x (counted w.seeks b)).progress.full (below' x (counted w.seeks b)) (depth_of below' last opened fuel (onward_of last opened w x) (below' x (counted w.seeks b)))))
      go ih out = counted_alike w.seeks i
      go ih (on x) = let j = f x _ _ (counted_alike w.seeks i) in pick_alike j.full j (ih (onward_of last opened w x) _ _ j)

walk_alike : (n : ℕ) (vs : List ℕ) (atoms : List Atom) (row row' : Row) → n ≤ length row → n ≤ length row' → {a b : Tally} → Alike a b → Alike (walk_of n vs atoms row a) (walk_of n vs atoms row' b)
walk_alike n [] atoms row row' h h' {a} {b} i = rw (walk_leaf n atoms row a, walk_leaf n atoms row' b) (leaf_alike n row row' h h' i)
walk_alike n (v ∷ vs) atoms row row' h h' {a} {b} i =
    rw (walk_depth n v vs atoms row a, walk_depth n v vs atoms row' b)
    (depth_alike (λ x c d j. walk_alike n vs (map (bind v x) atoms) (set row v x) (set row' v x) (omega (arith, length-set row v x)) (omega (arith, length-set row' v x)) j) (none vs) (runs v atoms) (suc (total (runs v atoms))) (init_of (runs v atoms)) i)

-- a walk from any row of n words or more makes the join's seeks
pub any_row : (n : ℕ) (order : List ℕ) (atoms : List Atom) (row w : List ℕ) → n ≤ length row → capped (walk_of n order atoms row (record { progress = begin w; seeks = 0 })).seeks ≡ join_seeks n order atoms w
unfolding join_seeks
any_row n order atoms row w h = ap capped (walk_alike n order atoms row (replicate n 0) h (omega (arith, length-replicate {A = ℕ} n 0)) (record { rows = refl; full = refl; long = refl; seeks = refl })).seeks
