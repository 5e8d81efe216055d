-- The steps of the walk as equations, and what bounds its keys.
use Prim.Native.Nat.{ℕ, suc, ◌+◌, ◌≤◌}
use native.Mathlib.Omega.{arith}
use mathlib.Core.Path.{◌≡◌, refl, sym, ap, ◌∙◌}
use mathlib.Core.Bool.{Bool, true, false}
use mathlib.Core.List.{List, [], ◌∷◌, map}
use lib.ListN.{length, set, take}
use lib.Dec.{ltb}
use borrow.Author.Tests.{lt-ltb, ltb-true}
use Rattle.relation.specs.Order.{Row, pick}
use Rattle.relation.specs.Runs.{from}
use Rattle.query.specs.Meaning.{Atom}
use Rattle.query.specs.Meet.{keep, in_all, meet, total}
use Rattle.query.specs.Solve.{bind, runs}
use Rattle.query.specs.Window.{emit}
use Rattle.leapfrog.specs.Search.{on, out, Went, none, init_of}
use Rattle.leapfrog.specs.Walk.{Tally, counted, onward_of, depth_of, walk_of, capped}

module _ (below : ℕ → Tally → Tally) (last : Bool) (opened : List (List ℕ)) (fuel : ℕ) (w : Went) (s : Tally) where
  pub depth_out : w.stop ≡ out → depth_of below last opened (suc fuel) w s ≡ counted w.seeks s
  unfolding depth_of
  depth_out e = simp e

  module _ {x : ℕ} (e : w.stop ≡ on x) where
    pub depth_full : (below x (counted w.seeks s)).progress.full ≡ true → depth_of below last opened (suc fuel) w s ≡ below x (counted w.seeks s)
    unfolding depth_of
    depth_full f = simp (e, f)

    pub depth_on : (below x (counted w.seeks s)).progress.full ≡ false → depth_of below last opened (suc fuel) w s ≡ depth_of below last opened fuel (onward_of last opened w x) (below x (counted w.seeks s))
    unfolding depth_of
    depth_on f = simp (e, f)

pub walk_leaf : (n : ℕ) (atoms : List Atom) (row : Row) (s : Tally) → walk_of n [] atoms row s ≡ record { progress = emit n s.progress (take n row); seeks = s.seeks }
unfolding walk_of
walk_leaf n atoms row s = refl

abbrev pub below_of : ℕ → ℕ → List ℕ → List Atom → Row → ℕ → Tally → Tally
below_of n v vs atoms row k t = walk_of n vs (map (bind v k) atoms) (set row v k) t

pub walk_depth : (n v : ℕ) (vs : List ℕ) (atoms : List Atom) (row : Row) (s : Tally) → walk_of n (v ∷ vs) atoms row s ≡ depth_of (below_of n v vs atoms row) (none vs) (runs v atoms) (suc (total (runs v atoms))) (init_of (runs v atoms)) s
unfolding walk_of
walk_depth n v vs atoms row s = refl

-- a cap once is a cap twice
pub capped_twice : (a b : ℕ) → capped (capped a + b) ≡ capped (a + b)
capped_twice a b = omega arith

-- two cuts of a run are the later one
pub from_from : (x y : ℕ) → x ≤ y → (r : List ℕ) → from y (from x r) ≡ from y r
unfolding from
from_from x y h [] = refl
from_from x y h (z ∷ r) = go (from_from x y h r) (ltb z x) refl
  where
    go : from y (from x r) ≡ from y r → (b : Bool) → ltb z x ≡ b → from y (pick b (from x r) (z ∷ r)) ≡ from y (z ∷ r)
    go ih true q = ih ∙ sym (ap (λ (b : Bool). pick b (from y r) (z ∷ r)) (lt-ltb z y (omega (arith, ltb-true z x q))))
    go ih false q = refl

keep_few : (p : ℕ → Bool) (l : List ℕ) → length (keep p l) ≤ length l
unfolding keep
keep_few p [] = omega arith
keep_few p (x ∷ l) = go (keep_few p l) (p x)
  where
    go : length (keep p l) ≤ length l → (b : Bool) → length (pick b (x ∷ keep p l) (keep p l)) ≤ suc (length l)
    go ih true = omega arith
    go ih false = omega arith

-- there are no more common keys than keys
pub meet_few : (rs : List (List ℕ)) → length (meet rs) ≤ total rs
unfolding meet total
meet_few [] = omega arith
meet_few (r ∷ rs) = omega (arith, keep_few (in_all rs) r)
