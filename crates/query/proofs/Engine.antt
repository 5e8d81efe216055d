-- The descent by the words given to each atom, as an engine's cursors have them: f i are the words of atom i's first variables.
-- Idea: what stands of the atoms is `standings f`; a key of the variable gives its word to the atoms that take part (`Gains`), and the laws of the
-- descent and of what stands meet here.
use Prim.Native.Nat.{ℕ, ◌≤◌, ◌<◌}
use mathlib.Core.Path.{◌≡◌, sym, subst, ap}
use mathlib.Core.List.{List, [], ◌∷◌, map}
use lib.ListN.{length, get_or, set}
use Rattle.relation.specs.Order.{Row}
use Rattle.relation.specs.Lists.{◌∈◌}
use Rattle.relation.specs.Layers.{keys_under}
use Rattle.query.specs.Meaning.{Atom, Table, Passes}
use Rattle.query.specs.Meet.{meet}
use Rattle.query.specs.Solve.{listing}
use Rattle.query.specs.Window.{Progress, begin, windowed}
use Rattle.query.specs.Descend.{standings, nobody, holders, Joinable, Descends}
use Rattle.query.proofs.Listed.{joinable}
use Rattle.query.proofs.Descend.{ToGo, to_go_start, to_go_same, to_go_key, to_go_joinable, root}
use Rattle.query.proofs.Under.{Gains, standings_none, standings_bind, standings_runs}

module _ (n v : ℕ) (vs : List ℕ) (f : ℕ → Row) (atoms : List Atom) (t : (a : Atom) → a ∈ atoms → Table a) (row : Row) (s₀ : Progress) where
  -- a depth begins: the keys left are those that the runs of the atoms that take part have in common
  pub engine_start : ToGo n v vs (standings f atoms) row s₀ (meet (map (λ (i : ℕ). keys_under (f i) (get_or atoms i nobody).rows) (holders v (standings f atoms)))) s₀
  engine_start = to_go_same n v vs (standings f atoms) row s₀ (ap meet (standings_runs v f atoms t)) (to_go_start n v vs (standings f atoms) row s₀)

  -- the key k is next, and g i are the words of atom i with it
  module _ {k : ℕ} {left : List ℕ} {s : Progress} (i : ToGo n v vs (standings f atoms) row s₀ (k ∷ left) s) (g : ℕ → Row) (h : (i : ℕ) → i < length atoms → Gains v k (f i) (get_or atoms i nobody) (g i)) where
    pub engine_joinable : Joinable (v ∷ vs) (standings f atoms) → Joinable vs (standings g atoms)
    engine_joinable c = subst (Joinable vs) (standings_bind v k f g atoms (λ a m. (t a m).ascending) h) (to_go_joinable n v vs (standings f atoms) row s₀ c i)

    pub engine_key : {u : Progress} → Descends n vs (standings g atoms) (set row v k) s u → ToGo n v vs (standings f atoms) row s₀ left u
    engine_key {u} d =
        to_go_key n v vs (standings f atoms) row s₀ i
        (subst (λ (l : List Atom). Descends n vs l (set row v k) s u) (sym (standings_bind v k f g atoms (λ a m. (t a m).ascending) h)) d)

-- the root: no words are given
module _ {n : ℕ} {order : List ℕ} {atoms : List Atom} (q : Passes n order atoms) (f : ℕ → Row) (h : (i : ℕ) → i < length atoms → f i ≡ []) where
  pub engine_ready : Joinable order (standings f atoms)
  engine_ready = rw (standings_none f atoms (λ a m. (q.tables a m).ascending) h) (joinable q)

  pub engine_root : (row : Row) (w : List ℕ) → n ≤ length row → {t : Progress} → Descends n order (standings f atoms) row (begin w) t → t ≡ windowed w n (listing n order atoms)
  engine_root row w l {t} d = root q row w l (subst (λ (m : List Atom). Descends n order m row (begin w) t) (standings_none f atoms (λ a m. (q.tables a m).ascending) h) d)
