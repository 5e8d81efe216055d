-- The descent from the root: a query that passed the checks can be planned, its atoms stand at the root, and the descent from there leaves its listing in
-- the window.
use Prim.Native.Nat.{ℕ, zero, suc, ◌-◌, ◌<◌, ◌^◌}
use native.Mathlib.Omega.{arith}
use mathlib.Core.Path.{◌≡◌, refl, sym, subst, ap}
use mathlib.Core.Bool.{Bool, true, false}
use mathlib.Core.List.{List, []}
use lib.ListN.{length, get_or, replicate}
use Rattle.relation.specs.Order.{Row, pick}
use Rattle.query.proofs.Meet.{get_or_in}
use Rattle.relation.proofs.Intervals.{prefix_root, root_there}
use Rattle.query.proofs.Engine.{engine_ready, engine_root}
use Rattle.column_trie.specs.Table.{rows_in, Undamaged}
use Rattle.column_trie.specs.declared.ColumnTrie.{ColumnTrie}
use Rattle.column_trie.proofs.Header.{layer_fits}
use Rattle.column_trie.proofs.Stored.{in_pool}
use Rattle.query.specs.Limits.{max_atoms}
use Rattle.join_query.specs.Query.{max_tables, max_variables, atom_at, table_at, atom_table, Accepted}
use Rattle.join_query.specs.Checking.{reached}
use Rattle.join_plan.specs.Plan.{Plan, second_of, Low, Planned, FirstsEnded, Plannable}
use Rattle.join_window.specs.Window.{written, Begun}
use Rattle.join_window.specs.declared.Window.{Window}
use Rattle.join_window.proofs.Windows.{begun_in}
use Rattle.join_depths.specs.Depth.{Placed, PlacedIn, Stands, Standing}
use Rattle.descent.specs.Descent.{Descended, Completes}
use Rattle.join_query.specs.Outcome.{listed}
use Rattle.join_query.specs.declared.Atom as rust
use Rattle.join_query.specs.declared.Query.{Query}
use Rattle.join_query.specs.declared.Tables.{Tables}
use Rattle.join_query.proofs.Accepted.{sized, names, lists, sound, sound_maker, passes}

-- no word given
abbrev pub none : ℕ → Row
none i = []

pub zeros : (m i : ℕ) → get_or {A = ℕ} (replicate m 0) i 0 ≡ 0
zeros zero i = refl
zeros (suc m) zero = refl
zeros (suc m) (suc i) = zeros m i

-- the root of a table, at place 0
placed_root : (pool : List ℕ) (t : ColumnTrie) → Placed pool t 0 []
placed_root pool t =
    let rows = rows_in pool t in
    let e : 0 - 0 ≡ 0 = omega arith in
    record {
      above = omega arith;
      under = prefix_root rows;
      inside = λ h. root_there (get_or_in rows 0 [] h);
    }

-- no atom has a word yet, and its place is said to be in its own table
root : (pool : List ℕ) (ts : Tables) (q : Query) (i : ℕ) → PlacedIn pool ts q i 0 0 []
root pool ts q i = record {
  owned = record { side = omega arith; plain = λ e. refl; first = λ e k r w. absurd (omega (arith, ap length w)) };
  placed = placed_root pool (atom_table ts q i);
}

-- an undamaged table starts low
low : {pool : List ℕ} {t : ColumnTrie} → length pool < 2 ^ 61 → Undamaged pool t → Low t
low {pool} {t} l u = record {
  start = omega (arith, u.fits);
  capacity = u.capacity.1;
  firsts = omega (arith, layer_fits (in_pool u) u.arity.0, u.capacity.1);
}

-- an atom's second table, whichever it is
second : (P : ℕ → Type 0) (a : rust.Atom) → P a.table → (a.laid_over ≡ true → P a.maker) → P (second_of a)
second P a x f = go a.laid_over refl
  where
    go : (b : Bool) → a.laid_over ≡ b → P (pick b a.maker a.table)
    go true e = f e
    go false e = x

module _ {pool : List ℕ} {ts : Tables} {q : Query} {len : ℕ} (a : Accepted pool ts q len) where
  pub plannable : length pool < 2 ^ 61 → Plannable ts q
  plannable l = record {
    deep = (sized a).few;
    few = (names a).few;
    short = λ i h. (lists a i h).short;
    named = λ i h. omega (arith, (names a).bounded, (names a).each i h);
    named₂ = λ i h. second (λ x. x < max_tables) (atom_at q i) (omega (arith, (names a).bounded, (names a).each i h)) (λ e. omega (arith, (names a).bounded, (names a).maker i h e));
    low = λ i h. low l (sound a i h);
    low₂ = λ i h. second (λ x. Low (table_at ts x)) (atom_at q i) (low l (sound a i h)) (λ e. low l (sound_maker a i h e));
  }

  module _ {plan : Plan} {ends : List ℕ} (p : Planned plan ts q) (e : FirstsEnded ends ts q q.atom_count) where
    pub stands_root : Stands pool ts q plan ends q.n 0 (replicate max_atoms 0) (replicate max_atoms 0) none
    unfolding reached
    stands_root = record {
      based = record {
        len = len;
        accepted = a;
        planned = p;
        firsts = e;
        size = refl;
        deep = omega arith;
        joinable = engine_ready (passes a) none (λ i h. refl);
        words = λ i h. refl;
      };
      placed = λ i h. subst (λ (x : ℕ). PlacedIn pool ts q i x x []) (sym (zeros max_atoms i)) (root pool ts q i);
    }

    pub standing_root : Standing pool plan ends q.n 0 (replicate max_atoms 0) (replicate max_atoms 0)
    standing_root = record { tables = ts; query = q; words = none; stands = stands_root }

    -- the descent from the root leaves the listing
    pub joined : {w w' : List ℕ} {rows : ℕ} {full : Bool} → Descended pool plan ends q.n 0 (replicate max_atoms 0) (replicate max_atoms 0) (replicate max_variables 0) w 0 w' rows full → written w' rows full ≡ listed pool ts q w
    joined {w} d = engine_root (passes a) none (λ i h. refl) (replicate max_variables 0) w (omega (arith, (sized a).few)) (d.descends ts q none stands_root)

-- a descent that began in a new window, as one of the words that were lent
pub begun_completes : {pool : List ℕ} {plan : Plan} {ends : List ℕ} {m n d : ℕ} {at own found : List ℕ} {w₀ : Window} {before : ℕ} {w w' : List ℕ} {rows : ℕ} {full : Bool} {seeks : ℕ} → Begun m w₀ → w₀.words.now ≡ w → Completes pool plan ends n d at own found w₀.words.now w₀.rows before w' rows full seeks → Completes pool plan ends n d at own found w 0 before w' rows full seeks
begun_completes {pool} {plan} {ends} {n = n} {d} {at} {own} {found} {before = before} {w' = w'} {rows} {full} {seeks} b e = begun_in (λ (l : List ℕ) (r : ℕ). Completes pool plan ends n d at own found l r before w' rows full seeks) b e
