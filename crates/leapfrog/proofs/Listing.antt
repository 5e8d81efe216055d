-- The definition's own rows: the walk of a join writes those of its listing, in that sequence, until the window is full.
-- Idea: at each depth the leapfrog stands on the first of the common keys that are left, or on none; the walk under it is the law for fewer variables.
use Prim.Native.Nat.{ℕ, zero, suc, ◌<◌}
use native.Mathlib.Omega.{arith}
use native.Mathlib.Nat.{eq-or-lt_of_le, le_refl}
use mathlib.Core.Path.{◌≡◌, refl, sym, subst, ap, ◌∙◌}
use mathlib.Core.Logic.{◌⊎◌, ⊎_elim}
use mathlib.Core.Bool.{Bool, true, false, false≢true}
use mathlib.Core.List.{List, [], ◌∷◌, map}
use lib.ListN.{length, set, drop, replicate, length-map, length-replicate}
use lib.Dec.{ltb}
use borrow.Author.Tests.{lt-ltb, le-ltb, ltb-true, ltb-false}
use Rattle.relation.specs.Order.{Row, pick}
use Rattle.relation.specs.Lists.{◌∈◌, hd, tl, not_in_nil, in_cons, Ascends, anone, amore}
use Rattle.relation.specs.Runs.{from}
use Rattle.relation.specs.Layers.{keys_under}
use Rattle.relation.proofs.Lists.{ascends_head}
use Rattle.relation.proofs.Runs.{in_from, from_in, from_ascends, from_least}
use Rattle.query.specs.Meaning.{Atom, Passes}
use Rattle.query.specs.Meet.{meet, total, Runs}
use Rattle.query.specs.Solve.{headed, bind, runs, listing}
use Rattle.query.specs.Window.{Progress, begin, windowed}
use Rattle.query.specs.Descend.{Joinable, Descends}
use Rattle.query.proofs.Beyond.{keys_ascend}
use Rattle.query.proofs.Descend.{leaf, root, ToGo, to_go_start, to_go_same, to_go_key, to_go_none, to_go_full, to_go_joinable}
use Rattle.query.proofs.Listed.{joinable}
use Rattle.query.proofs.Leap.{agree_tails, meet_nil}
use Rattle.query.proofs.Meet.{in_get_or, get_or_in, meet_all, meet_to, meet_of, meet_asc, same_keys}
use Rattle.query.proofs.Solved.{takes_part}
use Rattle.leapfrog.specs.Search.{Stop, on, out, Went, none, run_at, search_of, next_of, sorted_runs, some_none, init_of, left_in, EndsOn, Comes}
use Rattle.leapfrog.specs.Walk.{Tally, counted, onward_of, depth_of, walk_of}
use Rattle.leapfrog.proofs.Begin.{some_none_lem, init_none}
use Rattle.leapfrog.proofs.Good.{first_at}
use Rattle.leapfrog.proofs.Search.{Ring, ring_comes}
use Rattle.leapfrog.proofs.Onward.{Agreeing, next_comes, next_keys}
use Rattle.leapfrog.proofs.Sorting.{sorted_length, sorted_in, in_sorted, sorted_rises, rises_at}
use Rattle.leapfrog.proofs.Walk.{depth_out, depth_full, depth_on, walk_leaf, walk_depth, below_of, from_from, meet_few}

-- ---- the first call of a depth

some_none_in : (l : List (List ℕ)) → some_none l ≡ true → [] ∈ l
unfolding some_none
some_none_in [] e = absurd (false≢true e)
some_none_in (r ∷ l) e = go r (λ i. some_none_in l i) e
  where
    go : (r : List ℕ) → (some_none l ≡ true → [] ∈ l) → pick (none r) true (some_none l) ≡ true → [] ∈ (r ∷ l)
    go [] ih e = hd refl
    go (x ∷ xs) ih e = tl (ih e)

module _ (rs : List (List ℕ)) (asc : Runs rs) (nonempty : 0 < length rs) where
  abbrev ranked : List (List ℕ)
  ranked = sorted_runs rs (length rs)

  member : {r : List ℕ} → r ∈ rs → Ascends ◌<◌ r
  member m = let t = in_get_or [] m in subst (Ascends ◌<◌) t.2 (asc t.0 t.1)

  ranked_at_lem : (j : ℕ) → j < length ranked → run_at ranked j ∈ rs
  ranked_at_lem j l = sorted_in rs (length rs) (le_refl (length rs)) (get_or_in ranked j [] l)

  ranked_runs : Runs ranked
  ranked_runs j l = member (ranked_at_lem j l)

  ranked_meet : meet rs ≡ meet ranked
  ranked_meet =
      same_keys (meet_asc rs asc) (meet_asc ranked ranked_runs)
      (λ k m. meet_of ranked (omega (arith, sorted_length rs (length rs))) (λ j l. meet_all rs m (run_at ranked j) (ranked_at_lem j l)))
      (λ k m. meet_of rs nonempty (λ j l. meet_all ranked m (run_at rs j) (in_sorted rs (length rs) j l)))

  ranked_ring : some_none rs ≡ false → Ring ranked 0
  ranked_ring e = record {
    ascend = ranked_runs;
    nonempty = λ j l n. absurd (false≢true (sym e ∙ some_none_lem rs (subst (λ (r : List ℕ). r ∈ rs) n (ranked_at_lem j l))));
    round = record {
      up = λ i j a b c. ⊎_elim (λ (d : i ≡ j). rw d (le_refl (first_at ranked j))) (λ l. rises_at (sorted_rises rs (length rs)) i j l c) (eq-or-lt_of_le b);
      wrapped = λ i j a b. absurd (omega arith);
      over = λ i j a b c. absurd (omega arith);
    };
    place = omega (arith, sorted_length rs (length rs));
  }

  init_ranked : some_none rs ≡ false → init_of rs ≡ search_of ranked 0
  unfolding init_of
  init_ranked e = simp e

-- ---- runs cut at a key

from_self : (x : ℕ) (l : List ℕ) → from x (x ∷ l) ≡ x ∷ l
unfolding from
from_self x l = ap (λ (b : Bool). pick b (from x l) (x ∷ l)) (le-ltb x x (le_refl x))

from_past : (x y : ℕ) (l : List ℕ) → x < y → from y (x ∷ l) ≡ from y l
unfolding from
from_past x y l h = ap (λ (b : Bool). pick b (from y l) (x ∷ l)) (lt-ltb x y h)

-- a run that has the key begins with it from there on
from_at : {x : ℕ} {r : List ℕ} → Ascends ◌<◌ r → x ∈ r → from x r ≡ x ∷ drop 1 (from x r)
unfolding from
from_at anone m = absurd (not_in_nil m)
from_at {x} (amore {r = y} {rs = ys} f s) m = go (λ i. from_at s i) (ltb y x) refl (in_cons m)
  where
    go : (x ∈ ys → from x ys ≡ x ∷ drop 1 (from x ys)) → (b : Bool) → ltb y x ≡ b → (x ≡ y) ⊎ (x ∈ ys) → pick b (from x ys) (y ∷ ys) ≡ x ∷ drop 1 (pick b (from x ys) (y ∷ ys))
    go ih true q o = ⊎_elim (λ (e : x ≡ y). absurd (omega (arith, ltb-true y x q))) (λ (i : x ∈ ys). ih i) o
    go ih false q o = ⊎_elim (λ (e : x ≡ y). ap (λ (z : ℕ). z ∷ ys) (sym e)) (λ (i : x ∈ ys). absurd (omega (arith, ltb-false y x q, f x i))) o

module _ (rs : List (List ℕ)) (asc : Runs rs) (nonempty : 0 < length rs) (x : ℕ) where
  cut_at : (j : ℕ) → j < length rs → run_at (map (from x) rs) j ≡ from x (run_at rs j)
  cut_at j l = at rs j l
    where
      at : (l : List (List ℕ)) (j : ℕ) → j < length l → run_at (map (from x) l) j ≡ from x (run_at l j)
      at [] j h = absurd (omega arith)
      at (r ∷ l) zero h = refl
      at (r ∷ l) (suc j) h = at l j (omega arith)

  cut_runs : Runs (map (from x) rs)
  cut_runs j l = let h : j < length rs = omega (arith, length-map rs (from x)) in rw (cut_at j h) (from_ascends x (asc j h))

  cut_meet : meet (map (from x) rs) ≡ from x (meet rs)
  cut_meet =
      same_keys (meet_asc (map (from x) rs) cut_runs) (from_ascends x (meet_asc rs asc))
      (λ k m. from_in x (meet rs) (from_least x (asc 0 nonempty) (here k m 0 nonempty)) (meet_of rs nonempty (λ j l. in_from x (run_at rs j) (here k m j l))))
      (λ k m. meet_of (map (from x) rs) (omega (arith, length-map rs (from x))) (λ j l. let h : j < length rs = omega (arith, length-map rs (from x)) in rw (cut_at j h) (from_in x (run_at rs j) (from_least x (meet_asc rs asc) m) (meet_to rs (in_from x (meet rs) m) j h))))
    where
      here : (k : ℕ) → k ∈ meet (map (from x) rs) → (j : ℕ) → j < length rs → k ∈ from x (run_at rs j)
      here k m j l = subst (λ (r : List ℕ). k ∈ r) (cut_at j l) (meet_to (map (from x) rs) m j (omega (arith, length-map rs (from x))))

  -- where they have x in common, all begin with it
  cut_agreeing : x ∈ meet rs → Agreeing (map (from x) rs) x 0
  cut_agreeing m = record {
    ascend = cut_runs;
    agree = λ j l. let h : j < length rs = omega (arith, length-map rs (from x)) in rw (cut_at j h) (from_at (asc j h) (meet_to rs m j h));
    place = omega (arith, length-map rs (from x));
  }

-- ---- where a leapfrog stands

abbrev AtStop : Stop → (ℕ → Type 0) → Type 0
AtStop (on x) P = P x
AtStop out P = Unit {0}

-- of the common keys of the runs `rs` those `left` are left, and it stands on the first of them
pub record Stood (rs : List (List ℕ)) (left : List ℕ) (w : Went) : Type 0 where
  pub keys : left ≡ left_in w.runs w.stop
  pub stands : AtStop w.stop (λ (x : ℕ). Agreeing w.runs x w.place × (left ≡ from x (meet rs)))

-- where a call leaves it
comes_stood : {rs start : List (List ℕ)} {left : List ℕ} {w : Went} → 0 < length start → ((x : ℕ) (l : List ℕ) → left ≡ x ∷ l → left ≡ from x (meet rs)) → Comes 0 start left w → Stood rs left w
comes_stood {rs} {start} {left} {w} nonempty f c = record { keys = c.keys; stands = go w.stop c.ended c.keys }
  where
    go : (s : Stop) → EndsOn w.runs w.place s → left ≡ left_in w.runs s → AtStop s (λ (x : ℕ). Agreeing w.runs x w.place × (left ≡ from x (meet rs)))
    go (on x) g e = (record { ascend = c.ascend; agree = g; place = omega (arith, c.inside, c.size) }, f x _ (e ∙ agree_tails w.runs c.ascend (omega (arith, c.inside, c.size)) g))
    go out g e = tt

stood_start : (rs : List (List ℕ)) → Runs rs → 0 < length rs → Stood rs (meet rs) (init_of rs)
stood_start rs asc nonempty = go (some_none rs) refl
  where
    go : (b : Bool) → some_none rs ≡ b → Stood rs (meet rs) (init_of rs)
    go true e = rw (init_none rs (some_none_in rs e)) (record { keys = meet_nil rs (some_none_in rs e); stands = tt })
    go false e =
        rw (init_ranked rs asc nonempty e)
        (comes_stood (omega (arith, sorted_length rs (length rs))) (λ x l d. sym (ap (from x) d ∙ (from_self x l ∙ sym d)))
        (subst (λ (l : List ℕ). Comes 0 (ranked rs asc nonempty) l (search_of (ranked rs asc nonempty) 0)) (sym (ranked_meet rs asc nonempty)) (ring_comes (ranked_ring rs asc nonempty e))))

-- the step from the key x
module _ (rs : List (List ℕ)) (asc : Runs rs) (nonempty : 0 < length rs) {left : List ℕ} {w : Went} (st : Stood rs left w) {x : ℕ} (e : w.stop ≡ on x) where
  stand : Agreeing w.runs x w.place × (left ≡ from x (meet rs))
  stand = subst (λ (s : Stop). AtStop s (λ (y : ℕ). Agreeing w.runs y w.place × (left ≡ from y (meet rs)))) e st.stands

  -- the keys behind it
  abbrev rest : List ℕ
  rest = meet (set w.runs w.place (drop 1 (run_at w.runs w.place)))

  left_is : left ≡ x ∷ rest
  left_is = st.keys ∙ (ap (left_in w.runs) e ∙ next_keys stand.0)

  cut_is : from x (meet rs) ≡ x ∷ rest
  cut_is = sym stand.1 ∙ left_is

  common : x ∈ meet rs
  common = in_from x (meet rs) (subst (λ (l : List ℕ). x ∈ l) (sym cut_is) (hd refl))

  later : (y : ℕ) (l : List ℕ) → rest ≡ y ∷ l → rest ≡ from y (meet rs)
  later y l d =
      let h : x < y = ascends_head (subst (Ascends ◌<◌) cut_is (from_ascends x (meet_asc rs asc))) y (subst (λ (k : List ℕ). y ∈ k) (sym d) (hd refl)) in
      sym (sym (from_from x y (omega arith) (meet rs)) ∙ (ap (from y) cut_is ∙ (from_past x y rest h ∙ (ap (from y) d ∙ (from_self y l ∙ sym d)))))

  stood_next : (last : Bool) → Stood rs rest (onward_of last rs w x)
  stood_next true = comes_stood (omega (arith, stand.0.place)) later (next_comes stand.0)
  stood_next false =
      let a = cut_agreeing rs asc nonempty x common in
      comes_stood (omega (arith, a.place)) later
      (subst (λ (l : List ℕ). Comes 0 (map (from x) rs) l (next_of (map (from x) rs) 0)) (sym (ap (drop 1) (sym cut_is ∙ (sym (cut_meet rs asc nonempty x) ∙ next_keys a)))) (next_comes a))

-- ---- a depth

module _ (n v : ℕ) (vs : List ℕ) (atoms : List Atom) (row : Row) (s₀ : Progress) (c : Joinable (v ∷ vs) atoms) (below : ℕ → Tally → Tally) (f : (k : ℕ) (t : Tally) → Joinable vs (map (bind v k) atoms) → Descends n vs (map (bind v k) atoms) (set row v k) t.progress (below k t).progress) (last : Bool) (asc : Runs (runs v atoms)) (nonempty : 0 < length (runs v atoms)) where
  abbrev Law : ℕ → Type 0
  Law fuel = (w : Went) (s : Tally) (left : List ℕ) → length left < fuel → Stood (runs v atoms) left w → ToGo n v vs atoms row s₀ left s.progress → Descends n (v ∷ vs) atoms row s₀ (depth_of below last (runs v atoms) fuel w s).progress

  depth_lists : (fuel : ℕ) → Law fuel
  depth_lists zero w s left h st i = absurd (omega arith)
  depth_lists (suc fuel) w s left h st i = go (depth_lists fuel) w.stop refl
    where
      found : Law fuel → (x : ℕ) → w.stop ≡ on x → (b : Bool) → (below x (counted w.seeks s)).progress.full ≡ b → Descends n (v ∷ vs) atoms row s₀ (depth_of below last (runs v atoms) (suc fuel) w s).progress
      found ih x e b q =
          let i' = to_go_same n v vs atoms row s₀ (left_is (runs v atoms) asc nonempty st e) i in
          let j = to_go_key n v vs atoms row s₀ i' (f x (counted w.seeks s) (to_go_joinable n v vs atoms row s₀ c i')) in
          by b q j
        where
          by : (b : Bool) → (below x (counted w.seeks s)).progress.full ≡ b → ToGo n v vs atoms row s₀ (rest (runs v atoms) asc nonempty st e) (below x (counted w.seeks s)).progress → Descends n (v ∷ vs) atoms row s₀ (depth_of below last (runs v atoms) (suc fuel) w s).progress
          by true q j = rw (depth_full below last (runs v atoms) fuel w s e q) (to_go_full n v vs atoms row s₀ j q)
          by false q j = rw (depth_on below last (runs v atoms) fuel w s e q) (ih (onward_of last (runs v atoms) w x) (below x (counted w.seeks s)) (rest (runs v atoms) asc nonempty st e) (omega (arith, ap length (left_is (runs v atoms) asc nonempty st e))) (stood_next (runs v atoms) asc nonempty st e last) j)

      go : Law fuel → (t : Stop) → w.stop ≡ t → Descends n (v ∷ vs) atoms row s₀ (depth_of below last (runs v atoms) (suc fuel) w s).progress
      go ih out e = rw (depth_out below last (runs v atoms) fuel w s e) (to_go_none n v vs atoms row s₀ (to_go_same n v vs atoms row s₀ (st.keys ∙ ap (left_in w.runs) e) i))
      go ih (on x) e = found ih x e (below x (counted w.seeks s)).progress.full refl

-- ---- the walk

headed_some : (v : ℕ) (xs : List ℕ) → headed v xs ≡ true → 0 < length xs
unfolding headed
headed_some v [] e = absurd (false≢true e)
headed_some v (x ∷ xs) e = omega arith

runs_ascend : (v : ℕ) (l : List Atom) → ((a : Atom) → a ∈ l → headed v a.vars ≡ true → Ascends ◌<◌ (keys_under [] a.rows)) → Runs (runs v l)
unfolding runs
runs_ascend v [] f = λ j h. absurd (omega arith)
runs_ascend v (a ∷ l) f = go (runs_ascend v l (λ b m. f b (tl m))) (headed v a.vars) refl
  where
    go : Runs (runs v l) → (t : Bool) → headed v a.vars ≡ t → Runs (pick t (keys_under [] a.rows ∷ runs v l) (runs v l))
    go ih true q zero h = f a (hd refl) q
    go ih true q (suc j) h = ih j (omega arith)
    go ih false q j h = ih j h

runs_some : (v : ℕ) {a : Atom} {l : List Atom} → a ∈ l → headed v a.vars ≡ true → 0 < length (runs v l)
unfolding runs
runs_some v {a = a} (hd {x = b} {xs = l} e) q = rw (ap (λ (c : Atom). headed v c.vars) (sym e) ∙ q) (omega arith)
runs_some v (tl {x = b} {xs = l} m) q = go (headed v b.vars) (runs_some v m q)
  where
    go : (t : Bool) → 0 < length (runs v l) → 0 < length (pick t (keys_under [] b.rows ∷ runs v l) (runs v l))
    go true h = omega arith
    go false h = h

pub walk_lists : (n : ℕ) (vs : List ℕ) (atoms : List Atom) (row : Row) (s : Tally) → Joinable vs atoms → Descends n vs atoms row s.progress (walk_of n vs atoms row s).progress
walk_lists n [] atoms row s c = rw (walk_leaf n atoms row s) (leaf n atoms row s.progress)
walk_lists n (v ∷ vs) atoms row s c =
    let t = takes_part v vs atoms c in
    let asc = runs_ascend v atoms (λ a m q. keys_ascend [] (c.partway a m).wide (headed_some v a.vars q)) in
    let nonempty = runs_some v t.1 t.2 in
    rw (walk_depth n v vs atoms row s)
    (depth_lists n v vs atoms row s.progress c (below_of n v vs atoms row) (λ k u j. walk_lists n vs (map (bind v k) atoms) (set row v k) u j) (none vs) asc nonempty (suc (total (runs v atoms))) (init_of (runs v atoms)) s (meet (runs v atoms)) (omega (arith, meet_few (runs v atoms))) (stood_start (runs v atoms) asc nonempty) (to_go_start n v vs atoms row s.progress))

-- the window that the definition's walk leaves is the listing's, for every query that passes the checks
pub the_walk_writes_the_listing : {n : ℕ} {order : List ℕ} {atoms : List Atom} → Passes n order atoms → (w : List ℕ) → (walk_of n order atoms (replicate n 0) (record { progress = begin w; seeks = 0 })).progress ≡ windowed w n (listing n order atoms)
the_walk_writes_the_listing {n} {order} {atoms} p w = root p (replicate n 0) w (omega (arith, length-replicate {A = ℕ} n 0)) (walk_lists n order atoms (replicate n 0) (record { progress = begin w; seeks = 0 }) (joinable p))
