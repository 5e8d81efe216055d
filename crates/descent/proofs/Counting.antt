-- The seeks of a depth, beside its rows: from where the leapfrog stands, the definition's walk comes to the same with the seeks made so far.
use Prim.Native.Nat.{ℕ, zero, suc, ◌+◌, ◌≤◌, ◌<◌}
use native.Mathlib.Omega.{arith}
use native.Mathlib.Decide.{ℕ_discrete}
use native.Mathlib.Numerals.{add-one}
use mathlib.Core.Path.{◌≡◌, refl, sym, subst, ap, ap₂, ◌∙◌}
use mathlib.Core.Bool.{Bool, true, false}
use mathlib.Core.List.{List, [], ◌∷◌, map}
use lib.ListN.{length, get_or, set, take, drop, length-drop, drop_of_length-le}
use lib.Dec.{eqb}
use borrow.Author.Tests.{eq-eqb, ne_eqb}
use Rattle.relation.specs.Order.{Row, pick}
use Rattle.relation.specs.Lists.{hd, Ascends}
use Rattle.relation.specs.Runs.{from}
use Rattle.relation.proofs.Lists.{ascends_head}
use Rattle.query.specs.Meet.{meet, total}
use Rattle.query.proofs.Meet.{meet_asc}
use Rattle.query.specs.Solve.{runs}
use Rattle.query.specs.Window.{Progress, emit}
use Rattle.query.specs.Meaning.{Atom}
use Rattle.query.specs.Descend.{standings}
use Rattle.query.proofs.Under.{standings_runs, standings_bind}
use Rattle.leapfrog.specs.Search.{Went, on, out, none, init_of, next_of}
use Rattle.leapfrog.specs.Walk.{Tally, onward_of, depth_of, walk_of, capped}
use Rattle.leapfrog.proofs.Steps.{none_not, none_is}
use Rattle.leapfrog.proofs.Walk.{depth_out, depth_full, depth_on, walk_leaf, walk_depth, below_of, capped_twice, from_from, meet_few}
use Rattle.leapfrog_search.specs.Leapfrog.{left_of}
use Rattle.leapfrog_search.specs.declared.Landed.{Landed}
use Rattle.leapfrog_search.specs.declared.Landed.TheVariants.{Key, Nothing}
use Rattle.leapfrog_join.proofs.Laws.{agreed_key}
use Rattle.ring_sort.specs.Sorted.{key_at}
use Rattle.leapfrog_search.specs.declared.Searched.{Searched}
use Rattle.stretches.specs.Stand.{wholes_in}
use Rattle.stretches.specs.declared.State.{State}
use Rattle.stretches.specs.Whole.{WholeAgreed}
use Rattle.join_query.specs.Query.{order_of, atoms_of}
use Rattle.join_window.specs.Window.{written}
use Rattle.join_openings.specs.Openings.{count_at, variable_at}
use Rattle.join_depths.specs.Depth.{Based, Stands, AgreedAt, AtKey, Answers, Leapt, groups_at, Starts, Begins, Steps, Opening, Onward}
use Rattle.descent.specs.Descent.{Counted, Completes}
use Rattle.join_query.specs.declared.Query.{Query}
use Rattle.join_query.specs.declared.Tables.{Tables}
use Rattle.join_query.proofs.Accepted.{sized, tables}
use Rattle.join_plan.specs.Plan.{Plan}
use Rattle.join_depths.proofs.Wholes.{whole_first, whole_ready, ready_wholes}
use Rattle.join_depths.proofs.Standing.{order_next, variable_is}
use Rattle.descent.proofs.Walking.{Goes, Walk, first, rest, gained, gains, goes_below, descended_leaf}

-- ---- the last depth

pub last_is : {pool : List ℕ} {ts : Tables} {q : Query} {plan : Plan} {ends : List ℕ} {n d : ℕ} {f : ℕ → Row} → Based pool ts q plan ends n d f → d < n → none (rest q d) ≡ eqb (d + 1) n
last_is {q = q} {n = n} {d} b h = go (ℕ_discrete (d + 1) n)
  where
    long : length (order_of q) ≡ n
    long = omega (arith, (sized b.accepted).permutation.size, b.size)

    go : Dec (d + 1 ≡ n) → none (rest q d) ≡ eqb (d + 1) n
    go (yes e) = none_is (rest q d) (drop_of_length-le (order_of q) (let l : length (order_of q) ≤ suc d = omega (arith, long) in l)) ∙ sym (eq-eqb (d + 1) n e)
    go (no m) = none_not (rest q d) (λ e. absurd (omega (arith, ap length e, length-drop (suc d) (order_of q), long))) ∙ sym (ne_eqb (d + 1) n m)

-- ---- where the leapfrog stands

abbrev Stood : Went → Bool → List (List ℕ) → Landed → Type 0
Stood w last runs (Key x p) = (w.stop ≡ on x) × (last ≡ true → (w.runs ≡ runs) × (w.place ≡ p))
Stood w last runs (Nothing p) = w.stop ≡ out

answers_seeks : (w : Went) (runs : List (List ℕ)) (landed : Landed) (m : ℕ) → Answers w runs landed m → w.seeks ≡ m
answers_seeks w runs (Key x p) m a = ap (λ (w : Went). w.seeks) a
answers_seeks w runs (Nothing p) m a = a.1

answers_stood : (w : Went) (runs runs' : List (List ℕ)) (last : Bool) (landed : Landed) (m : ℕ) → (last ≡ true → runs ≡ runs') → Answers w runs landed m → Stood w last runs' landed
answers_stood w runs runs' last (Key x p) m e a = (ap (λ (w : Went). w.stop) a, λ l. (ap (λ (w : Went). w.runs) a ∙ e l, ap (λ (w : Went). w.place) a))
answers_stood w runs runs' last (Nothing p) m e a = a.0

abbrev tally : Progress → ℕ → Tally
tally s m = record { progress = s; seeks = m }

pub record Counts (pool : List ℕ) (ts : Tables) (q : Query) (plan : Plan) (ends : List ℕ) (n d : ℕ) (f : ℕ → Row) (found : Row) (t₀ : Tally) (z : State) (ring by_atom : List ℕ) (landed : Landed) (s : Progress) (seeks : ℕ) : Type 0 where
  pub fuel : ℕ
  pub went : Went
  pub made : ℕ
  pub same : walk_of n (first q d ∷ rest q d) (standings f (atoms_of pool ts q)) found t₀ ≡ depth_of (below_of n (first q d) (rest q d) (standings f (atoms_of pool ts q)) found) (none (rest q d)) (groups_at pool ts q d f) (suc fuel) went (tally s made)
  pub sum : seeks ≡ capped (made + went.seeks)
  pub stood : Stood went (none (rest q d)) (wholes_in pool z ends ring (count_at plan d)) landed
  pub enough : length (left_of (wholes_in pool z ends by_atom (count_at plan d)) landed) ≤ fuel
  pub cut : AtKey landed (λ (x : ℕ). wholes_in pool z ends by_atom (count_at plan d) ≡ map (from x) (groups_at pool ts q d f))

-- seeks before, capped, and those of one call
one_sum : {seeks : ℕ} (before made m m' : ℕ) → seeks ≡ capped (before + m) → before ≡ capped made → m' ≡ m → seeks ≡ capped (made + m')
one_sum before made m m' e b h = e ∙ (ap (λ (y : ℕ). capped (y + m)) b ∙ (capped_twice made m ∙ ap (λ (y : ℕ). capped (made + y)) (sym h)))

grown : (n : ℕ) → 0 < n → (m : ℕ) × (n ≡ suc m)
grown zero h = absurd (omega arith)
grown (suc m) h = (m, refl)

map_from : (x y : ℕ) → x ≤ y → (rs : List (List ℕ)) → map (from y) (map (from x) rs) ≡ map (from y) rs
map_from x y h [] = refl
map_from x y h (r ∷ rs) = ap₂ (λ (y : List ℕ) (ys : List (List ℕ)). y ∷ ys) (from_from x y h r) (map_from x y h rs)

module _ {pool : List ℕ} {ts : Tables} {q : Query} {plan : Plan} {ends : List ℕ} {n d : ℕ} {f : ℕ → Row} {found : Row} where
  pub counts_start : Based pool ts q plan ends n d f → {z : State} {ring by_atom : List ℕ} {landed : Landed} {s₀ : Progress} {before seeks : ℕ} → Begins pool ts q plan ends n d z by_atom f landed → Starts pool ts q plan ends d z ring by_atom f before landed seeks → (m : ℕ) → before ≡ capped m → Counts pool ts q plan ends n d f found (tally s₀ m) z ring by_atom landed s₀ seeks
  counts_start b {z} {ring} {landed = landed} {s₀} {before} g st m e = record {
    fuel = total (groups_at pool ts q d f);
    went = init_of (groups_at pool ts q d f);
    made = m;
    same = walk_depth n (first q d) (rest q d) (standings f (atoms_of pool ts q)) found (tally s₀ m);
    sum = one_sum before m st.leapt.made (init_of (groups_at pool ts q d f)).seeks st.leapt.sum e (answers_seeks (init_of (groups_at pool ts q d f)) (wholes_in pool z ends ring (count_at plan d)) landed st.leapt.made st.leapt.answers);
    stood = answers_stood (init_of (groups_at pool ts q d f)) (wholes_in pool z ends ring (count_at plan d)) (wholes_in pool z ends ring (count_at plan d)) (none (rest q d)) landed st.leapt.made (λ l. refl) st.leapt.answers;
    enough = omega (arith, ap length (g.keys ∙ ap meet (sym (standings_runs (first q d) f (atoms_of pool ts q) (tables b.accepted)))), meet_few (groups_at pool ts q d f));
    cut = st.cut;
  }

  -- none is left
  pub counts_none : {t₀ : Tally} {z : State} {ring by_atom : List ℕ} {p : ℕ} {s : Progress} {seeks : ℕ} → Counts pool ts q plan ends n d f found t₀ z ring by_atom (Nothing p) s seeks → Counted (walk_of n (first q d ∷ rest q d) (standings f (atoms_of pool ts q)) found t₀) s seeks
  counts_none {s = s} c =
      let e = c.same ∙ depth_out (below_of n (first q d) (rest q d) (standings f (atoms_of pool ts q)) found) (none (rest q d)) (groups_at pool ts q d f) c.fuel c.went (tally s c.made) c.stood in
      record { window = ap (λ (t : Tally). t.progress) e; count = c.sum ∙ ap (λ (t : Tally). capped t.seeks) (sym e) }

  -- a key is found, and the walk under it is done
  module _ {t₀ : Tally} {z : State} {ring by_atom : List ℕ} {x p : ℕ} {s u : Progress} {seeks seeks' : ℕ} (c : Counts pool ts q plan ends n d f found t₀ z ring by_atom (Key x p) s seeks) (b : Counted (below_of n (first q d) (rest q d) (standings f (atoms_of pool ts q)) found x (tally s (c.made + c.went.seeks))) u seeks') where
    pub counts_full : u.full ≡ true → Counted (walk_of n (first q d ∷ rest q d) (standings f (atoms_of pool ts q)) found t₀) u seeks'
    counts_full h =
        let e = c.same ∙ depth_full (below_of n (first q d) (rest q d) (standings f (atoms_of pool ts q)) found) (none (rest q d)) (groups_at pool ts q d f) c.fuel c.went (tally s c.made) c.stood.0 (ap (λ (v : Progress). v.full) b.window ∙ h) in
        record { window = ap (λ (t : Tally). t.progress) e ∙ b.window; count = b.count ∙ ap (λ (t : Tally). capped t.seeks) (sym e) }

    pub counts_next : u.full ≡ false → WholeAgreed pool z ends by_atom (count_at plan d) x p → {z' : State} {landed' : Landed} {last : Bool} {seeks'' : ℕ} → none (rest q d) ≡ last → Steps pool ends by_atom (count_at plan d) z z' x landed' → Leapt (next_of (wholes_in pool z ends (pick last ring by_atom) (count_at plan d)) (pick last p 0)) (wholes_in pool z' ends (pick last ring by_atom) (count_at plan d)) seeks' landed' seeks'' → Counts pool ts q plan ends n d f found t₀ z' ring by_atom landed' u seeks''
    counts_next h a {z'} {landed'} {last} l t k = record {
      fuel = turn.0;
      went = onward_of (none (rest q d)) (groups_at pool ts q d f) c.went x;
      made = T.seeks;
      same =
          c.same
          ∙ (depth_on (below_of n (first q d) (rest q d) (standings f (atoms_of pool ts q)) found) (none (rest q d)) (groups_at pool ts q d f) c.fuel c.went (tally s c.made) c.stood.0 (ap (λ (v : Progress). v.full) b.window ∙ h)
          ∙ (ap (λ (m : ℕ). depth_of (below_of n (first q d) (rest q d) (standings f (atoms_of pool ts q)) found) (none (rest q d)) (groups_at pool ts q d f) m (onward_of (none (rest q d)) (groups_at pool ts q d f) c.went x) T) turn.1
          ∙ ap (λ (v : Progress). depth_of (below_of n (first q d) (rest q d) (standings f (atoms_of pool ts q)) found) (none (rest q d)) (groups_at pool ts q d f) (suc turn.0) (onward_of (none (rest q d)) (groups_at pool ts q d f) c.went x) (tally v T.seeks)) b.window));
      sum = one_sum seeks' T.seeks k.made (onward_of (none (rest q d)) (groups_at pool ts q d f) c.went x).seeks k.sum b.count (ap (λ (w : Went). w.seeks) (goes (none (rest q d)) l c.stood.1) ∙ answers_seeks (next_of (wholes_in pool z ends (pick last ring by_atom) (count_at plan d)) (pick last p 0)) (wholes_in pool z' ends (pick last ring by_atom) (count_at plan d)) landed' k.made k.answers);
      stood = answers_stood (onward_of (none (rest q d)) (groups_at pool ts q d f) c.went x) (wholes_in pool z' ends (pick last ring by_atom) (count_at plan d)) (wholes_in pool z' ends ring (count_at plan d)) (none (rest q d)) landed' k.made (λ e. ap (λ (y : Bool). wholes_in pool z' ends (pick y ring by_atom) (count_at plan d)) (sym l ∙ e)) (subst (λ (w : Went). Answers w (wholes_in pool z' ends (pick last ring by_atom) (count_at plan d)) landed' k.made) (sym (goes (none (rest q d)) l c.stood.1)) k.answers);
      enough = omega (arith, ap length t.keys, turn.1, c.enough);
      cut = cuts landed' t.agreed t.keys t.cut;
    }
      where
        T : Tally
        T = below_of n (first q d) (rest q d) (standings f (atoms_of pool ts q)) found x (tally s (c.made + c.went.seeks))

        turn : (m : ℕ) × (c.fuel ≡ suc m)
        turn = grown c.fuel (omega (arith, ap length t.keys, c.enough))

        goes : (y : Bool) → y ≡ last → (y ≡ true → (c.went.runs ≡ wholes_in pool z ends ring (count_at plan d)) × (c.went.place ≡ p)) → onward_of y (groups_at pool ts q d f) c.went x ≡ next_of (wholes_in pool z ends (pick last ring by_atom) (count_at plan d)) (pick last p 0)
        goes true e o = ap₂ next_of (o refl).0 (o refl).1 ∙ ap (λ (y : Bool). next_of (wholes_in pool z ends (pick y ring by_atom) (count_at plan d)) (pick y p 0)) e
        goes false e o = ap (λ (rs : List (List ℕ)). next_of rs 0) (sym c.cut) ∙ ap (λ (y : Bool). next_of (wholes_in pool z ends (pick y ring by_atom) (count_at plan d)) (pick y p 0)) e

        cuts : (landed : Landed) → AgreedAt pool z' ends by_atom (count_at plan d) landed → meet (wholes_in pool z ends by_atom (count_at plan d)) ≡ x ∷ left_of (wholes_in pool z' ends by_atom (count_at plan d)) landed → AtKey landed (λ (y : ℕ). wholes_in pool z' ends by_atom (count_at plan d) ≡ map (from y) (wholes_in pool z ends by_atom (count_at plan d))) → AtKey landed (λ (y : ℕ). wholes_in pool z' ends by_atom (count_at plan d) ≡ map (from y) (groups_at pool ts q d f))
        cuts (Key y r) g e k =
            let m = ascends_head (subst (Ascends ◌<◌) (e ∙ ap (λ (ks : List ℕ). x ∷ ks) (whole_first g)) (meet_asc (wholes_in pool z ends by_atom (count_at plan d)) (ready_wholes (whole_ready a)))) y (hd refl) in
            k ∙ (ap (map (from y)) c.cut ∙ map_from x y (omega arith) (groups_at pool ts q d f))
        cuts (Nothing r) g e k = tt

-- ---- the loop's invariant, and the ends of the loop: for every query

pub record Counting (pool : List ℕ) (plan : Plan) (ends : List ℕ) (n d : ℕ) (z₀ : State) (ring by_atom : List ℕ) (landed₀ : Landed) (found w₀ : List ℕ) (from before seeks₀ : ℕ) (w : List ℕ) (z : State) (landed : Landed) (rows seeks : ℕ) : Type 0 where
  pub counts : (ts : Tables) (q : Query) (f : ℕ → Row) → Based pool ts q plan ends n d f → Begins pool ts q plan ends n d z₀ by_atom f landed₀ → Starts pool ts q plan ends d z₀ ring by_atom f before landed₀ seeks₀ → (m : ℕ) → before ≡ capped m → Counts pool ts q plan ends n d f found (tally (written w₀ from false) m) z ring by_atom landed (written w rows false) seeks

pub counting_start : {pool : List ℕ} {plan : Plan} {ends : List ℕ} {n d : ℕ} {z₀ : State} {ring by_atom : List ℕ} {landed₀ : Landed} {found w₀ : List ℕ} {from before seeks₀ : ℕ} → Counting pool plan ends n d z₀ ring by_atom landed₀ found w₀ from before seeks₀ w₀ z₀ landed₀ from seeks₀
counting_start = record { counts = λ ts q f b g st m e. counts_start b g st m e }

-- no variable is left: the row is written, and nothing is sought
pub completes_leaf : {pool : List ℕ} {plan : Plan} {ends : List ℕ} {n d : ℕ} {at own : List ℕ} {found w₀ : List ℕ} {from before : ℕ} {w : List ℕ} {rows : ℕ} {full : Bool} → d ≡ n → written w rows full ≡ emit n (written w₀ from false) (take n found) → Completes pool plan ends n d at own found w₀ from before w rows full before
completes_leaf {pool} {n = n} {d} {found = found} {w₀} {from} e r = record {
  descended = descended_leaf e r;
  counts = λ ts q f s m h.
      let none : drop d (order_of q) ≡ [] = drop_of_length-le (order_of q) (let l : length (order_of q) ≤ d = omega (arith, (sized s.based.accepted).permutation.size, s.based.size) in l) in
      let t = ap (λ (l : List ℕ). walk_of n l (standings f (atoms_of pool ts q)) found (tally (written w₀ from false) m)) none ∙ walk_leaf n (standings f (atoms_of pool ts q)) found (tally (written w₀ from false) m) in
      record { window = ap (λ (t : Tally). t.progress) t ∙ sym r; count = h ∙ ap (λ (t : Tally). capped t.seeks) (sym t) };
}

module _ {pool : List ℕ} {plan : Plan} {ends : List ℕ} {n d : ℕ} {above owned : List ℕ} {z₀ : State} {ring by_atom : List ℕ} {before : ℕ} {r₀ : Searched} (b : Opening pool plan ends n d above owned z₀ ring by_atom before r₀) (below : d < n) {found w₀ : List ℕ} {from : ℕ} {w : List ℕ} {z : State} {rows seeks : ℕ} {landed : Landed} (j : Counting pool plan ends n d z₀ ring by_atom r₀.landed found w₀ from before r₀.seeks w z landed rows seeks) where
  now : {landed' : Landed} → landed ≡ landed' → (ts : Tables) (q : Query) (f : ℕ → Row) → Stands pool ts q plan ends n d above owned f → (m : ℕ) → before ≡ capped m → Counts pool ts q plan ends n d f found (tally (written w₀ from false) m) z ring by_atom landed' (written w rows false) seeks
  now e ts q f s m h = subst (λ (y : Landed). Counts pool ts q plan ends n d f found (tally (written w₀ from false) m) z ring by_atom y (written w rows false) seeks) e (j.counts ts q f s.based (b.begun.begins ts q f s) (b.starts ts q f s) m h)

  pub counting_none : {p : ℕ} → landed ≡ Nothing p → {full : Bool} → full ≡ false → (ts : Tables) (q : Query) (f : ℕ → Row) → Stands pool ts q plan ends n d above owned f → (m : ℕ) → before ≡ capped m → Counted (walk_of n (drop d (order_of q)) (standings f (atoms_of pool ts q)) found (tally (written w₀ from false) m)) (written w rows full) seeks
  counting_none e u ts q f s m h =
      subst (λ (b : Bool). Counted (walk_of n (drop d (order_of q)) (standings f (atoms_of pool ts q)) found (tally (written w₀ from false) m)) (written w rows b) seeks) (sym u)
      (subst (λ (l : List ℕ). Counted (walk_of n l (standings f (atoms_of pool ts q)) found (tally (written w₀ from false) m)) (written w rows false) seeks) (sym (order_next s.based below))
      (counts_none (now e ts q f s m h)))

  -- a key is found
  module _ {row : List ℕ} {x p : ℕ} (e : landed ≡ Key x p) (i : Walk pool plan ends n d z₀ ring by_atom r₀.landed found w₀ from w z landed row rows) {w' : List ℕ} {rows' : ℕ} {full : Bool} {seeks' : ℕ} (r : Completes pool plan ends n (d + 1) z.at z.own (set row (variable_at plan d) x) w rows seeks w' rows' full seeks') where
    agreed : WholeAgreed pool z ends by_atom (count_at plan d) x p
    agreed = subst (AgreedAt pool z ends by_atom (count_at plan d)) e i.agreed

    under : (ts : Tables) (q : Query) (f : ℕ → Row) → Based pool ts q plan ends n d f → Begins pool ts q plan ends n d z₀ by_atom f r₀.landed → (m : ℕ) → seeks ≡ capped m → Counted (below_of n (first q d) (rest q d) (standings f (atoms_of pool ts q)) found x (tally (written w rows false) m)) (written w' rows' full) seeks'
    under ts q f s g₀ m h =
        let g = subst (λ (y : Landed). Goes pool ts q plan ends n d f found (written w₀ from false) z by_atom y (written w rows false)) e (i.goes ts q f s g₀) in
        let o = g.opened in
        let t = tally (written w rows false) m in
        let row_is : set row (variable_at plan d) x ≡ set found (first q d) x = i.others x ∙ ap (λ (y : ℕ). set found y x) (variable_is o.based o.below) in
        let atoms_are = standings_bind (first q d) x f (gained q d f x) (atoms_of pool ts q) (λ a k. (tables o.based.accepted a k).ascending) (gains o agreed) in
        subst (λ (l : List Atom). Counted (walk_of n (rest q d) l (set found (first q d) x) t) (written w' rows' full) seeks') (sym atoms_are)
        (subst (λ (l : Row). Counted (walk_of n (rest q d) (standings (gained q d f x) (atoms_of pool ts q)) l t) (written w' rows' full) seeks') row_is
        (subst (λ (k : ℕ). Counted (walk_of n (drop k (order_of q)) (standings (gained q d f x) (atoms_of pool ts q)) (set row (variable_at plan d) x) t) (written w' rows' full) seeks') (add-one d)
        (r.counts ts q (gained q d f x) (goes_below g agreed) m h)))

    pub counting_full : full ≡ true → (ts : Tables) (q : Query) (f : ℕ → Row) → Stands pool ts q plan ends n d above owned f → (m : ℕ) → before ≡ capped m → Counted (walk_of n (drop d (order_of q)) (standings f (atoms_of pool ts q)) found (tally (written w₀ from false) m)) (written w' rows' full) seeks'
    counting_full t ts q f s m h =
        let c = now e ts q f s m h in
        subst (λ (l : List ℕ). Counted (walk_of n l (standings f (atoms_of pool ts q)) found (tally (written w₀ from false) m)) (written w' rows' full) seeks') (sym (order_next s.based below))
        (counts_full c (under ts q f s.based (b.begun.begins ts q f s) (c.made + c.went.seeks) c.sum) t)

    pub counting_next : full ≡ false → {z' : State} {r' : Searched} → Onward pool ends ring by_atom (count_at plan d) p (eqb (d + 1) n) z z' seeks' r' → Counting pool plan ends n d z₀ ring by_atom r₀.landed found w₀ from before r₀.seeks w' z' r'.landed rows' r'.seeks
    counting_next t {z'} {r'} o = record {
      counts = λ ts q f s g₀ st m h.
          let c = subst (λ (y : Landed). Counts pool ts q plan ends n d f found (tally (written w₀ from false) m) z ring by_atom y (written w rows false) seeks) e (j.counts ts q f s g₀ st m h) in
          let here : key_at pool z.at (get_or by_atom 0 0) ≡ x = agreed_key agreed.agreed 0 agreed.agreed.ready.positive in
          subst (λ (z : Bool). Counts pool ts q plan ends n d f found (tally (written w₀ from false) m) z' ring by_atom r'.landed (written w' rows' z) r'.seeks) t
          (counts_next c (under ts q f s g₀ (c.made + c.went.seeks) c.sum) t agreed (last_is s below) (subst (λ (y : ℕ). Steps pool ends by_atom (count_at plan d) z z' y r'.landed) here o.steps) o.leapt);
    }
