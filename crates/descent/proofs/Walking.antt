-- The descent: its end, and the loop over the keys of one depth.
-- Idea: for every query whose atoms stand so, the keys left lead to the end of the depth (`ToGo` of the theory); the key found is the first of them, and where
-- all agree on it, the atoms that take part stand for one word more.
use Prim.Native.Nat.{ℕ, suc, ◌+◌, ◌≤◌, ◌<◌}
use native.Mathlib.Omega.{arith}
use native.Mathlib.Numerals.{add-one}
use mathlib.Core.Path.{◌≡◌, refl, sym, subst, ap, ◌∙◌}
use mathlib.Core.Bool.{Bool, true, false}
use mathlib.Core.List.{List, [], ◌∷◌, ◌++◌}
use lib.ListN.{length, get_or, set, take, drop, length-set, length-append, drop_of_length-le}
use lib.Seq.{set-set}
use Rattle.relation.specs.Order.{Row, pick}
use Rattle.query.specs.Meet.{meet}
use Rattle.query.specs.Solve.{headed}
use Rattle.query.specs.Window.{Progress, emit}
use Rattle.query.specs.Descend.{standings, nobody, Joinable, Descends}
use Rattle.query.proofs.Descend.{ToGo, leaf, to_go_same, to_go_none, to_go_full}
use Rattle.query.proofs.Meet.{get_or_in}
use Rattle.query.proofs.Under.{Gains}
use Rattle.query.proofs.Engine.{engine_start, engine_key, engine_joinable}
use Rattle.ring_sort.specs.Sorted.{key_at}
use Rattle.leapfrog_search.specs.Ring.{SameAtoms}
use Rattle.leapfrog_search.specs.Leapfrog.{left_of}
use Rattle.leapfrog_search.specs.declared.Landed.{Landed}
use Rattle.leapfrog_search.specs.declared.Landed.TheVariants.{Key, Nothing}
use Rattle.leapfrog_join.proofs.Laws.{agreed_key}
use Rattle.stretches.specs.Stand.{wholes_in}
use Rattle.stretches.specs.declared.State.{State}
use Rattle.stretches.specs.Whole.{WholeAgreed}
use Rattle.join_query.specs.Query.{max_variables, atom_at, order_of, vars_of, atoms_of}
use Rattle.join_plan.specs.Plan as plans
use Rattle.join_window.specs.Window.{written}
use Rattle.join_openings.specs.Openings.{variable_at, count_at}
use Rattle.join_depths.specs.Depth.{PlacedIn, Based, Stands, Standing, takes_part, Opened, AgreedAt, IfFound, Begins, DepthBegun, Steps}
use Rattle.descent.specs.Descent.{Descended}
use Rattle.join_query.specs.declared.Query.{Query}
use Rattle.join_query.specs.declared.Tables.{Tables}
use Rattle.join_query.proofs.Lists.{reached_in, reached_out}
use Rattle.join_query.proofs.Accepted.{sized, tables, atoms_length}
use Rattle.join_plan.specs.Plan.{Plan}
use Rattle.join_depths.proofs.Standing.{left_vars, order_next, variable_is}
use Rattle.join_depths.proofs.Wholes.{whole_first}
use Rattle.join_depths.proofs.Beginnings.{opened_moved}
use Rattle.join_depths.proofs.Below.{placed_next}

-- ---- one word more

-- the words of each atom once the depth's variable has the word x
abbrev pub gained : Query → ℕ → (ℕ → Row) → ℕ → ℕ → Row
gained q d f x i = pick (takes_part q d f i) (f i ++ x ∷ []) (f i)

module _ {pool : List ℕ} {ts : Tables} {q : Query} {plan : Plan} {ends : List ℕ} {n d : ℕ} {z : State} {by_atom : List ℕ} {f : ℕ → Row} (o : Opened pool ts q plan ends n d z by_atom f) {x p : ℕ} (g : WholeAgreed pool z ends by_atom (count_at plan d) x p) where
  -- by cases of whether atom i takes part
  part_cases : (P : Row → Type 0) (i : ℕ) → (takes_part q d f i ≡ true → P (f i ++ x ∷ [])) → (takes_part q d f i ≡ false → P (f i)) → P (gained q d f x i)
  part_cases P i a b = go (takes_part q d f i) refl
    where
      go : (t : Bool) → takes_part q d f i ≡ t → P (pick t (f i ++ x ∷ []) (f i))
      go true e = a e
      go false e = b e

  longer : (i : ℕ) → length (f i ++ x ∷ []) ≡ suc (length (f i))
  longer i = length-append (f i) (x ∷ []) ∙ add-one (length (f i))

  pub gains : (i : ℕ) → i < length (atoms_of pool ts q) → Gains (get_or (order_of q) d 0) x (f i) (get_or (atoms_of pool ts q) i nobody) (gained q d f x i)
  gains i h =
      let k : i < q.atom_count = omega (arith, h, atoms_length o.based.accepted) in
      let e = ap (headed (get_or (order_of q) d 0)) (left_vars o.based i k) in
      record {
        taking = λ t. ap (λ (b : Bool). pick b (f i ++ x ∷ []) (f i)) (sym e ∙ t);
        staying = λ t. ap (λ (b : Bool). pick b (f i ++ x ∷ []) (f i)) (sym e ∙ t);
      }

  placed_below : (i : ℕ) → i < q.atom_count → PlacedIn pool ts q i (get_or z.at i 0) (get_or z.own i 0) (gained q d f x i)
  placed_below i h = part_cases (PlacedIn pool ts q i (get_or z.at i 0) (get_or z.own i 0)) i (placed_next o g i h) (o.staying i h)

  words_below : (i : ℕ) → i < q.atom_count → length (gained q d f x i) ≡ plans.layer_at q (d + 1) (atom_at q i)
  words_below i h =
      let l : d < length (order_of q) = omega (arith, (sized o.based.accepted).permutation.size, o.based.size, o.below) in
      let e = o.based.words i h in
      part_cases (λ (r : Row). length r ≡ plans.layer_at q (d + 1) (atom_at q i)) i
      (λ t. longer i ∙ sym (add-one (length (f i))) ∙ reached_in (order_of q) (vars_of (atom_at q i)) d l e t)
      (λ t. reached_out (order_of q) (vars_of (atom_at q i)) d l e t)

  pub stands_below_lem : Joinable (drop (suc d) (order_of q)) (standings (gained q d f x) (atoms_of pool ts q)) → Stands pool ts q plan ends n (d + 1) z.at z.own (gained q d f x)
  stands_below_lem j = record {
    based = record {
      len = o.based.len;
      accepted = o.based.accepted;
      planned = o.based.planned;
      firsts = o.based.firsts;
      size = o.based.size;
      deep = omega (arith, o.below);
      joinable = subst (λ (m : ℕ). Joinable (drop m (order_of q)) (standings (gained q d f x) (atoms_of pool ts q))) (sym (add-one d)) j;
      words = words_below;
    };
    placed = placed_below;
  }

-- ---- the keys left, of one query

module _ (pool : List ℕ) (ts : Tables) (q : Query) (plan : Plan) (ends : List ℕ) (n d : ℕ) (f : ℕ → Row) (found : Row) (s₀ : Progress) where
  -- the keys left lead to the end of the depth, and where one is found, the atoms are opened
  pub record Goes (z : State) (by_atom : List ℕ) (landed : Landed) (s : Progress) : Type 0 where
    to_go : ToGo n (get_or (order_of q) d 0) (drop (suc d) (order_of q)) (standings f (atoms_of pool ts q)) found s₀ (left_of (wholes_in pool z ends by_atom (count_at plan d)) landed) s
    pub opened : IfFound landed (Opened pool ts q plan ends n d z by_atom f)

if_found : (landed : Landed) {A : Type 0} → A → IfFound landed A
if_found (Key x p) a = a
if_found (Nothing p) a = tt

-- the variable of a depth, and those left behind it
abbrev pub first : Query → ℕ → ℕ
first q d = get_or (order_of q) d 0

abbrev pub rest : Query → ℕ → List ℕ
rest q d = drop (suc d) (order_of q)

module _ {pool : List ℕ} {ts : Tables} {q : Query} {plan : Plan} {ends : List ℕ} {n d : ℕ} {f : ℕ → Row} {found : Row} {s₀ : Progress} where
  goes_start : Based pool ts q plan ends n d f → {z : State} {by_atom : List ℕ} {landed : Landed} → Begins pool ts q plan ends n d z by_atom f landed → Goes pool ts q plan ends n d f found s₀ z by_atom landed s₀
  goes_start b g = record {
    to_go = to_go_same n (first q d) (rest q d) (standings f (atoms_of pool ts q)) found s₀ (sym g.keys) (engine_start n (first q d) (rest q d) f (atoms_of pool ts q) (tables b.accepted) found s₀);
    opened = g.opened;
  }

  -- a key is found
  module _ {z : State} {by_atom : List ℕ} {x p : ℕ} {s : Progress} (g : Goes pool ts q plan ends n d f found s₀ z by_atom (Key x p) s) (a : WholeAgreed pool z ends by_atom (count_at plan d) x p) where
    o : Opened pool ts q plan ends n d z by_atom f
    o = g.opened

    -- it is the first of those left
    leads : {left : List ℕ} → meet (wholes_in pool z ends by_atom (count_at plan d)) ≡ x ∷ left → ToGo n (first q d) (rest q d) (standings f (atoms_of pool ts q)) found s₀ (x ∷ left) s
    leads e = to_go_same n (first q d) (rest q d) (standings f (atoms_of pool ts q)) found s₀ e g.to_go

    pub goes_below : Stands pool ts q plan ends n (d + 1) z.at z.own (gained q d f x)
    goes_below =
        stands_below_lem o a
        (engine_joinable n (first q d) (rest q d) f (atoms_of pool ts q) (tables o.based.accepted) found s₀ (leads (whole_first a)) (gained q d f x) (gains o a)
        (subst (λ (l : List ℕ). Joinable l (standings f (atoms_of pool ts q))) (order_next o.based o.below) o.based.joinable))

    module _ {u : Progress} (r : Descends n (rest q d) (standings (gained q d f x) (atoms_of pool ts q)) (set found (first q d) x) s u) where
      passed : {left : List ℕ} → meet (wholes_in pool z ends by_atom (count_at plan d)) ≡ x ∷ left → ToGo n (first q d) (rest q d) (standings f (atoms_of pool ts q)) found s₀ left u
      passed e = engine_key n (first q d) (rest q d) f (atoms_of pool ts q) (tables o.based.accepted) found s₀ (leads e) (gained q d f x) (gains o a) r

      goes_key : {z' : State} {landed : Landed} → Steps pool ends by_atom (count_at plan d) z z' x landed → Goes pool ts q plan ends n d f found s₀ z' by_atom landed u
      goes_key {landed = landed} t = record { to_go = passed t.keys; opened = if_found landed (opened_moved o t.carried) }

      goes_full : u.full ≡ true → Descends n ((first q d) ∷ (rest q d)) (standings f (atoms_of pool ts q)) found s₀ u
      goes_full e = to_go_full n (first q d) (rest q d) (standings f (atoms_of pool ts q)) found s₀ (passed (whole_first a)) e

  goes_none : {z : State} {by_atom : List ℕ} {p : ℕ} {s : Progress} → Goes pool ts q plan ends n d f found s₀ z by_atom (Nothing p) s → Descends n ((first q d) ∷ (rest q d)) (standings f (atoms_of pool ts q)) found s₀ s
  goes_none g = to_go_none n (first q d) (rest q d) (standings f (atoms_of pool ts q)) found s₀ g.to_go

-- ---- the loop's invariant

-- z₀ and landed₀ are what the opening left, the rest is as it stands now
pub record Walk (pool : List ℕ) (plan : Plan) (ends : List ℕ) (n d : ℕ) (z₀ : State) (ring by_atom : List ℕ) (landed₀ : Landed) (found w₀ : List ℕ) (from : ℕ) (w : List ℕ) (z : State) (landed : Landed) (row : List ℕ) (rows : ℕ) : Type 0 where
  pub agreed : AgreedAt pool z ends by_atom (count_at plan d) landed
  pub same : IfFound landed (SameAtoms by_atom ring (count_at plan d))
  pub others : (x : ℕ) → set row (variable_at plan d) x ≡ set found (variable_at plan d) x
  pub long : length row ≡ max_variables
  pub goes : (ts : Tables) (q : Query) (f : ℕ → Row) → Based pool ts q plan ends n d f → Begins pool ts q plan ends n d z₀ by_atom f landed₀ → Goes pool ts q plan ends n d f found (written w₀ from false) z by_atom landed (written w rows false)

module _ {pool : List ℕ} {plan : Plan} {ends : List ℕ} {n d : ℕ} {above owned : List ℕ} {z₀ : State} {ring by_atom : List ℕ} {landed₀ : Landed} (b : DepthBegun pool plan ends n d above owned z₀ ring by_atom landed₀) {found w₀ : List ℕ} {from : ℕ} where
  pub walk_start : length found ≡ max_variables → Walk pool plan ends n d z₀ ring by_atom landed₀ found w₀ from w₀ z₀ landed₀ found from
  walk_start l = record {
    agreed = b.agreed;
    same = b.same;
    others = λ x. refl;
    long = l;
    goes = λ ts q f s g. goes_start s g;
  }

-- how many keys are left
abbrev pub keys_left : List ℕ → State → List ℕ → List ℕ → ℕ → Landed → ℕ
keys_left pool z ends by_atom k landed = length (left_of (wholes_in pool z ends by_atom k) landed)

pub steps_less : {pool ends by_atom : List ℕ} {k : ℕ} {z z' : State} {x y p : ℕ} {landed landed' : Landed} → landed ≡ Key y p → Steps pool ends by_atom k z z' x landed' → keys_left pool z' ends by_atom k landed' < keys_left pool z ends by_atom k landed
steps_less {pool} {ends} {by_atom} {k} {z} e t = omega (arith, ap length t.keys, ap (keys_left pool z ends by_atom k) e)

-- what the call for the key x leaves, of one query: in the terms of its order
below_is : (row : List ℕ) {pool : List ℕ} {ts : Tables} {q : Query} {plan : Plan} {ends : List ℕ} {n d : ℕ} {z : State} {by_atom : List ℕ} {f : ℕ → Row} {found w w' : List ℕ} {x p rows rows' : ℕ} {full : Bool} {s₀ : Progress} → Goes pool ts q plan ends n d f found s₀ z by_atom (Key x p) (written w rows false) → WholeAgreed pool z ends by_atom (count_at plan d) x p → ((y : ℕ) → set row (variable_at plan d) y ≡ set found (variable_at plan d) y) → Descended pool plan ends n (d + 1) z.at z.own (set row (variable_at plan d) x) w rows w' rows' full → Descends n (rest q d) (standings (gained q d f x) (atoms_of pool ts q)) (set found (first q d) x) (written w rows false) (written w' rows' full)
below_is row {pool} {ts} {q} {plan} {n} {d} {f = f} {found} {w} {w'} {x} {rows = rows} {rows'} {full} g a others r =
    let e : set row (variable_at plan d) x ≡ set found (first q d) x = others x ∙ ap (λ (y : ℕ). set found y x) (variable_is g.opened.based g.opened.below) in
    subst (λ (l : List ℕ). Descends n l (standings (gained q d f x) (atoms_of pool ts q)) (set found (first q d) x) (written w rows false) (written w' rows' full)) (ap (λ (m : ℕ). drop m (order_of q)) (add-one d))
    (subst (λ (l : Row). Descends n (drop (d + 1) (order_of q)) (standings (gained q d f x) (atoms_of pool ts q)) l (written w rows false) (written w' rows' full)) e
    (r.descends ts q (gained q d f x) (goes_below g a)))

module _ {pool : List ℕ} {plan : Plan} {ends : List ℕ} {n d : ℕ} {above owned : List ℕ} {z₀ : State} {ring by_atom : List ℕ} {landed₀ : Landed} (b : DepthBegun pool plan ends n d above owned z₀ ring by_atom landed₀) (st : Standing pool plan ends n d above owned) (below : d < n) {found w₀ : List ℕ} {from : ℕ} {w : List ℕ} {z : State} {row : List ℕ} {rows : ℕ} where
  -- a key is found
  module _ {landed : Landed} {x p : ℕ} (e : landed ≡ Key x p) (now : Walk pool plan ends n d z₀ ring by_atom landed₀ found w₀ from w z landed row rows) where
    i : Walk pool plan ends n d z₀ ring by_atom landed₀ found w₀ from w z (Key x p) row rows
    i = subst (λ (h : Landed). Walk pool plan ends n d z₀ ring by_atom landed₀ found w₀ from w z h row rows) e now

    going : Goes pool st.tables st.query plan ends n d st.words found (written w₀ from false) z by_atom (Key x p) (written w rows false)
    going = i.goes st.tables st.query st.words st.stands.based (b.begins st.tables st.query st.words st.stands)

    pub walk_below : Standing pool plan ends n (d + 1) z.at z.own
    walk_below = record { tables = st.tables; query = st.query; words = gained st.query d st.words x; stands = goes_below going i.agreed }

    -- what the step to the next key asks: all agree on the key of the ring's first atom
    here : key_at pool z.at (get_or by_atom 0 0) ≡ x
    here = agreed_key i.agreed.agreed 0 i.agreed.agreed.ready.positive

    pub walk_agreed : WholeAgreed pool z ends by_atom (count_at plan d) (key_at pool z.at (get_or by_atom 0 0)) p
    walk_agreed = rw here i.agreed

    pub walk_same : SameAtoms by_atom ring (count_at plan d)
    walk_same = i.same

    pub walk_long : length (set row (variable_at plan d) x) ≡ max_variables
    walk_long = length-set row (variable_at plan d) x ∙ i.long

    module _ {w' : List ℕ} {rows' : ℕ} {full : Bool} (r : Descended pool plan ends n (d + 1) z.at z.own (set row (variable_at plan d) x) w rows w' rows' full) where
      pub walk_full : full ≡ true → Descended pool plan ends n d above owned found w₀ from w' rows' full
      walk_full t = record {
        descends = λ ts q f s.
            let g = i.goes ts q f s.based (b.begins ts q f s) in
            subst (λ (l : List ℕ). Descends n l (standings f (atoms_of pool ts q)) found (written w₀ from false) (written w' rows' full)) (sym (order_next s.based below))
            (goes_full g i.agreed (below_is row g i.agreed i.others r) t);
      }

      pub walk_next : full ≡ false → {z' : State} {landed' : Landed} → Steps pool ends by_atom (count_at plan d) z z' (key_at pool z.at (get_or by_atom 0 0)) landed' → Walk pool plan ends n d z₀ ring by_atom landed₀ found w₀ from w' z' landed' (set row (variable_at plan d) x) rows'
      walk_next f {z'} {landed'} t = record {
        agreed = t.agreed;
        same = if_found landed' i.same;
        others = λ y. set-set row (variable_at plan d) x y ∙ i.others y;
        long = walk_long;
        goes = λ ts q f₀ s g₀.
            let g = i.goes ts q f₀ s g₀ in
            subst (λ (z : Bool). Goes pool ts q plan ends n d f₀ found (written w₀ from false) z' by_atom landed' (written w' rows' z)) f
            (goes_key g i.agreed (below_is row g i.agreed i.others r) (rw here at t));
      }

  -- none is left
  pub walk_none : {landed : Landed} {p : ℕ} → landed ≡ Nothing p → Walk pool plan ends n d z₀ ring by_atom landed₀ found w₀ from w z landed row rows → {full : Bool} → full ≡ false → Descended pool plan ends n d above owned found w₀ from w rows full
  walk_none {p = p} e now u = record {
    descends = λ ts q f s.
        subst (λ (b : Bool). Descends n (drop d (order_of q)) (standings f (atoms_of pool ts q)) found (written w₀ from false) (written w rows b)) (sym u)
        (subst (λ (l : List ℕ). Descends n l (standings f (atoms_of pool ts q)) found (written w₀ from false) (written w rows false)) (sym (order_next s.based below))
        (goes_none (subst (λ (h : Landed). Goes pool ts q plan ends n d f found (written w₀ from false) z by_atom h (written w rows false)) e (now.goes ts q f s.based (b.begins ts q f s)))));
  }

-- ---- numbers that the code relies on

module _ {pool : List ℕ} {plan : Plan} {ends : List ℕ} {n d : ℕ} {above owned : List ℕ} (st : Standing pool plan ends n d above owned) where
  pub few_variables : n ≤ max_variables
  few_variables = omega (arith, (sized st.stands.based.accepted).few, st.stands.based.size)

  pub deep_enough : d ≤ n
  deep_enough = st.stands.based.deep

  pub variable_small : d < n → variable_at plan d < max_variables
  variable_small h =
      let q = st.query in
      let z = sized st.stands.based.accepted in
      omega (
        arith,
        variable_is st.stands.based h,
        few_variables,
        st.stands.based.size,
        z.permutation.below (get_or (order_of q) d 0) (get_or_in (order_of q) d 0 (omega (arith, z.permutation.size, st.stands.based.size))),
      )

-- ---- no variable is left

pub descended_leaf : {pool : List ℕ} {plan : Plan} {ends : List ℕ} {n d : ℕ} {at own : List ℕ} {found w₀ : List ℕ} {from : ℕ} {w : List ℕ} {rows : ℕ} {full : Bool} → d ≡ n → written w rows full ≡ emit n (written w₀ from false) (take n found) → Descended pool plan ends n d at own found w₀ from w rows full
descended_leaf {pool} {n = n} {d} {found = found} {w₀} {from} {w} {rows} {full} e r = record {
  descends = λ ts q f s.
      let none : [] ≡ drop d (order_of q) = sym (drop_of_length-le (order_of q) (let h : length (order_of q) ≤ d = omega (arith, (sized s.based.accepted).permutation.size, s.based.size) in h)) in
      subst (λ (l : List ℕ). Descends n l (standings f (atoms_of pool ts q)) found (written w₀ from false) (written w rows full)) none
      (subst (Descends n [] (standings f (atoms_of pool ts q)) found (written w₀ from false)) (sym r) (leaf n (standings f (atoms_of pool ts q)) found (written w₀ from false)));
}

-- ---- a depth begins where the one above stands

pub from_above : (p : List ℕ → List ℕ → Type 0) {at own above owned : List ℕ} → at ≡ above → own ≡ owned → p at own → p above owned
from_above p {own = own} {above} e h x = subst (p above) h (subst (λ (a : List ℕ). p a own) e x)
