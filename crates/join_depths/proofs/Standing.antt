-- What a query that passed, with its plan, tells at a depth: its tables are undamaged and hold relations, the atoms that take part are the plan's, and each
-- can be opened where it stands. Idea: the layer that an atom opens is the number of words it has, so the plan's atoms are those of the theory.
use Prim.Native.Nat.{ℕ, suc, ◌<◌}
use native.Mathlib.Omega.{arith}
use mathlib.Core.Path.{◌≡◌, refl, sym, subst, ap, ap₂, ◌∙◌}
use mathlib.Core.Bool.{true}
use mathlib.Core.List.{List, [], ◌∷◌, map}
use lib.ListN.{length, get_or, take, drop, length-map, get_or-map}
use lib.Seq.{length-take-le, get_or-take, drop-cons}
use Rattle.relation.specs.Order.{Row, pick}
use Rattle.relation.specs.Lists.{◌∈◌, Ascends}
use Rattle.query.specs.Meaning as meaning
use Rattle.query.specs.Solve.{headed, standing}
use Rattle.query.specs.Descend.{standings, nobody, holders}
use Rattle.query.proofs.Meet.{get_or_in, in_get_or}
use Rattle.query.proofs.Holders.{in_holders, holders_in, holders_ascend}
use Rattle.query.proofs.Under.{length_standings, standings_at}
use Rattle.join_query.specs.Query.{no_atom, atom_at, table_at, order_of, vars_of, atoms_of, atom_table}
use Rattle.join_plan.specs.Plan.{Plan, depth_at, opening_at, left_at, takers, second_of, AtomOpening, DepthPlanned}
use Rattle.join_openings.specs.Openings.{count_at, who_at}
use Rattle.join_depths.specs.Depth.{Based, takes_part}
use Rattle.join_query.specs.declared.Query.{Query}
use Rattle.join_query.specs.declared.Tables.{Tables}
use Rattle.join_query.proofs.Lists.{headed_inside}
use Rattle.join_query.proofs.Accepted.{get_or_default, sized, names, lists, atoms_length, atoms_at}

-- ---- the atoms that take part at a depth

-- which they are depends on the lists of variables alone
holders_vars : (v : ℕ) (l m : List meaning.Atom) → length l ≡ length m → ((i : ℕ) → i < length l → (get_or l i nobody).vars ≡ (get_or m i nobody).vars) → holders v l ≡ holders v m
unfolding holders
holders_vars v [] [] e f = refl
holders_vars v [] (b ∷ m) e f = absurd (omega arith)
holders_vars v (a ∷ l) [] e f = absurd (omega arith)
holders_vars v (a ∷ l) (b ∷ m) e f =
    ap₂ (λ (xs : List ℕ) (hs : List ℕ). pick (headed v xs) (0 ∷ map suc hs) (map suc hs)) (f 0 (omega arith))
    (holders_vars v l m (omega arith) (λ i h. f (suc i) (omega arith)))

module _ {pool : List ℕ} {ts : Tables} {q : Query} {plan : Plan} {ends : List ℕ} {n d : ℕ} {f : ℕ → Row} (s : Based pool ts q plan ends n d f) where
  -- what is left of atom i's list
  pub left_vars : (i : ℕ) → i < q.atom_count → (standing (f i) (get_or (atoms_of pool ts q) i nobody)).vars ≡ drop (length (f i)) (vars_of (atom_at q i))
  left_vars i h = ap (λ (a : meaning.Atom). (standing (f i) a).vars) (atoms_at s.accepted i h)

  module _ (below : d < n) where
    abbrev v : ℕ
    v = get_or (order_of q) d 0

    long : length (order_of q) ≡ n
    long = (sized s.accepted).permutation.size ∙ s.size

    pub order_next : drop d (order_of q) ≡ v ∷ drop (suc d) (order_of q)
    order_next = drop-cons (order_of q) d 0 (omega (arith, long))

    order_at : v ≡ get_or q.order d 0
    order_at = get_or-take q.n q.order d 0 (omega (arith, s.size))

    at_depth : DepthPlanned (depth_at plan d) ts q d
    at_depth = s.planned.each d (omega (arith, s.size))

    pub variable_is : (depth_at plan d).variable ≡ v
    variable_is = at_depth.variable ∙ sym order_at

    pub takers_are : holders v (standings f (atoms_of pool ts q)) ≡ takers q d
    takers_are =
        let a = s.accepted in
        let l = map (left_at q d) q.atoms in
        let m : length (take q.atom_count l) ≡ q.atom_count = length-take-le q.atom_count l (omega (arith, length-map q.atoms (left_at q d), a.whole, (names a).few)) in
        let k : length (standings f (atoms_of pool ts q)) ≡ q.atom_count = length_standings f (atoms_of pool ts q) ∙ atoms_length a in
        ap (λ (x : ℕ). holders x (standings f (atoms_of pool ts q))) order_at
        ∙ holders_vars (get_or q.order d 0) (standings f (atoms_of pool ts q)) (take q.atom_count l) (k ∙ sym m)
        (λ i h.
        let g : i < q.atom_count = omega arith in
        ap (λ (b : meaning.Atom). b.vars) (standings_at f (atoms_of pool ts q) i (omega (arith, atoms_length a)))
        ∙ left_vars i g
        ∙ ap (λ (x : ℕ). drop x (vars_of (atom_at q i))) (s.words i g)
        ∙ ap (λ (b : meaning.Atom). b.vars) (sym (get_or-take q.atom_count l i nobody g ∙ get_or_default l i nobody (left_at q d no_atom) (omega (arith, length-map q.atoms (left_at q d), a.whole, (names a).few)) ∙ get_or-map (left_at q d) q.atoms i no_atom)))

    -- the plan's are those of the theory
    pub count_is : count_at plan d ≡ length (takers q d)
    count_is = at_depth.count

    pub who_is : (j : ℕ) → j < count_at plan d → who_at plan d j ≡ get_or (takers q d) j 0
    who_is j h = (at_depth.openings j (omega (arith, count_is))).atom

    -- one that takes part
    pub record Taker (i : ℕ) : Type 0 where
      pub atom : i < q.atom_count
      pub takes : takes_part q d f i ≡ true

    pub taker : {i : ℕ} → i ∈ takers q d → Taker i
    taker {i} m =
        let t = in_holders v (standings f (atoms_of pool ts q)) (subst (λ (l : List ℕ). i ∈ l) (sym takers_are) m) in
        let h : i < q.atom_count = omega (arith, t.0, length_standings f (atoms_of pool ts q), atoms_length s.accepted) in
        record {
          atom = h;
          takes = ap (headed v) (sym (ap (λ (b : meaning.Atom). b.vars) (standings_at f (atoms_of pool ts q) i (omega (arith, atoms_length s.accepted))) ∙ left_vars i h)) ∙ t.1;
        }

    pub taker_at : (j : ℕ) → j < count_at plan d → Taker (who_at plan d j)
    taker_at j h = subst Taker (sym (who_is j h)) (taker (get_or_in (takers q d) j 0 (omega (arith, count_is))))

    pub taker_in : {i : ℕ} → Taker i → i ∈ takers q d
    taker_in {i} t =
        let l : i < length (standings f (atoms_of pool ts q)) = omega (arith, t.atom, length_standings f (atoms_of pool ts q), atoms_length s.accepted) in
        rw takers_are at (holders_in v (standings f (atoms_of pool ts q)) i l
        (ap (headed v) (ap (λ (b : meaning.Atom). b.vars) (standings_at f (atoms_of pool ts q) i (omega (arith, t.atom, atoms_length s.accepted))) ∙ left_vars i t.atom) ∙ t.takes))

    pub taker_place : {i : ℕ} → Taker i → (j : ℕ) × (j < count_at plan d) × (who_at plan d j ≡ i)
    taker_place t =
        let p = in_get_or 0 (taker_in t) in
        let h : p.0 < count_at plan d = omega (arith, count_is, p.1) in
        (p.0, h, who_is p.0 h ∙ p.2)

    pub takers_ascend : Ascends ◌<◌ (takers q d)
    takers_ascend = rw takers_are at (holders_ascend v (standings f (atoms_of pool ts q)))

    -- its opening: the layer is the number of its words, and there is such a layer
    pub opening_is : (j : ℕ) → j < count_at plan d → let a = who_at plan d j in AtomOpening (opening_at plan d j) a (atom_at q a).laid_over (atom_table ts q a) (table_at ts (second_of (atom_at q a))) (length (f a))
    opening_is j h =
        let a = get_or (takers q d) j 0 in
        let w = who_is j h in
        subst (λ (x : ℕ). AtomOpening (opening_at plan d j) x (atom_at q x).laid_over (atom_table ts q x) (table_at ts (second_of (atom_at q x))) (length (f x))) (sym w)
        (subst (AtomOpening (opening_at plan d j) a (atom_at q a).laid_over (atom_table ts q a) (table_at ts (second_of (atom_at q a)))) (sym (s.words a (taker (get_or_in (takers q d) j 0 (omega (arith, count_is)))).atom)) (at_depth.openings j (omega (arith, count_is))))

    pub layer_in_lem : {i : ℕ} → Taker i → length (f i) < (atom_table ts q i).arity
    layer_in_lem {i} t = omega (arith, headed_inside v (length (f i)) (vars_of (atom_at q i)) t.takes, (lists s.accepted i t.atom).exact)
