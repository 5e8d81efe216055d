-- How the plan comes to be: a depth's openings are one for each atom that takes part, and the depths are planned one after the other.
use Prim.Native.Nat.{ℕ, zero, suc, ◌+◌, ◌-◌, ◌*◌, ◌≤◌, ◌<◌}
use native.Mathlib.Omega.{arith}
use native.Mathlib.Numerals.{add-one}
use native.Mathlib.Decide.{ℕ_discrete, dec_lt}
use mathlib.Core.Path.{◌≡◌, refl, sym, subst, ap, ◌∙◌}
use mathlib.Core.Bool.{Bool, true, false}
use mathlib.Core.List.{List, [], ◌∷◌, ◌++◌, map}
use lib.ListN.{length, get_or, set, take, drop, length-set, length-append, length-map, get_or-append, get_or-map}
use lib.Seq.{length-take-le, take-suc, take-take, get_or-append_seam, get_or-set_same, get_or-set_other}
use Rattle.relation.specs.Order.{pick}
use Rattle.query.specs.Meaning as meaning
use Rattle.query.specs.Solve.{headed}
use Rattle.query.specs.Descend.{holders}
use Rattle.query.proofs.Holders.{holders_snoc, holders_few}
use Rattle.column_trie.specs.Pool.{spot}
use Rattle.column_trie.specs.declared.ColumnTrie.{ColumnTrie}
use Rattle.query.specs.Limits.{max_atoms}
use Rattle.join_query.specs.Query.{max_variables, no_atom, atom_at, table_at, vars_of}
use Rattle.join_query.specs.Checking.{reached}
use Rattle.join_plan.specs.Plan.{no_opening, no_depth, above_of, second_of, firsts_end, AtomOpening, FirstsEnded, layer_at, left_at, takers_of, Openings, DepthPlanned, Planned}
use Rattle.join_plan.specs.declared.AtomPlan.{AtomPlan}
use Rattle.join_plan.specs.declared.DepthPlan.{DepthPlan}
use Rattle.join_query.specs.declared.Query.{Query}
use Rattle.join_query.specs.declared.Tables.{Tables}

-- where the keys above a layer start, below the first
pub above_below : (t : ColumnTrie) (d : ℕ) → (d ≡ 0 → ⊥) → spot t.start t.capacity (d - 1) ≡ above_of t d
above_below t zero f = absurd (f refl)
above_below t (suc d) f = ap (spot t.start t.capacity) (let e : suc d - 1 ≡ d = omega arith in e)

-- ---- an atom's

-- its second table, by its number
pub second_made : {p : AtomPlan} {a : ℕ} {laid : Bool} {t : ColumnTrie} {d : ℕ} (ts : Tables) {x y : ℕ} → x ≡ y → AtomOpening p a laid t (table_at ts x) d → AtomOpening p a laid t (table_at ts y) d
second_made {p} {a} {laid} {t} {d} ts e o = subst (λ (z : ℕ). AtomOpening p a laid t (table_at ts z) d) e o

-- ---- the openings of a depth

-- atom a's opening, the j-th of its depth
abbrev At : Tables → Query → ℕ → List AtomPlan → ℕ → ℕ → Type 0
At ts q d ps j a = AtomOpening (get_or ps j no_opening) a (atom_at q a).laid_over (table_at ts (atom_at q a).table) (table_at ts (second_of (atom_at q a))) (layer_at q d (atom_at q a))

-- the first i atoms are passed, k of them take part
pub record Filling (ts : Tables) (q : Query) (d : ℕ) (ps : List AtomPlan) (k i : ℕ) : Type 0 where
  pub inside : i ≤ q.atom_count
  pub count : k ≡ length (takers_of q d i)
  pub few : k ≤ i
  pub long : length ps ≡ max_atoms
  pub openings : Openings ps ts q d i

module _ (ts : Tables) (q : Query) (d : ℕ) (whole : length q.atoms ≡ max_atoms) where
  -- one atom more
  takers_next : (i : ℕ) → i < max_atoms → takers_of q d (i + 1) ≡ pick (headed (get_or q.order d 0) (left_at q d (atom_at q i)).vars) (takers_of q d i ++ i ∷ []) (takers_of q d i)
  takers_next i h =
      let v = get_or q.order d 0 in
      let l = map (left_at q d) q.atoms in
      let n : length l ≡ max_atoms = length-map q.atoms (left_at q d) ∙ whole in
      let m : length (take i l) ≡ i = length-take-le i l (omega arith) in
      ap (holders v) (ap (λ (k : ℕ). take k l) (add-one i) ∙ take-suc l i (left_at q d no_atom) (omega arith) ∙ ap (λ (a : meaning.Atom). take i l ++ a ∷ []) (get_or-map (left_at q d) q.atoms i no_atom))
      ∙ holders_snoc v (take i l) (left_at q d (atom_at q i))
      ∙ ap (λ (k : ℕ). pick (headed v (left_at q d (atom_at q i)).vars) (takers_of q d i ++ k ∷ []) (takers_of q d i)) m

  pub filling_start : (ps : List AtomPlan) → length ps ≡ max_atoms → Filling ts q d ps 0 0
  unfolding holders
  filling_start ps l = record { inside = omega arith; count = refl; few = omega arith; long = l; openings = λ j h. absurd (omega arith) }

  module _ {ps : List AtomPlan} {k i : ℕ} (f : Filling ts q d ps k i) (h : i < q.atom_count) (b : i < max_atoms) (deep : d ≤ q.n) {layer : ℕ} (e : layer ≡ reached (take d q.order) (vars_of (atom_at q i))) where
    layer_is : layer ≡ layer_at q d (atom_at q i)
    layer_is = e ∙ ap (λ (l : List ℕ). reached l (vars_of (atom_at q i))) (sym (take-take d q.n q.order deep))

    next : {t : Bool} → headed (get_or q.order d 0) (drop layer (vars_of (atom_at q i))) ≡ t → takers_of q d (i + 1) ≡ pick t (takers_of q d i ++ i ∷ []) (takers_of q d i)
    next {t} u =
        takers_next i b
        ∙ ap (λ (s : Bool). pick s (takers_of q d i ++ i ∷ []) (takers_of q d i)) (ap (λ (n : ℕ). headed (get_or q.order d 0) (drop n (vars_of (atom_at q i)))) (sym layer_is) ∙ u)

    pub filling_out : headed (get_or q.order d 0) (drop layer (vars_of (atom_at q i))) ≡ false → Filling ts q d ps k (i + 1)
    filling_out u =
        let n = next u in
        record {
          inside = omega arith;
          count = f.count ∙ ap length (sym n);
          few = omega (arith, f.few);
          long = f.long;
          openings = subst (λ (hs : List ℕ). (j : ℕ) → j < length hs → At ts q d ps j (get_or hs j 0)) (sym n) f.openings;
        }

    pub filling_in : headed (get_or q.order d 0) (drop layer (vars_of (atom_at q i))) ≡ true → {p : AtomPlan} → AtomOpening p i (atom_at q i).laid_over (table_at ts (atom_at q i).table) (table_at ts (second_of (atom_at q i))) layer → Filling ts q d (set ps k p) (k + 1) (i + 1)
    filling_in u {p} m =
        let n = next u in
        record {
          inside = omega arith;
          count = omega (arith, f.count, ap length n, length-append (takers_of q d i) (i ∷ []));
          few = omega (arith, f.few);
          long = length-set ps k p ∙ f.long;
          openings = subst (λ (hs : List ℕ). (j : ℕ) → j < length hs → At ts q d (set ps k p) j (get_or hs j 0)) (sym n) all;
        }
      where
        hs : List ℕ
        hs = takers_of q d i

        One : ℕ → AtomPlan → Type 0
        One a o = AtomOpening o a (atom_at q a).laid_over (table_at ts (atom_at q a).table) (table_at ts (second_of (atom_at q a))) (layer_at q d (atom_at q a))

        all : (j : ℕ) → j < length (takers_of q d i ++ i ∷ []) → At ts q d (set ps k p) j (get_or (takers_of q d i ++ i ∷ []) j 0)
        all j l = go (dec_lt j (length hs))
          where
            go : Dec (j < length hs) → At ts q d (set ps k p) j (get_or (hs ++ i ∷ []) j 0)
            go (yes g) =
                subst (At ts q d (set ps k p) j) (sym (get_or-append hs (i ∷ []) 0 j g))
                (subst (One (get_or hs j 0)) (sym (get_or-set_other ps k j p no_opening (λ z. omega (arith, f.count)))) (f.openings j g))
            go (no g) =
                let z : j ≡ length hs = omega (arith, length-append hs (i ∷ [])) in
                let w : k ≡ j = omega (arith, f.count) in
                subst (At ts q d (set ps k p) j) (sym (ap (λ (x : ℕ). get_or (hs ++ i ∷ []) x 0) z ∙ get_or-append_seam hs i [] 0))
                (subst (λ (x : ℕ). At ts q d (set ps k p) x i) w
                (subst (One i) (sym (get_or-set_same ps k p no_opening (omega (arith, f.few, f.long))))
                (subst (AtomOpening p i (atom_at q i).laid_over (table_at ts (atom_at q i).table) (table_at ts (second_of (atom_at q i)))) layer_is m)))

  -- all are passed
  pub depth_made : {ps : List AtomPlan} {k i : ℕ} → Filling ts q d ps k i → q.atom_count ≤ i → DepthPlanned (record { variable = get_or q.order d 0; count = k; openings = ps }) ts q d
  depth_made {ps} {k} {i} f h =
      let e : i ≡ q.atom_count = omega (arith, f.inside) in
      record { variable = refl; count = f.count ∙ ap (λ (x : ℕ). length (takers_of q d x)) e; openings = subst (Openings ps ts q d) e f.openings }

-- ---- all depths

-- no more take part than there are
pub takers_few : (q : Query) (d i : ℕ) → i ≤ length q.atoms → length (takers_of q d i) ≤ i
takers_few q d i h =
    let l = map (left_at q d) q.atoms in
    omega (arith, holders_few (get_or q.order d 0) (take i l), length-take-le i l (omega (arith, length-map q.atoms (left_at q d))))

-- the depths before d are planned
pub record Planning (ps : List DepthPlan) (ts : Tables) (q : Query) (d : ℕ) : Type 0 where
  pub inside : d ≤ q.n
  pub long : length ps ≡ max_variables
  pub each : (e : ℕ) → e < d → DepthPlanned (get_or ps e no_depth) ts q e

pub planning_start : (ps : List DepthPlan) (ts : Tables) (q : Query) → length ps ≡ max_variables → Planning ps ts q 0
planning_start ps ts q l = record { inside = omega arith; long = l; each = λ e h. absurd (omega arith) }

pub planning_next : {ps : List DepthPlan} {ts : Tables} {q : Query} {d : ℕ} {p : DepthPlan} → q.n ≤ max_variables → Planning ps ts q d → d < q.n → DepthPlanned p ts q d → Planning (set ps d p) ts q (d + 1)
planning_next {ps} {ts} {q} {d} {p} deep f h m = record {
  inside = omega arith;
  long = length-set ps d p ∙ f.long;
  each = λ e l. go e l (ℕ_discrete e d);
}
  where
    go : (e : ℕ) → e < d + 1 → Dec (e ≡ d) → DepthPlanned (get_or (set ps d p) e no_depth) ts q e
    go e l (yes z) = subst (λ (x : ℕ). DepthPlanned (get_or (set ps d p) x no_depth) ts q x) (sym z) (subst (λ (o : DepthPlan). DepthPlanned o ts q d) (sym (get_or-set_same ps d p no_depth (omega (arith, f.long)))) m)
    go e l (no z) = subst (λ (o : DepthPlan). DepthPlanned o ts q e) (sym (get_or-set_other ps d e p no_depth z)) (f.each e (omega arith))

pub planning_done : {ps : List DepthPlan} {ts : Tables} {q : Query} {d : ℕ} → Planning ps ts q d → q.n ≤ d → Planned ps ts q
planning_done p h = record { each = λ e l. p.each e (omega arith) }

-- ---- the ends of the first keys

pub ends_start : (ends : List ℕ) (ts : Tables) (q : Query) → length ends ≡ 2 * max_atoms → FirstsEnded ends ts q 0
ends_start ends ts q l = record { size = l; table = λ i h. absurd (omega arith); second = λ i h. absurd (omega arith) }

module _ {ends : List ℕ} {ts : Tables} {q : Query} {i : ℕ} (f : FirstsEnded ends ts q i) (b : i < max_atoms) {x y : ℕ} (e : x ≡ firsts_end (table_at ts (atom_at q i).table)) (e₂ : y ≡ firsts_end (table_at ts (second_of (atom_at q i)))) where
  abbrev after : List ℕ
  after = set (set ends (2 * i) x) (2 * i + 1) y

  -- the words below stay
  stays : (j : ℕ) → j < 2 * i → get_or (set (set ends (2 * i) x) (2 * i + 1) y) j 0 ≡ get_or ends j 0
  stays j h = get_or-set_other (set ends (2 * i) x) (2 * i + 1) j y 0 (λ z. omega arith) ∙ get_or-set_other ends (2 * i) j x 0 (λ z. omega arith)

  pub ends_next : FirstsEnded (set (set ends (2 * i) x) (2 * i + 1) y) ts q (i + 1)
  ends_next = record {
    size = length-set (set ends (2 * i) x) (2 * i + 1) y ∙ (length-set ends (2 * i) x ∙ f.size);
    table = λ j h. go j h (ℕ_discrete j i);
    second = λ j h. go₂ j h (ℕ_discrete j i);
  }
    where
      go : (j : ℕ) → j < i + 1 → Dec (j ≡ i) → get_or after (2 * j) 0 ≡ firsts_end (table_at ts (atom_at q j).table)
      go j h (yes z) =
          subst (λ (k : ℕ). get_or after (2 * k) 0 ≡ firsts_end (table_at ts (atom_at q k).table)) (sym z)
          (get_or-set_other (set ends (2 * i) x) (2 * i + 1) (2 * i) y 0 (λ z. omega arith) ∙ (get_or-set_same ends (2 * i) x 0 (omega (arith, f.size)) ∙ e))
      go j h (no z) = stays (2 * j) (omega arith) ∙ f.table j (omega arith)

      go₂ : (j : ℕ) → j < i + 1 → Dec (j ≡ i) → get_or after (2 * j + 1) 0 ≡ firsts_end (table_at ts (second_of (atom_at q j)))
      go₂ j h (yes z) =
          subst (λ (k : ℕ). get_or after (2 * k + 1) 0 ≡ firsts_end (table_at ts (second_of (atom_at q k)))) (sym z)
          (get_or-set_same (set ends (2 * i) x) (2 * i + 1) y 0 (omega (arith, length-set ends (2 * i) x, f.size)) ∙ e₂)
      go₂ j h (no z) = stays (2 * j + 1) (omega arith) ∙ f.second j (omega arith)
