-- One key of a depth, of one query: the atoms stand for one word more, what the call below leaves is the rows under the key, and the step to the next key passes it alone.
use Prim.Native.Nat.{ℕ, ◌+◌}
use native.Mathlib.Numerals.{add-one}
use mathlib.Core.Path.{◌≡◌, refl, sym, subst, ap, ◌∙◌}
use mathlib.Core.Bool.{Bool, false}
use mathlib.Core.List.{List, map}
use lib.ListN.{set, drop}
use Rattle.relation.specs.Order.{Row}
use Rattle.relation.specs.Lists.{◌∈◌, hd, tl}
use Rattle.query.specs.Meaning.{Atom}
use Rattle.query.specs.Meet.{meet}
use Rattle.query.specs.Solve.{bind, runs, extend}
use Rattle.query.specs.Window.{emits}
use Rattle.query.specs.Descend.{standings, Joinable}
use Rattle.query.proofs.Solved.{joinable_bind}
use Rattle.query.proofs.Under.{standings_bind, standings_runs}
use Rattle.leapfrog_search.specs.declared.Landed.{Landed}
use Rattle.leapfrog_search.specs.declared.Landed.TheVariants.{Key, Nothing}
use Rattle.stretches.specs.declared.State.{State}
use Rattle.stretches.specs.Whole.{WholeAgreed}
use Rattle.join_query.specs.Query.{order_of, atoms_of}
use Rattle.join_query.specs.declared.Query.{Query}
use Rattle.join_query.specs.declared.Tables.{Tables}
use Rattle.join_query.proofs.Accepted.{tables}
use Rattle.join_plan.specs.Plan.{Plan}
use Rattle.join_window.specs.Window.{written}
use Rattle.join_openings.specs.Openings.{variable_at, count_at}
use Rattle.join_depths.specs.Depth.{Stands, Opened, IfFound, Steps}
use Rattle.join_depths.proofs.Standing.{order_next, variable_is}
use Rattle.join_depths.proofs.Wholes.{whole_first}
use Rattle.join_depths.proofs.Beginnings.{opened_moved}
use Rattle.descent.specs.Descent.{Descended}
use Rattle.descent.proofs.Walking.{first, rest, gained, gains, stands_below_lem}
use Rattle.rest_of_depth.specs.Rest.{KeysLeft, rows_under}

pub if_found : (landed : Landed) {A : Type 0} → A → IfFound landed A
if_found (Key x p) a = a
if_found (Nothing p) a = tt

module _ {pool : List ℕ} {ts : Tables} {q : Query} {plan : Plan} {ends : List ℕ} {n d : ℕ} {z : State} {by_atom : List ℕ} {f : ℕ → Row} {x p : ℕ} (l : KeysLeft pool ts q plan ends n d z by_atom f (Key x p)) (a : WholeAgreed pool z ends by_atom (count_at plan d) x p) where
  abbrev atoms : List Atom
  atoms = atoms_of pool ts q

  o : Opened pool ts q plan ends n d z by_atom f
  o = l.opened

  -- it is common
  common : x ∈ meet (runs (first q d) (standings f atoms))
  common = rw (standings_runs (first q d) f atoms (tables o.based.accepted)) (l.among x (subst (λ (ks : List ℕ). x ∈ ks) (sym (whole_first a)) (hd refl)))

  bound : map (bind (first q d) x) (standings f atoms) ≡ standings (gained q d f x) atoms
  bound = standings_bind (first q d) x f (gained q d f x) atoms (λ b m. (tables o.based.accepted b m).ascending) (gains o a)

  pub key_stands : Stands pool ts q plan ends n (d + 1) z.at z.own (gained q d f x)
  key_stands =
      stands_below_lem o a
      (subst (Joinable (rest q d)) bound
      (joinable_bind (first q d) (rest q d) (standings f atoms) (subst (λ (vs : List ℕ). Joinable vs (standings f atoms)) (order_next o.based o.below) o.based.joinable) common))

  -- the rows under it, as the call names them
  pub key_rows : (g : List ℕ → List Atom → Row → List Row) (found : Row) → g (drop (d + 1) (order_of q)) (standings (gained q d f x) atoms) (set found (variable_at plan d) x) ≡ g (rest q d) (map (bind (first q d) x) (standings f atoms)) (set found (first q d) x)
  key_rows g found =
      ap (λ (m : ℕ). g (drop m (order_of q)) (standings (gained q d f x) atoms) (set found (variable_at plan d) x)) (add-one d)
      ∙ (ap (λ (l : List Atom). g (rest q d) l (set found (variable_at plan d) x)) (sym bound)
      ∙ ap (λ (v : ℕ). g (rest q d) (map (bind (first q d) x) (standings f atoms)) (set found v x)) (variable_is o.based o.below))

  -- what the call leaves
  pub key_below : (found : Row) {w w' : List ℕ} {rows rows' : ℕ} {full : Bool} → Descended pool plan ends n (d + 1) z.at z.own (set found (variable_at plan d) x) w rows w' rows' full → written w' rows' full ≡ emits n (written w rows false) (rows_under n (first q d) (rest q d) (standings f atoms) found x)
  key_below found {w} {rows = rows} r = (r.descends ts q (gained q d f x) key_stands).exit ∙ ap (emits n (written w rows false)) (key_rows (extend n) found)

  -- the next key
  pub key_next : {z' : State} {landed : Landed} → Steps pool ends by_atom (count_at plan d) z z' x landed → KeysLeft pool ts q plan ends n d z' by_atom f landed
  key_next {z'} {landed} t = record {
    based = l.based;
    among = λ k m. l.among k (subst (λ (ks : List ℕ). k ∈ ks) (sym t.keys) (tl m));
    opened = if_found landed (opened_moved o t.carried);
  }
