-- The atoms that take part at a variable, by number: which they are, their runs, and how a loop over the atoms comes by them.
use Prim.Native.Nat.{ℕ, zero, suc, ◌≤◌, ◌<◌}
use native.Mathlib.Omega.{arith}
use mathlib.Core.Path.{◌≡◌, refl, sym, subst, ap, ◌∙◌}
use mathlib.Core.Logic.{⊎_elim}
use mathlib.Core.Bool.{Bool, true, false}
use mathlib.Core.List.Memᴰ
use mathlib.Core.List.{List, [], ◌∷◌, ◌++◌, map, map-append, map-map}
use lib.ListN.{length, get_or, length-map}
use Rattle.relation.specs.Order.{pick}
use Rattle.relation.specs.Lists.{◌∈◌, hd, tl, not_in_nil, in_cons, Ascends, anone, amore}
use Rattle.relation.specs.Layers.{keys_under}
use Rattle.relation.proofs.Lists.{ascends_map}
use Rattle.query.specs.Meaning.{Atom}
use Rattle.query.specs.Solve.{headed, runs}
use Rattle.query.specs.Descend.{nobody, holders, Joinable}
use Rattle.query.proofs.Meet.{in_get_or}
use Rattle.query.proofs.Solved.{takes_part}

pub in_holders : (v : ℕ) (atoms : List Atom) {i : ℕ} → i ∈ holders v atoms → (i < length atoms) × (headed v (get_or atoms i nobody).vars ≡ true)
unfolding holders
in_holders v [] m = absurd (not_in_nil m)
in_holders v (a ∷ l) {i} m = go (λ j n. in_holders v l {i = j} n) (headed v a.vars) refl m
  where
    Holds : List Atom → ℕ → Type 0
    Holds l j = (j < length l) × (headed v (get_or l j nobody).vars ≡ true)

    later : ((j : ℕ) → j ∈ holders v l → Holds l j) → i ∈ map suc (holders v l) → Holds (a ∷ l) i
    later ih n =
        let t = Memᴰ.of_map suc (holders v l) n in
        let u = ih t.0 t.1 in
        subst (Holds (a ∷ l)) t.2 (omega (arith, u.0), u.1)

    go : ((j : ℕ) → j ∈ holders v l → Holds l j) → (b : Bool) → headed v a.vars ≡ b → i ∈ pick b (0 ∷ map suc (holders v l)) (map suc (holders v l)) → Holds (a ∷ l) i
    go ih true e n = ⊎_elim (λ (d : i ≡ 0). subst (Holds (a ∷ l)) (sym d) (omega arith, e)) (λ (n' : i ∈ map suc (holders v l)). later ih n') (in_cons n)
    go ih false e n = later ih n

pub holders_in : (v : ℕ) (atoms : List Atom) (i : ℕ) → i < length atoms → headed v (get_or atoms i nobody).vars ≡ true → i ∈ holders v atoms
unfolding holders
holders_in v [] i h e = absurd (omega arith)
holders_in v (a ∷ l) zero h e = rw e (hd refl)
holders_in v (a ∷ l) (suc i) h e = go (headed v a.vars) (Memᴰ.map suc (holders_in v l i (omega arith) e))
  where
    go : (b : Bool) → suc i ∈ map suc (holders v l) → suc i ∈ pick b (0 ∷ map suc (holders v l)) (map suc (holders v l))
    go true m = tl m
    go false m = m

-- in atom order, no more than there are, and at least one where the variable is the first left
pub holders_ascend : (v : ℕ) (atoms : List Atom) → Ascends ◌<◌ (holders v atoms)
unfolding holders
holders_ascend v [] = anone
holders_ascend v (a ∷ l) = go (headed v a.vars) (ascends_map suc (λ i j m n h. omega arith) (holders_ascend v l))
  where
    go : (b : Bool) → Ascends ◌<◌ (map suc (holders v l)) → Ascends ◌<◌ (pick b (0 ∷ map suc (holders v l)) (map suc (holders v l)))
    go true s = amore {r = 0} {rs = map suc (holders v l)} (λ i m. let t = Memᴰ.of_map suc (holders v l) m in omega (arith, t.2)) s
    go false s = s

pub holders_few : (v : ℕ) (atoms : List Atom) → length (holders v atoms) ≤ length atoms
unfolding holders
holders_few v [] = omega arith
holders_few v (a ∷ l) = go (headed v a.vars) (holders_few v l)
  where
    go : (b : Bool) → length (holders v l) ≤ length l → length (pick b (0 ∷ map suc (holders v l)) (map suc (holders v l))) ≤ suc (length l)
    go true h = omega (arith, length-map (holders v l) suc)
    go false h = omega (arith, length-map (holders v l) suc)

pub holders_some : (v : ℕ) (vs : List ℕ) (atoms : List Atom) → Joinable (v ∷ vs) atoms → 0 < length (holders v atoms)
holders_some v vs atoms c =
    let t = takes_part v vs atoms c in
    let i = in_get_or nobody t.1 in
    omega (arith, (in_get_or 0 (holders_in v atoms i.0 i.1 (rw i.2 t.2))).1)

-- the numbers found so far, and one atom more
pub holders_snoc : (v : ℕ) (l : List Atom) (a : Atom) → holders v (l ++ a ∷ []) ≡ pick (headed v a.vars) (holders v l ++ length l ∷ []) (holders v l)
unfolding holders
holders_snoc v [] a = refl
holders_snoc v (c ∷ l) a = go (headed v c.vars) (headed v a.vars) (holders_snoc v l a)
  where
    go : (b d : Bool) → holders v (l ++ a ∷ []) ≡ pick d (holders v l ++ length l ∷ []) (holders v l) → pick b (0 ∷ map suc (holders v (l ++ a ∷ []))) (map suc (holders v (l ++ a ∷ []))) ≡ pick d (pick b (0 ∷ map suc (holders v l)) (map suc (holders v l)) ++ suc (length l) ∷ []) (pick b (0 ∷ map suc (holders v l)) (map suc (holders v l)))
    go true true e = ap (λ (m : List ℕ). 0 ∷ map suc m) e ∙ ap (λ (m : List ℕ). 0 ∷ m) (map-append suc (holders v l) (length l ∷ []))
    go true false e = ap (λ (m : List ℕ). 0 ∷ map suc m) e
    go false true e = ap (map suc) e ∙ map-append suc (holders v l) (length l ∷ [])
    go false false e = ap (map suc) e

-- the runs by the numbers of their atoms
pub runs_holders : (v : ℕ) (atoms : List Atom) → runs v atoms ≡ map (λ (i : ℕ). keys_under [] (get_or atoms i nobody).rows) (holders v atoms)
unfolding runs holders
runs_holders v [] = refl
runs_holders v (a ∷ l) = go (runs_holders v l) (headed v a.vars)
  where
    shift : map (λ (i : ℕ). keys_under [] (get_or (a ∷ l) i nobody).rows) (map suc (holders v l)) ≡ map (λ (i : ℕ). keys_under [] (get_or l i nobody).rows) (holders v l)
    shift = map-map (λ (i : ℕ). keys_under [] (get_or (a ∷ l) i nobody).rows) suc (holders v l)

    go : runs v l ≡ map (λ (i : ℕ). keys_under [] (get_or l i nobody).rows) (holders v l) → (b : Bool) → pick b (keys_under [] a.rows ∷ runs v l) (runs v l) ≡ map (λ (i : ℕ). keys_under [] (get_or (a ∷ l) i nobody).rows) (pick b (0 ∷ map suc (holders v l)) (map suc (holders v l)))
    go ih true = ap (λ (x : List (List ℕ)). keys_under [] a.rows ∷ x) (ih ∙ sym shift)
    go ih false = ih ∙ sym shift
