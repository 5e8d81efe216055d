-- What callers cite: the whole runs of a ring as the definition asks them, and each whole run cut at the key that was found.
use mathlib.Core.Path.{◌≡◌, sym, subst, ap, ◌∙◌}
use mathlib.Core.List.{List, ◌∷◌, ◌++◌}
use Prim.Native.Nat.{ℕ, ◌+◌, ◌<◌}
use native.Mathlib.Omega.{arith}
use lib.ListN.{length, get_or, take, drop, length-drop}
use lib.Seq.{get_or-drop}
use Rattle.relation.specs.Lists.{◌∈◌, Ascends}
use Rattle.relation.specs.Runs.{from}
use Rattle.relation.proofs.Runs.{from_drop}
use Rattle.query.specs.Meet.{Runs}
use Rattle.leapfrog.specs.Search.{Went, run_at, first, Comes}
use Rattle.leapfrog.proofs.Search.{Ring}
use Rattle.leapfrog.proofs.Onward.{Agreeing}
use Rattle.ring_sort.specs.Sorted.{key_at}
use Rattle.ring_sort.proofs.Lists.{ascends_get_or}
use Rattle.leapfrog_search.specs.Leapfrog.{part, Ordered, answered}
use Rattle.leapfrog_search.specs.declared.Landed.TheVariants.{Key}
use Rattle.leapfrog_search.proofs.Parts.{part_cons}
use Rattle.leapfrog_search.proofs.Runs.{atom_place}
use Rattle.leapfrog_search.proofs.Defined.{round_same}
use Rattle.stretches.specs.Stand.{stand_of, tail_of, whole_of, wholes_in}
use Rattle.stretches.specs.declared.State.{State}
use Rattle.stretches.specs.Whole.{WholeReady, WholeAgreed}
use Rattle.stretches.specs.Pause.{Held}
use Rattle.stretches.proofs.Pieces.{enough, in_ring}
use Rattle.stretches.proofs.Pausing.{wholes_zip, wholes_ascend, whole_at, wholes_many, ready_held}

-- an end of an ascending run that begins with x is what a seek of x leaves
end_from : {xs : List ℕ} → Ascends ◌<◌ xs → (d x : ℕ) {ys : List ℕ} → drop d xs ≡ x ∷ ys → from x xs ≡ drop d xs
end_from {xs} s d x e =
    let z : d + 0 ≡ d = omega arith in
    let k : get_or xs d 0 ≡ x = ap (λ (i : ℕ). get_or xs i 0) (sym z) ∙ (sym (get_or-drop d xs 0 0) ∙ ap first e) in
    let l : d < length xs = omega (arith, ap length e, length-drop d xs) in
    from_drop x xs d (omega arith) (λ i h. omega (arith, ascends_get_or s i d 0 h l)) (λ h. omega arith)

module _ {pool : List ℕ} {s : State} {ends ring : List ℕ} {k : ℕ} (h : Held pool s ends ring k) where
  pub wholes_runs : Runs (wholes_in pool s ends ring k)
  wholes_runs = subst Runs (sym (wholes_zip pool s ends ring k)) (wholes_ascend h)

  -- where a call found x, each atom's whole run is what a seek of x leaves of it
  pub whole_cut : (s' : State) {extra : ℕ} {common : List ℕ} {z : Went} {x p n : ℕ} → Comes extra (wholes_in pool s ends ring k) common z → z ≡ answered (wholes_in pool s' ends ring k) (Key x p) n → (a : ℕ) → a ∈ take k ring → whole_of pool (stand_of s' ends a) ≡ from x (whole_of pool (stand_of s ends a))
  whole_cut s' {extra} {common} {x = x} c e a i =
      let b = subst (Comes extra (wholes_in pool s ends ring k) common) e c in
      let t = atom_place pool s.at s.end ring k (enough h.pieces) i in
      let j = t.0 in
      let l : j < length (wholes_in pool s ends ring k) = omega (arith, t.1, wholes_many pool s ends ring k (enough h.pieces)) in
      let l' : j < length (wholes_in pool s' ends ring k) = omega (arith, t.1, wholes_many pool s' ends ring k (enough h.pieces)) in
      let f = b.ends j in
      let q : run_at (wholes_in pool s' ends ring k) j ≡ from x (run_at (wholes_in pool s ends ring k) j) = f.1 ∙ sym (end_from (wholes_runs j l) f.0 x (sym f.1 ∙ b.ended j l')) in
      subst (λ (a : ℕ). whole_of pool (stand_of s' ends a) ≡ from x (whole_of pool (stand_of s ends a))) t.2
      (sym (whole_at pool s' ends ring k (enough h.pieces) j t.1) ∙ (q ∙ ap (from x) (whole_at pool s ends ring k (enough h.pieces) j t.1)))

module _ {pool : List ℕ} {s : State} {ends ring : List ℕ} {k : ℕ} (w : WholeReady pool s ends ring k) where
  whole_heads : (j : ℕ) → j < k → run_at (wholes_in pool s ends ring k) j ≡ key_at pool s.at (get_or ring j 0) ∷ (part pool (get_or s.at (get_or ring j 0) 0 + 1) (get_or s.end (get_or ring j 0) 0) ++ tail_of pool (stand_of s ends (get_or ring j 0)))
  whole_heads j l =
      let h = (ready_held w).pieces in
      let o = w.ready.each (get_or ring j 0) (in_ring h j l) in
      whole_at pool s ends ring k (enough h) j l ∙ ap (λ (r : List ℕ). r ++ tail_of pool (stand_of s ends (get_or ring j 0))) (part_cons pool (get_or s.at (get_or ring j 0) 0) (get_or s.end (get_or ring j 0) 0) o.inside o.ends)

  -- ordered from q
  pub whole_ring : {q : ℕ} → Ordered pool s.at ring k q → q < k → Ring (wholes_in pool s ends ring k) q
  whole_ring {q} o i =
      let n = wholes_many pool s ends ring k (enough (ready_held w).pieces) in
      record {
        ascend = wholes_runs (ready_held w);
        nonempty = λ j l e. let z = ap length (sym e ∙ whole_heads j (omega (arith, n))) in omega arith;
        round = rw n (round_same i (λ j l. ap first (whole_heads j l)) o);
        place = rw n i;
      }

-- all on x
pub whole_agreeing : {pool : List ℕ} {s : State} {ends ring : List ℕ} {k x p : ℕ} → WholeAgreed pool s ends ring k x p → Agreeing (wholes_in pool s ends ring k) x p
whole_agreeing {pool} {s} {ends} {ring} {k} {x} {p} g = record {
  ascend = wholes_runs (ready_held w);
  agree = λ j l.
      let m : j < k = omega (arith, n) in
      let e = whole_heads w j m ∙ ap (λ (y : ℕ). y ∷ (part pool (get_or s.at (get_or ring j 0) 0 + 1) (get_or s.end (get_or ring j 0) 0) ++ tail_of pool (stand_of s ends (get_or ring j 0)))) (g.agreed.all (get_or ring j 0) (in_ring (ready_held w).pieces j m)) in
      e ∙ ap (λ (r : List ℕ). x ∷ drop 1 r) (sym e);
  place = rw n g.agreed.place;
}
  where
    w : WholeReady pool s ends ring k
    w = record { ready = g.agreed.ready; sized = g.sized; tailed = g.tailed }

    n : length (wholes_in pool s ends ring k) ≡ k
    n = wholes_many pool s ends ring k (enough (ready_held w).pieces)
