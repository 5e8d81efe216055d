-- What `all` answers over the first n elements of an array, and over the numbers below n, as the test at every index that the checks' definitions make.
use Prim.Native.Nat.{ℕ, zero, suc, ◌<◌}
use native.Mathlib.Nat.{zero-add}
use native.Mathlib.Omega.{arith}
use mathlib.Core.Path.{◌≡◌, refl, sym, ap, ◌∙◌}
use mathlib.Core.Bool.{Bool, true, false, ◌&&◌, false≢true}
use mathlib.Core.List.{List}
use lib.ListN.{length, get_or, take}
use lib.Seq.{get_or-take}
use Rattle.relation.specs.Tests.{every}
use Rattle.relation.proofs.Tests.{every_at, every_all, every_fails}
use Rattle.query.specs.Meet.{has}
use Rattle.query.specs.Checks.{some, covers}
use Rattle.join_query.specs.Query.{max_tables, no_atom, atom_at, atoms_in, named_ok}
use Rattle.join_query.specs.declared.Atom.{Atom}
use Rattle.join_query.specs.declared.Query.{Query}
use Rattle.join_query.proofs.Lists.{named_told}
use Rattle.std.specs.List.{list_all, range_with_len}
use Rattle.std.proofs.lemmas.List.FromFn.{length-range_with_len, get_or-range_with_len}
use Rattle.std.proofs.lemmas.List.Recursion.{and_at, and_from_places}
use Rattle.std.proofs.Math.Bool.{and_comm}

pub every_below : (p : ℕ → Bool) (n : ℕ) (r : Bool) → (r ≡ true → (i : ℕ) → i < n → p i ≡ true) → (r ≡ false → (i : ℕ) × (i < n) × (p i ≡ false)) → r ≡ every n p
every_below p n true f g = sym (every_all p n (f refl))
every_below p n false f g = let t = g refl in sym (every_fails p n t.0 t.1 t.2)

pub every_first : {X : Type 0} (p : X → Bool) (d : X) (l : List X) (n : ℕ) {walked : List X} → walked ≡ take n l → length walked ≡ n → (r : Bool) → (r ≡ true → (i : ℕ) → i < length walked → p (get_or walked i d) ≡ true) → (r ≡ false → (i : ℕ) × (i < length walked) × (p (get_or walked i d) ≡ false)) → r ≡ every n (λ (i : ℕ). p (get_or l i d))
every_first {X} p d l n {walked} e m r f g =
    let at : (i : ℕ) → i < n → get_or walked i d ≡ get_or l i d = λ i h. ap (λ (k : List X). get_or k i d) e ∙ get_or-take n l i d h in
    every_below (λ (i : ℕ). p (get_or l i d)) n r
    (λ t i h. ap p (sym (at i h)) ∙ f t i (omega (arith, h, m)))
    (λ t. let w = g t in let h : w.0 < n = omega (arith, w.1, m) in (w.0, h, ap p (sym (at w.0 h)) ∙ w.2))

-- `all` over the numbers below n
pub all_below : (p : ℕ → Bool) (n : ℕ) → list_all p (range_with_len 0 n) ≡ every n p
all_below p n = go (every n p) refl
  where
    xs : List ℕ
    xs = range_with_len 0 n

    at : (i : ℕ) → i < n → p (get_or xs i 0) ≡ p i
    at i h = ap p (get_or-range_with_len 0 n i 0 h ∙ zero-add i)

    untrue : (b : Bool) → (b ≡ true → ⊥) → b ≡ false
    untrue true f = absurd (f refl)
    untrue false f = refl

    go : (b : Bool) → every n p ≡ b → list_all p xs ≡ b
    go true e = and_from_places (list_all p) p refl (λ x xs. refl) xs 0 (λ i h. let k : i < n = omega (arith, h, length-range_with_len 0 n) in at i k ∙ every_at p n e i k)
    go false e = untrue (list_all p xs) (λ t. false≢true (sym e ∙ every_all p n (λ i h. sym (at i h) ∙ and_at (list_all p) p refl (λ x xs. refl) xs i 0 (omega (arith, h, length-range_with_len 0 n)) t)))

-- each number below n is in some list
pub covers_is : (lists : List (List ℕ)) (n : ℕ) → every n (λ (v : ℕ). some (λ (l : List ℕ). has l v) lists) ≡ covers n lists
unfolding covers every
covers_is lists zero = refl
covers_is lists (suc n) = let p = λ (v : ℕ). some (λ (l : List ℕ). has l v) lists in ap (λ (b : Bool). b && p n) (covers_is lists n) ∙ and_comm (covers n lists) (p n)

-- the atom that a walk over the atoms stands at: it is the query's, and its table is one of the tables
module _ (q : Query) {walked : List Atom} (e : walked ≡ atoms_in q) (n : length walked ≡ q.atom_count) (i : ℕ) (h : i < length walked) where
  pub atom_in : i < q.atom_count
  atom_in = omega (arith, h, n)

  pub atom_there : get_or walked i no_atom ≡ atom_at q i
  atom_there = ap (λ (l : List Atom). get_or l i no_atom) e ∙ get_or-take q.atom_count q.atoms i no_atom atom_in

  pub table_there : (count : ℕ) → named_ok count q ≡ true → (get_or walked i no_atom).table < max_tables
  table_there count o = let t = named_told count q o in omega (arith, t.bounded, t.each i atom_in, ap (λ (x : Atom). x.table) atom_there)
