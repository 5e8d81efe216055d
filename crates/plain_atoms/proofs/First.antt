-- The first atom that holds a variable, as a loop over the atoms' lists finds it, and its keys: those that are tried.
use Prim.Native.Nat.{ℕ, suc, ◌+◌, ◌≤◌, ◌<◌}
use native.Mathlib.Omega.{arith}
use native.Mathlib.Decide.{dec_lt}
use mathlib.Core.Path.{◌≡◌, refl, sym, ap, ◌∙◌}
use mathlib.Core.Bool.{Bool}
use mathlib.Core.List.{List, [], ◌∷◌, map}
use lib.ListN.{length, get_or, set, take, drop, length-set}
use lib.Seq.{get_or-set_same}
use lib.Dec.{ltb}
use Rattle.relation.specs.Order.{Row, pick}
use Rattle.relation.specs.Lists.{◌∈◌}
use Rattle.relation.specs.Layers.{keys_under}
use Rattle.relation.specs.Runs.{from}
use Rattle.query.specs.Meaning as meaning
use Rattle.query.specs.Descend.{nobody}
use Rattle.join_query.specs.Query.{max_variables, vars_of, atom_at, atoms_in, rows_at, atom_of, atoms_of, Accepted}
use Rattle.join_query.specs.declared.Atom.{Atom}
use Rattle.join_query.specs.declared.Query.{Query}
use Rattle.join_query.specs.declared.Tables.{Tables}
use Rattle.join_query.proofs.Accepted.{sized, atoms_length, atoms_at, passes}
use Rattle.plain.specs.Plain.{column, holder, keys_at, tried, all_hold}
use Rattle.plain.proofs.Columns.{Holds, holder_in, holder_is}
use Rattle.plain.proofs.Rest.{tried_before, behind_holder}
use Rattle.plain_keys.specs.Keys.{words, bound, head_of, Readable}
use Rattle.std.specs.Prelude.{Option}
use Rattle.plain_atoms.specs.Atoms.{First}
use Rattle.plain_atoms.proofs.Searching.{asked, searched}

-- v is in an atom's list
abbrev pub In : Atom → ℕ → Type 0
In a v = column v (vars_of a) < length (vars_of a)

-- which atom is the first does not depend on the atoms' rows
rows_apart : (v : ℕ) (l : List Atom) (p₀ p₁ : List ℕ) (ts₀ ts₁ : Tables) → holder v (map (atom_of p₀ ts₀) l) ≡ holder v (map (atom_of p₁ ts₁) l)
unfolding holder
rows_apart v [] p₀ p₁ ts₀ ts₁ = refl
rows_apart v (a ∷ l) p₀ p₁ ts₀ ts₁ = ap (λ (n : ℕ). pick (ltb (column v (vars_of a)) (length (vars_of a))) 0 (suc n)) (rows_apart v l p₀ p₁ ts₀ ts₁)

module _ {pool : List ℕ} {ts : Tables} {q : Query} {len : ℕ} (z : Accepted pool ts q len) (v : ℕ) (b : v < q.n) where
  abbrev atoms : List meaning.Atom
  atoms = atoms_of pool ts q

  -- a number and its atom
  by_number : (i : ℕ) → i < q.atom_count → In (atom_at q i) v ≡ Holds v atoms i
  by_number i h = ap (λ (a : meaning.Atom). column v a.vars < length a.vars) (sym (atoms_at z i h))

  there : (holder v atoms < length atoms) × Holds v atoms (holder v atoms)
  there = let t = (passes z).covered v b in holder_in v atoms t.1 t.2

  -- the loop, at atom r: none before it holds v
  module _ (r : ℕ) (l : r ≤ q.atom_count) (none : (j : ℕ) → j < r → In (atom_at q j) v → ⊥) where
    none_holds : (j : ℕ) → j < r → Holds v atoms j → ⊥
    none_holds j h m = none j h (rw (by_number j (omega arith)) m)

    -- so one is left
    pub still : r < q.atom_count
    still = go (dec_lt r q.atom_count)
      where
        go : Dec (r < q.atom_count) → r < q.atom_count
        go (yes h) = h
        go (no n) = absurd (none_holds (holder v atoms) (omega (arith, there.0, atoms_length z)) there.1)

    pub first_is : In (atom_at q r) v → First q v r
    first_is m = record {
      inside = still;
      is = λ p t. sym (holder_is v atoms r (omega (arith, still, atoms_length z)) (rw (← by_number r still) m) none_holds) ∙ rows_apart v (atoms_in q) pool p ts t;
    }

  module _ {r : ℕ} (f : First q v r) where
    first_in : In (atom_at q r) v
    first_in = rw (by_number r f.inside, f.is pool ts) there.1

    pub first_reads : {c : ℕ} → c ≡ column v (vars_of (atom_at q r)) → Readable pool ts (atom_at q r) c
    first_reads {c} e = (searched z r f.inside).reads c (omega (arith, e, first_in))

    tried_is : (row : Row) → keys_at v row (atom_of pool ts (atom_at q r)) ≡ tried v row (atoms_of pool ts q)
    unfolding tried
    tried_is row = ap (keys_at v row) (sym (atoms_at z r f.inside)) ∙ ap (λ (i : ℕ). keys_at v row (get_or atoms i nobody)) (f.is pool ts)

    -- beside the words of `found`, in a row that has those but for v
    module _ (found : Row) (row : Row) (same : (x : ℕ) → set row v x ≡ set found v x) (long : length row ≡ max_variables) (k : ℕ) where
      inside : v < length row
      inside = omega (arith, long, b, (sized z).few)

      -- the next of its keys is the next to try
      pub next_tried : (past : Bool) {c : ℕ} {x : Option ℕ} → c ≡ column v (vars_of (atom_at q r)) → x ≡ head_of (from (bound past (get_or (words (atom_at q r) (set row v k)) c 0)) (keys_under (take c (words (atom_at q r) (set row v k))) (rows_at pool ts (atom_at q r)))) → x ≡ head_of (from (bound past k) (tried v found (atoms_of pool ts q)))
      next_tried past e p =
          asked pool ts (atom_at q r) v (set row v k) past e (omega (arith, e, first_in)) p
          ∙ ap (λ (y : ℕ). head_of (from (bound past y) (keys_at v (set row v k) (atom_of pool ts (atom_at q r))))) (get_or-set_same row v k 0 inside)
          ∙ ap (λ (ks : List ℕ). head_of (from (bound past k) ks)) (tried_is (set row v k) ∙ ap (λ (w : Row). tried v w atoms) (same k) ∙ tried_before v found k atoms)

      -- for one of the keys the atoms behind it decide
      pub rest_holds : k ∈ tried v found (atoms_of pool ts q) → {t : Bool} → t ≡ all_hold v (set row v k) (drop (r + 1) (atoms_of pool ts q)) → t ≡ all_hold v (set row v k) (atoms_of pool ts q)
      rest_holds m e =
          let n : suc (holder v atoms) ≡ r + 1 = omega (arith, f.is pool ts) in
          let w : length found ≡ length row = sym (length-set found v k) ∙ ap (length {A = ℕ}) (sym (same k)) ∙ length-set row v k in
          e ∙ ap (λ (x : Row). all_hold v x (drop (r + 1) atoms)) (same k) ∙ ap (λ (i : ℕ). all_hold v (set found v k) (drop i atoms)) (sym n) ∙ sym (behind_holder v found k (omega (arith, w, inside)) atoms m) ∙ ap (λ (x : Row). all_hold v x atoms) (sym (same k))
