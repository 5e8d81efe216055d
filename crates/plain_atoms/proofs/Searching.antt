-- What may be relied on of the atoms of a query that passed the checks, and each answer of the code as the definition's: the keys that an atom allows, its test, and the
-- test of those from some atom on.
use Prim.Native.Nat.{ℕ, suc, ◌+◌, ◌≤◌, ◌<◌}
use native.Mathlib.Omega.{arith}
use native.Mathlib.Decide.{dec_lt}
use mathlib.Core.Path.{◌≡◌, sym, ap, ◌∙◌}
use mathlib.Core.Bool.{Bool, true, false, ◌&&◌}
use mathlib.Core.List.{List}
use lib.ListN.{length, get_or, take, drop, length-take, get_or-eq_default}
use lib.Seq.{take-take, get_or-take}
use Rattle.std.specs.Prelude.{Option, Some, nat_eq}
use Rattle.std.specs.Option.{option_eq}
use borrow.Author.Tests.{eq-eqb, ne_eqb}
use Rattle.relation.specs.Order.{Row, pick}
use Rattle.relation.specs.Lists.{Ascends}
use Rattle.relation.specs.Layers.{keys_under}
use Rattle.relation.specs.Runs.{from}
use Rattle.relation.proofs.Lists.{get_or_in}
use Rattle.query.specs.Meaning.{part}
use Rattle.query.specs.Meet.{has}
use Rattle.query.proofs.Beyond.{keys_ascend}
use Rattle.query.proofs.Solved.{follow_in}
use Rattle.join_query.specs.Query.{max_variables, order_of, vars_of, var_at, atom_at, rows_at, atom_of, atoms_of, Accepted}
use Rattle.join_query.specs.declared.Atom.{Atom}
use Rattle.join_query.specs.declared.Query.{Query}
use Rattle.join_query.specs.declared.Tables.{Tables}
use Rattle.join_query.proofs.Accepted.{sized, names, lists, sound, sound_maker, shapes, atoms_length, atoms_at}
use Rattle.plain.specs.Plain.{column, keys_at, holds, all_hold}
use Rattle.plain.proofs.Rest.{rest_next, rest_none}
use Rattle.plain_keys.specs.Keys.{words, bound, head_of}
use Rattle.plain_keys.proofs.Owners.{asked_has, readable_wide}
use Rattle.plain_keys.proofs.Found.{words_at}
use Rattle.plain_atoms.specs.Atoms.{Searched}
use Rattle.plain_atoms.proofs.Places.{column_var, take_part}

-- ---- one atom

module _ (pool : List ℕ) (ts : Tables) (a : Atom) (v : ℕ) (row : Row) where
  -- what a search of the atom's rows finds beside the row's words for the variables before v
  pub asked : (past : Bool) {c : ℕ} {x : Option ℕ} → c ≡ column v (vars_of a) → c < length (vars_of a) → x ≡ head_of (from (bound past (get_or (words a row) c 0)) (keys_under (take c (words a row)) (rows_at pool ts a))) → x ≡ head_of (from (bound past (get_or row v 0)) (keys_at v row (atom_of pool ts a)))
  unfolding keys_at
  asked past {c} e h p =
      let l : c < length a.variables = omega (arith, length-take a.len a.variables) in
      let n : c < a.len = omega (arith, length-take a.len a.variables) in
      let w : get_or (words a row) c 0 ≡ get_or row v 0 =
      words_at a.variables row c l ∙ ap (λ (x : ℕ). get_or row x 0) (sym (get_or-take a.len a.variables c 0 n) ∙ ap (λ (i : ℕ). get_or (vars_of a) i 0) e ∙ column_var v (vars_of a) (omega arith)) in
      let q : take c (words a row) ≡ take (column v (vars_of a)) (part (vars_of a) row) =
      sym (take-take c a.len (words a row) (omega arith)) ∙ ap (take c) (take_part a.len a.variables row) ∙ ap (λ (i : ℕ). take i (part (vars_of a) row)) e in
      p ∙ ap (λ (y : ℕ). head_of (from (bound past y) (keys_under (take c (words a row)) (rows_at pool ts a)))) w ∙ ap (λ (y : Row). head_of (from (bound past (get_or row v 0)) (keys_under y (rows_at pool ts a)))) q

  pub holds_skip : (suc (column v (vars_of a)) ≡ length (vars_of a) → ⊥) → true ≡ holds v row (atom_of pool ts a)
  unfolding holds
  holds_skip f = sym (ap (λ (b : Bool). pick b (has (keys_at v row (atom_of pool ts a)) (get_or row v 0)) true) (ne_eqb (suc (column v (vars_of a))) (length (vars_of a)) f))

  module _ (s : Searched pool ts a) (e : suc (column v (vars_of a)) ≡ length (vars_of a)) where
    abbrev keys : List ℕ
    keys = keys_at v row (atom_of pool ts a)

    complete : holds v row (atom_of pool ts a) ≡ has keys (get_or row v 0)
    unfolding holds
    complete = ap (λ (b : Bool). pick b (has (keys_at v row (atom_of pool ts a)) (get_or row v 0)) true) (eq-eqb (suc (column v (vars_of a))) (length (vars_of a)) e)

    rise : Ascends ◌<◌ keys
    unfolding keys_at
    rise =
        let r = s.reads (column v (vars_of a)) (omega arith) in
        keys_ascend (take (column v (vars_of a)) (part (vars_of a) row)) (readable_wide r)
        (omega (arith, r.short, length-take (column v (vars_of a)) (part (vars_of a) row)))

    -- whether the word is the key that a search for it finds
    pub holds_asked : {c : ℕ} {x : Option ℕ} → c ≡ column v (vars_of a) → x ≡ head_of (from (get_or (words a row) c 0) (keys_under (take c (words a row)) (rows_at pool ts a))) → option_eq nat_eq x (Some (get_or row v 0)) ≡ holds v row (atom_of pool ts a)
    holds_asked f p = asked_has (get_or row v 0) keys rise (asked false f (omega (arith, e, f)) p) ∙ sym complete

-- ---- a query that passed

module _ {pool : List ℕ} {ts : Tables} {q : Query} {len : ℕ} (z : Accepted pool ts q len) where
  module _ (i : ℕ) (h : i < q.atom_count) where
    low : (j : ℕ) → j < (atom_at q i).len → var_at (atom_at q i) j < max_variables
    low j k = go (dec_lt j (length (vars_of (atom_at q i))))
      where
        go : Dec (j < length (vars_of (atom_at q i))) → var_at (atom_at q i) j < max_variables
        go (yes l) =
            let m = get_or_in (vars_of (atom_at q i)) j 0 l in
            let o = follow_in (order_of q) (vars_of (atom_at q i)) (lists z i h).follow m in
            omega (arith, get_or-take (atom_at q i).len (atom_at q i).variables j 0 k, (sized z).permutation.below (get_or (vars_of (atom_at q i)) j 0) o, (sized z).few)
        go (no n) =
            let d = get_or-eq_default (atom_at q i).variables 0 {n = j} (omega (arith, length-take (atom_at q i).len (atom_at q i).variables)) in
            omega (arith, d)

    pub searched : Searched pool ts (atom_at q i)
    searched = record {
      list = record { short = (lists z i h).short; below = low };
      reads = λ c k. record {
        names = omega (arith, (names z).each i h, (names z).bounded);
        sound = sound z i h;
        named = λ d l. low d (omega (arith, k, length-take (atom_at q i).len (atom_at q i).variables));
        short = omega (arith, k, (lists z i h).exact);
        makes = λ e. omega (arith, (names z).maker i h e, (names z).bounded);
        made = sound_maker z i h;
        shape = shapes z i h;
      };
    }

  -- the atoms from number i on: the first of them, and those behind it; and none
  module _ (v : ℕ) (row : Row) (i : ℕ) where
    pub left_next : i < q.atom_count → {b : Bool} → b ≡ holds v row (atom_of pool ts (atom_at q i)) → (b && all_hold v row (drop (i + 1) (atoms_of pool ts q))) ≡ all_hold v row (drop i (atoms_of pool ts q))
    left_next h e =
        ap (λ (b : Bool). b && all_hold v row (drop (i + 1) (atoms_of pool ts q))) (e ∙ ap (holds v row) (sym (atoms_at z i h)))
        ∙ sym (rest_next v row (atoms_of pool ts q) i (omega (arith, h, atoms_length z)))

    pub left_none : q.atom_count ≤ i → all_hold v row (drop i (atoms_of pool ts q)) ≡ true
    left_none h = rest_none v row (atoms_of pool ts q) i (omega (arith, h, atoms_length z))
