-- The loop over the keys to try for one variable. Idea: to emit the rows of the keys left, from where the window stands, ends where the whole search ends; a key's call takes
-- the first of them away, and a key that fails a test has no rows.
use Prim.Native.Nat.{ℕ, suc, ◌-◌, ◌≤◌, ◌<◌}
use native.Mathlib.Omega.{arith}
use mathlib.Core.Path.{◌≡◌, refl, sym, subst, ap, ◌∙◌}
use mathlib.Core.Bool.{Bool, true, false}
use mathlib.Core.List.{List, [], ◌∷◌, ◌++◌, flat_map}
use lib.ListN.{length, get_or, set, take, drop, length-set, drop_of_length-le}
use lib.Seq.{set-set, drop-cons, split_at, get_or-take}
use Rattle.relation.specs.Order.{Row, pick}
use Rattle.relation.specs.Lists.{◌∈◌, hd, Ascends}
use Rattle.relation.specs.Runs.{from}
use Rattle.relation.proofs.Lists.{get_or_in}
use Rattle.relation.proofs.Runs.{in_from, from_ascends, from_least}
use Rattle.query.specs.Meaning as meaning
use Rattle.query.specs.Window.{Progress, emit, emits}
use Rattle.query.proofs.Window.{emits_append, emits_full}
use Rattle.overlay.proofs.Cutting.{from_zero, from_later, from_past}
use Rattle.join_query.specs.Query.{max_variables, order_of, atoms_of, Accepted}
use Rattle.join_query.specs.declared.Query.{Query}
use Rattle.join_query.specs.declared.Tables.{Tables}
use Rattle.join_query.proofs.Accepted.{sized, passes}
use Rattle.join_window.specs.Window.{progress, Open, Kept, Wrote}
use Rattle.join_window.specs.declared.Window.{Window}
use Rattle.join_window.proofs.Windows.{kept_on, still_open}
use Rattle.plain.specs.Plain.{tried, all_hold, plainly}
use Rattle.plain.proofs.Plain.{tried_ascend}
use Rattle.plain.proofs.Rest.{plainly_before}
use Rattle.plain_keys.specs.Keys.{head_of}
use Rattle.std.specs.Prelude.{Option, Some, None}

-- the keys left where x is the next
abbrev pub todo : List ℕ → Option ℕ → List ℕ
todo ks None = []
todo ks (Some k) = k ∷ from (suc k) ks

pub todo_is : {ks : List ℕ} → Ascends ◌<◌ ks → (b : ℕ) {x : Option ℕ} → x ≡ head_of (from b ks) → todo ks x ≡ from b ks
unfolding head_of
todo_is {ks} s b e = ap (todo ks) e ∙ go (from b ks) refl
  where
    go : (l : List ℕ) → from b ks ≡ l → todo ks (head_of l) ≡ l
    go [] d = refl
    go (k ∷ l) d =
        let h : b ≤ k = from_least b s (rw d (hd refl)) in
        ap (λ (m : List ℕ). k ∷ m)
        (sym (from_later s (let z : b ≤ suc k = omega arith in z)) ∙ ap (from (suc k)) d ∙ from_past (subst (Ascends ◌<◌) d (from_ascends b s)))

-- the next is one of them
pub next_in : {ks : List ℕ} → Ascends ◌<◌ ks → (b : ℕ) {x : Option ℕ} → x ≡ head_of (from b ks) → (k : ℕ) → x ≡ Some k → k ∈ ks
next_in {ks} s b {x} e k f = let m : k ∈ todo ks x = rw f (hd refl) in in_from b ks (rw (todo_is s b e) at m)

-- what a key has below it
abbrev pub rows_under : ℕ → List meaning.Atom → ℕ → List ℕ → Row → ℕ → List Row
rows_under n atoms v vs row k = pick (all_hold v (set row v k) atoms) (plainly n vs atoms (set row v k)) []

pub plainly_next : (n v : ℕ) (vs : List ℕ) (atoms : List meaning.Atom) (row : Row) → plainly n (v ∷ vs) atoms row ≡ flat_map (rows_under n atoms v vs row) (tried v row atoms)
unfolding plainly
plainly_next n v vs atoms row = refl

-- no variable left: one row
pub leaf : (n : ℕ) (atoms : List meaning.Atom) (row : Row) (s : Progress) {vs : List ℕ} → vs ≡ [] → emit n s (take n row) ≡ emits n s (plainly n vs atoms row)
unfolding plainly emits
leaf n atoms row s e = ap (λ (vs : List ℕ). emits n s (plainly n vs atoms row)) (sym e)

pub none_left : {pool : List ℕ} {ts : Tables} {q : Query} {len : ℕ} → Accepted pool ts q len → (left : ℕ) → left ≡ 0 → drop (q.n - left) (order_of q) ≡ []
none_left {q = q} z left e = drop_of_length-le (order_of q) {i = q.n - left} (omega (arith, (sized z).permutation.size))

module _ {pool : List ℕ} {ts : Tables} {q : Query} {len : ℕ} (z : Accepted pool ts q len) (left : ℕ) (l : 0 < left) (h : left ≤ q.n) (found : Row) where
  abbrev pub depth : ℕ
  depth = q.n - left

  abbrev pub v : ℕ
  v = get_or q.order depth 0

  abbrev pub vs : List ℕ
  vs = drop (q.n - (left - 1)) (order_of q)

  abbrev pub atoms : List meaning.Atom
  atoms = atoms_of pool ts q

  abbrev pub ks : List ℕ
  ks = tried v found atoms

  abbrev pub f : ℕ → List Row
  f = rows_under q.n atoms v vs found

  inside : depth < length (order_of q)
  inside = omega (arith, (sized z).permutation.size)

  variable_is : get_or (order_of q) depth 0 ≡ v
  variable_is = get_or-take q.n q.order depth 0 (omega arith)

  pub variable_below : get_or q.order (q.n - left) 0 < q.n
  variable_below = rw (← variable_is) ((sized z).permutation.below (get_or (order_of q) depth 0) (get_or_in (order_of q) depth 0 inside))

  behind : drop (suc depth) (order_of q) ≡ vs
  behind = ap (λ (n : ℕ). drop n (order_of q)) (let e : suc (q.n - left) ≡ q.n - (left - 1) = omega arith in e)

  order_is : drop depth (order_of q) ≡ v ∷ vs
  order_is = drop-cons (order_of q) depth 0 inside ∙ ap (λ (x : ℕ). x ∷ drop (suc depth) (order_of q)) variable_is ∙ ap (λ (m : List ℕ). v ∷ m) behind

  pub rows_are : plainly q.n (drop depth (order_of q)) atoms found ≡ flat_map f ks
  rows_are = ap (λ (m : List ℕ). plainly q.n m atoms found) order_is ∙ plainly_next q.n v vs atoms found

  -- whatever word the row has for the variable, the rows that complete it are the same
  pub given_before : (k : ℕ) → plainly q.n (drop (q.n - left) (order_of q)) (atoms_of pool ts q) (set found (get_or q.order (q.n - left) 0) k) ≡ plainly q.n (drop (q.n - left) (order_of q)) (atoms_of pool ts q) found
  given_before k =
      ap (λ (m : List ℕ). plainly q.n m atoms (set found v k)) order_is
      ∙ plainly_before v found k q.n vs atoms
      ∙ ap (λ (m : List ℕ). plainly q.n m atoms found) (sym order_is)

  pub rise : Ascends ◌<◌ ks
  rise =
      tried_ascend (passes z) (take depth (order_of q)) v vs
      (split_at (order_of q) depth 0 inside ∙ ap (λ (x : ℕ). take depth (order_of q) ++ x ∷ drop (suc depth) (order_of q)) variable_is ∙ ap (λ (m : List ℕ). take depth (order_of q) ++ v ∷ m) behind)
      found

  module _ (w₀ : Window) where
    -- the keys left lead to the end, and the row has the words given
    pub record Trying (w : Window) (row : Row) (next : Option ℕ) : Type 0 where
      pub ends : emits q.n (progress w) (flat_map f (todo ks next)) ≡ emits q.n (progress w₀) (plainly q.n (drop depth (order_of q)) atoms found)
      pub ready : Open q.n w
      pub kept : Kept w₀ w
      pub same : (x : ℕ) → set row v x ≡ set found v x
      pub row_long : length row ≡ max_variables
      pub among : (k : ℕ) → next ≡ Some k → k ∈ ks

    pub trying_same : {w w' : Window} {next : Option ℕ} {row : Row} → w ≡ w' → Trying w row next → Trying w' row next
    trying_same {next = next} {row} e t = subst (λ (x : Window). Trying x row next) e t

    pub trying_start : {next : Option ℕ} → next ≡ head_of (from 0 (tried (get_or q.order (q.n - left) 0) found (atoms_of pool ts q))) → length found ≡ max_variables → Open q.n w₀ → Trying w₀ found next
    trying_start {next} e o g = record {
      ends = ap (λ (m : List ℕ). emits q.n (progress w₀) (flat_map f m)) (todo_is rise 0 e ∙ from_zero ks) ∙ ap (emits q.n (progress w₀)) (sym rows_are);
      ready = g;
      kept = record { same = refl; rows_of = refl };
      same = λ x. refl;
      row_long = o;
      among = next_in rise 0 e;
    }

    module _ {w : Window} {row : Row} {next : Option ℕ} (t : Trying w row next) where
      -- no key is left
      pub trying_done : next ≡ None → Wrote w₀ w (emits q.n (progress w₀) (plainly q.n (drop (q.n - left) (order_of q)) (atoms_of pool ts q) found))
      unfolding flat_map emits
      trying_done e = record { kept = t.kept; stands = sym (ap (λ (x : Option ℕ). emits q.n (progress w) (flat_map f (todo ks x))) e) ∙ t.ends }

      module _ {key : ℕ} (e : next ≡ Some key) where
        key_first : emits q.n (emits q.n (progress w) (f key)) (flat_map f (from (suc key) ks)) ≡ emits q.n (progress w₀) (plainly q.n (drop depth (order_of q)) atoms found)
        unfolding flat_map
        key_first =
            sym (emits_append q.n (progress w) (f key) (flat_map f (from (suc key) ks)))
            ∙ sym (ap (λ (x : Option ℕ). emits q.n (progress w) (flat_map f (todo ks x))) e)
            ∙ t.ends

        -- the rows of the next key, where it passes the tests and where it does not
        pub under_key : {s : Progress} → all_hold v (set row v key) atoms ≡ true → s ≡ emits q.n (progress w) (plainly q.n vs atoms (set row v key)) → s ≡ emits q.n (progress w) (rows_under q.n (atoms_of pool ts q) (get_or q.order (q.n - left) 0) (drop (q.n - (left - 1)) (order_of q)) found key)
        under_key a p =
            p
            ∙ ap (λ (r : Row). emits q.n (progress w) (plainly q.n vs atoms r)) (t.same key)
            ∙ ap (λ (b : Bool). emits q.n (progress w) (pick b (plainly q.n vs atoms (set found v key)) [])) (sym (ap (λ (r : Row). all_hold v r atoms) (sym (t.same key)) ∙ a))

        pub under_none : all_hold v (set row v key) atoms ≡ false → progress w ≡ emits q.n (progress w) (rows_under q.n (atoms_of pool ts q) (get_or q.order (q.n - left) 0) (drop (q.n - (left - 1)) (order_of q)) found key)
        unfolding emits
        under_none a = ap (λ (b : Bool). emits q.n (progress w) (pick b (plainly q.n vs atoms (set found v key)) [])) (sym (ap (λ (r : Row). all_hold v r atoms) (sym (t.same key)) ∙ a))

        -- fewer keys are left
        pub trying_less : {then : Option ℕ} → then ≡ head_of (from (suc key) (tried (get_or q.order (q.n - left) 0) found (atoms_of pool ts q))) → length (todo ks then) < length (todo ks next)
        trying_less {then} c = omega (arith, ap (length {A = ℕ}) (todo_is rise (suc key) c), ap (λ (x : Option ℕ). length (todo ks x)) e)

        module _ {w' : Window} (k : Kept w w') (p : progress w' ≡ emits q.n (progress w) (rows_under q.n (atoms_of pool ts q) (get_or q.order (q.n - left) 0) (drop (q.n - (left - 1)) (order_of q)) found key)) where
          -- no room is left
          pub trying_full : w'.full ≡ true → Wrote w₀ w' (emits q.n (progress w₀) (plainly q.n (drop (q.n - left) (order_of q)) (atoms_of pool ts q) found))
          trying_full u = record {
            kept = kept_on t.kept k;
            stands = sym (emits_full q.n (progress w') (flat_map f (from (suc key) ks)) u) ∙ ap (λ (s : Progress). emits q.n s (flat_map f (from (suc key) ks))) p ∙ key_first;
          }

          pub trying_next : w'.full ≡ false → {then : Option ℕ} → then ≡ head_of (from (suc key) (tried (get_or q.order (q.n - left) 0) found (atoms_of pool ts q))) → Trying w' (set row (get_or q.order (q.n - left) 0) key) then
          trying_next u {then} c = record {
            ends =
                ap (λ (m : List ℕ). emits q.n (progress w') (flat_map f m)) (todo_is rise (suc key) c)
                ∙ ap (λ (s : Progress). emits q.n s (flat_map f (from (suc key) ks))) p
                ∙ key_first;
            ready = still_open t.ready k (omega arith) u;
            kept = kept_on t.kept k;
            same = λ x. set-set row v key x ∙ t.same x;
            row_long = length-set row v key ∙ t.row_long;
            among = next_in rise (suc key) c;
          }
