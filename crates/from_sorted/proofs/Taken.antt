-- The kinds that are stored: column by column as a loop takes them, and that no column past the arity is a grade.
use Prim.Native.Nat.{ℕ, suc, ◌+◌, ◌-◌, ◌≤◌, ◌<◌}
use mathlib.Core.Path.{◌≡◌, sym, ap, ◌∙◌}
use mathlib.Core.Bool.{Bool, false}
use mathlib.Core.List.{List, [], ◌∷◌, ◌++◌, append_assoc}
use native.Mathlib.Omega.{arith}
use native.Mathlib.Decide.{dec_lt}
use native.Mathlib.Numerals.{add-one}
use lib.ListN.{length, take, get_or, set, replicate, length-append, length-take, length-replicate, get_or-replicate, get_or-append, get_or-eq_default}
use lib.Seq.{take-suc, ext_get_or, get_or-take, length-take-le, get_or-append-add, set-append_seam}
use Rattle.column_trie.specs.Limits.{max_arity}
use Rattle.column_trie.proofs.Stored.{Plain}
use Rattle.from_sorted.specs.Answer.{kept_kinds}

plain_at : (n i : ℕ) → get_or (replicate n false) i false ≡ false
plain_at n i = go (dec_lt i n)
  where
    go : Dec (i < n) → get_or (replicate n false) i false ≡ false
    go (yes l) = get_or-replicate n i false false l
    go (no l) = get_or-eq_default (replicate n false) false {n = i} (omega (arith, length-replicate n false))

-- past the arity
pub kept_plain : (a : ℕ) (g : List Bool) → Plain a (kept_kinds a g)
kept_plain a g d h b =
    let l = length (take a g) in
    let e : l + (d - l) ≡ d = omega (arith, length-take a g) in
    ap (λ (n : ℕ). get_or (kept_kinds a g) n false) (sym e) ∙ get_or-append-add (take a g) (replicate (max_arity - a) false) (d - l) false ∙ plain_at (max_arity - a) (d - l)

-- kinds that are plain past the arity are stored as they are
pub kept_own : {a : ℕ} {g : List Bool} → length g ≡ max_arity → a ≤ max_arity → Plain a g → kept_kinds a g ≡ g
kept_own {a} {g} l h p =
    ext_get_or false (kept_kinds a g) g (long ∙ sym l) (λ d b. go d (omega (arith, long)) (dec_lt d a))
  where
    first : length (take a g) ≡ a
    first = length-take-le a g (omega arith)

    long : length (kept_kinds a g) ≡ max_arity
    long = omega (arith, length-append (take a g) (replicate (max_arity - a) false), first, length-replicate (max_arity - a) false)

    go : (d : ℕ) → d < max_arity → Dec (d < a) → get_or (kept_kinds a g) d false ≡ get_or g d false
    go d b (yes c) = get_or-append (take a g) (replicate (max_arity - a) false) false d (omega (arith, first)) ∙ get_or-take a g d false c
    go d b (no c) = kept_plain a g d (omega arith) b ∙ sym (p d (omega arith) b)

-- one column more
pub kept_next : (d : ℕ) (g : List Bool) → d < length g → d < max_arity → set (kept_kinds d g) d (get_or g d false) ≡ kept_kinds (d + 1) g
kept_next d g h b =
    let xs = take d g in
    let ys = replicate (max_arity - suc d) false in
    let x = get_or g d false in
    let e : max_arity - d ≡ suc (max_arity - suc d) = omega arith in
    ap (λ (n : ℕ). set (xs ++ replicate n false) d x) e
    ∙ ap (λ (n : ℕ). set (xs ++ false ∷ ys) n x) (sym (length-take-le d g (omega arith)))
    ∙ set-append_seam xs false ys x
    ∙ sym (append_assoc xs (x ∷ []) ys)
    ∙ ap (λ (zs : List Bool). zs ++ ys) (sym (take-suc g d false h))
    ∙ ap (λ (n : ℕ). kept_kinds n g) (sym (add-one d))
