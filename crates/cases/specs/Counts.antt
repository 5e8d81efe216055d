-- What the contracts of a text's counts cite.
use Rattle.std.specs.Prelude.{◌≡◌, ℕ, ◌≤◌, List, length, take}

-- `&xs[..n]` is in bounds and has n bytes. The second part follows from the first, and spares a caller's `&xs[..n]` a proof file.
abbrev pub IsPrefixLen : ℕ → List ℕ → Type 0
IsPrefixLen n xs = (n ≤ length xs) × (n ≡ length (take n xs))
