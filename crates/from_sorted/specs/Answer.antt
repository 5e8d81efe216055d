-- Public: what a call that fills a table leaves and stores.
use Rattle.std.specs.Prelude.{ℕ, ◌-◌, Bool, false, List, ◌++◌, take, replicate, eqb}
use Rattle.relation.specs.Order.{pick}
use Rattle.column_trie.specs.Limits.{max_arity}

-- by the number: what the call leaves, and what is left if it is refused
abbrev pub unless_refused : {A : Type 0} → ℕ → A → A → A
unless_refused number filled refused = pick (eqb number 0) filled refused

-- the kinds that are stored: those past the arity as plain
abbrev pub kept_kinds : ℕ → List Bool → List Bool
kept_kinds arity kinds = take arity kinds ++ replicate (max_arity - arity) false
