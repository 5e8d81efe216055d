-- The goal of `kept_kinds` that the check leaves.
use Rattle.std.proofs.Common.{false, ◌++◌, ap₂}
use Rattle.std.proofs.lemmas.List.{drop-replicate}
use Rattle.column_trie.specs.Limits.{max_arity}
use Rattle.column_trie_build.proofs.kept_kinds.Goals as goal

pub returns : goal.returns
returns c = ap₂ ◌++◌ c.copy_from_slice.ensures.after (drop-replicate c.args.arity max_arity false)
