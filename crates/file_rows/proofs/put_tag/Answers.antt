-- `file_rows::put_tag` meets its contract: three bytes, laid.
use Prim.Native.Nat.{ℕ}
use mathlib.Core.Path.{ap, ◌∙◌}
use mathlib.Core.List.{List, [], ◌∷◌}
use native.Mathlib.Omega.{arith}
use lib.ListN.{get_or}
use Rattle.file_rows.proofs.Fields.{tag_laid}
use Rattle.file_rows.proofs.put_tag.Goals as goal

pub returns : goal.returns
returns c =
    tag_laid c.args.bytes.now c.args.at _ c.args.tag c.args.len (c.copy_from_slice.ensures.after ∙ ap (λ (l : List ℕ). c.args.tag ∷ (get_or l 0 0 ∷ (get_or l 1 0 ∷ []))) c.to_be_bytes.ensures) (omega arith) c.requires.0
