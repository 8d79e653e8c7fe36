-- Lines are read in one way.
use Rattle.std.proofs.Common.{◌≡◌, ℕ, List, [], ◌∷◌, Option, Some, None, refl, ap}
use Rattle.dsd_lines.specs.declared.dialects.Dialect.{Dialect}
use Rattle.dsd_lines.specs.Grammar.{LineText}
use Rattle.dsd_lines.proofs.Exact.{one_said}
use Rattle.dsd_receiver.specs.Received.{AreRead, IsRead}

pub read_once : (dialect : Dialect) (lines : List (List ℕ)) (rs ts : List (Option LineText)) → AreRead dialect lines rs → AreRead dialect lines ts → rs ≡ ts
read_once dialect [] [] [] a b = refl
read_once dialect [] [] (t ∷ ts) a b = absurd b
read_once dialect [] (r ∷ rs) ts a b = absurd a
read_once dialect (x ∷ xs) [] ts a b = absurd a
read_once dialect (x ∷ xs) (r ∷ rs) [] a b = absurd b
read_once dialect (x ∷ xs) (r ∷ rs) (t ∷ ts) a b = (λ i. one r t a.0 b.0 i ∷ read_once dialect xs rs ts a.1 b.1 i)
  where
    one : (r t : Option LineText) → IsRead dialect x r → IsRead dialect x t → r ≡ t
    one None None a b = refl
    one None (Some said) a b = absurd (a said b)
    one (Some said) None a b = absurd (b said a)
    one (Some said) (Some other) a b = ap Some (one_said dialect x said other a b)
