-- Equal texts are the same text.
use Rattle.std.proofs.Common.{◌≡◌, ℕ, List, ap}
use Rattle.std.specs.Prelude.{IsTrue, bytes_eq}
use Rattle.std.specs.Hash as fed
use Rattle.std.proofs.lemmas.Slice.Eq.{bytes_eq-Decides}

pub text_hash_input_respects : (x y : List ℕ) → IsTrue (bytes_eq x y) → fed.str x ≡ fed.str y
text_hash_input_respects x y h = ap fed.str ((bytes_eq-Decides x y).0 h)
