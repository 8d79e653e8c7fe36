-- The words of a command line.
use Rattle.std.proofs.Common.{◌≡◌, ◌<◌, ◌≤◌, ◌-◌, ◌↔◌, ℕ, suc, true, false, List, [], ◌∷◌, length, refl, sym, ap, subst, ◌∙◌, arith, Bool, IsTrue, get_or, Bor}
use Rattle.std.specs.Prelude.{Result, IfOk, bytes_eq, drop, not, option_map, take}
use Rattle.std.proofs.lemmas.Result.{IfOk-weaker}
use Rattle.metrics_core.specs.declared.memory.Memory.{Memory}
use Rattle.dsd_addresses.specs.Remotes.{remote_text}
use Rattle.dsd_addresses.specs.declared.remote_addr.RemoteAddr.{RemoteAddr}
use Rattle.std.proofs.lemmas.Slice.Eq.{bytes_eq-Decides}
use Rattle.std.specs.Prelude.{codes, Option, Some, None}
use Rattle.dsd_addresses.specs.Remotes.{RemoteText}
use Rattle.script_player.specs.Agent.{default_agent}
use Rattle.program_words.specs.Answers.{HasAddress, IsAddress, IsServedAs, texts_of}

word_is : (word is : List ℕ) (b : Bool) → b ≡ bytes_eq word is → IsTrue b ↔ (word ∷ [] ≡ is ∷ [])
word_is word is b e =
    let test = bytes_eq-Decides word is in
    ((λ yes. ap (λ w. w ∷ []) (test.0 (sym e ∙ yes))), (λ same. e ∙ test.1 (first same)))
  where
    first : word ∷ [] ≡ is ∷ [] → word ≡ is
    first same = cc

-- one word is a command where it has the command's bytes
pub one_word : (words : List (Bor (List ℕ))) (d : Bor (List ℕ)) (is : List ℕ) (b : Bool) → 1 ≤ length words → length words < 2 → b ≡ bytes_eq (get_or words 0 d).now is
    → IsTrue b ↔ (texts_of words ≡ is ∷ [])
one_word [] d is b some few e = absurd (omega (arith, some))
one_word (word ∷ []) d is b some few e = word_is word.now is b e
one_word (word ∷ other ∷ words) d is b some few e = absurd (omega (arith, few))

-- ---- the words of the command `drive`

behind_first : List (List ℕ) → List (List ℕ)
behind_first [] = []
behind_first (word ∷ words) = words

-- the words behind the command are those of any reading of them
own_words : (word : List ℕ) (words behind : List (List ℕ)) (to : RemoteText) → word ∷ words ≡ codes "drive" ∷ behind → IsAddress behind to → IsAddress words to
unfolding behind_first
own_words word words behind to same is = subst (λ l. IsAddress l to) (sym (ap behind_first same)) is

first_word : List (List ℕ) → List ℕ
first_word [] = []
first_word (word ∷ words) = word

pub no_word : HasAddress [] None
no_word to (behind, same, is) = absurd cc

pub other_word : (word : List ℕ) (words : List (List ℕ)) → ¬ (word ≡ codes "drive") → HasAddress (word ∷ words) None
unfolding first_word
other_word word words differs to (behind, same, is) = differs (ap first_word same)

pub drive_alone : HasAddress (codes "drive" ∷ []) (Some default_agent)
drive_alone = (([], refl, refl), λ other (behind, same, is). own_words (codes "drive") [] behind other same is)

pub drive_to : (text : List ℕ) (address : Option RemoteText) → IsServedAs text address → HasAddress (codes "drive" ∷ text ∷ []) address
drive_to text None none = λ to (behind, same, is). let own = own_words (codes "drive") (text ∷ []) behind to same is in none to own.0 own.1
drive_to text (Some to) (writes, served, alone) = ((text ∷ [], refl, (writes, served)), λ other (behind, same, is). alone other (own_words (codes "drive") (text ∷ []) behind other same is).0)

pub too_many_words : (one other : List ℕ) (words : List (List ℕ)) → HasAddress (codes "drive" ∷ one ∷ other ∷ words) None
too_many_words one other words to (behind, same, is) = own_words (codes "drive") (one ∷ other ∷ words) behind to same is

-- ---- the words as the program finds them

-- the first word is the command
is_drive : (word : List ℕ) (b : Bool) → b ≡ not (bytes_eq word (codes "drive")) → b ≡ false → word ≡ codes "drive"
is_drive word b is differs = (bytes_eq-Decides word (codes "drive")).0 (by (bytes_eq word (codes "drive")) (sym is ∙ differs))
  where
    by : (t : Bool) → not t ≡ false → IsTrue t
    by true e = refl
    by false e = absurd cc

some_more : (v : Bor (List ℕ)) (words : List (Bor (List ℕ))) (n k : ℕ) → n ≡ suc k → length (take n (v ∷ words)) < 1 → ⊥
some_more v words n k is few = let less : length (take (suc k) (v ∷ words)) < 1 = subst (λ m. length (take m (v ∷ words)) < 1) is few in omega (arith, less)

two_more : (u v : Bor (List ℕ)) (words : List (Bor (List ℕ))) (n k : ℕ) → n ≡ suc (suc k) → length (take n (u ∷ v ∷ words)) < 2 → ⊥
two_more u v words n k is few = let less : length (take (suc (suc k)) (u ∷ v ∷ words)) < 2 = subst (λ m. length (take m (u ∷ v ∷ words)) < 2) is few in omega (arith, less)

-- the command alone
pub alone : (words : List (Bor (List ℕ))) (d : Bor (List ℕ)) (b : Bool) (to : RemoteText) → 1 ≤ length words → b ≡ not (bytes_eq (get_or words 0 d).now (codes "drive")) → b ≡ false
    → length (take (length words - 1) (drop 1 words)) < 1 → to ≡ default_agent → HasAddress (texts_of words) (Some to)
alone [] d b to some is differs few agent = absurd (omega (arith, some))
alone (word ∷ []) d b to some is differs few agent =
    subst (λ w. HasAddress (w ∷ []) (Some to)) (sym (is_drive word.now b is differs)) (subst (λ a. HasAddress (codes "drive" ∷ []) (Some a)) (sym agent) drive_alone)
alone (word ∷ v ∷ words) d b to some is differs few agent = absurd (some_more v words _ (length words) (omega arith) few)

-- the command and one word more
pub with_address : (words : List (Bor (List ℕ))) (d e : Bor (List ℕ)) (b : Bool) (answer : Result (Option RemoteAddr) Memory) → 1 ≤ length words → b ≡ not (bytes_eq (get_or words 0 d).now (codes "drive")) → b ≡ false
    → 1 ≤ length (take (length words - 1) (drop 1 words)) → length (take (length words - 1) (drop 1 words)) < 2
    → IfOk answer (λ address. IsServedAs (get_or (take (length words - 1) (drop 1 words)) 0 e).now (option_map remote_text address))
    → IfOk answer (λ address. HasAddress (texts_of words) (option_map remote_text address))
with_address [] d e b answer some is differs more few served = absurd (omega (arith, some))
with_address (word ∷ []) d e b answer some is differs more few served = absurd (omega (arith, more))
with_address (word ∷ v ∷ []) d e b answer some is differs more few served =
    subst (λ w. IfOk answer (λ address. HasAddress (w ∷ v.now ∷ []) (option_map remote_text address))) (sym (is_drive word.now b is differs))
    (IfOk-weaker answer (λ address. IsServedAs v.now (option_map remote_text address)) (λ address. HasAddress (codes "drive" ∷ v.now ∷ []) (option_map remote_text address)) (λ address own. drive_to v.now (option_map remote_text address) own) served)
with_address (word ∷ v ∷ u ∷ words) d e b answer some is differs more few served = absurd (two_more v u words _ (length words) (omega arith) few)
