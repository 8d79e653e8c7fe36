-- The words of the command `serve`.
use Rattle.std.proofs.Common.{◌≡◌, ◌≢◌, ◌-◌, ◌<◌, ◌≤◌, ◌^◌, ℕ, zero, suc, List, [], ◌∷◌, ◌++◌, length, get_or, take, drop, decimal, Bool, true, false, refl, sym, ap, subst, ◌∙◌, arith, rules, lit<, Result, Ok, Err, Bor}
use Rattle.std.specs.Prelude.{MatchResult, Some, None, bytes_eq, codes, not}
use Rattle.std.specs.Str.{all_ascii_digits}
use Rattle.std.specs.Str.Parse.{ParsesUnsigned, digits_value}
use Rattle.std.proofs.lemmas.Str.Parse.{IsNumeralModel, numerals_by_value, parse_plain, not_in_digits}
use Rattle.std.proofs.lemmas.Fmt.{decimal-digits_value, digits_decimal, digits_value-decimal, decimal_nonempty, first_decimal, decimal_digit, decimal_injective}
use Rattle.std.proofs.lemmas.List.{take_all}
use Rattle.std.proofs.lemmas.Slice.Eq.{bytes_eq-Decides}
use Rattle.net_addresses.specs.Addresses.{NetworkText, IsNetwork}
use Rattle.net_addresses.proofs.Texts.{network_unique}
use Rattle.program_words.specs.Answers.{texts_of}
use Rattle.program_words.specs.Serving.{AreNetworks, HasServeWords, IsCount}

-- ---- the count

own : IsNumeralModel (λ ds. all_ascii_digits ds ≡ true) (digits_value 10)
own = numerals_by_value _ (search rules)

-- a text that begins as a number does parses as the number that it writes in decimal, and to an error where it writes none of 32 bits
pub parsed : {E : Type 0} (bs : List ℕ) (r : Result ℕ E) → get_or bs 0 0 ≢ 43 → (get_or bs 0 0 ≡ 48 → length bs ≡ 1) → ParsesUnsigned 32 10 bs r → MatchResult r (λ n. (bs ≡ decimal n) × (n < 2 ^ 32)) (λ _. (n : ℕ) → n < 2 ^ 32 → bs ≢ decimal n)
parsed {E = E} bs (Ok n) plus zero_alone h =
    let (facts, is) = parse_plain own {E = E} 32 bs (Ok n) h plus in
    let small : n < 2 ^ 32 = omega (arith, facts.2, is) in
    (rw is (sym (decimal-digits_value own bs facts.0 facts.1 zero_alone (omega (arith, facts.2)))), small)
parsed bs (Err e) plus zero_alone h = λ n small is.
    let P : List ℕ → Type 0 = λ ds. (all_ascii_digits ds ≡ true) × (0 < length ds) × (digits_value 10 ds < 2 ^ 32) in
    let wide : n < 2 ^ 64 = omega (arith, small) in
    let spelled : P (decimal n) = (digits_decimal own n wide, decimal_nonempty n wide, rw (digits_value-decimal own n wide) small) in
    parse_plain own 32 bs (Err e) h plus (subst P (sym is) spelled)

alone : (n : ℕ) → n < 2 ^ 64 → get_or (decimal n) 0 0 ≡ 48 → length (decimal n) ≡ 1
alone zero small e = rw (decimal_digit 0 (lit< tt)) refl
alone (suc n) small e = let first : 48 < get_or (decimal (suc n)) 0 0 = first_decimal (suc n) (omega arith) small in omega (arith, first, e)

-- a number in decimal begins so
pub decimal_begins : (n : ℕ) → n < 2 ^ 64 → (get_or (decimal n) 0 0 ≢ 43) × (get_or (decimal n) 0 0 ≡ 48 → length (decimal n) ≡ 1)
decimal_begins n small = (
  not_in_digits own (decimal n) 43 (digits_decimal own n small) (λ h. omega (arith, h)) 0 (decimal_nonempty n small),
  alone n small,
)

-- no text writes two counts
count_unique : (text : List ℕ) (m n : ℕ) → IsCount text m → IsCount text n → m ≡ n
count_unique text m n one other = decimal_injective m n (omega (arith, one.0)) (omega (arith, other.0)) (sym one.1 ∙ other.1)

-- ---- networks

-- no texts write two lists of networks
networks_unique : (texts : List (List ℕ)) (ones others : List NetworkText) → AreNetworks texts ones → AreNetworks texts others → ones ≡ others
networks_unique [] [] [] one other = refl
networks_unique [] [] (n ∷ others) one other = absurd other
networks_unique [] (n ∷ ones) others one other = absurd one
networks_unique (text ∷ texts) [] others one other = absurd one
networks_unique (text ∷ texts) (n ∷ ones) [] one other = absurd other
networks_unique (text ∷ texts) (n ∷ ones) (m ∷ others) one other =
    (λ i. network_unique text n m one.0 other.0 i ∷ networks_unique texts ones others one.1 other.1 i)

pub networks_more : (texts : List (Bor (List ℕ))) (networks : List NetworkText) (word : Bor (List ℕ)) (network : NetworkText) → AreNetworks (texts_of texts) networks → IsNetwork word.now network
    → AreNetworks (texts_of (texts ++ word ∷ [])) (networks ++ network ∷ [])
networks_more [] [] word network are is = (is, tt)
networks_more [] (n ∷ networks) word network are is = absurd are
networks_more (text ∷ texts) [] word network are is = absurd are
networks_more (text ∷ texts) (n ∷ networks) word network are is = (are.0, networks_more texts networks word network are.1 is)

-- one text that writes none is among them
pub no_networks : (texts : List (Bor (List ℕ))) (i : ℕ) (d : Bor (List ℕ)) (others : List NetworkText) → i < length texts → ((network : NetworkText) → ¬ (IsNetwork (get_or texts i d).now network)) → AreNetworks (texts_of texts) others → ⊥
no_networks [] i d others within none are = omega (arith, within)
no_networks (text ∷ texts) i d [] within none are = absurd are
no_networks (text ∷ texts) zero d (n ∷ others) within none are = none n are.0
no_networks (text ∷ texts) (suc i) d (n ∷ others) within none are = no_networks texts i d others (omega (arith, within)) none are.1

-- ---- words

first_of : List (List ℕ) → List ℕ
first_of [] = []
first_of (word ∷ words) = word

rest_of : List (List ℕ) → List (List ℕ)
rest_of [] = []
rest_of (word ∷ words) = words

pub too_few : (words : List (List ℕ)) → length words < 2 → HasServeWords words None
too_few words few count networks (number, behind, same, is, are) =
    let long : length words ≡ length (codes "serve" ∷ number ∷ behind) = ap length same in
    omega (arith, few, long)

pub other_command : (word : List ℕ) (words : List (List ℕ)) → ¬ (word ≡ codes "serve") → HasServeWords (word ∷ words) None
unfolding first_of
other_command word words differs count networks (number, behind, same, is, are) = differs (ap first_of same)

pub no_count : (word : List ℕ) (text : List ℕ) (words : List (List ℕ)) → ((count : ℕ) → ¬ (IsCount text count)) → HasServeWords (word ∷ text ∷ words) None
unfolding first_of rest_of
no_count word text words none count networks (number, behind, same, is, are) =
    none count (subst (λ t. IsCount t count) (sym (ap (λ ws. first_of (rest_of ws)) same)) is)

pub no_list : (word : List ℕ) (text : List ℕ) (words : List (List ℕ)) → ((networks : List NetworkText) → ¬ (AreNetworks words networks)) → HasServeWords (word ∷ text ∷ words) None
unfolding rest_of
no_list word text words none count networks (number, behind, same, is, are) =
    none networks (subst (λ ts. AreNetworks ts networks) (sym (ap (λ ws. rest_of (rest_of ws)) same)) are)

pub asks_to_serve : (text : List ℕ) (words : List (List ℕ)) (count : ℕ) (networks : List NetworkText) → IsCount text count → AreNetworks words networks → HasServeWords (codes "serve" ∷ text ∷ words) (Some (count, networks))
unfolding first_of rest_of
asks_to_serve text words count networks is are = (
  (text, words, refl, is, are),
  λ other others (number, behind, same, is_other, are_others). (
    count_unique text other count (subst (λ t. IsCount t other) (sym (ap (λ ws. first_of (rest_of ws)) same)) is_other) is,
    networks_unique words others networks (subst (λ ts. AreNetworks ts others) (sym (ap (λ ws. rest_of (rest_of ws)) same)) are_others) are,
  ),
)

is_true : (b : Bool) → false ≡ not b → b ≡ true
is_true true e = refl
is_true false e = e

-- the same of words as they are borrowed
pub words_ask : (words : List (Bor (List ℕ))) (d : Bor (List ℕ)) (count : ℕ) (networks : List NetworkText) → 2 ≤ length words → false ≡ not (bytes_eq (get_or words 0 d).now (codes "serve"))
    → IsCount (get_or words 1 d).now count → AreNetworks (texts_of (take (length words - 2) (drop 2 words))) networks → HasServeWords (texts_of words) (Some (count, networks))
words_ask [] d count networks some command is are = absurd (omega (arith, some))
words_ask (word ∷ []) d count networks some command is are = absurd (omega (arith, some))
words_ask (word ∷ text ∷ words) d count networks some command is are =
    let behind : length (word ∷ text ∷ words) - 2 ≡ length words = omega arith in
    let all : take (length (word ∷ text ∷ words) - 2) words ≡ words = ap (λ n. take n words) behind ∙ take_all (length words) words (omega arith) in
    let same : word.now ≡ codes "serve" = (bytes_eq-Decides word.now (codes "serve")).0 (is_true _ command) in
    subst (λ c. HasServeWords (c ∷ text.now ∷ texts_of words) (Some (count, networks))) (sym same)
    (asks_to_serve text.now (texts_of words) count networks is (subst (λ ts. AreNetworks (texts_of ts) networks) all are))
