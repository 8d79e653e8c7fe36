-- The words of one command are not those of another.
use Rattle.std.proofs.Common.{◌≡◌, ◌≢◌, ℕ, ◌<◌, ◌≤◌, List, [], ◌∷◌, length, get_or, Bool, IsTrue, Bor, true, false, inl, inr, refl, sym, ap, subst, ◌∙◌, arith}
use Rattle.std.specs.Prelude.{Option, Some, None, bytes_eq, codes, not}
use Rattle.std.proofs.lemmas.Bool.{true≢false}
use Rattle.std.proofs.lemmas.Fmt.{decimal_injective}
use Rattle.std.proofs.lemmas.Slice.Eq.{bytes_eq-Decides}
use Rattle.net_addresses.specs.Addresses.{NetworkText}
use Rattle.net_addresses.specs.Readings.{Reads}
use Rattle.dsd_addresses.specs.Remotes.{RemoteText}
use Rattle.program_words.specs.Answers.{HasAddress, IsDriveWords, IsMergeWords, IsReceiveWords, IsRulesWords, texts_of}
use Rattle.program_words.specs.BenchWords.{HasBenchWords, IsRounds}
use Rattle.program_words.specs.Commands.{AreOfBench, AreOfDrive, AreOfServe, AreOfWord, IsBenchWords, IsForm, IsServeWords, IsStreamWords}
use Rattle.program_words.specs.Serving.{HasServeWords, IsCount}

pub apart : (one other : List ℕ) → bytes_eq one other ≡ false → one ≢ other
apart one other differs same = true≢false (sym ((bytes_eq-Decides one other).1 same) ∙ differs)

first_of : List (List ℕ) → List ℕ
first_of [] = []
first_of (word ∷ words) = word

-- words don't begin with two words that differ
pub begin_once : (words : List (List ℕ)) (one other : List ℕ) (ones others : List (List ℕ)) → bytes_eq one other ≡ false → words ≡ one ∷ ones → words ≡ other ∷ others → ⊥
unfolding first_of
begin_once words one other ones others differs is also = apart one other differs (ap first_of (sym is ∙ also))

pub drive_or_serve : (words : List (List ℕ)) → IsDriveWords words → ¬ IsServeWords words
drive_or_serve words (to, (behind, drives, is)) (count, networks, (number, rest, serves, is_count, are)) =
    begin_once words (codes "drive") (codes "serve") behind (number ∷ rest) refl drives serves

-- a word alone is none of the commands with other words behind
pub drive_or_word : (words : List (List ℕ)) (word : List ℕ) → bytes_eq (codes "drive") word ≡ false → words ≡ word ∷ [] → ¬ IsDriveWords words
drive_or_word words word differs is (to, (behind, drives, at)) = begin_once words (codes "drive") word behind [] differs drives is

pub serve_or_word : (words : List (List ℕ)) (word : List ℕ) → bytes_eq (codes "serve") word ≡ false → words ≡ word ∷ [] → ¬ IsServeWords words
serve_or_word words word differs is (count, networks, (number, rest, serves, at, are)) = begin_once words (codes "serve") word (number ∷ rest) [] differs serves is

pub bench_or_word : (words : List (List ℕ)) (word : List ℕ) → bytes_eq (codes "bench") word ≡ false → words ≡ word ∷ [] → ¬ IsBenchWords words
bench_or_word words word differs is (count, (number, benches, at)) = begin_once words (codes "bench") word (number ∷ []) [] differs benches is

pub drive_or_stream : (words : List (List ℕ)) → IsDriveWords words → ¬ IsStreamWords words
drive_or_stream words drives (inl merges) = drive_or_word words (codes "merge") refl merges drives
drive_or_stream words drives (inr (inl receives)) = drive_or_word words (codes "receive") refl receives drives
drive_or_stream words drives (inr (inr rules)) = drive_or_word words (codes "rules") refl rules drives

pub serve_or_stream : (words : List (List ℕ)) → IsServeWords words → ¬ IsStreamWords words
serve_or_stream words serves (inl merges) = serve_or_word words (codes "merge") refl merges serves
serve_or_stream words serves (inr (inl receives)) = serve_or_word words (codes "receive") refl receives serves
serve_or_stream words serves (inr (inr rules)) = serve_or_word words (codes "rules") refl rules serves

pub drive_or_bench : (words : List (List ℕ)) → IsDriveWords words → ¬ IsBenchWords words
drive_or_bench words (to, (behind, drives, is)) (count, (number, benches, also)) =
    begin_once words (codes "drive") (codes "bench") behind (number ∷ []) refl drives benches

pub serve_or_bench : (words : List (List ℕ)) → IsServeWords words → ¬ IsBenchWords words
serve_or_bench words (count, networks, (number, rest, serves, is, are)) (rounds, (other, benches, also)) =
    begin_once words (codes "serve") (codes "bench") (number ∷ rest) (other ∷ []) refl serves benches

pub bench_or_stream : (words : List (List ℕ)) → IsBenchWords words → ¬ IsStreamWords words
bench_or_stream words benches (inl merges) = bench_or_word words (codes "merge") refl merges benches
bench_or_stream words benches (inr (inl receives)) = bench_or_word words (codes "receive") refl receives benches
bench_or_stream words benches (inr (inr rules)) = bench_or_word words (codes "rules") refl rules benches

-- the words are not two words that differ
pub one_word : (words : List (List ℕ)) (one other : List ℕ) → bytes_eq one other ≡ false → words ≡ one ∷ [] → words ≡ other ∷ [] → ⊥
one_word words one other differs is also = begin_once words one other [] [] differs is also

-- ---- which command words write

pub are_of_drive : (words : List (List ℕ)) (to : RemoteText) → HasAddress words (Some to) → AreOfDrive words to
are_of_drive words to has = record {
  drives = has.0;
  only = has.1;
  no_serve = drive_or_serve words (to, has.0);
  no_bench = drive_or_bench words (to, has.0);
  no_stream = drive_or_stream words (to, has.0);
}

pub are_of_serve : (words : List (List ℕ)) (count : ℕ) (networks : List NetworkText) → HasServeWords words (Some (count, networks)) → AreOfServe words count networks
are_of_serve words count networks has = record {
  serves = has.0;
  only = has.1;
  no_drive = λ drives. drive_or_serve words drives (count, networks, has.0);
  no_bench = serve_or_bench words (count, networks, has.0);
  no_stream = serve_or_stream words (count, networks, has.0);
}

pub are_of_word : (words : List (List ℕ)) (word : List ℕ) → bytes_eq (codes "drive") word ≡ false → bytes_eq (codes "serve") word ≡ false → bytes_eq (codes "bench") word ≡ false → words ≡ word ∷ []
    → AreOfWord words word
are_of_word words word drive serve bench is = record {
  are = is;
  no_drive = drive_or_word words word drive is;
  no_serve = serve_or_word words word serve is;
  no_bench = bench_or_word words word bench is;
}

pub are_of_bench : (words : List (List ℕ)) (count : ℕ) → HasBenchWords words (Some count) → AreOfBench words count
are_of_bench words count has = record {
  benches = has.0;
  only = has.1;
  no_drive = λ drives. drive_or_bench words drives (count, has.0);
  no_serve = λ serves. serve_or_bench words serves (count, has.0);
  no_stream = bench_or_stream words (count, has.0);
}

pub are_none : (words : List (List ℕ)) → ¬ IsMergeWords words → ¬ IsReceiveWords words → ¬ IsRulesWords words → HasAddress words None → HasServeWords words None → HasBenchWords words None → ¬ IsForm words
are_none words no_merge no_receive no_rules no_drive no_serve no_bench (inl (to, drives)) = no_drive to drives
are_none words no_merge no_receive no_rules no_drive no_serve no_bench (inr (inl (count, networks, serves))) = no_serve count networks serves
are_none words no_merge no_receive no_rules no_drive no_serve no_bench (inr (inr (inl (count, benches)))) = no_bench count benches
are_none words no_merge no_receive no_rules no_drive no_serve no_bench (inr (inr (inr (inl merges)))) = no_merge merges
are_none words no_merge no_receive no_rules no_drive no_serve no_bench (inr (inr (inr (inr (inl receives))))) = no_receive receives
are_none words no_merge no_receive no_rules no_drive no_serve no_bench (inr (inr (inr (inr (inr rules))))) = no_rules rules

-- ---- the words of the command `bench`

rest_of : List (List ℕ) → List (List ℕ)
rest_of [] = []
rest_of (word ∷ words) = words

pub no_bench_words : (words : List (List ℕ)) → length words ≢ 2 → HasBenchWords words None
no_bench_words words other count (number, same, is) =
    other (ap length same)

pub no_bench_command : (word : List ℕ) (words : List (List ℕ)) → ¬ (word ≡ codes "bench") → HasBenchWords (word ∷ words) None
unfolding first_of
no_bench_command word words differs count (number, same, is) = differs (ap first_of same)

second_is : (word text number : List ℕ) → word ∷ text ∷ [] ≡ codes "bench" ∷ number ∷ [] → text ≡ number
unfolding first_of rest_of
second_is word text number same = ap (λ ws. first_of (rest_of ws)) same

pub no_rounds : (word text : List ℕ) → ((count : ℕ) → ¬ (IsRounds text count)) → HasBenchWords (word ∷ text ∷ []) None
no_rounds word text none count (number, same, is) = none count (subst (λ t. IsRounds t count) (sym (second_is word text number same)) is)

rounds_unique : (text : List ℕ) (one other : ℕ) → IsRounds text one → IsRounds text other → one ≡ other
rounds_unique text one other is also = decimal_injective one other (omega (arith, is.1)) (omega (arith, also.1)) (sym is.2 ∙ also.2)

pub asks_to_bench : (text : List ℕ) (count : ℕ) → IsRounds text count → HasBenchWords (codes "bench" ∷ text ∷ []) (Some count)
asks_to_bench text count is = (
  (text, refl, is),
  λ other (number, same, also). rounds_unique text other count (subst (λ t. IsRounds t other) (sym (second_is (codes "bench") text number same)) also) is,
)

pub rounds_of_count : (text : List ℕ) (count value : ℕ) → IsCount text count → IsRounds text value → value ≡ count
rounds_of_count text count value is also = decimal_injective value count (omega (arith, also.1)) (omega (arith, is.0)) (sym also.2 ∙ is.1)

bench_command : (word : List ℕ) (b : Bool) → b ≡ not (bytes_eq word (codes "bench")) → b ≡ false → word ≡ codes "bench"
bench_command word b is differs = (bytes_eq-Decides word (codes "bench")).0 (by (bytes_eq word (codes "bench")) (sym is ∙ differs))
  where
    by : (t : Bool) → not t ≡ false → IsTrue t
    by true e = refl
    by false e = absurd cc

-- the command and one word behind it
pub words_bench : (words : List (Bor (List ℕ))) (d e : Bor (List ℕ)) (b : Bool) (found : Option ℕ) → 2 ≤ length words → length words < 3
    → b ≡ not (bytes_eq (get_or words 0 d).now (codes "bench")) → b ≡ false → Reads IsRounds (get_or words 1 e).now found → HasBenchWords (texts_of words) found
words_bench [] d e b found some few is same reads = absurd (omega (arith, some))
words_bench (word ∷ []) d e b found some few is same reads = absurd (omega (arith, some))
words_bench (word ∷ text ∷ []) d e b None some few is same none =
    subst (λ c. HasBenchWords (c ∷ text.now ∷ []) None) (sym (bench_command word.now b is same)) (no_rounds (codes "bench") text.now none)
words_bench (word ∷ text ∷ []) d e b (Some count) some few is same writes =
    subst (λ c. HasBenchWords (c ∷ text.now ∷ []) (Some count)) (sym (bench_command word.now b is same)) (asks_to_bench text.now count writes)
words_bench (word ∷ text ∷ more ∷ words) d e b found some few is same reads = absurd (omega (arith, few))
