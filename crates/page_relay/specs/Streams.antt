-- Which bytes are a stream of pages, and which line is the first bad one of bytes that are none (this project's rules,
-- over the page grammar of the Prometheus text exposition format, version 0.0.4).
use Rattle.std.specs.Prelude.{◌≡◌, ℕ, ◌+◌, ◌<◌, ◌≤◌, ◌==◌, List, [], ◌∷◌, ◌++◌, length, take, flat_map, IsUtf8, if◌then◌else◌}
use Rattle.metrics_core.specs.Characters.{newline, line}
use Rattle.prom_format.specs.Pages.{Family, IsPage, AreInRange}

-- a page that can be relayed: bytes that are UTF-8 and a page, whose values are whole numbers of billionths in 128 bits
pub record IsRelayPage (bytes : List ℕ) (families : List Family) : Type 0 where
  pub utf8 : IsUtf8 bytes
  pub page : IsPage bytes families
  pub in_range : AreInRange families

-- a stream: such pages one after the other, none or more
abbrev pub IsStream : List ℕ → List (List Family) → Type 0
IsStream bytes [] = bytes ≡ []
IsStream bytes (page ∷ pages) =
    (first rest : List ℕ) × (bytes ≡ first ++ rest) × IsRelayPage first page × IsStream rest pages

-- some stream begins with these bytes
abbrev pub BeginsStream : List ℕ → Type 0
BeginsStream bytes = (rest : List ℕ) × (pages : List (List Family)) × IsStream (bytes ++ rest) pages

-- a character in front of the first line, if there is one
abbrev pub in_front : ℕ → List (List ℕ) → List (List ℕ)
in_front c [] = []
in_front c (first ∷ lines) = (c ∷ first) ∷ lines

-- the lines that a newline ends, each without it; what stands behind the last newline is none of them
abbrev pub ended_lines : List ℕ → List (List ℕ)
ended_lines [] = []
ended_lines (c ∷ bytes) = if c == newline then [] ∷ ended_lines bytes else in_front c (ended_lines bytes)

-- the first line, without its newline, and what stands behind that
abbrev pub IsSplit : List ℕ → List ℕ → List ℕ → Type 0
IsSplit bytes first rest = (bytes ≡ line first ++ rest) × (ended_lines bytes ≡ first ∷ ended_lines rest)

-- the first l lines, newlines included
abbrev pub first_lines : ℕ → List ℕ → List ℕ
first_lines l bytes = flat_map line (take l (ended_lines bytes))

-- Line l, from 1, is the first bad one of bytes that are no stream: no stream begins with the first l lines, and with
-- any fewer some stream begins. Where some stream begins with all lines, it is the number of newlines plus one.
pub record IsFirstBadLine (bytes : List ℕ) (l : ℕ) : Type 0 where
  pub no_stream : (pages : List (List Family)) → ¬ IsStream bytes pages
  pub is_line : (1 ≤ l) × (l ≤ length (ended_lines bytes) + 1)
  pub bad : l ≤ length (ended_lines bytes) → ¬ BeginsStream (first_lines l bytes)
  pub first : (k : ℕ) → k < l → BeginsStream (first_lines k bytes)
