-- The texts that the program tells of itself (this project's rule).
use Rattle.std.specs.Prelude.{ℕ, List, [], ◌∷◌, codes, flat_map}
use Rattle.metrics_core.specs.Characters.{line}

abbrev pub version_text : List ℕ
version_text = line (codes "metrics_drive 0.3.0")

abbrev pub help_lines : List (List ℕ)
help_lines =
    codes "metrics_drive plays scripts of counters, gauges and histograms: it writes their Prometheus pages and sends their DogStatsD payloads." ∷
    codes "" ∷
    codes "usage: drive [ADDRESS] | serve COUNT [NETWORK ..] | bench N | merge | receive | rules" ∷
    codes "" ∷
    codes "  drive [ADDRESS]           play a script: a page for each round, and payloads to IP:PORT, udp://IP:PORT or unix://PATH (127.0.0.1:8125 over UDP)" ∷
    codes "  serve COUNT [NETWORK ..]  play a script, and serve its last page at http://127.0.0.1:9000/ to COUNT connections, in the networks alone where some are given" ∷
    codes "  bench N                   play N rounds of a generated script, from 1 to 10000, and write the last page" ∷
    codes "  merge                     make one page of pages that stand one after the other" ∷
    codes "  receive                   make one page of DogStatsD payloads, each led by its length in four bytes, as on a Unix stream" ∷
    codes "  rules                     read rules and pages, and write which sums are over or under their bounds, and on which page" ∷
    codes "  --help, -h                this text" ∷
    codes "  --version                 the version" ∷
    codes "" ∷
    codes "A script, pages, payloads or rules come on standard input: metrics_drive drive < FILE" ∷
    codes "Pages go to standard output, and a line that says how it ended to standard error." ∷
    codes "" ∷
    codes "status" ∷
    codes "   0  done" ∷
    codes "   2  the words are none of these" ∷
    codes "   3  the script is not valid" ∷
    codes "   4  a setting of the script is refused" ∷
    codes "   5  more than 67108864 bytes came on standard input" ∷
    codes "   6  standard input failed" ∷
    codes "   7  standard output failed" ∷
    codes "   8  memory was refused" ∷
    codes "   9  the page could not be served: no listening at its address, or no connection" ∷
    codes "  10  what should be pages is none" ∷
    codes "  11  the pages don't merge" ∷
    codes "  12  the payloads end within one" ∷
    codes "  13  the rules are none" ∷
    codes "" ∷
    codes "docs/SCRIPT.md says how a script is written." ∷
    []

-- what the program is for, its forms of words, where it reads and writes, its statuses, and where more is said
abbrev pub help_text : List ℕ
help_text = flat_map line help_lines
