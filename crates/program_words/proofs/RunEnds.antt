-- Which words a status comes of, and what they leave alone.
use Rattle.std.proofs.Common.{◌≡◌, ◌≢◌, ℕ, ◌⊎◌, inl, inr, List, refl, sym, subst, arith}
use Rattle.metrics_core.specs.Characters.{line}
use Rattle.net_addresses.specs.Addresses.{NetworkText}
use Rattle.dsd_addresses.specs.Remotes.{RemoteText}
use Rattle.drive_script.specs.Faults.{fault_text}
use Rattle.drive_script.specs.declared.faults.DriveFault.TheVariants as faults
use Rattle.program_words.specs.Answers.{IsDriveTo, IsMergeWords, IsNoDriveStatus, IsReceiveWords, IsRulesWords, IsSaidText, IsUnplayed, usage_text}
use Rattle.program_words.specs.BenchWords.{AreBenchWords}
use Rattle.program_words.specs.Commands.{AreOfBench, AreOfDrive, AreOfServe, AreOfWord, IsForm, IsStreamWords}
use Rattle.program_words.specs.Devices.{SinkRun, SinkFailed}
use Rattle.program_words.specs.Ends as ends
use Rattle.program_words.specs.Ends.{ComesOf, IsUsageEnd, LeavesOthers}
use Rattle.program_words.specs.Serving.{AreServeWords}

-- ---- words that are no form

pub usage_ends : (err : SinkRun) (number : ℕ) → number ≡ 2 → IsSaidText (SinkFailed err) err.written err.written' (line usage_text) → IsUsageEnd err number
usage_ends err number is said = subst (λ n. IsUsageEnd err n) (sym is) (record {
  no_form = inl refl;
  said = record { text = line usage_text; meant = ends.usage; written = said };
})

pub usage_memory : (err : SinkRun) (number : ℕ) → number ≡ 8 → IsSaidText (SinkFailed err) err.written err.written' (line (fault_text faults.Memory)) → IsUsageEnd err number
usage_memory err number is said = subst (λ n. IsUsageEnd err n) (sym is) (record {
  no_form = inr refl;
  said = record { text = line (fault_text faults.Memory); meant = ends.no_memory; written = said };
})

-- ---- which words a status comes of

pub drive_comes : (words : List (List ℕ)) (to : RemoteText) (err : SinkRun) (status number : ℕ) → IsDriveTo words to → number ≡ status → ¬ IsNoDriveStatus status → ComesOf words err number
drive_comes words to err status number drives is others = subst (λ n. ComesOf words err n) (sym is) (record {
  no_form = λ none. absurd (none (inl (to, drives)));
  usage = λ e. absurd (others (inl e));
  bad_script = λ e. inl (to, drives);
  refused_setting = λ e. inl (to, drives);
  too_long = λ e. inl (inl (to, drives));
  read_failed = λ e. inl (inl (to, drives));
  write_failed = λ e. inl (to, drives);
  listener_failed = λ e. absurd (others (inr (inl e)));
  bad_stream = λ e. absurd (others (inr (inr (inl e))));
  conflict = λ e. absurd (others (inr (inr (inr (inl e)))));
  cut_stream = λ e. absurd (others (inr (inr (inr (inr (inl e))))));
  bad_rules = λ e. absurd (others (inr (inr (inr (inr (inr e))))));
})

pub serve_comes : (words : List (List ℕ)) (count : ℕ) (networks : List NetworkText) (err : SinkRun) (status number : ℕ) → AreServeWords words count networks → number ≡ status
    → (status ≢ 2) × (status ≢ 7) × (status ≢ 10) × (status ≢ 11) × (status ≢ 12) × (status ≢ 13) → ComesOf words err number
serve_comes words count networks err status number serves is others = subst (λ n. ComesOf words err n) (sym is) (record {
  no_form = λ none. absurd (none (inr (inl (count, networks, serves))));
  usage = λ e. absurd (others.0 e);
  bad_script = λ e. inr (count, networks, serves);
  refused_setting = λ e. inr (count, networks, serves);
  too_long = λ e. inl (inr (count, networks, serves));
  read_failed = λ e. inl (inr (count, networks, serves));
  write_failed = λ e. absurd (others.1 e);
  listener_failed = λ e. (count, networks, serves);
  bad_stream = λ e. absurd (others.2 e);
  conflict = λ e. absurd (others.3 e);
  cut_stream = λ e. absurd (others.4 e);
  bad_rules = λ e. absurd (others.5 e);
})

pub bench_comes : (words : List (List ℕ)) (count : ℕ) (err : SinkRun) (status number : ℕ) → AreBenchWords words count → number ≡ status → (status ≡ 0) ⊎ ((status ≡ 7) ⊎ (status ≡ 8)) → ComesOf words err number
bench_comes words count err status number benches is only = subst (λ n. ComesOf words err n) (sym is) (record {
  no_form = λ none. absurd (none (inr (inr (inl (count, benches)))));
  usage = λ e. absurd (grind (arith, e, only));
  bad_script = λ e. absurd (grind (arith, e, only));
  refused_setting = λ e. absurd (grind (arith, e, only));
  too_long = λ e. absurd (grind (arith, e, only));
  read_failed = λ e. absurd (grind (arith, e, only));
  write_failed = λ e. inr (inl (count, benches));
  listener_failed = λ e. absurd (grind (arith, e, only));
  bad_stream = λ e. absurd (grind (arith, e, only));
  conflict = λ e. absurd (grind (arith, e, only));
  cut_stream = λ e. absurd (grind (arith, e, only));
  bad_rules = λ e. absurd (grind (arith, e, only));
})

pub merge_comes : (words : List (List ℕ)) (err : SinkRun) (status number : ℕ) → IsMergeWords words → number ≡ status → (status ≢ 2) × (status ≢ 3) × (status ≢ 4) × (status ≢ 9) × (status ≢ 12) × (status ≢ 13) → ComesOf words err number
merge_comes words err status number merges is others = subst (λ n. ComesOf words err n) (sym is) (record {
  no_form = λ none. absurd (none (inr (inr (inr (inl merges)))));
  usage = λ e. absurd (others.0 e);
  bad_script = λ e. absurd (others.1 e);
  refused_setting = λ e. absurd (others.2 e);
  too_long = λ e. inr (inl merges);
  read_failed = λ e. inr (inl merges);
  write_failed = λ e. inr (inr (inl merges));
  listener_failed = λ e. absurd (others.3 e);
  bad_stream = λ e. inl merges;
  conflict = λ e. merges;
  cut_stream = λ e. absurd (others.4 e);
  bad_rules = λ e. absurd (others.5 e);
})

pub receive_comes : (words : List (List ℕ)) (err : SinkRun) (status number : ℕ) → IsReceiveWords words → number ≡ status
    → (status ≢ 2) × (status ≢ 3) × (status ≢ 4) × (status ≢ 9) × (status ≢ 10) × (status ≢ 11) × (status ≢ 13) → ComesOf words err number
receive_comes words err status number receives is others = subst (λ n. ComesOf words err n) (sym is) (record {
  no_form = λ none. absurd (none (inr (inr (inr (inr (inl receives))))));
  usage = λ e. absurd (others.0 e);
  bad_script = λ e. absurd (others.1 e);
  refused_setting = λ e. absurd (others.2 e);
  too_long = λ e. inr (inr (inl receives));
  read_failed = λ e. inr (inr (inl receives));
  write_failed = λ e. inr (inr (inr (inl receives)));
  listener_failed = λ e. absurd (others.3 e);
  bad_stream = λ e. absurd (others.4 e);
  conflict = λ e. absurd (others.5 e);
  cut_stream = λ e. receives;
  bad_rules = λ e. absurd (others.6 e);
})

pub rules_comes : (words : List (List ℕ)) (err : SinkRun) (status number : ℕ) → IsRulesWords words → number ≡ status
    → (status ≢ 2) × (status ≢ 3) × (status ≢ 4) × (status ≢ 9) × (status ≢ 11) × (status ≢ 12) → ComesOf words err number
rules_comes words err status number rules is others = subst (λ n. ComesOf words err n) (sym is) (record {
  no_form = λ none. absurd (none (inr (inr (inr (inr (inr rules))))));
  usage = λ e. absurd (others.0 e);
  bad_script = λ e. absurd (others.1 e);
  refused_setting = λ e. absurd (others.2 e);
  too_long = λ e. inr (inr (inr rules));
  read_failed = λ e. inr (inr (inr rules));
  write_failed = λ e. inr (inr (inr (inr rules)));
  listener_failed = λ e. absurd (others.3 e);
  bad_stream = λ e. inr rules;
  conflict = λ e. absurd (others.4 e);
  cut_stream = λ e. absurd (others.5 e);
  bad_rules = λ e. rules;
})

pub none_comes : (words : List (List ℕ)) (err : SinkRun) (number : ℕ) → ¬ IsForm words → number ≡ 2
    → IsSaidText (SinkFailed err) err.written err.written' (line usage_text) → ComesOf words err number
none_comes words err number none is said = subst (λ n. ComesOf words err n) (sym is) (record {
  no_form = λ form. usage_ends err 2 refl said;
  usage = λ e. none;
  bad_script = λ e. absurd (omega (arith, e));
  refused_setting = λ e. absurd (omega (arith, e));
  too_long = λ e. absurd (omega (arith, e));
  read_failed = λ e. absurd (omega (arith, e));
  write_failed = λ e. absurd (omega (arith, e));
  listener_failed = λ e. absurd (omega (arith, e));
  bad_stream = λ e. absurd (omega (arith, e));
  conflict = λ e. absurd (omega (arith, e));
  cut_stream = λ e. absurd (omega (arith, e));
  bad_rules = λ e. absurd (omega (arith, e));
})

pub memory_comes : (words : List (List ℕ)) (err : SinkRun) (number : ℕ) → number ≡ 8
    → IsSaidText (SinkFailed err) err.written err.written' (line (fault_text faults.Memory)) → ComesOf words err number
memory_comes words err number is said = subst (λ n. ComesOf words err n) (sym is) (record {
  no_form = λ form. usage_memory err 8 refl said;
  usage = λ e. absurd (omega (arith, e));
  bad_script = λ e. absurd (omega (arith, e));
  refused_setting = λ e. absurd (omega (arith, e));
  too_long = λ e. absurd (omega (arith, e));
  read_failed = λ e. absurd (omega (arith, e));
  write_failed = λ e. absurd (omega (arith, e));
  listener_failed = λ e. absurd (omega (arith, e));
  bad_stream = λ e. absurd (omega (arith, e));
  conflict = λ e. absurd (omega (arith, e));
  cut_stream = λ e. absurd (omega (arith, e));
  bad_rules = λ e. absurd (omega (arith, e));
})

-- ---- what they leave alone; each last fact says that a device is as it was

pub drive_leaves : (words : List (List ℕ)) (to : RemoteText) (S K L N : Type 0) (status number : ℕ) → AreOfDrive words to → number ≡ status → (IsUnplayed status → L) → N → LeavesOthers words S K L N number
drive_leaves words to S K L N status number are is unsent unserved = record {
  only_drive_sends = λ no. absurd (no (to, are.drives));
  unsent = λ e. unsent (subst (λ n. IsUnplayed n) is e);
  only_serve_listens = λ no. unserved;
  unserved = λ e. unserved;
  serve_writes_none = λ serves. absurd (are.no_serve serves);
  bench_reads_none = λ benches. absurd (are.no_bench benches);
  no_form_leaves = λ none. absurd (none (inl (to, are.drives)));
}

pub serve_leaves : (words : List (List ℕ)) (count : ℕ) (networks : List NetworkText) (S K L N : Type 0) (status number : ℕ) → AreOfServe words count networks → number ≡ status → K → L → (IsUnplayed status → N)
    → LeavesOthers words S K L N number
serve_leaves words count networks S K L N status number are is unwritten unsent unserved = record {
  only_drive_sends = λ no. unsent;
  unsent = λ e. unsent;
  only_serve_listens = λ no. absurd (no (count, networks, are.serves));
  unserved = λ e. unserved (subst (λ n. IsUnplayed n) is e);
  serve_writes_none = λ serves. unwritten;
  bench_reads_none = λ benches. absurd (are.no_bench benches);
  no_form_leaves = λ none. absurd (none (inr (inl (count, networks, are.serves))));
}

pub bench_leaves : (words : List (List ℕ)) (count : ℕ) (S K L N : Type 0) (number : ℕ) → AreOfBench words count → S → L → N → LeavesOthers words S K L N number
bench_leaves words count S K L N number are unread unsent unserved = record {
  only_drive_sends = λ no. unsent;
  unsent = λ e. unsent;
  only_serve_listens = λ no. unserved;
  unserved = λ e. unserved;
  serve_writes_none = λ serves. absurd (are.no_serve serves);
  bench_reads_none = λ benches. unread;
  no_form_leaves = λ none. absurd (none (inr (inr (inl (count, are.benches)))));
}

pub stream_leaves : (words : List (List ℕ)) (word : List ℕ) (S K L N : Type 0) (number : ℕ) → AreOfWord words word → IsStreamWords words → L → N → LeavesOthers words S K L N number
stream_leaves words word S K L N number are streams unsent unserved = record {
  only_drive_sends = λ no. unsent;
  unsent = λ e. unsent;
  only_serve_listens = λ no. unserved;
  unserved = λ e. unserved;
  serve_writes_none = λ serves. absurd (are.no_serve serves);
  bench_reads_none = λ benches. absurd (are.no_bench benches);
  no_form_leaves = λ none. absurd (none (inr (inr (inr streams))));
}

pub none_leaves : (words : List (List ℕ)) (S K L N : Type 0) (number : ℕ) → S → K → L → N → LeavesOthers words S K L N number
none_leaves words S K L N number unread unwritten unsent unserved = record {
  only_drive_sends = λ no. unsent;
  unsent = λ e. unsent;
  only_serve_listens = λ no. unserved;
  unserved = λ e. unserved;
  serve_writes_none = λ serves. unwritten;
  bench_reads_none = λ benches. unread;
  no_form_leaves = λ none. (unwritten, unread);
}
