use Rattle.std.proofs.Common.{◌≡◌, inl, inr, ℕ, List, refl, ap, subst, sym, ◌∙◌}
use Rattle.std.specs.Prelude.{Option, Some, None, codes}
use Rattle.metrics_core.specs.Characters.{line}
use Rattle.dsd_addresses.specs.Remotes.{remote_text}
use Rattle.drive_script.specs.Faults.{fault_text}
use Rattle.drive_script.specs.declared.faults.DriveFault.TheVariants as faults
use Rattle.program_words.specs.Answers.{no_memory, texts_of}
use Rattle.program_words.specs.BenchSaid as bench_said
use Rattle.program_words.specs.Commands.{AreOfBench, AreOfDrive, AreOfServe, AreOfWord, HasCommand, IsForm}
use Rattle.program_words.specs.Serving as serve_said
use Rattle.program_words.specs.declared.command.Command.{Command}
use Rattle.program_words.proofs.BenchEnds as bench
use Rattle.program_words.proofs.DriveEnds as drive
use Rattle.program_words.proofs.ReadingSteps.{unread}
use Rattle.program_words.proofs.RunEnds.{bench_comes, bench_leaves, drive_comes, drive_leaves, memory_comes, merge_comes, none_comes, none_leaves, receive_comes, rules_comes, serve_comes, serve_leaves, stream_leaves}
use Rattle.program_words.proofs.ServeEnds as serve
use Rattle.program_words.proofs.StreamEnds as stream
use Rattle.program_words.proofs.running.run.Goals as goal

-- the command that was read is that of the words
command_is : (words : List (List ℕ)) (read : Option Command) (inner is : Command) → read ≡ Some inner → inner ≡ is → HasCommand words read → HasCommand words (Some is)
command_is words read inner is some same has = subst (λ (o : Option Command). HasCommand words o) (some ∙ ap Some same) has

no_command : (words : List (List ℕ)) (read : Option Command) → read ≡ None → HasCommand words read → ¬ IsForm words
no_command words read none has = subst (λ (o : Option Command). HasCommand words o) none has

-- ---- `drive`

pub returns-in-Ok-Some-Drive-clause-headline : goal.returns-in-Ok-Some-Drive-clause-headline
returns-in-Ok-Some-Drive-clause-headline g c = λ drives ended. c.run_drive.ensures.ends.played (sym c.number.ensures ∙ ended)

pub returns-in-Ok-Some-Drive-clause-drive : goal.returns-in-Ok-Some-Drive-clause-drive
returns-in-Ok-Some-Drive-clause-drive g c = λ to drives.
    let are : AreOfDrive (texts_of c.args.words.now) (remote_text c.in-Ok-Some-Drive.to) = command_is _ _ _ _ c.in-Ok-Some-Drive.field-0-is c.in-Ok-Some-Drive.field-0-0-is c.in-Ok-Some-Drive.ensures in
    drive.drive_end _ to _ _ _ _ _ _ (are.only to drives) c.number.ensures c.run_drive.ensures.ends

pub returns-in-Ok-Some-Drive-clause-streams : goal.returns-in-Ok-Some-Drive-clause-streams
returns-in-Ok-Some-Drive-clause-streams g c =
    let are : AreOfDrive (texts_of c.args.words.now) (remote_text c.in-Ok-Some-Drive.to) = command_is _ _ _ _ c.in-Ok-Some-Drive.field-0-is c.in-Ok-Some-Drive.field-0-0-is c.in-Ok-Some-Drive.ensures in
    stream.no_stream _ _ _ _ _ are.no_stream

pub returns-in-Ok-Some-Drive-clause-statuses : goal.returns-in-Ok-Some-Drive-clause-statuses
returns-in-Ok-Some-Drive-clause-statuses g c =
    let are : AreOfDrive (texts_of c.args.words.now) (remote_text c.in-Ok-Some-Drive.to) = command_is _ _ _ _ c.in-Ok-Some-Drive.field-0-is c.in-Ok-Some-Drive.field-0-0-is c.in-Ok-Some-Drive.ensures in
    drive_comes _ _ _ _ _ are.drives c.number.ensures c.run_drive.ensures.ends.others

pub returns-in-Ok-Some-Drive-clause-others : goal.returns-in-Ok-Some-Drive-clause-others
returns-in-Ok-Some-Drive-clause-others g c =
    let are : AreOfDrive (texts_of c.args.words.now) (remote_text c.in-Ok-Some-Drive.to) = command_is _ _ _ _ c.in-Ok-Some-Drive.field-0-is c.in-Ok-Some-Drive.field-0-0-is c.in-Ok-Some-Drive.ensures in
    drive_leaves _ _ _ _ _ _ _ _ are c.number.ensures c.run_drive.ensures.unsent refl

-- ---- `serve`

pub returns-in-Ok-Some-Serve-clause-serve : goal.returns-in-Ok-Some-Serve-clause-serve
returns-in-Ok-Some-Serve-clause-serve g c = λ count networks serves.
    let are : AreOfServe (texts_of c.args.words.now) c.in-Ok-Some-Serve.count c.in-Ok-Some-Serve.networks.items = command_is _ _ _ _ c.in-Ok-Some-Serve.field-0-is c.in-Ok-Some-Serve.field-0-0-is c.in-Ok-Some-Serve.ensures in
    let same = are.only count networks serves in
    serve.serve_end _ count _ networks _ _ _ _ _ same.0 (same.1 ∙ sym c.deref.ensures.value) c.number-in-Ok-Some-Serve.ensures c.run_serve.ensures.ends

pub returns-in-Ok-Some-Serve-clause-streams : goal.returns-in-Ok-Some-Serve-clause-streams
returns-in-Ok-Some-Serve-clause-streams g c =
    let are : AreOfServe (texts_of c.args.words.now) c.in-Ok-Some-Serve.count c.in-Ok-Some-Serve.networks.items = command_is _ _ _ _ c.in-Ok-Some-Serve.field-0-is c.in-Ok-Some-Serve.field-0-0-is c.in-Ok-Some-Serve.ensures in
    stream.no_stream _ _ _ _ _ are.no_stream

pub returns-in-Ok-Some-Serve-clause-statuses : goal.returns-in-Ok-Some-Serve-clause-statuses
returns-in-Ok-Some-Serve-clause-statuses g c =
    let are : AreOfServe (texts_of c.args.words.now) c.in-Ok-Some-Serve.count c.in-Ok-Some-Serve.networks.items = command_is _ _ _ _ c.in-Ok-Some-Serve.field-0-is c.in-Ok-Some-Serve.field-0-0-is c.in-Ok-Some-Serve.ensures in
    serve_comes _ _ _ _ _ _ are.serves c.number-in-Ok-Some-Serve.ensures c.run_serve.ensures.ends.others

pub returns-in-Ok-Some-Serve-clause-others : goal.returns-in-Ok-Some-Serve-clause-others
returns-in-Ok-Some-Serve-clause-others g c =
    let are : AreOfServe (texts_of c.args.words.now) c.in-Ok-Some-Serve.count c.in-Ok-Some-Serve.networks.items = command_is _ _ _ _ c.in-Ok-Some-Serve.field-0-is c.in-Ok-Some-Serve.field-0-0-is c.in-Ok-Some-Serve.ensures in
    serve_leaves _ _ _ _ _ _ _ _ _ are c.number-in-Ok-Some-Serve.ensures refl refl c.run_serve.ensures.unserved

-- ---- `bench`

pub run_bench-requires-clause-some : goal.run_bench-requires-clause-some
run_bench-requires-clause-some g c κs within =
    let are : AreOfBench (texts_of c.args.words.now) c.in-Ok-Some-Bench.rounds = command_is _ _ _ _ c.in-Ok-Some-Bench.field-0-is c.in-Ok-Some-Bench.field-0-0-is c.in-Ok-Some-Bench.ensures in
    are.benches.2.0

pub run_bench-requires-clause-limit : goal.run_bench-requires-clause-limit
run_bench-requires-clause-limit g c κs within =
    let are : AreOfBench (texts_of c.args.words.now) c.in-Ok-Some-Bench.rounds = command_is _ _ _ _ c.in-Ok-Some-Bench.field-0-is c.in-Ok-Some-Bench.field-0-0-is c.in-Ok-Some-Bench.ensures in
    are.benches.2.1

pub returns-in-Ok-Some-Bench-clause-bench : goal.returns-in-Ok-Some-Bench-clause-bench
returns-in-Ok-Some-Bench-clause-bench g c = λ count benches.
    let are : AreOfBench (texts_of c.args.words.now) c.in-Ok-Some-Bench.rounds = command_is _ _ _ _ c.in-Ok-Some-Bench.field-0-is c.in-Ok-Some-Bench.field-0-0-is c.in-Ok-Some-Bench.ensures in
    bench.bench_end _ count _ _ _ _ (are.only count benches) c.number-in-Ok-Some-Bench.ensures c.run_bench.ensures.ends

pub returns-in-Ok-Some-Bench-clause-streams : goal.returns-in-Ok-Some-Bench-clause-streams
returns-in-Ok-Some-Bench-clause-streams g c =
    let are : AreOfBench (texts_of c.args.words.now) c.in-Ok-Some-Bench.rounds = command_is _ _ _ _ c.in-Ok-Some-Bench.field-0-is c.in-Ok-Some-Bench.field-0-0-is c.in-Ok-Some-Bench.ensures in
    stream.no_stream _ _ _ _ _ are.no_stream

pub returns-in-Ok-Some-Bench-clause-statuses : goal.returns-in-Ok-Some-Bench-clause-statuses
returns-in-Ok-Some-Bench-clause-statuses g c =
    let are : AreOfBench (texts_of c.args.words.now) c.in-Ok-Some-Bench.rounds = command_is _ _ _ _ c.in-Ok-Some-Bench.field-0-is c.in-Ok-Some-Bench.field-0-0-is c.in-Ok-Some-Bench.ensures in
    bench_comes _ _ _ _ _ are.benches c.number-in-Ok-Some-Bench.ensures c.run_bench.ensures.ends.only

pub returns-in-Ok-Some-Bench-clause-others : goal.returns-in-Ok-Some-Bench-clause-others
returns-in-Ok-Some-Bench-clause-others g c =
    let are : AreOfBench (texts_of c.args.words.now) c.in-Ok-Some-Bench.rounds = command_is _ _ _ _ c.in-Ok-Some-Bench.field-0-is c.in-Ok-Some-Bench.field-0-0-is c.in-Ok-Some-Bench.ensures in
    bench_leaves _ _ _ _ _ _ _ are refl refl refl

-- ---- `merge`

pub returns-in-Ok-Some-Merge-clause-streams : goal.returns-in-Ok-Some-Merge-clause-streams
returns-in-Ok-Some-Merge-clause-streams g c =
    let of : AreOfWord (texts_of c.args.words.now) (codes "merge") = command_is _ _ _ _ c.in-Ok-Some-Merge.field-0-is c.in-Ok-Some-Merge.field-0-0-is c.in-Ok-Some-Merge.ensures in
    stream.merge_ends _ _ _ _ _ _ of c.number-in-Ok-Some-Merge.ensures c.run_merge.ensures.ends

pub returns-in-Ok-Some-Merge-clause-statuses : goal.returns-in-Ok-Some-Merge-clause-statuses
returns-in-Ok-Some-Merge-clause-statuses g c =
    let of : AreOfWord (texts_of c.args.words.now) (codes "merge") = command_is _ _ _ _ c.in-Ok-Some-Merge.field-0-is c.in-Ok-Some-Merge.field-0-0-is c.in-Ok-Some-Merge.ensures in
    merge_comes _ _ _ _ of.are c.number-in-Ok-Some-Merge.ensures c.run_merge.ensures.ends.others

pub returns-in-Ok-Some-Merge-clause-others : goal.returns-in-Ok-Some-Merge-clause-others
returns-in-Ok-Some-Merge-clause-others g c =
    let of : AreOfWord (texts_of c.args.words.now) (codes "merge") = command_is _ _ _ _ c.in-Ok-Some-Merge.field-0-is c.in-Ok-Some-Merge.field-0-0-is c.in-Ok-Some-Merge.ensures in
    stream_leaves _ _ _ _ _ _ _ of (inl of.are) refl refl

-- ---- `receive`

pub returns-in-Ok-Some-Receive-clause-streams : goal.returns-in-Ok-Some-Receive-clause-streams
returns-in-Ok-Some-Receive-clause-streams g c =
    let of : AreOfWord (texts_of c.args.words.now) (codes "receive") = command_is _ _ _ _ c.in-Ok-Some-Receive.field-0-is c.in-Ok-Some-Receive.field-0-0-is c.in-Ok-Some-Receive.ensures in
    stream.receive_ends _ _ _ _ _ _ of c.number-in-Ok-Some-Receive.ensures c.run_receive.ensures.ends

pub returns-in-Ok-Some-Receive-clause-statuses : goal.returns-in-Ok-Some-Receive-clause-statuses
returns-in-Ok-Some-Receive-clause-statuses g c =
    let of : AreOfWord (texts_of c.args.words.now) (codes "receive") = command_is _ _ _ _ c.in-Ok-Some-Receive.field-0-is c.in-Ok-Some-Receive.field-0-0-is c.in-Ok-Some-Receive.ensures in
    receive_comes _ _ _ _ of.are c.number-in-Ok-Some-Receive.ensures c.run_receive.ensures.ends.others

pub returns-in-Ok-Some-Receive-clause-others : goal.returns-in-Ok-Some-Receive-clause-others
returns-in-Ok-Some-Receive-clause-others g c =
    let of : AreOfWord (texts_of c.args.words.now) (codes "receive") = command_is _ _ _ _ c.in-Ok-Some-Receive.field-0-is c.in-Ok-Some-Receive.field-0-0-is c.in-Ok-Some-Receive.ensures in
    stream_leaves _ _ _ _ _ _ _ of (inr (inl of.are)) refl refl

-- ---- `rules`

pub returns-in-Ok-Some-Rules-clause-streams : goal.returns-in-Ok-Some-Rules-clause-streams
returns-in-Ok-Some-Rules-clause-streams g c =
    let of : AreOfWord (texts_of c.args.words.now) (codes "rules") = command_is _ _ _ _ c.in-Ok-Some-Rules.field-0-is c.in-Ok-Some-Rules.field-0-0-is c.in-Ok-Some-Rules.ensures in
    stream.rules_ends _ _ _ _ _ _ of c.number-in-Ok-Some-Rules.ensures c.run_rules.ensures.ends

pub returns-in-Ok-Some-Rules-clause-statuses : goal.returns-in-Ok-Some-Rules-clause-statuses
returns-in-Ok-Some-Rules-clause-statuses g c =
    let of : AreOfWord (texts_of c.args.words.now) (codes "rules") = command_is _ _ _ _ c.in-Ok-Some-Rules.field-0-is c.in-Ok-Some-Rules.field-0-0-is c.in-Ok-Some-Rules.ensures in
    rules_comes _ _ _ _ of.are c.number-in-Ok-Some-Rules.ensures c.run_rules.ensures.ends.others

pub returns-in-Ok-Some-Rules-clause-others : goal.returns-in-Ok-Some-Rules-clause-others
returns-in-Ok-Some-Rules-clause-others g c =
    let of : AreOfWord (texts_of c.args.words.now) (codes "rules") = command_is _ _ _ _ c.in-Ok-Some-Rules.field-0-is c.in-Ok-Some-Rules.field-0-0-is c.in-Ok-Some-Rules.ensures in
    stream_leaves _ _ _ _ _ _ _ of (inr (inr of.are)) refl refl

-- ---- no form

pub returns-in-Ok-None-clause-headline : goal.returns-in-Ok-None-clause-headline
returns-in-Ok-None-clause-headline g c = λ drives ended. absurd (no_command _ _ c.in-Ok-None.field-0-is c.in-Ok-None.ensures (inl drives))

pub returns-in-Ok-None-clause-drive : goal.returns-in-Ok-None-clause-drive
returns-in-Ok-None-clause-drive g c = λ to drives. absurd (no_command _ _ c.in-Ok-None.field-0-is c.in-Ok-None.ensures (inl (to, drives)))

pub returns-in-Ok-None-clause-serve : goal.returns-in-Ok-None-clause-serve
returns-in-Ok-None-clause-serve g c = λ count networks serves. absurd (no_command _ _ c.in-Ok-None.field-0-is c.in-Ok-None.ensures (inr (inl (count, networks, serves))))

pub returns-in-Ok-None-clause-bench : goal.returns-in-Ok-None-clause-bench
returns-in-Ok-None-clause-bench g c = λ count benches. absurd (no_command _ _ c.in-Ok-None.field-0-is c.in-Ok-None.ensures (inr (inr (inl (count, benches)))))

pub returns-in-Ok-None-clause-statuses : goal.returns-in-Ok-None-clause-statuses
returns-in-Ok-None-clause-statuses g c = none_comes _ _ _ (no_command _ _ c.in-Ok-None.field-0-is c.in-Ok-None.ensures) c.number-in-Ok-None.ensures c.say_usage.ensures.said

pub returns-in-Ok-None-clause-others : goal.returns-in-Ok-None-clause-others
returns-in-Ok-None-clause-others g c = none_leaves _ _ _ _ _ _ refl refl refl refl

pub returns-in-Ok-None-clause-streams : goal.returns-in-Ok-None-clause-streams
returns-in-Ok-None-clause-streams g c = stream.no_stream _ _ _ _ _ (λ streams. no_command _ _ c.in-Ok-None.field-0-is c.in-Ok-None.ensures (inr (inr (inr streams))))

-- ---- want of memory

pub returns-in-Err-clause-drive : goal.returns-in-Err-clause-drive
returns-in-Err-clause-drive g c = λ to drives. drive.drive_end to to _ _ _ _ 8 _ refl c.number-in-Err.ensures (drive.unread_ends to _ _ _ _ refl refl refl refl
    (record { text = line (fault_text faults.Memory); meant = no_memory; written = c.say_fault.ensures.said }))

pub returns-in-Err-clause-serve : goal.returns-in-Err-clause-serve
returns-in-Err-clause-serve g c = λ count networks serves. serve.serve_end count count networks networks _ _ _ 8 _ refl refl c.number-in-Err.ensures (serve.memory_ends count networks _ _ _ refl refl
    (record { text = line (fault_text faults.Memory); meant = serve_said.no_memory; written = c.say_fault.ensures.said }))

pub returns-in-Err-clause-bench : goal.returns-in-Err-clause-bench
returns-in-Err-clause-bench g c = λ count benches. bench.bench_end count count _ _ 8 _ refl c.number-in-Err.ensures (bench.unread_ends count _ _ refl
    (record { text = line (fault_text faults.Memory); meant = bench_said.no_memory; written = c.say_fault.ensures.said }))

pub returns-in-Err-clause-statuses : goal.returns-in-Err-clause-statuses
returns-in-Err-clause-statuses g c = memory_comes _ _ _ c.number-in-Err.ensures c.say_fault.ensures.said

pub returns-in-Err-clause-others : goal.returns-in-Err-clause-others
returns-in-Err-clause-others g c = none_leaves _ _ _ _ _ _ refl refl refl refl

pub returns-in-Err-clause-streams : goal.returns-in-Err-clause-streams
returns-in-Err-clause-streams g c = stream.memory_ends _ _ _ _ _ c.number-in-Err.ensures refl (unread (g.S.Source.left c.args.source.now)) c.say_fault.ensures.said
