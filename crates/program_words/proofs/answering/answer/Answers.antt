use Rattle.std.proofs.Common.{inl, inr, refl, subst, sym}
use Rattle.program_words.specs.Devices.{SinkRun, sink_run}
use Rattle.program_words.specs.Statuses.{status_number}
use Rattle.program_words.specs.Words.{IsTold}
use Rattle.program_words.proofs.Asking.{asked_once, no_form}
use Rattle.program_words.proofs.StreamEnds.{no_stream}
use Rattle.program_words.proofs.answering.answer.Goals as goal

-- ---- a text was asked for

pub returns-in-Some-clause-told : goal.returns-in-Some-clause-told
returns-in-Some-clause-told g c = λ text asks.
    let out : SinkRun = sink_run g.K.Sink.written g.K.Sink.faults c.args.out.now c.tell.new.out in
    let err : SinkRun = sink_run g.E.Sink.written g.E.Sink.faults c.args.err.now c.tell.new.err in
    record {
      told = subst (λ n. IsTold text out err n) (sym c.number.ensures) (subst (λ t. IsTold t out err (status_number c.tell.result)) (asked_once _ _ text c.in-Some.ensures asks) c.tell.ensures);
      untouched = (refl, refl, refl);
    }

pub returns-in-Some-clause-headline : goal.returns-in-Some-clause-headline
returns-in-Some-clause-headline g c = λ drives ended. absurd (no_form _ _ c.in-Some.ensures (inl drives))

pub returns-in-Some-clause-drive : goal.returns-in-Some-clause-drive
returns-in-Some-clause-drive g c = λ to drives. absurd (no_form _ _ c.in-Some.ensures (inl (to, drives)))

pub returns-in-Some-clause-serve : goal.returns-in-Some-clause-serve
returns-in-Some-clause-serve g c = λ count networks serves. absurd (no_form _ _ c.in-Some.ensures (inr (inl (count, networks, serves))))

pub returns-in-Some-clause-bench : goal.returns-in-Some-clause-bench
returns-in-Some-clause-bench g c = λ count benches. absurd (no_form _ _ c.in-Some.ensures (inr (inr (inl (count, benches)))))

pub returns-in-Some-clause-streams : goal.returns-in-Some-clause-streams
returns-in-Some-clause-streams g c = no_stream _ _ _ _ _ (λ streams. no_form _ _ c.in-Some.ensures (inr (inr (inr streams))))

pub returns-in-Some-clause-all : goal.returns-in-Some-clause-all
returns-in-Some-clause-all g c = λ none. absurd (none _ c.in-Some.ensures)

-- ---- no text was

pub returns-in-None-clause-told : goal.returns-in-None-clause-told
returns-in-None-clause-told g c = λ text asks. absurd (c.in-None.ensures text asks)

pub returns-in-None-clause-headline : goal.returns-in-None-clause-headline
returns-in-None-clause-headline g c = c.run.ensures.headline

pub returns-in-None-clause-drive : goal.returns-in-None-clause-drive
returns-in-None-clause-drive g c = c.run.ensures.drive

pub returns-in-None-clause-serve : goal.returns-in-None-clause-serve
returns-in-None-clause-serve g c = c.run.ensures.serve

pub returns-in-None-clause-bench : goal.returns-in-None-clause-bench
returns-in-None-clause-bench g c = c.run.ensures.bench

pub returns-in-None-clause-streams : goal.returns-in-None-clause-streams
returns-in-None-clause-streams g c = c.run.ensures.streams

pub returns-in-None-clause-all : goal.returns-in-None-clause-all
returns-in-None-clause-all g c = λ none. record { statuses = c.run.ensures.statuses; others = c.run.ensures.others }
