use Rattle.std.proofs.Common.{◌≡◌, ◌++◌, map}
use Rattle.std.specs.Map.Iter.{deref_pair}
use Rattle.value_bags.specs.Entries.{with_keys}
use Rattle.evmap_core.proofs.Answering.{AnsweredSoFar}
use Rattle.evmap_core.proofs.reader.answers_at.Given as goal

-- f answered at the entries so far, and these and those to come are all
abbrev pub invariant-loop-key : goal.invariant-loop-key
invariant-loop-key g l =
    goal.F-IsAlwaysCallable g l.f
    × AnsweredSoFar g.K.KeyClone.plain g.W.ShownAs.shows g.F.FnMut l.fn.f l.f (with_keys g.K.KeyClone.plain (map deref_pair l.yielded)) l.answers.items
    × (map deref_pair l.yielded ++ l.key-iterator ≡ l.fn.entries)
