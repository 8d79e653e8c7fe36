use Rattle.shared_recorder.specs.declared.entries.RecorderEntry.TheVariants.{Page}
use Rattle.shared_recorder.specs.Setup.{gone_of}
use Rattle.shared_recorder.proofs.recorder.SharedRecorder.run_upkeep.Given as goal

abbrev pub ghosts-count_page : goal.ghosts-count_page
ghosts-count_page g a = record { call = Page (gone_of a._before.value a._after.now) }
